-- What is written of a tick in which nobody shows something else and nothing was answered: nothing.
use Rattle.std.proofs.Common.{◌≡◌, ◌∙◌, ℕ, [], List, Option, Bool, false, length, ap, refl, subst, sym}
use Rattle.std.specs.Prelude.{◌||◌, if◌then◌else◌}
use Rattle.site_types.specs.declared.site.Site.{Site}
use Rattle.face_text.specs.declared.answers.Answers.{Answers}
use Rattle.face_text.specs.declared.face.Face.{Face}
use Rattle.panel_core.specs.Changes.{AnswersAsRuled}
use Rattle.panel_edges.specs.Contents.{Grows}
use Rattle.panel_edges.proofs.Growing.{grows_none}
use Rattle.site_run.specs.declared.run.Run.{Run}
use Rattle.site_run.specs.Acting.{HasFaces, TellsTick}
use Rattle.site_run.specs.AlikeFaces.{AllAlike, ShowAlike}
use Rattle.site_run.specs.Pages.{has_answers, page_text, written_text}
use Rattle.site_run.proofs.Closing.{tells_tick}
use Rattle.site_run.proofs.SameFaces.{none_differ, same_lists}

-- panels that are all marked show the same
all_alike : (alike : List Bool) (before after : List Face) → length after ≡ length before → ShowAlike alike before after
    → AllAlike alike (length after) → before ≡ after
all_alike alike before after room same all = same_lists before after (sym room) (λ k less. same k (all k less))

nothing_told : (site : Site) (tick : ℕ) (before after : List Face) (answers : Answers) → before ≡ after → has_answers answers ≡ false
    → written_text site tick before after answers ≡ []
nothing_told site tick before after answers same none =
    ap (λ told. if told || has_answers answers then page_text site tick before after answers else []) (sym (none_differ after before same))
    ∙ ap (λ told. if told then page_text site tick before after answers else []) none

pub tells_nothing : (run : Run) (answers : Answers) (written : Option (List ℕ)) → HasFaces run → AllAlike run.alike (length run.shown.items)
    → AnswersAsRuled run.system answers → has_answers answers ≡ false → TellsTick (Grows written written) run
tells_nothing run answers written h all told_so none =
    let before = run.next.items in
    let after = run.shown.items in
    tells_tick (Grows written written) run run.system.site before after answers told_so (λ site kept past stands. stands.same) refl refl
    (subst (Grows written written)
    (sym (nothing_told run.system.site run.ticks before after answers (all_alike run.alike before after h.room h.alike all) none))
    (grows_none written))
