-- What is written when a tick is closed.
use Rattle.std.proofs.Common.{◌≡◌, ◌∙◌, ◌++◌, ℕ, Bool, true, false, List, ◌∷◌, Option, Some, None, refl, sym, ap, subst}
use Rattle.site_types.specs.declared.site.Site.{Site}
use Rattle.site_types.specs.declared.retained.Retained.{Retained}
use Rattle.face_text.specs.declared.answers.Answers.{Answers}
use Rattle.face_text.specs.declared.face.Face.{Face}
use Rattle.panel_core.specs.Changes.{AnswersAsRuled}
use Rattle.panel_core.specs.Stands.{StandsFor as SystemStands}
use Rattle.panel_rules.specs.Moments.{Moment, TickBlock, moments, tick_of}
use Rattle.panel_rules.specs.Timeline.{faces_of}
use Rattle.site_run.specs.declared.run.Run.{Run}
use Rattle.site_run.specs.Acting.{Closes, MakesTick, TellsTick}
use Rattle.site_run.specs.Outside.{Disks, outside_after, outside_before, stored_new, stored_old}
use Rattle.site_run.specs.Pages.{written_text}
use Rattle.site_run.specs.Records.{Block, Progress, ticked, closed, closed_by}
use Rattle.site_run.specs.Stands.{Stands, Stores, Writes, after_close}
use Rattle.run_text.specs.SoFar.{text_so_far, tick_text}
use Rattle.site_run.proofs.Answered.{same_answers}
use Rattle.run_text.proofs.TickTimes.{tick_moments}
use Rattle.site_run.proofs.Cuts.{writes_same}
use Rattle.site_run.proofs.Stood.{has_run, not_open, shut, with_page}

module _ (site : Site) (kept : Retained) (run : Run) (answers : Answers) (told_so : AnswersAsRuled run.system answers) (after : List TickBlock) (h :
    Stands site kept (record { run = after; block = None }) run) where
  -- what is written of a tick is the text of the rules
  text_is : (before : List TickBlock) → run.next.items ≡ faces_of site kept (moments before)
      → written_text site run.ticks run.next.items run.shown.items answers ≡ tick_text site kept (moments before) (moments after)
  text_is before shown_before =
      let number = h.count ∙ sym (tick_moments after) in
      let is = told_so site kept (moments after) h.system in
      ap (λ n. written_text site n run.next.items run.shown.items answers) number
      ∙ ap (λ fs. written_text site (tick_of (moments after)) fs run.shown.items answers) shown_before
      ∙ ap (λ fs. written_text site (tick_of (moments after)) (faces_of site kept (moments before)) fs answers) h.shown
      ∙ ap (λ a. written_text site (tick_of (moments after)) (faces_of site kept (moments before)) (faces_of site kept (moments after)) a) is
      ∙ same_answers site kept (moments before) (moments after) (has_run site kept after None run h).can

-- what was written of a tick is what the text of all ticks has more
abbrev pub Told : (List ℕ → Type 0) → Site → Retained → List TickBlock → List TickBlock → Type 0
Told Wrote site kept before after = (more : List ℕ) × (text_so_far site kept after ≡ text_so_far site kept before ++ more) × Wrote more

-- where a tick was open, one more is closed
pub one_more : (site : Site) (kept : Retained) (run : Run) (ticks : List TickBlock) (o : Option Block) → Stands site kept (record { run = ticks; block = o }) run
    → run.is_open ≡ true → (failed : Bool) → (last : TickBlock) × (closed_by failed o ticks ≡ last ∷ ticks)
one_more site kept run ticks None h open_is failed = not_open (sym open_is ∙ h.open_is)
one_more site kept run ticks (Some block) h open_is failed = (ticked failed block, refl)

-- what was written by the faces at hand and the answers is the text of the rules
pub tells_tick : (Wrote : List ℕ → Type 0) (run : Run) (there : Site) (before after : List Face) (answers : Answers) → AnswersAsRuled run.system answers
    → ((site : Site) (kept : Retained) (past : List Moment) → SystemStands site kept past run.system → there ≡ site)
    → before ≡ run.next.items → after ≡ run.shown.items → Wrote (written_text there run.ticks before after answers) → TellsTick Wrote run
tells_tick Wrote run there before after answers told_so same before_is after_is wrote site kept tick ticks stands shown =
    let all = tick ∷ ticks in
    subst Wrote
    (ap (λ s. written_text s run.ticks before after answers) (same site kept (moments all) stands.system)
    ∙ ap (λ fs. written_text site run.ticks fs after answers) before_is
    ∙ ap (λ fs. written_text site run.ticks run.next.items fs answers) after_is
    ∙ text_is site kept run answers told_so all stands ticks shown) wrote

module _ (disks : Disks) (Wrote : List ℕ → Type 0) (site : Site) (kept : Retained) (old run : Run) (wrote : TellsTick Wrote run) where
  pub told_by : (ticks : List TickBlock) (o : Option Block) → Stands site kept (record { run = ticks; block = o }) old → old.is_open ≡ true
      → (made : MakesTick disks site kept (record { run = ticks; block = o }) old run) → Told Wrote site kept ticks (closed_by made.failed o ticks)
  told_by ticks None h open_is made = not_open (sym open_is ∙ h.open_is)
  told_by ticks (Some block) h open_is made =
      let tick = ticked made.failed block in (
        tick_text site kept (moments ticks) (moments (tick ∷ ticks)),
        refl,
        wrote site kept tick ticks made.stands (made.before ∙ h.shown),
      )

  -- and so the tick was closed
  pub told_more : (W : (ts us : List TickBlock) → Type 0) (p : Progress) (closed_run : Run) → closed_run ≡ record run { page = closed_run.page }
      → Stands site kept p old → old.is_open ≡ true
      → (made : MakesTick disks site kept p old run) → (Told Wrote site kept p.run (closed made.failed p)
      → Stores site kept (stored_old disks old) (stored_new disks run) p.run (closed made.failed p) → W p.run (closed made.failed p))
      → Closes (λ failed. W p.run (closed failed p)) site kept p closed_run
  told_more W p closed_run rest h open_is made make =
      record {
        failed = made.failed;
        stands = subst (Stands site kept (after_close made.failed p)) (sym rest) (with_page site kept (after_close made.failed p) run closed_run.page made.stands);
        wrote = make (told_by p.run p.block h open_is made) made.stores;
      }

-- where no tick is open nothing is closed
pub shut_closes : (disks : Disks) (site : Site) (kept : Retained) (p : Progress) (written : Option (List ℕ)) (run : Run) → disks.new ≡ disks.old
    → Stands site kept p run → run.is_open ≡ false
    → Closes (λ failed. Writes site kept (outside_before disks written run) (outside_after disks written run) p.run (closed failed p)) site kept p run
shut_closes disks site kept p written run same h is =
    let none = shut site kept p run h is in
    record {
      failed = false;
      stands = none.1;
      wrote =
          subst (λ o. Writes site kept (outside_before disks written run) (outside_after disks written run) p.run (closed_by false o p.run)) (sym none.0)
          (writes_same site kept (outside_before disks written run) (outside_after disks written run) p.run refl same refl);
    }
