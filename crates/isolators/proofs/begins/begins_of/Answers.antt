use Rattle.std.proofs.Common.{◌≡◌, refl, sym, ◌∙◌, ap, arith, if◌then◌else◌}
use Rattle.std.proofs.lemmas.Grind.{common_steps}
use Rattle.site_types.specs.Sections.{section_of, section_of_piece}
use Rattle.isolators.proofs.Sections.{section_first, section-next}
use Rattle.isolators.proofs.begins.begins_of.Goals as goal
use Rattle.isolators.proofs.begins.begins_of.Goals.{then-isolates-piece, else-isolates-piece}

pub loop-piece-init : goal.loop-piece-init
loop-piece-init c = record { size = refl; known = λ piece below. absurd (omega arith); place = sym (section_first c.args.isolators.now) }

pub loop-piece-preserved : goal.loop-piece-preserved
loop-piece-preserved c =
    let k = c.loop-piece.piece in
    let isolators = c.args.isolators.now in
    let next = section-next isolators k in
    let known = c.places_of-isolates.ensures k c.loop-piece-test.true in
    let here : c.if-isolates-piece.place ≡ section_of_piece isolators k =
    elim c.if-isolates-piece.branch [
      | then-isolates-piece w ↦ w.place-is ∙ sym (next ∙ ap (λ b. if b then k else section_of isolators k) (sym known ∙ w.if-isolates-piece.true))
      | else-isolates-piece w ↦
          w.place-is ∙ c.loop-piece.invariant.place ∙ sym
          (next ∙ ap (λ b. if b then k else section_of isolators k) (sym known ∙ w.if-isolates-piece.false))
    ] in
    let before = c.loop-piece.invariant.known in
    let size = c.loop-piece.invariant.size in
    record {
      size = grind (arith, common_steps);
      known = λ piece below. grind (arith, common_steps, before piece);
      place = here;
    }
