use Rattle.std.proofs.Common.{refl, ap, ◌∙◌}
use Rattle.std.proofs.lemmas.List.{get_or-replicate}
use Rattle.site_types.specs.declared.piece_state.PieceState.TheVariants.{Sound}
use Rattle.isolators.specs.Reach.{sound_cable}
use Rattle.site_types.specs.Sections.{section_of_piece}
use Rattle.isolators.proofs.loop_line.LoopLine.new.Goals as goal

pub returns : goal.returns
returns c =
    c.look.ensures c.args.plan.now sound_cable
    (record {
      last = refl;
      begins = λ piece small. c.begins_of.ensures piece small ∙ ap (λ isolators. section_of_piece isolators piece) c.as_slice.ensures;
      pieces = λ piece small. get_or-replicate 256 piece Sound Sound small;
    })
