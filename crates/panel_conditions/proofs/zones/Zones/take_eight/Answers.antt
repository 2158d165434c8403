use Rattle.std.proofs.Common.{◌∙◌, ap, subst}
use Rattle.answer_lanes.specs.Blocks.{eight_found}
use Rattle.answer_lanes.specs.Points.{finding_at}
use Rattle.answer_lanes.specs.Runs.{items_of}
use Rattle.panel_conditions.specs.Changes.{ZonesTakeAll}
use Rattle.panel_conditions.specs.Told.{group_run, others_of, own_of}
use Rattle.panel_conditions.proofs.BlockRuns.{zones_then}
use Rattle.panel_conditions.proofs.EightParts.{eight_parts}
use Rattle.panel_conditions.proofs.ZoneRuns.{zones_same}
use Rattle.panel_conditions.proofs.zones.Zones.take_eight.Goals as goal

pub returns : goal.returns
returns c =
    let eight = eight_found c.args.block.now c.args.number in
    let old = c.args.self.now in
    let mid = c.take_run.new.self in
    let last = c.take_run-2.new.self in
    zones_same _ _ old last (eight_parts eight)
    (zones_then (items_of finding_at (group_run (own_of eight))) (items_of finding_at (group_run (others_of eight))) old mid last
    (subst (λ run. ZonesTakeAll (items_of finding_at run) old mid) (c.of_own_zones.ensures ∙ ap (λ e. group_run (own_of e)) c.eight-eight.ensures)
    (record { watches = c.take_run.ensures.watches; settled = c.take_run.ensures.settled; moved = c.take_run.ensures.moved }))
    (subst (λ run. ZonesTakeAll (items_of finding_at run) mid last)
    (c.of_other_zones.ensures ∙ ap (λ e. group_run (others_of e)) c.eight-eight.ensures)
    (record { watches = c.take_run-2.ensures.watches; settled = c.take_run-2.ensures.settled; moved = c.take_run-2.ensures.moved })))
