use Rattle.std.proofs.Common.{◌∙◌, ◌∷◌, List, refl, ap, arith}
use Rattle.tick_units.specs.declared.task.Task.TheVariants.{Hold}
use Rattle.site_types.specs.declared.retained.Retained.{Retained}
use Rattle.site_types.specs.declared.site.Site.{Site}
use Rattle.site_types.specs.Profile.{silent_of}
use Rattle.hold_calls.specs.Told.{told_in_ring}
use Rattle.panel_bridges.proofs.RingStates.{down_same}
use Rattle.panel_rules.specs.Moments.{Moment, Turned, IsRun}
use Rattle.panel_rules.specs.Run.{tells_fault}
use Rattle.panel_parts.specs.Applied.{applied}
use Rattle.panel_parts.proofs.Applied.{applied_past}
use Rattle.panel_core.proofs.PartTurns.{member_here, parts_here, parts_may_turn, place_there, ring_there, system_after}
use Rattle.panel_core.proofs.ShownByHold.{shown_again}
use Rattle.panel_core.proofs.TaskTurns.{silent_told}
use Rattle.panel_core.specs.Stands.{StandsFor, StandsInRing}
use Rattle.panel_core.proofs.system.System.hold_turn.Goals as goal

pub overflow_sub-panel : goal.overflow_sub-panel
overflow_sub-panel c = c.requires.member.0

pub index_mut-parts-requires : goal.index_mut-parts-requires
index_mut-parts-requires c = let there = place_there c.requires in omega (arith, there)

pub silent-silent-requires : goal.silent-silent-requires
silent-silent-requires c = ring_there c.requires

pub links_down-links-requires : goal.links_down-links-requires
links_down-links-requires c = ring_there c.requires

pub hold_turn-requires : goal.hold_turn-requires
hold_turn-requires c = parts_may_turn c.requires c.index_mut-parts.result.now c.index_mut-parts.ensures.value

pub returns : goal.returns
returns c =
    let panel = c.args.panel in
    let made : (site : Site) (kept : Retained) (before : List Moment) → StandsFor site kept before c.args.self.now
    → IsRun site.panels (Turned panel Hold ∷ before)
    → StandsInRing site kept (applied site kept before) panel (Turned panel Hold ∷ before) c.hold_turn.new.self =
    λ site kept before h run. (
    let done = applied site kept before in
    let here = member_here c.requires h in
    let eight = h.valid.forms.panels.1 in
    let limit = c.silent-limit.ensures ∙ ap silent_of c.profile.ensures ∙ ap (λ (s : Site). silent_of s.format) h.same in
    c.hold_turn.ensures.turn site kept done (told_in_ring site kept done panel) panel before
    (parts_here c.requires h c.index_mut-parts.result.now c.index_mut-parts.ensures.value) (applied_past site kept before) h.tick run
    (silent_told site kept done panel before c.silent-silent.result c.args.self.now.tick.0 c.silent-limit.result eight here h.tick limit
    (c.silent-silent.ensures site.panels _ h.ring))
    (c.links_down-links.ensures site.panels _ h.ring ∙ down_same site kept done (tells_fault site kept done) eight panel here before)) in
    record {
      turn = λ site kept before h run. system_after c.requires h (λ e. cc) (λ e. cc) c.hold_turn.new.self (made site kept before h run);
      same = refl;
      again = λ same site kept before h run.
          shown_again site kept panel before _ _ h.valid (member_here c.requires h) run
          (parts_here c.requires h c.index_mut-parts.result.now c.index_mut-parts.ensures.value).holds (made site kept before h run).holds
          (c.hold_turn.ensures.same same);
    }
