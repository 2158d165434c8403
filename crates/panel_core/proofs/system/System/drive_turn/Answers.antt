use Rattle.std.proofs.Common.{arith, refl}
use Rattle.hold_calls.specs.Told.{told_in_ring}
use Rattle.panel_parts.specs.Applied.{applied}
use Rattle.panel_core.proofs.PartTurns.{parts_here, place_there, system_after}
use Rattle.panel_parts.proofs.Settings.{applied_latest_first, are_off}
use Rattle.panel_core.proofs.system.System.drive_turn.Goals as goal

pub overflow_sub-place : goal.overflow_sub-place
overflow_sub-place c = c.requires.member.0

pub index_mut-parts-requires : goal.index_mut-parts-requires
index_mut-parts-requires c = let there = place_there c.requires in omega (arith, there)

pub returns-clause-turn : goal.returns-clause-turn
returns-clause-turn c site kept before h run =
    let panel = c.args.panel in
    system_after c.requires h (λ e. cc) (λ e. cc) c.drive_turn.new.self
    (c.drive_turn.ensures site kept (applied site kept before) (told_in_ring site kept (applied site kept before) panel) panel before
    (parts_here c.requires h c.index_mut-parts.result.now c.index_mut-parts.ensures.value) h.tick h.plan.free
    (applied_latest_first site kept before) (are_off site kept before c.args.self.now.settings panel _ h.settings refl))
