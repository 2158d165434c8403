use Rattle.std.proofs.Common.{◌≡◌, ◌+◌, ℕ, [], length}
use Rattle.std.specs.Prelude.{Some, slice_get}
use Rattle.panel_parts.specs.declared.parts.Parts.{Parts}
use Rattle.panel_core.specs.Stands.{StandsInRing}
use Rattle.panel_core.proofs.system.System.open.Given as goal

-- the panels so far stand for the empty history
abbrev pub invariant-loop-before : goal.invariant-loop-before
invariant-loop-before l =
    record {
      count : length l.panels.items ≡ l.before;
      each : (place : ℕ) (parts : Parts) → slice_get l.panels.items place ≡ Some parts → StandsInRing l.site l.kept [] (place + 1) [] parts;
    }
