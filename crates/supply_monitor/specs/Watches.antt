-- A supply that needs no look.
use Rattle.std.specs.Prelude.{◌≡◌, false, None}
use Rattle.supply_monitor.specs.declared.watch.Watch.{Watch}

-- a supply that is sound by the latest report, and was by the latest turn
abbrev pub IsSound : Watch → Type 0
IsSound watch = watch ≡ record { bad = false; since = None; shown = false }
