-- What a monitor keeps of the reports and turns so far.
use Rattle.std.specs.Prelude.{◌≡◌, ℕ, List}
use Rattle.site_types.specs.declared.supply_kind.SupplyKind.{SupplyKind}
use Rattle.site_types.specs.declared.supply_kind.SupplyKind.TheVariants.{Mains, Standby, Voltage, Charger}
use Rattle.site_types.specs.declared.waits.Waits.{Waits}
use Rattle.tick_units.specs.Earliest.{IsFalling, earliest_of}
use Rattle.supply_monitor.specs.declared.watch.Watch.{Watch}
use Rattle.supply_monitor.specs.declared.supply.Supply.{Supply}
use Rattle.supply_monitor.specs.Supply.{Call, is_bad, bad_turns, lasts}

-- what is kept of one supply
pub record Keeps (wait : ℕ) (kind : SupplyKind) (calls : List Call) (watch : Watch) : Type 0 where
  pub bad : watch.bad ≡ is_bad kind calls
  pub since : watch.since ≡ earliest_of (bad_turns kind calls)
  pub shown : watch.shown ≡ lasts wait (bad_turns kind calls)
  pub falling : IsFalling (bad_turns kind calls)

-- a monitor stands for its waits and all that befell it
pub record StandsFor (waits : Waits) (calls : List Call) (supply : Supply) : Type 0 where
  pub kept : supply.waits ≡ waits
  pub mains : Keeps waits.mains Mains calls supply.mains
  pub standby : Keeps waits.standby Standby calls supply.standby
  pub voltage : Keeps waits.voltage Voltage calls supply.voltage
  pub charger : Keeps waits.charger Charger calls supply.charger
