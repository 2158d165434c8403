use Rattle.std.proofs.Common.{◌≡◌, true}
use Rattle.site_types.specs.declared.supply_kind.SupplyKind.TheVariants.{Mains, Standby, Voltage, Charger}
use Rattle.supply_monitor.proofs.Turns.{sound_stays}
use Rattle.supply_monitor.proofs.supply.Supply.turn.Goals as goal

pub returns-then-self : goal.returns-then-self
returns-then-self c waits calls stands before =
    let supply = c.args.self.now in
    let rests : supply.at_rest ≡ true = c.if-self.true in
    record {
      kept = stands.kept;
      mains = sound_stays waits.mains c.args.now.0 Mains calls supply.mains (supply.sound_mains rests) stands.mains;
      standby = sound_stays waits.standby c.args.now.0 Standby calls supply.standby (supply.sound_standby rests) stands.standby;
      voltage = sound_stays waits.voltage c.args.now.0 Voltage calls supply.voltage (supply.sound_voltage rests) stands.voltage;
      charger = sound_stays waits.charger c.args.now.0 Charger calls supply.charger (supply.sound_charger rests) stands.charger;
    }
