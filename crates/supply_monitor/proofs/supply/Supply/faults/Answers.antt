use Rattle.std.proofs.Common.{◌≡◌, ◌∙◌, true}
use Rattle.site_types.specs.declared.supply_kind.SupplyKind.TheVariants.{Mains, Standby, Voltage, Charger}
use Rattle.supply_monitor.specs.Supply.{is_shown, kind_at}
use Rattle.supply_monitor.proofs.Four.{mask_of_four, none_of_four}
use Rattle.supply_monitor.proofs.Turns.{sound_hidden}
use Rattle.supply_monitor.proofs.supply.Supply.faults.Goals as goal

pub returns : goal.returns
returns c waits calls stands =
    c.mask_from_8.ensures ∙ mask_of_four _ _ _ _ (λ k. is_shown waits (kind_at k) calls) stands.mains.shown stands.standby.shown stands.voltage.shown
    stands.charger.shown

pub returns-then-self : goal.returns-then-self
returns-then-self c waits calls stands =
    let supply = c.args.self.now in
    let rests : supply.at_rest ≡ true = c.if-self.true in
    none_of_four (λ k. is_shown waits (kind_at k) calls)
    (sound_hidden waits.mains Mains calls supply.mains (supply.sound_mains rests) stands.mains)
    (sound_hidden waits.standby Standby calls supply.standby (supply.sound_standby rests) stands.standby)
    (sound_hidden waits.voltage Voltage calls supply.voltage (supply.sound_voltage rests) stands.voltage)
    (sound_hidden waits.charger Charger calls supply.charger (supply.sound_charger rests) stands.charger)
