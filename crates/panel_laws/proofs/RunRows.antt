-- The run in two orders, computed.
use Rattle.std.proofs.Common.{refl}
use Rattle.panel_laws.specs.AlarmExamples.{GoesSlowly}
use Rattle.site_types.specs.Bits.{any_below, mask_of}
use Rattle.coincidence_rules.specs.Places.{zones_where}
use Rattle.loop_poller.specs.Asked.{asked_in}
use Rattle.panel_conditions.specs.Points.{addresses_where, points_where}
use Rattle.panel_rules.specs.Outputs.{outputs_where}
use Rattle.panel_rules.specs.Run.{tells_to}
use Rattle.panel_laws.specs.RunExamples.{ZoneInBothOrders, CountInBothOrders, OutputInBothOrders, BuzzerInBothOrders, ResetInBothOrders}

pub zone_in_both : ZoneInBothOrders
unfolding asked_in
zone_in_both parts = (refl, refl)

pub count_in_both : CountInBothOrders
unfolding asked_in mask_of zones_where
count_in_both parts = (refl, refl)

pub output_in_both : OutputInBothOrders
unfolding asked_in tells_to
output_in_both parts = (refl, refl)

pub buzzer_in_both : BuzzerInBothOrders
unfolding asked_in mask_of zones_where outputs_where addresses_where points_where any_below tells_to
buzzer_in_both parts = (refl, refl)

pub reset_in_both : ResetInBothOrders
unfolding asked_in
reset_in_both parts = (refl, refl)

pub goes_slowly : GoesSlowly
goes_slowly = (refl, refl, refl, refl)
