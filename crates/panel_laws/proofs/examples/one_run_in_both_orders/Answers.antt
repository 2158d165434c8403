use Rattle.panel_laws.proofs.RunRows.{zone_in_both, count_in_both, output_in_both, buzzer_in_both, reset_in_both}
use Rattle.panel_laws.proofs.examples.one_run_in_both_orders.Goals as goal

pub returns-clause-zone : goal.returns-clause-zone
returns-clause-zone c = zone_in_both

pub returns-clause-counted : goal.returns-clause-counted
returns-clause-counted c = count_in_both

pub returns-clause-output : goal.returns-clause-output
returns-clause-output c = output_in_both

pub returns-clause-buzzer : goal.returns-clause-buzzer
returns-clause-buzzer c = buzzer_in_both

pub returns-clause-reset : goal.returns-clause-reset
returns-clause-reset c = reset_in_both
