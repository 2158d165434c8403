use Rattle.coincidence_rules.proofs.ConfirmedStamps.{in_alarm_where_confirmed as law}
use Rattle.coincidence_rules.proofs.laws.in_alarm_where_confirmed.Goals as goal

pub returns : goal.returns
returns c = law
