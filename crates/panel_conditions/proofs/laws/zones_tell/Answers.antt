use Rattle.coincidence_rules.proofs.ValidWired.{wired_of}
use Rattle.panel_conditions.proofs.Tells.{alarm_tells, hand_tells, release_tells, first_state_tells}
use Rattle.panel_conditions.proofs.laws.zones_tell.Goals as goal

pub returns : goal.returns
returns c = record {
  alarm = λ site kept done answers place tick zone valid is order. alarm_tells site kept done answers place tick zone (wired_of site valid) is order;
  hand = λ site kept done answers place tick zone valid is. hand_tells site kept done answers place tick zone (wired_of site valid) is;
  released = λ site kept done answers place tick zone valid is order. release_tells site kept done answers place tick zone (wired_of site valid) is
      order;
  first = λ site kept done answers place tick zone valid is order. first_state_tells site kept done answers place tick zone (wired_of site valid) is
      order;
}
