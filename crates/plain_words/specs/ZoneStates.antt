-- The states of zones that a panel tells, as the definitions have them.
use Rattle.std.specs.Prelude.{ℕ, Bool, List}
use Rattle.site_types.specs.declared.site.Site.{Site}
use Rattle.site_types.specs.declared.answer.Answer.{Answer}
use Rattle.site_types.specs.declared.retained.Retained.{Retained}
use Rattle.site_types.specs.Done.{Done}
use Rattle.coincidence_rules.specs.Alarm.{is_by_hand, is_in_alarm, is_released}
use Rattle.coincidence_rules.specs.First.{is_first}
use Rattle.plain_words.specs.declared.zone_state.ZoneState.{ZoneState}
use Rattle.plain_words.specs.declared.zone_state.ZoneState.TheVariants.{Alarm, Manual, Released, First}

-- a zone is in a state at a tick
abbrev pub zone_in_state : ZoneState → Site → Retained → List Done → List Answer → ℕ → ℕ → Bool
zone_in_state Alarm site kept done answers zone tick = is_in_alarm site kept done answers zone tick
zone_in_state Manual site kept done answers zone tick = is_by_hand site kept done answers zone tick
zone_in_state Released site kept done answers zone tick = is_released site kept done answers zone tick
zone_in_state First site kept done answers zone tick = is_first site kept done answers zone tick
