-- Which answers count.
use Rattle.std.specs.Prelude.{Bool, true, false, not, List, ◌&&◌}
use Rattle.site_types.specs.declared.site.Site.{Site}
use Rattle.site_types.specs.declared.answer.Answer.{Answer}
use Rattle.site_types.specs.declared.heard.Heard.{Heard}
use Rattle.site_types.specs.declared.heard.Heard.TheVariants.{Alarm, Silent}
use Rattle.site_types.specs.declared.retained.Retained.{Retained}
use Rattle.site_types.specs.Done.{Done, is_blocked}

abbrev pub is_alarm : Heard → Bool
is_alarm Alarm = true
is_alarm _ = false

abbrev pub is_silent : Heard → Bool
is_silent Silent = true
is_silent _ = false

-- an answer counts where it is an alarm and, by the operations done before its stamp, neither its point nor
-- the point's zone was disabled and the zone was not in test
abbrev pub is_counted : Site → Retained → List Done → Answer → Bool
is_counted site kept done answer =
    is_alarm answer.heard && not (is_blocked site kept done answer.point answer.stamp.0)
