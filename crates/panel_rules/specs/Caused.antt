-- Which zones are caused: an answer confirmed them, and no floor undid it.
use Rattle.std.specs.Prelude.{◌≡◌, ℕ, ◌≤◌, ◌&&◌, ◌==◌, Bool, true, List}
use Rattle.std.specs.List.{list_any}
use Rattle.site_types.specs.declared.answer.Answer.{Answer}
use Rattle.site_types.specs.declared.retained.Retained.{Retained}
use Rattle.site_types.specs.declared.site.Site.{Site}
use Rattle.site_types.specs.Done.{Done}
use Rattle.coincidence_rules.specs.Confirmed.{confirms}
use Rattle.coincidence_rules.specs.Alarm.{calls, releases}
use Rattle.panel_rules.specs.Moments.{Moment}
use Rattle.panel_rules.specs.Answers.{answers}
use Rattle.panel_rules.specs.Zones.{panel_of_zone}
use Rattle.panel_rules.specs.Due.{NoFloor}

-- among all answers of the zone's panel one of a stamp up to a tick passes a test, and the zone has no floor
-- from that stamp on and before the tick
pub record IsCausedBy (site : Site) (done : List Done) (moments : List Moment) (zone tick : ℕ) (test : Answer
    → Bool) : Type 0 where
  pub stamp : ℕ
  pub past : stamp ≤ tick
  pub given :
      list_any (λ answer. (answer.stamp.0 == stamp) && test answer)
      (answers site (panel_of_zone site zone) moments) ≡ true
  pub floor : NoFloor site done zone stamp tick

-- the zone is caused to be in alarm at a tick, to be in alarm by hand, and to be released
abbrev pub IsCausedAt : Site → Retained → List Done → List Moment → ℕ → ℕ → Type 0
IsCausedAt site kept done moments zone tick =
    IsCausedBy site done moments zone tick
    (confirms site kept done (answers site (panel_of_zone site zone) moments) zone)

abbrev pub IsCausedByHand : Site → Retained → List Done → List Moment → ℕ → ℕ → Type 0
IsCausedByHand site kept done moments zone tick =
    IsCausedBy site done moments zone tick (calls site kept done zone)

abbrev pub IsCausedOut : Site → Retained → List Done → List Moment → ℕ → ℕ → Type 0
IsCausedOut site kept done moments zone tick =
    IsCausedBy site done moments zone tick
    (releases site kept done (answers site (panel_of_zone site zone) moments) zone)
