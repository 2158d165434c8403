-- What a panel makes of its answers at a turn of Hold: what is done in that tick or later changes none of it.
use Rattle.std.proofs.Common.{◌≡◌, ◌≤◌, ◌&&◌, ◌||◌, ◌++◌, not, ℕ, Bool, List, Option, Some, None, slice_get, refl, ◌∙◌, ap, arith}
use Rattle.std.proofs.Math.Path.{fun_ext}
use Rattle.tick_units.specs.declared.task.Task.TheVariants.{Hold}
use Rattle.site_types.specs.declared.point.Point.{Point}
use Rattle.site_types.specs.declared.retained.Retained.{Retained}
use Rattle.site_types.specs.declared.site.Site.{Site}
use Rattle.site_types.specs.declared.word.Word.{Word}
use Rattle.site_types.specs.Done.{Done, PointOff, ZoneOff, in_force}
use Rattle.site_types.proofs.Done.{in_force-later}
use Rattle.site_types.proofs.LaterDone.{AreFrom}
use Rattle.coincidence_rules.specs.Missing.{is_missing}
use Rattle.coincidence_rules.proofs.Later.{by_hand-later, first-later, from_earlier, in_alarm-later, released-later, zones_same}
use Rattle.coincidence_rules.proofs.Seconds.{AreUpTo}
use Rattle.panel_conditions.specs.Answered.{answered_word}
use Rattle.panel_conditions.specs.Missing.{is_off, zone_is_off}
use Rattle.panel_conditions.specs.Points.{points_where}
use Rattle.panel_rules.specs.Answers.{answers}
use Rattle.panel_rules.specs.Counts.{taken_by_hold}
use Rattle.panel_rules.specs.Moments.{Moment, tick_of, latest_turn}
use Rattle.panel_rules.specs.Zones.{held_answers, holds_by_hand, holds_released}
use Rattle.panel_rules.proofs.KeptWords.{latest_by}
use Rattle.panel_rules.proofs.Lags.{stamped_by}
use Rattle.panel_rules.proofs.Places.{take_get}

module _ (site : Site) (kept : Retained) (new old : List Done) (x : ℕ) (from : AreFrom x new) where
  held_by : (panel : ℕ) (m : List Moment) → tick_of m ≤ x → AreUpTo x (held_answers site panel m)
  held_by panel m by k a is = omega (arith, by, stamped_by site panel m k a (take_get (taken_by_hold site panel m) (answers site panel m) k a is).1)

  turn_by : (panel : ℕ) (m : List Moment) → tick_of m ≤ x → latest_turn panel Hold m ≤ x
  turn_by panel m by = let latest = latest_by panel Hold m in omega (arith, by, latest)

  pub released_later : (panel : ℕ) (m : List Moment) → tick_of m ≤ x → (zone : ℕ)
      → holds_released site kept (new ++ old) panel m zone ≡ holds_released site kept old panel m zone
  released_later panel m by zone =
      released-later site kept new old x from (held_answers site panel m) (held_by panel m by) zone (latest_turn panel Hold m) (turn_by panel m by)

  pub by_hand_later : (panel : ℕ) (m : List Moment) → tick_of m ≤ x → (zone : ℕ)
      → holds_by_hand site kept (new ++ old) panel m zone ≡ holds_by_hand site kept old panel m zone
  by_hand_later panel m by zone =
      by_hand-later site kept new old x from (held_answers site panel m) (held_by panel m by) zone (latest_turn panel Hold m) (turn_by panel m by)

  same_word : (tick a b c d e f g h : ℕ) (fault : Bool) → a ≡ b → c ≡ d → e ≡ f → g ≡ h
      → ◌≡◌ {A = Word} (record { stamp = record { 0 = tick }; alarm = a; manual = c; released = e; first = g; fault = fault })
      (record { stamp = record { 0 = tick }; alarm = b; manual = d; released = f; first = h; fault = fault })
  same_word tick a b c d e f g h fault e1 e2 e3 e4 = cc

  -- the word of that turn, where it is given whether it tells a fault
  pub signs_later : (panel : ℕ) (m : List Moment) (fault : Bool) → tick_of m ≤ x
      → answered_word site kept panel (new ++ old) (held_answers site panel m) (tick_of m) fault
      ≡ answered_word site kept panel old (held_answers site panel m) (tick_of m) fault
  signs_later panel m fault by =
      let held = held_answers site panel m in
      let late = held_by panel m by in
      same_word (tick_of m) _ _ _ _ _ _ _ _ fault
      (zones_same site panel _ _ (λ zone. in_alarm-later site kept new old x from held late zone (tick_of m) by))
      (zones_same site panel _ _ (λ zone. by_hand-later site kept new old x from held late zone (tick_of m) by))
      (zones_same site panel _ _ (λ zone. released-later site kept new old x from held late zone (tick_of m) by))
      (zones_same site panel _ _ (λ zone. first-later site kept new old x from held late zone (tick_of m) by))

  zone_off : (o : Option Point) (tick : ℕ) → tick ≤ x → zone_is_off site kept (new ++ old) o tick ≡ zone_is_off site kept old o tick
  zone_off None tick by = refl
  zone_off (Some p) tick by = in_force-later site kept (ZoneOff p.zone) tick new old (from_earlier tick x new by from)

  off_later : (place tick : ℕ) → tick ≤ x → is_off site kept (new ++ old) place tick ≡ is_off site kept old place tick
  off_later place tick by =
      ap (λ b. b || zone_is_off site kept (new ++ old) (slice_get site.points place) tick)
      (in_force-later site kept (PointOff place) tick new old (from_earlier tick x new by from))
      ∙ ap (λ b. in_force site kept (PointOff place) tick old || b) (zone_off (slice_get site.points place) tick by)

  -- the missing points of that turn
  pub missing_later : (panel : ℕ) (m : List Moment) → tick_of m ≤ x
      → points_where site panel (λ place. is_missing (held_answers site panel m) place && not (is_off site kept (new ++ old) place (tick_of m)))
      ≡ points_where site panel (λ place. is_missing (held_answers site panel m) place && not (is_off site kept old place (tick_of m)))
  missing_later panel m by =
      ap (points_where site panel)
      (fun_ext (λ place. ap (λ b. is_missing (held_answers site panel m) place && not b) (off_later place (tick_of m) by)))
