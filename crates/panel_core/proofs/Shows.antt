-- What a panel shows of a zone: it is shown when it is due, and caused when it is shown.
use Rattle.std.proofs.Common.{◌≡◌, ℕ, ◌-◌, List, Some, slice_get, get_or, length, ◌<◌, ◌⊎◌, inl, inr, Bool, true, sym, ◌∙◌, ap, subst, arith}
use Rattle.tick_units.specs.declared.task.Task.TheVariants.{Hold}
use Rattle.site_types.specs.declared.site.Site.{Site}
use Rattle.site_types.specs.declared.zone.Zone.{Zone}
use Rattle.site_types.specs.declared.retained.Retained.{Retained}
use Rattle.site_types.specs.Bits.{has_bit}
use Rattle.site_types.specs.Done.{Done}
use Rattle.site_types.specs.Valid.{IsValid}
use Rattle.site_types.proofs.ValidSites.{zone_at}
use Rattle.coincidence_rules.specs.Alarm.{is_in_alarm}
use Rattle.coincidence_rules.specs.First.{is_first}
use Rattle.coincidence_rules.specs.Places.{zones_where}
use Rattle.coincidence_rules.proofs.Later.{first-later, in_alarm-later, zones_same}
use Rattle.coincidence_rules.proofs.Seconds.{AreUpTo}
use Rattle.coincidence_rules.proofs.ValidWired.{wired_of}
use Rattle.coincidence_rules.proofs.ZoneMasks.{has_bit-zone}
use Rattle.hold_calls.specs.Told.{told_in_ring}
use Rattle.panel_rules.specs.Moments.{Moment, IsRun, IsPanel, HaveAllTurned, latest_turn, tick_of}
use Rattle.panel_rules.specs.Zones.{panel_of, panel_of_zone, held_answers, holds_alarm, holds_first}
use Rattle.panel_rules.specs.Answers.{answers}
use Rattle.panel_rules.specs.Counts.{taken_by_hold}
use Rattle.panel_rules.proofs.Lags.{stamped_by}
use Rattle.panel_rules.proofs.Places.{take_get}
use Rattle.panel_laws.proofs.LaterDone.{Grew, turn_in_time}
use Rattle.panel_rules.specs.Due.{IsDue, LoneSignals}
use Rattle.panel_rules.specs.Caused.{IsCausedAt}
use Rattle.panel_rules.specs.Laws.{IsAfterTick}
use Rattle.panel_rules.proofs.Deadlines.{own_shown, own_caused, lone_shown}
use Rattle.panel_parts.specs.declared.parts.Parts.{Parts}
use Rattle.panel_core.specs.declared.system.System.{System}
use Rattle.panel_core.specs.Stands.{HasPanel, StandsFor, StandsInRing}
use Rattle.site_types.specs.declared.word.Word.{Word}
use Rattle.panel_conditions.specs.Stands.{HoldsFor}
use Rattle.panel_conditions.specs.Turns.{HoldTurn}
use Rattle.panel_conditions.specs.Words.{word_after}
use Rattle.hold_calls.specs.Turns.{ring_turns}
use Rattle.panel_parts.specs.Applied.{applied, done_so_far}
use Rattle.panel_parts.proofs.Applied.{done_after_applied}
use Rattle.panel_core.proofs.Events.{panel_read}
use Rattle.hold_calls.proofs.ZonesHeld.{alarm_shown, first_shown}

module _ (site : Site) (kept : Retained) (done : List Done) (panel : ℕ) (before : List Moment) (valid : IsValid site) (run : IsRun site.panels before) (zone : ℕ) (plan :
    Zone) (is : slice_get site.zones zone ≡ Some plan) (at : plan.panel ≡ panel) where
  home : panel_of_zone site zone ≡ panel
  home = ap panel_of is ∙ at

  member : IsPanel site.panels panel
  member = subst (IsPanel site.panels) at (zone_at site valid zone plan is).panel

  -- the bit of the zone in a mask of the panel's zones
  zone_bit : (test : ℕ → Bool) → has_bit (zones_where site panel test) (plan.number - 1) ≡ test zone
  zone_bit test =
      subst (λ q. has_bit (zones_where site q test) (plan.number - 1) ≡ test zone) at (has_bit-zone site test zone plan (wired_of site valid) is)

  after_tick : HaveAllTurned site.panels before → IsAfterTick site before zone
  after_tick ended = record { valid = valid; run = run; ended = ended; panel = subst (IsPanel site.panels) (sym home) member }

  pub due_shown : (mask : ℕ) → mask ≡ zones_where site panel (λ z. holds_alarm site kept done panel before z) → HaveAllTurned site.panels before
      → IsDue site kept done before zone panel → has_bit mask (plan.number - 1) ≡ true
  due_shown mask e ended due =
      ap (λ m. has_bit m (plan.number - 1)) e ∙ zone_bit (λ z. holds_alarm site kept done panel before z)
      ∙ subst (λ q. holds_alarm site kept done q before zone ≡ true) home
      (own_shown site kept done before zone (after_tick ended) (subst (IsDue site kept done before zone) (sym home) due))

  pub shown_caused : (mask : ℕ) → mask ≡ zones_where site panel (λ z. holds_alarm site kept done panel before z) → has_bit mask (plan.number - 1) ≡ true
      → IsCausedAt site kept done before zone (latest_turn panel Hold before)
  shown_caused mask e h =
      let shown = sym (zone_bit (λ z. holds_alarm site kept done panel before z)) ∙ ap (λ m. has_bit m (plan.number - 1)) (sym e) ∙ h in
      subst (λ q. IsCausedAt site kept done before zone (latest_turn q Hold before)) home
      (own_caused site kept done before zone run (subst (IsPanel site.panels) (sym home) member)
      (subst (λ q. holds_alarm site kept done q before zone ≡ true) (sym home) shown))

  pub lone_first : (mask : ℕ) → mask ≡ zones_where site panel (λ z. holds_first site kept done panel before z) → HaveAllTurned site.panels before
      → LoneSignals site kept done before zone (tick_of before) → (holds_alarm site kept done panel before zone ≡ true)
      ⊎ (has_bit mask (plan.number - 1) ≡ true)
  lone_first mask e ended lone =
      elim (lone_shown site kept done before zone (after_tick ended) lone) [
        | inl a ↦ inl (subst (λ q. holds_alarm site kept done q before zone ≡ true) home a)
        | inr f ↦
            inr (ap (λ m. has_bit m (plan.number - 1)) e ∙ zone_bit (λ z. holds_first site kept done panel before z) ∙ subst
            (λ q. holds_first site kept done q before zone ≡ true) home f)
      ]

-- the panel that a call names, for the history that it asks about
pub asked_member : (site : Site) (kept : Retained) (before : List Moment) (system : System) (panel : ℕ) → HasPanel panel system
    → StandsFor site kept before system → IsPanel site.panels panel
asked_member site kept before system panel has h =
    let m = has.member in
    let one = has.stands.count in
    let two = h.count in
    (m.0, omega (arith, m.1, one, two))

pub asked_panel : (site : Site) (kept : Retained) (before : List Moment) (system : System) (panel : ℕ) (parts : Parts) → HasPanel panel system
    → StandsFor site kept before system → parts ≡ get_or system.panels.items (panel - 1) parts → StandsInRing site kept (applied site kept before) panel before parts
asked_panel site kept before system panel parts has h read =
    panel_read site kept before system panel parts h (asked_member site kept before system panel has h) read

pub place_within : (system : System) (panel : ℕ) → HasPanel panel system → panel - 1 < length system.panels.items
place_within system panel has = let m = has.member in let count = has.stands.count in omega (arith, m.0, m.1, count)

-- what was done in the tick that began last changes nothing of what a panel shows
module _ (site : Site) (kept : Retained) (panel : ℕ) (before : List Moment) (system : System) (h : StandsFor site kept before system) where
  abbrev all_done : List Done
  all_done = done_so_far site kept before

  newer : Grew (applied site kept before) (done_so_far site kept before) (tick_of before)
  newer =
      let unsettled = h.desk.outcomes.unsettled in
      done_after_applied site kept before system.desk.done.items unsettled.older unsettled.done_is unsettled.earlier

  late : AreUpTo (tick_of before) (held_answers site panel before)
  late k a is = stamped_by site panel before k a (take_get (taken_by_hold site panel before) (answers site panel before) k a is).1

  alarm_same : (zone : ℕ) → holds_alarm site kept (applied site kept before) panel before zone ≡ holds_alarm site kept all_done panel before zone
  alarm_same zone =
      sym (ap (λ done. is_in_alarm site kept done (held_answers site panel before) zone (latest_turn panel Hold before)) newer.is
      ∙ in_alarm-later site kept newer.new (applied site kept before) (tick_of before) newer.from (held_answers site panel before) late zone
      (latest_turn panel Hold before) (turn_in_time panel Hold before))

  first_same : (zone : ℕ) → holds_first site kept (applied site kept before) panel before zone ≡ holds_first site kept all_done panel before zone
  first_same zone =
      sym (ap (λ done. is_first site kept done (held_answers site panel before) zone (latest_turn panel Hold before)) newer.is
      ∙ first-later site kept newer.new (applied site kept before) (tick_of before) newer.from (held_answers site panel before) late zone
      (latest_turn panel Hold before) (turn_in_time panel Hold before))

-- what a word of the panel's Hold shows
module _ (site : Site) (kept : Retained) (before : List Moment) (system : System) (panel : ℕ) (parts : Parts) (word : Word) (has :
    HasPanel panel system) (h : StandsFor site kept before system) (read : parts ≡ get_or system.panels.items (panel - 1) parts) (told :
    (done : List Done) (turns : List HoldTurn) → HoldsFor site kept panel done turns parts.hold → word ≡ word_after site kept panel done turns)
    (run : IsRun site.panels before) where
  stands : StandsInRing site kept (applied site kept before) panel before parts
  stands = asked_panel site kept before system panel parts has h read

  pub alarm_of : word.alarm ≡ zones_where site panel (λ zone. holds_alarm site kept (done_so_far site kept before) panel before zone)
  alarm_of =
      ap (λ (w : Word). w.alarm) (told (applied site kept before) (ring_turns site kept (applied site kept before) panel before) stands.holds)
      ∙ alarm_shown site kept (applied site kept before) (told_in_ring site kept (applied site kept before) panel) panel before h.valid run stands.member
      ∙ zones_same site panel _ _ (alarm_same site kept panel before system h)

  pub first_of : word.first ≡ zones_where site panel (λ zone. holds_first site kept (done_so_far site kept before) panel before zone)
  first_of =
      ap (λ (w : Word). w.first) (told (applied site kept before) (ring_turns site kept (applied site kept before) panel before) stands.holds)
      ∙ first_shown site kept (applied site kept before) (told_in_ring site kept (applied site kept before) panel) panel before h.valid run stands.member
      ∙ zones_same site panel _ _ (first_same site kept panel before system h)
