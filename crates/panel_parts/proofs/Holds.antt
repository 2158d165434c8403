-- What a turn of Hold takes and is told.
use mathlib.Core.Path.{fun_ext}
use Rattle.std.proofs.Common.{◌≡◌, ℕ, ◌+◌, ◌≤◌, List, ◌∷◌, Bool, refl, sym, ◌∙◌, ap, subst, arith}
use Rattle.tick_units.specs.Lane.{LaneState, after_turn}
use Rattle.tick_units.specs.declared.task.Task.TheVariants.{Hold}
use Rattle.site_types.specs.declared.retained.Retained.{Retained}
use Rattle.site_types.specs.declared.site.Site.{Site}
use Rattle.site_types.specs.Bits.{mask_of}
use Rattle.site_types.specs.Done.{Done, AreBy}
use Rattle.site_types.proofs.Masks.{mask_same}
use Rattle.isolators.specs.declared.line_status.LineStatus.{LineStatus}
use Rattle.loop_poller.specs.Asked.{status_on}
use Rattle.site_types.specs.Things.{loop_of}
use Rattle.loop_poller.specs.Calls.{told_broken, told_cable, told_shorted}
use Rattle.coincidence_rules.specs.declared.finding.Finding.{Finding}
use Rattle.panel_conditions.specs.declared.hold.Hold.{Hold as HoldPart}
use Rattle.panel_conditions.specs.declared.outside.Outside.{Outside}
use Rattle.panel_conditions.specs.Stands.{HoldsFor, MayTurn}
use Rattle.supply_monitor.specs.Supply.{shown_mask}
use Rattle.panel_rules.specs.Faults.{outside_with, supply_calls}
use Rattle.panel_rules.specs.Moments.{Moment, Turned, IsRun, tick_of}
use Rattle.panel_rules.proofs.Turns.{turn_lag}
use Rattle.panel_parts.specs.declared.parts.Parts.{Parts}
use Rattle.panel_rules.specs.States.{piece_of}
use Rattle.panel_rules.specs.Reports.{reports}
use Rattle.hold_calls.specs.Lanes.{finding_lane}
use Rattle.hold_calls.specs.Told.{Told}
use Rattle.hold_calls.specs.Turns.{hold_turn, hold_turns, outside_now}
use Rattle.panel_conditions.specs.Changes.{turn_from}
use Rattle.panel_parts.specs.Stands.{AreBefore, PanelStands}
use Rattle.panel_parts.proofs.Applied.{before_by}
use Rattle.panel_rules.proofs.Reports.{cable_told, is_line}
use Rattle.hold_calls.proofs.Steps.{held_findings}
use Rattle.hold_calls.proofs.TurnsMade.{own_turn, turns_tick}
use Rattle.panel_parts.proofs.Panels.{facts_left, outputs_left}

-- what stands besides missing points, part by part
outside_same : (supply broken shorted silent links unconfirmed a b c d : ℕ) → supply ≡ a → broken ≡ b → shorted ≡ c → unconfirmed ≡ d
    → (let one : Outside = record { supply = supply; broken = broken; shorted = shorted; silent = silent; links = links; unconfirmed = unconfirmed } in
    let other : Outside = record { supply = a; broken = b; shorted = c; silent = silent; links = links; unconfirmed = d } in one ≡ other)
outside_same supply broken shorted silent links unconfirmed a b c d e f g h = rw (e, f, g, h) refl

-- what the poller and the supplies tell is what befell the panel
module _ (site : Site) (panel : ℕ) (before : List Moment) where
  -- the state of a loop
  abbrev pub loop_status : ℕ → LineStatus
  loop_status line = status_on (loop_of site panel line) (λ piece. piece_of panel line piece before)

  -- the same by what the poller was told
  abbrev pub status_told : ℕ → LineStatus
  status_told line = status_on (loop_of site panel line) (told_cable (reports site panel before) line)

  told_is : (line : ℕ) → 1 ≤ line → line ≤ 4 → status_told line ≡ loop_status line
  told_is line low high =
      ap (status_on (loop_of site panel line)) (fun_ext (λ piece. cable_told site panel line piece before (is_line line low high)))

  -- one flag of each loop, as a mask
  flags_are : (flag : LineStatus → Bool) → mask_of 4 (λ k. flag (status_told (k + 1))) ≡ mask_of 4 (λ k. flag (loop_status (k + 1)))
  flags_are flag =
      mask_same 4 (λ k. flag (status_told (k + 1))) (λ k. flag (loop_status (k + 1)))
      (λ k small. ap flag (told_is (k + 1) (omega arith) (omega (arith, small))))

  pub outside_is : (supply broken shorted silent links unconfirmed late : ℕ) → supply ≡ shown_mask site.waits (supply_calls panel before)
      → broken ≡ told_broken site panel (reports site panel before) → shorted ≡ told_shorted site panel (reports site panel before)
      → unconfirmed ≡ late
      → (let o : Outside = record { supply = supply; broken = broken; shorted = shorted; silent = silent; links = links; unconfirmed = unconfirmed } in o)
      ≡ outside_with site panel before silent links late
  outside_is supply broken shorted silent links unconfirmed late shown opened shorts waited =
      outside_same supply broken shorted silent links unconfirmed _ _ _ _ shown (opened ∙ flags_are (λ s. s.broken)) (shorts ∙ flags_are (λ s. s.shorted))
      waited

pub after_hold : (site : Site) (kept : Retained) (done : List Done) (told : Told) (panel : ℕ) (before : List Moment) (parts : Parts) (hold : HoldPart) (findings' : LaneState Finding)
    (outside : Outside) (now : ℕ) → PanelStands site kept done told panel before parts → AreBefore (tick_of before) done
    → now ≡ tick_of before → IsRun site.panels (Turned panel Hold ∷ before)
    → outside ≡ outside_now site kept done told panel before → findings' ≡ after_turn parts.findings
    → (HoldsFor site kept panel done (hold_turns site kept done told panel before) parts.hold → MayTurn done (hold_turns site kept done told panel before) now
    → HoldsFor site kept panel done (turn_from now parts.findings outside ∷ hold_turns site kept done told panel before) hold)
    → PanelStands site kept done told panel (Turned panel Hold ∷ before) (record parts { hold = hold; findings = findings' })
after_hold site kept done told panel before parts hold findings' outside now h past tick run is taken held =
    let turns = hold_turns site kept done told panel before in
    let lag = rw run.1 at (turn_lag site.panels panel Hold before h.member tt run.0) in
    let may : MayTurn done turns now =
    record {
      later = (let last = turns_tick site kept done told panel before in omega (arith, last, lag, tick));
      since = subst (λ t. AreBy t done) (sym tick) (before_by (tick_of before) done past);
    } in
    let turn : turn_from now parts.findings outside ≡ hold_turn site kept done told panel before =
    ap (λ t. turn_from t parts.findings outside) tick ∙ ap (λ l. turn_from (tick_of before) l outside) h.findings
    ∙ ap (turn_from (tick_of before) (finding_lane site kept done panel before)) is in
    record {
      member = h.member;
      polls = h.polls;
      answers = h.answers;
      decides = h.decides;
      findings = taken ∙ ap after_turn h.findings ∙ held_findings site kept done panel before;
      holds =
          subst (λ ts. HoldsFor site kept panel done ts hold) (ap (λ t. t ∷ turns) turn ∙ sym (own_turn site kept done told panel before)) (held h.holds may);
      supplies = h.supplies;
      effects = facts_left site kept done told panel before Hold parts.effects (λ e. cc) h.effects;
      drives = outputs_left site kept done told panel before Hold parts.drive (λ e. cc) h.drives;
    }
