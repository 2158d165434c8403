-- What a panel's Effect, Drive and Hold turns found stays as more is done, in this tick or later, where what is told agrees at the turns
-- that were made.
use Rattle.std.proofs.Common.{◌≡◌, ◌≤◌, ◌==◌, ◌++◌, ℕ, Bool, List, [], ◌∷◌, if◌then◌else◌, ◌∙◌, ap, arith, refl, sym}
use Rattle.tick_units.specs.Lane.{LaneState}
use Rattle.tick_units.specs.declared.task.Task.TheVariants.{Poll, Decide, Supply, Desk, Hold, Link, Effect, Drive, Keep}
use Rattle.site_types.specs.declared.retained.Retained.{Retained}
use Rattle.site_types.specs.declared.site.Site.{Site}
use Rattle.site_types.specs.Done.{Done}
use Rattle.site_types.proofs.LaterDone.{AreFrom}
use Rattle.coincidence_rules.specs.declared.finding.Finding.{Finding}
use Rattle.later_operations.proofs.ByFacts.{delays_by_facts, goes_by_facts, silences_by_facts}
use Rattle.later_operations.proofs.ByOutputs.{on_by_outputs, outside_by_outputs, routing_by_outputs}
use Rattle.later_operations.proofs.Earlier.{Earlier, made_stays}
use Rattle.later_operations.proofs.GoesOn.{goes_later}
use Rattle.output_calls.proofs.LaterDone.{delays_later, silence_later}
use Rattle.output_drive.specs.declared.drive.Drive.{Drive as DrivePart}
use Rattle.output_drive.specs.Stands.{DrivesFor}
use Rattle.output_drive.proofs.Alike.{stands_alike as drives_alike}
use Rattle.panel_conditions.specs.Changes.{turn_from}
use Rattle.panel_effects.specs.declared.effects.Effects.{Effects as EffectsPart}
use Rattle.panel_effects.specs.Masks.{no_facts}
use Rattle.panel_effects.specs.Stands.{HasEffects}
use Rattle.panel_effects.proofs.LatestFacts.{effects_by_facts}
use Rattle.panel_rules.specs.Faults.{outside_at}
use Rattle.panel_rules.specs.Moments.{Moment, Began, Happened, Turned, Kept, IsPast, present, later, tick_of}
use Rattle.panel_rules.specs.Outputs.{goes_on}
use Rattle.panel_rules.proofs.Turns.{tick_rises}
use Rattle.hold_calls.specs.Lanes.{finding_lane}
use Rattle.hold_calls.specs.Told.{Told}
use Rattle.hold_calls.specs.Turns.{hold_turn, hold_turns, outside_now}
use Rattle.panel_parts.specs.Stands.{AgreeBefore}

-- what was before a moment of a history
pub past_tail : (moment : Moment) (past before : List Moment) → IsPast (moment ∷ past) before → IsPast past before
past_tail moment past before present = later moment past present
past_tail moment past before (later next rest h) = later next rest (past_tail moment past rest h)

-- more befell after it
abbrev pub IsBehind : List Moment → List Moment → Type 0
IsBehind before past = (moment : Moment) × IsPast (moment ∷ past) before

pub behind_tail : (before : List Moment) (moment : Moment) (past : List Moment) → IsBehind before (moment ∷ past) → IsBehind before past
behind_tail before moment past q = (moment, past_tail q.0 (moment ∷ past) before q.1)

pub now_behind : (before : List Moment) → Earlier (IsBehind before) before
now_behind [] = tt
now_behind (moment ∷ past) = (moment, present)

-- two agree about less where they agree about more
pub agree_earlier : (moment : Moment) (before : List Moment) (one other : Told) → AgreeBefore (moment ∷ before) one other → AgreeBefore before one other
agree_earlier moment before one other agree = record {
  facts = λ panel at past h. agree.facts panel at past (later moment before h);
  stamps = λ at past h. agree.stamps at past (later moment before h);
  up = λ at past h. agree.up at past (later moment before h);
}

module _ (site : Site) (kept : Retained) (new done : List Done) (one other : Told) (before : List Moment) (agree : AgreeBefore before one other)
    (tick : ℕ) (from : AreFrom tick new) (late : tick_of before ≤ tick) where
  agrees : (panel : ℕ) (past : List Moment) → IsBehind before past → other.facts panel past ≡ one.facts panel past
  agrees panel past q = sym (agree.facts panel q.0 past q.1)

  by_now : (past : List Moment) → IsBehind before past → tick_of past ≤ tick
  by_now past q = let rises = tick_rises past before (past_tail q.0 past before q.1) in omega (arith, rises, late)

  -- the same outputs go on
  goes_same : (output : ℕ) (past : List Moment) → IsBehind before past
      → goes_on site other.facts kept (new ++ done) output past ≡ goes_on site one.facts kept done output past
  goes_same output past q =
      goes_by_facts (IsBehind before) (behind_tail before) site other.facts one.facts agrees kept (new ++ done) output past q
      ∙ goes_later site one.facts kept new done tick from output past (by_now past q)

  pub effects_later : (panel : ℕ) (part : EffectsPart) → HasEffects site one.facts panel before part → HasEffects site other.facts panel before part
  effects_later panel part h =
      effects_by_facts site one.facts other.facts panel before before part
      (made_stays (IsBehind before) (behind_tail before) no_facts panel Effect (other.facts panel) (one.facts panel) (agrees panel) before
      (now_behind before)) h

  pub outputs_later : (panel : ℕ) (part : DrivePart) → DrivesFor site one.facts kept done panel before part
      → DrivesFor site other.facts kept (new ++ done) panel before part
  outputs_later panel part h =
      drives_alike site kept panel one.facts other.facts done (new ++ done) before before part (record {
        silence = sym
            (silences_by_facts (IsBehind before) (behind_tail before) site other.facts one.facts agrees (new ++ done) panel before (now_behind before)
            ∙ silence_later site one.facts new done tick from panel before late);
        delays = sym
            (delays_by_facts (IsBehind before) (behind_tail before) site other.facts one.facts agrees (new ++ done) panel before (now_behind before)
            ∙ delays_later site one.facts new done tick from panel before late);
        routing = sym
            (routing_by_outputs (IsBehind before) (behind_tail before) site other.facts one.facts kept (new ++ done) done goes_same panel before
            (now_behind before));
        on = λ output of. sym
            (on_by_outputs (IsBehind before) (behind_tail before) site other.facts one.facts kept (new ++ done) done goes_same output before
            (now_behind before));
      }) h

  -- what the other parts tell a turn of Hold made now
  outside_by : (stamps : ℕ → ℕ) (up : ℕ → Bool) (panel : ℕ)
      → outside_at site other.facts kept (new ++ done) stamps up panel before ≡ outside_at site one.facts kept done stamps up panel before
  outside_by stamps up panel =
      outside_by_outputs (IsBehind before) (behind_tail before) site other.facts one.facts kept (new ++ done) done goes_same stamps up panel before
      (now_behind before)

  pub outside_later : (panel : ℕ) → one.stamps before ≡ other.stamps before → one.up before ≡ other.up before
      → outside_now site kept done one panel before ≡ outside_now site kept (new ++ done) other panel before
  outside_later panel stamps up =
      ap (λ (heard : ℕ → ℕ). outside_at site one.facts kept done heard (one.up before) panel before) stamps
      ∙ ap (λ (links : ℕ → Bool). outside_at site one.facts kept done (other.stamps before) links panel before) up
      ∙ sym (outside_by (other.stamps before) (other.up before) panel)

-- so Hold made the same turns, where its lane held the same at each
module _ (site : Site) (kept : Retained) (new done : List Done) (one other : Told) (panel tick : ℕ) (from : AreFrom tick new)
    (lanes : (before : List Moment) → tick_of before ≤ tick
    → finding_lane site kept done panel before ≡ finding_lane site kept (new ++ done) panel before) where
  turn_same : (moment : Moment) (before : List Moment) → AgreeBefore (moment ∷ before) one other → tick_of before ≤ tick
      → hold_turn site kept done one panel before ≡ hold_turn site kept (new ++ done) other panel before
  turn_same moment before agree late =
      ap (λ (lane : LaneState Finding). turn_from (tick_of before) lane (outside_now site kept done one panel before)) (lanes before late)
      ∙ ap (turn_from (tick_of before) (finding_lane site kept (new ++ done) panel before))
      (outside_later site kept new done one other before (agree_earlier moment before one other agree) tick from late panel
      (agree.stamps moment before present) (agree.up moment before present))

  pub turns_same : (before : List Moment) → AgreeBefore before one other → tick_of before ≤ tick
      → hold_turns site kept done one panel before ≡ hold_turns site kept (new ++ done) other panel before
  turns_same [] agree late = refl
  turns_same (Began ∷ before) agree late = turns_same before (agree_earlier Began before one other agree) (omega (arith, late))
  turns_same (Happened event ∷ before) agree late = turns_same before (agree_earlier (Happened event) before one other agree) late
  turns_same (Turned at Hold ∷ before) agree late =
      ap (λ ts. if at == panel then hold_turn site kept done one panel before ∷ ts else ts)
      (turns_same before (agree_earlier (Turned at Hold) before one other agree) late)
      ∙ ap (λ t. if at == panel then t ∷ hold_turns site kept (new ++ done) other panel before else hold_turns site kept (new ++ done) other panel before)
      (turn_same (Turned at Hold) before agree late)
  turns_same (Turned at Poll ∷ before) agree late = turns_same before (agree_earlier (Turned at Poll) before one other agree) late
  turns_same (Turned at Decide ∷ before) agree late = turns_same before (agree_earlier (Turned at Decide) before one other agree) late
  turns_same (Turned at Supply ∷ before) agree late = turns_same before (agree_earlier (Turned at Supply) before one other agree) late
  turns_same (Turned at Desk ∷ before) agree late = turns_same before (agree_earlier (Turned at Desk) before one other agree) late
  turns_same (Turned at Link ∷ before) agree late = turns_same before (agree_earlier (Turned at Link) before one other agree) late
  turns_same (Turned at Effect ∷ before) agree late = turns_same before (agree_earlier (Turned at Effect) before one other agree) late
  turns_same (Turned at Drive ∷ before) agree late = turns_same before (agree_earlier (Turned at Drive) before one other agree) late
  turns_same (Turned at Keep ∷ before) agree late = turns_same before (agree_earlier (Turned at Keep) before one other agree) late
  turns_same (Kept failed ∷ before) agree late = turns_same before (agree_earlier (Kept failed) before one other agree) late
