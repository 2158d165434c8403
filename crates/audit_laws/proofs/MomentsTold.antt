-- A record tells all of a run but the failures of Keep.
use Rattle.std.proofs.Common.{◌≡◌, ℕ, ◌+◌, ◌==◌, ◌&&◌, ◌++◌, Bool, true, false, List, [], ◌∷◌, length, take, if◌then◌else◌, refl, ◌∙◌, ap}
use Rattle.std.specs.Prelude.{min, nat_le, nat_lt}
use Rattle.std.proofs.Math.Path.{fun_ext}
use Rattle.tick_units.specs.declared.seat.Seat.{Seat}
use Rattle.tick_units.specs.declared.task.Task.{Task}
use Rattle.tick_units.specs.declared.task.Task.TheVariants.{Keep, Poll, Decide, Hold, Link}
use Rattle.site_types.specs.declared.answer.Answer.{Answer}
use Rattle.site_types.specs.declared.event.Event.{Event}
use Rattle.site_types.specs.declared.piece_state.PieceState.{PieceState}
use Rattle.site_types.specs.declared.point_state.PointState.{PointState}
use Rattle.site_types.specs.declared.site.Site.{Site}
use Rattle.panel_links.specs.Words.{carries, left_of, right_of}
use Rattle.loop_poller.specs.Asked.{asked_in}
use Rattle.panel_rules.specs.Answers.{answers, asked}
use Rattle.panel_rules.specs.Counts.{answer_count, taken_by_decide, taken_by_hold}
use Rattle.panel_rules.specs.Kept.{kept_at, made_at, newer, taken_over}
use Rattle.panel_rules.specs.Moments.{Moment, Began, Happened, Turned, Kept, TickBlock, and_events, and_turns, is_turn, latest_turn, moments, tick_of}
use Rattle.panel_rules.specs.Moments.{turn_of, up_to}
use Rattle.panel_rules.specs.Operations.{and_request, requests}
use Rattle.panel_rules.specs.States.{is_up, piece_of, state_of, told_link, told_piece, told_point}
use Rattle.panel_rules.specs.Zones.{held_answers}
use Rattle.run_text.specs.Failures.{as_recorded}
use Rattle.audit_laws.specs.RecordedMoments.{RecordsTellRuns, RunsAreRecorded, without_failures}

pub tick_same : (m : List Moment) → tick_of (without_failures m) ≡ tick_of m
tick_same [] = refl
tick_same (Began ∷ before) = ap (λ n. n + 1) (tick_same before)
tick_same (Happened event ∷ before) = tick_same before
tick_same (Turned panel task ∷ before) = tick_same before
tick_same (Kept failed ∷ before) = tick_same before

either : (b : Bool) (one other : List Moment) → (if b then without_failures one else without_failures other) ≡ without_failures (if b then one else other)
either true one other = refl
either false one other = refl

-- ---- the moments of a record

turn_recorded : (failed : Bool) (panel : ℕ) (task : Task) (before : List Moment)
    → turn_of false panel task ∷ without_failures before ≡ without_failures (turn_of failed panel task ∷ before)
turn_recorded failed panel Keep before = refl
turn_recorded failed panel task before = refl

turns_recorded : (failed : Bool) (seats : List Seat) (before : List Moment)
    → and_turns false seats (without_failures before) ≡ without_failures (and_turns failed seats before)
turns_recorded failed [] before = refl
turns_recorded failed (seat ∷ seats) before =
    ap (and_turns false seats) (turn_recorded failed seat.panel seat.task before)
    ∙ turns_recorded failed seats (turn_of failed seat.panel seat.task ∷ before)

events_recorded : (events : List Event) (before : List Moment) → and_events events (without_failures before) ≡ without_failures (and_events events before)
events_recorded [] before = refl
events_recorded (event ∷ events) before = events_recorded events (Happened event ∷ before)

pub moments_recorded : (ticks : List TickBlock) → moments (as_recorded ticks) ≡ without_failures (moments ticks)
moments_recorded [] = refl
moments_recorded (tick ∷ ticks) =
    ap (λ (m : List Moment). and_turns false tick.order (and_events tick.events (Began ∷ m))) (moments_recorded ticks)
    ∙ ap (and_turns false tick.order) (events_recorded tick.events (Began ∷ moments ticks))
    ∙ turns_recorded tick.failed tick.order (and_events tick.events (Began ∷ moments ticks))

up_to_by : (tick now was : ℕ) (here rest : List Moment) (told : List Moment) → now ≡ was → told ≡ without_failures rest
    → (if nat_le now tick then without_failures here else told) ≡ without_failures (if nat_le was tick then here else rest)
up_to_by tick now was here rest told same ih =
    ap (λ n. if nat_le n tick then without_failures here else told) same
    ∙ ap (λ (r : List Moment). if nat_le was tick then without_failures here else r) ih
    ∙ either (nat_le was tick) here rest

pub up_to_same : (tick : ℕ) (m : List Moment) → up_to tick (without_failures m) ≡ without_failures (up_to tick m)
up_to_same tick [] = refl
up_to_same tick (Began ∷ before) =
    up_to_by tick (tick_of (without_failures before) + 1) (tick_of before + 1) (Began ∷ before) (up_to tick before) (up_to tick (without_failures before))
    (ap (λ n. n + 1) (tick_same before)) (up_to_same tick before)
up_to_same tick (Happened event ∷ before) =
    up_to_by tick (tick_of (without_failures before)) (tick_of before) (Happened event ∷ before) (up_to tick before) (up_to tick (without_failures before))
    (tick_same before) (up_to_same tick before)
up_to_same tick (Turned panel task ∷ before) =
    up_to_by tick (tick_of (without_failures before)) (tick_of before) (Turned panel task ∷ before) (up_to tick before) (up_to tick (without_failures before))
    (tick_same before) (up_to_same tick before)
up_to_same tick (Kept failed ∷ before) =
    up_to_by tick (tick_of (without_failures before)) (tick_of before) (Kept failed ∷ before) (up_to tick before) (up_to tick (without_failures before))
    (tick_same before) (up_to_same tick before)

pub records_told : RecordsTellRuns
records_told ticks tick = ap (up_to tick) (moments_recorded ticks) ∙ up_to_same tick (moments ticks)

-- ---- what points, cables and links are at

state_same : (point : ℕ) (m : List Moment) → state_of point (without_failures m) ≡ state_of point m
state_same point [] = refl
state_same point (Began ∷ before) = state_same point before
state_same point (Happened event ∷ before) = ap (told_point point event) (state_same point before)
state_same point (Turned panel task ∷ before) = state_same point before
state_same point (Kept failed ∷ before) = state_same point before

pub piece_same : (panel line piece : ℕ) (m : List Moment) → piece_of panel line piece (without_failures m) ≡ piece_of panel line piece m
piece_same panel line piece [] = refl
piece_same panel line piece (Began ∷ before) = piece_same panel line piece before
piece_same panel line piece (Happened event ∷ before) = ap (told_piece panel line piece event) (piece_same panel line piece before)
piece_same panel line piece (Turned other task ∷ before) = piece_same panel line piece before
piece_same panel line piece (Kept failed ∷ before) = piece_same panel line piece before

pub up_same : (link : ℕ) (m : List Moment) → is_up link (without_failures m) ≡ is_up link m
up_same link [] = refl
up_same link (Began ∷ before) = up_same link before
up_same link (Happened event ∷ before) = ap (told_link link event) (up_same link before)
up_same link (Turned other task ∷ before) = up_same link before
up_same link (Kept failed ∷ before) = up_same link before

-- ---- turns, operations and answers

pub turn_same : (panel : ℕ) (task : Task) (m : List Moment) → latest_turn panel task (without_failures m) ≡ latest_turn panel task m
turn_same panel task [] = refl
turn_same panel task (Began ∷ before) = turn_same panel task before
turn_same panel task (Happened event ∷ before) = turn_same panel task before
turn_same panel task (Turned other_panel other ∷ before) =
    ap (λ n. if is_turn panel task other_panel other then n else latest_turn panel task (without_failures before)) (tick_same before)
    ∙ ap (λ n. if is_turn panel task other_panel other then tick_of before else n) (turn_same panel task before)
turn_same panel task (Kept failed ∷ before) = turn_same panel task before

module _ (site : Site) where
  pub requests_same : (m : List Moment) → requests site (without_failures m) ≡ requests site m
  requests_same [] = refl
  requests_same (Began ∷ before) = requests_same before
  requests_same (Happened event ∷ before) =
      ap (λ n. and_request site n event (requests site (without_failures before))) (tick_same before)
      ∙ ap (and_request site (tick_of before) event) (requests_same before)
  requests_same (Turned panel task ∷ before) = requests_same before
  requests_same (Kept failed ∷ before) = requests_same before

  asked_same : (panel : ℕ) (m : List Moment) → asked site panel (without_failures m) ≡ asked site panel m
  asked_same panel m =
      ap (λ (states : ℕ → PointState). asked_in site panel states (λ line piece. piece_of panel line piece (without_failures m)) (tick_of (without_failures m)))
      (fun_ext (λ point. state_same point m))
      ∙ ap (λ (pieces : ℕ → ℕ → PieceState). asked_in site panel (λ point. state_of point m) pieces (tick_of (without_failures m)))
      (fun_ext (λ line. fun_ext (λ piece. piece_same panel line piece m)))
      ∙ ap (asked_in site panel (λ point. state_of point m) (λ line piece. piece_of panel line piece m)) (tick_same m)

  answers_same : (panel : ℕ) (m : List Moment) → answers site panel (without_failures m) ≡ answers site panel m
  answers_same panel [] = refl
  answers_same panel (Began ∷ before) = answers_same panel before
  answers_same panel (Happened event ∷ before) = answers_same panel before
  answers_same panel (Turned other Poll ∷ before) =
      ap (λ (xs : List Answer). if other == panel then xs ++ asked site panel (without_failures before) else xs) (answers_same panel before)
      ∙ ap (λ (xs : List Answer). if other == panel then answers site panel before ++ xs else answers site panel before) (asked_same panel before)
  answers_same panel (Turned other task ∷ before) = answers_same panel before
  answers_same panel (Kept failed ∷ before) = answers_same panel before

  decided_same : (panel : ℕ) (m : List Moment) → taken_by_decide site panel (without_failures m) ≡ taken_by_decide site panel m
  decided_same panel [] = refl
  decided_same panel (Began ∷ before) = decided_same panel before
  decided_same panel (Happened event ∷ before) = decided_same panel before
  decided_same panel (Turned other Decide ∷ before) =
      ap (λ n. if other == panel then min (n + 32) (answer_count site panel (without_failures before)) else n) (decided_same panel before)
      ∙ ap (λ (xs : List Answer). if other == panel then min (taken_by_decide site panel before + 32) (length xs) else
      taken_by_decide site panel before) (answers_same panel before)
  decided_same panel (Turned other task ∷ before) = decided_same panel before
  decided_same panel (Kept failed ∷ before) = decided_same panel before

  count_same : (panel : ℕ) (m : List Moment) → taken_by_hold site panel (without_failures m) ≡ taken_by_hold site panel m
  count_same panel [] = refl
  count_same panel (Began ∷ before) = count_same panel before
  count_same panel (Happened event ∷ before) = count_same panel before
  count_same panel (Turned other Hold ∷ before) =
      ap (λ n. if other == panel then min (n + 32) (taken_by_decide site panel (without_failures before)) else n) (count_same panel before)
      ∙ ap (λ n. if other == panel then min (taken_by_hold site panel before + 32) n else taken_by_hold site panel before)
      (decided_same panel before)
  count_same panel (Turned other task ∷ before) = count_same panel before
  count_same panel (Kept failed ∷ before) = count_same panel before

  pub taken_same : (panel : ℕ) (m : List Moment) → held_answers site panel (without_failures m) ≡ held_answers site panel m
  taken_same panel m =
      ap (λ n. take n (answers site panel (without_failures m))) (count_same panel m) ∙ ap (take (taken_by_hold site panel m)) (answers_same panel m)

-- ---- words

pub made_same : (panel : ℕ) (m : List Moment) → made_at panel (without_failures m) ≡ without_failures (made_at panel m)
made_same panel [] = refl
made_same panel (Began ∷ before) = made_same panel before
made_same panel (Happened event ∷ before) = made_same panel before
made_same panel (Turned other Hold ∷ before) =
    ap (λ (r : List Moment). if other == panel then Turned other Hold ∷ without_failures before else r) (made_same panel before)
    ∙ either (other == panel) (Turned other Hold ∷ before) (made_at panel before)
made_same panel (Turned other task ∷ before) = made_same panel before
made_same panel (Kept failed ∷ before) = made_same panel before

newer_same : (kept other : List Moment) → newer (without_failures kept) (without_failures other) ≡ without_failures (newer kept other)
newer_same kept other =
    ap (λ n. if nat_lt n (tick_of (without_failures other)) then without_failures other else without_failures kept) (tick_same kept)
    ∙ ap (λ n. if nat_lt (tick_of kept) n then without_failures other else without_failures kept) (tick_same other)
    ∙ either (nat_lt (tick_of kept) (tick_of other)) other kept

over_same : (up carried : Bool) (kept other : List Moment)
    → taken_over up carried (without_failures kept) (without_failures other) ≡ without_failures (taken_over up carried kept other)
over_same up carried kept other =
    ap (λ (r : List Moment). if up && carried then r else without_failures kept) (newer_same kept other) ∙ either (up && carried) (newer kept other) kept

-- what is taken, where the links, the tick and the words are told the same
taken_alike : (up links told_carries carried : Bool) (told held others other : List Moment) → up ≡ links → told_carries ≡ carried
    → told ≡ without_failures held → others ≡ without_failures other → taken_over up told_carries told others ≡ without_failures (taken_over links carried held other)
taken_alike up links told_carries carried told held others other u c t o =
    ap (λ (b : Bool). taken_over b told_carries told others) u ∙ ap (λ (b : Bool). taken_over links b told others) c
    ∙ ap (λ (r : List Moment). taken_over links carried r others) t ∙ ap (taken_over links carried (without_failures held)) o
    ∙ over_same links carried held other

pub kept_same : (panels panel source : ℕ) (m : List Moment)
    → kept_at panels panel source (without_failures m) ≡ without_failures (kept_at panels panel source m)
kept_same panels panel source [] = refl
kept_same panels panel source (Began ∷ before) = kept_same panels panel source before
kept_same panels panel source (Happened event ∷ before) = kept_same panels panel source before
kept_same panels panel source (Turned other Link ∷ before) =
    let carried = carries panels (tick_of before) source in
    let ticks_same : carries panels (tick_of (without_failures before)) source ≡ carried = ap (λ n. carries panels n source) (tick_same before) in
    let own = if panel == source then made_at panel before else kept_at panels panel source before in
    let own_same : (if panel == source then made_at panel (without_failures before) else kept_at panels panel source (without_failures before)) ≡ without_failures own =
    (ap (λ (r : List Moment). if panel == source then r else kept_at panels panel source (without_failures before)) (made_same panel before)
    ∙ ap (λ (r : List Moment). if panel == source then without_failures (made_at panel before) else r) (kept_same panels panel source before))
    ∙ either (panel == source) (made_at panel before) (kept_at panels panel source before) in
    let first = taken_over (is_up (left_of panels panel) before) carried own (kept_at panels (left_of panels panel) source before) in
    let first_same =
    taken_alike _ (is_up (left_of panels panel) before) _ carried _ own _ (kept_at panels (left_of panels panel) source before)
    (up_same (left_of panels panel) before) ticks_same own_same (kept_same panels (left_of panels panel) source before) in
    let second = taken_over (is_up panel before) carried first (kept_at panels (right_of panels panel) source before) in
    let second_same =
    taken_alike _ (is_up panel before) _ carried _ first _ (kept_at panels (right_of panels panel) source before)
    (up_same panel before) ticks_same first_same (kept_same panels (right_of panels panel) source before) in
    ap (λ (r : List Moment). if other == panel then r else kept_at panels panel source (without_failures before)) second_same
    ∙ ap (λ (r : List Moment). if other == panel then without_failures second else r) (kept_same panels panel source before)
    ∙ either (other == panel) second (kept_at panels panel source before)
kept_same panels panel source (Turned other task ∷ before) = kept_same panels panel source before
kept_same panels panel source (Kept failed ∷ before) = kept_same panels panel source before

pub runs_recorded : RunsAreRecorded
runs_recorded site before =
    record {
      tick = tick_same before;
      asked = requests_same site before;
      answers = λ panel. answers_same site panel before;
      taken = λ panel. taken_same site panel before;
      turns = λ panel task. turn_same panel task before;
      made = λ panel. made_same panel before;
      kept = λ panel source. kept_same site.panels panel source before;
    }
