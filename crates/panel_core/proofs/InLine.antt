-- Turns in canonical order: task by task at a panel, and panel by panel.
use Rattle.std.proofs.Common.{◌≡◌, ◌≢◌, ◌∙◌, ◌+◌, ◌*◌, ◌<◌, ◌≤◌, ◌++◌, ℕ, zero, suc, List, [], ◌∷◌, false, Some, map, take, get_or, slice_get}
use Rattle.std.proofs.Common.{◌⊎◌, inl, inr, refl, sym, ap, subst, arith}
use Rattle.std.proofs.Math.Seq.{get_or-append_seam, take-append_seam}
use Rattle.std.proofs.lemmas.Bool.{cases_lt}
use Rattle.std.proofs.lemmas.Option.{slice_get-get_or}
use Rattle.std.specs.List.{AllByRecursion}
use Rattle.tick_units.specs.declared.seat.Seat.{Seat}
use Rattle.tick_units.specs.declared.task.Task.{Task}
use Rattle.tick_units.specs.declared.task.Task.TheVariants.{Keep}
use Rattle.tick_units.specs.Orders.{canonical_seats, keep_seat, panel_seats, panel_tasks, seat_of, seats_of_panels}
use Rattle.tick_units.specs.Ticks.{last_tick}
use Rattle.tick_units.proofs.Canonical.{Contains-canonical_seats, length-canonical_seats, length-seats_of_panels}
use Rattle.site_types.specs.declared.site.Site.{Site}
use Rattle.panel_rules.specs.Moments.{Moment, IsRun, and_turns, turn_of}
use Rattle.panel_rules.specs.Run.{facts_of}
use Rattle.panel_rules.proofs.RecordRuns.{turns-append}
use Rattle.panel_core.specs.declared.system.System.{System}
use Rattle.panel_core.specs.Changes.{AreOfPanels, MakesTurns, MakesTurnsFrom, seats_between}
use Rattle.panel_core.specs.Marks.{AreMarked, MarksTurns}
use Rattle.panel_core.specs.Stands.{MayTurnFrom, MayTurnSeat, MayTurnTasks, StandsFor}
use Rattle.panel_core.specs.StepCounts.{CountsTurn, CountsTurns, RisesOver, facts_in_force}
use Rattle.panel_core.proofs.Orders.{before_turns, turns_tick}
use Rattle.panel_core.proofs.StepsCounted.{applied_over, rises_both}

-- seats had their turns: what they made, what they marked and their steps
pub record HaveTurned (old : System) (earlier : ℕ) (seats : List Seat) (system : System) (later : ℕ) : Type 0 where
  pub turns : MakesTurns old seats system
  pub marks : MarksTurns old seats system.changed
  pub steps : CountsTurns old seats earlier later

pub none_turned : (system : System) (steps : ℕ) → HaveTurned system steps [] system steps
none_turned system steps = record {
  turns = λ site kept before h run. h;
  marks = λ site kept before h run marked. marked;
  steps = λ site kept before h run. refl;
}

-- and more behind them
pub both_turned : (old mid system : System) (xs ys : List Seat) (a b c : ℕ) → HaveTurned old a xs mid b → HaveTurned mid b ys system c
    → HaveTurned old a (xs ++ ys) system c
both_turned old mid system xs ys a b c first second = record {
  turns = λ site kept before h run. (
      let same = turns-append false xs ys before in
      let so_far = and_turns false xs before in
      let all = subst (IsRun site.panels) same run in
      let early = before_turns site.panels false ys so_far all in
      subst (λ moments. StandsFor site kept moments system) (sym same) (second.turns site kept so_far (first.turns site kept before h early) all));
  marks = λ site kept before h run marked. (
      let same = turns-append false xs ys before in
      let so_far = and_turns false xs before in
      let all = subst (IsRun site.panels) same run in
      let early = before_turns site.panels false ys so_far all in
      subst (λ moments. AreMarked site kept moments system.changed) (sym same)
      (second.marks site kept so_far (first.turns site kept before h early) all (first.marks site kept before h early marked)));
  steps = λ site kept before h run. (
      let so_far = and_turns false xs before in
      let all = subst (IsRun site.panels) (turns-append false xs ys before) run in
      let early = before_turns site.panels false ys so_far all in
      let late =
      subst (λ done. RisesOver site (facts_of site kept done) false ys so_far b c) (applied_over site kept false xs before)
      (second.steps site kept so_far (first.turns site kept before h early) all) in
      rises_both site (facts_in_force site kept before) false xs ys before a b c (first.steps site kept before h early) late);
}

-- ---- the tasks of a panel

-- one task more
pub task_turned : {old mid system : System} {xs : List Seat} {a b c : ℕ} (panel : ℕ) (task : Task) → HaveTurned old a xs mid b
    → MakesTurns mid (seat_of panel task ∷ []) system → MarksTurns mid (seat_of panel task ∷ []) system.changed → CountsTurn mid panel task b c
    → HaveTurned old a (xs ++ seat_of panel task ∷ []) system c
task_turned {old} {mid} {system} {xs} {a} {b} {c} panel task first turns marks counts =
    both_turned old mid system xs (seat_of panel task ∷ []) a b c first (record {
      turns = turns;
      marks = marks;
      steps = λ site kept before h run. (c, counts site kept before h, refl);
    })

-- the first of some tasks may have its turn
pub first_task : {panel : ℕ} {tasks : List Task} {system : System} (task : Task) → task ≢ Keep → MayTurnTasks panel (task ∷ tasks) system
    → MayTurnSeat (seat_of panel task) system
first_task {panel} {tasks} task other r = record {
  site = r.site;
  kept = r.kept;
  before = r.before;
  stands = r.stands;
  known = Contains-canonical_seats r.site.panels panel task other r.member.0 r.member.1;
  panels = other;
  run = before_turns r.site.panels false (map (seat_of panel) tasks) (turn_of false panel task ∷ r.before) r.run;
  few = r.few;
}

-- and then the others
pub other_tasks : {panel : ℕ} {tasks : List Task} {system after : System} (task : Task) → MayTurnTasks panel (task ∷ tasks) system
    → MakesTurns system (seat_of panel task ∷ []) after → MayTurnTasks panel tasks after
other_tasks {panel} {tasks} task r turned =
    let now = turn_of false panel task ∷ r.before in
    record {
      site = r.site;
      kept = r.kept;
      before = now;
      stands = turned r.site r.kept r.before r.stands (before_turns r.site.panels false (map (seat_of panel) tasks) now r.run);
      member = r.member;
      run = r.run;
      few = subst (λ tick. tick ≤ last_tick) (sym (turns_tick false (seat_of panel task ∷ []) r.before)) r.few;
    }

-- ---- one panel more

seats_more : (n : ℕ) → seats_of_panels (n + 1) ≡ seats_of_panels n ++ panel_seats (n + 1)
seats_more n =
    let one : suc n ≡ n + 1 = omega arith in
    subst (λ m. seats_of_panels m ≡ seats_of_panels n ++ panel_seats m) one refl

-- a run with the turns of some panels is one with those of the first of them
fewer_step : (panels n m : ℕ) (before : List Moment) → n ≤ suc m → IsRun panels (and_turns false (seats_of_panels (suc m)) before)
    → (n ≤ m → IsRun panels (and_turns false (seats_of_panels m) before) → IsRun panels (and_turns false (seats_of_panels n) before))
    → (n < suc m) ⊎ (suc m ≤ n) → IsRun panels (and_turns false (seats_of_panels n) before)
fewer_step panels n m before few run rest (inl less) =
    rest (omega (arith, less)) (before_turns panels false (panel_seats (suc m)) (and_turns false (seats_of_panels m) before)
    (subst (IsRun panels) (turns-append false (seats_of_panels m) (panel_seats (suc m)) before) run))
fewer_step panels n m before few run rest (inr all) =
    let same : suc m ≡ n = omega (arith, few, all) in
    subst (λ k. IsRun panels (and_turns false (seats_of_panels k) before)) same run

fewer_panels : (panels n m : ℕ) (before : List Moment) → n ≤ m → IsRun panels (and_turns false (seats_of_panels m) before)
    → IsRun panels (and_turns false (seats_of_panels n) before)
fewer_panels panels n zero before few run =
    let none : zero ≡ n = omega (arith, few) in
    subst (λ k. IsRun panels (and_turns false (seats_of_panels k) before)) none run
fewer_panels panels n (suc m) before few run =
    fewer_step panels n m before few run (λ le here. fewer_panels panels n m before le here) (cases_lt n (suc m))

-- once the first panels had their turns, the next may have its own
pub next_panel : (n : ℕ) (old system : System) (a b : ℕ) → n < old.site.panels → MayTurnFrom (canonical_seats old.site.panels) 0 old
    → HaveTurned old a (seats_of_panels n) system b → MayTurnTasks (n + 1) panel_tasks system
next_panel n old system a b less r turned =
    let all = seats_of_panels old.site.panels in
    let so_far = and_turns false (seats_of_panels n) r.before in
    let of_panels =
    before_turns r.site.panels false (keep_seat ∷ []) (and_turns false all r.before)
    (subst (IsRun r.site.panels) (turns-append false all (keep_seat ∷ []) r.before) r.run) in
    let next =
    subst (IsRun r.site.panels) (ap (λ xs. and_turns false xs r.before) (seats_more n)
    ∙ turns-append false (seats_of_panels n) (panel_seats (n + 1)) r.before)
    (fewer_panels r.site.panels (n + 1) old.site.panels r.before (omega (arith, less)) of_panels) in
    let same = ap (λ (s : Site). s.panels) r.stands.same in
    record {
      site = r.site;
      kept = r.kept;
      before = so_far;
      stands = turned.turns r.site r.kept r.before r.stands (before_turns r.site.panels false (panel_seats (n + 1)) so_far next);
      member = (omega arith, omega (arith, less, same));
      run = next;
      few = rw (turns_tick false (seats_of_panels n) r.before) r.few;
    }

pub panel_turned : (n : ℕ) (old mid system : System) (a b c : ℕ) → HaveTurned old a (seats_of_panels n) mid b
    → HaveTurned mid b (panel_seats (n + 1)) system c → HaveTurned old a (seats_of_panels (n + 1)) system c
panel_turned n old mid system a b c first second =
    subst (λ xs. HaveTurned old a xs system c) (sym (seats_more n)) (both_turned old mid system (seats_of_panels n) (panel_seats (n + 1)) a b c first second)

-- ---- all panels

pub each_both : {X : Type 0} (P : X → Type 0) (xs ys : List X) → AllByRecursion P xs → AllByRecursion P ys → AllByRecursion P (xs ++ ys)
each_both P [] ys all more = more
each_both P (x ∷ xs) ys all more = (all.0, each_both P xs ys all.1 more)

are_of_panels : (n : ℕ) → AreOfPanels (seats_of_panels n)
are_of_panels zero = tt
are_of_panels (suc n) =
    each_both (λ (s : Seat). s.task ≢ Keep) (seats_of_panels n) (panel_seats (suc n)) (are_of_panels n)
    (λ e. cc, (λ e. cc, (λ e. cc, (λ e. cc, (λ e. cc, (λ e. cc, (λ e. cc, (λ e. cc, tt))))))))

-- the seats before Keep's, which is the last
pub panels_between : (panels : ℕ) → seats_between 0 (8 * panels) (canonical_seats panels) ≡ seats_of_panels panels
panels_between panels =
    ap (λ n. take n (canonical_seats panels)) (sym (length-seats_of_panels panels)) ∙ take-append_seam (seats_of_panels panels) (keep_seat ∷ [])

keep_last : (panels : ℕ) → slice_get (canonical_seats panels) (8 * panels) ≡ Some keep_seat
keep_last panels =
    let count = length-canonical_seats panels in
    slice_get-get_or (canonical_seats panels) (8 * panels) keep_seat (omega (arith, count))
    ∙ ap Some (ap (λ n. get_or (canonical_seats panels) n keep_seat) (sym (length-seats_of_panels panels))
    ∙ get_or-append_seam (seats_of_panels panels) keep_seat [] keep_seat)

Some_same : {X : Type 0} (x y : X) → Some x ≡ Some y → x ≡ y
Some_same x y same = cc

module _ (panels : ℕ) (old system : System) (a b : ℕ) (turned : HaveTurned old a (seats_of_panels panels) system b) where
  pub canonical_made : MakesTurnsFrom old (canonical_seats panels) 0 (8 * panels) system
  canonical_made =
      let count = length-canonical_seats panels in
      record {
        since = λ _. omega arith;
        within = omega (arith, count);
        panels = subst AreOfPanels (sym (panels_between panels)) (are_of_panels panels);
        keep = λ seat is. ap (λ (s : Seat). s.task) (Some_same seat keep_seat (sym is ∙ keep_last panels));
        turns = subst (λ xs. MakesTurns old xs system) (sym (panels_between panels)) turned.turns;
      }

  pub canonical_marked : MarksTurns old (seats_between 0 (8 * panels) (canonical_seats panels)) system.changed
  canonical_marked = subst (λ xs. MarksTurns old xs system.changed) (sym (panels_between panels)) turned.marks

  pub canonical_counted : CountsTurns old (seats_between 0 (8 * panels) (canonical_seats panels)) a b
  canonical_counted = subst (λ xs. CountsTurns old xs a b) (sym (panels_between panels)) turned.steps
