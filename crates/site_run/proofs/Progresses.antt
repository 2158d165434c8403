-- What lines make, one line more.
use Rattle.std.proofs.Common.{◌≡◌, ◌+◌, ◌≤◌, ◌++◌, ℕ, Bool, false, List, [], ◌∷◌, length, Option, Some, None}
use Rattle.std.proofs.Common.{refl, arith, length-append}
use Rattle.std.specs.List.{fold}
use Rattle.std.proofs.lemmas.List.Sums.{fold_push}
use Rattle.tick_units.specs.declared.seat.Seat.{Seat}
use Rattle.tick_units.proofs.OrderLaws.{length-order}
use Rattle.site_types.specs.declared.site.Site.{Site}
use Rattle.std.specs.Prelude.{option_map}
use Rattle.site_types.specs.declared.event.Event.{Event}
use Rattle.site_types.specs.declared.event.Event.TheVariants.{Point, Cable, Supply, Link, Confirmed, Op}
use Rattle.access_levels.specs.Levels.{level_of}
use Rattle.panel_rules.specs.Operations.{Request, and_request, request_of, requests}
use Rattle.record_lines.specs.declared.line.Line.{Line}
use Rattle.record_lines.specs.declared.line.Line.TheVariants.{Tick, Event as EventLine, Order, End}
use Rattle.panel_rules.specs.Moments.{Moment, Began, Happened, Turned, Kept, TickBlock, and_events, and_turns, moments, tick_of, turn_of}
use Rattle.panel_rules.specs.Records.{AreOrdered}
use Rattle.site_run.specs.Records.{Block, Progress, after_line, at_beginning, closed, closed_by, moments_by}
use Rattle.site_run.specs.Records.{moments_in, progress_of, recorded, with_event, with_order}
use Rattle.run_text.specs.Failures.{as_recorded}
use Rattle.run_text.proofs.FailuresCounted.{are_the_same}
use Rattle.site_run.proofs.Numbers.{tick_count}

pub progress_more : (site : Site) (lines : List Line) (line : Line)
    → progress_of site (lines ++ line ∷ []) ≡ after_line site false (progress_of site lines) line
progress_more site lines line = fold_push (after_line site false) at_beginning lines line

-- ---- what a record says of ticks in which Keep's turn may have failed

pub recorded_closed : (failed : Bool) (o : Option Block) (ticks : List TickBlock) → as_recorded (closed_by failed o ticks) ≡ closed_by false o (as_recorded ticks)
recorded_closed failed None ticks = refl
recorded_closed failed (Some block) ticks = refl

pub recorded_line : (site : Site) (failed : Bool) (p : Progress) (line : Line)
    → recorded (after_line site failed p line) ≡ after_line site false (recorded p) line
recorded_line site failed p (Tick tick) = let e = recorded_closed failed p.block p.run in rw e refl
recorded_line site failed p (EventLine event) = refl
recorded_line site failed p (Order seats) = refl
recorded_line site failed p End = let e = recorded_closed failed p.block p.run in rw e refl

pub closed_length : (failed : Bool) (o : Option Block) (ticks : List TickBlock) → length (closed_by failed o ticks) ≡ length (closed_by false o ticks)
closed_length failed None ticks = refl
closed_length failed (Some block) ticks = refl

-- as many ticks as the record has
pub recorded_length : (p : Progress) → length (closed false (recorded p)) ≡ length (closed false p)
recorded_length p = go p.block
  where
    count : length (as_recorded p.run) ≡ length p.run
    count = (are_the_same 1 p.run).0

    go : (o : Option Block) → length (closed_by false o (as_recorded p.run)) ≡ length (closed_by false o p.run)
    go None = count
    go (Some block) = let e = count in omega (arith, e)

pub closed_ordered : (panels : ℕ) (failed : Bool) (o : Option Block) (ticks : List TickBlock) → AreOrdered panels (closed_by false o ticks)
    → AreOrdered panels (closed_by failed o ticks)
closed_ordered panels failed None ticks h = h
closed_ordered panels failed (Some block) ticks h = h

pub ordered_run : (panels : ℕ) (o : Option Block) (ticks : List TickBlock) → AreOrdered panels (closed_by false o ticks) → AreOrdered panels ticks
ordered_run panels None ticks h = h
ordered_run panels (Some block) ticks h = h.0

-- ---- how many ticks

event_length : (event : Event) (o : Option Block) (ticks : List TickBlock)
    → length (closed_by false (with_event event o) ticks) ≡ length (closed_by false o ticks)
event_length event None ticks = refl
event_length event (Some block) ticks = refl

order_length : (seats : List Seat) (o : Option Block) (ticks : List TickBlock)
    → length (closed_by false (with_order seats o) ticks) ≡ length (closed_by false o ticks)
order_length seats None ticks = refl
order_length seats (Some block) ticks = refl

line_length : (site : Site) (p : Progress) (line : Line)
    → length (closed false (after_line site false p line)) ≡ length (closed false p) + tick_count (line ∷ [])
line_length site p (Tick tick) = omega arith
line_length site p (EventLine event) = let e = event_length event p.block p.run in omega (arith, e)
line_length site p (Order seats) = let e = order_length seats p.block p.run in omega (arith, e)
line_length site p End = omega arith

count_rest : (line : Line) (lines : List Line) → tick_count (line ∷ lines) ≡ tick_count (line ∷ []) + tick_count lines
count_rest (Tick tick) lines = omega arith
count_rest (EventLine event) lines = omega arith
count_rest (Order seats) lines = omega arith
count_rest End lines = omega arith

lines_length : (site : Site) (p : Progress) (lines : List Line)
    → length (closed false (fold (after_line site false) p lines)) ≡ length (closed false p) + tick_count lines
lines_length site p [] = omega arith
lines_length site p (line ∷ lines) =
    let ih = lines_length site (after_line site false p line) lines in
    let one = line_length site p line in
    let rest = count_rest line lines in
    omega (arith, ih, one, rest)

-- as many ticks are closed or open as began
pub progress_length : (site : Site) (lines : List Line) → length (closed false (progress_of site lines)) ≡ tick_count lines
progress_length site lines = let e = lines_length site at_beginning lines in omega (arith, e)

-- ---- how many moments

turns_length : (failed : Bool) (seats : List Seat) (before : List Moment) → length (and_turns failed seats before) ≡ length seats + length before
turns_length failed [] before = omega arith
turns_length failed (seat ∷ seats) before =
    let ih = turns_length failed seats (turn_of failed seat.panel seat.task ∷ before) in
    omega (arith, ih)

pub events_length : (events : List Event) (before : List Moment) → length (and_events events before) ≡ length events + length before
events_length [] before = omega arith
events_length (event ∷ events) before = let ih = events_length events (Happened event ∷ before) in omega (arith, ih)

more_length : (events : List Event) (event : Event) → length (events ++ event ∷ []) ≡ length events + 1
more_length [] event = omega arith
more_length (x ∷ events) event = let ih = more_length events event in omega (arith, ih)

-- whether Keep's turn failed or not, and at most 65 seats have their turns
pub closed_moments : (panels : ℕ) (failed : Bool) (o : Option Block) (ticks : List TickBlock) → panels ≤ 8
    → AreOrdered panels (closed_by false o ticks)
    → length (moments (closed_by failed o ticks)) ≤ length (moments_by o ticks) + 65
closed_moments panels failed None ticks few ordered = omega arith
closed_moments panels failed (Some block) ticks few ordered =
    let turns = turns_length failed block.order (and_events block.events (Began ∷ moments ticks)) in
    let seats = length-order panels block.order ordered.1 in
    omega (arith, turns, seats, few)

pub same_moments : (failed : Bool) (o : Option Block) (ticks : List TickBlock)
    → length (moments (closed_by failed o ticks)) ≡ length (moments (closed_by false o ticks))
same_moments failed None ticks = refl
same_moments failed (Some block) ticks =
    let one = turns_length failed block.order (and_events block.events (Began ∷ moments ticks)) in
    let other = turns_length false block.order (and_events block.events (Began ∷ moments ticks)) in
    omega (arith, one, other)

event_moments : (event : Event) (o : Option Block) (ticks : List TickBlock) → length (moments_by (with_event event o) ticks) ≤ length (moments_by o ticks) + 1
event_moments event None ticks = omega arith
event_moments event (Some block) ticks =
    let one = events_length block.events (Began ∷ moments ticks) in
    let other = events_length (block.events ++ event ∷ []) (Began ∷ moments ticks) in
    let more = more_length block.events event in
    omega (arith, one, other, more)

order_moments : (seats : List Seat) (o : Option Block) (ticks : List TickBlock) → length (moments_by (with_order seats o) ticks) ≡ length (moments_by o ticks)
order_moments seats None ticks = refl
order_moments seats (Some block) ticks = refl

-- a line brings at most 66
pub line_moments : (site : Site) (failed : Bool) (p : Progress) (line : Line) → site.panels ≤ 8 → AreOrdered site.panels (closed false p)
    → length (moments_in (after_line site failed p line)) ≤ length (moments_in p) + 66
line_moments site failed p (Tick tick) few ordered = let l = closed_moments site.panels failed p.block p.run few ordered in omega (arith, l)
line_moments site failed p (EventLine event) few ordered = let l = event_moments event p.block p.run in omega (arith, l)
line_moments site failed p (Order seats) few ordered = let l = order_moments seats p.block p.run in omega (arith, l)
line_moments site failed p End few ordered = let l = closed_moments site.panels failed p.block p.run few ordered in omega (arith, l)

-- ---- how many operations were asked for

asked_more : (site : Site) (tick : ℕ) (event : Event) (asked : List Request) → length (and_request site tick event asked) ≤ length asked + 1
asked_more site tick (Op panel code operation) asked =
    let e = length-append asked (request_of tick panel (level_of site (option_map (λ label. label.bytes) code)) operation asked ∷ []) in
    omega (arith, e)
asked_more site tick (Point point state) asked = omega arith
asked_more site tick (Cable panel line piece state) asked = omega arith
asked_more site tick (Supply panel kind bad) asked = omega arith
asked_more site tick (Link link up) asked = omega arith
asked_more site tick (Confirmed output) asked = omega arith

-- no more than moments befell
pub few_asked : (site : Site) (moments : List Moment) → length (requests site moments) ≤ length moments
few_asked site [] = omega arith
few_asked site (Began ∷ before) = let ih = few_asked site before in omega (arith, ih)
few_asked site (Happened event ∷ before) =
    let ih = few_asked site before in
    let one = asked_more site (tick_of before) event (requests site before) in
    omega (arith, ih, one)
few_asked site (Turned panel task ∷ before) = let ih = few_asked site before in omega (arith, ih)
few_asked site (Kept failed ∷ before) = let ih = few_asked site before in omega (arith, ih)
