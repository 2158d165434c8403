-- The numbers of lines and ticks of what is read.
use Rattle.std.proofs.Common.{◌≡◌, ◌∙◌, ◌+◌, ◌-◌, ◌++◌, ◌==◌, ◌^◌, ◌≤◌, ℕ, Bool, true, false, min, List, [], ◌∷◌, length}
use Rattle.std.proofs.Common.{Option, Some, None, Result, Ok, Err, if◌then◌else◌, refl, sym, ap, subst, arith}
use Rattle.std.proofs.Common.{length-append}
use Rattle.std.specs.Prelude.{nat_le}
use Rattle.std.specs.List.{fold}
use Rattle.std.proofs.lemmas.Bool.{eqb-true}
use Rattle.site_types.specs.declared.site.Site.{Site}
use Rattle.site_types.specs.declared.event.Event.{Event}
use Rattle.site_types.specs.Events.{has_event}
use Rattle.tick_units.specs.Ticks.{last_tick}
use Rattle.tick_units.specs.declared.seat.Seat.{Seat}
use Rattle.record_lines.specs.Events.{event_of, has_numbers}
use Rattle.line_fields.specs.Fields.{space_count}
use Rattle.site_types.specs.Fields.{after_space, field}
use Rattle.record_lines.specs.Forms.{Form, TickForm, OfEvent, OrderForm, EndForm, form_of}
use Rattle.record_lines.specs.Seats.{order_of, seats_of}
use Rattle.site_types.specs.Numbers.{number_of}
use Rattle.record_lines.specs.Judged.{judged, judged_as, content_of, may_stand, tick_as, ordered, event_in}
use Rattle.record_lines.specs.Lines.{Cut, Reading, at_start, begun, by_bytes, by_ending, byte_refusal, cut, lines_read, next_line, next_number, reading_of}
use Rattle.record_lines.specs.Lines.{refused_rest, rest_by_ending, stands_behind, verdict, with_byte}
use Rattle.record_lines.specs.declared.line.Line.{Line}
use Rattle.record_lines.specs.declared.line.Line.TheVariants.{Tick, Event as EventLine, Order, End}
use Rattle.record_lines.specs.declared.over.Over.{Over}
use Rattle.record_lines.specs.declared.ticks_so_far.TicksSoFar.{TicksSoFar}
use Rattle.record_lines.specs.declared.why.Why.{Why}
use Rattle.site_run.specs.Stands.{IsNext}

-- the number of the line behind so many; it stays at the greatest of 64 bits
abbrev pub number_behind : List Line → ℕ
number_behind lines = min (length lines + 1) (2 ^ 64 - 1)

-- how many ticks begin in some lines
abbrev pub tick_count : List Line → ℕ
tick_count [] = 0
tick_count (Tick tick ∷ lines) = tick_count lines + 1
tick_count (EventLine event ∷ lines) = tick_count lines
tick_count (Order seats ∷ lines) = tick_count lines
tick_count (End ∷ lines) = tick_count lines

-- the ticks of these lines go on from a number
abbrev pub AreNumbered : ℕ → List Line → Type 0
AreNumbered n [] = Unit {0}
AreNumbered n (Tick tick ∷ lines) = (tick.0 ≡ n + 1) × AreNumbered (n + 1) lines
AreNumbered n (EventLine event ∷ lines) = AreNumbered n lines
AreNumbered n (Order seats ∷ lines) = AreNumbered n lines
AreNumbered n (End ∷ lines) = AreNumbered n lines

numbered_more : (n : ℕ) (lines : List Line) (line : Line) → AreNumbered n lines → IsNext line (n + tick_count lines)
    → AreNumbered n (lines ++ line ∷ [])
numbered_more n [] (Tick tick) h next = (omega (arith, next), tt)
numbered_more n [] (EventLine event) h next = tt
numbered_more n [] (Order seats) h next = tt
numbered_more n [] End h next = tt
numbered_more n (Tick tick ∷ lines) line h next = (h.0, numbered_more (n + 1) lines line h.1 (subst (IsNext line) (omega arith) next))
numbered_more n (EventLine event ∷ lines) line h next = numbered_more n lines line h next
numbered_more n (Order seats ∷ lines) line h next = numbered_more n lines line h next
numbered_more n (End ∷ lines) line h next = numbered_more n lines line h next

numbered_last : (n : ℕ) (lines : List Line) (line : Line) → AreNumbered n (lines ++ line ∷ []) → IsNext line (n + tick_count lines)
numbered_last n [] (Tick tick) h = let e = h.0 in omega (arith, e)
numbered_last n [] (EventLine event) h = tt
numbered_last n [] (Order seats) h = tt
numbered_last n [] End h = tt
numbered_last n (Tick tick ∷ lines) line h = subst (IsNext line) (omega arith) (numbered_last (n + 1) lines line h.1)
numbered_last n (EventLine event ∷ lines) line h = numbered_last n lines line h
numbered_last n (Order seats ∷ lines) line h = numbered_last n lines line h
numbered_last n (End ∷ lines) line h = numbered_last n lines line h

count_more : (lines : List Line) (line : Line) → tick_count (lines ++ line ∷ []) ≡ tick_count lines + tick_count (line ∷ [])
count_more [] line = omega arith
count_more (Tick tick ∷ lines) line = let e = count_more lines line in omega (arith, e)
count_more (EventLine event ∷ lines) line = count_more lines line
count_more (Order seats ∷ lines) line = count_more lines line
count_more (End ∷ lines) line = count_more lines line

-- ---- a line that is accepted is the next one

abbrev NextIn : ℕ → Result Line Why → Type 0
NextIn ticks (Ok line) = IsNext line ticks
NextIn ticks (Err why) = Unit {0}

next_if : (ticks : ℕ) (b : Bool) (x y : Result Line Why) → (b ≡ true → NextIn ticks x) → NextIn ticks y → NextIn ticks (if b then x else y)
next_if ticks true x y h k = h refl
next_if ticks false x y h k = k

next_tick : (ticks : ℕ) (o : Option ℕ) → NextIn ticks (tick_as ticks o)
next_tick ticks None = tt
next_tick ticks (Some found) =
    next_if ticks (nat_le last_tick ticks) _ _ (λ e. tt) (next_if ticks (found == ticks + 1) _ _ (λ e. eqb-true found (ticks + 1) e) tt)

next_event : (site : Site) (ticks : ℕ) (o : Option Event) → NextIn ticks (event_in site o)
next_event site ticks None = tt
next_event site ticks (Some event) = next_if ticks (has_event site event) _ _ (λ e. tt) tt

next_ordered : (ticks : ℕ) (r : Result (List Seat) Why) → NextIn ticks (ordered r)
next_ordered ticks (Ok seats) = tt
next_ordered ticks (Err why) = tt

next_content : (site : Site) (so_far : TicksSoFar) (form : Form) (text : List ℕ) → NextIn so_far.ticks (content_of site so_far form text)
next_content site so_far TickForm text = next_tick so_far.ticks (number_of (field 1 text))
next_content site so_far (OfEvent form) text = next_event site so_far.ticks (event_of site form text)
next_content site so_far OrderForm text =
    next_if so_far.ticks so_far.has_order _ _ (λ e. tt)
    (next_ordered so_far.ticks (order_of site.panels (seats_of (space_count text) (after_space text))))
next_content site so_far EndForm text = tt

next_as : (site : Site) (so_far : TicksSoFar) (text : List ℕ) (o : Option Form) → NextIn so_far.ticks (judged_as site so_far text o)
next_as site so_far text None = tt
next_as site so_far text (Some form) =
    next_if so_far.ticks (may_stand so_far form) _ _
    (λ e. next_if so_far.ticks (has_numbers form text) _ _ (λ f. next_content site so_far form text) tt) tt

-- ---- readings

-- a reading's line number and its ticks go by its lines
pub record IsCounted (r : Reading) : Type 0 where
  pub number : r.number ≡ number_behind r.lines
  pub ticks : r.so_far.ticks ≡ tick_count r.lines
  pub numbered : AreNumbered 0 r.lines

number_more : (n : ℕ) → min (min (n + 1) (2 ^ 64 - 1) + 1) (2 ^ 64 - 1) ≡ min (n + 1 + 1) (2 ^ 64 - 1)
number_more n = omega arith

stands_more : (so_far : TicksSoFar) (lines : List Line) (line : Line) → so_far.ticks ≡ tick_count lines → IsNext line (tick_count lines)
    → (stands_behind so_far line).ticks ≡ tick_count lines + tick_count (line ∷ [])
stands_more so_far lines (Tick tick) e next = omega (arith, next)
stands_more so_far lines (EventLine event) e next = omega (arith, e)
stands_more so_far lines (Order seats) e next = omega (arith, e)
stands_more so_far lines End e next = omega (arith, e)

counted_verdict : (r : Reading) (v : Result Line Why) → IsCounted r → NextIn r.so_far.ticks v → IsCounted (verdict r v)
counted_verdict r (Ok line) c next =
    let comes = subst (IsNext line) c.ticks next in
    let count = length-append r.lines (line ∷ []) in
    record {
      number = ap next_number c.number ∙ number_more (length r.lines) ∙ ap (λ n. min (n + 1) (2 ^ 64 - 1)) (sym count);
      ticks = stands_more r.so_far r.lines line c.ticks comes ∙ sym (count_more r.lines line);
      numbered = numbered_more 0 r.lines line c.numbered (subst (IsNext line) (omega arith) comes);
    }
counted_verdict r (Err why) c next = record { number = c.number; ticks = c.ticks; numbered = c.numbered }

counted_bytes : (site : Site) (r : Reading) (text : List ℕ) (o : Option Why) → IsCounted r → IsCounted (by_bytes site r text o)
counted_bytes site r text None c = counted_verdict r (judged site r.so_far text) c (next_as site r.so_far text (form_of text))
counted_bytes site r text (Some why) c = record { number = c.number; ticks = c.ticks; numbered = c.numbered }

counted_line : (site : Site) (r : Reading) (text : List ℕ) (o : Option Over) → IsCounted r → IsCounted (by_ending site r text o)
counted_line site r text None c = counted_bytes site r text (byte_refusal text) c
counted_line site r text (Some over) c = c

counted_lines : (site : Site) (lines : List (List ℕ)) (r : Reading) → IsCounted r → IsCounted (fold (next_line site) r lines)
counted_lines site [] r c = c
counted_lines site (line ∷ lines) r c = counted_lines site lines (next_line site r line) (counted_line site r line r.ending c)

counted_refused : (r : Reading) (o : Option Why) → IsCounted r → IsCounted (refused_rest r o)
counted_refused r None c = c
counted_refused r (Some why) c = record { number = c.number; ticks = c.ticks; numbered = c.numbered }

counted_rest : (r : Reading) (text : List ℕ) (o : Option Over) → IsCounted r → IsCounted (rest_by_ending r text o)
counted_rest r text None c = counted_refused r (byte_refusal text) c
counted_rest r text (Some over) c = c

pub counted : (site : Site) (bytes : List ℕ) → IsCounted (reading_of site bytes)
counted site bytes =
    let whole = lines_read site (cut bytes).whole in
    counted_rest whole (cut bytes).rest whole.ending
    (counted_lines site (cut bytes).whole at_start (record { number = omega arith; ticks = refl; numbered = tt }))

-- the line behind those of a reading is the next one
pub next_of : (lines more : List Line) (line : Line) → more ≡ lines ++ line ∷ [] → AreNumbered 0 more → IsNext line (tick_count lines)
next_of lines more line e h = subst (IsNext line) (omega arith) (numbered_last 0 lines line (subst (AreNumbered 0) e h))

-- ---- at least a byte a line

abbrev pub all_bytes : List (List ℕ) → ℕ
all_bytes [] = 0
all_bytes (line ∷ lines) = length line + 1 + all_bytes lines

verdict_few : (r : Reading) (v : Result Line Why) → length (verdict r v).lines ≤ length r.lines + 1
verdict_few r (Ok line) = let e = length-append r.lines (line ∷ []) in omega (arith, e)
verdict_few r (Err why) = omega arith

bytes_few : (site : Site) (r : Reading) (text : List ℕ) (o : Option Why) → length (by_bytes site r text o).lines ≤ length r.lines + 1
bytes_few site r text None = verdict_few r (judged site r.so_far text)
bytes_few site r text (Some why) = omega arith

line_few : (site : Site) (r : Reading) (text : List ℕ) (o : Option Over) → length (by_ending site r text o).lines ≤ length r.lines + 1
line_few site r text None = bytes_few site r text (byte_refusal text)
line_few site r text (Some over) = omega arith

lines_few : (site : Site) (lines : List (List ℕ)) (r : Reading) → length (fold (next_line site) r lines).lines ≤ length r.lines + all_bytes lines
lines_few site [] r = omega arith
lines_few site (line ∷ lines) r =
    let ih = lines_few site lines (next_line site r line) in
    let one = line_few site r line r.ending in
    omega (arith, ih, one)

rest_few : (r : Reading) (text : List ℕ) (o : Option Over) → length (rest_by_ending r text o).lines ≤ length r.lines
rest_few r text None = refused_few r (byte_refusal text)
  where
    refused_few : (r : Reading) (o : Option Why) → length (refused_rest r o).lines ≤ length r.lines
    refused_few r None = omega arith
    refused_few r (Some why) = omega arith
rest_few r text (Some over) = omega arith

begun_few : (byte : ℕ) (whole : List (List ℕ)) (rest : List ℕ) → all_bytes (begun byte whole rest).whole + length (begun byte whole rest).rest
    ≤ all_bytes whole + length rest + 1
begun_few byte [] rest = omega arith
begun_few byte (line ∷ lines) rest = omega arith

with_few : (end : Bool) (byte : ℕ) (behind : Cut) → all_bytes (with_byte end byte behind).whole + length (with_byte end byte behind).rest
    ≤ all_bytes behind.whole + length behind.rest + 1
with_few true byte behind = omega arith
with_few false byte behind = begun_few byte behind.whole behind.rest

cut_few : (bytes : List ℕ) → all_bytes (cut bytes).whole + length (cut bytes).rest ≤ length bytes
cut_few [] = omega arith
cut_few (byte ∷ bytes) =
    let ih = cut_few bytes in
    let one = with_few (byte == 10) byte (cut bytes) in
    omega (arith, ih, one)

-- a record has at most as many lines as bytes
pub few_lines : (site : Site) (bytes : List ℕ) → length (reading_of site bytes).lines ≤ length bytes
few_lines site bytes =
    let whole = lines_read site (cut bytes).whole in
    let read = lines_few site (cut bytes).whole at_start in
    let rest = rest_few whole (cut bytes).rest whole.ending in
    let cuts = cut_few bytes in
    omega (arith, read, rest, cuts)
