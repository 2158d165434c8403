-- Printed lines in front of a piece: numbers and seats byte by byte, and what a reader makes of such a piece.
use Rattle.std.proofs.Common.{◌≡◌, ◌∙◌, ◌+◌, ◌-◌, ◌*◌, ◌<◌, ◌≤◌, ◌^◌, ◌++◌, ℕ, zero, suc, Bool, true, false, List}
use Rattle.std.proofs.Common.{[], ◌∷◌, Option, Some, None, length, get_or, take, drop, map, refl, sym, ap, subst, append_assoc, length-append, arith}
use Rattle.std.specs.Prelude.{◌==◌, codes, decimal, nat_le, if◌then◌else◌, IfSome, option_map, slice_get}
use Rattle.std.specs.List.{AllByRecursion, list_all}
use Rattle.std.proofs.Math.Seq.{take-add, take-append-add}
use Rattle.std.proofs.lemmas.Bool.{and_from, and_parts, eqb-true, leb-true, lt-ltb, ne_eqb, not_from_false}
use Rattle.std.proofs.lemmas.Fmt.{decimal_digit}
use Rattle.std.proofs.lemmas.List.{drop-drop, get_or-drop, get_or-take, length-drop, length-take, length-take-le, map-append, take-append-drop, take-take, take_at, take_more}
use Rattle.std.proofs.lemmas.Option.{same_Some, slice_get_within}
use Rattle.line_fields.specs.Words.{value_beside_letter}
use Rattle.site_types.specs.Numbers.{all_digits, begins_as_number, is_digit, number_of, value_after}
use Rattle.site_types.specs.Fields.{after_space, before_space}
use Rattle.site_types.specs.Things.{name_at, thing_named}
use Rattle.site_types.specs.Valid.{IsValid}
use Rattle.site_types.specs.declared.event.Event.TheVariants.{Point as PointEvent}
use Rattle.site_types.specs.declared.named.Thing.{Thing}
use Rattle.site_types.specs.declared.named.Thing.TheVariants.{Point as PointThing, Zone as ZoneThing, Output as OutputThing, Marker as MarkerThing}
use Rattle.site_types.specs.declared.point_state.PointState.{PointState}
use Rattle.site_types.specs.declared.site.Site.{Site}
use Rattle.site_types.proofs.Finding.{thing_named_iff}
use Rattle.site_types.proofs.Spelling.{begun, decimal-number_of}
use Rattle.line_fields.proofs.Spaces.{parted_text}
use Rattle.record_lines.specs.Events.{point_in, point_of}
use Rattle.tick_units.specs.Orders.{IsOrder}
use Rattle.tick_units.specs.Ticks.{last_tick}
use Rattle.tick_units.specs.declared.seat.Seat.{Seat}
use Rattle.tick_units.specs.declared.task.Task.{Task}
use Rattle.tick_units.specs.declared.task.Task.TheVariants.{Keep}
use Rattle.record_lines.specs.Lines.{is_printable}
use Rattle.record_lines.specs.Printed.{AddsSeats, HasInFront, joined, known_name, letter_of, line_text, name_text, point_state_word, seat_number, seat_text}
use Rattle.record_lines.specs.ReadBack.{Brings, BringsSeats}
use Rattle.record_lines.specs.Stands.{Accepts, Feeds, Keeps, StandsFor}
use Rattle.record_lines.specs.Words.{letters, task_of}
use Rattle.record_lines.specs.declared.line.Line.{Line}
use Rattle.record_lines.specs.declared.line.Line.TheVariants.{Event as EventLine, Order as OrderLine, Tick as TickLine}
use Rattle.record_lines.specs.declared.reader.LineReader.{LineReader}
use Rattle.record_lines.specs.declared.step.Step.TheVariants.{Line as LineStep}
use Rattle.record_lines.proofs.Openings.{line_taken}
use Rattle.record_lines.proofs.Pieces.{fed_front}
use Rattle.record_lines.proofs.PrintedLines.{line_printed}
use Rattle.record_lines.proofs.Printing.{joined_is, joined_push}

-- ---- texts behind one another

-- a text whose line end comes next
pub ends_here : (line text : List ℕ) (used : ℕ) → take used text ≡ line → used < length text → get_or text used 0 ≡ 10 → HasInFront line text (used + 1)
ends_here line text used front within end =
    let count = length-take-le used text (omega (arith, within)) in
    record {
      all = omega (arith, count, ap length front);
      front = take_more text used 0 within ∙ ap (λ byte. take used text ++ byte ∷ []) end ∙ ap (λ t. t ++ 10 ∷ []) front;
    }

-- a text behind a front
pub behind_front : (front line piece : List ℕ) (used : ℕ) → take (length front) piece ≡ front → HasInFront line (drop (length front) piece) used
    → HasInFront (front ++ line) piece (length front + used)
behind_front front line piece used is begins =
    let all = begins.all in
    record {
      all = omega (arith, all, length-append front line);
      front =
          take-add (length front) used piece ∙ ap (λ t. t ++ take used (drop (length front) piece)) is ∙ ap (λ t. front ++ t) begins.front ∙ sym
          (append_assoc front line (10 ∷ []));
    }

-- a text that stands in a front of a piece
in_front_of_more : (line piece : List ℕ) (count used : ℕ) → HasInFront line (take count piece) used → HasInFront line piece used
in_front_of_more line piece count used begins =
    let all = begins.all in
    let whole = ap length begins.front in
    let within : used ≤ count =
    omega (arith, all, whole, length-append line (10 ∷ []), length-take used (take count piece), length-take count piece) in
    record { all = all; front = sym (take-take used count piece within) ∙ begins.front }

pub found_in_front : (line piece front : List ℕ) (count : ℕ) → front ≡ take count piece → (found : Option ℕ)
    → IfSome found (λ used. HasInFront line front used) → IfSome found (λ used. HasInFront line piece used)
found_in_front line piece front count is None begins = tt
found_in_front line piece front count is (Some used) begins =
    in_front_of_more line piece count used (subst (λ t. HasInFront line t used) is begins)

-- ---- numbers

digits_push : (front : List ℕ) (byte : ℕ) → all_digits front ≡ true → is_digit byte ≡ true → all_digits (front ++ byte ∷ []) ≡ true
digits_push [] byte so_far is = and_from (is_digit byte) true is refl
digits_push (first ∷ front) byte so_far is =
    let p = and_parts (is_digit first) (all_digits front) so_far in
    and_from (is_digit first) (all_digits (front ++ byte ∷ [])) p.0 (digits_push front byte p.1 is)

pub digit_range : (byte : ℕ) → is_digit byte ≡ true → (48 ≤ byte) × (byte ≤ 57)
digit_range byte is =
    let p = and_parts (nat_le 48 byte) (nat_le byte 57) is in
    (leb-true 48 byte p.0, leb-true byte 57 p.1)

pub digits_more : (text : List ℕ) (place : ℕ) → place < length text → all_digits (take place text) ≡ true → is_digit (get_or text place 0) ≡ true
    → all_digits (take (place + 1) text) ≡ true
digits_more text place within so_far is = ap all_digits (take_more text place 0 within) ∙ digits_push (take place text) (get_or text place 0) so_far is

value_push : (number : ℕ) (front : List ℕ) (byte : ℕ) → value_after number (front ++ byte ∷ []) ≡ 10 * value_after number front + (byte - 48)
value_push number [] byte = refl
value_push number (first ∷ front) byte = value_push (10 * number + (first - 48)) front byte

pub value_more : (text : List ℕ) (place value : ℕ) → place < length text → value_after 0 (take place text) ≡ value
    → value_after 0 (take (place + 1) text) ≡ 10 * value + (get_or text place 0 - 48)
value_more text place value within is =
    ap (value_after 0) (take_more text place 0 within) ∙ value_push 0 (take place text) (get_or text place 0)
    ∙ ap (λ v. 10 * v + (get_or text place 0 - 48)) is

-- the greatest number of so many digits
abbrev pub nines : ℕ → ℕ
nines zero = 0
nines (suc digits) = 10 * nines digits + 9

nines_rise : (digits more : ℕ) → digits ≤ more → nines digits ≤ nines more
nines_rise zero more le = let least : 0 ≤ nines more = omega arith in least
nines_rise (suc digits) zero le = absurd (omega (arith, le))
nines_rise (suc digits) (suc more) le =
    let before = nines_rise digits more (omega (arith, le)) in
    let next : 10 * nines digits + 9 ≤ 10 * nines more + 9 = omega (arith, before) in
    next

-- a number with one more digit
pub one_digit_more : (digits number : ℕ) → number ≤ 10 * nines digits + 9 → number ≤ nines (digits + 1)
one_digit_more digits number le =
    let more : digits + 1 ≡ suc digits = omega arith in
    subst (λ n. number ≤ nines n) (sym more) le

-- a number of up to ten digits has room for one more
pub digit_fits : (digits value : ℕ) → digits ≤ 10 → value ≤ nines digits → 10 * value + 9 < 2 ^ 64
digit_fits digits value few small =
    let ten : nines digits ≤ 9999999999 = nines_rise digits 10 few in
    omega (arith, small, ten)

number_begins : (text : List ℕ) (place : ℕ) → 48 < get_or text 0 0 → get_or text place 0 ≡ 10 → begins_as_number (take place text) ≡ true
number_begins [] place first end = absurd (omega arith)
number_begins (byte ∷ rest) zero first end = absurd (omega (arith, first, end))
number_begins (byte ∷ rest) (suc zero) first end = refl
number_begins (byte ∷ []) (suc (suc place)) first end = refl
number_begins (byte ∷ next ∷ rest) (suc (suc place)) first end = not_from_false (byte == 48) (ne_eqb byte 48 (λ e. omega (arith, e, first)))

-- digits before a line end, the first of them no zero
pub number_here : (text : List ℕ) (place number : ℕ) → 48 < get_or text 0 0 → place < length text → get_or text place 0 ≡ 10
    → all_digits (take place text) ≡ true → value_after 0 (take place text) ≡ number → number < 2 ^ 64 → HasInFront (decimal number) text (place + 1)
number_here text place number first within end digits value small =
    let front = take place text in
    let spelled : number_of front ≡ Some number =
    sym (begun front (number_begins text place first end)) ∙ rw (digits, value, lt-ltb number (2 ^ 64) small) refl in
    ends_here (decimal number) text place (decimal-number_of front number spelled) within end

-- ---- seats

-- a letter stands for a task, and a panel's number follows it
abbrev Spells : ℕ → Task → Type 0
Spells letter task = (letter_of task ≡ letter) × ((panel : ℕ) → seat_number task panel ≡ decimal panel)

found_by : (test : Bool) (letter : ℕ) (task : Task) (row : ℕ × Task) (more : Option Task) → (letter == row.0) ≡ test → Spells row.0 row.1
    → (more ≡ Some task → Spells letter task) → (if test then Some row.1 else more) ≡ Some task → Spells letter task
found_by true letter task row more same here next is =
    subst (λ t. Spells letter t) (same_Some row.1 task is) (subst (λ l. Spells l row.1) (sym (eqb-true letter row.0 same)) here)
found_by false letter task row more same here next is = next is

found_in : (letter : ℕ) (task : Task) (rows : List (ℕ × Task)) → AllByRecursion (λ row. Spells row.0 row.1) rows
    → value_beside_letter letter rows ≡ Some task → Spells letter task
found_in letter task [] all is = cc
found_in letter task (row ∷ rows) all is =
    found_by (letter == row.0) letter task row (value_beside_letter letter rows) refl all.0 (found_in letter task rows all.1) is

spells_task : (letter : ℕ) (task : Task) → task_of letter ≡ Some task → Spells letter task
spells_task letter task is =
    found_in letter task letters (
      (refl, λ panel. refl),
      (
        (refl, λ panel. refl),
        (
          (refl, λ panel. refl),
          ((refl, λ panel. refl), ((refl, λ panel. refl), ((refl, λ panel. refl), ((refl, λ panel. refl), ((refl, λ panel. refl), tt))))),
        ),
      ),
    ) is

letter_seat : (letter digit : ℕ) (task : Task) → task_of letter ≡ Some task → is_digit digit ≡ true
    → letter ∷ digit ∷ [] ≡ seat_text (record { panel = digit - 48; task = task })
letter_seat letter digit task known is =
    let spells = spells_task letter task known in
    let range = digit_range digit is in
    let low = range.0 in
    let high = range.1 in
    let back : 48 + (digit - 48) ≡ digit = omega (arith, low) in
    let written = decimal_digit (digit - 48) (omega (arith, high)) ∙ ap (λ byte. byte ∷ []) back in
    sym (ap (λ l. l ∷ seat_number task (digit - 48)) spells.0 ∙ ap (λ rest. letter ∷ rest) (spells.1 (digit - 48) ∙ written))

seat_more : (text : List ℕ) (used more : ℕ) (seats : List Seat) (seat : Seat) → take used text ≡ joined [] (map seat_text seats)
    → take more (drop used text) ≡ 32 ∷ seat_text seat → take (used + more) text ≡ joined [] (map seat_text (seats ++ seat ∷ []))
seat_more text used more seats seat front is =
    take-add used more text ∙ ap (λ f. f ++ take more (drop used text)) front ∙ ap (λ t. joined [] (map seat_text seats) ++ t) is
    ∙ sym (joined_push [] (map seat_text seats) (seat_text seat)) ∙ ap (joined []) (sym (map-append seat_text seats (seat ∷ [])))

pub long_from : (rest : List ℕ) → get_or rest 1 0 ≡ 107 → 2 ≤ length rest
long_from [] letter = absurd (omega (arith, letter))
long_from (a ∷ []) letter = absurd (omega (arith, letter))
long_from (a ∷ b ∷ rest) letter = omega arith

two : (rest : List ℕ) → 2 ≤ length rest → get_or rest 0 0 ≡ 32 → get_or rest 1 0 ≡ 107 → take 2 rest ≡ 32 ∷ 107 ∷ []
two [] long space letter = absurd (omega (arith, long))
two (a ∷ []) long space letter = absurd (omega (arith, long))
two (a ∷ b ∷ rest) long space letter = ap (λ x. x ∷ b ∷ []) space ∙ ap (λ x. 32 ∷ x ∷ []) letter

three : (rest : List ℕ) → 3 ≤ length rest → get_or rest 0 0 ≡ 32 → take 3 rest ≡ 32 ∷ get_or rest 1 0 ∷ get_or rest 2 0 ∷ []
three [] long space = absurd (omega (arith, long))
three (a ∷ []) long space = absurd (omega (arith, long))
three (a ∷ b ∷ []) long space = absurd (omega (arith, long))
three (a ∷ b ∷ c ∷ rest) long space = ap (λ x. x ∷ b ∷ c ∷ []) space

pub keep_more : (text rest : List ℕ) (used : ℕ) (seats : List Seat) (seat : Seat) → take used text ≡ joined [] (map seat_text seats) → rest ≡ drop used text
    → 2 ≤ length rest → get_or rest 0 0 ≡ 32 → get_or rest 1 0 ≡ 107 → seat_text seat ≡ 107 ∷ [] →
    take (used + 2) text ≡ joined [] (map seat_text (seats ++ seat ∷ []))
keep_more text rest used seats seat front behind long space letter is =
    seat_more text used 2 seats seat front (ap (take 2) (sym behind) ∙ two rest long space letter ∙ ap (λ t. 32 ∷ t) (sym is))

-- a seat more behind seats that were added
seat_added : (before seats : List Seat) (text : List ℕ) (used more : ℕ) (seat : Seat)
    → joined [] (map seat_text seats) ≡ joined [] (map seat_text before) ++ take used text → take more (drop used text) ≡ 32 ∷ seat_text seat
    → joined [] (map seat_text (seats ++ seat ∷ [])) ≡ joined [] (map seat_text before) ++ take (used + more) text
seat_added before seats text used more seat front is =
    let first = joined [] (map seat_text before) in
    ap (joined []) (map-append seat_text seats (seat ∷ [])) ∙ joined_push [] (map seat_text seats) (seat_text seat) ∙ ap (λ t. t ++ 32 ∷ seat_text seat) front
    ∙ append_assoc first (take used text) (32 ∷ seat_text seat)
    ∙ ap (λ t. first ++ t) (ap (λ t. take used text ++ t) (sym is) ∙ sym (take-add used more text))

pub panel_added : (before seats : List Seat) (text : List ℕ) (used letter digit : ℕ) (task : Task)
    → joined [] (map seat_text seats) ≡ joined [] (map seat_text before) ++ take used text → used + 2 < length text → get_or text used 0 ≡ 32
    → get_or text (used + 1) 0 ≡ letter → get_or text (used + 2) 0 ≡ digit → task_of letter ≡ Some task → is_digit digit ≡ true
    → joined [] (map seat_text (seats ++ record { panel = digit - 48; task = task } ∷ [])) ≡ joined [] (map seat_text before) ++ take (used + 3) text
panel_added before seats text used letter digit task front within space is_letter is_digit known numbered =
    let rest = drop used text in
    let at : (place : ℕ) → get_or rest place 0 ≡ get_or text (used + place) 0 = λ place. get_or-drop used text place 0 in
    let first : get_or rest 0 0 ≡ 32 = at 0 ∙ ap (λ place. get_or text place 0) (omega arith) ∙ space in
    let short = length-drop used text in
    let bytes = three rest (omega (arith, within, short)) first ∙ ap (λ byte. 32 ∷ byte ∷ get_or rest 2 0 ∷ []) (at 1 ∙ is_letter)
    ∙ ap (λ byte. 32 ∷ letter ∷ byte ∷ []) (at 2 ∙ is_digit) in
    seat_added before seats text used 3 _ front (bytes ∙ ap (λ t. 32 ∷ t) (letter_seat letter digit task known numbered))

-- seats behind seats
pub seats_behind : (text : List ℕ) (used more : ℕ) (seats after : List Seat) → take used text ≡ joined [] (map seat_text seats)
    → joined [] (map seat_text after) ≡ joined [] (map seat_text seats) ++ take more (drop used text)
    → take (used + more) text ≡ joined [] (map seat_text after)
seats_behind text used more seats after front is =
    take-add used more text ∙ ap (λ f. f ++ take more (drop used text)) front ∙ sym is

-- Keep's seat between those of panels, and a line end behind them
pub keep_between : (text rest under tail : List ℕ) (before behind : ℕ) (none first mid last : List Seat) → none ≡ [] → rest ≡ drop before text
    → under ≡ drop 2 rest → tail ≡ drop behind under → AddsSeats none text before first → 2 ≤ length rest → get_or rest 0 0 ≡ 32 → get_or rest 1 0 ≡ 107
    → mid ≡ first ++ record { panel = 0; task = Keep } ∷ [] → AddsSeats mid under behind last → 1 ≤ length tail → get_or tail 0 0 ≡ 10
    → HasInFront (joined [] (map seat_text last)) text (before + 2 + behind + 1)
keep_between text rest under tail before behind none first mid last is_none is_rest is_under is_tail adds long space letter is_mid more some end =
    let used = before + 2 + behind in
    let front : take before text ≡ joined [] (map seat_text first) = sym (adds.front ∙ ap (λ n. joined [] (map seat_text n) ++ take before text) is_none) in
    let with_keep = keep_more text rest before first (record { panel = 0; task = Keep }) front is_rest long space letter refl
    ∙ ap (λ m. joined [] (map seat_text m)) (sym is_mid) in
    let second : under ≡ drop (before + 2) text = is_under ∙ ap (drop 2) is_rest ∙ drop-drop 2 before text in
    let whole = seats_behind text (before + 2) behind mid last with_keep (more.front ∙ ap (λ r. joined [] (map seat_text mid) ++ take behind r) second) in
    let third : tail ≡ drop used text = is_tail ∙ ap (drop behind) second ∙ drop-drop behind (before + 2) text in
    let within : used < length text = omega (arith, some, ap length third, length-drop used text) in
    let byte : get_or text used 0 ≡ 10 = ap (λ place. get_or text place 0) (omega arith) ∙ sym (get_or-drop used text 0 0) ∙ ap (λ t. get_or t 0 0) (sym third)
    ∙ end in
    ends_here (joined [] (map seat_text last)) text used whole within byte

-- ---- what a reader makes of it

last_byte : (text : List ℕ) → get_or (text ++ 10 ∷ []) (length text) 10 ≡ 10
last_byte [] = refl
last_byte (byte ∷ rest) = last_byte rest

-- a piece that begins with a line
pub fed_usual : (site : Site) → IsValid site → (before piece : List ℕ) (used : ℕ) (line : Line) (old reader : LineReader) → old.over ≡ None
    → Brings site old line piece used → Accepts old line reader → StandsFor site before old →
    Feeds site before piece (record { used = used; step = LineStep line }) reader
fed_usual site valid before piece used line old reader waits brings accepts stands =
    let text = line_text site line in
    let is = line_printed site valid old.so_far line brings.may_come in
    let mid : LineReader = record { so_far = old.so_far; number = old.number; text = record { items = text }; over = old.over } in
    let whole = brings.text.front in
    let all = brings.text.all in
    let k = length text in
    let within : k < length piece = omega (arith, all, length-take used piece, ap length whole, length-append text (10 ∷ [])) in
    let more = sym (take_more piece k 0 within) ∙ ap (λ n. take n piece) (sym all) ∙ whole in
    let front : take k piece ≡ text =
    sym (take_at (take k piece) (get_or piece k 0 ∷ []) k (length-take-le k piece (omega (arith, within)))) ∙ ap (take k) more ∙ take_at text (10 ∷ []) k refl
    in
    let keeps : Keeps old piece k mid = record {
      within = omega (arith, within);
      text = sym front ∙ ap (λ t. t ++ take k piece) (sym brings.fresh);
      printable = ap (list_all is_printable) front ∙ is.bytes.printable;
      room = is.bytes.short;
      stands = refl;
      counts = refl;
      over = refl;
    } in
    let after : Accepts mid line reader = record { counts = accepts.counts; stands = accepts.stands; keeps = accepts.keeps; ends = accepts.ends } in
    let end : 10 ≡ get_or piece k 10 =
    sym (last_byte text) ∙ ap (λ t. get_or t k 10) (sym whole) ∙ get_or-take used piece k 10 (omega (arith, all)) in
    let fed = fed_front site before piece k 10 old mid reader (LineStep line) waits keeps within end tt
    (λ bytes waiting. line_taken site bytes 10 mid reader (LineStep line) refl waits (is.says, after) waiting) stands in
    subst (λ n. Feeds site before piece (record { used = n; step = LineStep line }) reader) (sym all) fed

-- ---- what a piece brings

pub nothing : (text : List ℕ) → length text ≡ 0 → text ≡ []
nothing [] none = refl
nothing (byte ∷ rest) none = absurd (omega (arith, none))

pub tick_brought : (site : Site) (reader : LineReader) (piece : List ℕ) (found : Option ℕ) → reader.text.items ≡ [] → reader.so_far.ticks < last_tick →
    IfSome found (λ used. HasInFront (line_text site (TickLine (record { 0 = reader.so_far.ticks + 1 }))) piece used)
    → IfSome found (λ used. Brings site reader (TickLine (record { 0 = reader.so_far.ticks + 1 })) piece used)
tick_brought site reader piece None fresh goes begins = tt
tick_brought site reader piece (Some used) fresh goes begins =
    record { fresh = fresh; text = begins; may_come = record { belongs = (omega arith, omega (arith, goes)); spelled = tt; due = refl } }

pub seats_brought : (reader : LineReader) (seats : List Seat) (piece : List ℕ) (found : Option ℕ) → reader.text.items ≡ [] → 1 ≤ reader.so_far.ticks
    → reader.so_far.has_order ≡ false →
    ((site : Site) → IfSome found (λ used. HasInFront (line_text site (OrderLine seats)) piece used)) → IfSome found (λ used. BringsSeats reader seats piece used)
seats_brought reader seats piece None fresh due first begins = tt
seats_brought reader seats piece (Some used) fresh due first begins = record { fresh = fresh; text = begins; due = (due, first) }

pub order_brought : (site : Site) (reader : LineReader) (seats order : List Seat) (piece : List ℕ) (used : ℕ) → BringsSeats reader seats piece used
    → order ≡ seats → IsOrder site.panels seats → Brings site reader (OrderLine order) piece used
order_brought site reader seats order piece used brings same is =
    subst (λ o. Brings site reader (OrderLine o) piece used) (sym same) (record {
      fresh = brings.fresh;
      text = brings.text site;
      may_come = record { belongs = is; spelled = tt; due = brings.due };
    })

-- ---- the word in front of seats

five : (piece : List ℕ) → 5 ≤ length piece →
    take 5 piece ≡ get_or piece 0 0 ∷ get_or piece 1 0 ∷ get_or piece 2 0 ∷ get_or piece 3 0 ∷ get_or piece 4 0 ∷ []
five [] long = absurd (omega (arith, long))
five (a ∷ []) long = absurd (omega (arith, long))
five (a ∷ b ∷ []) long = absurd (omega (arith, long))
five (a ∷ b ∷ c ∷ []) long = absurd (omega (arith, long))
five (a ∷ b ∷ c ∷ d ∷ []) long = absurd (omega (arith, long))
five (a ∷ b ∷ c ∷ d ∷ e ∷ rest) long = refl

pub order_word : (piece : List ℕ) → 5 ≤ length piece → get_or piece 0 0 ≡ 111 → get_or piece 1 0 ≡ 114 → get_or piece 2 0 ≡ 100 → get_or piece 3 0 ≡ 101
    → get_or piece 4 0 ≡ 114 → take 5 piece ≡ codes "order"
order_word piece long o r d e r2 = five piece long ∙ rw (o, r, d, e, r2) refl

pub order_here : (site : Site) (piece rest : List ℕ) (seats : List Seat) (used : ℕ) → take 5 piece ≡ codes "order" → rest ≡ drop 5 piece
    → HasInFront (joined [] (map seat_text seats)) rest used → HasInFront (line_text site (OrderLine seats)) piece (5 + used)
order_here site piece rest seats used word behind begins =
    let fields = map seat_text seats in
    subst (λ t. HasInFront t piece (5 + used)) (ap (λ t. codes "order" ++ t) (joined_is [] fields) ∙ sym (joined_is (codes "order") fields))
    (behind_front (codes "order") (joined [] fields) piece used word (subst (λ r. HasInFront (joined [] fields) r used) behind begins))

-- ---- the line of a point

-- a text behind the front that a piece was put together of
behind_append : (front line rest : List ℕ) (used : ℕ) → HasInFront line rest used → HasInFront (front ++ line) (front ++ rest) (length front + used)
behind_append front line rest used begins =
    let all = begins.all in
    record {
      all = omega (arith, all, length-append front line);
      front = take-append-add front rest used ∙ ap (λ t. front ++ t) begins.front ∙ sym (append_assoc front line (10 ∷ []));
    }

-- a text that begins with another isn't empty
some_bytes : (line text : List ℕ) (used : ℕ) → HasInFront line text used → text ≡ [] → ⊥
some_bytes line text used begins none =
    let short = length-take used text in
    omega (arith, short, ap length begins.front, length-append line (10 ∷ []), ap length none)

found_point : (thing : Option Thing) (point : ℕ) → point_in thing ≡ Some point → thing ≡ Some (PointThing point)
found_point None point is = cc
found_point (Some (PointThing place)) point is = ap (λ p. Some (PointThing p)) (same_Some place point is)
found_point (Some (ZoneThing place)) point is = cc
found_point (Some (OutputThing place)) point is = cc
found_point (Some (MarkerThing place)) point is = cc

point_has : (site : Site) → IsValid site → (name : List ℕ) (point : ℕ) → Some point ≡ point_of site name → name_at site (PointThing point) ≡ Some name
point_has site valid name point is =
    (thing_named_iff site valid.names name (PointThing point)).0 (found_point (thing_named site name) point (sym is))

mapped : {X Y : Type 0} (f : X → Y) (found : Option X) (y : Y) → option_map f found ≡ Some y → (x : X) × (found ≡ Some x)
mapped f None y is = cc
mapped f (Some x) y is = (x, refl)

pub point_within : (site : Site) → IsValid site → (name : List ℕ) (point : ℕ) → Some point ≡ point_of site name → point < length site.points
point_within site valid name point is =
    let there = mapped _ (slice_get site.points point) name (point_has site valid name point is) in
    slice_get_within site.points point there.0 there.1

-- a name and a state's word behind the first word
pub report_here : (site : Site) → IsValid site → (piece named name word : List ℕ) (state : PointState) (point used : ℕ) → take 6 piece ≡ codes "point "
    → named ≡ drop 6 piece → name ≡ before_space named → word ≡ after_space named → HasInFront (point_state_word state) word used
    → Some point ≡ point_of site name → HasInFront (line_text site (EventLine (PointEvent point state))) piece (7 + length name + used)
report_here site valid piece named name word state point used first behind is_name is_word begins is =
    let spelled : name_text site (PointThing point) ≡ name = ap known_name (point_has site valid name point is) in
    let some : after_space named ≡ [] → ⊥ = λ none. some_bytes (point_state_word state) word used begins (is_word ∙ none) in
    let parts : named ≡ name ++ 32 ∷ word =
    parted_text named some ∙ ap (λ n. n ++ 32 ∷ after_space named) (sym is_name) ∙ ap (λ w. name ++ 32 ∷ w) (sym is_word) in
    let front = (codes "point" ++ 32 ∷ name) ++ 32 ∷ [] in
    let whole : piece ≡ front ++ word =
    sym (take-append-drop 6 piece) ∙ ap (λ f. f ++ drop 6 piece) first ∙ ap (λ r. codes "point " ++ r) (sym behind ∙ parts)
    ∙ sym (append_assoc (codes "point" ++ 32 ∷ name) (32 ∷ []) word) in
    let text = append_assoc (codes "point" ++ 32 ∷ name) (32 ∷ []) (point_state_word state)
    ∙ ap (λ n. (codes "point" ++ 32 ∷ n) ++ 32 ∷ point_state_word state) (sym spelled) in
    let count : length front + used ≡ 7 + length name + used = omega (arith, length-append (codes "point" ++ 32 ∷ name) (32 ∷ [])) in
    let is_there = behind_append front (point_state_word state) word used begins in
    subst (λ n. HasInFront (line_text site (EventLine (PointEvent point state))) piece n) count
    (subst (λ t. HasInFront t piece (length front + used)) text (subst (λ p. HasInFront (front ++ point_state_word state) p (length front + used)) (sym whole) is_there))

six : (piece : List ℕ) → 6 ≤ length piece → take 6 piece ≡ get_or piece 0 0 ∷ get_or piece 1 0 ∷ get_or piece 2 0 ∷ get_or piece 3 0 ∷ get_or piece 4 0
    ∷ get_or piece 5 0 ∷ []
six [] long = absurd (omega (arith, long))
six (a ∷ piece) long = ap (λ t. a ∷ t) (five piece (omega (arith, long)))

pub point_word : (piece : List ℕ) → 6 ≤ length piece → get_or piece 0 0 ≡ 112 → get_or piece 1 0 ≡ 111 → get_or piece 2 0 ≡ 105 → get_or piece 3 0 ≡ 110
    → get_or piece 4 0 ≡ 116 → get_or piece 5 0 ≡ 32 → take 6 piece ≡ codes "point "
point_word piece long p o i n t space = six piece long ∙ rw (p, o, i, n, t, space) refl

pub report_brought : (site : Site) (reader : LineReader) (piece : List ℕ) (found : Option (ℕ × ℕ × PointState)) → reader.text.items ≡ []
    → 1 ≤ reader.so_far.ticks →
    IfSome found (λ f. HasInFront (line_text site (EventLine (PointEvent f.1 f.2))) piece f.0) → IfSome found (λ f. f.1 < length site.points)
    → IfSome found (λ f. Brings site reader (EventLine (PointEvent f.1 f.2)) piece f.0)
report_brought site reader piece None fresh due begins within = tt
report_brought site reader piece (Some found) fresh due begins within = record {
  fresh = fresh;
  text = begins;
  may_come = record { belongs = lt-ltb found.1 (length site.points) within; spelled = tt; due = due };
}
