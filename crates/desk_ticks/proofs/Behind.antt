-- The lines behind the first, as far as they were read.
use Rattle.std.proofs.Common.{◌≡◌, ◌∙◌, ◌+◌, ◌<◌, ◌≤◌, ◌++◌, ◌==◌, not, ℕ, Bool, true, false, List, [], ◌∷◌, length, take, drop, take-append-drop}
use Rattle.std.proofs.Common.{Option, Some, None, refl, sym, ap, subst, arith, append_assoc, append-nil, length-append}
use Rattle.std.proofs.lemmas.Bool.{ne_eqb}
use Rattle.site_types.specs.declared.event.Event.{Event as SiteEvent}
use Rattle.site_types.specs.declared.site.Site.{Site}
use Rattle.tick_units.specs.declared.seat.Seat.{Seat as SeatOf}
use Rattle.tick_units.specs.declared.tick.Tick.{Tick as TickOf}
use Rattle.record_lines.specs.Judged.{line_view}
use Rattle.record_lines.specs.Lines.{accepted, at_start, cut, ends_with, reading_of}
use Rattle.record_lines.specs.Stands.{StandsFor, Answers, Feeds, Tells, Uses}
use Rattle.record_lines.specs.declared.fed.Fed.{Fed}
use Rattle.record_lines.specs.declared.line.Line.{Line}
use Rattle.record_lines.specs.declared.line.Line.TheVariants.{Tick, Event, Order, End}
use Rattle.record_lines.specs.declared.over.Over.{Over}
use Rattle.record_lines.specs.declared.over.Over.TheVariants.{Ended, Refused}
use Rattle.record_lines.specs.declared.reader.LineReader.{LineReader}
use Rattle.record_lines.specs.declared.step.Step.{Step}
use Rattle.record_lines.specs.declared.step.Step.TheVariants.{Need, Line as LineStep, Refused as RefusedStep}
use Rattle.record_readings.specs.OneLine.{EndsOneLine}
use Rattle.record_readings.proofs.Growths.{Grown, grown}
use Rattle.record_readings.proofs.LineEnds.{no_line, one_line}
use Rattle.desk_ticks.specs.declared.block_refusal.BlockRefusal.{BlockRefusal}
use Rattle.desk_ticks.specs.Blocks.{end_behind, first_line, tick_or, is_unfinished, reading_behind, refusal_behind, tick_among, tick_one}
use Rattle.desk_ticks.specs.Stops.{stop_by}
use Rattle.desk_ticks.proofs.Lines.{ended_rest, no_tick_more, within_rest}

-- so much of the lines behind the first was read: whole lines, none of them refused and none a tick's
pub record IsRead (site : Site) (all left : List ℕ) (reader : LineReader) (number : ℕ) : Type 0 where
  pub front : List ℕ
  pub is : all ≡ front ++ left
  pub reads : StandsFor site (first_line site ++ front) reader
  pub going : (reading_behind site front).ending ≡ None
  pub tail : List Line
  pub lines : (reading_behind site front).lines ≡ tick_one ∷ tail
  pub none : tick_among 2 tail ≡ None
  pub count : number ≡ length tail + 2
  pub fresh : (cut front).rest ≡ []
  pub few : number + length left ≤ length all + 2

pub whole_taken : (xs : List ℕ) → take (length xs) xs ≡ xs
whole_taken [] = refl
whole_taken (x ∷ xs) = ap (λ ys. x ∷ ys) (whole_taken xs)

some_unfinished : (rest : List ℕ) → 0 < length rest → not (length rest == 0) ≡ true
some_unfinished [] some = absurd (omega (arith, some))
some_unfinished (byte ∷ rest) some = ap not (ne_eqb (length (byte ∷ rest)) 0 (λ e. omega (arith, e)))

-- nothing of them was read yet
pub none_read : (site : Site) (all : List ℕ) (reader : LineReader) → StandsFor site (first_line site) reader
    → reading_of site (first_line site) ≡ accepted at_start tick_one → IsRead site all all reader 2
none_read site all reader stands reads =
    let bytes = append-nil (first_line site) in
    let same = ap (reading_of site) bytes ∙ reads in
    record {
      front = [];
      is = refl;
      reads = subst (λ xs. StandsFor site xs reader) (sym bytes) stands;
      going = ap (λ r. r.ending) same;
      tail = [];
      lines = ap (λ r. r.lines) same;
      none = refl;
      count = refl;
      fresh = refl;
      few = omega arith;
    }

pub nothing_read : (site : Site) (all : List ℕ) (reader : LineReader) → StandsFor site (first_line site) reader
    → reading_of site (first_line site) ≡ accepted at_start tick_one → (read : IsRead site all all reader 2) × (read.tail ≡ [])
unfolding none_read
nothing_read site all reader stands reads = (none_read site all reader stands reads, refl)

-- what was used of a piece
pub uses_fit : (site : Site) (before piece : List ℕ) (used : ℕ) (step : Step) → Uses site before piece used step → used ≤ length piece
uses_fit site before piece used Need uses = omega (arith, uses)
uses_fit site before piece used (LineStep line) uses = let last = uses.1.last in let within = uses.1.within in omega (arith, last, within)
uses_fit site before piece used (RefusedStep refusal) uses = let last = uses.1.last in let within = uses.1.within in omega (arith, last, within)

pub uses_some : (site : Site) (before piece : List ℕ) (used : ℕ) (step : Step) → 0 < length piece → Uses site before piece used step → 0 < used
uses_some site before piece used Need some uses = omega (arith, some, uses)
uses_some site before piece used (LineStep line) some uses = let last = uses.1.last in omega (arith, last)
uses_some site before piece used (RefusedStep refusal) some uses = let last = uses.1.last in omega (arith, last)

pub some_left : (left : List ℕ) → (length left == 0) ≡ false → 0 < length left
some_left [] e = absurd cc
some_left (byte ∷ left) e = omega arith

-- what is answered where another reading of the lines is known
by_lines : (site : Site) (all : List ℕ) (lines : List Line) (ending : Option Over) (unfinished : Bool) → (reading_behind site all).lines ≡ tick_one ∷ lines
    → (reading_behind site all).ending ≡ ending → is_unfinished all ≡ unfinished
    → refusal_behind site all ≡ tick_or (tick_among 2 lines) (end_behind (length lines + 1) ending unfinished)
by_lines site all lines ending unfinished e f g =
    ap (λ ls. tick_or (tick_among 2 (drop 1 ls)) (end_behind (length ls) (reading_behind site all).ending (is_unfinished all))) e
    ∙ ap (λ o. tick_or (tick_among 2 lines) (end_behind (length (tick_one ∷ lines)) o (is_unfinished all))) f
    ∙ ap (λ b. tick_or (tick_among 2 lines) (end_behind (length (tick_one ∷ lines)) ending b)) g
    ∙ ap (λ n. tick_or (tick_among 2 lines) (end_behind n ending unfinished)) (omega arith)

-- all was read
pub all_read : (site : Site) (all : List ℕ) (reader : LineReader) (number : ℕ) (left : List ℕ) → left ≡ [] → IsRead site all left reader number
    → refusal_behind site all ≡ None
all_read site all reader number left none h =
    let whole : all ≡ h.front = h.is ∙ ap (λ xs. h.front ++ xs) none ∙ append-nil h.front in
    by_lines site all h.tail None false (ap (λ xs. (reading_behind site xs).lines) whole ∙ h.lines)
    (ap (λ xs. (reading_behind site xs).ending) whole ∙ h.going)
    (ap is_unfinished whole ∙ ap (λ xs. not (length xs == 0)) h.fresh)
    ∙ ap (λ o. tick_or o (end_behind (length h.tail + 1) None false)) h.none

module _ (site : Site) (all left : List ℕ) (reader new_reader : LineReader) (number : ℕ) (fed : Fed) (h : IsRead site all left reader number) (some :
    0 < length left) (feeds : Feeds site (first_line site ++ h.front) left fed new_reader) where
  abbrev before : List ℕ
  before = first_line site ++ h.front

  abbrev more : List ℕ
  more = take fed.used left

  abbrev pub Told : Step → Type 0
  Told step = Tells (reading_of site before) (reading_of site (before ++ more)) step × Uses site before left fed.used step

  told : Told fed.step
  told = subst (Answers site before left fed) h.going feeds.answers

  -- all bytes are those that were read, those of this answer and the rest
  whole : first_line site ++ all ≡ (before ++ more) ++ drop fed.used left
  whole =
      ap (λ xs. first_line site ++ xs) h.is
      ∙ sym (append_assoc (first_line site) h.front left)
      ∙ ap (λ xs. before ++ xs) (sym (take-append-drop fed.used left))
      ∙ sym (append_assoc before more (drop fed.used left))

  goes_on : Grown (reading_of site (before ++ more)) (reading_behind site all)
  goes_on = subst (λ xs. Grown (reading_of site (before ++ more)) (reading_of site xs)) (sym whole) (grown site (before ++ more) (drop fed.used left))

  -- a line more was read
  line_lines : (line : Line) → (reading_of site (before ++ more)).lines ≡ (reading_of site before).lines ++ line_view line ∷ []
      → (reading_of site (before ++ more)).lines ≡ tick_one ∷ (h.tail ++ line_view line ∷ [])
  line_lines line e = e ∙ ap (λ ls. ls ++ line_view line ∷ []) h.lines

  one : (line : Line) (place : ℕ) → Told (LineStep line) → EndsOneLine more
  one line place t = one_line site before left fed.used t.1.0 (line_view line) h.going t.1.1 t.0.0

  -- it is none of a block
  stops_line : (line : Line) (tick : TickOf) → line_view line ≡ Tick tick → Told (LineStep line)
      → refusal_behind site all ≡ Some (record { line = number; number = 1 })
  stops_line line tick is t =
      let g = goes_on in
      let lines = g.lines ∙ ap (λ ls. ls ++ g.more) (line_lines line t.0.0) ∙ ap (λ ls. tick_one ∷ ls) (append_assoc h.tail (line_view line ∷ []) g.more) in
      let count = h.count in
      by_lines site all (h.tail ++ line_view line ∷ g.more) (reading_behind site all).ending (is_unfinished all) lines refl refl
      ∙ ap (λ o. tick_or o (end_behind (length (h.tail ++ line_view line ∷ g.more) + 1) (reading_behind site all).ending (is_unfinished all)))
      (no_tick_more 2 h.tail (line_view line ∷ g.more) h.none ∙ ap (λ l. tick_among (2 + length h.tail) (l ∷ g.more)) is
      ∙ ap (λ n. Some n) (omega (arith, count)))

  -- it is the line `end`
  stops_end : (line : Line) → line_view line ≡ End → Told (LineStep line) → refusal_behind site all ≡ Some (record { line = number; number = 1 })
  stops_end line is t =
      let ended : (reading_of site (before ++ more)).ending ≡ Some Ended = t.0.1 ∙ view_ends line ∙ ap ends_with is in
      let same = goes_on.stays Ended ended in
      let count = h.count in
      let sum = length-append h.tail (line_view line ∷ []) in
      by_lines site all (h.tail ++ line_view line ∷ []) (Some Ended) (is_unfinished all) (ap (λ r. r.lines) same ∙ line_lines line t.0.0)
      (ap (λ r. r.ending) same ∙ ended) refl
      ∙ ap (λ o. tick_or o (end_behind (length (h.tail ++ line_view line ∷ []) + 1) (Some Ended) (is_unfinished all)))
      (no_tick_more 2 h.tail (line_view line ∷ []) h.none ∙ ap (λ l. tick_among (2 + length h.tail) (l ∷ [])) is)
      ∙ ap (λ n. Some (record { line = n; number = 1 })) (omega (arith, count, sum))
    where
      view_ends : (line : Line) → ends_with line ≡ ends_with (line_view line)
      view_ends (Tick tick) = refl
      view_ends (Event event) = refl
      view_ends (Order order) = refl
      view_ends End = refl

  -- a block ends here
  pub stops : (step : Step) (refusal : BlockRefusal) → Told step → stop_by step number ≡ Some refusal → refusal_behind site all ≡ Some refusal
  stops Need refusal t e =
      let used = t.1 in
      let piece : more ≡ left = ap (λ n. take n left) used ∙ whole_taken left in
      let bytes : first_line site ++ all ≡ before ++ more =
      ap (λ xs. first_line site ++ xs) h.is ∙ sym (append_assoc (first_line site) h.front left) ∙ ap (λ xs. before ++ xs) (sym piece) in
      let lines = ap (λ xs. (reading_of site xs).lines) bytes ∙ t.0.0 ∙ h.lines in
      let going = ap (λ xs. (reading_of site xs).ending) bytes ∙ t.0.1 in
      let within = no_line site before more h.going t.0.1 t.0.0 in
      let rest : (cut all).rest ≡ left =
      ap (λ xs. (cut xs).rest) (h.is ∙ ap (λ xs. h.front ++ xs) (sym piece)) ∙ ap (λ c. c.rest) (within_rest h.front more within)
      ∙ ap (λ xs. xs ++ more) h.fresh ∙ piece in
      let count = h.count in
      by_lines site all h.tail None true lines going (ap (λ xs. not (length xs == 0)) rest ∙ some_unfinished left some)
      ∙ ap (λ o. tick_or o (end_behind (length h.tail + 1) None true)) h.none
      ∙ ap (λ n. Some (record { line = n; number = 1 })) (omega (arith, count)) ∙ e
  stops (LineStep (Tick tick)) refusal t e = stops_line (Tick tick) tick refl t ∙ e
  stops (LineStep (Event event)) refusal t e = absurd cc
  stops (LineStep (Order order)) refusal t e = absurd cc
  stops (LineStep End) refusal t e = stops_end End refl t ∙ e
  stops (RefusedStep refused) refusal t e =
      let same = goes_on.stays (Refused refused) t.0.1 in
      by_lines site all h.tail (Some (Refused refused)) (is_unfinished all) (ap (λ r. r.lines) same ∙ t.0.0 ∙ h.lines) (ap (λ r. r.ending) same ∙ t.0.1) refl
      ∙ ap (λ o. tick_or o (end_behind (length h.tail + 1) (Some (Refused refused)) (is_unfinished all))) h.none ∙ e

  -- the line is one of the block, and the next may be read
  goes_line : (line : Line) → ends_with line ≡ None → tick_among (2 + length h.tail) (line_view line ∷ []) ≡ None → Told (LineStep line)
      → IsRead site all (drop fed.used left) new_reader (number + 1)
  goes_line line ends none t =
      let one_more = one line 0 t in
      let count = h.count in
      let few = h.few in
      let sum = length-append h.tail (line_view line ∷ []) in
      let parts = ap (λ (xs : List ℕ). length xs) (take-append-drop fed.used left) in
      let parts_sum = length-append more (drop fed.used left) in
      let taken = ap (λ (xs : List ℕ). length xs) one_more.is ∙ length-append one_more.text (10 ∷ []) in
      let bytes = append_assoc (first_line site) h.front more in
      record {
        front = h.front ++ more;
        is = h.is ∙ ap (λ xs. h.front ++ xs) (sym (take-append-drop fed.used left)) ∙ sym (append_assoc h.front more (drop fed.used left));
        reads = subst (λ xs. StandsFor site xs new_reader) bytes feeds.stands;
        going = ap (λ xs. (reading_of site xs).ending) (sym bytes) ∙ t.0.1 ∙ ends;
        tail = h.tail ++ line_view line ∷ [];
        lines = ap (λ xs. (reading_of site xs).lines) (sym bytes) ∙ line_lines line t.0.0;
        none = no_tick_more 2 h.tail (line_view line ∷ []) h.none ∙ none;
        count = omega (arith, count, sum);
        fresh = ap (λ xs. (cut (h.front ++ xs)).rest) one_more.is ∙ ended_rest h.front one_more.text;
        few = omega (arith, few, parts, parts_sum, taken);
      }

  pub goes : (step : Step) → Told step → stop_by step number ≡ None → IsRead site all (drop fed.used left) new_reader (number + 1)
  goes Need t e = absurd cc
  goes (LineStep (Tick tick)) t e = absurd cc
  goes (LineStep (Event event)) t e = goes_line (Event event) refl refl t
  goes (LineStep (Order order)) t e = goes_line (Order order) refl refl t
  goes (LineStep End) t e = absurd cc
  goes (RefusedStep refused) t e = absurd cc

  pub told_so : Told fed.step
  told_so = told

  -- some of the rest was used, and no more
  pub used_fits : fed.used ≤ length left
  used_fits = uses_fit site before left fed.used fed.step told.1

  pub used_some : 0 < fed.used
  used_some = uses_some site before left fed.used fed.step some told.1

  -- a block ends here, or the next line may be read
  pub stops_here : (refusal : BlockRefusal) → stop_by fed.step number ≡ Some refusal → refusal_behind site all ≡ Some refusal
  stops_here refusal e = stops fed.step refusal told e

  pub goes_here : stop_by fed.step number ≡ None → IsRead site all (drop fed.used left) new_reader (number + 1)
  goes_here e = goes fed.step told e

  -- an event or an order more was read
  pub goes_event : (event : SiteEvent) → LineStep (Event event) ≡ fed.step
      → (read : IsRead site all (drop fed.used left) new_reader (number + 1)) × (read.tail ≡ h.tail ++ line_view (Event event) ∷ [])
  unfolding goes_line
  goes_event event is = (goes_line (Event event) refl refl (subst Told (sym is) told), refl)

  pub goes_order : (order : List SeatOf) → LineStep (Order order) ≡ fed.step
      → (read : IsRead site all (drop fed.used left) new_reader (number + 1)) × (read.tail ≡ h.tail ++ line_view (Order order) ∷ [])
  unfolding goes_line
  goes_order order is = (goes_line (Order order) refl refl (subst Told (sym is) told), refl)
