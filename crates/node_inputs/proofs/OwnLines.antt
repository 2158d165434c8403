-- The lines behind the first of a block of a panel by itself, as far as they were read.
use Rattle.std.proofs.Common.{◌≡◌, ◌∙◌, ◌+◌, ◌<◌, ◌++◌, ◌==◌, ℕ, Bool, true, false, List, [], ◌∷◌, length, take, drop, take-append-drop, if◌then◌else◌}
use Rattle.std.proofs.Common.{Option, Some, None, refl, sym, ap, subst, arith, append_assoc, append-nil}
use Rattle.std.proofs.lemmas.Bool.{eqb-true}
use Rattle.site_types.specs.declared.event.Event.{Event as SiteEvent}
use Rattle.site_types.specs.declared.event.Event.TheVariants.{Point, Cable, Supply, Link, Confirmed, Op}
use Rattle.site_types.specs.declared.site.Site.{Site}
use Rattle.record_lines.specs.Events.{event_view}
use Rattle.record_lines.specs.Judged.{line_view}
use Rattle.record_lines.specs.Lines.{accepted, at_start, reading_of}
use Rattle.record_lines.specs.Stands.{Feeds, StandsFor}
use Rattle.record_lines.specs.declared.fed.Fed.{Fed}
use Rattle.record_lines.specs.declared.line.Line.{Line}
use Rattle.record_lines.specs.declared.line.Line.TheVariants.{Tick, Event, Order, End}
use Rattle.record_lines.specs.declared.over.Over.TheVariants.{Refused}
use Rattle.record_lines.specs.declared.reader.LineReader.{LineReader}
use Rattle.record_lines.specs.declared.step.Step.{Step}
use Rattle.record_lines.specs.declared.step.Step.TheVariants.{Need, Line as LineStep, Refused as RefusedStep}
use Rattle.record_readings.proofs.Growths.{Grown, grown}
use Rattle.desk_ticks.specs.declared.block_refusal.BlockRefusal.{BlockRefusal}
use Rattle.desk_ticks.specs.Blocks.{first_line, reading_behind, refusal_behind, tick_one}
use Rattle.desk_ticks.specs.Stops.{stop_by}
use Rattle.desk_ticks.proofs.Behind.{IsRead, Told, all_read as none_refused, goes_event, nothing_read, stops, told_so, whole_taken}
use Rattle.node_inputs.specs.OwnEvents.{is_event_of}
use Rattle.node_inputs.specs.OwnBlocks.{foreign_line, foreign_or, names_none, own_refusal, own_refusal_behind, own_stop_by}

-- ---- lines

-- they are events of the panel
abbrev pub AllOwn : Site → ℕ → List Line → Type 0
AllOwn site panel [] = Unit {0}
AllOwn site panel (Event event ∷ lines) = (is_event_of site panel event ≡ true) × AllOwn site panel lines
AllOwn site panel (Tick tick ∷ lines) = ⊥
AllOwn site panel (Order order ∷ lines) = ⊥
AllOwn site panel (End ∷ lines) = ⊥

-- whose an event is stays as it is viewed
viewed : (site : Site) (panel : ℕ) (event : SiteEvent) → is_event_of site panel (event_view event) ≡ is_event_of site panel event
viewed site panel (Point point state) = refl
viewed site panel (Cable other line piece state) = refl
viewed site panel (Supply other kind bad) = refl
viewed site panel (Link link up) = refl
viewed site panel (Confirmed output) = refl
viewed site panel (Op other code operation) = refl

own_more : (site : Site) (panel : ℕ) (lines : List Line) (event : SiteEvent) → AllOwn site panel lines → is_event_of site panel event ≡ true
    → AllOwn site panel (lines ++ Event event ∷ [])
own_more site panel [] event all own = (own, tt)
own_more site panel (Event other ∷ lines) event all own = (all.0, own_more site panel lines event all.1 own)
own_more site panel (Tick tick ∷ lines) event all own = absurd all
own_more site panel (Order order ∷ lines) event all own = absurd all
own_more site panel (End ∷ lines) event all own = absurd all

-- none of these is foreign
past_own : (site : Site) (panel number : ℕ) (lines more : List Line) → AllOwn site panel lines
    → foreign_line site panel number (lines ++ more) ≡ foreign_line site panel (number + length lines) more
past_own site panel number [] more all = ap (λ n. foreign_line site panel n more) (omega arith)
past_own site panel number (Event event ∷ lines) more all =
    rw all.0 (past_own site panel (number + 1) lines more all.1 ∙ ap (λ n. foreign_line site panel n more) (omega arith))
past_own site panel number (Tick tick ∷ lines) more all = absurd all
past_own site panel number (Order order ∷ lines) more all = absurd all
past_own site panel number (End ∷ lines) more all = absurd all

none_foreign : (site : Site) (panel number : ℕ) (lines : List Line) → AllOwn site panel lines → foreign_line site panel number lines ≡ None
none_foreign site panel number lines all = ap (foreign_line site panel number) (sym (append-nil lines)) ∙ past_own site panel number lines [] all

-- ---- what was read

-- so much of the lines behind the first was read: whole lines, each an event of the panel
pub record IsOwnRead (site : Site) (panel : ℕ) (all left : List ℕ) (reader : LineReader) (number : ℕ) : Type 0 where
  pub read : IsRead site all left reader number
  pub own : AllOwn site panel read.tail

pub nothing_own : (site : Site) (panel : ℕ) (all : List ℕ) (reader : LineReader) → StandsFor site (first_line site) reader
    → reading_of site (first_line site) ≡ accepted at_start tick_one → IsOwnRead site panel all all reader 2
nothing_own site panel all reader stands reads =
    let none = nothing_read site all reader stands reads in
    record { read = none.0; own = subst (AllOwn site panel) (sym none.1) tt }

-- what is answered where the lines are known
by_own_lines : (site : Site) (panel : ℕ) (all : List ℕ) (lines : List Line) (found : Option ℕ) (refusal : Option BlockRefusal)
    → (reading_behind site all).lines ≡ tick_one ∷ lines → foreign_line site panel 2 lines ≡ found → refusal_behind site all ≡ refusal
    → own_refusal_behind site panel all ≡ foreign_or found refusal
by_own_lines site panel all lines found refusal is foreign refused =
    ap (λ ls. foreign_or (foreign_line site panel 2 (drop 1 ls)) (refusal_behind site all)) is
    ∙ ap (λ o. foreign_or o (refusal_behind site all)) foreign
    ∙ ap (foreign_or found) refused

pub none_left : (left : List ℕ) → (length left == 0) ≡ true → left ≡ []
none_left [] e = refl
none_left (byte ∷ left) e = absurd (let none = eqb-true (length (byte ∷ left)) 0 e in omega (arith, none))

-- all was read
pub own_all_read : (site : Site) (panel : ℕ) (all : List ℕ) (reader : LineReader) (number : ℕ) (left : List ℕ) → left ≡ []
    → IsOwnRead site panel all left reader number → own_refusal_behind site panel all ≡ None
own_all_read site panel all reader number left none h =
    let whole : all ≡ h.read.front = h.read.is ∙ ap (λ xs. h.read.front ++ xs) none ∙ append-nil h.read.front in
    by_own_lines site panel all h.read.tail None None (ap (λ xs. (reading_behind site xs).lines) whole ∙ h.read.lines)
    (none_foreign site panel 2 h.read.tail h.own) (none_refused site all reader number left none h.read)

module _ (site : Site) (panel : ℕ) (all left : List ℕ) (reader new_reader : LineReader) (number : ℕ) (fed : Fed)
    (h : IsOwnRead site panel all left reader number) (some : 0 < length left) (feeds : Feeds site (first_line site ++ h.read.front) left fed new_reader) where
  abbrev before : List ℕ
  before = first_line site ++ h.read.front

  abbrev more : List ℕ
  more = take fed.used left

  abbrev ToldOf : Step → Type 0
  ToldOf step = Told site all left reader new_reader number fed h.read some feeds step

  whole : first_line site ++ all ≡ (before ++ more) ++ drop fed.used left
  whole =
      ap (λ xs. first_line site ++ xs) h.read.is
      ∙ sym (append_assoc (first_line site) h.read.front left)
      ∙ ap (λ xs. before ++ xs) (sym (take-append-drop fed.used left))
      ∙ sym (append_assoc before more (drop fed.used left))

  goes_on : Grown (reading_of site (before ++ more)) (reading_behind site all)
  goes_on = subst (λ xs. Grown (reading_of site (before ++ more)) (reading_of site xs)) (sym whole) (grown site (before ++ more) (drop fed.used left))

  -- the lines where one more was read
  with_line : (line : Line) → ToldOf (LineStep line) → (rest : List Line) × ((reading_behind site all).lines ≡ tick_one ∷ (h.read.tail ++ line_view line ∷ rest))
  with_line line t =
      let g = goes_on in (
        g.more,
        g.lines ∙ ap (λ ls. ls ++ g.more) (t.0.0 ∙ ap (λ ls. ls ++ line_view line ∷ []) h.read.lines)
            ∙ ap (λ ls. tick_one ∷ ls) (append_assoc h.read.tail (line_view line ∷ []) g.more),
      )

  -- where a foreign one was
  pub foreign_found : (line : Line) → ToldOf (LineStep line)
      → ((n : ℕ) (rest : List Line) → foreign_line site panel n (line_view line ∷ rest) ≡ Some n)
      → own_refusal_behind site panel all ≡ Some (names_none number)
  foreign_found line t found =
      let lines = with_line line t in
      let count = h.read.count in
      by_own_lines site panel all (h.read.tail ++ line_view line ∷ lines.0) (Some number) (refusal_behind site all) lines.1
      (past_own site panel 2 h.read.tail (line_view line ∷ lines.0) h.own ∙ found (2 + length h.read.tail) lines.0 ∙ ap (λ n. Some n) (omega (arith, count)))
      refl

  -- where the lines end with one that is none of a block
  stopped_line : (line : Line) (refusal : BlockRefusal) → ToldOf (LineStep line)
      → ((n : ℕ) (rest : List Line) → foreign_line site panel n (line_view line ∷ rest) ≡ None)
      → refusal_behind site all ≡ Some refusal → own_refusal_behind site panel all ≡ Some (own_refusal refusal)
  stopped_line line refusal t none refused =
      let lines = with_line line t in
      by_own_lines site panel all (h.read.tail ++ line_view line ∷ lines.0) None (Some refusal) lines.1
      (past_own site panel 2 h.read.tail (line_view line ∷ lines.0) h.own ∙ none (2 + length h.read.tail) lines.0) refused

  -- where they end without one more
  stopped_there : (refusal : BlockRefusal) → (reading_behind site all).lines ≡ tick_one ∷ h.read.tail → refusal_behind site all ≡ Some refusal
      → own_refusal_behind site panel all ≡ Some (own_refusal refusal)
  stopped_there refusal lines refused =
      by_own_lines site panel all h.read.tail None (Some refusal) lines (none_foreign site panel 2 h.read.tail h.own) refused

  plain_stop : (step : Step) (refusal : BlockRefusal) → ToldOf step → stop_by step number ≡ Some refusal → refusal_behind site all ≡ Some refusal
  plain_stop step refusal t e = stops site all left reader new_reader number fed h.read some feeds step refusal t e

  -- a block ends here
  own_stops_at : (step : Step) (refusal : BlockRefusal) → ToldOf step → own_stop_by site panel step number ≡ Some refusal
      → own_refusal_behind site panel all ≡ Some refusal
  own_stops_at Need refusal t e =
      let piece : more ≡ left = ap (λ n. take n left) t.1 ∙ whole_taken left in
      let bytes : first_line site ++ all ≡ before ++ more =
      ap (λ xs. first_line site ++ xs) h.read.is ∙ sym (append_assoc (first_line site) h.read.front left) ∙ ap (λ xs. before ++ xs) (sym piece) in
      stopped_there (record { line = number; number = 1 }) (ap (λ xs. (reading_of site xs).lines) bytes ∙ t.0.0 ∙ h.read.lines)
      (plain_stop Need (record { line = number; number = 1 }) t refl) ∙ e
  own_stops_at (LineStep (Tick tick)) refusal t e =
      stopped_line (Tick tick) (record { line = number; number = 1 }) t (λ n rest. refl)
      (plain_stop (LineStep (Tick tick)) (record { line = number; number = 1 }) t refl) ∙ e
  own_stops_at (LineStep (Event event)) refusal t e =
      foreign_found (Event event) t (λ n rest. ap (λ b. if b then foreign_line site panel (n + 1) rest else Some n) (viewed site panel event ∙ foreign)) ∙ ap (λ (b : Bool). if b then None else Some (names_none number)) (sym foreign) ∙ e
    where
      not_own : (b : Bool) → (if b then None else Some (names_none number)) ≡ Some refusal → b ≡ false
      not_own true h = absurd cc
      not_own false h = refl

      foreign : is_event_of site panel event ≡ false
      foreign = not_own (is_event_of site panel event) e
  own_stops_at (LineStep (Order order)) refusal t e = foreign_found (Order order) t (λ n rest. refl) ∙ e
  own_stops_at (LineStep End) refusal t e =
      stopped_line End (record { line = number; number = 1 }) t (λ n rest. refl) (plain_stop (LineStep End) (record { line = number; number = 1 }) t refl) ∙ e
  own_stops_at (RefusedStep refused) refusal t e =
      let same = goes_on.stays (Refused refused) t.0.1 in
      stopped_there _ (ap (λ r. r.lines) same ∙ t.0.0 ∙ h.read.lines) (plain_stop (RefusedStep refused) _ t refl) ∙ e

  pub own_stops : (refusal : BlockRefusal) → own_stop_by site panel fed.step number ≡ Some refusal → own_refusal_behind site panel all ≡ Some refusal
  own_stops refusal e = own_stops_at fed.step refusal (told_so site all left reader new_reader number fed h.read some feeds) e

  -- the line is an event of the panel, and the next may be read
  pub own_goes_event : (event : SiteEvent) → LineStep (Event event) ≡ fed.step → is_event_of site panel event ≡ true
      → (next : IsOwnRead site panel all (drop fed.used left) new_reader (number + 1))
      × (next.read.tail ≡ h.read.tail ++ Event (event_view event) ∷ [])
  own_goes_event event is own =
      let next = goes_event site all left reader new_reader number fed h.read some feeds event is in (
        record {
          read = next.0;
          own = subst (AllOwn site panel) (sym next.1) (own_more site panel h.read.tail (event_view event) h.own (viewed site panel event ∙ own));
        },
        next.1,
      )

  own_goes_at : (step : Step) → step ≡ fed.step → own_stop_by site panel step number ≡ None
      → IsOwnRead site panel all (drop fed.used left) new_reader (number + 1)
  own_goes_at Need is e = absurd cc
  own_goes_at (LineStep (Tick tick)) is e = absurd cc
  own_goes_at (LineStep (Event event)) is e = (own_goes_event event is (is_own (is_event_of site panel event) e)).0
    where
      is_own : (b : Bool) → (if b then None else Some (names_none number)) ≡ None → b ≡ true
      is_own true h = refl
      is_own false h = absurd cc
  own_goes_at (LineStep (Order order)) is e = absurd cc
  own_goes_at (LineStep End) is e = absurd cc
  own_goes_at (RefusedStep refused) is e = absurd cc

  pub own_goes : own_stop_by site panel fed.step number ≡ None → IsOwnRead site panel all (drop fed.used left) new_reader (number + 1)
  own_goes e = own_goes_at fed.step refl e
