-- A text with a line end behind it, read where a line begins.
use Rattle.std.proofs.Common.{◌≡◌, ◌∙◌, ◌+◌, ◌<◌, ◌≤◌, ◌++◌, inl, inr, ℕ, zero, suc, true, false, List, [], ◌∷◌, None}
use Rattle.std.proofs.Common.{length, get_or, take, drop, refl, sym, ap, subst, append_assoc, length-append, arith}
use Rattle.std.specs.Prelude.{◌==◌, nat_le}
use Rattle.std.specs.List.{list_all}
use Rattle.std.proofs.lemmas.Bool.{and_from, and_parts, cases_lt, leb-true, ne_eqb}
use Rattle.std.proofs.lemmas.List.{append-nil, take-append-le, take_all}
use Rattle.site_types.specs.Valid.{IsValid}
use Rattle.site_types.specs.declared.site.Site.{Site}
use Rattle.record_lines.specs.Judged.{judged, line_view}
use Rattle.record_lines.specs.Lines.{Cut, accepted, cut, is_printable, lines_read, reading_of, refused_rest, rest_by_ending, verdict}
use Rattle.record_lines.specs.Printed.{line_text}
use Rattle.record_lines.specs.ReadBack.{IsAnswer, IsBetweenLines, ReadsBack}
use Rattle.record_lines.specs.Stands.{Answers, Feeds, IsFirst, Tells, Uses}
use Rattle.record_lines.specs.declared.fed.Fed.{Fed}
use Rattle.record_lines.specs.declared.line.Line.{Line}
use Rattle.record_lines.specs.declared.reader.LineReader.{LineReader}
use Rattle.record_lines.specs.declared.step.Step.{Step}
use Rattle.record_lines.specs.declared.step.Step.TheVariants.{Need, Line as LineStep, Refused as RefusedStep}
use Rattle.record_lines.proofs.Cuts.{cut_end, cut_more}
use Rattle.record_lines.proofs.Joins.{IsLineText, fine_bytes}
use Rattle.record_lines.proofs.Openings.{no_rest, read_more, reading_behind}
use Rattle.record_lines.proofs.PrintedLines.{line_printed}
use Rattle.record_lines.proofs.Verdicts.{IsTextOf}

-- ---- a text goes on with the line

printable_goes_on : (byte : ℕ) → is_printable byte ≡ true → (byte == 10) ≡ false
printable_goes_on byte printable =
    let low = leb-true 32 byte (and_parts (nat_le 32 byte) (nat_le byte 126) printable).0 in
    ne_eqb byte 10 (λ e. omega (arith, e, low))

cut_text : (before text : List ℕ) → list_all is_printable text ≡ true
    → cut (before ++ text) ≡ record { whole = (cut before).whole; rest = (cut before).rest ++ text }
cut_text before [] printable =
    ap cut (append-nil before) ∙ ap (λ r. record { whole = (cut before).whole; rest = r }) (sym (append-nil (cut before).rest))
cut_text before (byte ∷ text) printable =
    let p = and_parts (is_printable byte) (list_all is_printable text) printable in
    let one = cut_more before byte (printable_goes_on byte p.0) in
    ap cut (sym (append_assoc before (byte ∷ []) text)) ∙ cut_text (before ++ byte ∷ []) text p.1 ∙ ap
    (λ (c : Cut). record { whole = c.whole; rest = c.rest ++ text }) one
    ∙ ap (λ r. record { whole = (cut before).whole; rest = r }) (append_assoc (cut before).rest (byte ∷ []) text)

-- ---- readings

-- what was read where a line begins
at_beginning : (site : Site) (before : List ℕ) → (cut before).rest ≡ [] → reading_of site before ≡ lines_read site (cut before).whole
at_beginning site before fresh =
    let reading = lines_read site (cut before).whole in
    ap (λ r. rest_by_ending reading r reading.ending) fresh ∙ no_rest reading reading.ending

lines_go_on : (site : Site) (before : List ℕ) → IsBetweenLines site before → (lines_read site (cut before).whole).ending ≡ None
lines_go_on site before between = ap (λ r. r.ending) (sym (at_beginning site before between.fresh)) ∙ between.going

begun_line : (site : Site) (before text : List ℕ) → IsBetweenLines site before → list_all is_printable text ≡ true
    → cut (before ++ text) ≡ record { whole = (cut before).whole; rest = text }
begun_line site before text between printable =
    cut_text before text printable ∙ ap (λ r. record { whole = (cut before).whole; rest = r ++ text }) between.fresh

-- before its end a line changes nothing
quiet : (site : Site) (before text : List ℕ) → IsBetweenLines site before → IsLineText text
    → reading_of site (before ++ text) ≡ reading_of site before
quiet site before text between fine =
    let reading = lines_read site (cut before).whole in
    ap (λ (c : Cut). rest_by_ending (lines_read site c.whole) c.rest (lines_read site c.whole).ending)
    (begun_line site before text between fine.printable)
    ∙ ap (rest_by_ending reading text) (lines_go_on site before between) ∙ ap (refused_rest reading) (fine_bytes text 512 fine.printable fine.short)
    ∙ sym (at_beginning site before between.fresh)

-- at its end it is judged
read_line : (site : Site) (before text : List ℕ) → IsBetweenLines site before → IsLineText text →
    reading_of site (before ++ text ++ 10 ∷ []) ≡ verdict (reading_of site before) (judged site (reading_of site before).so_far text)
read_line site before text between fine =
    let whole = (cut before).whole in
    let ended : cut ((before ++ text) ++ 10 ∷ []) ≡ record { whole = whole ++ text ∷ []; rest = [] } =
    cut_end (before ++ text) 10 refl ∙ ap (λ (c : Cut). record { whole = c.whole ++ c.rest ∷ []; rest = [] })
    (begun_line site before text between fine.printable)
    in
    reading_behind site (before ++ text) 10 refl ∙ ap (λ (c : Cut). lines_read site c.whole) ended
    ∙ read_more site whole text (lines_go_on site before between) (fine_bytes text 512 fine.printable fine.short)
    ∙ ap (λ r. verdict r (judged site r.so_far text)) (sym (at_beginning site before between.fresh))

told : (site : Site) (line : Line) (text before : List ℕ) → IsBetweenLines site before → IsTextOf site (reading_of site before).so_far line text →
    reading_of site (before ++ text ++ 10 ∷ []) ≡ accepted (reading_of site before) (line_view line)
told site line text before between is = read_line site before text between is.bytes ∙ ap (verdict (reading_of site before)) is.says

-- ---- what a reader answers

front_printable : (text : List ℕ) (n : ℕ) → list_all is_printable text ≡ true → list_all is_printable (take n text) ≡ true
front_printable text zero printable = refl
front_printable [] (suc n) printable = refl
front_printable (byte ∷ text) (suc n) printable =
    let p = and_parts (is_printable byte) (list_all is_printable text) printable in
    and_from (is_printable byte) (list_all is_printable (take n text)) p.0 (front_printable text n p.1)

front_length : (text : List ℕ) (n : ℕ) → length (take n text) ≤ length text
front_length text zero = omega arith
front_length [] (suc n) = omega arith
front_length (byte ∷ text) (suc n) = omega (arith, front_length text n)

front_text : (text : List ℕ) (n : ℕ) → IsLineText text → IsLineText (take n text)
front_text text n fine =
    let short = fine.short in
    record { printable = front_printable text n fine.printable; short = omega (arith, front_length text n, short) }

-- bytes short of the line end bring nothing
part_quiet : (site : Site) (before text : List ℕ) (used : ℕ) → IsBetweenLines site before → IsLineText text → used ≤ length text →
    reading_of site (before ++ take used (text ++ 10 ∷ [])) ≡ reading_of site before
part_quiet site before text used between fine within =
    ap (λ t. reading_of site (before ++ t)) (take-append-le used text (10 ∷ []) within) ∙ quiet site before (take used text) between
    (front_text text used fine)

-- all of them bring the line
whole_told : (site : Site) (line : Line) (text before : List ℕ) (used : ℕ) → IsBetweenLines site before
    → IsTextOf site (reading_of site before).so_far line text → length text < used →
    reading_of site (before ++ take used (text ++ 10 ∷ [])) ≡ accepted (reading_of site before) (line_view line)
whole_told site line text before used between is past =
    ap (λ t. reading_of site (before ++ t)) (take_all used (text ++ 10 ∷ []) (omega (arith, past, length-append text (10 ∷ [])))) ∙ ap
    (reading_of site) (sym (append_assoc before text (10 ∷ [])))
    ∙ told site line text before between is

longer : (lines : List Line) (line : Line) → lines ++ line ∷ [] ≡ lines → ⊥
longer lines line same = omega (arith, ap length same, length-append lines (line ∷ []))

last_same : (lines : List Line) (a b : Line) → lines ++ a ∷ [] ≡ lines ++ b ∷ [] → a ≡ b
last_same [] a b same = ap (λ l. get_or l 0 a) same
last_same (x ∷ lines) a b same = last_same lines a b (ap (drop 1) same)

-- where an answer used so much
used_within : (site : Site) (before text : List ℕ) (used place : ℕ) → IsFirst site before (text ++ 10 ∷ []) used place → used ≤ length text + 1
used_within site before text used place first =
    let last = first.last in
    let within = first.within in
    omega (arith, last, within, length-append text (10 ∷ []))

by_step : (site : Site) (line : Line) (text before : List ℕ) (used : ℕ) (step : Step) → IsBetweenLines site before
    → IsTextOf site (reading_of site before).so_far line text →
    Tells (reading_of site before) (reading_of site (before ++ take used (text ++ 10 ∷ []))) step → Uses site before (text ++ 10 ∷ []) used step
    → IsAnswer line step × (used ≡ length text + 1)
by_step site line text before used Need between is tells uses =
    let past : length text < used = omega (arith, uses, length-append text (10 ∷ [])) in
    absurd
    (longer (reading_of site before).lines (line_view line)
    (sym (ap (λ r. r.lines) (whole_told site line text before used between is past)) ∙ tells.0))
by_step site line text before used (LineStep read) between is tells uses =
    let most = used_within site before text used uses.0 uses.1 in
    elim (cases_lt (length text) used) [
      | inl past ↦ (
        last_same (reading_of site before).lines (line_view read) (line_view line)
            (sym tells.0 ∙ ap (λ r. r.lines) (whole_told site line text before used between is past)),
        omega (arith, past, most),
      )
      | inr part ↦
          absurd
          (longer (reading_of site before).lines (line_view read)
          (sym tells.0 ∙ ap (λ r. r.lines) (part_quiet site before text used between is.bytes part)))
    ]
by_step site line text before used (RefusedStep refusal) between is tells uses =
    elim (cases_lt (length text) used) [
      | inl past ↦
          absurd
          (longer (reading_of site before).lines (line_view line)
          (sym (ap (λ r. r.lines) (whole_told site line text before used between is past)) ∙ tells.0))
      | inr part ↦ absurd (let none = sym tells.1 ∙ ap (λ r. r.ending) (part_quiet site before text used between is.bytes part) ∙ between.going in cc)
    ]

answered : (site : Site) (line : Line) (text before : List ℕ) → IsBetweenLines site before
    → IsTextOf site (reading_of site before).so_far line text →
    (fed : Fed) (reader : LineReader) → Feeds site before (text ++ 10 ∷ []) fed reader → IsAnswer line fed.step × (fed.used ≡ length text + 1)
answered site line text before between is fed reader feeds =
    let answers = subst (λ e. Answers site before (text ++ 10 ∷ []) fed e) between.going feeds.answers in
    by_step site line text before fed.used fed.step between is answers.0 answers.1

-- ---- printed lines

pub printed_back : (site : Site) → IsValid site → (line : Line) → ReadsBack site line (line_text site line)
printed_back site valid line before between may =
    let is = line_printed site valid (reading_of site before).so_far line may in
    record { told = told site line (line_text site line) before between is; answered = answered site line (line_text site line) before between is }
