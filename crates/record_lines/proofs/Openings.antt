-- A reader that waits, and what a byte more makes of it.
use Rattle.std.proofs.Common.{◌≡◌, ◌∙◌, ◌<◌, ◌≤◌, ◌++◌, ℕ, true, false, List, [], ◌∷◌, Option, Some, None, Ok, Err, inl, inr, length, refl, sym, ap, subst, arith}
use Rattle.std.specs.Prelude.{◌==◌, ◌⊎◌}
use Rattle.std.proofs.lemmas.Bool.{cases_lt, eq-eqb}
use Rattle.std.proofs.lemmas.List.Sums.{fold_push}
use Rattle.site_types.specs.declared.site.Site.{Site}
use Rattle.record_lines.specs.Judged.{judged, line_view}
use Rattle.record_lines.specs.Lines.{Reading, at_start, accepted, by_bytes, by_ending, byte_refusal, cut, ends_with}
use Rattle.record_lines.specs.Lines.{is_printable, lines_read, next_line, next_number, reading_of, refused}
use Rattle.record_lines.specs.Lines.{refused_rest, rest_by_ending, stands_behind, verdict, with_rest}
use Rattle.record_lines.specs.Stands.{Accepts, EndsLine, IsOpen, Refuses, StandsBy, Stops, TakesByte, TakesLine, Tells}
use Rattle.record_lines.specs.declared.line.Line.{Line}
use Rattle.record_lines.specs.declared.line.Line.TheVariants.{Tick, Event, Order, End}
use Rattle.record_lines.specs.declared.step.Step.{Step}
use Rattle.record_lines.specs.declared.step.Step.TheVariants.{Need, Line as LineStep, Refused as RefusedStep}
use Rattle.record_lines.specs.declared.over.Over.{Over}
use Rattle.record_lines.specs.declared.over.Over.TheVariants.{Refused}
use Rattle.record_lines.specs.declared.reader.LineReader.{LineReader}
use Rattle.record_lines.specs.declared.ticks_so_far.TicksSoFar.{TicksSoFar}
use Rattle.record_lines.specs.declared.why.Why.{Why}
use Rattle.record_lines.specs.declared.why.Why.TheVariants.{LineTooLong, NotAscii}
use Rattle.record_lines.proofs.Cuts.{cut_more, cut_end}
use Rattle.record_lines.proofs.Refusals.{fine_more, bad_more, long_more}

-- ---- readings

-- a reader that waits has read the whole lines and no more
pub open_is : (site : Site) (bytes : List ℕ) (reader : LineReader) → IsOpen site bytes reader
    → reading_of site bytes ≡ lines_read site (cut bytes).whole
open_is site bytes reader waiting =
    ap (rest_by_ending (lines_read site (cut bytes).whole) (cut bytes).rest) waiting.going ∙ ap (refused_rest (lines_read site (cut bytes).whole))
    waiting.fine

-- one whole line more
pub read_more : (site : Site) (whole : List (List ℕ)) (text : List ℕ) → (lines_read site whole).ending ≡ None → byte_refusal text ≡ None →
    lines_read site (whole ++ text ∷ []) ≡ verdict (lines_read site whole) (judged site (lines_read site whole).so_far text)
read_more site whole text going fine =
    fold_push (next_line site) at_start whole text ∙ ap (by_ending site (lines_read site whole) text) going ∙ ap
    (by_bytes site (lines_read site whole) text) fine

pub no_rest : (reading : Reading) (ending : Option Over) → rest_by_ending reading [] ending ≡ reading
no_rest reading None = refl
no_rest reading (Some over) = refl

-- the whole lines behind a line end
lines_behind : (site : Site) (bytes : List ℕ) (byte : ℕ) (reader : LineReader) → (byte == 10) ≡ true → IsOpen site bytes reader →
    lines_read site (cut (bytes ++ byte ∷ [])).whole ≡ verdict (lines_read site (cut bytes).whole) (judged site reader.so_far reader.text.items)
lines_behind site bytes byte reader is waiting =
    ap (λ c. lines_read site c.whole) (cut_end bytes byte is) ∙ read_more site (cut bytes).whole (cut bytes).rest waiting.going waiting.fine
    ∙ ap (λ s. verdict (lines_read site (cut bytes).whole) (judged site s (cut bytes).rest)) (sym waiting.stands)
    ∙ ap (λ t. verdict (lines_read site (cut bytes).whole) (judged site reader.so_far t)) (sym waiting.keeps)

rest_behind : (bytes : List ℕ) (byte : ℕ) → (byte == 10) ≡ true → (cut (bytes ++ byte ∷ [])).rest ≡ []
rest_behind bytes byte is = ap (λ c. c.rest) (cut_end bytes byte is)

-- and what was read behind it
pub reading_behind : (site : Site) (bytes : List ℕ) (byte : ℕ) → (byte == 10) ≡ true
    → reading_of site (bytes ++ byte ∷ []) ≡ lines_read site (cut (bytes ++ byte ∷ [])).whole
reading_behind site bytes byte is =
    let reading = lines_read site (cut (bytes ++ byte ∷ [])).whole in
    ap (λ t. rest_by_ending reading t reading.ending) (rest_behind bytes byte is) ∙ no_rest reading reading.ending

-- ---- a byte that goes on with a line

pub pushed : (site : Site) (bytes : List ℕ) (byte : ℕ) (old reader : LineReader) → (byte == 10) ≡ false → length old.text.items < 512
    → is_printable byte ≡ true →
    reader.over ≡ None → reader.so_far ≡ old.so_far → reader.number ≡ old.number → reader.text.items ≡ old.text.items ++ byte ∷ [] →
    IsOpen site bytes old → TakesByte site bytes byte reader Need
pushed site bytes byte old reader other few good over stands counts keeps waiting =
    let c = cut bytes in
    let e = cut_more bytes byte other in
    let few_rest : length c.rest < 512 = omega (arith, ap length waiting.keeps, few) in
    let on : IsOpen site (bytes ++ byte ∷ []) reader = record {
      going = ap (λ k. (lines_read site k.whole).ending) e ∙ waiting.going;
      stands = stands ∙ waiting.stands ∙ sym (ap (λ k. (lines_read site k.whole).so_far) e);
      counts = counts ∙ waiting.counts ∙ sym (ap (λ k. (lines_read site k.whole).number) e);
      keeps = keeps ∙ ap (λ t. t ++ byte ∷ []) waiting.keeps ∙ sym (ap (λ k. k.rest) e);
      fine = ap (λ k. byte_refusal k.rest) e ∙ fine_more c.rest 512 byte waiting.fine few_rest good;
    } in
    let at : reading_of site (bytes ++ byte ∷ []) ≡ lines_read site (cut (bytes ++ byte ∷ [])).whole = open_is site (bytes ++ byte ∷ []) reader on in
    record {
      stands = subst (λ o. StandsBy site (bytes ++ byte ∷ []) reader o) (sym over) on;
      tells = (
        ap (λ r. r.lines) at ∙ ap (λ k. (lines_read site k.whole).lines) e ∙ sym (ap (λ r. r.lines) (open_is site bytes old waiting)),
        ap (λ r. r.ending) at ∙ on.going,
      );
    }

-- ---- refusals

-- what was read is refused
told_refused : (site : Site) (bytes : List ℕ) (byte : ℕ) (why : Why) (old reader : LineReader) (step : Step) →
    reading_of site (bytes ++ byte ∷ []) ≡ refused (lines_read site (cut bytes).whole) why → IsOpen site bytes old → Refuses old why reader step
    → TakesByte site bytes byte reader step
told_refused site bytes byte why old reader step is waiting refuses =
    let ending : (reading_of site (bytes ++ byte ∷ [])).ending ≡ Some (Refused (record { line = old.number; why = why })) =
    ap (λ r. r.ending) is ∙ sym (ap (λ n. Some (Refused (record { line = n; why = why }))) waiting.counts) in
    record {
      stands = subst (λ o. StandsBy site (bytes ++ byte ∷ []) reader o) (sym refuses.over) ending;
      tells = subst (λ s. Tells (reading_of site bytes) (reading_of site (bytes ++ byte ∷ [])) s) (sym refuses.told) (
        ap (λ r. r.lines) is ∙ sym (ap (λ r. r.lines) (open_is site bytes old waiting)),
        ending,
      );
    }

bad_rest : (site : Site) (bytes : List ℕ) (byte : ℕ) (why : Why) (old : LineReader) → (byte == 10) ≡ false
    → byte_refusal ((cut bytes).rest ++ byte ∷ []) ≡ Some why → IsOpen site bytes old →
    reading_of site (bytes ++ byte ∷ []) ≡ refused (lines_read site (cut bytes).whole) why
bad_rest site bytes byte why old other bad waiting =
    let reading = lines_read site (cut bytes).whole in
    ap (λ k. with_rest (lines_read site k.whole) k.rest) (cut_more bytes byte other) ∙ ap (rest_by_ending reading ((cut bytes).rest ++ byte ∷ []))
    waiting.going ∙ ap (refused_rest reading) bad

pub too_long : (site : Site) (bytes : List ℕ) (byte : ℕ) (old reader : LineReader) (step : Step) → (byte == 10) ≡ false
    → 512 ≤ length old.text.items →
    Refuses old LineTooLong reader step → IsOpen site bytes old → TakesByte site bytes byte reader step
too_long site bytes byte old reader step other many refuses waiting =
    let many_rest : 512 ≤ length (cut bytes).rest = omega (arith, ap length waiting.keeps, many) in
    told_refused site bytes byte LineTooLong old reader step
    (bad_rest site bytes byte LineTooLong old other (long_more (cut bytes).rest 512 byte waiting.fine many_rest) waiting) waiting refuses

pub not_ascii : (site : Site) (bytes : List ℕ) (byte : ℕ) (old reader : LineReader) (step : Step) → (byte == 10) ≡ false → length old.text.items < 512
    → is_printable byte ≡ false →
    Refuses old NotAscii reader step → IsOpen site bytes old → TakesByte site bytes byte reader step
not_ascii site bytes byte old reader step other few bad refuses waiting =
    let few_rest : length (cut bytes).rest < 512 = omega (arith, ap length waiting.keeps, few) in
    told_refused site bytes byte NotAscii old reader step
    (bad_rest site bytes byte NotAscii old other (bad_more (cut bytes).rest 512 byte waiting.fine few_rest bad) waiting) waiting refuses

-- ---- a line end

view_stands : (so_far : TicksSoFar) (line : Line) → stands_behind so_far (line_view line) ≡ stands_behind so_far line
view_stands so_far (Tick tick) = refl
view_stands so_far (Event event) = refl
view_stands so_far (Order order) = refl
view_stands so_far End = refl

view_ends : (line : Line) → ends_with (line_view line) ≡ ends_with line
view_ends (Tick tick) = refl
view_ends (Event event) = refl
view_ends (Order order) = refl
view_ends End = refl

-- behind a line the reader waits, or is over
stands_as : (site : Site) (bytes : List ℕ) (reader : LineReader) (ending : Option Over) → reading_of site bytes ≡ lines_read site (cut bytes).whole →
    (lines_read site (cut bytes).whole).ending ≡ ending → reader.so_far ≡ (lines_read site (cut bytes).whole).so_far
    → reader.number ≡ (lines_read site (cut bytes).whole).number →
    reader.text.items ≡ (cut bytes).rest → byte_refusal (cut bytes).rest ≡ None → StandsBy site bytes reader ending
stands_as site bytes reader None is ends stands counts keeps fine =
    record { going = ends; stands = stands; counts = counts; keeps = keeps; fine = fine }
stands_as site bytes reader (Some over) is ends stands counts keeps fine = ap (λ r. r.ending) is ∙ ends

line_told : (site : Site) (bytes : List ℕ) (byte : ℕ) (old reader : LineReader) (line : Line) → (byte == 10) ≡ true → old.over ≡ None →
    judged site old.so_far old.text.items ≡ Ok (line_view line) → Accepts old line reader → IsOpen site bytes old
    → TakesByte site bytes byte reader (LineStep line)
line_told site bytes byte old reader line is waits says accepts waiting =
    let before = lines_read site (cut bytes).whole in
    let whole : lines_read site (cut (bytes ++ byte ∷ [])).whole ≡ accepted before (line_view line) =
    lines_behind site bytes byte old is waiting ∙ ap (verdict before) says in
    let at = reading_behind site bytes byte is in
    let rest = rest_behind bytes byte is in
    let ends : (lines_read site (cut (bytes ++ byte ∷ [])).whole).ending ≡ ends_with line = ap (λ r. r.ending) whole ∙ view_ends line in
    let stood =
    accepts.stands ∙ ap (λ s. stands_behind s line) waiting.stands ∙ sym (view_stands before.so_far line) ∙ sym (ap (λ r. r.so_far) whole) in
    let counted = accepts.counts ∙ ap next_number waiting.counts ∙ sym (ap (λ r. r.number) whole) in
    let by = stands_as site (bytes ++ byte ∷ []) reader (ends_with line) at ends stood counted (accepts.keeps ∙ sym rest) (ap byte_refusal rest) in
    record {
      stands = subst (λ o. StandsBy site (bytes ++ byte ∷ []) reader o) (sym (accepts.ends waits)) by;
      tells = (
        ap (λ r. r.lines) at ∙ ap (λ r. r.lines) whole ∙ sym (ap (λ r. r.lines ++ line_view line ∷ []) (open_is site bytes old waiting)),
        ap (λ r. r.ending) at ∙ ends,
      );
    }

line_refused : (site : Site) (bytes : List ℕ) (byte : ℕ) (why : Why) (old reader : LineReader) (step : Step) → (byte == 10) ≡ true →
    judged site old.so_far old.text.items ≡ Err why → Refuses old why reader step → IsOpen site bytes old → TakesByte site bytes byte reader step
line_refused site bytes byte why old reader step is says refuses waiting =
    let before = lines_read site (cut bytes).whole in
    told_refused site bytes byte why old reader step
    (reading_behind site bytes byte is ∙ lines_behind site bytes byte old is waiting ∙ ap (verdict before) says) waiting refuses

pub line_taken : (site : Site) (bytes : List ℕ) (byte : ℕ) (old reader : LineReader) (step : Step) → (byte == 10) ≡ true → old.over ≡ None →
    TakesLine site old reader step → IsOpen site bytes old → TakesByte site bytes byte reader step
line_taken site bytes byte old reader Need is waits takes waiting = absurd takes
line_taken site bytes byte old reader (LineStep line) is waits takes waiting =
    line_told site bytes byte old reader line is waits takes.0 takes.1 waiting
line_taken site bytes byte old reader (RefusedStep refusal) is waits takes waiting =
    line_refused site bytes byte takes.0 old reader (RefusedStep refusal) is takes.1 takes.2 waiting

-- a line that was judged ends it
pub line_ends : (site : Site) (old reader : LineReader) (step : Step) → TakesLine site old reader step → EndsLine step
line_ends site old reader Need takes = takes
line_ends site old reader (LineStep line) takes = tt
line_ends site old reader (RefusedStep refusal) takes = tt

-- a byte that a line has room for stops it since it isn't printable
pub bad_byte : (old : LineReader) (byte : ℕ) → Stops old byte → length old.text.items < 512 → is_printable byte ≡ false
bad_byte old byte (inl many) few = absurd (omega (arith, many, few))
bad_byte old byte (inr bad) few = bad

pub few_from : (n : ℕ) → (n == 512) ≡ false → n ≤ 512 → n < 512
few_from n other most = below (cases_lt n 512)
  where
    below : (n < 512) ⊎ (512 ≤ n) → n < 512
    below (inl few) = few
    below (inr many) = let full : (n == 512) ≡ true = eq-eqb n 512 (omega (arith, many, most)) in let no : false ≡ true = sym other ∙ full in cc
