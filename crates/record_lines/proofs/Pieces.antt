-- What a piece brings, byte by byte.
use Rattle.std.proofs.Common.{◌≡◌, ◌∙◌, ◌+◌, ◌<◌, ◌≤◌, ◌++◌, ℕ, List, [], ◌∷◌, Some, None, length, get_or, take, refl, sym, ap, subst, append_assoc, length-append, arith}
use Rattle.std.proofs.lemmas.List.{append-nil, take_all, take_more}
use Rattle.std.proofs.lemmas.Option.{get_or_from_slice_get, slice_get_read}
use Rattle.site_types.specs.declared.site.Site.{Site}
use Rattle.record_lines.specs.Judged.{line_view}
use Rattle.record_lines.specs.Lines.{Reading, byte_refusal, cut, lines_read, reading_of}
use Rattle.record_lines.specs.Stands.{Answers, EndsLine, Feeds, IsFirst, IsOpen, Keeps, StandsBy, StandsFor, TakesByte, Tells, Uses, over_step}
use Rattle.record_lines.specs.declared.step.Step.{Step}
use Rattle.record_lines.specs.declared.step.Step.TheVariants.{Need, Line as LineStep, Refused as RefusedStep}
use Rattle.record_lines.specs.declared.over.Over.{Over}
use Rattle.record_lines.specs.declared.reader.LineReader.{LineReader}
use Rattle.record_lines.proofs.Cuts.{cut_on}
use Rattle.record_lines.proofs.Openings.{open_is}
use Rattle.record_lines.proofs.Refusals.{fine_on}

-- the reader waits behind these bytes, which brought nothing
pub record Ongoing (site : Site) (before bytes : List ℕ) (reader : LineReader) : Type 0 where
  pub waits : IsOpen site bytes reader
  pub same : (reading_of site bytes).lines ≡ (reading_of site before).lines

-- a reader that isn't over waits
waits_when : (site : Site) (before : List ℕ) (reader : LineReader) → reader.over ≡ None → StandsFor site before reader → IsOpen site before reader
waits_when site before reader over stands = subst (λ o. StandsBy site before reader o) over stands

grow : (before piece : List ℕ) (k : ℕ) → k < length piece → (before ++ take k piece) ++ get_or piece k 0 ∷ [] ≡ before ++ take (k + 1) piece
grow before piece k within = append_assoc before (take k piece) (get_or piece k 0 ∷ []) ∙ ap (λ t. before ++ t) (sym (take_more piece k 0 within))

no_ending : (site : Site) (bytes : List ℕ) (reader : LineReader) → IsOpen site bytes reader → (reading_of site bytes).ending ≡ None
no_ending site bytes reader waiting = ap (λ r. r.ending) (open_is site bytes reader waiting) ∙ waiting.going

-- the front of a piece, which is kept and brings nothing
ongoing_kept : (site : Site) (before piece : List ℕ) (count : ℕ) (old reader : LineReader) → Keeps old piece count reader → IsOpen site before old
    → Ongoing site before (before ++ take count piece) reader
ongoing_kept site before piece count old reader kept waiting =
    let front = take count piece in
    let e = cut_on before front kept.printable in
    let fits : length (cut before).rest + length front ≤ 512 =
    omega (arith, ap length waiting.keeps, ap length kept.text, length-append old.text.items front, kept.room) in
    let on : IsOpen site (before ++ front) reader = record {
      going = ap (λ k. (lines_read site k.whole).ending) e ∙ waiting.going;
      stands = kept.stands ∙ waiting.stands ∙ sym (ap (λ k. (lines_read site k.whole).so_far) e);
      counts = kept.counts ∙ waiting.counts ∙ sym (ap (λ k. (lines_read site k.whole).number) e);
      keeps = kept.text ∙ ap (λ t. t ++ front) waiting.keeps ∙ sym (ap (λ k. k.rest) e);
      fine = ap (λ k. byte_refusal k.rest) e ∙ fine_on (cut before).rest front 512 waiting.fine kept.printable fits;
    } in
    record {
      waits = on;
      same =
          ap (λ r. r.lines) (open_is site (before ++ front) reader on) ∙ ap (λ k. (lines_read site k.whole).lines) e ∙ sym
          (ap (λ r. r.lines) (open_is site before old waiting));
    }

tells_from : (earlier before after : Reading) (step : Step) → before.lines ≡ earlier.lines → Tells before after step → Tells earlier after step
tells_from earlier before after Need same tells = (tells.0 ∙ same, tells.1)
tells_from earlier before after (LineStep line) same tells = (tells.0 ∙ ap (λ lines. lines ++ line_view line ∷ []) same, tells.1)
tells_from earlier before after (RefusedStep refusal) same tells = (tells.0 ∙ same, tells.1)

first_at : (site : Site) (before piece : List ℕ) (k : ℕ) (old : LineReader) → k < length piece → Ongoing site before (before ++ take k piece) old
    → IsFirst site before piece (k + 1) k
first_at site before piece k old within ongoing =
    record { last = refl; within = within; same = ongoing.same; going = no_ending site (before ++ take k piece) old ongoing.waits }

fed_at : (site : Site) (before piece : List ℕ) (k : ℕ) (initial old reader : LineReader) (step : Step) → k < length piece
    → Uses site before piece (k + 1) step →
    TakesByte site (before ++ take k piece) (get_or piece k 0) reader step → Ongoing site before (before ++ take k piece) old
    → IsOpen site before initial →
    Feeds site before piece (record { used = k + 1; step = step }) reader
fed_at site before piece k initial old reader step within uses takes ongoing waiting =
    let tells = subst (λ b. Tells (reading_of site (before ++ take k piece)) (reading_of site b) step) (grow before piece k within) takes.tells in
    record {
      stands = subst (λ b. StandsFor site b reader) (grow before piece k within) takes.stands;
      answers = subst (λ e. Answers site before piece (record { used = k + 1; step = step }) e) (sym (no_ending site before initial waiting)) (
        tells_from (reading_of site before) (reading_of site (before ++ take k piece)) (reading_of site (before ++ take (k + 1) piece)) step
            ongoing.same tells,
        uses,
      );
    }

-- the byte behind the front ends the line, or is refused
fed_last : (site : Site) (before piece : List ℕ) (k : ℕ) (initial old reader : LineReader) (step : Step) → k < length piece → EndsLine step →
    TakesByte site (before ++ take k piece) (get_or piece k 0) reader step → Ongoing site before (before ++ take k piece) old
    → IsOpen site before initial →
    Feeds site before piece (record { used = k + 1; step = step }) reader
fed_last site before piece k initial old reader Need within ends takes ongoing waiting = absurd ends
fed_last site before piece k initial old reader (LineStep line) within ends takes ongoing waiting =
    fed_at site before piece k initial old reader (LineStep line) within (k, first_at site before piece k old within ongoing) takes ongoing waiting
fed_last site before piece k initial old reader (RefusedStep refusal) within ends takes ongoing waiting =
    fed_at site before piece k initial old reader (RefusedStep refusal) within (k, first_at site before piece k old within ongoing) takes ongoing
    waiting

-- no byte of the piece brought anything
fed_all : (site : Site) (before piece : List ℕ) (k : ℕ) (initial reader : LineReader) → length piece ≤ k → reader.over ≡ None →
    Ongoing site before (before ++ take k piece) reader → IsOpen site before initial
    → Feeds site before piece (record { used = length piece; step = Need }) reader
fed_all site before piece k initial reader past over ongoing waiting =
    let same : take k piece ≡ take (length piece) piece = take_all k piece past ∙ sym (take_all (length piece) piece (omega arith)) in
    let all = subst (λ t. Ongoing site before (before ++ t) reader) same ongoing in
    record {
      stands = subst (λ o. StandsBy site (before ++ take (length piece) piece) reader o) (sym over) all.waits;
      answers = subst (λ e. Answers site before piece (record { used = length piece; step = Need }) e) (sym (no_ending site before initial waiting)) (
        (all.same, no_ending site (before ++ take (length piece) piece) reader all.waits),
        refl,
      );
    }

-- a piece is kept as a whole
pub fed_whole : (site : Site) (before piece : List ℕ) (k : ℕ) (initial reader : LineReader) → initial.over ≡ None → Keeps initial piece k reader
    → length piece ≤ k → StandsFor site before initial →
    Feeds site before piece (record { used = k; step = Need }) reader
fed_whole site before piece k initial reader over kept past stands =
    let waiting = waits_when site before initial over stands in
    let all : k ≡ length piece = omega (arith, past, kept.within) in
    let fed = fed_all site before piece k initial reader past (kept.over ∙ over) (ongoing_kept site before piece k initial reader kept waiting)
    waiting in
    subst (λ used. Feeds site before piece (record { used = used; step = Need }) reader) (sym all) fed

-- the front of a piece is kept, and the next byte ends the line or is refused
pub fed_front : (site : Site) (before piece : List ℕ) (k byte : ℕ) (initial old reader : LineReader) (step : Step) → initial.over ≡ None
    → Keeps initial piece k old → k < length piece → byte ≡ get_or piece k byte → EndsLine step →
    ((bytes : List ℕ) → IsOpen site bytes old → TakesByte site bytes byte reader step) → StandsFor site before initial
    → Feeds site before piece (record { used = k + 1; step = step }) reader
fed_front site before piece k byte initial old reader step over kept within is ends takes stands =
    let waiting = waits_when site before initial over stands in
    let ongoing = ongoing_kept site before piece k initial old kept waiting in
    let at : byte ≡ get_or piece k 0 = sym (get_or_from_slice_get piece k byte 0 (slice_get_read piece (length piece) k byte refl within is)) in
    let taken = subst (λ b. TakesByte site (before ++ take k piece) b reader step) at (takes (before ++ take k piece) ongoing.waits) in
    fed_last site before piece k initial old reader step within ends taken ongoing waiting

-- a reader that is over answers the same again
pub fed_again : (site : Site) (before piece : List ℕ) (reader : LineReader) (over : Over) (step : Step) → reader.over ≡ Some over
    → step ≡ over_step over →
    StandsFor site before reader → Feeds site before piece (record { used = 0; step = step }) reader
fed_again site before piece reader over step is says stands =
    let ending : (reading_of site before).ending ≡ Some over = subst (λ o. StandsBy site before reader o) is stands in
    record {
      stands = subst (λ b. StandsFor site b reader) (sym (append-nil before)) stands;
      answers = subst (λ e. Answers site before piece (record { used = 0; step = step }) e) (sym ending) (says, refl);
    }
