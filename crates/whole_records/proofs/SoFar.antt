-- How far a record was read.
use Rattle.std.proofs.Common.{◌≡◌, ◌∙◌, ◌++◌, ℕ, true, false, List, [], ◌∷◌, map, take, drop, take-append-drop}
use Rattle.std.proofs.Common.{Option, Some, None, refl, sym, ap, subst, append_assoc}
use Rattle.site_types.specs.declared.site.Site.{Site}
use Rattle.record_lines.specs.Judged.{line_view}
use Rattle.record_lines.specs.Lines.{ends_with, reading_of}
use Rattle.record_lines.specs.Stands.{Answers, Feeds, StandsFor, Tells, Uses}
use Rattle.record_lines.specs.declared.fed.Fed.{Fed}
use Rattle.record_lines.specs.declared.line.Line.{Line}
use Rattle.record_lines.specs.declared.line.Line.TheVariants.{Tick, Event, Order, End}
use Rattle.record_lines.specs.declared.over.Over.{Over}
use Rattle.record_lines.specs.declared.over.Over.TheVariants.{Ended, Refused}
use Rattle.record_lines.specs.declared.reader.LineReader.{LineReader}
use Rattle.record_lines.specs.declared.refusal.Refusal.{Refusal}
use Rattle.record_lines.specs.declared.step.Step.{Step}
use Rattle.record_lines.specs.declared.step.Step.TheVariants.{Line as LineStep, Refused as RefusedStep}
use Rattle.record_readings.proofs.Growths.{grown}
use Rattle.whole_records.specs.Ends.{is_last}
use Rattle.whole_records.specs.Whole.{EndsRefused, IsWholeRecord}

-- the bytes before those that are left hold these lines, and more may come
pub record IsReadTo (site : Site) (all left : List ℕ) (reader : LineReader) (lines : List Line) : Type 0 where
  pub front : List ℕ
  pub is : all ≡ front ++ left
  pub stands : StandsFor site front reader
  pub going : (reading_of site front).ending ≡ None
  pub are : map line_view lines ≡ (reading_of site front).lines

pub nothing_read : (site : Site) (all : List ℕ) (reader : LineReader) → StandsFor site [] reader → IsReadTo site all all reader []
nothing_read site all reader stands = record { front = []; is = refl; stands = stands; going = refl; are = refl }

map_push : (lines : List Line) (line : Line) → map line_view (lines ++ line ∷ []) ≡ map line_view lines ++ line_view line ∷ []
map_push [] line = refl
map_push (one ∷ lines) line = ap (λ ls. line_view one ∷ ls) (map_push lines line)

module _ (site : Site) (all left : List ℕ) (reader later : LineReader) (fed : Fed) (lines : List Line)
    (read : IsReadTo site all left reader lines) (feeds : Feeds site read.front left fed later) where
  -- what is read with the bytes that were used
  abbrev further : List ℕ
  further = read.front ++ take fed.used left

  -- what these bytes told
  abbrev Told : Step → Type 0
  Told step = Tells (reading_of site read.front) (reading_of site further) step × Uses site read.front left fed.used step

  pub told : Told fed.step
  told = by (reading_of site read.front).ending read.going feeds.answers
    where
      by : (o : Option Over) → o ≡ None → Answers site read.front left fed o → Told fed.step
      by None e a = a
      by (Some over) e a = absurd cc

  split : all ≡ further ++ drop fed.used left
  split = read.is ∙ ap (λ xs. read.front ++ xs) (sym (take-append-drop fed.used left)) ∙ sym (append_assoc read.front (take fed.used left) (drop fed.used left))

  -- what was over stays so
  stays : (over : Over) → (reading_of site further).ending ≡ Some over → reading_of site all ≡ reading_of site further
  stays over e = ap (reading_of site) split ∙ (grown site further (drop fed.used left)).stays over e

  pub goes_on : (line : Line) → fed.step ≡ LineStep line → is_last line ≡ false → IsReadTo site all (drop fed.used left) later (lines ++ line ∷ [])
  goes_on line e more =
      let t = subst Told e told in
      record {
        front = further;
        is = split;
        stands = feeds.stands;
        going = t.0.1 ∙ no_end line more;
        are = map_push lines line ∙ ap (λ ls. ls ++ line_view line ∷ []) read.are ∙ sym t.0.0;
      }
    where
      no_end : (line : Line) → is_last line ≡ false → ends_with line ≡ None
      no_end (Tick tick) h = refl
      no_end (Event event) h = refl
      no_end (Order order) h = refl
      no_end End h = absurd cc

  pub ends : (line : Line) → fed.step ≡ LineStep line → is_last line ≡ true → IsWholeRecord site all (lines ++ line ∷ [])
  ends line e last =
      let t = subst Told e told in
      let over : (reading_of site further).ending ≡ Some Ended = t.0.1 ∙ at_end line last in
      let same = stays Ended over in
      record {
        ended = ap (λ r. r.ending) same ∙ over;
        are = map_push lines line ∙ ap (λ ls. ls ++ line_view line ∷ []) read.are ∙ sym t.0.0 ∙ sym (ap (λ r. r.lines) same);
      }
    where
      at_end : (line : Line) → is_last line ≡ true → ends_with line ≡ Some Ended
      at_end (Tick tick) h = absurd cc
      at_end (Event event) h = absurd cc
      at_end (Order order) h = absurd cc
      at_end End h = refl

  pub is_refused : (refusal : Refusal) → fed.step ≡ RefusedStep refusal
      → EndsRefused (reading_of site all).number (reading_of site all).ending refusal
  is_refused refusal e =
      let t = subst Told e told in
      let over : (reading_of site further).ending ≡ Some (Refused refusal) = t.0.1 in
      let same : (reading_of site all).ending ≡ Some (Refused refusal) = ap (λ r. r.ending) (stays (Refused refusal) over) ∙ over in
      subst (λ o. EndsRefused (reading_of site all).number o refusal) (sym same) refl
