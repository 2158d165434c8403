-- The first line of a block.
use Rattle.std.proofs.Common.{◌≡◌, ◌∙◌, ◌++◌, ◌≤◌, ℕ, List, [], ◌∷◌, length, take, drop, take-append-drop, Option, Ok, Err}
use Rattle.std.proofs.Common.{refl, sym, ap, subst}
use Rattle.site_types.specs.declared.site.Site.{Site}
use Rattle.record_lines.specs.Judged.{line_view}
use Rattle.record_lines.specs.Lines.{reading_of}
use Rattle.record_lines.specs.Stands.{Feeds, Tells, Uses}
use Rattle.record_lines.specs.declared.fed.Fed.{Fed}
use Rattle.record_lines.specs.declared.line.Line.{Line}
use Rattle.record_lines.specs.declared.line.Line.TheVariants.{Tick, Event, Order, End}
use Rattle.record_lines.specs.declared.over.Over.{Over}
use Rattle.record_lines.specs.declared.over.Over.TheVariants.{Refused}
use Rattle.record_lines.specs.declared.reader.LineReader.{LineReader}
use Rattle.record_lines.specs.declared.step.Step.{Step}
use Rattle.record_lines.specs.declared.step.Step.TheVariants.{Need, Line as LineStep, Refused as RefusedStep}
use Rattle.record_lines.specs.declared.why.Why.{Why}
use Rattle.record_lines.specs.declared.why.Why.TheVariants.{BadWord, BadNumber, NoSuch, BadTick, BadOrder, LineTooLong}
use Rattle.record_lines.specs.declared.why.Why.TheVariants.{NotAscii, BeforeFirstTick, Truncated, TickLimit}
use Rattle.record_readings.specs.OneLine.{EndsOneLine}
use Rattle.record_readings.proofs.Growths.{Grown, grown}
use Rattle.record_readings.proofs.LineEnds.{one_line, refused_line}
use Rattle.desk_ticks.specs.declared.block_refusal.BlockRefusal.{BlockRefusal}
use Rattle.desk_ticks.specs.Blocks.{behind_line, begun_tick, named_of, refusal_behind, verdict_by, verdict_of}
use Rattle.desk_ticks.specs.Stops.{named_by, named_why}
use Rattle.desk_ticks.proofs.Behind.{uses_fit, whole_taken}
use Rattle.desk_ticks.proofs.Lines.{behind_first}

-- a refused tick out of turn is no refusal of bytes
no_bytes : (why : Why) (tick : ℕ) → named_why why ≡ Ok tick → (why ≡ LineTooLong → ⊥) × (why ≡ NotAscii → ⊥)
no_bytes (BadTick expected found) tick e = (λ h. cc, λ h. cc)
no_bytes BadWord tick e = absurd cc
no_bytes BadNumber tick e = absurd cc
no_bytes NoSuch tick e = absurd cc
no_bytes (BadOrder place) tick e = absurd cc
no_bytes LineTooLong tick e = absurd cc
no_bytes NotAscii tick e = absurd cc
no_bytes BeforeFirstTick tick e = absurd cc
no_bytes Truncated tick e = absurd cc
no_bytes TickLimit tick e = absurd cc

named_line : (line : Line) (more : List Line) (ending : Option Over) → begun_tick (line_view line ∷ more) ending ≡ named_by (LineStep line)
named_line (Tick tick) more ending = refl
named_line (Event event) more ending = refl
named_line (Order order) more ending = refl
named_line End more ending = refl

module _ (site : Site) (block : List ℕ) (fed : Fed) (reader : LineReader) (feeds : Feeds site [] block fed reader) where
  abbrev first : List ℕ
  first = take fed.used block

  abbrev Told : Step → Type 0
  Told step = Tells (reading_of site []) (reading_of site first) step × Uses site [] block fed.used step

  told : Told fed.step
  told = feeds.answers

  goes_on : Grown (reading_of site first) (reading_of site block)
  goes_on = subst (λ xs. Grown (reading_of site first) (reading_of site xs)) (take-append-drop fed.used block) (grown site first (drop fed.used block))

  named_told : (step : Step) → Told step → named_of (reading_of site block) ≡ named_by step
  named_told Need t =
      let all = ap (λ n. take n block) t.1 ∙ whole_taken block in
      ap (λ xs. named_of (reading_of site xs)) (sym all)
      ∙ ap (λ ls. begun_tick ls (reading_of site first).ending) t.0.0
      ∙ ap (λ o. begun_tick [] o) t.0.1
  named_told (LineStep line) t =
      let g = goes_on in
      ap (λ ls. begun_tick ls (reading_of site block).ending) (g.lines ∙ ap (λ ls. ls ++ g.more) t.0.0)
      ∙ named_line line g.more (reading_of site block).ending
  named_told (RefusedStep refusal) t =
      let same = goes_on.stays (Refused refusal) t.0.1 in
      ap named_of same ∙ ap (λ ls. begun_tick ls (reading_of site first).ending) t.0.0 ∙ ap (λ o. begun_tick [] o) t.0.1

  behind_by : EndsOneLine first → behind_line block ≡ drop fed.used block
  behind_by one =
      ap behind_line (sym (take-append-drop fed.used block) ∙ ap (λ xs. xs ++ drop fed.used block) one.is)
      ∙ behind_first one.text (drop fed.used block) one.within

  behind_told : (step : Step) (tick : ℕ) → Told step → named_by step ≡ Ok tick → behind_line block ≡ drop fed.used block
  behind_told Need tick t e = absurd cc
  behind_told (LineStep line) tick t e = behind_by (one_line site [] block fed.used t.1.0 (line_view line) refl t.1.1 t.0.0)
  behind_told (RefusedStep refusal) tick t e =
      let other = no_bytes refusal.why tick e in
      behind_by (refused_line site [] block fed.used t.1.0 refusal refl t.1.1 t.0.1 other.0 other.1)

  -- so much of the block was used
  pub first_fits : fed.used ≤ length block
  first_fits = uses_fit site [] block fed.used fed.step told.1

  -- what the answer to the first line names, the block does
  pub first_named : named_of (reading_of site block) ≡ named_by fed.step
  first_named = named_told fed.step told

  -- where it names a tick, the lines behind it are what isn't used of the block
  pub first_behind : (tick : ℕ) → named_by fed.step ≡ Ok tick → behind_line block ≡ drop fed.used block
  first_behind tick e = behind_told fed.step tick told e

  -- the first line is refused
  pub refused_first : (number : ℕ) → named_by fed.step ≡ Err number → verdict_of site block ≡ Err (record { line = 1; number = number })
  refused_first number e = ap (λ named. verdict_by named (refusal_behind site (behind_line block))) (first_named ∙ e)

  -- it names a tick, and the lines behind it decide
  pub named_first : (tick : ℕ) (behind : Option BlockRefusal) → named_by fed.step ≡ Ok tick → behind ≡ refusal_behind site (drop fed.used block)
      → verdict_of site block ≡ verdict_by (Ok tick) behind
  named_first tick behind e is =
      ap (λ named. verdict_by named (refusal_behind site (behind_line block))) (first_named ∙ e)
      ∙ ap (λ xs. verdict_by (Ok tick) (refusal_behind site xs)) (first_behind tick e) ∙ ap (verdict_by (Ok tick)) (sym is)
