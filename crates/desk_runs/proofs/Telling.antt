-- The lines of an accepted block, as far as they were told.
use Rattle.std.proofs.Common.{◌≡◌, ◌∙◌, ◌+◌, ◌-◌, ◌<◌, ◌≤◌, ◌++◌, ℕ, List, [], ◌∷◌, length, drop, Option, Some, None, Ok, Err, Result}
use Rattle.std.proofs.Common.{Bool, true, false, ◌==◌, if◌then◌else◌, append-nil, refl, sym, ap, subst, arith, length-append}
use Rattle.std.specs.List.{fold}
use Rattle.std.proofs.lemmas.Bool.{eqb-true}
use Rattle.std.proofs.lemmas.List.Sums.{fold_push}
use Rattle.desk_runs.specs.Running.{MayTellStep, MayTellWith, TellsStep, ToldLines}
use Rattle.desk_runs.specs.Ticks.{block_of, lines_behind, with_line}
use Rattle.desk_ticks.specs.Blocks.{behind_line, first_line, reading_behind, verdict_by}
use Rattle.desk_ticks.specs.declared.block_refusal.BlockRefusal.{BlockRefusal}
use Rattle.desk_ticks.specs.Stops.{stop_by}
use Rattle.desk_ticks.proofs.Behind.{IsRead, goes_event, goes_order, nothing_read, stops, told_so, uses_fit, uses_some}
use Rattle.panel_rules.specs.Moments.{TickBlock, Began, and_events, moments}
use Rattle.record_lines.specs.Belongs.{StepBelongs}
use Rattle.record_lines.specs.Events.{event_view}
use Rattle.record_lines.specs.Lines.{accepted, at_start, reading_of}
use Rattle.record_lines.specs.Stands.{Feeds, StandsFor}
use Rattle.record_lines.specs.declared.fed.Fed.{Fed}
use Rattle.record_lines.specs.declared.line.Line.{Line}
use Rattle.record_lines.specs.declared.line.Line.TheVariants.{Tick, Event, Order, End}
use Rattle.record_lines.specs.declared.reader.LineReader.{LineReader}
use Rattle.record_lines.specs.declared.step.Step.{Step}
use Rattle.record_lines.specs.declared.step.Step.TheVariants.{Need, Line as LineStep, Refused}
use Rattle.desk_ticks.specs.Blocks.{tick_one}
use Rattle.site_run.specs.Records.{Block, new_block}
use Rattle.site_run.specs.Stands.{AreFew, Stands}
use Rattle.site_run.specs.declared.run.Run.{Run}
use Rattle.site_run.proofs.Progresses.{events_length}
use Rattle.site_types.specs.declared.retained.Retained.{Retained}
use Rattle.site_types.specs.declared.site.Site.{Site}

-- ---- blocks

pub block_more : (site : Site) (lines : List Line) (line : Line) → block_of site (lines ++ line ∷ []) ≡ with_line (block_of site lines) line
block_more site lines line = fold_push with_line (new_block site) lines line

-- a line brings one event at most
events_one : (block : Block) (line : Line) → length (with_line block line).events ≤ length block.events + 1
events_one block (Tick tick) = omega arith
events_one block (Event event) = let sum = length-append block.events (event ∷ []) in omega (arith, sum)
events_one block (Order order) = omega arith
events_one block End = omega arith

events_by : (lines : List Line) (block : Block) → length (fold with_line block lines).events ≤ length block.events + length lines
events_by [] block = omega arith
events_by (line ∷ lines) block =
    let one = events_one block line in
    let more = events_by lines (with_line block line) in
    omega (arith, one, more)

pub events_few : (site : Site) (lines : List Line) → length (block_of site lines).events ≤ length lines
events_few site lines = let few = events_by lines (new_block site) in omega (arith, few)

pub behind_short : (block : List ℕ) → length (behind_line block) ≤ length block
behind_short [] = omega arith
behind_short (byte ∷ block) = by (byte == 10) (behind_short block)
  where
    by : (b : Bool) → length (behind_line block) ≤ length block → length (if b then block else behind_line block) ≤ length (byte ∷ block)
    by true le = omega arith
    by false le = omega (arith, le)

-- where a block is accepted none of its lines is refused
pub none_refused : (named : Result ℕ ℕ) (behind : Option BlockRefusal) (tick : ℕ) → verdict_by named behind ≡ Ok tick → behind ≡ None
none_refused (Err number) behind tick e = absurd cc
none_refused (Ok found) (Some refusal) tick e = absurd cc
none_refused (Ok found) None tick e = refl

-- ---- what was told

-- so much of the lines behind the first was read, and what they tell was told
pub record SoFar (site : Site) (kept : Retained) (ticks : List TickBlock) (rest left : List ℕ) (reader : LineReader) (run : Run) : Type 0 where
  pub number : ℕ
  pub read : IsRead site rest left reader number
  pub stands : Stands site kept (record { run = ticks; block = Some (block_of site read.tail) }) run

-- whatever the tick stands in
abbrev pub TellsSoFar : List ℕ → Run → List ℕ → LineReader → Run → Type 0
TellsSoFar rest old left reader run =
    (site : Site) (kept : Retained) (ticks : List TickBlock) → MayTellWith site kept ticks rest old → SoFar site kept ticks rest left reader run

pub nothing_told : (site : Site) (rest : List ℕ) (old : Run) (reader : LineReader) → StandsFor site (first_line site) reader
    → reading_of site (first_line site) ≡ accepted at_start tick_one → (kept : Retained) (ticks : List TickBlock) → MayTellWith site kept ticks rest old
    → SoFar site kept ticks rest rest reader old
nothing_told site rest old reader stands reads kept ticks may =
    let none = nothing_read site rest reader stands reads in
    record {
      number = 2;
      read = none.0;
      stands = subst (λ ls. Stands site kept (record { run = ticks; block = Some (block_of site ls) }) old) (sym none.1) may.stands;
    }

pub refused_none : {X : Type 0} (refusal : BlockRefusal) (answer : Option BlockRefusal) → answer ≡ Some refusal → answer ≡ None → X
refused_none refusal answer e f = absurd (go (sym e ∙ f))
  where
    go : Some refusal ≡ None → ⊥
    go h = cc

module _ (site : Site) (kept : Retained) (ticks : List TickBlock) (rest left : List ℕ) (reader new_reader : LineReader) (fed : Fed) (old run : Run) (may :
    MayTellWith site kept ticks rest old) (h : SoFar site kept ticks rest left reader run) (some : 0 < length left) (feeds :
    Feeds site (first_line site ++ h.read.front) left fed new_reader) (belongs : StepBelongs site fed.step) where
  abbrev block : Block
  block = block_of site h.read.tail

  -- few moments befall with one event more
  few_more : (line : Line) → AreFew (and_events (with_line block line).events (Began ∷ moments ticks))
  few_more line =
      let told = events_length (with_line block line).events (Began ∷ moments ticks) in
      let one = events_one block line in
      let lines = events_few site h.read.tail in
      let few = h.read.few in
      let count = h.read.count in
      let short = may.short in
      let room = may.room in
      omega (arith, told, one, lines, few, count, short, room)

  pub fits : fed.used ≤ length left
  fits =
      uses_fit site (first_line site ++ h.read.front) left fed.used fed.step
      (told_so site rest left reader new_reader h.number fed h.read some feeds).1

  pub uses : 0 < fed.used
  uses =
      uses_some site (first_line site ++ h.read.front) left fed.used fed.step some
      (told_so site rest left reader new_reader h.number fed h.read some feeds).1

  -- what a reader answered may be told
  pub may_tell : (step : Step) → StepBelongs site step → MayTellStep step run
  may_tell Need b = tt
  may_tell (LineStep (Tick tick)) b = tt
  may_tell (LineStep (Event event)) b =
      record { site = site; kept = kept; p = record { run = ticks; block = Some block }; stands = h.stands; has = b }
  may_tell (LineStep (Order order)) b = tt
  may_tell (LineStep End) b = tt
  may_tell (Refused refusal) b = tt

  pub may_tell_fed : MayTellStep fed.step run
  may_tell_fed = may_tell fed.step belongs

  -- a line more was told
  pub told_more : (step : Step) → step ≡ fed.step → StepBelongs site step → (after : Run) → TellsStep step run after
      → SoFar site kept ticks rest (drop fed.used left) new_reader after
  told_more Need e b after tells =
      refused_none _ _ (stops site rest left reader new_reader h.number fed h.read some feeds fed.step _
      (told_so site rest left reader new_reader h.number fed h.read some feeds) (ap (λ s. stop_by s h.number) (sym e))) may.accepted
  told_more (LineStep (Tick tick)) e b after tells =
      refused_none _ _ (stops site rest left reader new_reader h.number fed h.read some feeds fed.step _
      (told_so site rest left reader new_reader h.number fed h.read some feeds) (ap (λ s. stop_by s h.number) (sym e))) may.accepted
  told_more (LineStep End) e b after tells =
      refused_none _ _ (stops site rest left reader new_reader h.number fed h.read some feeds fed.step _
      (told_so site rest left reader new_reader h.number fed h.read some feeds) (ap (λ s. stop_by s h.number) (sym e))) may.accepted
  told_more (Refused refusal) e b after tells =
      refused_none _ _ (stops site rest left reader new_reader h.number fed h.read some feeds fed.step _
      (told_so site rest left reader new_reader h.number fed h.read some feeds) (ap (λ s. stop_by s h.number) (sym e))) may.accepted
  told_more (LineStep (Event event)) e b after tells =
      let more = goes_event site rest left reader new_reader h.number fed h.read some feeds event e in
      let told = tells site kept (record { run = ticks; block = Some block }) h.stands (few_more (Event (event_view event))) in
      record {
        number = h.number + 1;
        read = more.0;
        stands =
            subst (λ b. Stands site kept (record { run = ticks; block = Some b }) after)
            (sym (ap (block_of site) more.1 ∙ block_more site h.read.tail (Event (event_view event)))) told;
      }
  told_more (LineStep (Order order)) e b after tells =
      let more = goes_order site rest left reader new_reader h.number fed h.read some feeds order e in
      let told = tells site kept (record { run = ticks; block = Some block }) h.stands b in
      record {
        number = h.number + 1;
        read = more.0;
        stands =
            subst (λ b. Stands site kept (record { run = ticks; block = Some b }) after)
            (sym (ap (block_of site) more.1 ∙ block_more site h.read.tail (Order order))) told;
      }

-- what a reader answered, and that this is of the site
pub record FedHere (site : Site) (before left : List ℕ) (fed : Fed) (new_reader : LineReader) : Type 0 where
  pub feeds : Feeds site before left fed new_reader
  pub belongs : StepBelongs site fed.step

-- so it is where the site that it was read for is this one
pub fed_here : {site there : Site} {kept : Retained} {ticks : List TickBlock} {rest left : List ℕ} {reader new_reader : LineReader} {run : Run} {fed : Fed}
    (h : SoFar site kept ticks rest left reader run) → there ≡ site
    → ((xs : List ℕ) → StandsFor there xs reader → Feeds there xs left fed new_reader) → StepBelongs there fed.step
    → FedHere site (first_line site ++ h.read.front) left fed new_reader
fed_here {site = site} {left = left} {reader = reader} {new_reader = new_reader} {fed = fed} h same feeds belongs =
    let before = first_line site ++ h.read.front in
    record {
      feeds = subst (λ s. Feeds s before left fed new_reader) same (feeds before (subst (λ s. StandsFor s before reader) (sym same) h.read.reads));
      belongs = subst (λ s. StepBelongs s fed.step) same belongs;
    }

pub none_left : (left : List ℕ) → (length left == 0) ≡ true → left ≡ []
none_left [] e = refl
none_left (byte ∷ left) e = let none = eqb-true (length (byte ∷ left)) 0 e in absurd (omega (arith, none))

-- all was told
pub all_told : (site : Site) (kept : Retained) (ticks : List TickBlock) (rest left : List ℕ) (reader : LineReader) (run : Run) → left ≡ []
    → SoFar site kept ticks rest left reader run → ToldLines site kept ticks rest run
all_told site kept ticks rest left reader run none h =
    let whole : rest ≡ h.read.front = h.read.is ∙ ap (λ xs. h.read.front ++ xs) none ∙ append-nil h.read.front in
    let lines : lines_behind site rest ≡ h.read.tail =
    ap (λ xs. drop 1 (reading_behind site xs).lines) whole ∙ ap (λ ls. drop 1 ls) h.read.lines in
    let count = h.read.count in
    let few = h.read.few in
    let same = ap (λ (ls : List Line). length ls) lines in
    record {
      stands = subst (λ ls. Stands site kept (record { run = ticks; block = Some (block_of site ls) }) run) (sym lines) h.stands;
      few = omega (arith, count, few, same);
    }
