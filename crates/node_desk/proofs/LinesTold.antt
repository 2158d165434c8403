-- The lines of an accepted block of a panel by itself, as far as they were told.
use Rattle.std.proofs.Common.{◌≡◌, ◌∙◌, ◌+◌, ◌<◌, ◌≤◌, ◌-◌, ◌^◌, ◌++◌, ℕ, Bool, true, false, List, [], ◌∷◌, length, drop, None, Some, if◌then◌else◌}
use Rattle.std.proofs.Common.{append-nil, refl, sym, ap, subst, arith}
use Rattle.std.specs.List.{fold}
use Rattle.desk_runs.specs.Ticks.{block_of, lines_behind, with_line}
use Rattle.desk_runs.proofs.Telling.{block_more, events_few, refused_none}
use Rattle.desk_ticks.specs.Blocks.{first_line, reading_behind, tick_one}
use Rattle.desk_ticks.proofs.Behind.{nothing_read, told_so, uses_fit, uses_some}
use Rattle.node_inputs.specs.OwnBlocks.{names_none, own_refusal_behind, own_stop_by}
use Rattle.node_inputs.specs.OwnEvents.{is_event_of}
use Rattle.node_inputs.proofs.OwnLines.{AllOwn, IsOwnRead, own_goes_event, own_stops}
use Rattle.node_rules.specs.Histories.{NodeMoment, Befell, befallen}
use Rattle.panel_node.specs.Stands.{NodeStandsFor}
use Rattle.panel_node.specs.declared.node.Node.{Node}
use Rattle.panel_rules.specs.Moments.{Moment, TickBlock, Began, Happened, and_events, moments}
use Rattle.panel_rules.specs.Operations.{requests}
use Rattle.record_lines.specs.Belongs.{StepBelongs}
use Rattle.record_lines.specs.Events.{event_view}
use Rattle.record_lines.specs.Lines.{accepted, at_start, reading_of}
use Rattle.record_lines.specs.Stands.{Feeds, StandsFor}
use Rattle.record_lines.specs.declared.fed.Fed.{Fed}
use Rattle.record_lines.specs.declared.line.Line.{Line}
use Rattle.record_lines.specs.declared.line.Line.TheVariants.{Tick, Event, Order, End}
use Rattle.record_lines.specs.declared.reader.LineReader.{LineReader}
use Rattle.record_lines.specs.declared.step.Step.{Step}
use Rattle.record_lines.specs.declared.step.Step.TheVariants.{Need, Line as LineStep, Refused}
use Rattle.site_run.specs.Records.{Block}
use Rattle.site_run.proofs.Progresses.{events_length, few_asked}
use Rattle.site_run.proofs.Stood.{events_more}
use Rattle.site_types.specs.declared.event.Event.{Event as SiteEvent}
use Rattle.site_types.specs.declared.retained.Retained.{Retained}
use Rattle.site_types.specs.declared.site.Site.{Site}
use Rattle.node_desk.specs.Lines.{MayTellStep, MayTellWith, TellsStep, ToldLines, with_lines}
use Rattle.node_desk.proofs.Befalling.{and_befell, befallen_events}
use Rattle.node_desk.proofs.Codes.{node_for_view}

-- ---- what was told

-- so much of the lines behind the first was read, and what they tell was told
pub record SoFar (site : Site) (panel : ℕ) (kept : Retained) (history : List NodeMoment) (rest left : List ℕ) (reader : LineReader) (node : Node) : Type 0 where
  pub number : ℕ
  pub read : IsOwnRead site panel rest left reader number
  pub stands : NodeStandsFor site panel kept (with_lines site read.read.tail history) node

-- whatever the panel stood for
abbrev pub TellsSoFar : List ℕ → Node → List ℕ → LineReader → Node → Type 0
TellsSoFar rest old left reader node =
    (site : Site) (panel : ℕ) (kept : Retained) (history : List NodeMoment) (ticks : List TickBlock) → MayTellWith site panel kept history ticks rest old
    → SoFar site panel kept history rest left reader node

-- none of it was told; what nothing tells is that a tick began
pub nothing_told : (site : Site) (panel : ℕ) (kept : Retained) (history : List NodeMoment) (rest : List ℕ) (old : Node) (reader : LineReader)
    → StandsFor site (first_line site) reader → reading_of site (first_line site) ≡ accepted at_start tick_one
    → NodeStandsFor site panel kept (with_lines site [] history) old → SoFar site panel kept history rest rest reader old
nothing_told site panel kept history rest old reader stands reads told =
    let none = nothing_read site rest reader stands reads in
    record {
      number = 2;
      read = record { read = none.0; own = subst (AllOwn site panel) (sym none.1) tt };
      stands = subst (λ ls. NodeStandsFor site panel kept (with_lines site ls history) old) (sym none.1) told;
    }

-- ---- one line more

-- what one more line tells is one event more
with_event : (site : Site) (lines : List Line) (event : SiteEvent) (history : List NodeMoment)
    → Befell (Happened event) ∷ with_lines site lines history ≡ with_lines site (lines ++ Event event ∷ []) history
with_event site lines event history =
    ap (λ ms. and_befell ms history)
    (sym (events_more (block_of site lines).events event (Began ∷ []))
    ∙ ap (λ (b : Block). and_events b.events (Began ∷ [])) (sym (block_more site lines (Event event))))

module _ (site : Site) (panel : ℕ) (kept : Retained) (history : List NodeMoment) (ticks : List TickBlock) (rest left : List ℕ) (reader new_reader :
    LineReader) (fed : Fed) (old node : Node) (may : MayTellWith site panel kept history ticks rest old) (h :
    SoFar site panel kept history rest left reader node) (some : 0 < length left) (feeds : Feeds site (first_line site ++ h.read.read.front) left fed new_reader)
    (belongs : StepBelongs site fed.step) where
  pub fits : fed.used ≤ length left
  fits =
      uses_fit site (first_line site ++ h.read.read.front) left fed.used fed.step
      (told_so site rest left reader new_reader h.number fed h.read.read some feeds).1

  pub uses : 0 < fed.used
  uses =
      uses_some site (first_line site ++ h.read.read.front) left fed.used fed.step some
      (told_so site rest left reader new_reader h.number fed h.read.read some feeds).1

  -- none of the lines is refused
  not_refused : {X : Type 0} (step : Step) → step ≡ fed.step → (refusal : _) → own_stop_by site panel step h.number ≡ Some refusal → X
  not_refused step e refusal stop =
      refused_none refusal (own_refusal_behind site panel rest)
      (own_stops site panel rest left reader new_reader h.number fed h.read some feeds refusal (ap (λ s. own_stop_by site panel s h.number) (sym e) ∙ stop))
      may.accepted

  -- so an event is the panel's own
  own_event : (event : SiteEvent) → LineStep (Event event) ≡ fed.step → is_event_of site panel event ≡ true
  own_event event e = by (is_event_of site panel event) refl
    where
      by : (b : Bool) → is_event_of site panel event ≡ b → b ≡ true
      by true is = refl
      by false is = not_refused (LineStep (Event event)) e (names_none h.number) (ap (λ b. if b then None else Some (names_none h.number)) is)

  -- few operations were asked for
  few_so_far : length (requests site (befallen (with_lines site h.read.read.tail history))) < 2 ^ 64 - 1
  few_so_far =
      let events = (block_of site h.read.read.tail).events in
      let asked = few_asked site (befallen (with_lines site h.read.read.tail history)) in
      let same = ap (λ (ms : List Moment). length ms) (befallen_events events history ticks may.befell) in
      let told = events_length events (Began ∷ moments ticks) in
      let lines = events_few site h.read.read.tail in
      let count = h.read.read.count in
      let few = h.read.read.few in
      let short = may.short in
      let room = may.room in
      omega (arith, asked, same, told, lines, count, few, short, room)

  -- what a reader answered may be told
  may_tell : (step : Step) → step ≡ fed.step → StepBelongs site step → MayTellStep step node
  may_tell Need e b = tt
  may_tell (LineStep (Tick tick)) e b = tt
  may_tell (LineStep (Event event)) e b =
      record {
        site = site;
        panel = panel;
        kept = kept;
        history = with_lines site h.read.read.tail history;
        stands = h.stands;
        has = b;
        own = own_event event e;
        few = few_so_far;
      }
  may_tell (LineStep (Order order)) e b = tt
  may_tell (LineStep End) e b = tt
  may_tell (Refused refusal) e b = tt

  pub may_tell_fed : MayTellStep fed.step node
  may_tell_fed = may_tell fed.step refl belongs

  -- a line more was told
  told_by : (step : Step) → step ≡ fed.step → (after : Node) → TellsStep step node after
      → SoFar site panel kept history rest (drop fed.used left) new_reader after
  told_by Need e after tells = not_refused Need e _ refl
  told_by (LineStep (Tick tick)) e after tells = not_refused (LineStep (Tick tick)) e _ refl
  told_by (LineStep (Event event)) e after tells =
      let next = own_goes_event site panel rest left reader new_reader h.number fed h.read some feeds event e (own_event event e) in
      let lines = h.read.read.tail in
      let told = node_for_view site panel kept event (with_lines site lines history) after (tells site panel kept (with_lines site lines history) h.stands) in
      record {
        number = h.number + 1;
        read = next.0;
        stands =
            subst (λ ls. NodeStandsFor site panel kept (with_lines site ls history) after) (sym next.1)
            (subst (λ hs. NodeStandsFor site panel kept hs after) (with_event site lines (event_view event) history) told);
      }
  told_by (LineStep (Order order)) e after tells = not_refused (LineStep (Order order)) e _ refl
  told_by (LineStep End) e after tells = not_refused (LineStep End) e _ refl
  told_by (Refused refusal) e after tells = not_refused (Refused refusal) e _ refl

  pub told_more : (after : Node) → TellsStep fed.step node after → SoFar site panel kept history rest (drop fed.used left) new_reader after
  told_more after tells = told_by fed.step refl after tells

-- what a reader answered, and that this is of the site
pub record FedHere (site : Site) (before left : List ℕ) (fed : Fed) (new_reader : LineReader) : Type 0 where
  pub feeds : Feeds site before left fed new_reader
  pub belongs : StepBelongs site fed.step

-- so it is where the site that it was read for is this one
pub fed_here : {site there : Site} {panel : ℕ} {kept : Retained} {history : List NodeMoment} {rest left : List ℕ} {reader new_reader : LineReader} {node : Node}
    {fed : Fed} (h : SoFar site panel kept history rest left reader node) → there ≡ site
    → ((xs : List ℕ) → StandsFor there xs reader → Feeds there xs left fed new_reader) → StepBelongs there fed.step
    → FedHere site (first_line site ++ h.read.read.front) left fed new_reader
fed_here {site = site} {left = left} {reader = reader} {new_reader = new_reader} {fed = fed} h same feeds belongs =
    let before = first_line site ++ h.read.read.front in
    record {
      feeds = subst (λ s. Feeds s before left fed new_reader) same (feeds before (subst (λ s. StandsFor s before reader) (sym same) h.read.read.reads));
      belongs = subst (λ s. StepBelongs s fed.step) same belongs;
    }

-- ---- all of it

-- events leave the order of a block
own_order : (site : Site) (panel : ℕ) (lines : List Line) (block : Block) → AllOwn site panel lines → (fold with_line block lines).order ≡ block.order
own_order site panel [] block all = refl
own_order site panel (Event event ∷ lines) block all = own_order site panel lines (with_line block (Event event)) all.1
own_order site panel (Tick tick ∷ lines) block all = absurd all
own_order site panel (Order order ∷ lines) block all = absurd all
own_order site panel (End ∷ lines) block all = absurd all

pub all_told : (site : Site) (panel : ℕ) (kept : Retained) (history : List NodeMoment) (rest left : List ℕ) (reader : LineReader) (node : Node) → left ≡ []
    → SoFar site panel kept history rest left reader node → ToldLines site panel kept history rest node
all_told site panel kept history rest left reader node none h =
    let read = h.read.read in
    let whole : rest ≡ read.front = read.is ∙ ap (λ xs. read.front ++ xs) none ∙ append-nil read.front in
    let lines : lines_behind site rest ≡ read.tail =
    ap (λ xs. drop 1 (reading_behind site xs).lines) whole ∙ ap (λ ls. drop 1 ls) read.lines in
    let count = read.count in
    let few = read.few in
    let same = ap (λ (ls : List Line). length ls) lines in
    record {
      stands = subst (λ ls. NodeStandsFor site panel kept (with_lines site ls history) node) (sym lines) h.stands;
      order = ap (λ ls. (block_of site ls).order) lines ∙ own_order site panel read.tail (block_of site []) h.read.own;
      few = omega (arith, count, few, same);
    }
