-- What a run stands for, after some lines of its record.
use Rattle.std.specs.Prelude.{◌≡◌, ◌+◌, ◌-◌, ◌^◌, ◌<◌, ◌≤◌, ◌↔◌, ℕ, Bool, true, false, List, ◌∷◌, length}
use Rattle.std.specs.Prelude.{Option, Some, None, is_some}
use Rattle.tick_units.specs.declared.seat.Seat.{Seat}
use Rattle.tick_units.specs.Orders.{IsOrder, canonical_seats}
use Rattle.tick_units.specs.Ticks.{last_tick}
use Rattle.site_types.specs.declared.event.Event.{Event}
use Rattle.site_types.specs.declared.retained.Retained.{Retained}
use Rattle.site_types.specs.declared.site.Site.{Site}
use Rattle.site_types.specs.Changes.{AreCounters}
use Rattle.site_types.specs.Events.{has_event}
use Rattle.site_types.specs.Valid.{IsValid}
use Rattle.record_lines.specs.declared.line.Line.{Line}
use Rattle.record_lines.specs.declared.line.Line.TheVariants.{Tick, Event as EventLine, Order, End}
use Rattle.panel_rules.specs.Moments.{Moment, TickBlock, moments}
use Rattle.panel_laws.specs.FormLaws.{CanBeTold}
use Rattle.panel_rules.specs.Records.{AreOrdered}
use Rattle.panel_rules.specs.Timeline.{faces_of}
use Rattle.panel_core.specs.Keeping.{KeepsRun}
use Rattle.panel_core.specs.Marks.{AreMarked}
use Rattle.panel_core.specs.Stands.{StandsFor as SystemStands}
use Rattle.face_text.specs.Starts.{ArePassed}
use Rattle.site_run.specs.declared.run.Run.{Run}
use Rattle.site_run.specs.AlikeFaces.{ShowAlike}
use Rattle.site_run.specs.Records.{Block, Progress, at_beginning, closed, new_block}
use Rattle.site_run.specs.Records.{with_order}
use Rattle.site_run.specs.Records.{moments_in}
use Rattle.run_text.specs.SoFar.{text_so_far}
use Rattle.run_text.specs.Failures.{failures}
use Rattle.site_run.specs.Outside.{DiskKind, Outside, Stored}
use Rattle.site_run.specs.PowerCuts.{LeavesTicks}
use Rattle.site_run.specs.Writings.{Advances, Breaks}
use Rattle.retained_journal.specs.Images.{IsEarly}

-- the order of a tick's turns: the one that was given, else the canonical one
abbrev pub order_by : Option (List Seat) → List Seat → List Seat
order_by None canonical = canonical
order_by (Some given) canonical = given

abbrev pub OrderIs : Option Block → List Seat → Type 0
OrderIs None order = Unit {0}
OrderIs (Some block) order = block.order ≡ order

-- so few moments befell that each number of them has 64 bits
abbrev pub AreFew : List Moment → Type 0
AreFew moments = length moments < 2 ^ 64 - 1

-- the run has taken lines that made this
pub record Stands (site : Site) (kept : Retained) (p : Progress) (run : Run) : Type 0 where
  pub valid : IsValid site
  pub counters : AreCounters kept.counters
  pub system : SystemStands site kept (moments_in p) run.system
  pub journal : KeepsRun site kept (moments_in p) run.journal
  pub tried : run.journal.tried ≤ run.ticks
  pub open_is : run.is_open ≡ is_some p.block
  pub canonical : run.canonical ≡ canonical_seats site.panels
  pub order_is : OrderIs p.block (order_by run.order run.canonical)
  pub ordered : AreOrdered site.panels (closed false p)
  pub shown : run.shown.items ≡ faces_of site kept (moments p.run)
  pub marks : AreMarked site kept (moments_in p) run.system.changed
  pub room : length run.next.items ≡ site.panels
  pub alike : ShowAlike run.alike run.next.items run.shown.items
  pub starts : ArePassed site run.starts
  pub count : run.ticks ≡ length p.run
  pub failed : run.store_failures ≡ failures p.run
  pub few : length (closed false p) ≤ last_tick
  pub short : AreFew (moments_in p)

abbrev pub StandsAtBeginning : Run → Type 0
StandsAtBeginning run = (site : Site) × (kept : Retained) × Stands site kept at_beginning run

pub record StandsSome (run : Run) : Type 0 where
  pub site : Site
  pub kept : Retained
  pub p : Progress
  pub stands : Stands site kept p run

-- a run stands for ticks of which none is open
pub record StandsClosed (run : Run) : Type 0 where
  pub site : Site
  pub kept : Retained
  pub ticks : List TickBlock
  pub stands : Stands site kept (record { run = ticks; block = None }) run

-- a tick began behind those that were run, of which none was open
abbrev pub OpensTick : ℕ → Run → Run → Type 0
OpensTick tick old new =
    (site : Site) (kept : Retained) (ticks : List TickBlock)
    → Stands site kept (record { run = ticks; block = None }) old
    → tick ≡ length ticks + 1 → tick ≤ last_tick
    → AreFew (moments_in (record { run = ticks; block = Some (new_block site) }))
    → Stands site kept (record { run = ticks; block = Some (new_block site) }) new

-- a tick is the next one
abbrev pub IsNext : Line → ℕ → Type 0
IsNext (Tick tick) ticks = tick.0 ≡ ticks + 1
IsNext (EventLine event) ticks = Unit {0}
IsNext (Order seats) ticks = Unit {0}
IsNext End ticks = Unit {0}

-- the tick whose block is open may be closed
pub record MayClose (run : Run) : Type 0 where
  pub site : Site
  pub kept : Retained
  pub p : Progress
  pub stands : Stands site kept p run
  pub open_is : run.is_open ≡ true

-- an event may come
pub record MayHappen (event : Event) (run : Run) : Type 0 where
  pub site : Site
  pub kept : Retained
  pub p : Progress
  pub stands : Stands site kept p run
  pub has : has_event site event ≡ true

-- what was made when the open block is closed, and Keep's turn failed or not
abbrev pub after_close : Bool → Progress → Progress
after_close failed p = record { run = closed failed p; block = None }

-- the run has run these ticks
pub record HasRun (site : Site) (kept : Retained) (ticks : List TickBlock) (run : Run) : Type 0 where
  pub can : CanBeTold site kept (moments ticks)
  pub count : run.ticks ≡ length ticks
  pub failed : run.store_failures ≡ failures ticks
  pub ordered : AreOrdered site.panels ticks
  pub few : length ticks ≤ last_tick
  pub journal : KeepsRun site kept (moments ticks) run.journal
  pub tried : run.journal.tried ≤ run.ticks

module _ (site : Site) (kept : Retained) where
  -- what power cuts leave of the journal's disk, from the ticks of one state to those of another
  pub record Stores {kind : DiskKind} (old new : Stored kind) (before after : List TickBlock) : Type 0 where
    pub honest : kind.honest new.disk ↔ kind.honest old.disk
    pub early : IsEarly old.journal → IsEarly new.journal
    pub digest : new.journal.digest ≡ old.journal.digest
    pub leaves : kind.honest old.disk → IsEarly old.journal
        → LeavesTicks kind site kept old.journal.digest before old.disk after new.disk

  -- the text of the ticks of one state grew to that of another
  pub record Writes {kind : DiskKind} (old new : Outside kind) (before after : List TickBlock) : Type 0 where
    pub text : Advances old.written new.written (text_so_far site kept before) (text_so_far site kept after)
    pub stores : Stores old.stored new.stored before after

  -- a write failed in the text of the last of these ticks: that of the others was written
  pub record WritesPart {kind : DiskKind} (old new : Outside kind) (before after : List TickBlock) : Type 0 where
    pub last : TickBlock
    pub whole : List TickBlock
    pub is : after ≡ last ∷ whole
    pub mid : Option (List ℕ)
    pub grew : Advances old.written mid (text_so_far site kept before) (text_so_far site kept whole)
    pub broke : Breaks mid new.written (text_so_far site kept whole) (text_so_far site kept after)
    pub stores : Stores old.stored new.stored before after

  -- a write failed in the text of the first tick behind those before
  abbrev pub BreaksTick : {kind : DiskKind} → Outside kind → Outside kind → List TickBlock → List TickBlock → Type 0
  BreaksTick old new before after = (part : WritesPart old new before after) × (part.whole ≡ before)

-- the open tick was given an order of its turns
abbrev pub HasOrder : List Seat → Run → Run → Type 0
HasOrder order before run =
    (site : Site) (kept : Retained) (p : Progress) → Stands site kept p before → IsOrder site.panels order
    → Stands site kept (record { run = p.run; block = with_order order p.block }) run
