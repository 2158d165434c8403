-- The ticks that the lines of a record make.
use Rattle.std.specs.Prelude.{ℕ, Bool, false, List, [], ◌∷◌, ◌++◌, Option, Some, None}
use Rattle.std.specs.List.{fold}
use Rattle.tick_units.specs.declared.seat.Seat.{Seat}
use Rattle.tick_units.specs.Orders.{canonical_seats}
use Rattle.site_types.specs.declared.site.Site.{Site}
use Rattle.site_types.specs.declared.event.Event.{Event}
use Rattle.record_lines.specs.declared.line.Line.{Line}
use Rattle.record_lines.specs.declared.line.Line.TheVariants.{Tick, Event as EventLine, Order, End}
use Rattle.record_lines.specs.Lines.{reading_of}
use Rattle.panel_rules.specs.Moments.{Moment, Began, TickBlock, moments, and_events}
use Rattle.run_text.specs.Failures.{as_recorded}

-- the events that came in a tick and the order of its turns
pub record Block : Type 0 where
  pub events : List Event
  pub order : List Seat

-- the ticks whose block another tick or the end follows, the newest first, and the block that is still open
pub record Progress : Type 0 where
  pub run : List TickBlock
  pub block : Option Block

abbrev pub at_beginning : Progress
at_beginning = record { run = []; block = None }

-- the tick of a block, and whether Keep's turn failed in it
abbrev pub ticked : Bool → Block → TickBlock
ticked failed block = record { events = block.events; order = block.order; failed = failed }

abbrev pub closed_by : Bool → Option Block → List TickBlock → List TickBlock
closed_by failed None ticks = ticks
closed_by failed (Some block) ticks = ticked failed block ∷ ticks

-- the ticks with the one whose block is open
abbrev pub closed : Bool → Progress → List TickBlock
closed failed p = closed_by failed p.block p.run

-- a tick without an order has the canonical one
abbrev pub new_block : Site → Block
new_block site = record { events = []; order = canonical_seats site.panels }

abbrev pub with_event : Event → Option Block → Option Block
with_event event None = None
with_event event (Some block) = Some (record { events = block.events ++ event ∷ []; order = block.order })

abbrev pub with_order : List Seat → Option Block → Option Block
with_order seats None = None
with_order seats (Some block) = Some (record { events = block.events; order = seats })

-- a line more, and whether Keep's turn failed in the tick that it closes
abbrev pub after_line : Site → Bool → Progress → Line → Progress
after_line site failed p (Tick tick) = record { run = closed failed p; block = Some (new_block site) }
after_line site failed p (EventLine event) = record { run = p.run; block = with_event event p.block }
after_line site failed p (Order seats) = record { run = p.run; block = with_order seats p.block }
after_line site failed p End = record { run = closed failed p; block = None }

-- what all these lines make, where no turn of Keep fails
abbrev pub progress_of : Site → List Line → Progress
progress_of site lines = fold (after_line site false) at_beginning lines

-- what befell by these lines, the newest first; the turns of an open block are yet to be made
abbrev pub moments_by : Option Block → List TickBlock → List Moment
moments_by None ticks = moments ticks
moments_by (Some block) ticks = and_events block.events (Began ∷ moments ticks)

abbrev pub moments_in : Progress → List Moment
moments_in p = moments_by p.block p.run

-- the ticks that these bytes of a record run, the newest first, where no turn of Keep fails
abbrev pub ticks_run : Site → List ℕ → List TickBlock
ticks_run site bytes = (progress_of site (reading_of site bytes).lines).run

-- ---- what a record doesn't say is in which ticks Keep's turn failed

-- what was made, as the record has it
abbrev pub recorded : Progress → Progress
recorded p = record { run = as_recorded p.run; block = p.block }
