-- What each step makes of a run.
use Rattle.std.specs.Prelude.{◌≡◌, ◌↔◌, ◌+◌, ◌≤◌, ℕ, Bool, false, List, ◌∷◌}
use Rattle.std.specs.Prelude.{length, Option, None, if◌then◌else◌}
use Rattle.site_types.specs.declared.event.Event.{Event}
use Rattle.site_types.specs.declared.retained.Retained.{Retained}
use Rattle.site_types.specs.declared.site.Site.{Site}
use Rattle.face_text.specs.declared.face.Face.{Face}
use Rattle.face_text.specs.Starts.{ArePassed}
use Rattle.keep_turn.specs.declared.store.Store.{Store}
use Rattle.panel_core.specs.declared.system.System.{System}
use Rattle.retained_journal.specs.Images.{HasRoom}
use Rattle.panel_core.specs.Keeping.{LeavesAfterTurns, LeavesInTurns, MakesAllTurns}
use Rattle.panel_core.specs.Marks.{AreMarked, MarksAllTurns, before_tick}
use Rattle.panel_core.specs.Stands.{StandsFor as SystemStands}
use Rattle.panel_rules.specs.Moments.{Moment, IsRun, TickBlock, moments}
use Rattle.panel_rules.specs.Timeline.{face_of, faces_of}
use Rattle.run_text.specs.SoFar.{tick_text}
use Rattle.record_lines.specs.Events.{event_view}
use Rattle.record_lines.specs.declared.line.Line.TheVariants.{Event as EventLine}
use Rattle.site_run.specs.declared.run.Run.{Run}
use Rattle.site_run.specs.AlikeFaces.{ShowAlike}
use Rattle.site_run.specs.Records.{Progress, after_line, closed, moments_in}
use Rattle.site_run.specs.Outside.{Disks, outside_after, outside_before, stored_new, stored_old}
use Rattle.site_run.specs.Stands.{AreFew, Stands, Stores, Writes, BreaksTick, after_close, order_by}

-- the system stands for some history, and there is room for a face of each panel
pub record MayShow (system : System) (faces : List Face) : Type 0 where
  pub site : Site
  pub kept : Retained
  pub before : List Moment
  pub stands : SystemStands site kept before system
  pub room : length faces ≡ site.panels

-- the faces are those of the rules
abbrev pub ShowsFaces : System → List Face → List Face → Type 0
ShowsFaces system old faces =
    (site : Site) (kept : Retained) (before : List Moment)
    → SystemStands site kept before system → IsRun site.panels before → length old ≡ site.panels
    → faces ≡ faces_of site kept before

-- a face is that of the rules now, if another one is that of the end of the tick before
abbrev pub ShowsNow : System → ℕ → Face → Face → Type 0
ShowsNow system panel last now =
    (site : Site) (kept : Retained) (before : List Moment)
    → SystemStands site kept before system → IsRun site.panels before → AreMarked site kept before system.changed
    → last ≡ face_of site kept panel (before_tick before) → now ≡ face_of site kept panel before

-- the faces of all panels are those of the rules now, if other ones are those of the end of the tick before
abbrev pub ShowAllNow : System → List Face → List Face → List Face → Type 0
ShowAllNow system shown old faces =
    (site : Site) (kept : Retained) (before : List Moment)
    → SystemStands site kept before system → IsRun site.panels before → AreMarked site kept before system.changed
    → length old ≡ site.panels → shown ≡ faces_of site kept (before_tick before)
    → faces ≡ faces_of site kept before

-- the faces at hand are those of a site's panels, before and after: what the panels show may be put in place of what
-- they showed, and what they show otherwise may be told
pub record HasFaces (run : Run) : Type 0 where
  pub shows : MayShow run.system run.next.items
  pub room : length run.shown.items ≡ length run.next.items
  pub alike : ShowAlike run.alike run.next.items run.shown.items
  pub passed : ArePassed shows.site run.starts

-- what the panels show was put in place of what they showed, and what they showed before is at hand
pub record ShowsNext (old run : Run) : Type 0 where
  pub rest : run ≡ record old { shown = run.shown; next = run.next; alike = run.alike }
  pub before : run.next.items ≡ old.shown.items
  pub shows : ShowAllNow old.system old.shown.items old.next.items run.shown.items
  pub room : length run.next.items ≡ length run.shown.items
  pub alike : ShowAlike run.alike run.next.items run.shown.items

-- an event was told, with the bytes of its code alone
abbrev pub TellsEvent : Event → Run → Run → Type 0
TellsEvent event old run =
    (site : Site) (kept : Retained) (p : Progress) → Stands site kept p old
    → AreFew (moments_in (after_line site false p (EventLine (event_view event))))
    → Stands site kept (after_line site false p (EventLine (event_view event))) run

-- a number of failed ticks, with one more where Keep's turn failed
abbrev pub failures_with : Bool → ℕ → ℕ
failures_with failed n = if failed then n + 1 else n

-- each seat had its turn, and Keep's answered so
pub record TurnsAll (old : Run) (store : Store) (run : Run) : Type 0 where
  pub rest : run ≡ record old { system = run.system; journal = run.journal }
  pub turns : MakesAllTurns old.system (order_by old.order old.canonical) old.journal store run.journal run.system
  pub marks : MarksAllTurns old.system (order_by old.order old.canonical) old.journal store run.system.changed
  pub tried : run.journal.tried ≤ old.journal.tried + 1

-- what power cuts leave in these turns and after them
pub record LeavesInTick (disks : Disks) (old : Run) (store : Store) (run : Run) : Type 0 where
  pub honest : disks.kind.honest disks.new ↔ disks.kind.honest disks.old
  pub during : disks.kind.honest disks.old → LeavesInTurns disks.kind.moment disks.kind.left_since disks.old disks.new
      (order_by old.order old.canonical) old.system old.journal
  pub after : disks.kind.honest disks.new → HasRoom run.journal → LeavesAfterTurns (disks.kind.images disks.new)
      (order_by old.order old.canonical) old.system old.journal store

-- the turns of the open tick were made, and what was shown before it is still at hand
pub record MakesTick (disks : Disks) (site : Site) (kept : Retained) (p : Progress) (old run : Run) : Type 0 where
  pub failed : Bool
  pub stands : Stands site kept (after_close failed p) run
  pub before : run.next.items ≡ old.shown.items
  pub stores : Stores site kept (stored_old disks old) (stored_new disks run) p.run (closed failed p)

abbrev pub MakesTicks : Disks → Run → Run → Type 0
MakesTicks disks old run =
    (site : Site) (kept : Retained) (p : Progress) → Stands site kept p old
    → AreFew (moments (closed false p)) → MakesTick disks site kept p old run

-- what was written, in this way, is the text of the tick that was run last, where what was shown before it is at hand
abbrev pub TellsTick : (List ℕ → Type 0) → Run → Type 0
TellsTick Wrote run =
    (site : Site) (kept : Retained) (tick : TickBlock) (ticks : List TickBlock)
    → Stands site kept (record { run = tick ∷ ticks; block = None }) run
    → run.next.items ≡ faces_of site kept (moments ticks)
    → Wrote (tick_text site kept (moments ticks) (moments (tick ∷ ticks)))

-- the open tick was closed, where there was one, and what it told was written, or a front of that
pub record Closes (W : Bool → Type 0) (site : Site) (kept : Retained) (p : Progress) (run : Run) : Type 0 where
  pub failed : Bool
  pub stands : Stands site kept (after_close failed p) run
  pub wrote : W failed

abbrev pub ClosesWell : Disks → Option (List ℕ) → Option (List ℕ) → Run → Run → Type 0
ClosesWell disks written written' old run =
    (site : Site) (kept : Retained) (p : Progress) → Stands site kept p old
    → AreFew (moments (closed false p))
    → Closes (λ failed. Writes site kept (outside_before disks written old)
    (outside_after disks written' run) p.run (closed failed p))
    site kept p run

abbrev pub ClosesBadly : Disks → Option (List ℕ) → Option (List ℕ) → Run → Run → Type 0
ClosesBadly disks written written' old run =
    (site : Site) (kept : Retained) (p : Progress) → Stands site kept p old
    → AreFew (moments (closed false p))
    → Closes (λ failed. BreaksTick site kept (outside_before disks written old) (outside_after disks written' run) p.run
    (closed failed p)) site kept p run
