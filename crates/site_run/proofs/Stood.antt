-- What a run stands for after each of its steps.
use Rattle.std.proofs.Common.{◌≡◌, ◌∙◌, ◌+◌, ◌-◌, ◌^◌, ◌<◌, ◌≤◌, ◌++◌, Bool, true, false, List, [], ◌∷◌, length, Option, Some, None}
use Rattle.std.proofs.Common.{refl, sym, ap, subst, arith, lit<, lit≤}
use Rattle.std.proofs.lemmas.List.FromFn.{length-map-range_with_len}
use Rattle.std.proofs.lemmas.List.Sorted.{IsPermutation-refl}
use Rattle.tick_units.specs.declared.seat.Seat.{Seat}
use Rattle.tick_units.specs.declared.task.Task.{Task}
use Rattle.tick_units.specs.declared.task.Task.TheVariants.{Poll, Decide, Supply, Desk, Hold, Link, Effect, Drive, Keep}
use Rattle.tick_units.specs.Orders.{IsOrder, canonical_seats}
use Rattle.tick_units.specs.Ticks.{last_tick}
use Rattle.site_types.specs.declared.event.Event.{Event}
use Rattle.site_types.specs.declared.retained.Retained.{Retained}
use Rattle.site_types.specs.declared.site.Site.{Site}
use Rattle.site_types.specs.Changes.{AreCounters}
use Rattle.site_types.specs.Valid.{IsValid}
use Rattle.face_text.specs.declared.face.Face.{Face}
use Rattle.keep_turn.specs.declared.store.Store.{Store}
use Rattle.panel_edges.specs.declared.sound_memory_sink.SoundMemorySink.{SoundMemorySink}
use Rattle.panel_rules.specs.Moments.{Moment, Began, Happened, TickBlock, IsRun, moments, and_events, and_turns, tick_of, turn_of}
use Rattle.panel_rules.specs.Records.{AreOrdered}
use Rattle.panel_rules.specs.Timeline.{face_of, faces_of}
use Rattle.panel_rules.proofs.RecordRuns.{records_are_runs}
use Rattle.panel_core.specs.declared.system.System.{System}
use Rattle.panel_core.specs.Keeping.{HasTurned, KeepsRun, MayTurnAll, has_failed}
use Rattle.panel_core.specs.Marks.{AreMarked, before_tick}
use Rattle.panel_core.specs.Stands.{StandsFor as SystemStands}
use Rattle.retained_journal.specs.declared.journal.Journal.{Journal}
use Rattle.face_text.specs.Starts.{ArePassed}
use Rattle.site_run.specs.declared.run.Run.{Run}
use Rattle.site_run.specs.AlikeFaces.{ShowAlike}
use Rattle.site_run.specs.Acting.{HasFaces, MakesTick, MayShow, ShowsNext, TurnsAll, failures_with}
use Rattle.site_run.specs.Journals.{IsOpenFor}
use Rattle.site_run.specs.Records.{Block, Progress, at_beginning, closed, closed_by, moments_by, new_block, ticked}
use Rattle.site_run.specs.Records.{moments_in, with_event}
use Rattle.site_run.specs.Outside.{Disks, stored_new, stored_old}
use Rattle.site_run.specs.Stands.{AreFew, HasRun, MayClose, Stands, Stores, after_close, order_by}
use Rattle.run_text.specs.Failures.{failures}
use Rattle.run_text.proofs.TickTimes.{tick_moments}
use Rattle.panel_laws.specs.OperationLaws.{AreEventsOf}
use Rattle.panel_laws.proofs.EventsOfSite.{of_site}
use Rattle.site_run.proofs.Progresses.{closed_ordered, events_length, same_moments}

-- ---- the tick of a record's moments

events_tick : (events : List Event) (before : List Moment) → tick_of (and_events events before) ≡ tick_of before
events_tick [] before = refl
events_tick (event ∷ events) before = events_tick events (Happened event ∷ before)

pub block_tick : (block : Block) (ticks : List TickBlock) → tick_of (and_events block.events (Began ∷ moments ticks)) ≡ length ticks + 1
block_tick block ticks = let e = tick_moments ticks in let told = events_tick block.events (Began ∷ moments ticks) in omega (arith, e, told)

pub events_more : (events : List Event) (event : Event) (before : List Moment) → and_events (events ++ event ∷ []) before ≡ Happened event
    ∷ and_events events before
events_more [] event before = refl
events_more (x ∷ events) event before = events_more events event (Happened x ∷ before)

-- ---- steps

-- before the first tick
pub opened : (site : Site) (kept : Retained) (run : Run) → IsValid site → AreCounters kept.counters → IsOpenFor site kept run.journal
    → SystemStands site kept [] run.system → run.is_open ≡ false → run.canonical ≡ canonical_seats site.panels → run.ticks ≡ 0
    → run.store_failures ≡ 0 → run.shown.items ≡ faces_of site kept [] → length run.next.items ≡ site.panels
    → ShowAlike run.alike run.next.items run.shown.items → ArePassed site run.starts → Stands site kept at_beginning run
opened site kept run valid counters opens stands shut canonical none fine shown room alike starts =
    let tried = opens.tried in
    record {
      valid = valid;
      counters = counters;
      system = stands;
      journal = opens.keeps;
      tried = omega (arith, tried, none);
      open_is = shut;
      canonical = canonical;
      order_is = tt;
      ordered = tt;
      shown = shown;
      marks = λ panel member unmarked. refl;
      room = room;
      alike = alike;
      starts = starts;
      count = none;
      failed = fine;
      few = (let start : 0 ≤ last_tick = lit≤ tt in start);
      short = (let start : 0 < 2 ^ 64 - 1 = lit< tt in start);
    }

-- a tick begins
pub begun : (site : Site) (kept : Retained) (ticks : List TickBlock) (old : Run) (system : System) → Stands site kept (record { run = ticks; block = None }) old
    → SystemStands site kept (Began ∷ moments ticks) system → AreMarked site kept (Began ∷ moments ticks) system.changed → length ticks + 1 ≤ last_tick → AreFew (Began ∷ moments ticks)
    → Stands site kept (record { run = ticks; block = Some (new_block site) }) (record old { system = system; is_open = true; order = None })
begun site kept ticks old system h stands marks few short =
    record {
      valid = h.valid;
      counters = h.counters;
      system = stands;
      journal = record { keeps = h.journal.keeps; wide = h.journal.wide; torn = h.journal.torn };
      tried = h.tried;
      open_is = refl;
      canonical = h.canonical;
      order_is = sym h.canonical;
      ordered = (h.ordered, IsPermutation-refl (canonical_seats site.panels));
      shown = h.shown;
      marks = marks;
      room = h.room;
      alike = h.alike;
      starts = h.starts;
      count = h.count;
      failed = h.failed;
      few = omega (arith, few);
      short = short;
    }

pub not_open : {X : Type 0} → true ≡ false → X
not_open e = absurd (go e)
  where
    go : true ≡ false → ⊥
    go e = cc

told_by : (site : Site) (kept : Retained) (ticks : List TickBlock) (o : Option Block) (old : Run) (event : Event) (system : System)
    → Stands site kept (record { run = ticks; block = o }) old → old.is_open ≡ true → SystemStands site kept (Happened event ∷ moments_by o ticks) system
    → AreMarked site kept (Happened event ∷ moments_by o ticks) system.changed
    → AreFew (moments_by (with_event event o) ticks)
    → Stands site kept (record { run = ticks; block = with_event event o }) (record old { system = system })
told_by site kept ticks None old event system h open_is stands marks short = not_open (sym open_is ∙ h.open_is)
told_by site kept ticks (Some block) old event system h open_is stands marks short =
    let more = sym (events_more block.events event (Began ∷ moments ticks)) in
    record {
      system = subst (λ ms. SystemStands site kept ms system) more stands;
      journal = subst (λ ms. KeepsRun site kept ms old.journal) more (record { keeps = h.journal.keeps; wide = h.journal.wide; torn = h.journal.torn });
      marks = subst (λ ms. AreMarked site kept ms system.changed) more marks;
      short = short;
      valid = h.valid;
      counters = h.counters;
      open_is = h.open_is;
      order_is = h.order_is;
      ordered = h.ordered;
      canonical = h.canonical;
      shown = h.shown;
      room = h.room;
      alike = h.alike;
      starts = h.starts;
      count = h.count;
      few = h.few;
      tried = h.tried;
      failed = h.failed;
    }

-- an event comes in an open tick
pub told : (site : Site) (kept : Retained) (p : Progress) (old : Run) (event : Event) (system : System) → Stands site kept p old
    → old.is_open ≡ true → SystemStands site kept (Happened event ∷ moments_by p.block p.run) system
    → AreMarked site kept (Happened event ∷ moments_by p.block p.run) system.changed
    → AreFew (moments_by (with_event event p.block) p.run)
    → Stands site kept (record { run = p.run; block = with_event event p.block }) (record old { system = system })
told site kept p old event system h open_is stands marks short = told_by site kept p.run p.block old event system h open_is stands marks short

untold_by : (site : Site) (kept : Retained) (ticks : List TickBlock) (o : Option Block) (run : Run) (event : Event)
    → Stands site kept (record { run = ticks; block = o }) run → run.is_open ≡ false
    → Stands site kept (record { run = ticks; block = with_event event o }) run
untold_by site kept ticks None run event h shut = h
untold_by site kept ticks (Some block) run event h shut = not_open (sym h.open_is ∙ shut)

-- where no tick has begun it changes nothing
pub untold : (site : Site) (kept : Retained) (p : Progress) (run : Run) (event : Event) → Stands site kept p run → run.is_open ≡ false
    → Stands site kept (record { run = p.run; block = with_event event p.block }) run
untold site kept p run event h shut = untold_by site kept p.run p.block run event h shut

-- ---- the turns of a tick

-- what had befallen before a tick of a record
before_events : (events : List Event) (past : List Moment) → before_tick (and_events events (Began ∷ past)) ≡ past
before_events events past = go events (Began ∷ past)
  where
    go : (xs : List Event) (ms : List Moment) → before_tick (and_events xs ms) ≡ before_tick ms
    go [] ms = refl
    go (x ∷ xs) ms = go xs (Happened x ∷ ms)

before_turns : (failed : Bool) (order : List Seat) (past : List Moment) → before_tick (and_turns failed order past) ≡ before_tick past
before_turns failed [] past = refl
before_turns failed (seat ∷ seats) past = before_turns failed seats (turn_of failed seat.panel seat.task ∷ past) ∙ one seat.task
  where
    one : (task : Task) → before_tick (turn_of failed seat.panel task ∷ past) ≡ before_tick past
    one Keep = refl
    one Poll = refl
    one Decide = refl
    one Supply = refl
    one Desk = refl
    one Hold = refl
    one Link = refl
    one Effect = refl
    one Drive = refl

pub before_block : (tick : TickBlock) (ticks : List TickBlock) → before_tick (moments (tick ∷ ticks)) ≡ moments ticks
before_block tick ticks =
    before_turns tick.failed tick.order (and_events tick.events (Began ∷ moments ticks)) ∙ before_events tick.events (moments ticks)

module _ (site : Site) (kept : Retained) (ticks : List TickBlock) (block : Block) (run : Run) (h :
    Stands site kept (record { run = ticks; block = Some block }) run) where
  abbrev before : List Moment
  before = and_events block.events (Began ∷ moments ticks)

  pub order_run : IsRun site.panels (and_turns false (order_by run.order run.canonical) before)
  order_run =
      subst (λ order. IsRun site.panels (and_turns false order before)) h.order_is (records_are_runs site.panels (ticked false block ∷ ticks) h.ordered).0

  pub in_time : tick_of before ≤ last_tick
  in_time = let tick = block_tick block ticks in let few = h.few in omega (arith, tick, few)

  pub may_turn_block : MayTurnAll (order_by run.order run.canonical) run.journal run.system
  may_turn_block =
      let few = h.few in
      let count = h.count in
      let tried = h.tried in
      record {
        site = site;
        kept = kept;
        before = before;
        stands = h.system;
        keeps = h.journal;
        ordered = subst (IsOrder site.panels) h.order_is h.ordered.1;
        run = order_run;
        few = in_time;
        tried = omega (arith, few, count, tried);
      }

  -- after its turns the system and its journal stand for one tick more
  pub turned_block : (store : Store) (turned : Run) → TurnsAll run store turned
      → HasTurned site kept (moments (ticked (has_failed store) block ∷ ticks)) store turned.journal turned.system
  turned_block store turned turns =
      subst (λ order. HasTurned site kept (and_turns (has_failed store) order before) store turned.journal turned.system)
      (sym h.order_is) (turns.turns site kept before h.system h.journal order_run in_time)

  -- and each panel that isn't marked shows what it showed at its beginning
  pub marked_block : (store : Store) (turned : Run) → TurnsAll run store turned
      → AreMarked site kept (moments (ticked (has_failed store) block ∷ ticks)) turned.system.changed
  marked_block store turned turns =
      subst (λ order. AreMarked site kept (and_turns (has_failed store) order before) turned.system.changed)
      (sym h.order_is) (turns.marks site kept before h.system h.journal order_run in_time h.marks)

may_turn_by : (site : Site) (kept : Retained) (ticks : List TickBlock) (o : Option Block) (run : Run)
    → Stands site kept (record { run = ticks; block = o }) run → run.is_open ≡ true
    → MayTurnAll (order_by run.order run.canonical) run.journal run.system
may_turn_by site kept ticks None run h open_is = not_open (sym open_is ∙ h.open_is)
may_turn_by site kept ticks (Some block) run h open_is = may_turn_block site kept ticks block run h

-- an open tick may have its turns
pub may_turn : (run : Run) (r : MayClose run) → MayTurnAll (order_by run.order run.canonical) run.journal run.system
may_turn run r = may_turn_by r.site r.kept r.p.run r.p.block run r.stands r.open_is

-- the tick of a run was made, after the turns of its seats
pub record TickMade (store : Store) (turned run : Run) : Type 0 where
  pub system : run.system ≡ turned.system
  pub journal : run.journal ≡ turned.journal
  pub shut : run.is_open ≡ false
  pub canonical : run.canonical ≡ turned.canonical
  pub ticks : run.ticks ≡ turned.ticks + 1
  pub failed : run.store_failures ≡ failures_with (has_failed store) turned.store_failures
  pub before : run.next.items ≡ turned.shown.items
  pub alike : ShowAlike run.alike run.next.items run.shown.items
  pub starts : run.starts ≡ turned.starts

module _ (site : Site) (kept : Retained) (store : Store) (old turned run : Run) (turns : TurnsAll old store turned) (made :
    TickMade store turned run) (shows : (before : List Moment) → SystemStands site kept before turned.system → IsRun site.panels before
    → AreMarked site kept before turned.system.changed → length old.next.items ≡ site.panels → old.shown.items ≡ faces_of site kept (before_tick before)
    → run.shown.items ≡ faces_of site kept before) (disks : Disks) (stores : (ticks : List TickBlock) (block : Block)
    → Stands site kept (record { run = ticks; block = Some block }) old
    → Stores site kept (stored_old disks old) (stored_new disks run) ticks (ticked (has_failed store) block ∷ ticks)) where
  made_block : (ticks : List TickBlock) (block : Block) → Stands site kept (record { run = ticks; block = Some block }) old
      → AreFew (moments (ticked false block ∷ ticks)) → MakesTick disks site kept (record { run = ticks; block = Some block }) old run
  made_block ticks block h short =
      let failed = has_failed store in
      let all = ticked failed block ∷ ticks in
      let turned_so = turned_block site kept ticks block old h store turned turns in
      let marked = marked_block site kept ticks block old h store turned turns in
      let ordered = closed_ordered site.panels failed (Some block) ticks h.ordered in
      let runs = records_are_runs site.panels all ordered in
      let count = h.count in
      let ticked_more = made.ticks in
      let ticks_were = ap (λ (r : Run). r.ticks) turns.rest in
      let tried = turns.tried in
      let tried_were = h.tried in
      let tried_now = ap (λ (j : Journal). j.tried) made.journal in
      let shown_were = made.before ∙ ap (λ (r : Run). r.shown.items) turns.rest in
      let few = h.few in
      let same = same_moments failed (Some block) ticks in
      record {
        failed = failed;
        stands = record {
          valid = h.valid;
          counters = h.counters;
          system = subst (SystemStands site kept (moments all)) (sym made.system) turned_so.stands;
          journal = subst (KeepsRun site kept (moments all)) (sym made.journal) turned_so.keeps;
          tried = omega (arith, ticked_more, ticks_were, tried, tried_were, tried_now);
          open_is = made.shut;
          canonical = made.canonical ∙ ap (λ (r : Run). r.canonical) turns.rest ∙ h.canonical;
          order_is = tt;
          ordered = ordered;
          shown =
              shows (moments all) turned_so.stands runs.0 marked h.room
              (h.shown ∙ ap (faces_of site kept) (sym (before_block (ticked failed block) ticks)));
          marks = subst (λ (s : System). AreMarked site kept (moments all) s.changed) (sym made.system) marked;
          room =
              ap (λ (fs : List Face). length fs) (shown_were ∙ h.shown)
              ∙ length-map-range_with_len (λ panel. face_of site kept panel (moments ticks)) 1 site.panels;
          alike = made.alike;
          starts = subst (ArePassed site) (sym (made.starts ∙ ap (λ (r : Run). r.starts) turns.rest)) h.starts;
          count = omega (arith, ticked_more, ticks_were, count);
          failed = made.failed ∙ ap (failures_with failed) (ap (λ (r : Run). r.store_failures) turns.rest ∙ h.failed);
          few = omega (arith, few);
          short = omega (arith, short, same);
        };
        before = shown_were;
        stores = stores ticks block h;
      }

  made_by : (ticks : List TickBlock) (o : Option Block) → Stands site kept (record { run = ticks; block = o }) old → old.is_open ≡ true
      → AreFew (moments (closed_by false o ticks)) → MakesTick disks site kept (record { run = ticks; block = o }) old run
  made_by ticks None h open_is short = not_open (sym open_is ∙ h.open_is)
  made_by ticks (Some block) h open_is short = made_block ticks block h short

  -- the turns were made
  pub makes : (p : Progress) → Stands site kept p old → old.is_open ≡ true → AreFew (moments (closed false p)) → MakesTick disks site kept p old run
  makes p h open_is short = made_by p.run p.block h open_is short

run_few : (o : Option Block) (ticks : List TickBlock) → length ticks ≤ length (closed_by false o ticks)
run_few None ticks = omega arith
run_few (Some block) ticks = omega arith

-- the count of ticks stays far below its type's end
pub ticks_few : (site : Site) (kept : Retained) (p : Progress) (run : Run) → Stands site kept p run → run.ticks ≤ last_tick
ticks_few site kept p run h = let few = h.few in let count = h.count in let le = run_few p.block p.run in omega (arith, few, count, le)

pub failures_few : (ticks : List TickBlock) → failures ticks ≤ length ticks
failures_few [] = omega arith
failures_few (tick ∷ ticks) = go tick.failed (failures_few ticks)
  where
    go : (b : Bool) → failures ticks ≤ length ticks → failures_with b (failures ticks) ≤ length (tick ∷ ticks)
    go true ih = omega (arith, ih)
    go false ih = omega (arith, ih)

-- and so does that of the failed ones
pub failed_few : (site : Site) (kept : Retained) (p : Progress) (run : Run) → Stands site kept p run → run.store_failures ≤ last_tick
failed_few site kept p run h =
    let failed = h.failed in
    let le = failures_few p.run in
    let ticks = ticks_few site kept p run h in
    let count = h.count in
    omega (arith, failed, le, ticks, count)

shut_by : (site : Site) (kept : Retained) (ticks : List TickBlock) (o : Option Block) (run : Run) → Stands site kept (record { run = ticks; block = o }) run
    → run.is_open ≡ false → (o ≡ None) × Stands site kept (record { run = closed_by false o ticks; block = None }) run
shut_by site kept ticks None run h shut = (refl, h)
shut_by site kept ticks (Some block) run h shut = not_open (sym h.open_is ∙ shut)

-- where no tick is open there is nothing to close
pub shut : (site : Site) (kept : Retained) (p : Progress) (run : Run) → Stands site kept p run → run.is_open ≡ false
    → (p.block ≡ None) × Stands site kept (after_close false p) run
shut site kept p run h is = shut_by site kept p.run p.block run h is

-- ---- what has been run

events_behind : (site : Site) (events : List Event) (past : List Moment) → AreEventsOf site (and_events events past) → AreEventsOf site past
events_behind site [] past h = h
events_behind site (event ∷ events) past h = (events_behind site events (Happened event ∷ past) h).0

run_events : (site : Site) (o : Option Block) (ticks : List TickBlock) → AreEventsOf site (moments_by o ticks) → AreEventsOf site (moments ticks)
run_events site None ticks h = h
run_events site (Some block) ticks h = events_behind site block.events (Began ∷ moments ticks) h

run_moments : (o : Option Block) (ticks : List TickBlock) → length (moments ticks) ≤ length (moments_by o ticks)
run_moments None ticks = omega arith
run_moments (Some block) ticks = let e = events_length block.events (Began ∷ moments ticks) in omega (arith, e)

run_ordered : (site : Site) (o : Option Block) (ticks : List TickBlock) → AreOrdered site.panels (closed_by false o ticks) → AreOrdered site.panels ticks
run_ordered site None ticks h = h
run_ordered site (Some block) ticks h = h.0

-- what befell since the last tick changes nothing that is kept
keeps_behind : (site : Site) (kept : Retained) (journal : Journal) (events : List Event) (before : List Moment)
    → KeepsRun site kept (and_events events before) journal → KeepsRun site kept before journal
keeps_behind site kept journal [] earlier h = h
keeps_behind site kept journal (event ∷ events) earlier h =
    let g = keeps_behind site kept journal events (Happened event ∷ earlier) h in
    record { keeps = g.keeps; wide = g.wide; torn = g.torn }

run_keeps : (site : Site) (kept : Retained) (journal : Journal) (o : Option Block) (ticks : List TickBlock)
    → KeepsRun site kept (moments_by o ticks) journal → KeepsRun site kept (moments ticks) journal
run_keeps site kept journal None ticks h = h
run_keeps site kept journal (Some block) ticks h =
    let g = keeps_behind site kept journal block.events (Began ∷ moments ticks) h in
    record { keeps = g.keeps; wide = g.wide; torn = g.torn }

pub has_run : (site : Site) (kept : Retained) (ticks : List TickBlock) (o : Option Block) (run : Run)
    → Stands site kept (record { run = ticks; block = o }) run → HasRun site kept ticks run
has_run site kept ticks o run h =
    let ordered = run_ordered site o ticks h.ordered in
    let short = h.short in
    let part = run_moments o ticks in
    record {
      can = record {
        valid = h.valid;
        run = (records_are_runs site.panels ticks ordered).0;
        of_site = of_site site (moments ticks) (run_events site o ticks h.system.events);
        counters = h.counters;
        few = omega (arith, short, part);
      };
      count = h.count;
      failed = h.failed;
      ordered = ordered;
      few = let few = h.few in let less = run_few o ticks in omega (arith, few, less);
      journal = run_keeps site kept run.journal o ticks h.journal;
      tried = h.tried;
    }

-- the page isn't looked at
pub with_page : (site : Site) (kept : Retained) (p : Progress) (run : Run) (page : SoundMemorySink) → Stands site kept p run
    → Stands site kept p (record run { page = page })
with_page site kept p run page h =
    record {
      valid = h.valid;
      counters = h.counters;
      system = h.system;
      journal = h.journal;
      tried = h.tried;
      open_is = h.open_is;
      canonical = h.canonical;
      order_is = h.order_is;
      ordered = h.ordered;
      shown = h.shown;
      marks = h.marks;
      room = h.room;
      alike = h.alike;
      starts = h.starts;
      count = h.count;
      failed = h.failed;
      few = h.few;
      short = h.short;
    }

may_show_by : (site : Site) (kept : Retained) (ticks : List TickBlock) (o : Option Block) (old turned : Run) (store : Store)
    → Stands site kept (record { run = ticks; block = o }) old → old.is_open ≡ true → TurnsAll old store turned → MayShow turned.system turned.next.items
may_show_by site kept ticks None old turned store h open_is turns = not_open (sym open_is ∙ h.open_is)
may_show_by site kept ticks (Some block) old turned store h open_is turns =
    let turned_so = turned_block site kept ticks block old h store turned turns in
    record {
      site = site;
      kept = kept;
      before = moments (ticked (has_failed store) block ∷ ticks);
      stands = turned_so.stands;
      room = ap (λ (r : Run). length r.next.items) turns.rest ∙ h.room;
    }

-- what is shown may be asked for once the turns were made
pub may_show : (old turned : Run) (store : Store) (r : MayClose old) → TurnsAll old store turned → MayShow turned.system turned.next.items
may_show old turned store r turns = may_show_by r.site r.kept r.p.run r.p.block old turned store r.stands r.open_is turns

-- there is a face of each panel, before and after
pub same_room : (site : Site) (kept : Retained) (p : Progress) (run : Run) → Stands site kept p run → length run.shown.items ≡ length run.next.items
same_room site kept p run h =
    ap (λ (fs : List Face). length fs) h.shown
    ∙ length-map-range_with_len (λ panel. face_of site kept panel (moments p.run)) 1 site.panels
    ∙ sym h.room

-- what is at hand of the faces of a run
pub has_faces : (site : Site) (kept : Retained) (p : Progress) (run : Run) → Stands site kept p run → HasFaces run
has_faces site kept p run h =
    record {
      shows = record { site = site; kept = kept; before = moments_in p; stands = h.system; room = h.room };
      room = same_room site kept p run h;
      alike = h.alike;
      passed = h.starts;
    }

-- the site of which it was shown is the one that the run stands for
may_show_site : (site : Site) (kept : Retained) (ticks : List TickBlock) (o : Option Block) (old turned : Run) (store : Store)
    (h : Stands site kept (record { run = ticks; block = o }) old) (open_is : old.is_open ≡ true) (turns : TurnsAll old store turned)
    → (may_show_by site kept ticks o old turned store h open_is turns).site ≡ site
unfolding may_show_by
may_show_site site kept ticks None old turned store h open_is turns = not_open (sym open_is ∙ h.open_is)
may_show_site site kept ticks (Some block) old turned store h open_is turns = refl

-- and once the turns were made
pub has_faces_turned : (old turned : Run) (store : Store) (r : MayClose old) → TurnsAll old store turned → HasFaces turned
unfolding may_show
has_faces_turned old turned store r turns =
    let same = turns.rest in
    let h = r.stands in
    record {
      shows = may_show old turned store r turns;
      room =
          ap (λ (run : Run). length run.shown.items) same ∙ same_room r.site r.kept r.p old h
          ∙ sym (ap (λ (run : Run). length run.next.items) same);
      alike = subst (λ (run : Run). ShowAlike run.alike run.next.items run.shown.items) (sym same) h.alike;
      passed =
          subst (λ s. ArePassed s turned.starts) (sym (may_show_site r.site r.kept r.p.run r.p.block old turned store h r.open_is turns))
          (subst (λ (run : Run). ArePassed r.site run.starts) (sym same) h.starts);
    }

-- and once what the panels show was put in place of what they showed
pub has_faces_next : (old run : Run) → HasFaces old → ShowsNext old run → HasFaces run
has_faces_next old run h next =
    record {
      shows = record {
        site = h.shows.site;
        kept = h.shows.kept;
        before = h.shows.before;
        stands =
            subst (SystemStands h.shows.site h.shows.kept h.shows.before) (sym (ap (λ (r : Run). r.system) next.rest))
            h.shows.stands;
        room = ap (λ (fs : List Face). length fs) next.before ∙ h.room ∙ h.shows.room;
      };
      room = sym next.room;
      alike = next.alike;
      passed = subst (ArePassed h.shows.site) (sym (ap (λ (r : Run). r.starts) next.rest)) h.passed;
    }
