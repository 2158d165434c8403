-- The turns of a tick of a panel at work by itself.
use Rattle.std.proofs.Common.{◌≡◌, ◌∙◌, ◌⊎◌, ◌↔◌, ◌≤◌, ℕ, Bool, false, List, [], ◌∷◌, sym, ap, subst, arith}
use Rattle.std.proofs.lemmas.List.Sorted.{IsPermutation-refl}
use Rattle.tick_units.specs.Orders.{canonical_seats}
use Rattle.tick_units.specs.Ticks.{last_tick}
use Rattle.site_types.specs.declared.event.Event.{Event}
use Rattle.site_types.specs.declared.retained.Retained.{Retained}
use Rattle.site_types.specs.declared.site.Site.{Site}
use Rattle.face_text.specs.declared.face.Face.{Face}
use Rattle.keep_turn.specs.Turns.{TriesAtMostOnce}
use Rattle.keep_turn.specs.declared.store.Store.{Store}
use Rattle.panel_edges.proofs.Moments.{weaker}
use Rattle.panel_edges.specs.Crashes.{LeavesOnly}
use Rattle.retained_journal.specs.Images.{HasRoom, HasRoomForTwo, IsEarly}
use Rattle.retained_journal.specs.declared.journal.Journal.{Journal}
use Rattle.panel_core.specs.Keeping.{KeepsRun, before_keep, has_failed}
use Rattle.panel_core.specs.PowerCuts.{OpensToFront, OpensToFrontOr}
use Rattle.panel_rules.specs.Batches.{batch}
use Rattle.panel_rules.specs.Moments.{Moment, Began, Happened, TickBlock, HaveAllTurned, IsRun, and_events, and_turns, moments, tick_of}
use Rattle.panel_rules.specs.Records.{AreOrdered}
use Rattle.panel_rules.proofs.RecordRuns.{records_are_runs}
use Rattle.site_run.specs.Acting.{failures_with}
use Rattle.site_run.specs.Outside.{Disks}
use Rattle.site_run.specs.PowerCuts.{OpensToAcknowledged, and_tick, no_tick}
use Rattle.site_run.specs.Stands.{Stores}
use Rattle.site_run.proofs.Cuts.{acknowledged, opens_in_tick}
use Rattle.site_run.proofs.Stood.{block_tick, failures_few}
use Rattle.node_rules.specs.Histories.{NodeMoment, befallen}
use Rattle.node_rules.specs.Nodes.{node_face}
use Rattle.node_answers.specs.Exchanges.{at_tick_end}
use Rattle.panel_node.specs.Keeping.{LeavesAfterTurns, LeavesInTurns, MakesAllTurns, MayTurnAll, NodeHasTurned, and_all_turns}
use Rattle.panel_node.specs.Seats.{and_seats}
use Rattle.panel_node.specs.Shown.{ShowsFace}
use Rattle.panel_node.specs.Stands.{NodeStandsFor, StandsForHistory}
use Rattle.panel_node.specs.declared.node.Node.{Node}
use Rattle.node_desk.specs.Running.{HasBegun, MadeTick, own_tick}
use Rattle.face_text.specs.Starts.{ArePassed}
use Rattle.node_desk.specs.declared.node_run.NodeRun.{NodeRun}
use Rattle.node_desk.proofs.Befalling.{and_befell, befallen_events, befallen_tick, ends_tick, seats_befell}

-- what a journal keeps stays as a tick begins and events come
keeps_events : (site : Site) (kept : Retained) (events : List Event) (before : List Moment) (journal : Journal) → KeepsRun site kept before journal
    → KeepsRun site kept (and_events events before) journal
keeps_events site kept [] before journal keeps = keeps
keeps_events site kept (event ∷ events) before journal keeps =
    keeps_events site kept events (Happened event ∷ before) journal (record { keeps = keeps.keeps; wide = keeps.wide; torn = keeps.torn })

module _ (site : Site) (panel : ℕ) (kept : Retained) (history : List NodeMoment) (ticks : List TickBlock) (events : List Event) (old : NodeRun) (h :
    HasBegun site panel kept history ticks events old) where
  abbrev begun : List NodeMoment
  begun = and_befell (and_events events (Began ∷ [])) history

  abbrev before : List Moment
  before = and_events events (Began ∷ moments ticks)

  same : befallen begun ≡ before
  same = befallen_events events history ticks h.befell

  ordered : (failed : Bool) → AreOrdered site.panels (own_tick site failed events ∷ ticks)
  ordered failed = (h.ordered, IsPermutation-refl (canonical_seats site.panels))

  runs : (failed : Bool) → IsRun site.panels (moments (own_tick site failed events ∷ ticks)) × HaveAllTurned site.panels (moments (own_tick site failed events ∷ ticks))
  runs failed = records_are_runs site.panels (own_tick site failed events ∷ ticks) (ordered failed)

  run : IsRun site.panels (and_all_turns site begun)
  run = subst (λ ms. IsRun site.panels (and_turns false (canonical_seats site.panels) ms)) (sym same) (runs false).0

  in_time : tick_of (befallen begun) ≤ last_tick
  in_time =
      let tick = block_tick (record { events = events; order = canonical_seats site.panels }) ticks in
      let few = h.few in
      subst (λ ms. tick_of ms ≤ last_tick) (sym same) (omega (arith, tick, few))

  keeps : KeepsRun site kept (befallen begun) old.journal
  keeps =
      subst (λ ms. KeepsRun site kept ms old.journal) (sym same)
      (keeps_events site kept events (Began ∷ moments ticks) old.journal
      (record { keeps = h.keeps.keeps; wide = h.keeps.wide; torn = h.keeps.torn }))

  pub may_turn : MayTurnAll old.journal old.node
  may_turn =
      let few = h.few in
      let tried = h.tried in
      record {
        site = site;
        panel = panel;
        kept = kept;
        history = begun;
        stands = h.node;
        keeps = keeps;
        run = run;
        few = in_time;
        tried = omega (arith, few, tried);
      }

  pub failures_below : old.store_failures ≤ last_tick
  failures_below = let few = h.few in let failed = h.failed in let le = failures_few ticks in omega (arith, few, failed, le)

  module _ (disks : Disks) (store : Store) (journal : Journal) (node : Node) (turns : MakesAllTurns old.node old.journal store journal node) (tries :
      TriesAtMostOnce old.journal journal) where
    abbrev tick : TickBlock
    tick = own_tick site (has_failed store) events

    abbrev after : List NodeMoment
    after = and_befell (moments (tick ∷ [])) history

    seated : and_seats (has_failed store) (canonical_seats site.panels) begun ≡ after
    seated = seats_befell (has_failed store) (canonical_seats site.panels) (and_events events (Began ∷ [])) history

    made : NodeHasTurned site panel kept after store journal node
    made = subst (λ hs. NodeHasTurned site panel kept hs store journal node) seated (turns site panel kept begun h.node keeps run in_time)

    pub turned_for : NodeStandsFor site panel kept after node
    turned_for = made.stands

    pub some_turned : StandsForHistory node
    some_turned = record { site = site; panel = panel; kept = kept; history = after; stands = made.stands }

    ended : befallen after ≡ moments (tick ∷ ticks)
    ended = befallen_tick tick history ticks h.befell

    tried_few : old.journal.tried ≤ 1000000000
    tried_few = let few = h.few in let tried = h.tried in omega (arith, few, tried)

    -- ---- power cuts

    during : disks.kind.honest disks.old → (disks.kind.honest disks.old
        → LeavesInTurns disks.kind.moment disks.kind.left_since disks.old disks.new old.node old.journal) → IsEarly old.journal
        → LeavesOnly disks.kind.moment disks.kind.left_since disks.old disks.new (λ file.
        OpensToAcknowledged site kept old.journal.digest ticks file ⊎ OpensToAcknowledged site kept old.journal.digest (tick ∷ ticks) file)
    during sure leaves early =
        let few = tried_few in
        let room : HasRoomForTwo old.journal = omega (arith, early, few) in
        let left =
        subst
        (λ ms. LeavesOnly disks.kind.moment disks.kind.left_since disks.old disks.new
        (OpensToFrontOr site kept old.journal.digest ms (batch site kept (before_keep (and_turns false (canonical_seats site.panels) ms)))))
        same
        (leaves sure site panel kept begun h.node keeps run in_time room) in
        weaker disks.kind.moment disks.kind.left_since disks.old disks.new
        (OpensToFrontOr site kept old.journal.digest before (batch site kept (before_keep (and_turns false (canonical_seats site.panels) before))))
        (λ file. OpensToAcknowledged site kept old.journal.digest ticks file ⊎ OpensToAcknowledged site kept old.journal.digest (tick ∷ ticks) file)
        (λ file opens. opens_in_tick site kept old.journal.digest ticks tick file (runs false).0 (runs false).1.keep opens) left

    behind : (disks.kind.honest disks.new → HasRoom journal → LeavesAfterTurns (disks.kind.images disks.new) old.node old.journal store)
        → disks.kind.honest disks.new → IsEarly journal → (file : List ℕ) → disks.kind.images disks.new file
        → OpensToAcknowledged site kept old.journal.digest (tick ∷ ticks) file
    behind leaves sure early file left =
        let few = tried_few in
        let one = tries.tried in
        let room : HasRoom journal = omega (arith, early, few, one) in
        acknowledged site kept old.journal.digest (tick ∷ ticks) file
        (subst (λ ms. OpensToFront site kept old.journal.digest (and_turns (has_failed store) (canonical_seats site.panels) ms) file) same
        (leaves sure room site panel kept begun file h.node keeps run in_time left))

    pub stores_turns : (disks.kind.honest disks.new ↔ disks.kind.honest disks.old) → (IsEarly old.journal → IsEarly journal)
        → (disks.kind.honest disks.old → LeavesInTurns disks.kind.moment disks.kind.left_since disks.old disks.new old.node old.journal)
        → (disks.kind.honest disks.new → HasRoom journal → LeavesAfterTurns (disks.kind.images disks.new) old.node old.journal store)
        → Stores site kept {kind = disks.kind} (record { disk = disks.old; journal = old.journal }) (record { disk = disks.new; journal = journal }) ticks (tick ∷ ticks)
    stores_turns honest early leaves after = record {
      honest = honest;
      early = early;
      digest = tries.digest;
      leaves = λ sure was.
          and_tick tick ticks disks.old disks.new no_tick (record { during = during sure leaves was; after = behind after (honest.1 sure) (early was) });
    }

    -- ---- the tick

    module _ (face : Face) (shows : ShowsFace node face) where
      face_is : face ≡ node_face site panel (at_tick_end after) kept
      face_is =
          shows site panel kept after made.stands (subst (IsRun site.panels) (sym ended) (runs (has_failed store)).0)
          ∙ ap (λ hs. node_face site panel hs kept) (sym (ends_tick tick history))

      pub made_tick : (run : NodeRun) → run.node ≡ node → run.journal ≡ journal → run.panel ≡ old.panel → run.shown ≡ face → run.before ≡ old.shown
          → run.starts ≡ old.starts → run.store_failures ≡ failures_with (has_failed store) old.store_failures
          → Stores site kept {kind = disks.kind} (record { disk = disks.old; journal = old.journal }) (record { disk = disks.new; journal = journal }) ticks (tick ∷ ticks)
          → MadeTick site panel kept history ticks events disks old run
      made_tick run node_is journal_is panel_is shown_is before_is starts_is failed_is stores =
          let few = h.few in
          let tried = h.tried in
          let one = tries.tried in
          let now = ap (λ (j : Journal). j.tried) journal_is in
          record {
            failed = has_failed store;
            runs = record {
              node = subst (NodeStandsFor site panel kept after) (sym node_is) made.stands;
              own = panel_is ∙ h.own;
              member = h.member;
              befell = ended;
              ordered = ordered (has_failed store);
              keeps =
                  subst (KeepsRun site kept (moments (tick ∷ ticks))) (sym journal_is)
                  (subst (λ ms. KeepsRun site kept ms journal) ended made.keeps);
              tried = omega (arith, tried, one, now);
              shown = shown_is ∙ face_is;
              failed = failed_is ∙ ap (failures_with (has_failed store)) h.failed;
              few = omega (arith, few);
              starts = subst (ArePassed site) (sym starts_is) h.starts;
            };
            before = before_is;
            stores =
                subst (λ j. Stores site kept {kind = disks.kind} (record { disk = disks.old; journal = old.journal }) (record { disk = disks.new; journal = j }) ticks (tick ∷ ticks))
                (sym journal_is) stores;
          }
