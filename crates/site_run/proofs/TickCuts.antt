-- What power cuts leave of the turns of a tick.
use Rattle.std.proofs.Common.{◌≡◌, ◌⊎◌, ◌+◌, ◌≤◌, ℕ, List, ◌∷◌, false, true, Some, sym, subst, arith}
use Rattle.site_types.specs.declared.retained.Retained.{Retained}
use Rattle.site_types.specs.declared.site.Site.{Site}
use Rattle.panel_edges.specs.Crashes.{LeavesOnly}
use Rattle.panel_edges.proofs.Moments.{weaker}
use Rattle.keep_turn.specs.declared.store.Store.{Store}
use Rattle.retained_journal.specs.Images.{HasRoom, HasRoomForTwo, IsEarly}
use Rattle.panel_rules.specs.Batches.{batch}
use Rattle.panel_rules.specs.Moments.{Moment, Began, TickBlock, IsRun, and_events, and_turns, has_kept, moments}
use Rattle.panel_rules.proofs.RecordRuns.{records_are_runs}
use Rattle.panel_core.specs.Keeping.{before_keep, has_failed}
use Rattle.panel_core.specs.PowerCuts.{OpensToFront, OpensToFrontOr}
use Rattle.site_run.specs.declared.run.Run.{Run}
use Rattle.site_run.specs.Acting.{LeavesInTick}
use Rattle.site_run.specs.Outside.{Disks, stored_new, stored_old}
use Rattle.site_run.specs.PowerCuts.{OpensToAcknowledged, and_tick, no_tick}
use Rattle.site_run.specs.Records.{Block, ticked}
use Rattle.site_run.specs.Stands.{Stands, Stores}
use Rattle.site_run.proofs.Cuts.{acknowledged, opens_in_tick}
use Rattle.site_run.proofs.Stood.{in_time, order_run, ticks_few}

module _ (disks : Disks) (site : Site) (kept : Retained) (ticks : List TickBlock) (block : Block) (old turned : Run) (store : Store) (h :
    Stands site kept (record { run = ticks; block = Some block }) old) (leaves : LeavesInTick disks old store turned) where
  abbrev tick : TickBlock
  tick = ticked (has_failed store) block

  abbrev before : List Moment
  before = and_events block.events (Began ∷ moments ticks)

  runs : IsRun site.panels (and_turns false block.order before)
  runs = (records_are_runs site.panels (ticked false block ∷ ticks) h.ordered).0

  keeps : has_kept (and_turns false block.order before) ≡ true
  keeps = (records_are_runs site.panels (ticked false block ∷ ticks) h.ordered).1.keep

  tried_few : old.journal.tried ≤ 1000000000
  tried_few =
      let few = ticks_few site kept (record { run = ticks; block = Some block }) old h in
      let tried = h.tried in
      omega (arith, few, tried)

  during : disks.kind.honest disks.old → IsEarly old.journal
      → LeavesOnly disks.kind.moment disks.kind.left_since disks.old disks.new (λ file.
      OpensToAcknowledged site kept old.journal.digest ticks file ⊎ OpensToAcknowledged site kept old.journal.digest (tick ∷ ticks) file)
  during sure early =
      let few = tried_few in
      let room : HasRoomForTwo old.journal = omega (arith, early, few) in
      let left =
      subst
      (λ order. LeavesOnly disks.kind.moment disks.kind.left_since disks.old disks.new
      (OpensToFrontOr site kept old.journal.digest before (batch site kept (before_keep (and_turns false order before)))))
      (sym h.order_is)
      (leaves.during sure site kept before h.system h.journal (order_run site kept ticks block old h) (in_time site kept ticks block old h) room) in
      weaker disks.kind.moment disks.kind.left_since disks.old disks.new
      (OpensToFrontOr site kept old.journal.digest before (batch site kept (before_keep (and_turns false block.order before))))
      (λ file. OpensToAcknowledged site kept old.journal.digest ticks file ⊎ OpensToAcknowledged site kept old.journal.digest (tick ∷ ticks) file)
      (λ file opens. opens_in_tick site kept old.journal.digest ticks tick file runs keeps opens) left

  module _ (digest : turned.journal.digest ≡ old.journal.digest) (early : IsEarly old.journal → IsEarly turned.journal) (tried :
      turned.journal.tried ≤ old.journal.tried + 1) where
    after : disks.kind.honest disks.old → IsEarly old.journal → (file : List ℕ) → disks.kind.images disks.new file
        → OpensToAcknowledged site kept old.journal.digest (tick ∷ ticks) file
    after sure was file left =
        let few = tried_few in
        let low = early was in
        let room : HasRoom turned.journal = omega (arith, low, few, tried) in
        acknowledged site kept old.journal.digest (tick ∷ ticks) file
        (subst (λ order. OpensToFront site kept old.journal.digest (and_turns (has_failed store) order before) file) (sym h.order_is)
        (leaves.after (leaves.honest.1 sure) room site kept before file h.system h.journal (order_run site kept ticks block old h)
        (in_time site kept ticks block old h) left))

    -- the turns of the open tick
    pub stores_tick : Stores site kept (stored_old disks old) (stored_new disks turned) ticks (tick ∷ ticks)
    stores_tick = record {
      honest = leaves.honest;
      early = early;
      digest = digest;
      leaves = λ sure was. and_tick tick ticks disks.old disks.new no_tick (record { during = during sure was; after = after sure was });
    }
