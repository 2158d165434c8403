-- The tick of a block of a panel at work by itself, from its beginning to its turns.
use Rattle.std.proofs.Common.{◌≡◌, ◌∙◌, ◌+◌, ◌^◌, ◌≤◌, ℕ, Bool, List, [], ◌∷◌, length, Some, sym, ap, subst, arith}
use Rattle.std.proofs.lemmas.List.Sorted.{IsPermutation-refl}
use Rattle.tick_units.specs.Orders.{IsOrder, canonical_seats}
use Rattle.site_types.specs.declared.retained.Retained.{Retained}
use Rattle.site_types.specs.declared.site.Site.{Site}
use Rattle.retained_journal.specs.declared.journal.Journal.{Journal}
use Rattle.panel_core.specs.Keeping.{KeepsRun}
use Rattle.panel_rules.specs.Moments.{TickBlock, Began, IsRun, and_events, moments, tick_of}
use Rattle.panel_rules.proofs.RecordRuns.{records_are_runs}
use Rattle.run_text.proofs.TickTimes.{tick_moments}
use Rattle.record_lines.specs.Lines.{reading_of}
use Rattle.site_run.specs.Outside.{Disks}
use Rattle.site_run.specs.Records.{Block, ticked}
use Rattle.site_run.specs.Stands.{Stores}
use Rattle.site_run.proofs.Progresses.{closed_moments, events_length}
use Rattle.desk_runs.specs.Ticks.{block_of, lines_behind, tick_told}
use Rattle.desk_runs.proofs.Running.{may_begin}
use Rattle.desk_runs.proofs.Telling.{behind_short, events_few, none_refused}
use Rattle.desk_ticks.specs.Blocks.{behind_line, named_of}
use Rattle.node_inputs.specs.OwnBlocks.{own_refusal_behind}
use Rattle.node_rules.specs.Histories.{NodeMoment, befallen}
use Rattle.panel_node.specs.Changes.{BeginsTick}
use Rattle.panel_node.specs.Stands.{MayBegin, NodeStandsFor}
use Rattle.panel_node.specs.declared.node.Node.{Node}
use Rattle.node_desk.specs.Lines.{MayTellWith, ToldLines}
use Rattle.node_desk.specs.Running.{HasBegun, MadeTick, MayRunWith, RanBlock, node_stored_new, node_stored_old, own_tick}
use Rattle.face_text.specs.Starts.{ArePassed}
use Rattle.node_desk.specs.Runs.{RunsFor}
use Rattle.node_desk.specs.declared.node_run.NodeRun.{NodeRun}
use Rattle.node_desk.proofs.Befalling.{and_befell}

module _ (site : Site) (panel : ℕ) (kept : Retained) (history : List NodeMoment) (ticks : List TickBlock) where
  -- the next tick may begin
  rested : (run : NodeRun) → RunsFor site panel kept history ticks run → IsRun site.panels (Began ∷ befallen history)
  rested run h = subst (λ ms. IsRun site.panels (Began ∷ ms)) (sym h.befell) (records_are_runs site.panels ticks h.ordered)

  pub may_begin_node : (run : NodeRun) → RunsFor site panel kept history ticks run → MayBegin run.node
  may_begin_node run h = record { site = site; panel = panel; kept = kept; history = history; stands = h.node; run = rested run h }

  module _ (tick : ℕ) (block : List ℕ) (old : NodeRun) (may : MayRunWith site panel kept history ticks tick block old) where
    next_tick : tick ≡ tick_of (Began ∷ befallen history)
    next_tick =
        let next = (may_begin tick (length ticks) may.next).1 in
        let count = ap tick_of may.runs.befell ∙ tick_moments ticks in
        omega (arith, next, count)

    module _ (begun : Node) (begins : BeginsTick old.node tick begun) (rest : List ℕ) (is : rest ≡ behind_line block) where
      -- the tick has begun, and its lines may be told
      pub begun_with : MayTellWith site panel kept history ticks rest begun
      begun_with =
          let short = may.short in
          let behind = behind_short block in
          let same = ap (λ (xs : List ℕ). length xs) is in
          record {
            stands = begins site panel kept history may.runs.node next_tick (rested old may.runs);
            befell = may.runs.befell;
            accepted =
                ap (own_refusal_behind site panel) is
                ∙ none_refused (named_of (reading_of site block)) (own_refusal_behind site panel (behind_line block)) tick may.accepted;
            short = omega (arith, short, behind, same);
            room = may.room;
          }

      module _ (told : Node) (lines : ToldLines site panel kept history rest told) where
        abbrev block_told : Block
        block_told = block_of site (lines_behind site rest)

        -- its turns may be made
        pub has_begun : (run : NodeRun) → run.node ≡ told → run.panel ≡ old.panel → run.journal ≡ old.journal → run.shown ≡ old.shown
            → run.store_failures ≡ old.store_failures → run.starts ≡ old.starts → HasBegun site panel kept history ticks block_told.events run
        has_begun run node own journal shown failures starts =
            let h = may.runs in
            let before = (may_begin tick (length ticks) may.next).0 in
            record {
              node =
                  subst (NodeStandsFor site panel kept (and_befell (and_events block_told.events (Began ∷ [])) history)) (sym node) lines.stands;
              own = own ∙ h.own;
              member = h.member;
              befell = h.befell;
              ordered = h.ordered;
              keeps = subst (KeepsRun site kept (moments ticks)) (sym journal) h.keeps;
              tried = subst (λ (j : Journal). j.tried ≤ length ticks) (sym journal) h.tried;
              shown = shown ∙ h.shown;
              failed = failures ∙ h.failed;
              few = before;
              starts = subst (ArePassed site) (sym starts) h.starts;
            }

        -- the tick that was made is the one that the block tells
        tick_is : (failed : Bool) → own_tick site failed block_told.events ≡ tick_told site failed block
        tick_is failed =
            ap (λ order. record { events = block_told.events; order = order; failed = failed }) (sym lines.order)
            ∙ ap (λ xs. ticked failed (block_of site (lines_behind site xs))) is

        ordered : IsOrder site.panels block_told.order
        ordered = subst (IsOrder site.panels) (sym lines.order) (IsPermutation-refl (canonical_seats site.panels))

        -- at most one event for each byte befell, and the turns
        few_moments : (failed : Bool) → length (moments (ticked failed block_told ∷ ticks)) ≤ length (moments ticks) + 65602
        few_moments failed =
            let told_so = events_length block_told.events (Began ∷ moments ticks) in
            let events = events_few site (lines_behind site rest) in
            let few = lines.few in
            let short = may.short in
            let behind = behind_short block in
            let same = ap (λ (xs : List ℕ). length xs) is in
            let panels = may.runs.node.valid.forms.panels.1 in
            let turns = closed_moments site.panels failed (Some block_told) ticks panels (may.runs.ordered, ordered) in
            omega (arith, told_so, events, few, short, behind, same, turns)

        pub ran_block : (disks : Disks) (begun_run run : NodeRun) → begun_run.shown ≡ old.shown → begun_run.journal ≡ old.journal
            → MadeTick site panel kept history ticks block_told.events disks begun_run run
            → RanBlock site panel kept history ticks block disks old run
        ran_block disks begun_run run shown journal made =
            let failed = made.failed in
            let same = tick_is failed in
            let few = few_moments failed in
            record {
              failed = failed;
              runs = subst (λ t. RunsFor site panel kept (and_befell (moments (t ∷ [])) history) (t ∷ ticks) run) same made.runs;
              before = made.before ∙ shown;
              stores =
                  subst (λ j. Stores site kept {kind = disks.kind} (record { disk = disks.old; journal = j }) (node_stored_new disks run) ticks (tick_told site failed block ∷ ticks))
                  journal
                  (subst (λ t. Stores site kept {kind = disks.kind} (node_stored_old disks begun_run) (node_stored_new disks run) ticks (t ∷ ticks)) same made.stores);
              few =
                  subst (λ xs. length (moments (ticked failed (block_of site (lines_behind site xs)) ∷ ticks)) ≤ length (moments ticks) + 2 ^ 17) is
                  (omega (arith, few));
            }
