-- The tick of a block, from its beginning to its turns.
use Rattle.std.proofs.Common.{◌≡◌, ◌∙◌, ◌+◌, ◌-◌, ◌^◌, ◌<◌, ◌≤◌, ◌==◌, ℕ, Bool, true, false, List, ◌∷◌, length, Some}
use Rattle.std.proofs.Common.{ap, subst, arith, nat_lt}
use Rattle.std.proofs.lemmas.Bool.{and_parts, eqb-true, ltb-true}
use Rattle.desk_runs.specs.Running.{MayRunWith, MayTellLines, MayTellWith, RanBlock, ToldLines}
use Rattle.desk_runs.specs.Ticks.{at_rest, block_of, is_next, lines_behind}
use Rattle.desk_runs.proofs.Telling.{behind_short, events_few, none_refused}
use Rattle.desk_ticks.specs.Blocks.{behind_line, most_block_bytes, named_of, refusal_behind}
use Rattle.panel_rules.specs.Moments.{TickBlock, Began, moments}
use Rattle.panel_rules.specs.Records.{AreOrdered}
use Rattle.record_lines.specs.Lines.{reading_of}
use Rattle.site_run.specs.Acting.{MakesTick}
use Rattle.site_run.specs.Outside.{Disks, stored_new, stored_old}
use Rattle.site_run.specs.Records.{Block, closed, closed_by, ticked}
use Rattle.site_run.specs.Stands.{AreFew, OpensTick, Stands, Stores}
use Rattle.site_run.specs.declared.run.Run.{Run}
use Rattle.site_run.proofs.Progresses.{closed_moments, events_length}
use Rattle.site_types.specs.declared.retained.Retained.{Retained}
use Rattle.site_types.specs.declared.site.Site.{Site}
use Rattle.tick_units.specs.Ticks.{last_tick}

pub may_begin : (tick count : ℕ) → is_next tick count ≡ true → (count < last_tick) × (tick ≡ count + 1)
may_begin tick count next =
    let parts = and_parts (nat_lt count last_tick) (tick == count + 1) next in
    (ltb-true count last_tick parts.0, eqb-true tick (count + 1) parts.1)

-- at most one event for each byte of a block befell in its tick, and the turns
pub moments_few : (site : Site) (ticks : List TickBlock) (block rest : List ℕ) (failed : Bool) → rest ≡ behind_line block → length block ≤ most_block_bytes
    → length (lines_behind site rest) ≤ length rest → site.panels ≤ 8 → AreOrdered site.panels (closed_by false (Some (block_of site (lines_behind site rest))) ticks)
    → length (moments (ticked failed (block_of site (lines_behind site rest)) ∷ ticks)) ≤ length (moments ticks) + 65602
moments_few site ticks block rest failed is short few panels ordered =
    let block_told = block_of site (lines_behind site rest) in
    let told_so = events_length block_told.events (Began ∷ moments ticks) in
    let events = events_few site (lines_behind site rest) in
    let behind = behind_short block in
    let same = ap (λ (xs : List ℕ). length xs) is in
    let turns = closed_moments site.panels failed (Some block_told) ticks panels ordered in
    omega (arith, told_so, events, few, short, behind, same, turns)

module _ (site : Site) (kept : Retained) (ticks : List TickBlock) (tick : ℕ) (block : List ℕ) where
  -- the tick has begun, and its lines may be told
  pub begun_with : (old begun : Run) → MayRunWith site kept ticks tick block old → OpensTick tick old begun → (rest : List ℕ) → rest ≡ behind_line block
      → MayTellWith site kept ticks rest begun
  begun_with old begun may opens rest is =
      let next = may_begin tick (length ticks) may.next in
      let before = next.0 in
      let tick_is = next.1 in
      let room = may.room in
      let short = may.short in
      let behind = behind_short block in
      let same = ap (λ (xs : List ℕ). length xs) is in
      record {
        stands = opens site kept ticks may.stands tick_is (omega (arith, before, tick_is)) (omega (arith, room));
        accepted = ap (refusal_behind site) is ∙ none_refused (named_of (reading_of site block)) (refusal_behind site (behind_line block)) tick may.accepted;
        short = omega (arith, short, behind, same);
        room = room;
      }

  pub may_tell_begun : (old begun : Run) → MayRunWith site kept ticks tick block old → OpensTick tick old begun → (rest : List ℕ) → rest ≡ behind_line block
      → MayTellLines rest begun
  may_tell_begun old begun may opens rest is =
      record { site = site; kept = kept; ticks = ticks; with = begun_with old begun may opens rest is }

  module _ (disks : Disks) (old told run : Run) (may : MayRunWith site kept ticks tick block old) (rest : List ℕ) (is :
      rest ≡ behind_line block) (lines : ToldLines site kept ticks rest told) where
    abbrev block_told : Block
    block_told = block_of site (lines_behind site rest)

    few_moments : (failed : Bool) → length (moments (ticked failed block_told ∷ ticks)) ≤ length (moments ticks) + 65602
    few_moments failed =
        moments_few site ticks block rest failed is may.short lines.few may.stands.valid.forms.panels.1 lines.stands.ordered

    pub ran_block : told.journal ≡ old.journal
        → (Stands site kept (record { run = ticks; block = Some block_told }) told → AreFew (moments (closed false (record { run = ticks; block = Some block_told })))
        → MakesTick disks site kept (record { run = ticks; block = Some block_told }) told run)
        → RanBlock site kept ticks block disks old run
    ran_block same makes =
        let room = may.room in
        let few = few_moments false in
        let made = makes lines.stands (omega (arith, room, few)) in
        let failed = made.failed in
        let all = few_moments failed in
        record {
          failed = failed;
          stands = subst (λ xs. Stands site kept (at_rest (ticked failed (block_of site (lines_behind site xs)) ∷ ticks)) run) is made.stands;
          shown = made.before ∙ lines.stands.shown;
          stores =
              subst
              (λ xs. Stores site kept (stored_old disks old) (stored_new disks run) ticks (ticked failed (block_of site (lines_behind site xs)) ∷ ticks)) is
              (subst (λ j. Stores site kept (record { disk = disks.old; journal = j }) (stored_new disks run) ticks (ticked failed block_told ∷ ticks)) same
              made.stores);
          few =
              subst (λ xs. length (moments (ticked failed (block_of site (lines_behind site xs)) ∷ ticks)) ≤ length (moments ticks) + 2 ^ 17) is
              (omega (arith, all));
        }
