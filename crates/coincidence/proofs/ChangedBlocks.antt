-- The answers of a whole block are taken one after the other: those that change nothing are passed, and each is found
-- plainly.
use Rattle.std.proofs.Common.{◌≡◌, ◌≢◌, ℕ, zero, suc, ◌+◌, ◌-◌, ◌/◌, ◌%◌, ◌<◌, ◌≤◌, List, [], ◌∷◌, ◌++◌}
use Rattle.std.proofs.Common.{length, map, slice_index, refl, sym, ◌∙◌, ap, subst, arith}
use Rattle.std.proofs.lemmas.List.{map-append}
use Rattle.std.proofs.lemmas.List.FromFn.{map-range_with_len_more}
use Rattle.std.specs.List.{range_with_len}
use Rattle.tick_units.specs.Lane.{LaneState, with_put}
use Rattle.site_types.specs.declared.site.Site.{Site}
use Rattle.site_types.specs.Bits.{has_bit}
use Rattle.answer_lanes.specs.declared.answer_block.AnswerBlock.{AnswerBlock}
use Rattle.answer_lanes.specs.declared.finding_block.FindingBlock.{FindingBlock}
use Rattle.answer_lanes.specs.declared.run.Run.{Run}
use Rattle.answer_lanes.specs.Blocks.{block_answer_at, block_finding_at, eight_of}
use Rattle.answer_lanes.specs.Runs.{items_of}
use Rattle.answer_lanes.proofs.Moving.{length_run, range_parts}
use Rattle.coincidence_rules.specs.declared.finding.Finding.{Finding}
use Rattle.coincidence_rules.specs.Findings.{findings_after}
use Rattle.coincidence.specs.declared.block_findings.BlockFindings.{BlockFindings}
use Rattle.coincidence.specs.declared.block_zones.BlockZones.{BlockZones}
use Rattle.coincidence.specs.declared.decide.Decide.{Decide}
use Rattle.coincidence.specs.declared.plain_finding.PlainFinding.{PlainFinding}
use Rattle.coincidence.specs.ChangedBlocks.{AreHeardFrom, PassesPlainly, PassesTo, TakesFirst, TakesPlainly, TellPlainly}
use Rattle.coincidence.specs.ChangedBlocks.{first_of_block, finding_by_bits, found_by_bits, found_plainly}
use Rattle.coincidence.specs.Changes.{CanTakeRunOf, PutsFindings, TakesAnswers, TakesRunOf}
use Rattle.coincidence.specs.Premises.{MayTake}
use Rattle.coincidence.specs.Stands.{CanTake}
use Rattle.coincidence.specs.Steady.{HasNumberedPoints, all_of_block}
use Rattle.coincidence.specs.ZoneMasks.{HasBlock, IsMaskAt, TellsBlockZones, mask_in}
use Rattle.coincidence.proofs.Resting.{point_is}
use Rattle.coincidence.proofs.Turned.{can_behind, can_front, can_next, findings_both, may_behind, may_front, puts_both, room_behind, takes_both, takes_none}
use Rattle.coincidence.proofs.PlainlyFound.{eight_less, same_found, within_eight}

same_maps : (f g : ℕ → Finding) (from count : ℕ) → ((k : ℕ) → from ≤ k → k < from + count → f k ≡ g k)
    → map f (range_with_len from count) ≡ map g (range_with_len from count)
same_maps f g from zero same = refl
same_maps f g from (suc count) same =
    ap (λ x. x ∷ map f (range_with_len (from + 1) count)) (same from (omega arith) (omega arith))
    ∙ ap (λ xs. g from ∷ xs) (same_maps f g (from + 1) count (λ k le less. same k (omega (arith, le)) (omega (arith, less))))

-- ---- the first answers of a block

module _ (old : Decide) (block : AnswerBlock) where
  pub none_first : (found : BlockFindings) → found.count ≡ 0 → TakesFirst old block found old
  none_first found none = subst (λ n. TakesFirst old block (record found { count = n }) old) (sym none) (record {
    few = omega arith;
    taken = takes_none old;
    each = λ site kept panel done taken stands may zones tells of. refl;
  })

  one_more : (count : ℕ) → first_of_block block (count + 1) ≡ first_of_block block count ++ block_answer_at block count ∷ []
  one_more count = map-range_with_len_more (block_answer_at block) 0 count count (omega arith)

  -- the answers of a block are its first ones and those behind them
  parts_at : (count : ℕ) → count ≤ 32
      → first_of_block block 32 ≡ first_of_block block count ++ items_of block_answer_at (record { first = block; taken = count; count = 32 - count })
  parts_at count few =
      let item = block_answer_at block in
      let sum : 32 ≡ count + (32 - count) = omega (arith, few) in
      let at : 0 + count ≡ count = omega arith in
      ap (λ n. map item (range_with_len 0 n)) sum ∙ ap (map item) (range_parts 0 count (32 - count))
      ∙ ap (λ n. map item (range_with_len 0 count ++ range_with_len n (32 - count))) at
      ∙ map-append item (range_with_len 0 count) (range_with_len count (32 - count))

  length_first : (count : ℕ) → length (first_of_block block count) ≡ count
  length_first count = length_run block_answer_at (record { first = block; taken = 0; count = count })

  mask_at : HasNumberedPoints block → (site : Site) (zones : BlockZones) → TellsBlockZones site.points site.zones zones → zones.firsts ≡ block.firsts
      → (place : ℕ) → place < 32
      → IsMaskAt site.points site.zones (block_answer_at block place).point (mask_in zones (place / 8) (place % 8))
  mask_at numbers site zones tells of place small =
      let number = place / 8 in
      let k = place % 8 in
      let less = eight_less place small in
      let within = within_eight place in
      subst (λ n. IsMaskAt site.points site.zones n (mask_in zones number k)) (sym (point_is old (eight_of block number) (numbers number less) k within))
      (subst (λ (firsts : List ℕ). IsMaskAt site.points site.zones (slice_index firsts number + k) (mask_in zones number k)) of
      (tells.masks number k less within))

  -- the next answer may be taken
  pub can_item : (now : Decide) (found : BlockFindings) → TakesFirst old block found now → found.count < 32 → CanTake old (first_of_block block 32)
      → CanTake now (block_answer_at block found.count ∷ [])
  can_item now found h small can =
      let count = found.count in
      can_next old now (first_of_block block 32) (first_of_block block count) (block_answer_at block count ∷ []) (first_of_block block (count + 1))
      (items_of block_answer_at (record { first = block; taken = count + 1; count = 32 - (count + 1) })) (one_more count)
      (parts_at (count + 1) (omega (arith, small))) can h.taken

  -- one answer more is among the first, where what is found of those before it stays so
  first_more : HasNumberedPoints block → (now next : Decide) (found more : BlockFindings) → TakesFirst old block found now → found.count < 32
      → more.count ≡ found.count + 1 → ((k : ℕ) → k < found.count → found_by_bits more k ≡ found_by_bits found k)
      → TakesPlainly now (block_answer_at block found.count) (found_by_bits more found.count) next → TakesFirst old block more next
  first_more numbers now next found more h small at same one =
      let count = found.count in
      let item = block_answer_at block count in
      let first = first_of_block block count in
      let more_is : first_of_block block more.count ≡ first ++ item ∷ [] = ap (first_of_block block) at ∙ one_more count in
      record {
        few = omega (arith, at, small);
        taken = subst (λ xs. TakesAnswers old xs next) (sym more_is) (takes_both old now next first (item ∷ []) h.taken one.taken);
        each = λ site kept panel done taken stands may zones tells of.
            let both = subst (MayTake site panel done taken) more_is may in
            let front = may_front first (item ∷ []) both in
            let before = h.taken site kept panel done taken stands front in
            let mask = mask_at numbers site zones tells of count small in
            ap (findings_after site kept panel done taken) more_is
            ∙ findings_both site kept panel done taken first (item ∷ [])
            ∙ ap (λ fs. fs ++ findings_after site kept panel done (taken ++ first) (item ∷ [])) (h.each site kept panel done taken stands front zones tells of)
            ∙ ap (λ f. map (finding_by_bits block zones found) (range_with_len 0 count) ++ f ∷ [])
            (sym (one.found site kept panel done (taken ++ first) before (may_behind first (item ∷ []) both) (mask_in zones (count / 8) (count % 8)) mask))
            ∙ ap (λ fs. fs ++ finding_by_bits block zones more count ∷ [])
            (same_maps (finding_by_bits block zones found) (finding_by_bits block zones more) 0 count
            (λ k from less.
            ap (found_plainly (block_answer_at block k) (mask_in zones (k / 8) (k % 8))) (sym (same k (omega (arith, less))))))
            ∙ sym (map-range_with_len_more (finding_by_bits block zones more) 0 count count (omega arith))
            ∙ ap (λ n. map (finding_by_bits block zones more) (range_with_len 0 n)) (sym at);
      }

  pass_some : HasNumberedPoints block → (now : Decide) (steps : ℕ) (found : BlockFindings) (next : ℕ) → next ≡ found.count + steps → next ≤ 32
      → ((k : ℕ) → found.count ≤ k → k < next → PassesPlainly now (block_answer_at block k)) → AreHeardFrom block found.count found
      → TakesFirst old block found now → TakesFirst old block (record found { count = next }) now
  pass_some numbers now zero found next is most passed heard h =
      let same : found.count ≡ next = omega (arith, is) in
      subst (λ n. TakesFirst old block (record found { count = n }) now) same h
  pass_some numbers now (suc steps) found next is most passed heard h =
      let count = found.count in
      let item = block_answer_at block count in
      let more : BlockFindings = record found { count = count + 1 } in
      pass_some numbers now steps more next (omega (arith, is)) most (λ k from less. passed k (omega (arith, from)) less)
      (λ k from small. heard k (omega (arith, from)) small)
      (first_more numbers now now found more h (omega (arith, is, most)) refl (λ k less. refl)
      (subst (λ f. TakesPlainly now item f now) (sym (heard count (omega arith) (omega (arith, is, most)))) (passed count (omega arith) (omega (arith, is)))))

  -- answers that change nothing are passed
  pub passed_to : HasNumberedPoints block → (now : Decide) (found : BlockFindings) (next : ℕ) → TakesFirst old block found now
      → AreHeardFrom block found.count found → PassesTo now block found.count next → TakesFirst old block (record found { count = next }) now
  passed_to numbers now found next h heard pass =
      let least = pass.least in
      pass_some numbers now (next - found.count) found next (omega (arith, least)) pass.most pass.passed heard h

  -- an answer that may change something is taken, and behind it no more is found than what is heard
  pub taken_on : HasNumberedPoints block → (now next : Decide) (found : BlockFindings) (one : PlainFinding) (telling missing : ℕ)
      → TakesFirst old block found now → AreHeardFrom block found.count found → found.count < 32
      → TakesPlainly now (block_answer_at block found.count) one next
      → has_bit telling found.count ≡ one.telling → ((k : ℕ) → k < 32 → k ≢ found.count → has_bit telling k ≡ has_bit found.telling k)
      → has_bit missing found.count ≡ one.missing → ((k : ℕ) → k < 32 → k ≢ found.count → has_bit missing k ≡ has_bit found.missing k)
      → TakesFirst old block (record { count = found.count + 1; telling = telling; missing = missing }) next
      × AreHeardFrom block (found.count + 1) (record { count = found.count + 1; telling = telling; missing = missing })
  taken_on numbers now next found one telling missing h heard small takes tells other_tells misses other_misses = (
    first_more numbers now next found more h small refl (λ k less. same k (omega (arith, less, small)) (λ e. omega (arith, e, less))) this,
    λ k from within. same k within (λ e. omega (arith, e, from)) ∙ heard k (omega (arith, from)) within,
  )
    where
      more : BlockFindings
      more = record { count = found.count + 1; telling = telling; missing = missing }

      same : (k : ℕ) → k < 32 → k ≢ found.count → found_by_bits more k ≡ found_by_bits found k
      same k within apart = same_found _ _ _ _ (other_tells k within apart) (other_misses k within apart)

      this : TakesPlainly now (block_answer_at block found.count) (found_by_bits more found.count) next
      this = subst (λ f. TakesPlainly now (block_answer_at block found.count) f next)
          (sym (same_found (has_bit telling found.count) (has_bit missing found.count) one.telling one.missing tells misses)) takes

  -- ---- the findings of the first answers are put as one run, and then those behind them are taken

  module _ (now : Decide) (found : BlockFindings) (h : TakesFirst old block found now) where
    pub put_first : (zones : BlockZones) (told : FindingBlock) → HasBlock old.told.blocks.items block.firsts zones → TellPlainly block zones found told
        → (lane after : LaneState Finding) → after ≡ with_put lane (items_of block_finding_at (record { first = told; taken = 0; count = found.count }))
        → PutsFindings old (first_of_block block found.count) lane after
    put_first zones told known tells lane after put site kept panel done taken stands may =
        let few = h.few in
        put
        ∙ ap (with_put lane)
        (same_maps (block_finding_at told) (finding_by_bits block zones found) 0 found.count (λ k from less. tells k (omega (arith, less, few)))
        ∙ sym (h.each site kept panel done taken stands may zones (stands.told known.number zones known.is) known.of))

    -- where the first answers are all of the block no other is left
    pub all_first : (lane put : LaneState Finding) → PutsFindings old (first_of_block block found.count) lane put → found.count ≡ 32
        → TakesRunOf block_answer_at old (all_of_block block) lane now put
    all_first lane put puts all = record {
      taken = subst (λ n. TakesAnswers old (first_of_block block n) now) all h.taken;
      put = subst (λ n. PutsFindings old (first_of_block block n) lane put) all puts;
    }

    abbrev rest : Run AnswerBlock
    rest = record { first = block; taken = found.count; count = 32 - found.count }

    pub can_rest : (lane put : LaneState Finding) → CanTakeRunOf block_answer_at old (all_of_block block) lane
        → PutsFindings old (first_of_block block found.count) lane put → CanTakeRunOf block_answer_at now rest put
    can_rest lane put can puts =
        let few = h.few in
        let first = first_of_block block found.count in
        let may : CanTake old (first ++ items_of block_answer_at rest) = subst (CanTake old) (parts_at found.count h.few) can.may in
        let size = length_first found.count in
        record {
          short = omega (arith, few);
          room = room_behind old first lane put 32 (32 - found.count) (can_front old first (items_of block_answer_at rest) may) puts can.room (omega (arith, size, few));
          may = can_behind old now first (items_of block_answer_at rest) h.taken may;
        }

    pub all_taken : (next : Decide) (lane put after : LaneState Finding) → PutsFindings old (first_of_block block found.count) lane put
        → TakesRunOf block_answer_at now rest put next after → TakesRunOf block_answer_at old (all_of_block block) lane next after
    all_taken next lane put after puts behind =
        let first = first_of_block block found.count in
        let parts = sym (parts_at found.count h.few) in
        record {
          taken = subst (λ xs. TakesAnswers old xs next) parts (takes_both old now next first (items_of block_answer_at rest) h.taken behind.taken);
          put = subst (λ xs. PutsFindings old xs lane after) parts
              (puts_both old now first (items_of block_answer_at rest) lane put after h.taken puts behind.put);
        }
