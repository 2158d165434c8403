-- A block whose eights tell of zones plainly tells what one finding does.
use Rattle.std.proofs.Common.{◌≡◌, ◌∙◌, ◌+◌, ◌++◌, ◌∷◌, ◌<◌, ◌^◌, ◌==◌, ◌&&◌, ◌||◌, inl, inr, [], Bool, List, false, not, true}
use Rattle.std.proofs.Common.{max, ℕ, bit_or, if◌then◌else◌, refl, sym, ap, arith, slice_index, slice_index_or, subst}
use Rattle.std.specs.Int.Bits.{bit_xor}
use Rattle.std.proofs.lemmas.Nat.{and_le_l, le_or_l, le_or_r}
use Rattle.std.proofs.lemmas.Bool.Decides.{eqb_tells}
use Rattle.tick_units.specs.declared.tick.Tick.{Tick}
use Rattle.site_types.specs.Bits.{has_bit}
use Rattle.site_types.proofs.Masks.{has_bit-or, has_bit-zero}
use Rattle.coincidence_rules.specs.declared.finding.Finding.{Finding}
use Rattle.answer_lanes.specs.declared.finding_block.FindingBlock.{FindingBlock}
use Rattle.answer_lanes.specs.declared.finding_eight.FindingEight.{FindingEight}
use Rattle.answer_lanes.specs.declared.finding_group.FindingGroup.{FindingGroup}
use Rattle.answer_lanes.specs.declared.told.Told.{Told}
use Rattle.answer_lanes.specs.Blocks.{block_finding_at, eight_finding_at, eight_found, group_tells, none_told}
use Rattle.answer_lanes.specs.Points.{finding_at}
use Rattle.answer_lanes.specs.Runs.{items_of}
use Rattle.panel_conditions.specs.declared.zones.Zones.{Zones}
use Rattle.panel_conditions.specs.Changes.{ZonesTakeAll, TellSame}
use Rattle.panel_conditions.specs.Parts.{ArePlain, TellsEightPlainly, block_confirms, eight_confirms, told_finding, plain_told}
use Rattle.panel_conditions.specs.Stands.{latest_stamp}
use Rattle.panel_conditions.specs.Told.{block_run, eight_run, group_run, others_of, others_telling, own_of, own_telling}
use Rattle.panel_conditions.proofs.BlockRuns.{block_items, zones_by_eights, zones_then}
use Rattle.panel_conditions.proofs.EightParts.{eight_parts, others_short, own_short}
use Rattle.panel_conditions.proofs.Latest.{latest-append}
use Rattle.panel_conditions.proofs.Plain.{told_plainly}
use Rattle.panel_conditions.proofs.Runs.{run_tells, same_as_none, same_then}
use Rattle.panel_conditions.proofs.ZoneRuns.{group_tells_some, run_of_nothing, zones_same}

-- of no zone is the same told as by no finding
none_same : (stamp : Tick) → TellSame (told_finding stamp (plain_told 0) ∷ []) []
none_same stamp = record {
  confirmed = λ k. off (has_bit 0 k) (has_bit-zero k);
  called = λ k. off (has_bit 0 k) (has_bit-zero k);
  released = λ k. off (has_bit 0 k) (has_bit-zero k);
  told = λ k. off (has_bit 0 k && not (has_bit 0 k)) (ap (λ b. b && not (has_bit 0 k)) (has_bit-zero k));
}
  where
    off : (b : Bool) → b ≡ false → max (if b then stamp.0 else 0) 0 ≡ 0
    off b e = ap (λ c. max (if c then stamp.0 else 0) 0) e

-- of a group that tells plainly of zones these are told, where any of its findings tells of them
group_same : (group : FindingGroup) (zones : ℕ) → (0 < group.telling → group_tells group ≡ plain_told zones) → group.telling < 2 ^ 8
    → TellSame (told_finding group.stamp (plain_told (if group.telling == 0 then 0 else zones)) ∷ []) (items_of finding_at (group_run group))
group_same group zones plain small = elim (eqb_tells group.telling 0) [
  | inl none ↦
      subst (λ z. TellSame (by z) items) (sym (confirms none.0))
      (same_then (by 0) [] items (none_same group.stamp)
      (same_as_none group 0 8 (λ k less. ap (λ m. has_bit m (0 + k)) none.1 ∙ has_bit-zero (0 + k))))
  | inr some ↦
      (let apart = some.1 in
      let positive : 0 < group.telling = omega (arith, apart) in
      subst (λ z. TellSame (by z) items) (sym (confirms some.0))
      (subst (λ t. TellSame (told_finding group.stamp t ∷ []) items) (plain positive)
      (run_tells (group_run group) (group_tells_some group positive small))))
]
  where
    items : List Finding
    items = items_of finding_at (group_run group)

    by : ℕ → List Finding
    by zones = told_finding group.stamp (plain_told zones) ∷ []

    confirms : {b : Bool} → (group.telling == 0) ≡ b → (if group.telling == 0 then 0 else zones) ≡ (if b then 0 else zones)
    confirms e = ap (λ b. if b then 0 else zones) e

-- where findings tell plainly of some zones, and others at the same stamp of others, both tell of both
both_same : (stamp : Tick) (a b : ℕ) (one other : List Finding) → TellSame (told_finding stamp (plain_told a) ∷ []) one
    → TellSame (told_finding stamp (plain_told b) ∷ []) other → TellSame (told_finding stamp (plain_told (bit_or a b)) ∷ []) (one ++ other)
both_same stamp a b one other x y = record {
  confirmed = λ k. joined (λ f. has_bit f.confirmed k) (has_bit-or a b k) (x.confirmed k) (y.confirmed k);
  called = λ k. joined (λ f. has_bit f.manual k) (twice (has_bit 0 k)) (x.called k) (y.called k);
  released = λ k. joined (λ f. has_bit f.released k) (has_bit-or a b k) (x.released k) (y.released k);
  told = λ k. joined (λ f. has_bit f.counted k && not (has_bit f.manual k))
      (ap (λ c. c && not (has_bit 0 k)) (has_bit-or a b k) ∙ spread (has_bit a k) (has_bit b k) (not (has_bit 0 k))) (x.told k) (y.told k);
}
  where
    of : ℕ → Finding
    of zones = told_finding stamp (plain_told zones)

    twice : (c : Bool) → c ≡ (c || c)
    twice true = refl
    twice false = refl

    spread : (c d e : Bool) → ((c || d) && e) ≡ ((c && e) || (d && e))
    spread true true true = refl
    spread true true false = refl
    spread true false true = refl
    spread true false false = refl
    spread false true true = refl
    spread false true false = refl
    spread false false true = refl
    spread false false false = refl

    either : (c d : Bool) → max (if c || d then stamp.0 else 0) 0 ≡ max (max (if c then stamp.0 else 0) 0) (max (if d then stamp.0 else 0) 0)
    either true true = omega arith
    either true false = omega arith
    either false true = omega arith
    either false false = omega arith

    joined : (test : Finding → Bool) → test (of (bit_or a b)) ≡ (test (of a) || test (of b))
        → latest_stamp test (of a ∷ []) ≡ latest_stamp test one → latest_stamp test (of b ∷ []) ≡ latest_stamp test other
        → latest_stamp test (of (bit_or a b) ∷ []) ≡ latest_stamp test (one ++ other)
    joined test is e g =
        ap (λ c. max (if c then stamp.0 else 0) 0) is ∙ either (test (of a)) (test (of b))
        ∙ ap (λ n. max n (latest_stamp test (of b ∷ []))) e ∙ ap (max (latest_stamp test one)) g ∙ sym (latest-append test one other)

-- of an eight the zones that it confirms are told, and plainly
eight_same : (block : FindingBlock) (number : ℕ) → TellsEightPlainly block number → slice_index block.telling number < 2 ^ 8
    → TellSame (told_finding block.stamp (plain_told (eight_confirms block number)) ∷ []) (items_of eight_finding_at (eight_run block number))
eight_same block number plain small =
    same_then _ _ _
    (both_same block.stamp _ _ _ _
    (group_same (own_of eight) told.confirmed (λ some. told_plainly told (plain some)) (own_short eight small))
    (group_same (others_of eight) eight.other_zones (λ some. refl) (others_short eight small)))
    (eight_parts eight)
  where
    eight : FindingEight
    eight = eight_found block number

    told : Told
    told = slice_index_or block.told number none_told

-- a block tells of the zones that it confirms, and plainly
pub block_same : (block : FindingBlock) → ArePlain block → slice_index block.telling 0 < 2 ^ 8 → slice_index block.telling 1 < 2 ^ 8
    → slice_index block.telling 2 < 2 ^ 8 → slice_index block.telling 3 < 2 ^ 8
    → TellSame (told_finding block.stamp (plain_told (block_confirms block)) ∷ []) (items_of block_finding_at (block_run block))
block_same block plain a b c d =
    subst (λ l. TellSame (told_finding block.stamp (plain_told (block_confirms block)) ∷ []) l) (block_items block)
    (both_same block.stamp _ _ _ _ (both_same block.stamp _ _ _ _
    (both_same block.stamp _ _ _ _ (eight_same block 0 plain.0 a) (eight_same block 1 plain.1 b)) (eight_same block 2 plain.2 c))
    (eight_same block 3 plain.3 d))

-- a block of which none tells of a zone
pub block_of_none : (block : FindingBlock) (zones : Zones) →
    let tells = slice_index block.telling in
    bit_or (bit_or (bit_or (tells 0) (tells 1)) (tells 2)) (tells 3) ≡ 0 → ZonesTakeAll (items_of block_finding_at (block_run block)) zones zones
block_of_none block zones none =
    let tells = slice_index block.telling in
    let two = bit_or (tells 0) (tells 1) in
    let three = bit_or two (tells 2) in
    let among_three = le_or_l three (tells 3) in
    let among_two = le_or_l two (tells 2) in
    let first = le_or_l (tells 0) (tells 1) in
    let second = le_or_r (tells 0) (tells 1) in
    let third = le_or_r two (tells 2) in
    let fourth = le_or_r three (tells 3) in
    zones_by_eights block zones zones zones zones zones
    (of_none 0 (omega (arith, none, among_three, among_two, first)))
    (of_none 1 (omega (arith, none, among_three, among_two, second)))
    (of_none 2 (omega (arith, none, among_three, third)))
    (of_none 3 (omega (arith, none, fourth)))
  where
    of_none : (number : ℕ) → slice_index block.telling number ≡ 0
        → ZonesTakeAll (items_of eight_finding_at (eight_run block number)) zones zones
    of_none number none =
        let eight = eight_found block number in
        let among = and_le_l eight.group.telling eight.others in
        let others : others_telling eight ≡ 0 = omega (arith, among, none) in
        let own : own_telling eight ≡ 0 = ap (λ m. bit_xor m (others_telling eight)) none ∙ ap (bit_xor 0) others in
        zones_same _ _ zones zones (eight_parts eight)
        (zones_then _ _ zones zones zones (run_of_nothing (group_run (own_of eight)) zones own)
        (run_of_nothing (group_run (others_of eight)) zones others))
