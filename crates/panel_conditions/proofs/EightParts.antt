-- An eight of findings tells of zones what two groups do: one of its own zones, the other of the other ones.
use Rattle.std.proofs.Common.{◌≡◌, ◌∙◌, ◌+◌, ◌%◌, ◌++◌, ◌<◌, ◌^◌, ◌==◌, ◌&&◌, ◌||◌, Bool, false, not, true, map, max, min, ℕ, zero, suc}
use Rattle.std.proofs.Common.{if◌then◌else◌, refl, sym, ap, arith, bit_and}
use Rattle.std.specs.Int.{bit_at}
use Rattle.std.specs.Int.Bits.{bit_xor}
use Rattle.std.specs.List.{range_with_len}
use Rattle.std.proofs.lemmas.Nat.{and_le_l, xor_lt}
use Rattle.std.proofs.lemmas.Nat.Bits.{bit_at_xor, bit_at_and, bit_at-lt}
use Rattle.site_types.specs.Bits.{has_bit}
use Rattle.site_types.proofs.Masks.{has_bit-and}
use Rattle.coincidence_rules.specs.declared.finding.Finding.{Finding}
use Rattle.answer_lanes.specs.declared.finding_eight.FindingEight.{FindingEight}
use Rattle.answer_lanes.specs.declared.finding_group.FindingGroup.{FindingGroup}
use Rattle.answer_lanes.specs.Blocks.{eight_finding_at, plainly}
use Rattle.answer_lanes.specs.Points.{finding_at}
use Rattle.answer_lanes.specs.Runs.{items_of}
use Rattle.answer_lanes.proofs.Blocks.{eight_run}
use Rattle.panel_conditions.specs.Changes.{TellSame}
use Rattle.panel_conditions.specs.Stands.{latest_stamp}
use Rattle.panel_conditions.specs.Told.{group_run, others_of, others_telling, own_of, own_telling, with_telling}
use Rattle.panel_conditions.proofs.Latest.{latest-append}
use Rattle.panel_conditions.proofs.Runs.{bit_if, bits_if}

own_bit_of : (a b : ℕ) → a < 2 → b < 2 → ((a + min a b) % 2 == 1) ≡ ((a == 1) && not (b == 1))
own_bit_of zero zero la lb = refl
own_bit_of zero (suc zero) la lb = refl
own_bit_of zero (suc (suc n)) la lb = absurd (omega (arith, lb))
own_bit_of (suc zero) zero la lb = refl
own_bit_of (suc zero) (suc zero) la lb = refl
own_bit_of (suc zero) (suc (suc n)) la lb = absurd (omega (arith, lb))
own_bit_of (suc (suc n)) b la lb = absurd (omega (arith, la))

own_bit : (a b k : ℕ) → has_bit (bit_xor a (bit_and a b)) k ≡ (has_bit a k && not (has_bit b k))
own_bit a b k =
    ap (λ n. n == 1) (bit_at_xor a (bit_and a b) k ∙ ap (λ n. (bit_at a k + n) % 2) (bit_at_and a b k))
    ∙ own_bit_of (bit_at a k) (bit_at b k) (bit_at-lt a k) (bit_at-lt b k)

-- where each finding of a group passes a test exactly if it tells of zones and something holds of what all tell
module _ (test : Finding → Bool) (base : FindingGroup → Bool) (is : (group : FindingGroup) (place : ℕ)
    → test (finding_at group place) ≡ (has_bit group.telling place && base group))
    (stays : (telling : ℕ) (group : FindingGroup) → base (with_telling telling group) ≡ base group) (eight : FindingEight) where
  abbrev other : FindingGroup
  other = plainly eight.other_zones eight.group

  abbrev both : Bool → Bool → Bool
  both tells others = ((tells && not others) && base eight.group) || ((tells && others) && base other)

  own_at : (place : ℕ) → test (finding_at (own_of eight) place)
      ≡ ((has_bit eight.group.telling place && not (has_bit eight.others place)) && base eight.group)
  own_at place =
      is (own_of eight) place
      ∙ ap (λ b. b && base (own_of eight)) (own_bit eight.group.telling eight.others place)
      ∙ ap (λ b. (has_bit eight.group.telling place && not (has_bit eight.others place)) && b) (stays (own_telling eight) eight.group)

  others_at : (place : ℕ) → test (finding_at (others_of eight) place)
      ≡ ((has_bit eight.group.telling place && has_bit eight.others place) && base other)
  others_at place =
      is (others_of eight) place
      ∙ ap (λ b. b && base (others_of eight)) (has_bit-and eight.group.telling eight.others place)
      ∙ ap (λ b. (has_bit eight.group.telling place && has_bit eight.others place) && b) (stays (others_telling eight) other)

  parts_at : (place : ℕ) → (test (finding_at (own_of eight) place) || test (finding_at (others_of eight) place))
      ≡ both (has_bit eight.group.telling place) (has_bit eight.others place)
  parts_at place =
      ap (λ b. b || test (finding_at (others_of eight) place)) (own_at place)
      ∙ ap (λ b. ((has_bit eight.group.telling place && not (has_bit eight.others place)) && base eight.group) || b) (others_at place)

  one_at : (place : ℕ) (others : Bool) → test (finding_at (if others then other else eight.group) place)
      ≡ both (has_bit eight.group.telling place) others
  one_at place true = is other place ∙ elsewhere (has_bit eight.group.telling place) (base eight.group) (base other)
    where
      elsewhere : (t b c : Bool) → (t && c) ≡ (((t && not true) && b) || ((t && true) && c))
      elsewhere true b c = refl
      elsewhere false b c = refl
  one_at place false = is eight.group place ∙ here (has_bit eight.group.telling place) (base eight.group) (base other)
    where
      here : (t b c : Bool) → (t && b) ≡ (((t && not false) && b) || ((t && false) && c))
      here true true c = refl
      here true false c = refl
      here false b c = refl

  -- a finding passes the test where that of one of the parts does
  parted : (place : ℕ) → test (eight_finding_at eight place)
      ≡ (test (finding_at (own_of eight) place) || test (finding_at (others_of eight) place))
  parted place = one_at place (has_bit eight.others place) ∙ sym (parts_at place)

  stamp_at : (place : ℕ) → (eight_finding_at eight place).stamp.0 ≡ eight.group.stamp.0
  stamp_at place = by (has_bit eight.others place)
    where
      by : (b : Bool) → (finding_at (if b then other else eight.group) place).stamp.0 ≡ eight.group.stamp.0
      by true = refl
      by false = refl

  either : (c d : Bool) (n : ℕ) → (if c || d then n else 0) ≡ max (if c then n else 0) (if d then n else 0)
  either true true n = omega arith
  either true false n = omega arith
  either false true n = omega arith
  either false false n = omega arith

  latest_parts : (from count : ℕ) → latest_stamp test (map (eight_finding_at eight) (range_with_len from count))
      ≡ max (latest_stamp test (map (finding_at (own_of eight)) (range_with_len from count)))
      (latest_stamp test (map (finding_at (others_of eight)) (range_with_len from count)))
  latest_parts from zero = refl
  latest_parts from (suc count) =
      let stamp = eight.group.stamp.0 in
      let own = latest_stamp test (map (finding_at (own_of eight)) (range_with_len (from + 1) count)) in
      let others = latest_stamp test (map (finding_at (others_of eight)) (range_with_len (from + 1) count)) in
      let first = test (finding_at (own_of eight) from) in
      let second = test (finding_at (others_of eight) from) in
      let most = latest_stamp test (map (eight_finding_at eight) (range_with_len (from + 1) count)) in
      ap (λ n. max (if test (eight_finding_at eight from) then n else 0) most) (stamp_at from)
      ∙ ap (λ b. max (if b then stamp else 0) most) (parted from)
      ∙ ap (λ n. max n most) (either first second stamp)
      ∙ ap (λ n. max (max (if first then stamp else 0) (if second then stamp else 0)) n) (latest_parts (from + 1) count)
      ∙ crossed (if first then stamp else 0) (if second then stamp else 0) own others
    where
      crossed : (a b c d : ℕ) → max (max a b) (max c d) ≡ max (max a c) (max b d)
      crossed a b c d = omega arith

  same_stamps : latest_stamp test (items_of finding_at (group_run (own_of eight)) ++ items_of finding_at (group_run (others_of eight)))
      ≡ latest_stamp test (items_of eight_finding_at (eight_run eight))
  same_stamps =
      latest-append test (items_of finding_at (group_run (own_of eight))) (items_of finding_at (group_run (others_of eight)))
      ∙ sym (latest_parts 0 8)

pub eight_parts : (eight : FindingEight)
    → TellSame (items_of finding_at (group_run (own_of eight)) ++ items_of finding_at (group_run (others_of eight)))
    (items_of eight_finding_at (eight_run eight))
eight_parts eight = record {
  confirmed = λ k. same_stamps (λ f. has_bit f.confirmed k) (λ g. has_bit g.confirmed k)
      (λ g p. bit_if (has_bit g.telling p) g.confirmed k) (λ m g. refl) eight;
  called = λ k. same_stamps (λ f. has_bit f.manual k) (λ g. has_bit g.manual k)
      (λ g p. bit_if (has_bit g.telling p) g.manual k) (λ m g. refl) eight;
  released = λ k. same_stamps (λ f. has_bit f.released k) (λ g. has_bit g.released k)
      (λ g p. bit_if (has_bit g.telling p) g.released k) (λ m g. refl) eight;
  told = λ k. same_stamps (λ f. has_bit f.counted k && not (has_bit f.manual k)) (λ g. has_bit g.counted k && not (has_bit g.manual k))
      (λ g p. bits_if (has_bit g.telling p) g.counted g.manual k) (λ m g. refl) eight;
}

-- the masks of both parts are as short as that of the eight
pub others_short : (eight : FindingEight) → eight.group.telling < 2 ^ 8 → others_telling eight < 2 ^ 8
others_short eight small =
    let among = and_le_l eight.group.telling eight.others in
    omega (arith, among, small)

pub own_short : (eight : FindingEight) → eight.group.telling < 2 ^ 8 → own_telling eight < 2 ^ 8
own_short eight small = xor_lt 8 eight.group.telling (others_telling eight) small (others_short eight small)
