-- One more finding in a group, and behind a run.
use Rattle.std.proofs.Common.{◌≡◌, ◌⊎◌, inl, inr, ◌∙◌, ◌+◌, ◌++◌, ◌∷◌, ◌<◌, ◌≤◌, ◌==◌, [], Bool, map, min, zero, suc, ℕ, if◌then◌else◌, true, false, refl, sym, ap, arith}
use Rattle.std.specs.List.{range_with_len}
use Rattle.std.proofs.lemmas.Bool.Decides.{eqb_tells}
use Rattle.std.proofs.lemmas.List.FromFn.{map-range_with_len_more}
use Rattle.tick_units.specs.declared.tick.Tick.{Tick}
use Rattle.site_types.specs.Bits.{has_bit}
use Rattle.site_types.proofs.Masks.{has_bit-zero}
use Rattle.coincidence_rules.specs.declared.finding.Finding.{Finding}
use Rattle.answer_lanes.specs.declared.finding_group.FindingGroup.{FindingGroup}
use Rattle.answer_lanes.specs.declared.run.Run.{Run}
use Rattle.answer_lanes.specs.Groups.{CanHave, TellsNone, TellsLike}
use Rattle.answer_lanes.specs.Points.{finding_at, mask_if}
use Rattle.answer_lanes.specs.Runs.{items_of}

-- ---- a finding is set at a place

abbrev made : Tick → ℕ → ℕ → ℕ → ℕ → ℕ → Bool → Finding
made stamp point counted confirmed manual released missing =
    record {
      stamp = stamp;
      point = point;
      counted = counted;
      confirmed = confirmed;
      manual = manual;
      released = released;
      missing = missing;
    }

alike : {stamp : Tick} {point counted confirmed manual released : ℕ} {missing : Bool} (f : Finding) → stamp ≡ f.stamp → point ≡ f.point
    → counted ≡ f.counted → confirmed ≡ f.confirmed → manual ≡ f.manual → released ≡ f.released → missing ≡ f.missing
    → made stamp point counted confirmed manual released missing ≡ f
alike {stamp} {point} {counted} {confirmed} {manual} {released} {missing} f s p c o m r g =
    ap (λ x. made x point counted confirmed manual released missing) s
    ∙ ap (λ x. made f.stamp x counted confirmed manual released missing) p
    ∙ ap (λ x. made f.stamp f.point x confirmed manual released missing) c
    ∙ ap (λ x. made f.stamp f.point f.counted x manual released missing) o
    ∙ ap (λ x. made f.stamp f.point f.counted f.confirmed x released missing) m
    ∙ ap (λ x. made f.stamp f.point f.counted f.confirmed f.manual x missing) r
    ∙ ap (λ x. made f.stamp f.point f.counted f.confirmed f.manual f.released x) g

-- a mask that isn't told is empty
masked : (tells : Bool) (mask told : ℕ) → tells ≡ false → told ≡ 0 → mask_if tells mask ≡ told
masked tells mask told off none = ap (λ b. mask_if b mask) off ∙ sym none

-- where no finding tells, or the masks are the same, other masks change nothing
remasked : (tells : Bool) (mask other : ℕ) → (tells ≡ false) ⊎ (mask ≡ other) → mask_if tells mask ≡ mask_if tells other
remasked tells mask other (inl off) = ap (λ b. mask_if b mask) off ∙ sym (ap (λ b. mask_if b other) off)
remasked tells mask other (inr same) = ap (mask_if tells) same

module _ (group : FindingGroup) (place : ℕ) (finding : Finding) (can : CanHave place finding group) (missing telling : ℕ) (missing_is :
    (k : ℕ) → has_bit missing k ≡ (if k == place then finding.missing else has_bit group.missing k)) where
  point_at : (k : ℕ) → k ≡ place → min (group.point + k) 65535 ≡ finding.point
  point_at k here = ap (λ n. min (group.point + n) 65535) here ∙ sym can.point

  -- it tells of no zone
  pub set_none : TellsNone finding → ((k : ℕ) → has_bit telling k ≡ (if k == place then false else has_bit group.telling k)) → (k : ℕ)
      → finding_at (record group { missing = missing; telling = telling }) k ≡ (if k == place then finding else finding_at group k)
  set_none none telling_is k = elim (eqb_tells k place) [
    | inl here ↦ (
        let off : has_bit telling k ≡ false = telling_is k ∙ ap (λ b. if b then false else has_bit group.telling k) here.0 in
        alike finding (sym can.stamp) (point_at k here.1) (masked (has_bit telling k) group.counted finding.counted off none.counted)
        (masked (has_bit telling k) group.confirmed finding.confirmed off none.confirmed)
        (masked (has_bit telling k) group.manual finding.manual off none.manual)
        (masked (has_bit telling k) group.released finding.released off none.released)
        (missing_is k ∙ ap (λ b. if b then finding.missing else has_bit group.missing k) here.0)
        ∙ sym (ap (λ b. if b then finding else finding_at group k) here.0))
    | inr other ↦ (
        let same : has_bit telling k ≡ has_bit group.telling k = telling_is k ∙ ap (λ b. if b then false else has_bit group.telling k) other.0 in
        alike (finding_at group k) refl refl (ap (λ b. mask_if b group.counted) same) (ap (λ b. mask_if b group.confirmed) same)
        (ap (λ b. mask_if b group.manual) same) (ap (λ b. mask_if b group.released) same)
        (missing_is k ∙ ap (λ b. if b then finding.missing else has_bit group.missing k) other.0)
        ∙ sym (ap (λ b. if b then finding else finding_at group k) other.0))
  ]

  -- it tells of some
  told_as : (TellsNone finding → ⊥) → (k : ℕ) → (has_bit group.telling k ≡ false) ⊎ TellsLike finding group
  told_as some k = by can.told
    where
      by : ((group.telling ≡ 0) ⊎ (TellsNone finding ⊎ TellsLike finding group)) → (has_bit group.telling k ≡ false) ⊎ TellsLike finding group
      by (inl no_bits) = inl (ap (λ m. has_bit m k) no_bits ∙ has_bit-zero k)
      by (inr (inl none)) = absurd (some none)
      by (inr (inr same)) = inr same

  pub set_some : (TellsNone finding → ⊥) → ((k : ℕ) → has_bit telling k ≡ (if k == place then true else has_bit group.telling k)) → (k : ℕ)
      → finding_at (record {
        stamp = group.stamp;
        point = group.point;
        missing = missing;
        telling = telling;
        counted = finding.counted;
        confirmed = finding.confirmed;
        manual = finding.manual;
        released = finding.released;
      }) k ≡ (if k == place then finding else finding_at group k)
  set_some some telling_is k = elim (eqb_tells k place) [
    | inl here ↦ (
        let on : has_bit telling k ≡ true = telling_is k ∙ ap (λ b. if b then true else has_bit group.telling k) here.0 in
        alike finding (sym can.stamp) (point_at k here.1) (ap (λ b. mask_if b finding.counted) on) (ap (λ b. mask_if b finding.confirmed) on)
        (ap (λ b. mask_if b finding.manual) on) (ap (λ b. mask_if b finding.released) on)
        (missing_is k ∙ ap (λ b. if b then finding.missing else has_bit group.missing k) here.0)
        ∙ sym (ap (λ b. if b then finding else finding_at group k) here.0))
    | inr other ↦ (
        let same : has_bit telling k ≡ has_bit group.telling k = telling_is k ∙ ap (λ b. if b then true else has_bit group.telling k) other.0 in
        let tells = has_bit group.telling k in
        alike (finding_at group k) refl refl
        (ap (λ b. mask_if b finding.counted) same ∙ remasked tells finding.counted group.counted (part (λ s. s.counted) (told_as some k)))
        (ap (λ b. mask_if b finding.confirmed) same ∙ remasked tells finding.confirmed group.confirmed (part (λ s. s.confirmed) (told_as some k)))
        (ap (λ b. mask_if b finding.manual) same ∙ remasked tells finding.manual group.manual (part (λ s. s.manual) (told_as some k)))
        (ap (λ b. mask_if b finding.released) same ∙ remasked tells finding.released group.released (part (λ s. s.released) (told_as some k)))
        (missing_is k ∙ ap (λ b. if b then finding.missing else has_bit group.missing k) other.0)
        ∙ sym (ap (λ b. if b then finding else finding_at group k) other.0))
  ]
    where
      part : {tells : Bool} {mask other : ℕ} → (TellsLike finding group → mask ≡ other) → (tells ≡ false) ⊎ TellsLike finding group
          → (tells ≡ false) ⊎ (mask ≡ other)
      part of (inl off) = inl off
      part of (inr same) = inr (of same)

-- ---- a finding is put behind a run

same_items : (one other : FindingGroup) (from count : ℕ) → ((k : ℕ) → from ≤ k → k < from + count → finding_at one k ≡ finding_at other k)
    → map (finding_at one) (range_with_len from count) ≡ map (finding_at other) (range_with_len from count)
same_items one other from zero same = refl
same_items one other from (suc count) same =
    ap (λ f. f ∷ map (finding_at one) (range_with_len (from + 1) count)) (same from (omega arith) (omega arith))
    ∙ ap (λ fs. finding_at other from ∷ fs) (same_items one other (from + 1) count (λ k le less. same k (omega (arith, le)) (omega (arith, less))))

pub one_more : (run : Run FindingGroup) (group : FindingGroup) (finding : Finding)
    → ((k : ℕ) → finding_at group k ≡ (if k == run.taken + run.count then finding else finding_at run.first k))
    → items_of finding_at (record { first = group; taken = run.taken; count = run.count + 1 }) ≡ items_of finding_at run ++ finding ∷ []
one_more run group finding is =
    let place = run.taken + run.count in
    map-range_with_len_more (finding_at group) run.taken run.count place refl
    ∙ ap (λ f. map (finding_at group) (range_with_len run.taken run.count) ++ f ∷ []) (at place refl)
    ∙ ap (λ fs. fs ++ finding ∷ []) (same_items group run.first run.taken run.count (λ k le less. apart k less))
  where
    at : (k : ℕ) → k ≡ run.taken + run.count → finding_at group k ≡ finding
    at k same = elim (eqb_tells k (run.taken + run.count)) [
      | inl here ↦ is k ∙ ap (λ b. if b then finding else finding_at run.first k) here.0
      | inr other ↦ absurd (other.1 same)
    ]

    apart : (k : ℕ) → k < run.taken + run.count → finding_at group k ≡ finding_at run.first k
    apart k less = elim (eqb_tells k (run.taken + run.count)) [
      | inl here ↦ absurd (let e = here.1 in omega (arith, e, less))
      | inr other ↦ is k ∙ ap (λ b. if b then finding else finding_at run.first k) other.0
    ]
