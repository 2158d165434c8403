-- What is read back of a written slot.
use Rattle.std.proofs.Common.{inl, inr, ◌≡◌, ◌⊎◌, ◌+◌, ◌*◌, ◌<◌, ◌≤◌, ℕ, Bool, true, false, List, [], ◌∷◌, slice_index, get_or, length, refl, sym, ap, ◌∙◌, subst, arith}
use Rattle.std.specs.Prelude.{nat_le}
use Rattle.std.proofs.lemmas.Bool.Decides.{leb_tells}
use Rattle.std.proofs.lemmas.List.FromFn.{fill_by_all}
use Rattle.site_types.specs.declared.point_set.PointSet.{PointSet}
use Rattle.site_types.specs.declared.retained.Retained.{Retained}
use Rattle.site_types.specs.Done.{no_points}
use Rattle.retained_journal.specs.Fields.{Agrees, mask_at, numbers_at}
use Rattle.retained_journal.specs.Slots.{AreNarrow, SameButLoops, loop_at, panel_points, points_at, retained_at}
use Rattle.retained_journal.proofs.Agreement.{map-same, mask-agrees}
use Rattle.retained_journal.specs.Places.{zones_place, outputs_place, delays_place, counters_place, wide_points_place, tests_place, points_place}

two : (xs : List ℕ) → length xs ≡ 2 → xs ≡ slice_index xs 0 ∷ slice_index xs 1 ∷ []
two [] e = absurd (omega (arith, e))
two (a ∷ []) e = absurd (omega (arith, e))
two (a ∷ b ∷ []) e = refl
two (a ∷ b ∷ x ∷ rest) e = absurd (omega (arith, e))

pub loop_is : (wide : Bool) (which : ℕ) (slot halves : List ℕ) → length halves ≡ 2 → mask_at 12 (points_place + 12 * which) slot ≡ slice_index halves 0
    → mask_at 12 (wide_points_place + 12 * which) slot ≡ slice_index halves 1 → AreNarrow wide halves
    → loop_at wide 0 which slot ≡ halves
loop_is true which slot halves size low high narrow = rw (low, high) (sym (two halves size))
loop_is false which slot halves size low high narrow = rw low (ap (λ (n : ℕ). slice_index halves 0 ∷ n ∷ []) (sym narrow) ∙ sym (two halves size))

pub mask_kept : (k at first count : ℕ) (old new : List ℕ) → SameButLoops first count old new → first + count ≤ 32
    → ((at ≡ points_place + 12 * k) ⊎ (at ≡ wide_points_place + 12 * k)) → k < 32 → (k < first) ⊎ (first + count ≤ k) → mask_at 12 at new ≡ mask_at 12 at old
mask_kept k at first count old new same fits (inl low) less (inl before) =
    mask-agrees 12 new at old at
    (record { same = λ i few. same (at + i) (inl (omega (arith, low, less, before, few))) (inl (omega (arith, low, less, before, few))) })
mask_kept k at first count old new same fits (inl low) less (inr behind) =
    mask-agrees 12 new at old at
    (record { same = λ i few. same (at + i) (inr (omega (arith, low, less, behind, few))) (inl (omega (arith, low, less, behind, few))) })
mask_kept k at first count old new same fits (inr high) less (inl before) =
    mask-agrees 12 new at old at
    (record { same = λ i few. same (at + i) (inr (omega (arith, high, fits, before, few))) (inl (omega (arith, high, less, before, few))) })
mask_kept k at first count old new same fits (inr high) less (inr behind) =
    mask-agrees 12 new at old at
    (record { same = λ i few. same (at + i) (inr (omega (arith, high, fits, behind, few))) (inr (omega (arith, high, less, behind, few))) })

pub loop_kept : (wide : Bool) (k first count : ℕ) (old new : List ℕ) → SameButLoops first count old new → first + count ≤ 32 → k < 32
    → (k < first) ⊎ (first + count ≤ k) → loop_at wide 0 k new ≡ loop_at wide 0 k old
loop_kept true k first count old new same fits less apart =
    let low = mask_kept k (points_place + 12 * k) first count old new same fits (inl refl) less apart in
    let high = mask_kept k (wide_points_place + 12 * k) first count old new same fits (inr refl) less apart in
    rw (low, high) refl
loop_kept false k first count old new same fits less apart =
    let low = mask_kept k (points_place + 12 * k) first count old new same fits (inl refl) less apart in
    rw low refl

-- one loop of a panel more
pub line_more : (wide : Bool) (panel line : ℕ) (loops : List (List ℕ)) (old new : List ℕ) → panel < 8 → line < 4
    → SameButLoops (4 * panel + line) 1 old new
    → ((k : ℕ) → k < line → get_or loops k [] ≡ loop_at wide 0 (4 * panel + k) old) → loop_at wide 0 (4 * panel + line) new ≡ get_or loops line []
    → (k : ℕ) → k < line + 1 → get_or loops k [] ≡ loop_at wide 0 (4 * panel + k) new
line_more wide panel line loops old new small few same before here k less = go (leb_tells line k)
  where
    go : ((nat_le line k ≡ true) × (line ≤ k)) ⊎ ((nat_le line k ≡ false) × (k < line)) → get_or loops k [] ≡ loop_at wide 0 (4 * panel + k) new
    go (inl at) = subst (λ (j : ℕ). get_or loops j [] ≡ loop_at wide 0 (4 * panel + j) new) (let h = at.1 in omega (arith, h, less)) (sym here)
    go (inr below) =
        before k below.1 ∙ sym (loop_kept wide (4 * panel + k) (4 * panel + line) 1 old new same (omega (arith, small, few)) (let h = below.1 in
        omega (arith, small, few, h)) (inl (let h = below.1 in omega (arith, h))))

pub loops_written : (wide : Bool) (panel : ℕ) (loops : List (List ℕ)) (slot : List ℕ) → length loops ≡ 4
    → ((k : ℕ) → k < 4 → get_or loops k [] ≡ loop_at wide 0 (4 * panel + k) slot) → (panel_points wide 0 panel slot).loops ≡ loops
unfolding panel_points
loops_written wide panel loops slot size each = sym (fill_by_all (λ line. loop_at wide 0 (4 * panel + line) slot) loops 4 [] size each)

abbrev set_of : List (List ℕ) → PointSet
set_of loops = record { loops = loops }

panel_kept : (wide : Bool) (k panel : ℕ) (old new : List ℕ) → SameButLoops (4 * panel) 4 old new → k < panel → panel < 8
    → panel_points wide 0 k new ≡ panel_points wide 0 k old
unfolding panel_points
panel_kept wide k panel old new same less small =
    ap set_of (map-same (λ line. loop_at wide 0 (4 * k + line) new) (λ line. loop_at wide 0 (4 * k + line) old) 0 4
    (λ line low few. loop_kept wide (4 * k + line) (4 * panel) 4 old new same (omega (arith, small)) (omega (arith, less, small, few))
    (inl (omega (arith, less, few)))))

-- one panel more
pub panel_more : (wide : Bool) (panel : ℕ) (points : List PointSet) (old new : List ℕ) → panel < 8 → SameButLoops (4 * panel) 4 old new
    → ((k : ℕ) → k < panel → get_or points k no_points ≡ panel_points wide 0 k old)
    → (panel_points wide 0 panel new).loops ≡ (get_or points panel no_points).loops
    → (k : ℕ) → k < panel + 1 → get_or points k no_points ≡ panel_points wide 0 k new
panel_more wide panel points old new small same before here k less = go (leb_tells panel k)
  where
    go : ((nat_le panel k ≡ true) × (panel ≤ k)) ⊎ ((nat_le panel k ≡ false) × (k < panel)) → get_or points k no_points ≡ panel_points wide 0 k new
    go (inl at) =
        subst (λ (j : ℕ). get_or points j no_points ≡ panel_points wide 0 j new) (let h = at.1 in omega (arith, h, less)) (ap set_of (sym here))
    go (inr below) = before k below.1 ∙ sym (panel_kept wide k panel old new same below.1 small)

pub points_written : (wide : Bool) (points : List PointSet) (slot : List ℕ) → length points ≡ 8
    → ((k : ℕ) → k < 8 → get_or points k no_points ≡ panel_points wide 0 k slot) → points_at wide 0 slot ≡ points
unfolding points_at
points_written wide points slot size each = sym (fill_by_all (λ panel. panel_points wide 0 panel slot) points 8 no_points size each)

-- some loops of others were written
pub same_more : (first count from some : ℕ) (old mid new : List ℕ) → first ≤ from → from + some ≤ first + count → SameButLoops first count old mid
    → SameButLoops from some mid new → SameButLoops first count old new
same_more first count from some old mid new low high one two' i low' high' = two' i (narrower 9 low') (narrower wide_points_place high') ∙ one i low' high'
  where
    narrower : (base : ℕ) → (i < base + 12 * first) ⊎ (base + 12 * (first + count) ≤ i) → (i < base + 12 * from) ⊎ (base + 12 * (from + some) ≤ i)
    narrower base (inl before) = inl (omega (arith, before, low))
    narrower base (inr behind) = inr (omega (arith, behind, high))

-- what was written stays where another piece is written elsewhere
pub still : (n at from len : ℕ) (piece old new : List ℕ) → Agrees n old at piece 0
    → ((i : ℕ) → (i < from) ⊎ (from + len ≤ i) → slice_index new i ≡ slice_index old i) → (at + n ≤ from) ⊎ (from + len ≤ at)
    → Agrees n new at piece 0
still n at from len piece old new agrees same (inl before) =
    record { same = λ i few. same (at + i) (inl (omega (arith, few, before))) ∙ agrees.same i few }
still n at from len piece old new agrees same (inr behind) =
    record { same = λ i few. same (at + i) (inr (omega (arith, few, behind))) ∙ agrees.same i few }

pub sized : (n m : ℕ) (file : List ℕ) (at : ℕ) (piece : List ℕ) → m ≡ n → Agrees m file at piece 0 → Agrees n file at piece 0
sized n m file at piece e agrees = subst (λ (k : ℕ). Agrees k file at piece 0) e agrees

pub still_points : (n at : ℕ) (piece old new : List ℕ) → Agrees n old at piece 0 → SameButLoops 0 32 old new → (at + n ≤ 9) → Agrees n new at piece 0
still_points n at piece old new agrees same before =
    record { same = λ i few. same (at + i) (inl (omega (arith, few, before))) (inl (omega (arith, few, before))) ∙ agrees.same i few }

pub slot_reads : (wide : Bool) (slot : List ℕ) (state : Retained) → points_at wide 0 slot ≡ state.points → numbers_at zones_place slot ≡ state.zones
    → numbers_at outputs_place slot ≡ state.outputs → slice_index slot delays_place ≡ state.delays_off → numbers_at counters_place slot ≡ state.counters
    → numbers_at tests_place slot ≡ state.tests → retained_at wide 0 slot ≡ state
slot_reads wide slot state points zones outputs delays counters tests = rw (points, zones, outputs, delays, counters, tests) refl

pub points-kept : (wide : Bool) (old new : List ℕ) → ((i : ℕ) → (i < zones_place) ⊎ ((wide_points_place ≤ i) × (i < tests_place)) → slice_index new i ≡ slice_index old i)
    → points_at wide 0 new ≡ points_at wide 0 old
unfolding points_at panel_points
points-kept wide old new same =
    map-same (λ panel. panel_points wide 0 panel new) (λ panel. panel_points wide 0 panel old) 0 8
    (λ panel low few. ap set_of (map-same (λ line. loop_at wide 0 (4 * panel + line) new) (λ line. loop_at wide 0 (4 * panel + line) old) 0 4
    (λ line low' less. loop_same wide (4 * panel + line) (omega (arith, few, less)))))
  where
    mask_same : (k : ℕ) → k < 32 → mask_at 12 (points_place + 12 * k) new ≡ mask_at 12 (points_place + 12 * k) old
    mask_same k less =
        mask-agrees 12 new (points_place + 12 * k) old (points_place + 12 * k) (record { same = λ i few. same (points_place + 12 * k + i) (inl (omega (arith, less, few))) })

    high_same : (k : ℕ) → k < 32 → mask_at 12 (wide_points_place + 12 * k) new ≡ mask_at 12 (wide_points_place + 12 * k) old
    high_same k less =
        mask-agrees 12 new (wide_points_place + 12 * k) old (wide_points_place + 12 * k)
        (record { same = λ i few. same (wide_points_place + 12 * k + i) (inr (omega arith, omega (arith, less, few))) })

    loop_same : (b : Bool) (k : ℕ) → k < 32 → loop_at b 0 k new ≡ loop_at b 0 k old
    loop_same true k less = let low = mask_same k less in let high = high_same k less in rw (low, high) refl
    loop_same false k less = let low = mask_same k less in rw low refl
