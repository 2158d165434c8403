-- Tests of every zone, by the masks of the panels.
use Rattle.std.proofs.Common.{◌≡◌, ◌≢◌, ℕ, zero, suc, ◌+◌, ◌-◌, ◌^◌, ◌<◌, Bool, true, false, ◌&&◌, ◌||◌, List, get_or, below_more, refl, sym, ◌∙◌, ap, arith}
use Rattle.std.specs.Prelude.{not}
use Rattle.std.specs.List.{list_all, range_with_len}
use Rattle.site_types.specs.Bits.{has_bit, mask_of}
use Rattle.site_types.proofs.Masks.{has_bit-mask, has_bit-zero, mask_empty, mask_below}
use Rattle.sounder_control.specs.Quiet.{every_zone, has_zone, is_empty, is_within}

-- a test holds of each number of a range
pub all_in_range : (test : ℕ → Bool) (a n : ℕ) → ((k : ℕ) → k < n → test (a + k) ≡ true) → list_all test (range_with_len a n) ≡ true
all_in_range test a zero each = refl
all_in_range test a (suc n) each =
    let at : a ≡ a + 0 = omega arith in
    let here : test a ≡ true = ap test at ∙ each 0 (omega arith) in
    let rest : list_all test (range_with_len (a + 1) n) ≡ true =
    all_in_range test (a + 1) n (λ k small. ap test (omega arith) ∙ each (k + 1) (omega arith)) in
    rw here rest

both : (a b : Bool) → (a && b) ≡ true → (a ≡ true) × (b ≡ true)
both true true e = (refl, refl)
both true false e = cc
both false b e = cc

-- a test that holds of each number of a range, at one of them
pub range_at : (test : ℕ → Bool) (a n : ℕ) → list_all test (range_with_len a n) ≡ true → (k : ℕ) → k < n → test (a + k) ≡ true
range_at test a zero all k small = absurd (omega arith)
range_at test a (suc n) all zero small =
    let at : a + 0 ≡ a = omega arith in
    ap test at ∙ (both (test a) (list_all test (range_with_len (a + 1) n)) all).0
range_at test a (suc n) all (suc j) small =
    let at : a + suc j ≡ a + 1 + j = omega arith in
    ap test at ∙ range_at test (a + 1) n (both (test a) (list_all test (range_with_len (a + 1) n)) all).1 j (omega arith)

-- a test that fails at a number of a range doesn't hold of each
pub not_in_range : (test : ℕ → Bool) (a n k : ℕ) → k < n → test (a + k) ≡ false → list_all test (range_with_len a n) ≡ false
not_in_range test a n k small fails = go (list_all test (range_with_len a n)) refl
  where
    go : (b : Bool) → list_all test (range_with_len a n) ≡ b → list_all test (range_with_len a n) ≡ false
    go false e = e
    go true e = let no_way : false ≡ true = sym fails ∙ range_at test a n e k small in cc

-- a test of the zones of one panel, which asks that the bits of a mask are clear
pub row_clear : (test : ℕ → Bool) (mask : ℕ) → ((k : ℕ) → k < 32 → test (1 + k) ≡ not (has_bit mask k)) → mask ≡ 0
    → list_all test (range_with_len 1 32) ≡ true
row_clear test mask bits clear = all_in_range test 1 32 (λ k small. bits k small ∙ ap not (ap (λ m. has_bit m k) clear ∙ has_bit-zero k))

flipped : (b : Bool) → not b ≡ true → b ≡ false
flipped true e = cc
flipped false e = refl

pub row_set : (test : ℕ → Bool) (mask : ℕ) → ((k : ℕ) → k < 32 → test (1 + k) ≡ not (has_bit mask k)) → mask < 2 ^ 32 → mask ≢ 0
    → list_all test (range_with_len 1 32) ≡ false
row_set test mask bits below set = go (list_all test (range_with_len 1 32)) refl
  where
    go : (b : Bool) → list_all test (range_with_len 1 32) ≡ b → list_all test (range_with_len 1 32) ≡ false
    go false e = e
    go true e = absurd (set (mask_empty 32 mask below (λ k small. flipped (has_bit mask k) (sym (bits k small) ∙ range_at test 1 32 e k small))))

-- a test that holds of all zones of each panel
pub every_row : (test : ℕ → ℕ → Bool) → ((p : ℕ) → p < 8 → list_all (test (1 + p)) (range_with_len 1 32) ≡ true) → every_zone test ≡ true
unfolding every_zone
every_row test rows = all_in_range (λ panel. list_all (test panel) (range_with_len 1 32)) 1 8 rows

-- a test that fails at a zone of a panel
pub not_every_row : (test : ℕ → ℕ → Bool) (p : ℕ) → p < 8 → list_all (test (1 + p)) (range_with_len 1 32) ≡ false → every_zone test ≡ false
unfolding every_zone
not_every_row test p small fails = not_in_range (λ panel. list_all (test panel) (range_with_len 1 32)) 1 8 p small fails

-- a zone of a set, by places from 0
placed : (zones : List ℕ) (p k : ℕ) → has_zone zones (1 + p) (1 + k) ≡ has_bit (get_or zones p 0) k
placed zones p k =
    let panel : 1 + p - 1 ≡ p = omega arith in
    let number : 1 + k - 1 ≡ k = omega arith in
    rw (panel, number) refl

-- a set is empty where each of its masks is
pub all_clear : (zones : List ℕ) → ((p : ℕ) → p < 8 → get_or zones p 0 ≡ 0) → is_empty zones ≡ true
all_clear zones clear =
    every_row (λ panel number. not (has_zone zones panel number))
    (λ p small. row_clear (λ number. not (has_zone zones (1 + p) number)) (get_or zones p 0) (λ k within. ap not (placed zones p k)) (clear p small))

pub one_set : (zones : List ℕ) (p : ℕ) → p < 8 → get_or zones p 0 < 2 ^ 32 → get_or zones p 0 ≢ 0 → is_empty zones ≡ false
one_set zones p small below set =
    not_every_row (λ panel number. not (has_zone zones panel number)) p small
    (row_set (λ number. not (has_zone zones (1 + p) number)) (get_or zones p 0) (λ k within. ap not (placed zones p k)) below set)

-- the zones of a panel that are in one mask and not in another
abbrev pub outside : ℕ → ℕ → ℕ
outside mask other = mask_of 32 (λ k. has_bit mask k && not (has_bit other k))

inside : (a b : Bool) → (not a || b) ≡ not (a && not b)
inside true true = refl
inside true false = refl
inside false b = refl

inside_at : (zones others : List ℕ) (p k : ℕ) → k < 32 →
    (not (has_zone zones (1 + p) (1 + k)) || has_zone others (1 + p) (1 + k)) ≡ not (has_bit (outside (get_or zones p 0) (get_or others p 0)) k)
inside_at zones others p k within =
    let mask = get_or zones p 0 in
    let other = get_or others p 0 in
    ap (λ b. not b || has_zone others (1 + p) (1 + k)) (placed zones p k)
    ∙ ap (λ b. not (has_bit mask k) || b) (placed others p k)
    ∙ inside (has_bit mask k) (has_bit other k)
    ∙ ap not (sym (has_bit-mask 32 (λ j. has_bit mask j && not (has_bit other j)) k within))

-- a set is within another where no mask has a bit outside
pub all_within : (zones others : List ℕ) → ((p : ℕ) → p < 8 → outside (get_or zones p 0) (get_or others p 0) ≡ 0) → is_within zones others ≡ true
all_within zones others clear =
    every_row (λ panel number. not (has_zone zones panel number) || has_zone others panel number)
    (λ p small. row_clear (λ number. not (has_zone zones (1 + p) number) || has_zone others (1 + p) number)
    (outside (get_or zones p 0) (get_or others p 0))
    (λ k within. inside_at zones others p k within) (clear p small))

pub one_outside : (zones others : List ℕ) (p : ℕ) → p < 8 → outside (get_or zones p 0) (get_or others p 0) ≢ 0 → is_within zones others ≡ false
one_outside zones others p small set =
    not_every_row (λ panel number. not (has_zone zones panel number) || has_zone others panel number) p small
    (row_set (λ number. not (has_zone zones (1 + p) number) || has_zone others (1 + p) number) (outside (get_or zones p 0) (get_or others p 0))
    (λ k within. inside_at zones others p k within)
    (mask_below 32 (λ j. has_bit (get_or zones p 0) j && not (has_bit (get_or others p 0) j))) set)

-- no mask has a bit outside, one panel further
pub clear_more : (zones others : List ℕ) (n : ℕ) → ((p : ℕ) → p < n → outside (get_or zones p 0) (get_or others p 0) ≡ 0) →
    outside (get_or zones n 0) (get_or others n 0) ≡ 0 → (p : ℕ) → p < n + 1 → outside (get_or zones p 0) (get_or others p 0) ≡ 0
clear_more zones others n before here = below_more (λ p. outside (get_or zones p 0) (get_or others p 0) ≡ 0) n before here
