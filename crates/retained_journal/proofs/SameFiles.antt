-- There is one new file of a site and a state: its parts are read alike only where their bytes are the same.
use Rattle.std.proofs.Common.{inl, inr, ◌≡◌, ◌⊎◌, ◌+◌, ◌-◌, ◌*◌, ◌/◌, ◌%◌, ◌^◌, ◌<◌, ◌≤◌, ℕ, zero, suc, true, false, List, [], get_or, slice_index, sym, ap, ◌∙◌, subst, arith, add-zero, zero-add}
use Rattle.std.specs.Prelude.{nat_le}
use Rattle.std.proofs.Math.Nat.{add-mul, mul-le-mul_right}
use Rattle.std.proofs.lemmas.Bool.Decides.{leb_tells}
use Rattle.std.proofs.lemmas.Grind.{same_number_lists}
use Rattle.std.proofs.lemmas.List.FromFn.{get_or-map-range_with_len}
use Rattle.byteorder.specs.Endian.{big_from, little_from}
use Rattle.byteorder.specs.Numbers.{big_from-lt}
use Rattle.site_types.specs.Done.{no_points}
use Rattle.site_types.specs.declared.point_set.PointSet.{PointSet}
use Rattle.site_types.specs.declared.retained.Retained.{Retained}
use Rattle.retained_journal.specs.Fields.{AreBytes, bytes_at, mask_at, number_at, numbers_at}
use Rattle.retained_journal.specs.NewFiles.{IsBesideSlot, IsNewFile, OneNewFile}
use Rattle.retained_journal.specs.Slots.{loop_at, panel_points, points_at, retained_at}
use Rattle.retained_journal.proofs.NewFiles.{counter_of}
use Rattle.retained_journal.specs.Places.{first_slot_end, first_slot}
use Rattle.retained_journal.specs.Places.{delays_place, wide_points_place, points_place}

-- a number is one digit before the rest in one way
same_digit : (x y p r s : ℕ) → r < p → s < p → x * p + r ≡ y * p + s → x ≡ y
same_digit x y p r s low low' same = go (leb_tells x y) (leb_tells y x)
  where
    beyond : (a b u v : ℕ) → u < p → a < b → a * p + u ≡ b * p + v → ⊥
    beyond a b u v few less e =
        let top : (a + 1) * p ≤ b * p = mul-le-mul_right p (omega (arith, less)) in
        let expand : (a + 1) * p ≡ a * p + 1 * p = add-mul a 1 p in
        omega (arith, top, expand, few, e)

    go : ((nat_le x y ≡ true) × (x ≤ y)) ⊎ ((nat_le x y ≡ false) × (y < x)) → ((nat_le y x ≡ true) × (y ≤ x)) ⊎ ((nat_le y x ≡ false) × (x < y))
        → x ≡ y
    go (inl a) (inl b) = let h = a.1 in let k = b.1 in omega (arith, h, k)
    go (inr a) other = absurd (beyond y x s r low' a.1 (sym same))
    go (inl a) (inr b) = absurd (beyond x y r s low b.1 same)

-- two files have the same byte at a place, or the same bytes from a place on
abbrev SameByte : List ℕ → List ℕ → ℕ → Type 0
SameByte a b place = slice_index a place ≡ slice_index b place

abbrev SameBytes : List ℕ → List ℕ → ℕ → ℕ → Type 0
SameBytes a b at n = (i : ℕ) → i < n → SameByte a b (at + i)

module _ (a b : List ℕ) (bytes : AreBytes a) (bytes' : AreBytes b) where
  one_more : (at n : ℕ) → SameByte a b at → SameBytes a b (suc at) n → SameBytes a b at (suc n)
  one_more at n here later zero less = subst (SameByte a b) (sym (add-zero at)) here
  one_more at n here later (suc i) less = subst (SameByte a b) (omega arith) (later i (omega (arith, less)))

  big_same : (n at : ℕ) → big_from at n a ≡ big_from at n b → SameBytes a b at n
  big_same zero at same i less = absurd (omega (arith, less))
  big_same (suc n) at same i less =
      let here =
      same_digit (slice_index a at) (slice_index b at) (256 ^ n) (big_from (suc at) n a) (big_from (suc at) n b) (big_from-lt (suc at) n a bytes)
      (big_from-lt (suc at) n b bytes') same in
      let high : slice_index a at * 256 ^ n ≡ slice_index b at * 256 ^ n = ap (λ (x : ℕ). x * 256 ^ n) here in
      let rest : big_from (suc at) n a ≡ big_from (suc at) n b = omega (arith, same, high) in
      one_more at n here (λ j few. big_same n (suc at) rest j few) i less

  little_same : (n at : ℕ) → little_from at n a ≡ little_from at n b → SameBytes a b at n
  little_same zero at same i less = absurd (omega (arith, less))
  little_same (suc n) at same i less =
      let low = bytes at in
      let low' = bytes' at in
      let here : slice_index a at ≡ slice_index b at = omega (arith, same, low, low') in
      let rest : little_from (suc at) n a ≡ little_from (suc at) n b = omega (arith, same, low, low') in
      one_more at n here (λ j few. little_same n (suc at) rest j few) i less

  number_same : (n at : ℕ) → number_at n at a ≡ number_at n at b → SameBytes a b at n
  unfolding number_at
  number_same n at same = big_same n at same

  mask_same : (n at : ℕ) → mask_at n at a ≡ mask_at n at b → SameBytes a b at n
  unfolding mask_at
  mask_same n at same = little_same n at same

  -- the same pieces, one after the other
  pieces : (size count at : ℕ) → ((k : ℕ) → k < count → SameBytes a b (at + size * k) size) → (i k j : ℕ) → i ≡ size * k + j → k < count → j < size
      → SameByte a b (at + i)
  pieces size count at each i k j is less few = subst (SameByte a b) (omega (arith, is)) (each k less j few)

  numbers_same : (at : ℕ) → numbers_at at a ≡ numbers_at at b → SameBytes a b at 32
  numbers_same at same i less =
      pieces 4 8 at
      (λ k few. number_same 4 (at + 4 * k) (sym (counter_of at a k few) ∙ ap (λ xs. slice_index xs k) same ∙ counter_of at b k few))
      i (i / 4) (i % 4) (omega arith) (omega (arith, less)) (omega arith)

  loop_same : (at k : ℕ) → loop_at true at k a ≡ loop_at true at k b → SameBytes a b (at + points_place + 12 * k) 12 × SameBytes a b (at + wide_points_place + 12 * k) 12
  loop_same at k same = (
    mask_same 12 (at + points_place + 12 * k) (ap (λ xs. slice_index xs 0) same),
    mask_same 12 (at + wide_points_place + 12 * k) (ap (λ xs. slice_index xs 1) same),
  )

loop_of : (at panel line : ℕ) (file : List ℕ) → line < 4
    → get_or (panel_points true at panel file).loops line [] ≡ loop_at true at (4 * panel + line) file
unfolding panel_points
loop_of at panel line file less = get_or-map-range_with_len (λ l. loop_at true at (4 * panel + l) file) 0 4 line line [] less (zero-add line)

panel_of : (at panel : ℕ) (file : List ℕ) → panel < 8 → get_or (points_at true at file) panel no_points ≡ panel_points true at panel file
unfolding points_at
panel_of at panel file less = get_or-map-range_with_len (λ p. panel_points true at p file) 0 8 panel panel no_points less (zero-add panel)

loops_same : (a b : List ℕ) (at : ℕ) → points_at true at a ≡ points_at true at b → (k : ℕ) → k < 32 → loop_at true at k a ≡ loop_at true at k b
loops_same a b at same k less =
    subst (λ (j : ℕ). loop_at true at j a ≡ loop_at true at j b) (omega arith)
    (sym (loop_of at (k / 4) (k % 4) a (omega arith))
    ∙ ap (λ (s : PointSet). get_or s.loops (k % 4) [])
    (sym (panel_of at (k / 4) a (omega (arith, less))) ∙ ap (λ (points : List PointSet). get_or points (k / 4) no_points) same ∙ panel_of at
    (k / 4) b (omega (arith, less)))
    ∙ loop_of at (k / 4) (k % 4) b (omega arith))

byte_of : (n at i : ℕ) (file : List ℕ) → i < n → slice_index (bytes_at n at file) i ≡ slice_index file (at + i)
unfolding bytes_at
byte_of n at i file less = get_or-map-range_with_len (λ k. slice_index file (at + k)) 0 n i i 0 less (zero-add i)

piece_same : (a b : List ℕ) (n at : ℕ) → bytes_at n at a ≡ bytes_at n at b → SameBytes a b at n
piece_same a b n at same i less = sym (byte_of n at i a less) ∙ ap (λ xs. slice_index xs i) same ∙ byte_of n at i b less

-- before a place or not
parted : (P : ℕ → Type 0) (mid place : ℕ) → (place < mid → P place) → (mid ≤ place → P place) → P place
parted P mid place before behind = go (leb_tells mid place)
  where
    go : ((nat_le mid place ≡ true) × (mid ≤ place)) ⊎ ((nat_le mid place ≡ false) × (place < mid)) → P place
    go (inl h) = behind h.1
    go (inr h) = before h.1

module _ (a b : List ℕ) where
  within : (at n place : ℕ) → SameBytes a b at n → at ≤ place → place < at + n → SameByte a b place
  within at n place same low high = subst (SameByte a b) (omega (arith, low)) (same (place - at) (omega (arith, low, high)))

  module _ (digest : List ℕ) (state : Retained) (one : IsNewFile digest state a) (other : IsNewFile digest state b) where
    states : retained_at true first_slot a ≡ retained_at true first_slot b
    states = one.holds true (λ k less l few. tt) ∙ sym (other.holds true (λ k less l few. tt))

    points : points_at true first_slot a ≡ points_at true first_slot b
    points = ap (λ (r : Retained). r.points) states

    loops : (k : ℕ) → k < 32 → SameBytes a b (73 + 12 * k) 12 × SameBytes a b (554 + 12 * k) 12
    loops k less = loop_same a b one.bytes other.bytes first_slot k (loops_same a b first_slot points k less)

    loop_bytes : (at : ℕ) → ((k : ℕ) → k < 32 → SameBytes a b (at + 12 * k) 12) → SameBytes a b at 384
    loop_bytes at each i less = pieces a b one.bytes other.bytes 12 32 at each i (i / 12) (i % 12) (omega arith) (omega (arith, less)) (omega arith)

    numbers : (at : ℕ) → numbers_at at a ≡ numbers_at at b → SameBytes a b at 32
    numbers at same = numbers_same a b one.bytes other.bytes at same

    zeros : (place : ℕ) → IsBesideSlot place → SameByte a b place
    zeros place beside = one.zeros place beside ∙ sym (other.zeros place beside)

    slot_bytes : (place : ℕ) → 65 ≤ place → place < first_slot_end → SameByte a b place
    slot_bytes place from to =
        parted (SameByte a b) 73 place (λ less. within 65 8 place (number_same a b one.bytes other.bytes 8 65 (one.number ∙ sym other.number)) from
        less)
        (λ h73. parted (SameByte a b) delays_place place (λ less. within 73 384 place (loop_bytes 73 (λ k few. (loops k few).0)) h73 less)
        (λ h457. parted (SameByte a b) 489 place (λ less. within delays_place 32 place (numbers delays_place (ap (λ (r : Retained). r.zones) states)) h457 less)
        (λ h489. parted (SameByte a b) 521 place (λ less. within 489 32 place (numbers 489 (ap (λ (r : Retained). r.outputs) states)) h489 less)
        (λ h521. parted (SameByte a b) 522 place (λ less. within 521 1 place (λ i few. delays i few) h521 less)
        (λ h522. parted (SameByte a b) 554 place (λ less. within 522 32 place (numbers 522 (ap (λ (r : Retained). r.counters) states)) h522 less)
        (λ h554. parted (SameByte a b) 938 place (λ less. within 554 384 place (loop_bytes 554 (λ k few. (loops k few).1)) h554 less)
        (λ h938. within 938 32 place (numbers 938 (ap (λ (r : Retained). r.tests) states)) h938 to)))))))
      where
        delays : SameBytes a b 521 1
        delays zero less = ap (λ (r : Retained). r.delays_off) states
        delays (suc i) less = absurd (omega (arith, less))

    each_byte : (place : ℕ) → SameByte a b place
    each_byte place =
        parted (SameByte a b) 8 place (λ less. within 0 8 place (piece_same a b 8 0 (one.mark ∙ sym other.mark)) (omega arith) less)
        (λ h8. parted (SameByte a b) 40 place (λ less. within 8 32 place (piece_same a b 32 8 (one.digest_kept ∙ sym other.digest_kept)) h8 less)
        (λ h40. parted (SameByte a b) first_slot place (λ less. zeros place (inl (h40, less)))
        (λ h64. parted (SameByte a b) 65 place (λ less. subst (SameByte a b) (omega (arith, h64, less)) (one.slot_open ∙ sym other.slot_open))
        (λ h65. parted (SameByte a b) first_slot_end place (λ less. slot_bytes place h65 less)
        (λ h970. zeros place (inr h970))))))

pub one_new_file : OneNewFile
one_new_file digest state file other is is' =
    same_number_lists file other (is.size ∙ sym is'.size) (λ place less. each_byte file other digest state is is' place)
