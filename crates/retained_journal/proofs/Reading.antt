-- What the reading calls give, in the words of the layout.
use Rattle.std.proofs.Common.{inl, inr, ◌++◌, ◌-◌, min, replicate, length-take, zero-add, true, false, ◌≡◌, ◌+◌, ◌*◌}
use Rattle.std.proofs.Common.{◌<◌, ◌≤◌, ℕ, List, [], slice_index, get_or, length, take, drop, sym, ap, ◌∙◌, subst}
use Rattle.std.proofs.Common.{arith}
use Rattle.std.proofs.lemmas.List.{get_or_append_left, get_or-append_right, get_or-drop, get_or-replicate, get_or-take, get_or_past}
use Rattle.std.proofs.lemmas.List.FromFn.{fill_by_all}
use Rattle.byteorder.specs.Endian.{big_from, little_from, IsRead}
use Rattle.retained_journal.specs.Fields.{Agrees, bytes_at, mask_at, number_at, numbers_at}
use Rattle.std.specs.Prelude.{Bool, ◌⊎◌, nat_le}
use Rattle.std.proofs.lemmas.Bool.Decides.{leb_tells}
use Rattle.site_types.specs.declared.point_set.PointSet.{PointSet}
use Rattle.retained_journal.specs.Slots.{panel_points, points_at}
use Rattle.retained_journal.proofs.Agreement.{number-agrees, mask-agrees, from_start}
use Rattle.retained_journal.specs.Places.{front_bytes}

-- a range of a list
pub ranged : (n len at : ℕ) (file : List ℕ) → n ≤ len → Agrees n (take len (drop at file)) 0 file at
ranged n len at file fits =
    from_start n (take len (drop at file)) file at (λ i less. get_or-take len (drop at file) i 0 (omega arith) ∙ get_or-drop at file i 0)

pub number_at-range : (n len at : ℕ) (file : List ℕ) → n ≤ len → big_from 0 n (take len (drop at file)) ≡ number_at n at file
unfolding number_at
number_at-range n len at file fits = number-agrees n (take len (drop at file)) 0 file at (ranged n len at file fits)

pub mask_at-range : (n len at : ℕ) (file : List ℕ) → n ≤ len → little_from 0 n (take len (drop at file)) ≡ mask_at n at file
unfolding mask_at
mask_at-range n len at file fits = mask-agrees n (take len (drop at file)) 0 file at (ranged n len at file fits)

-- the numbers that were read into eight places
pub numbers_at-read : (at len : ℕ) (file numbers : List ℕ) → 32 ≤ len → length numbers ≡ 8
    → IsRead (λ n xs. big_from 0 n xs) 4 (take len (drop at file)) numbers → numbers ≡ numbers_at at file
unfolding numbers_at number_at
numbers_at-read at len file numbers fits size read =
    fill_by_all (λ k. number_at 4 (at + 4 * k) file) numbers 8 0 size
    (λ k less. read k (omega arith) ∙ number-agrees 4 (drop (4 * k) (take len (drop at file))) 0 file (at + 4 * k)
    (from_start 4 (drop (4 * k) (take len (drop at file))) file (at + 4 * k) (byte k less)))
  where
    byte : (k : ℕ) → k < 8 → (i : ℕ) → i < 4 → slice_index (drop (4 * k) (take len (drop at file))) i ≡ slice_index file (at + 4 * k + i)
    byte k less i few =
        get_or-drop (4 * k) (take len (drop at file)) i 0
        ∙ get_or-take len (drop at file) (4 * k + i) 0 (omega arith)
        ∙ get_or-drop at file (4 * k + i) 0
        ∙ ap (λ (j : ℕ). slice_index file j) (omega arith)

-- a range of a list, byte by byte
pub bytes_at-range : (n at : ℕ) (file bytes : List ℕ) → length bytes ≡ n → ((k : ℕ) → k < n → slice_index bytes k ≡ slice_index file (at + k))
    → bytes ≡ bytes_at n at file
unfolding bytes_at
bytes_at-range n at file bytes size same = fill_by_all (λ k. slice_index file (at + k)) bytes n 0 size same

-- the points of eight panels, one by one
pub points_read : (wide : Bool) (at : ℕ) (file : List ℕ) (points : List PointSet) → length points ≡ 8
    → ((d : PointSet) (k : ℕ) → k < 8 → get_or points k d ≡ panel_points wide at k file) → points ≡ points_at wide at file
unfolding points_at
points_read wide at file points size each =
    fill_by_all (λ k. panel_points wide at k file) points 8 (record { loops = [] }) size (each (record { loops = [] }))

-- a beginning of a file, with zeros for absent bytes
pub padded : (len : ℕ) (file front : List ℕ) → len ≡ length file → front ≡ take (min len front_bytes) file ++ drop (min len front_bytes) (replicate front_bytes 0)
    → Agrees front_bytes front 0 file 0
padded len file front size e =
    record {
      same =
          λ i less. subst (λ (k : ℕ). slice_index front k ≡ slice_index file k) (sym (zero-add i))
          (ap (λ (xs : List ℕ). slice_index xs i) e ∙ byte i less (leb_tells len i));
    }
  where
    shown : length (take (min len front_bytes) file) ≡ min len front_bytes
    shown = omega (arith, length-take (min len front_bytes) file, size)

    byte : (i : ℕ) → i < front_bytes → ((nat_le len i ≡ true) × (len ≤ i)) ⊎ ((nat_le len i ≡ false) × (i < len))
        → slice_index (take (min len front_bytes) file ++ drop (min len front_bytes) (replicate front_bytes 0)) i ≡ slice_index file i
    byte i less (inr there) =
        get_or_append_left (take (min len front_bytes) file) (drop (min len front_bytes) (replicate front_bytes 0)) 0 i (let h = there.1 in omega (arith, shown, h, less))
        ∙ get_or-take (min len front_bytes) file i 0 (let h = there.1 in omega (arith, h, less))
    byte i less (inl past) =
        get_or-append_right (take (min len front_bytes) file) (drop (min len front_bytes) (replicate front_bytes 0)) (min len front_bytes) i 0 shown (let h = past.1 in
        omega (arith, h, less))
        ∙ get_or-drop (min len front_bytes) (replicate front_bytes 0) (i - min len front_bytes) 0
        ∙ get_or-replicate front_bytes (min len front_bytes + (i - min len front_bytes)) 0 0 (let h = past.1 in omega (arith, h, less))
        ∙ sym (get_or_past file i 0 (let h = past.1 in omega (arith, h, size)))

-- a range of a file, read as a list
pub range_read : (n at : ℕ) (file bytes : List ℕ) → bytes ≡ take n (drop at file) → Agrees n bytes 0 file at
range_read n at file bytes e = subst (λ (xs : List ℕ). Agrees n xs 0 file at) (sym e) (ranged n n at file (omega arith))
