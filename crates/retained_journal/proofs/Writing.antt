-- What is read back of written numbers.
use Rattle.std.proofs.Common.{◌≡◌, ◌+◌, ◌*◌, ◌^◌, ◌<◌, ℕ, zero, suc, List, [], ◌∷◌, ◌++◌, slice_index, length, sym, ap, ◌∙◌, subst, arith}
use Rattle.std.specs.Prelude.{flat_map}
use Rattle.std.specs.Int.{bytes_high_first, bytes_low_first}
use Rattle.std.proofs.lemmas.List.{get_or-append-add}
use Rattle.std.proofs.lemmas.List.FromFn.{fill_by_all}
use Rattle.byteorder.specs.Numbers.{big_number-reads_back, length-bytes_high_first, little_number-reads_back}
use Rattle.retained_journal.specs.Fields.{mask_at, number_at, numbers_at}
use Rattle.retained_journal.proofs.Agreement.{number-agrees}

pub mask_back : (mask : ℕ) (rest : List ℕ) → mask < 2 ^ 96 → mask_at 12 0 (bytes_low_first 0 12 mask ++ rest) ≡ mask
unfolding mask_at
mask_back mask rest fits = little_number-reads_back 12 mask rest fits

-- the numbers of four bytes that were written one after the other, each below 2^32
big-written : (numbers : List ℕ) (k : ℕ) → k < length numbers → slice_index numbers k < 2 ^ 32
    → number_at 4 (4 * k) (flat_map (bytes_high_first 4) numbers) ≡ slice_index numbers k
unfolding number_at
big-written [] k less fits = absurd (omega (arith, less))
big-written (x ∷ rest) zero less fits = big_number-reads_back 4 x (flat_map (bytes_high_first 4) rest) fits
big-written (x ∷ rest) (suc k) less fits =
    number-agrees 4 (bytes_high_first 4 x ++ flat_map (bytes_high_first 4) rest) (4 * suc k) (flat_map (bytes_high_first 4) rest) (4 * k)
    (record {
      same =
          λ i few. ap (slice_index (bytes_high_first 4 x ++ flat_map (bytes_high_first 4) rest)) (place i) ∙ get_or-append-add (bytes_high_first 4 x)
          (flat_map (bytes_high_first 4) rest) (4 * k + i) 0;
    })
    ∙ big-written rest k (omega (arith, less)) fits
  where
    place : (i : ℕ) → 4 * suc k + i ≡ length (bytes_high_first 4 x) + (4 * k + i)
    place i = omega (arith, length-bytes_high_first 4 x)

pub numbers_back : (numbers : List ℕ) → length numbers ≡ 8 → ((k : ℕ) → k < 8 → slice_index numbers k < 2 ^ 32)
    → numbers_at 0 (flat_map (bytes_high_first 4) numbers) ≡ numbers
unfolding numbers_at
numbers_back numbers size fits =
    sym (fill_by_all (λ k. number_at 4 (0 + 4 * k) (flat_map (bytes_high_first 4) numbers)) numbers 8 0 size
    (λ k less.
    sym (subst (λ (at : ℕ). number_at 4 at (flat_map (bytes_high_first 4) numbers) ≡ slice_index numbers k) (omega arith)
    (big-written numbers k (omega (arith, size, less)) (fits k less)))))

pub number_back : (n : ℕ) (rest : List ℕ) → n < 2 ^ 64 → number_at 8 0 (bytes_high_first 8 n ++ rest) ≡ n
unfolding number_at
number_back n rest fits = big_number-reads_back 8 n rest fits

pub short_back : (n : ℕ) (rest : List ℕ) → n < 2 ^ 32 → number_at 4 0 (bytes_high_first 4 n ++ rest) ≡ n
unfolding number_at
short_back n rest fits = big_number-reads_back 4 n rest fits
