-- Bytes and numbers at places of a file. Where the file has no byte it is read as 0.
use Rattle.std.specs.Prelude.{◌≡◌, ℕ, zero, suc, ◌+◌, ◌*◌, ◌<◌, ◌&&◌, nat_le, Bool, List, map, slice_index, Option}
use Rattle.std.specs.Prelude.{Some, None, if◌then◌else◌}
use Rattle.std.specs.List.{range_with_len}
use Rattle.byteorder.specs.Endian.{big_from, little_from}

-- each is a byte
abbrev pub AreBytes : List ℕ → Type 0
AreBytes file = (place : ℕ) → slice_index file place < 256

-- n bytes of one file, from a place on, are those of another, from a place in that on
pub record Agrees (n : ℕ) (file : List ℕ) (at : ℕ) (other : List ℕ) (from : ℕ) : Type 0 where
  pub same : (i : ℕ) → i < n → slice_index file (at + i) ≡ slice_index other (from + i)

-- n bytes from a place on
unfoldable pub bytes_at : ℕ → ℕ → List ℕ → List ℕ
bytes_at n at file = map (λ k. slice_index file (at + k)) (range_with_len 0 n)

-- the number in n bytes from a place on, the greatest byte first
unfoldable pub number_at : ℕ → ℕ → List ℕ → ℕ
number_at n at file = big_from at n file

-- the mask in n bytes from a place on, the byte of the least bits first
unfoldable pub mask_at : ℕ → ℕ → List ℕ → ℕ
mask_at n at file = little_from at n file

-- eight numbers of four bytes each from a place on, one for each panel
unfoldable pub numbers_at : ℕ → List ℕ → List ℕ
numbers_at at file = map (λ panel. number_at 4 (at + 4 * panel) file) (range_with_len 0 8)

-- a byte from one bound to another
abbrev pub is_within : ℕ → ℕ → ℕ → Bool
is_within least most byte = nat_le least byte && nat_le byte most

-- the first of two that there is
abbrev pub or_else : Option ℕ → Option ℕ → Option ℕ
or_else None second = second
or_else (Some first) second = Some first

-- what is found first at the places below n
unfoldable pub first_in : (ℕ → Option ℕ) → ℕ → Option ℕ
first_in find zero = None
first_in find (suc n) = or_else (first_in find n) (find n)

-- how many of n tests, from one on, hold before the first that doesn't
unfoldable pub run_length : (ℕ → Bool) → ℕ → ℕ → ℕ
run_length test from zero = 0
run_length test from (suc n) = if test from then suc (run_length test (suc from) n) else zero
