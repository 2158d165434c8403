-- The first byte of some with a bit that the one of its place in others hasn't.
use Rattle.std.proofs.Common.{◌≡◌, ◌≢◌, ◌<◌, ◌≤◌, ◌∙◌, ℕ, true, false, List, length, slice_index, get_or, refl, ap, arith, nat_lt, Bool, sym, if◌then◌else◌}
use Rattle.std.specs.Prelude.{Some, None, bit_and, zip}
use Rattle.std.specs.List.{position_or_len}
use Rattle.std.proofs.lemmas.List.Sums.{position_or_len_is, fails_before_first}
use Rattle.std.proofs.lemmas.Slice.Zip.{get_or-zip, length-zip}
use Rattle.std.proofs.lemmas.Bool.{lt-ltb, le-ltb, ltb-false}
use Rattle.std.proofs.lemmas.Bool.Decides.{nat_tests}
use Rattle.panel_frames.specs.Refusals.{first_beyond, goes_beyond}

pub goes_there : (byte most : ℕ) → bit_and byte most ≢ byte → goes_beyond (byte, most) ≡ true
goes_there byte most apart = grind (arith, nat_tests)

-- nothing goes beyond below a place
abbrev pub FitsBelow : ℕ → List ℕ → List ℕ → Type 0
FitsBelow i bytes most = (k : ℕ) → k < i → goes_beyond (slice_index bytes k, slice_index most k) ≡ false

zip_size : (bytes most : List ℕ) → length bytes ≡ length most → length (zip bytes most) ≡ length bytes
zip_size bytes most same = let e = length-zip bytes most in omega (arith, e, same)

pair_at : (bytes most : List ℕ) (k : ℕ) → length bytes ≡ length most → k < length bytes
    → goes_beyond (get_or (zip bytes most) k (0, 0)) ≡ goes_beyond (slice_index bytes k, slice_index most k)
pair_at bytes most k same less = ap goes_beyond (get_or-zip bytes most k (0, 0) less (omega (arith, same, less)))

first_place : (bytes most : List ℕ) (i : ℕ) → length bytes ≡ length most → i ≤ length bytes → FitsBelow i bytes most
    → (i < length bytes → goes_beyond (slice_index bytes i, slice_index most i) ≡ true) → position_or_len goes_beyond (zip bytes most) ≡ i
first_place bytes most i same le before here =
    let size = zip_size bytes most same in
    position_or_len_is goes_beyond (zip bytes most) i (0, 0) (omega (arith, size, le))
    (λ k less. pair_at bytes most k same (omega (arith, less, le)) ∙ before k less)
    (λ less. let within : i < length bytes = omega (arith, less, size) in pair_at bytes most i same within ∙ here within)

pub first_found : (bytes most : List ℕ) (i : ℕ) → length bytes ≡ length most → i < length bytes → FitsBelow i bytes most
    → goes_beyond (slice_index bytes i, slice_index most i) ≡ true → Some i ≡ first_beyond bytes most
first_found bytes most i same less before here =
    let at = first_place bytes most i same (omega (arith, less)) before (λ l. here) in
    let size = zip_size bytes most same in
    let yes : nat_lt i (length (zip bytes most)) ≡ true = lt-ltb i (length (zip bytes most)) (omega (arith, size, less)) in
    rw (at, yes) refl

pub none_found : (bytes most : List ℕ) (i : ℕ) → length bytes ≡ length most → length bytes ≤ i → FitsBelow i bytes most → None ≡ first_beyond bytes most
none_found bytes most i same past before =
    let size = zip_size bytes most same in
    let at = first_place bytes most (length bytes) same (omega arith) (λ k less. before k (omega (arith, less, past))) (λ less. absurd (omega (arith, less))) in
    let no : nat_lt (length bytes) (length (zip bytes most)) ≡ false = le-ltb (length bytes) (length (zip bytes most)) (omega (arith, size)) in
    rw (at, no) refl

pub fits_there : (byte most : ℕ) → bit_and byte most ≡ byte → goes_beyond (byte, most) ≡ false
fits_there byte most same = grind (arith, nat_tests)

pub stays_there : (byte most : ℕ) → goes_beyond (byte, most) ≡ false → bit_and byte most ≡ byte
stays_there byte most within = grind (arith, nat_tests)

none_here : (b : Bool) (x : ℕ) → (if b then Some x else None) ≡ None → b ≡ false
none_here true x e = absurd (cc)
none_here false x e = refl

-- where nothing goes beyond at any place
pub none_beyond : (bytes most : List ℕ) → length bytes ≡ length most → first_beyond bytes most ≡ None → FitsBelow (length bytes) bytes most
none_beyond bytes most same none k less =
    let pairs = zip bytes most in
    let size = zip_size bytes most same in
    let past : length pairs ≤ position_or_len goes_beyond pairs =
    ltb-false (position_or_len goes_beyond pairs) (length pairs) (none_here (nat_lt (position_or_len goes_beyond pairs) (length pairs)) (position_or_len goes_beyond pairs) none) in
    sym (pair_at bytes most k same less) ∙ fails_before_first goes_beyond pairs k (0, 0) (omega (arith, past, size, less))
