-- The bytes of a word and the word that they spell.
use Rattle.std.proofs.Common.{◌≡◌, ◌+◌, ◌<◌, ◌≤◌, ◌^◌, ◌++◌, ◌∙◌, ℕ, zero, suc, zero-add, suc-add, Bool}
use Rattle.std.proofs.Common.{true, false, List, [], ◌∷◌, length, slice_index, take, drop, refl, sym, ap, arith, if◌then◌else◌}
use Rattle.std.specs.Prelude.{◌==◌}
use Rattle.std.specs.Int.{w32, w64, to_be_bytes, from_be_bytes}
use Rattle.std.proofs.lemmas.List.{length-take-le, length-drop, get_or-drop, drop-drop, drop_more}
use Rattle.std.proofs.lemmas.Nat.{be_bytes_4, be_bytes_8, from_be_bytes-to_be_bytes_4, from_be_bytes-to_be_bytes_8}
use Rattle.site_types.specs.declared.word.Word.{Word}
use Rattle.panel_frames.specs.Bytes.{word_bytes, word_spelled}

abbrev pub AreOctets : List ℕ → Type 0
AreOctets bytes = (k : ℕ) → slice_index bytes k < 256

pub octets_behind : (n : ℕ) (bytes : List ℕ) → AreOctets bytes → AreOctets (drop n bytes)
octets_behind n bytes are k = rw (get_or-drop n bytes k 0) (are (n + k))

pub octets_before : (n : ℕ) (bytes : List ℕ) → AreOctets bytes → (k : ℕ) → slice_index (take n bytes) k < 256
octets_before zero bytes are k = omega arith
octets_before (suc n) [] are k = omega arith
octets_before (suc n) (b ∷ bytes) are zero = are 0
octets_before (suc n) (b ∷ bytes) are (suc k) = octets_before n bytes (λ j. are (suc j)) k

-- a list in two parts
take_none : (n : ℕ) → take {A = ℕ} n [] ≡ []
take_none zero = refl
take_none (suc n) = refl

pub parted : (m n : ℕ) (xs : List ℕ) → take (m + n) xs ≡ take m xs ++ take n (drop m xs)
parted zero n xs = ap (λ (k : ℕ). take k xs) (zero-add n)
parted (suc m) n [] = take_none (suc m + n) ∙ sym (take_none n)
parted (suc m) n (x ∷ xs) = ap (λ (k : ℕ). take k (x ∷ xs)) (suc-add m n) ∙ ap (λ (ys : List ℕ). x ∷ ys) (parted m n xs)

four_more : (n m : ℕ) (xs : List ℕ) → take (4 + m) (drop n xs) ≡ take 4 (drop n xs) ++ take m (drop (n + 4) xs)
four_more n m xs = parted 4 m (drop n xs) ∙ ap (λ (ys : List ℕ). take 4 (drop n xs) ++ take m ys) (drop-drop 4 n xs)

in_six : (xs : List ℕ) → take 25 xs
    ≡ take 8 xs ++ (take 4 (drop 8 xs) ++ (take 4 (drop 12 xs) ++ (take 4 (drop 16 xs) ++ (take 4 (drop 20 xs) ++ take 1 (drop 24 xs)))))
in_six xs =
    parted 8 17 xs
    ∙ ap (λ (ys : List ℕ). take 8 xs ++ ys) (four_more 8 13 xs
    ∙ ap (λ (ys : List ℕ). take 4 (drop 8 xs) ++ ys) (four_more 12 9 xs
    ∙ ap (λ (ys : List ℕ). take 4 (drop 12 xs) ++ ys) (four_more 16 5 xs
    ∙ ap (λ (ys : List ℕ). take 4 (drop 16 xs) ++ ys) (four_more 20 1 xs))))

six_same : (a b c d e f a' b' c' d' e' f' : List ℕ) → a ≡ a' → b ≡ b' → c ≡ c' → d ≡ d' → e ≡ e' → f ≡ f'
    → a ++ (b ++ (c ++ (d ++ (e ++ f)))) ≡ a' ++ (b' ++ (c' ++ (d' ++ (e' ++ f'))))
six_same a b c d e f a' b' c' d' e' f' one two three four five six = rw (one, two, three, four, five, six) refl

fault_back : (b : ℕ) → b ≤ 1 → (if b == 1 then 1 else 0) ≡ b
fault_back zero few = refl
fault_back (suc zero) few = refl
fault_back (suc (suc b)) few = absurd (omega (arith, few))

four_back : (n : ℕ) (bytes : List ℕ) → AreOctets bytes → n + 4 ≤ length bytes
    → to_be_bytes w32 (from_be_bytes w32 (take 4 (drop n bytes))) ≡ take 4 (drop n bytes)
four_back n bytes are long =
    be_bytes_4 (take 4 (drop n bytes)) _ (length-take-le 4 (drop n bytes) (omega (arith, long, length-drop n bytes)))
    (octets_before 4 (drop n bytes) (octets_behind n bytes are)) refl

eight_back : (bytes : List ℕ) → AreOctets bytes → 8 ≤ length bytes → to_be_bytes w64 (from_be_bytes w64 (take 8 bytes)) ≡ take 8 bytes
eight_back bytes are long = be_bytes_8 (take 8 bytes) _ (length-take-le 8 bytes long) (octets_before 8 bytes are) refl

last_byte : (bytes : List ℕ) → 25 ≤ length bytes → slice_index bytes 24 ∷ [] ≡ take 1 (drop 24 bytes)
last_byte bytes long = sym (ap (take 1) (drop_more bytes 24 0 (omega (arith, long))))

pub printed_back : (bytes : List ℕ) → AreOctets bytes → 25 ≤ length bytes → slice_index bytes 24 ≤ 1 → word_bytes (word_spelled bytes) ≡ take 25 bytes
unfolding word_bytes word_spelled
printed_back bytes are long few =
    six_same _ _ _ _ _ _ _ _ _ _ _ _ (eight_back bytes are (omega (arith, long))) (four_back 8 bytes are (omega (arith, long)))
    (four_back 12 bytes are (omega (arith, long))) (four_back 16 bytes are (omega (arith, long))) (four_back 20 bytes are (omega (arith, long)))
    (ap (λ (b : ℕ). b ∷ []) (fault_back (slice_index bytes 24) few) ∙ last_byte bytes long)
    ∙ sym (in_six bytes)

-- the numbers of a word fit their widths
pub record FitsWidths (word : Word) : Type 0 where
  pub stamp : word.stamp.0 < 2 ^ 64
  pub alarm : word.alarm < 2 ^ 32
  pub manual : word.manual < 2 ^ 32
  pub released : word.released < 2 ^ 32
  pub first : word.first < 2 ^ 32

flag_back : (b : Bool) → ((if b then 1 else 0) == 1) ≡ b
flag_back true = refl
flag_back false = refl

pub read_back : (word : Word) (rest : List ℕ) → FitsWidths word → word_spelled (word_bytes word ++ rest) ≡ word
unfolding word_bytes word_spelled
read_back word rest fits =
    let stamp = from_be_bytes-to_be_bytes_8 word.stamp.0 fits.stamp in
    let alarm = from_be_bytes-to_be_bytes_4 word.alarm fits.alarm in
    let manual = from_be_bytes-to_be_bytes_4 word.manual fits.manual in
    let released = from_be_bytes-to_be_bytes_4 word.released fits.released in
    let first = from_be_bytes-to_be_bytes_4 word.first fits.first in
    let fault = flag_back word.fault in
    rw (stamp, alarm, manual, released, first, fault) refl
