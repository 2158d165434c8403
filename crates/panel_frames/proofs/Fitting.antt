-- Bytes that have no bits but those of other bytes, place by place.
use Rattle.std.proofs.Common.{◌≡◌, ◌<◌, ◌/◌, ◌%◌, ◌^◌, ◌++◌, ◌∙◌, ℕ, zero, suc, List, [], ◌∷◌, length, slice_index, take, drop, refl, sym, ap, arith, if◌then◌else◌}
use Rattle.std.specs.Prelude.{None, bit_and}
use Rattle.std.specs.Int.{w32, w64, to_be_bytes}
use Rattle.std.proofs.lemmas.Nat.{and_shr, and_mod}
use Rattle.site_types.specs.declared.word.Word.{Word}
use Rattle.panel_frames.specs.Bytes.{word_bytes}
use Rattle.panel_frames.specs.Refusals.{first_beyond}
use Rattle.panel_frames.proofs.Beyond.{fits_there, none_found}

abbrev pub AllFit : List ℕ → List ℕ → Type 0
AllFit [] most = Unit {0}
AllFit (x ∷ xs) [] = ⊥
AllFit (x ∷ xs) (m ∷ most) = (bit_and x m ≡ x) × AllFit xs most

pub fit_together : (a b xs ys : List ℕ) → length a ≡ length b → AllFit a b → AllFit xs ys → AllFit (a ++ xs) (b ++ ys)
fit_together [] [] xs ys same front behind = behind
fit_together [] (y ∷ b) xs ys same front behind = absurd (omega (arith, same))
fit_together (x ∷ a) [] xs ys same front behind = absurd front
fit_together (x ∷ a) (y ∷ b) xs ys same front behind = (front.0, fit_together a b xs ys (omega (arith, same)) front.1 behind)

pub fit_front : (xs a b : List ℕ) → AllFit xs (a ++ b) → AllFit (take (length a) xs) a
fit_front xs [] b fit = tt
fit_front [] (m ∷ a) b fit = tt
fit_front (x ∷ xs) (m ∷ a) b fit = (fit.0, fit_front xs a b fit.1)

pub fit_behind : (xs a b : List ℕ) → AllFit xs (a ++ b) → AllFit (drop (length a) xs) b
fit_behind xs [] b fit = fit
fit_behind [] (m ∷ a) b fit = tt
fit_behind (x ∷ xs) (m ∷ a) b fit = fit_behind xs a b fit.1

pub fit_place : (xs ys : List ℕ) → AllFit xs ys → (k : ℕ) → k < length xs → bit_and (slice_index xs k) (slice_index ys k) ≡ slice_index xs k
fit_place [] ys fit k less = absurd (omega (arith, less))
fit_place (x ∷ xs) [] fit k less = absurd fit
fit_place (x ∷ xs) (y ∷ ys) fit zero less = fit.0
fit_place (x ∷ xs) (y ∷ ys) fit (suc k) less = fit_place xs ys fit.1 k (omega (arith, less))

pub fit_each : (xs ys : List ℕ) → length xs ≡ length ys → ((k : ℕ) → k < length xs → bit_and (slice_index xs k) (slice_index ys k) ≡ slice_index xs k)
    → AllFit xs ys
fit_each [] ys same each = tt
fit_each (x ∷ xs) [] same each = absurd (omega (arith, same))
fit_each (x ∷ xs) (y ∷ ys) same each =
    (each 0 (omega arith), fit_each xs ys (omega (arith, same)) (λ k less. each (suc k) (omega (arith, less))))

-- nothing goes beyond, and the other way round
pub fit_none : (xs ys : List ℕ) → length xs ≡ length ys → AllFit xs ys → first_beyond xs ys ≡ None
fit_none xs ys same fit = sym (none_found xs ys (length xs) same (omega arith) (λ k less. fits_there _ _ (fit_place xs ys fit k less)))

-- one byte of a number
pub byte_fit : (k a b : ℕ) → bit_and a b ≡ a → bit_and (a / 2 ^ k % 2 ^ 8) (b / 2 ^ k % 2 ^ 8) ≡ a / 2 ^ k % 2 ^ 8
byte_fit k a b fit = sym (and_mod (a / 2 ^ k) (b / 2 ^ k) 8) ∙ ap (λ n. n % 2 ^ 8) (sym (and_shr a b k) ∙ ap (λ n. n / 2 ^ k) fit)

pub low_fit : (a b : ℕ) → bit_and a b ≡ a → bit_and (a % 2 ^ 8) (b % 2 ^ 8) ≡ a % 2 ^ 8
low_fit a b fit = sym (and_mod a b 8) ∙ ap (λ n. n % 2 ^ 8) fit

-- a word has no bits but those of another
pub record IsWithin (word most : Word) : Type 0 where
  pub stamp : bit_and word.stamp.0 most.stamp.0 ≡ word.stamp.0
  pub alarm : bit_and word.alarm most.alarm ≡ word.alarm
  pub manual : bit_and word.manual most.manual ≡ word.manual
  pub released : bit_and word.released most.released ≡ word.released
  pub first : bit_and word.first most.first ≡ word.first
  pub fault : bit_and (if word.fault then 1 else 0) (if most.fault then 1 else 0) ≡ (if word.fault then 1 else 0)

four_fit : (a b : ℕ) → bit_and a b ≡ a → AllFit (to_be_bytes w32 a) (to_be_bytes w32 b)
four_fit a b fit = (byte_fit 24 a b fit, (byte_fit 16 a b fit, (byte_fit 8 a b fit, (low_fit a b fit, tt))))

eight_fit : (a b : ℕ) → bit_and a b ≡ a → AllFit (to_be_bytes w64 a) (to_be_bytes w64 b)
eight_fit a b fit = (
  byte_fit 56 a b fit,
  (
    byte_fit 48 a b fit,
    (
      byte_fit 40 a b fit,
      (
        byte_fit 32 a b fit,
        (
          byte_fit 24 a b fit,
          (
            byte_fit 16 a b fit,
            (byte_fit 8 a b fit, (low_fit a b fit, tt)),
          ),
        ),
      ),
    ),
  ),
)

flag_fit : (a b : ℕ) → bit_and a b ≡ a → AllFit (a ∷ []) (b ∷ [])
flag_fit a b fit = (fit, tt)

-- what stands behind each number of a word
abbrev pub flag_list : Word → List ℕ
flag_list w = (if w.fault then 1 else 0) ∷ []

abbrev pub behind_released : Word → List ℕ
behind_released w = to_be_bytes w32 w.first ++ flag_list w

abbrev pub behind_manual : Word → List ℕ
behind_manual w = to_be_bytes w32 w.released ++ behind_released w

abbrev pub behind_alarm : Word → List ℕ
behind_alarm w = to_be_bytes w32 w.manual ++ behind_manual w

abbrev pub behind_stamp : Word → List ℕ
behind_stamp w = to_be_bytes w32 w.alarm ++ behind_alarm w

pub word_fit : (word most : Word) → IsWithin word most → AllFit (word_bytes word) (word_bytes most)
unfolding word_bytes
word_fit w m within =
    let flag = flag_fit (if w.fault then 1 else 0) (if m.fault then 1 else 0) within.fault in
    fit_together (to_be_bytes w64 w.stamp.0) (to_be_bytes w64 m.stamp.0) (behind_stamp w) (behind_stamp m) refl (eight_fit w.stamp.0 m.stamp.0 within.stamp)
    (fit_together (to_be_bytes w32 w.alarm) (to_be_bytes w32 m.alarm) (behind_alarm w) (behind_alarm m) refl (four_fit w.alarm m.alarm within.alarm)
    (fit_together (to_be_bytes w32 w.manual) (to_be_bytes w32 m.manual) (behind_manual w) (behind_manual m) refl (four_fit w.manual m.manual within.manual)
    (fit_together (to_be_bytes w32 w.released) (to_be_bytes w32 m.released) (behind_released w) (behind_released m) refl (four_fit w.released m.released within.released)
    (fit_together (to_be_bytes w32 w.first) (to_be_bytes w32 m.first) (flag_list w) (flag_list m) refl (four_fit w.first m.first within.first)
    flag))))
