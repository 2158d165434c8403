-- A frame that is read is in the grammar.
use Rattle.std.proofs.Common.{◌≡◌, ◌+◌, ◌*◌, ◌<◌, ◌≤◌, ◌/◌, ◌%◌, ◌^◌, ◌++◌, ◌∙◌, ℕ, zero, suc, List, [], ◌∷◌, length, slice_index, take, drop, refl, sym, ap, subst, arith}
use Rattle.std.specs.Prelude.{bit_and, Ok, slice_index_or}
use Rattle.std.specs.Int.{w32, w64, to_be_bytes, from_be_bytes}
use Rattle.std.proofs.lemmas.Bool.{ltb-false}
use Rattle.std.proofs.lemmas.Nat.{and_shr, and_mod, and_le_l, from_be_bytes-to_be_bytes_4, from_be_bytes-to_be_bytes_8}
use Rattle.site_types.specs.declared.site.Site.{Site}
use Rattle.site_types.specs.declared.word.Word.{Word}
use Rattle.site_types.specs.Words.{empty_word}
use Rattle.panel_links.specs.declared.frame.Frame.{Frame}
use Rattle.panel_frames.specs.Bytes.{frame_in, word_bytes, word_spelled}
use Rattle.panel_frames.specs.Grammar.{IsFrame, IsWord, fullest_at, last_group}
use Rattle.panel_frames.specs.Refusals.{frame_read}
use Rattle.panel_frames.proofs.Fitting.{AllFit, IsWithin, behind_alarm, behind_manual, behind_released, behind_stamp, flag_list}
use Rattle.panel_frames.proofs.MostWords.{is_word}
use Rattle.panel_frames.proofs.Taken.{IsTaken, AllWordsFit, taken, word_again, words_fit}
use Rattle.panel_frames.proofs.WordBytes.{AreOctets, FitsWidths, octets_before, octets_behind}

-- two lists that fit two others, one behind the other
apart : (a b xs ys : List ℕ) → length a ≡ length b → AllFit (a ++ xs) (b ++ ys) → AllFit a b × AllFit xs ys
apart [] [] xs ys same fit = (tt, fit)
apart [] (m ∷ b) xs ys same fit = absurd (omega (arith, same))
apart (x ∷ a) [] xs ys same fit = absurd (omega (arith, same))
apart (x ∷ a) (m ∷ b) xs ys same fit = let rest = apart a b xs ys (omega (arith, same)) fit.1 in ((fit.0, rest.0), rest.1)

byte_whole : (k a b : ℕ) → bit_and (a / 2 ^ k % 2 ^ 8) (b / 2 ^ k % 2 ^ 8) ≡ a / 2 ^ k % 2 ^ 8 → bit_and a b / 2 ^ k % 2 ^ 8 ≡ a / 2 ^ k % 2 ^ 8
byte_whole k a b fit = ap (λ n. n % 2 ^ 8) (and_shr a b k) ∙ and_mod (a / 2 ^ k) (b / 2 ^ k) 8 ∙ fit

low_whole : (a b : ℕ) → bit_and (a % 2 ^ 8) (b % 2 ^ 8) ≡ a % 2 ^ 8 → bit_and a b % 2 ^ 8 ≡ a % 2 ^ 8
low_whole a b fit = and_mod a b 8 ∙ fit

four_same : {p q r s p' q' r' s' : ℕ} → p ≡ p' → q ≡ q' → r ≡ r' → s ≡ s' → p ∷ q ∷ r ∷ s ∷ [] ≡ p' ∷ q' ∷ r' ∷ s' ∷ []
four_same one two three four = rw (one, two, three, four) refl

eight_same : {p q r s t u v w p' q' r' s' t' u' v' w' : ℕ} → p ≡ p' → q ≡ q' → r ≡ r' → s ≡ s' → t ≡ t' → u ≡ u' → v ≡ v' → w ≡ w'
    → p ∷ q ∷ r ∷ s ∷ t ∷ u ∷ v ∷ w ∷ [] ≡ p' ∷ q' ∷ r' ∷ s' ∷ t' ∷ u' ∷ v' ∷ w' ∷ []
eight_same one two three four five six seven eight = rw (one, two, three, four, five, six, seven, eight) refl

four_whole : (a b : ℕ) → a < 2 ^ 32 → AllFit (to_be_bytes w32 a) (to_be_bytes w32 b) → bit_and a b ≡ a
four_whole a b less fit =
    let below = and_le_l a b in
    let same : to_be_bytes w32 (bit_and a b) ≡ to_be_bytes w32 a =
    four_same (byte_whole 24 a b fit.0) (byte_whole 16 a b fit.1.0) (byte_whole 8 a b fit.1.1.0) (low_whole a b fit.1.1.1.0) in
    sym (from_be_bytes-to_be_bytes_4 (bit_and a b) (omega (arith, below, less))) ∙ ap (from_be_bytes w32) same ∙ from_be_bytes-to_be_bytes_4 a less

eight_whole : (a b : ℕ) → a < 2 ^ 64 → AllFit (to_be_bytes w64 a) (to_be_bytes w64 b) → bit_and a b ≡ a
eight_whole a b less fit =
    let below = and_le_l a b in
    let same : to_be_bytes w64 (bit_and a b) ≡ to_be_bytes w64 a =
    eight_same (byte_whole 56 a b fit.0) (byte_whole 48 a b fit.1.0) (byte_whole 40 a b fit.1.1.0) (byte_whole 32 a b fit.1.1.1.0)
    (byte_whole 24 a b fit.1.1.1.1.0) (byte_whole 16 a b fit.1.1.1.1.1.0) (byte_whole 8 a b fit.1.1.1.1.1.1.0) (low_whole a b fit.1.1.1.1.1.1.1.0) in
    sym (from_be_bytes-to_be_bytes_8 (bit_and a b) (omega (arith, below, less))) ∙ ap (from_be_bytes w64) same ∙ from_be_bytes-to_be_bytes_8 a less

within_word : (w m : Word) → FitsWidths w → AllFit (word_bytes w) (word_bytes m) → IsWithin w m
unfolding word_bytes
within_word w m fits fit =
    let one = apart (to_be_bytes w64 w.stamp.0) (to_be_bytes w64 m.stamp.0) (behind_stamp w) (behind_stamp m) refl fit in
    let two = apart (to_be_bytes w32 w.alarm) (to_be_bytes w32 m.alarm) (behind_alarm w) (behind_alarm m) refl one.1 in
    let three = apart (to_be_bytes w32 w.manual) (to_be_bytes w32 m.manual) (behind_manual w) (behind_manual m) refl two.1 in
    let four = apart (to_be_bytes w32 w.released) (to_be_bytes w32 m.released) (behind_released w) (behind_released m) refl three.1 in
    let five = apart (to_be_bytes w32 w.first) (to_be_bytes w32 m.first) (flag_list w) (flag_list m) refl four.1 in
    record {
      stamp = eight_whole w.stamp.0 m.stamp.0 fits.stamp one.0;
      alarm = four_whole w.alarm m.alarm fits.alarm two.0;
      manual = four_whole w.manual m.manual fits.manual three.0;
      released = four_whole w.released m.released fits.released four.0;
      first = four_whole w.first m.first fits.first five.0;
      fault = five.1.0;
    }

four_below : (xs : List ℕ) → ((k : ℕ) → slice_index xs k < 256) → from_be_bytes w32 xs < 2 ^ 32
four_below xs are = let a = are 0 in let b = are 1 in let c = are 2 in let d = are 3 in omega (arith, a, b, c, d)

eight_below : (xs : List ℕ) → ((k : ℕ) → slice_index xs k < 256) → from_be_bytes w64 xs < 2 ^ 64
eight_below xs are =
    let a = are 0 in let b = are 1 in let c = are 2 in let d = are 3 in let e = are 4 in let f = are 5 in let g = are 6 in let h = are 7 in
    omega (arith, a, b, c, d, e, f, g, h)

word_fits : (bytes : List ℕ) → AreOctets bytes → FitsWidths (word_spelled bytes)
unfolding word_spelled
word_fits bytes are = record {
  stamp = eight_below (take 8 bytes) (octets_before 8 bytes are);
  alarm = four_below (take 4 (drop 8 bytes)) (octets_before 4 (drop 8 bytes) (octets_behind 8 bytes are));
  manual = four_below (take 4 (drop 12 bytes)) (octets_before 4 (drop 12 bytes) (octets_behind 12 bytes are));
  released = four_below (take 4 (drop 16 bytes)) (octets_before 4 (drop 16 bytes) (octets_behind 16 bytes are));
  first = four_below (take 4 (drop 20 bytes)) (octets_before 4 (drop 20 bytes) (octets_behind 20 bytes are));
}

word_is : (site : Site) (bytes : List ℕ) (at place : ℕ) → AreOctets bytes → at + 25 ≤ length bytes
    → word_spelled (drop at bytes) ≡ slice_index_or (frame_in bytes).words place empty_word
    → AllFit (take 25 (drop at bytes)) (word_bytes (fullest_at site (frame_in bytes) place))
    → IsWord site (4 * (frame_in bytes).group + 1 + place) (slice_index_or (frame_in bytes).words place empty_word)
word_is site bytes at place are long same fit =
    let most = fullest_at site (frame_in bytes) place in
    let word = word_spelled (drop at bytes) in
    let again = word_again bytes at most are long fit in
    let fits = word_fits (drop at bytes) (octets_behind at bytes are) in
    let within = within_word word most fits (subst (λ (xs : List ℕ). AllFit xs (word_bytes most)) (sym again) fit) in
    is_word site (4 * (frame_in bytes).group + 1 + place) (slice_index_or (frame_in bytes).words place empty_word)
    (subst (λ (w : Word). FitsWidths w) same fits) (subst (λ (w : Word). IsWithin w most) same within)

frame_is : (site : Site) (digest : List ℕ) (at : ℕ) (bytes : List ℕ) → AreOctets bytes → IsTaken site digest at bytes → IsFrame site at (frame_in bytes)
frame_is site digest at bytes are is = record {
  neighbour = is.neighbour;
  group = ltb-false (last_group site.panels) (slice_index bytes 35) is.group;
  four = refl;
  words = λ place less. each place less;
}
  where
    fit : AllWordsFit site bytes
    fit = words_fit site digest at bytes is

    each : (place : ℕ) → place < 4 → IsWord site (4 * (frame_in bytes).group + 1 + place) (slice_index_or (frame_in bytes).words place empty_word)
    each zero less = word_is site bytes 36 0 are (let s = is.size in omega (arith, s)) refl fit.at_0
    each (suc zero) less = word_is site bytes 61 1 are (let s = is.size in omega (arith, s)) refl fit.at_1
    each (suc (suc zero)) less = word_is site bytes 86 2 are (let s = is.size in omega (arith, s)) refl fit.at_2
    each (suc (suc (suc zero))) less = word_is site bytes 111 3 are (let s = is.size in omega (arith, s)) refl fit.at_3
    each (suc (suc (suc (suc place)))) less = absurd (omega (arith, less))

pub read_frame_is : (site : Site) (digest : List ℕ) (at : ℕ) (bytes : List ℕ) (frame : Frame) → AreOctets bytes
    → frame_read site digest at bytes ≡ Ok frame → IsFrame site at frame
read_frame_is site digest at bytes frame are ok =
    let both = taken site digest at bytes frame ok in
    subst (λ (f : Frame). IsFrame site at f) (sym both.1) (frame_is site digest at bytes are both.0)
