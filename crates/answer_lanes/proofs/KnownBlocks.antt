-- Known blocks of a set: which words stay right, and whose places are whose.
use Rattle.std.proofs.Common.{◌≡◌, ◌≢◌, ◌⊎◌, ⊎_elim, ◌++◌, ℕ, zero, suc, inl, inr, length-set, ◌+◌, ◌*◌, ◌/◌, ◌%◌, ◌<◌, ◌≤◌, Bool, List, [], ◌∷◌, length}
use Rattle.std.proofs.Common.{Some, slice_get, slice_index, slice_index_or, set, refl, sym, ◌∙◌, ap, subst, arith}
use Rattle.std.proofs.lemmas.Option.{get_or_from_slice_get, slice_get_within}
use Rattle.coincidence_rules.proofs.Lists.{get_set}
use Rattle.site_types.specs.Bits.{has_bit}
use Rattle.site_types.proofs.Masks.{has_bit-zero}
use Rattle.answer_lanes.specs.Known.{ForgetsWords, HasFirstsOf, HaveNumbers, KeepWords, TakesPlaces, in_none, place_in}
use Rattle.answer_lanes.specs.Places.{HasNone, SetsPlace}
use Rattle.answer_lanes.specs.Words.{AreEights}
use Rattle.answer_lanes.specs.declared.known_block.KnownBlock.{KnownBlock}
use Rattle.answer_lanes.specs.declared.place_set.PlaceSet.{PlaceSet}

-- a place of an eight among the places of its block
pub place_of_eight : (firsts : List ℕ) (number k : ℕ) → k < 8 → place_in firsts (8 * number + k) ≡ slice_index firsts number + k
place_of_eight firsts number k small =
    let eight : (8 * number + k) / 8 ≡ number = omega (arith, small) in
    let rest : (8 * number + k) % 8 ≡ k = omega (arith, small) in
    ap (λ n. slice_index firsts n + (8 * number + k) % 8) eight ∙ ap (λ n. slice_index firsts number + n) rest

-- the word of a block that hasn't the place that was set stays right
pub stays_right : (place : ℕ) (on : Bool) (old next : PlaceSet) (firsts : List ℕ) (word : ℕ) → SetsPlace place on old next → AreEights old firsts word
    → ((k : ℕ) → k < 32 → place_in firsts k ≢ place) → AreEights next firsts word
stays_right place on old next firsts word sets are others number k less small =
    are number k less small
    ∙ sym (sets.others (slice_index firsts number + k) (λ same. others (8 * number + k) (omega (arith, less, small)) (place_of_eight firsts number k small ∙ same)))

module _ (place : ℕ) (on : Bool) (old next : PlaceSet) (sets : SetsPlace place on old next) (numbers : List ℕ) (blocks : List KnownBlock)
    (words : KeepWords old blocks) (numbered : HaveNumbers numbers blocks) where
  -- the word of a block with another number than the place's stays right
  pub other_block : (number : ℕ) → number ≡ slice_index_or numbers place in_none → (n : ℕ) (block : KnownBlock) → slice_get blocks n ≡ Some block
      → n ≢ number → AreEights next block.firsts block.word
  other_block number is n block there other =
      stays_right place on old next block.firsts block.word sets (words n block there)
      (λ k below same.
      other
      (sym
      (is ∙ get_or_from_slice_get numbers place n in_none (ap (slice_get numbers) (sym same) ∙ numbered n block there k below))))

  -- where the place stands in no known block all words stay right
  pub all_stay : (number : ℕ) → number ≡ slice_index_or numbers place in_none → length blocks ≤ number → KeepWords next blocks
  all_stay number is past n block there =
      other_block number is n block there (λ same. let within = slice_get_within blocks n block there in absurd (omega (arith, within, past, same)))

  -- with a new word of the place's block all are right
  pub one_mended : (number : ℕ) → number ≡ slice_index_or numbers place in_none → (was : KnownBlock) → slice_get blocks number ≡ Some was → (word : ℕ)
      → AreEights next was.firsts word → KeepWords next (set blocks number (record { firsts = was.firsts; word = word }))
  one_mended number is was there word right n block at =
      ⊎_elim (λ here. subst (λ (b : KnownBlock). AreEights next b.firsts b.word) here.1 right)
      (λ other. other_block number is n block other.1 other.0) (get_set blocks number n (record { firsts = was.firsts; word = word }) block at)

  pub numbers_stay : (number : ℕ) (was : KnownBlock) → slice_get blocks number ≡ Some was → (word : ℕ)
      → HaveNumbers numbers (set blocks number (record { firsts = was.firsts; word = word }))
  numbers_stay number was there word n block at k below =
      ⊎_elim
      (λ here.
      ap (λ (b : KnownBlock). slice_get numbers (place_in b.firsts k)) (sym here.1) ∙ numbered number was there k below ∙ ap Some (sym here.0))
      (λ other. numbered n block other.1 k below) (get_set blocks number n (record { firsts = was.firsts; word = word }) block at)

-- what stands in a list that is one longer stood there before or is the last
at_end : {A : Type 0} (xs : List A) (n : ℕ) (y x : A) → slice_get (xs ++ y ∷ []) n ≡ Some x → (slice_get xs n ≡ Some x) ⊎ ((n ≡ length xs) × (y ≡ x))
at_end [] zero y x there = inr (refl, cc)
at_end [] (suc n) y x there = absurd (cc)
at_end (z ∷ xs) zero y x there = inl there
at_end (z ∷ xs) (suc n) y x there = ⊎_elim (λ before. inl before) (λ last. inr (ap suc last.0, last.1)) (at_end xs n y x there)

-- one block more
module _ (places : PlaceSet) (old numbers : List ℕ) (blocks : List KnownBlock) (firsts : List ℕ) (words : KeepWords places blocks)
    (numbered : HaveNumbers old blocks) (less : length blocks < in_none) (takes : TakesPlaces firsts (length blocks) old numbers) where
  -- the known blocks keep their places
  pub known_keep : HaveNumbers numbers blocks
  known_keep n block there k below =
      let within = slice_get_within blocks n block there in
      takes.others (place_in block.firsts k) n (λ same. absurd (omega (arith, within, less, same))) (numbered n block there k below)

  module _ (word : ℕ) (right : AreEights places firsts word) where
    pub one_word_more : KeepWords places (blocks ++ record { firsts = firsts; word = word } ∷ [])
    one_word_more n block there =
        ⊎_elim (λ before. words n block before) (λ here. subst (λ (b : KnownBlock). AreEights places b.firsts b.word) here.1 right)
        (at_end blocks n (record { firsts = firsts; word = word }) block there)

    pub one_number_more : HaveNumbers numbers (blocks ++ record { firsts = firsts; word = word } ∷ [])
    one_number_more n block there k below =
        ⊎_elim (λ before. known_keep n block before k below)
        (λ here. ap (λ (b : KnownBlock). slice_get numbers (place_in b.firsts k)) (sym here.1) ∙ takes.own k below ∙ ap Some (sym here.0))
        (at_end blocks n (record { firsts = firsts; word = word }) block there)

-- words without a place are those of an empty set
pub empty_words : (places : PlaceSet) (old blocks : List KnownBlock) → HasNone places → ForgetsWords old blocks → KeepWords places blocks
empty_words places old blocks none forgets n block there number k less small =
    ap (λ m. has_bit m (8 * number + k)) (forgets.none n block there) ∙ has_bit-zero (8 * number + k) ∙ sym (none (slice_index block.firsts number + k))

pub same_numbers : (numbers : List ℕ) (old blocks : List KnownBlock) → HaveNumbers numbers old → ForgetsWords old blocks → HaveNumbers numbers blocks
same_numbers numbers old blocks numbered forgets n block there k below =
    let from = forgets.firsts n block there in
    ap (λ f. slice_get numbers (place_in f k)) from.same ∙ numbered n from.other from.there k below

-- ---- places and words, one after another

-- the first places of a block got its number, and those of known blocks kept theirs
pub record TakesFirst (count : ℕ) (firsts : List ℕ) (number : ℕ) (old numbers : List ℕ) : Type 0 where
  pub size : length numbers ≡ length old
  pub own : (k : ℕ) → k < count → slice_get numbers (place_in firsts k) ≡ Some number
  pub others : (place n : ℕ) → n ≢ in_none → slice_get old place ≡ Some n → slice_get numbers place ≡ Some n

-- the first blocks have no word, and all begin as they did
pub record ForgetsFirst (count : ℕ) (old blocks : List KnownBlock) : Type 0 where
  pub size : length blocks ≡ length old
  pub none : (n : ℕ) (block : KnownBlock) → n < count → slice_get blocks n ≡ Some block → block.word ≡ 0
  pub firsts : (n : ℕ) (block : KnownBlock) → slice_get blocks n ≡ Some block → HasFirstsOf block n old

-- one block more forgets its word
pub forgets_more : (count : ℕ) (old blocks : List KnownBlock) (was : KnownBlock) → slice_get blocks count ≡ Some was → ForgetsFirst count old blocks
    → ForgetsFirst (count + 1) old (set blocks count (record { firsts = was.firsts; word = 0 }))
forgets_more count old blocks was there forgets = record {
  size = length-set blocks count _ ∙ forgets.size;
  none = λ n block less at.
      ⊎_elim (λ here. ap (λ (b : KnownBlock). b.word) (sym here.1))
      (λ other. let apart = other.0 in forgets.none n block (omega (arith, less, apart)) other.1)
      (get_set blocks count n (record { firsts = was.firsts; word = 0 }) block at);
  firsts = λ n block at.
      ⊎_elim
      (λ here.
      let from = forgets.firsts count was there in
      record {
        other = from.other;
        there = ap (slice_get old) here.0 ∙ from.there;
        same = ap (λ (b : KnownBlock). b.firsts) (sym here.1) ∙ from.same;
      })
      (λ other. forgets.firsts n block other.1) (get_set blocks count n (record { firsts = was.firsts; word = 0 }) block at);
}
