-- The addresses of a loop that are asked in a tick are eight in a row.
use Rattle.std.proofs.Common.{◌≡◌, ℕ, zero, suc, ◌+◌, ◌-◌, ◌*◌, ◌/◌, ◌%◌, ◌<◌, ◌≤◌, List, [], ◌∷◌, ◌++◌, length, Option, Some, None, option_map, refl, ◌∙◌, ap, arith, append-nil}
use Rattle.std.specs.List.{filter_map, range_with_len, cons_option}
use Rattle.std.proofs.lemmas.Bool.{eq-eqb, ne_eqb}
use Rattle.std.proofs.lemmas.Nat.{mod_below}
use Rattle.std.proofs.lemmas.List.Elements.{filter_map-append}
use Rattle.site_types.specs.declared.point_state.PointState.{PointState}
use Rattle.site_types.specs.declared.site.Site.{Site}
use Rattle.site_types.specs.Profile.{round_of}
use Rattle.isolators.specs.Reach.{Cable}
use Rattle.loop_poller.specs.Asked.{answer_from, answer_of, asked_on, point_at}

pub range-split : (a m n : ℕ) → range_with_len a (m + n) ≡ range_with_len a m ++ range_with_len (a + m) n
range-split a zero n =
    let first : 0 + n ≡ n = omega arith in
    let at : a + 0 ≡ a = omega arith in
    rw (first, at) refl
range-split a (suc m) n =
    let count : suc m + n ≡ suc (m + n) = omega arith in
    let at : a + suc m ≡ (a + 1) + m = omega arith in
    rw (count, at) (ap (λ xs. a ∷ xs) (range-split (a + 1) m n))

pub range-more : (a n : ℕ) → range_with_len a (n + 1) ≡ range_with_len a n ++ (a + n) ∷ []
range-more a n = range-split a n 1

pub length-range : (a n : ℕ) → length (range_with_len a n) ≡ n
length-range a zero = refl
length-range a (suc n) = ap suc (length-range (a + 1) n)

pub found_few : {X : Type 0} (f : ℕ → Option X) (places : List ℕ) → length (filter_map f places) ≤ length places
found_few f [] = omega arith
found_few f (place ∷ places) =
    elim (f place) as (λ o. length (cons_option o (filter_map f places)) ≤ suc (length places)) [
      | None ↦ omega (arith, found_few f places)
      | Some x ↦ omega (arith, found_few f places)
    ]

-- where nothing is found
pub none_found : {X : Type 0} (f : ℕ → Option X) (a n : ℕ) → ((k : ℕ) → a ≤ k → k < a + n → f k ≡ None) → filter_map f (range_with_len a n) ≡ []
none_found f a zero none = refl
none_found f a (suc n) none =
    let here : f a ≡ None = none a (omega arith) (omega arith) in
    let rest : filter_map f (range_with_len (a + 1) n) ≡ [] = none_found f (a + 1) n (λ k low high. none k (omega arith) (omega arith)) in
    rw here rest

-- of all addresses the eight of one group give something
pub window : {X : Type 0} (f : ℕ → Option X) (q n : ℕ) → q < n → ((k : ℕ) → 1 ≤ k → (q ≡ (k - 1) / 8 → ⊥) → f k ≡ None)
    → filter_map f (range_with_len 1 (8 * n)) ≡ filter_map f (range_with_len (8 * q + 1) 8)
window {X} f q n below none =
    let parts : range_with_len 1 (8 * n) ≡ range_with_len 1 (8 * q)
    ++ (range_with_len (8 * q + 1) 8 ++ range_with_len (8 * q + 9) (8 * n - (8 * q + 8))) =
    ap (range_with_len 1) (omega arith)
    ∙ range-split 1 (8 * q) (8 + (8 * n - (8 * q + 8)))
    ∙ ap (λ k. range_with_len 1 (8 * q) ++ range_with_len k (8 + (8 * n - (8 * q + 8)))) (omega arith)
    ∙ ap (λ xs. range_with_len 1 (8 * q) ++ xs)
    (range-split (8 * q + 1) 8 (8 * n - (8 * q + 8)) ∙ ap (λ k. range_with_len (8 * q + 1) 8 ++ range_with_len k (8 * n - (8 * q + 8)))
    (omega arith)) in
    let low : filter_map f (range_with_len 1 (8 * q)) ≡ [] = none_found f 1 (8 * q) (λ k first last. none k first (λ e. absurd (omega arith))) in
    let high : filter_map f (range_with_len (8 * q + 9) (8 * n - (8 * q + 8))) ≡ [] =
    none_found f (8 * q + 9) (8 * n - (8 * q + 8)) (λ k first last. none k (omega arith) (λ e. absurd (omega arith))) in
    ap (filter_map f) parts
    ∙ filter_map-append f (range_with_len 1 (8 * q)) (range_with_len (8 * q + 1) 8 ++ range_with_len (8 * q + 9) (8 * n - (8 * q + 8)))
    ∙ ap (λ xs. xs ++ filter_map f (range_with_len (8 * q + 1) 8 ++ range_with_len (8 * q + 9) (8 * n - (8 * q + 8)))) low
    ∙ filter_map-append f (range_with_len (8 * q + 1) 8) (range_with_len (8 * q + 9) (8 * n - (8 * q + 8)))
    ∙ ap (λ xs. filter_map f (range_with_len (8 * q + 1) 8) ++ xs) high
    ∙ append-nil (filter_map f (range_with_len (8 * q + 1) 8))

module _ (site : Site) (panel : ℕ) (points : ℕ → PointState) (cables : ℕ → Cable) (tick line : ℕ) where
  pub not_asked : (address : ℕ) → (tick % round_of site.format ≡ (address - 1) / 8 → ⊥)
      → answer_from site panel points cables tick line address ≡ None
  not_asked address apart = rw (ne_eqb (tick % round_of site.format) ((address - 1) / 8) apart) refl

  pub is_asked_here : (address : ℕ) → tick % round_of site.format ≡ (address - 1) / 8
      → answer_from site panel points cables tick line address ≡ option_map (answer_of site panel points cables tick line address)
      (point_at site panel line address)
  is_asked_here address same = rw (eq-eqb (tick % round_of site.format) ((address - 1) / 8) same) refl

  -- the answers of a loop are those of eight addresses
  pub asked_window : 1 ≤ site.format
      → asked_on site panel points cables tick line ≡ filter_map (answer_from site panel points cables tick line)
      (range_with_len (8 * (tick % round_of site.format) + 1) 8)
  asked_window known =
      let below : tick % round_of site.format < round_of site.format = mod_below tick (round_of site.format) (omega arith) in
      ap (λ n. filter_map (answer_from site panel points cables tick line) (range_with_len 1 n)) (omega arith)
      ∙ window (answer_from site panel points cables tick line) (tick % round_of site.format) (round_of site.format) below
      (λ k first apart. not_asked k apart)

-- eight addresses in a row are one group
pub group_of : (q first address : ℕ) → first ≡ 8 * q + 1 → first ≤ address → address < first + 8 → q ≡ (address - 1) / 8
group_of q first address e low high = omega arith
