-- Which of some things comes first, thing by thing.
use Rattle.std.proofs.Common.{◌≡◌, ◌∙◌, ◌+◌, ◌<◌, ◌≤◌, ◌⊎◌, ℕ, suc, Bool, true, false, List, [], ◌∷◌, refl, sym, ap, arith, length, Option, Some, None, inl, inr, zero}
use Rattle.std.proofs.Common.{slice_get, slice_index_or}
use Rattle.std.proofs.lemmas.Bool.Decides.{leb_tells, eqb_tells}
use Rattle.audit_rules.specs.Breaches.{is_lower}
use Rattle.panel_audit.specs.declared.numbered.Numbered.{Numbered}
use Rattle.panel_audit.specs.Lowest.{ComesFirst, IsLowestBefore, LowestBefore, standing_of}

-- a pair of numbers is below another one, or isn't
abbrev is_pair_below : ℕ → ℕ → ℕ → ℕ → Bool
is_pair_below a b c d = is_lower (a ∷ b ∷ []) (c ∷ d ∷ [])

below_tells : (a b c d : ℕ) → ((is_pair_below a b c d ≡ true) × ((a < c) ⊎ ((a ≡ c) × (b < d))))
    ⊎ ((is_pair_below a b c d ≡ false) × ((c < a) ⊎ ((a ≡ c) × (d ≤ b))))
below_tells a b c d =
    elim (leb_tells (suc a) c) [
      | inl h ↦ inl (rw h.0 refl, inl h.1)
      | inr h ↦
          elim (eqb_tells a c) [
            | inl e ↦
                elim (leb_tells (suc b) d) [
                  | inl l ↦ inl (rw (h.0, e.0, l.0) refl, inr (e.1, l.1))
                  | inr l ↦
                      (let far = l.1 in
                      let least : d ≤ b = omega (arith, far) in
                      elim (eqb_tells b d) [
                        | inl s ↦ inr (rw (h.0, e.0, l.0, s.0) refl, inr (e.1, least))
                        | inr s ↦ inr (rw (h.0, e.0, l.0, s.0) refl, inr (e.1, least))
                      ])
                ]
            | inr e ↦
                (let least = h.1 in
                let apart = e.1 in
                inr (rw (h.0, e.0) refl, inl (omega (arith, least, apart))))
          ]
    ]

below_falls : (a b c d e f : ℕ) → is_pair_below a b c d ≡ true → is_pair_below e f c d ≡ false → is_pair_below e f a b ≡ false
below_falls a b c d e f lower least =
    elim (below_tells e f a b) [
      | inr h ↦ h.0
      | inl h ↦ absurd (falls h.1 (elim (below_tells a b c d) [ inl l ↦ l.1 | inr l ↦ absurd (let no : true ≡ false = sym lower ∙ l.0 in cc) ])
          (elim (below_tells e f c d) [ inr l ↦ l.1 | inl l ↦ absurd (let no : true ≡ false = sym l.0 ∙ least in cc) ]))
    ]
  where
    falls : ((e < a) ⊎ ((e ≡ a) × (f < b))) → ((a < c) ⊎ ((a ≡ c) × (b < d))) → ((c < e) ⊎ ((e ≡ c) × (d ≤ f))) → ⊥
    falls (inl x) (inl y) (inl z) = omega (arith, x, y, z)
    falls (inl x) (inl y) (inr z) = (let s = z.0 in omega (arith, x, y, s))
    falls (inl x) (inr y) (inl z) = (let s = y.0 in omega (arith, x, s, z))
    falls (inl x) (inr y) (inr z) = (let s = y.0 in let t = z.0 in omega (arith, x, s, t))
    falls (inr x) (inl y) (inl z) = (let s = x.0 in omega (arith, s, y, z))
    falls (inr x) (inl y) (inr z) = (let s = x.0 in let t = z.0 in omega (arith, s, y, t))
    falls (inr x) (inr y) (inl z) = (let s = x.0 in let t = y.0 in omega (arith, s, t, z))
    falls (inr x) (inr y) (inr z) = (let s = x.1 in let t = y.1 in let u = z.1 in omega (arith, s, t, u))

not_below_itself : (a b : ℕ) → is_pair_below a b a b ≡ false
not_below_itself a b =
    elim (below_tells a b a b) [
      | inr h ↦ h.0
      | inl h ↦ absurd (falls h.1)
    ]
  where
    falls : ((a < a) ⊎ ((a ≡ a) × (b < b))) → ⊥
    falls (inl x) = omega (arith, x)
    falls (inr x) = (let s = x.1 in omega (arith, s))

-- ---- thing by thing

module _ (things : List Numbered) (marks : List Bool) where
  there : (xs : List Numbered) (k : ℕ) → k < length xs → (x : Numbered) × (slice_get xs k ≡ Some x)
  there [] k in_it = absurd (omega (arith, in_it))
  there (x ∷ xs) zero in_it = (x, refl)
  there (x ∷ xs) (suc k) in_it = there xs k (omega (arith, in_it))

  same_thing : (k : ℕ) (a b : Numbered) → slice_get things k ≡ Some a → slice_get things k ≡ Some b → a ≡ b
  same_thing k a b one other = some_is (sym one ∙ other)
    where
      some_is : {x y : Numbered} → Some x ≡ Some y → x ≡ y
      some_is e = cc

  -- among the things before a place and that place itself
  last_or : (place other : ℕ) → other < place + 1 → (other < place) ⊎ (other ≡ place)
  last_or place other low =
      elim (leb_tells place other) [
        | inl h ↦ (let least = h.1 in inr (omega (arith, low, least)))
        | inr h ↦ inl h.1
      ]

  -- a marked thing that those before it don't come before
  lowest_now : (place : ℕ) → place < length things → slice_index_or marks place false ≡ true
      → ((other : ℕ) (own one : Numbered) → other < place → slice_get things place ≡ Some own → slice_get things other ≡ Some one
      → slice_index_or marks other false ≡ true → is_lower (standing_of one) (standing_of own) ≡ false) → IsLowestBefore things marks (place + 1) place
  lowest_now place in_it marked earlier =
      let at = there things place in_it in
      record {
        before = omega arith;
        thing = at.0;
        is = at.1;
        marked = marked;
        least = λ other one low is on. elim (last_or place other low) [
          | inl early ↦ earlier other at.0 one early at.1 is on
          | inr same ↦ (
              let it : one ≡ at.0 = same_thing place one at.0 (sym (ap (slice_get things) same) ∙ is) at.1 in
              rw it (not_below_itself at.0.panel at.0.number))
        ];
      }

  pub comes_now : (place : ℕ) (lowest : Option ℕ) → place < length things → slice_index_or marks place false ≡ true
      → ComesFirst things place lowest true → LowestBefore things marks place lowest → IsLowestBefore things marks (place + 1) place
  comes_now place None in_it marked first before =
      lowest_now place in_it marked (λ other own one early at is on. absurd (let no : true ≡ false = sym on ∙ before other early in cc))
  comes_now place (Some best) in_it marked first before =
      lowest_now place in_it marked
      (λ other own one early at is on.
      (let lower : is_lower (standing_of own) (standing_of before.thing) ≡ true = sym (first own before.thing at before.is) in
      below_falls own.panel own.number before.thing.panel before.thing.number one.panel one.number lower (before.least other one early is on)))

  -- what came first still does where a thing doesn't come before it
  still_lowest : (place best : ℕ) (before : IsLowestBefore things marks place best)
      → ((one : Numbered) → slice_get things place ≡ Some one → slice_index_or marks place false ≡ true
      → is_lower (standing_of one) (standing_of before.thing) ≡ false) → IsLowestBefore things marks (place + 1) best
  still_lowest place best before now =
      let low = before.before in
      record {
        before = omega (arith, low);
        thing = before.thing;
        is = before.is;
        marked = before.marked;
        least = λ other one low is on. elim (last_or place other low) [
          | inl early ↦ before.least other one early is on
          | inr same ↦ now one (sym (ap (slice_get things) same) ∙ is) (sym (ap (λ k. slice_index_or marks k false) same) ∙ on)
        ];
      }

  -- a thing that isn't marked is passed over
  pub not_marked : (place : ℕ) (lowest : Option ℕ) → slice_index_or marks place false ≡ false → LowestBefore things marks place lowest
      → LowestBefore things marks (place + 1) lowest
  not_marked place None off before = λ other low. elim (last_or place other low) [
    | inl early ↦ before other early
    | inr same ↦ ap (λ k. slice_index_or marks k false) same ∙ off
  ]
  not_marked place (Some best) off before =
      still_lowest place best before (λ one is on. absurd (let no : true ≡ false = sym on ∙ off in cc))

  -- and one that another one comes before
  pub not_first : (place : ℕ) (lowest : Option ℕ) → place < length things → ComesFirst things place lowest false
      → LowestBefore things marks place lowest → LowestBefore things marks (place + 1) lowest
  not_first place None in_it first before = absurd (let no : false ≡ true = first in cc)
  not_first place (Some best) in_it first before = still_lowest place best before (λ one is on. sym (first one before.thing is before.is))
