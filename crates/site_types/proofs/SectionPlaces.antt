-- Where the section of an address begins and ends, and which addresses lie in it.
use Rattle.std.proofs.Common.{◌≡◌, ◌⊎◌, inl, inr, ℕ, ◌<◌, ◌≤◌, max, min, true, List, [], ◌∷◌, refl, sym, ◌∙◌, subst, arith}
use Rattle.std.proofs.lemmas.Bool.{eqb-true}
use Rattle.std.proofs.lemmas.Bool.Decides.{eqb_tells, leb_tells}
use Rattle.site_types.specs.Sections.{SectionsHold, is_one_section, section_end, section_of}
use Rattle.site_types.proofs.Done.{lt_tells, lt_true}

-- there is an isolator with a number
abbrev IsIn : ℕ → List ℕ → Type 0
IsIn k [] = ⊥
IsIn k (place ∷ rest) = (k ≡ place) ⊎ IsIn k rest

-- a section begins before its address, at 0 or an isolator, and no isolator lies between
begins_before : (isolators : List ℕ) (address : ℕ) → 1 ≤ address → section_of isolators address < address
begins_before [] address one = one
begins_before (place ∷ rest) address one =
    let ih = begins_before rest address one in
    elim (lt_tells place address) [ inl t ↦ rw t.0 (let l = t.1 in omega (arith, l, ih)) | inr t ↦ rw t.0 ih ]

begins_at : (isolators : List ℕ) (address : ℕ) → (section_of isolators address ≡ 0) ⊎ IsIn (section_of isolators address) isolators
begins_at [] address = inl refl
begins_at (place ∷ rest) address =
    elim (lt_tells place address) [
      | inl t ↦ subst (λ n. (n ≡ 0) ⊎ ((n ≡ place) ⊎ IsIn n rest)) (rw t.0 refl) (greater (section_of rest address) (begins_at rest address))
      | inr t ↦ subst (λ n. (n ≡ 0) ⊎ ((n ≡ place) ⊎ IsIn n rest)) (rw t.0 refl) (later (section_of rest address) (begins_at rest address))
    ]
  where
    greater : (n : ℕ) → (n ≡ 0) ⊎ IsIn n rest → (max place n ≡ 0) ⊎ ((max place n ≡ place) ⊎ IsIn (max place n) rest)
    greater n at =
        elim (leb_tells place n) [
          | inl h ↦
              (let l = h.1 in
              let is : max place n ≡ n = omega (arith, l) in
              elim at [ inl none ↦ inl (is ∙ none) | inr there ↦ inr (inr (subst (λ k. IsIn k rest) (sym is) there)) ])
          | inr h ↦ (let l = h.1 in inr (inl (omega (arith, l))))
        ]

    later : (n : ℕ) → (n ≡ 0) ⊎ IsIn n rest → (n ≡ 0) ⊎ ((n ≡ place) ⊎ IsIn n rest)
    later n (inl none) = inl none
    later n (inr there) = inr (inr there)

begins_behind : (isolators : List ℕ) (address k : ℕ) → IsIn k isolators → k < address → k ≤ section_of isolators address
begins_behind [] address k there less = absurd there
begins_behind (place ∷ rest) address k (inl is) less = rw (lt_true place address (omega (arith, is, less))) (omega (arith, is))
begins_behind (place ∷ rest) address k (inr there) less =
    let ih = begins_behind rest address k there less in
    elim (lt_tells place address) [ inl t ↦ rw t.0 (omega (arith, ih)) | inr t ↦ rw t.0 ih ]

-- it ends at its address or behind it, at the last address or an isolator, and no isolator lies between
ends_after : (isolators : List ℕ) (last address : ℕ) → address ≤ last → address ≤ section_end isolators last address
ends_after [] last address within = within
ends_after (place ∷ rest) last address within =
    let ih = ends_after rest last address within in
    elim (leb_tells address place) [ inl t ↦ rw t.0 (let l = t.1 in omega (arith, l, ih)) | inr t ↦ rw t.0 ih ]

ends_at : (isolators : List ℕ) (last address : ℕ) → (section_end isolators last address ≡ last) ⊎ IsIn (section_end isolators last address) isolators
ends_at [] last address = inl refl
ends_at (place ∷ rest) last address =
    elim (leb_tells address place) [
      | inl t ↦ subst (λ n. (n ≡ last) ⊎ ((n ≡ place) ⊎ IsIn n rest)) (rw t.0 refl) (less (section_end rest last address) (ends_at rest last address))
      | inr t ↦
          subst (λ n. (n ≡ last) ⊎ ((n ≡ place) ⊎ IsIn n rest)) (rw t.0 refl) (later (section_end rest last address) (ends_at rest last address))
    ]
  where
    less : (n : ℕ) → (n ≡ last) ⊎ IsIn n rest → (min place n ≡ last) ⊎ ((min place n ≡ place) ⊎ IsIn (min place n) rest)
    less n at =
        elim (leb_tells place n) [
          | inl h ↦ (let l = h.1 in inr (inl (omega (arith, l))))
          | inr h ↦
              (let l = h.1 in
              let is : min place n ≡ n = omega (arith, l) in
              elim at [ inl whole ↦ inl (is ∙ whole) | inr there ↦ inr (inr (subst (λ k. IsIn k rest) (sym is) there)) ])
        ]

    later : (n : ℕ) → (n ≡ last) ⊎ IsIn n rest → (n ≡ last) ⊎ ((n ≡ place) ⊎ IsIn n rest)
    later n (inl whole) = inl whole
    later n (inr there) = inr (inr there)

ends_before : (isolators : List ℕ) (last address k : ℕ) → IsIn k isolators → address ≤ k → section_end isolators last address ≤ k
ends_before [] last address k there past = absurd there
ends_before (place ∷ rest) last address k (inl is) past =
    elim (leb_tells address place) [ inl t ↦ rw t.0 (omega (arith, is)) | inr t ↦ (let l = t.1 in absurd (omega (arith, l, is, past))) ]
ends_before (place ∷ rest) last address k (inr there) past =
    let ih = ends_before rest last address k there past in
    elim (leb_tells address place) [ inl t ↦ rw t.0 (omega (arith, ih)) | inr t ↦ rw t.0 ih ]

module _ (isolators : List ℕ) (last address other : ℕ) (one : 1 ≤ address) (within : address ≤ last) (some : 1 ≤ other) (inside : other ≤ last) where
  held : is_one_section isolators address other ≡ true → (section_of isolators address < other) × (other ≤ section_end isolators last address)
  held together = (omega (arith, begins_before isolators other some, same), up_to)
    where
      same : section_of isolators address ≡ section_of isolators other
      same = eqb-true (section_of isolators address) (section_of isolators other) together

      past : section_end isolators last address < other → (section_end isolators last address ≡ last)
          ⊎ IsIn (section_end isolators last address) isolators → ⊥
      past less (inl whole) = omega (arith, less, whole, inside)
      past less (inr there) =
          omega (
            arith,
            begins_behind isolators other (section_end isolators last address) there less,
            same,
            begins_before isolators address one,
            ends_after isolators last address within,
          )

      up_to : other ≤ section_end isolators last address
      up_to = elim (leb_tells other (section_end isolators last address)) [ inl h ↦ h.1 | inr h ↦ absurd (past h.1 (ends_at isolators last address)) ]

  holds : section_of isolators address < other → other ≤ section_end isolators last address → is_one_section isolators address other ≡ true
  holds begun ended = elim (eqb_tells (section_of isolators address) (section_of isolators other)) [ inl t ↦ t.0 | inr t ↦ absurd (t.1 same) ]
    where
      from : (section_of isolators address ≡ 0) ⊎ IsIn (section_of isolators address) isolators
          → section_of isolators address ≤ section_of isolators other
      from (inl none) = omega (arith, none)
      from (inr there) = begins_behind isolators other (section_of isolators address) there begun

      to : (section_of isolators other ≡ 0) ⊎ IsIn (section_of isolators other) isolators → section_of isolators other ≤ section_of isolators address
      to (inl none) = omega (arith, none)
      to (inr there) =
          elim (leb_tells address (section_of isolators other)) [
            | inl h ↦
                absurd (omega (
                  arith,
                  ends_before isolators last address (section_of isolators other) there h.1,
                  begins_before isolators other some,
                  ended,
                ))
            | inr h ↦ begins_behind isolators address (section_of isolators other) there h.1
          ]

      same : section_of isolators address ≡ section_of isolators other
      same = omega (arith, from (begins_at isolators address), to (begins_at isolators other))

pub sections_hold : SectionsHold
sections_hold = record {
  own = λ isolators last address other one within some inside. held isolators last address other one within some inside;
  all = λ isolators last address other one within some inside. holds isolators last address other one within some inside;
}
