-- Where no operation of a kind was done in a span, the last one lies before it.
use Rattle.std.proofs.Common.{◌≡◌, ℕ, ◌≤◌, ◌<◌, List, [], ◌∷◌, inl, inr, Bool, true, false, not, ◌&&◌, if◌then◌else◌, max, refl, arith}
use Rattle.std.specs.Prelude.{nat_le, nat_lt}
use Rattle.std.proofs.lemmas.Bool.Decides.{leb_tells}
use Rattle.site_types.specs.Done.{Done, latest_before}
use Rattle.site_types.proofs.Done.{lt_tells}
use Rattle.panel_rules.specs.Due.{none_in}
use Rattle.panel_rules.proofs.Bools.{both, parts, not_false}

pub lt_from : (a b : ℕ) → nat_lt a b ≡ true → a < b
lt_from a b h = elim (lt_tells a b) [ inl t ↦ t.1 | inr t ↦ (let e = t.0 in absurd (differ (nat_lt a b) h e)) ]
  where
    differ : (x : Bool) → x ≡ true → x ≡ false → ⊥
    differ true p q = cc
    differ false p q = cc

pub lt_to : (a b : ℕ) → a < b → nat_lt a b ≡ true
lt_to a b l = elim (lt_tells a b) [ inl t ↦ t.0 | inr t ↦ absurd (omega (arith, t.1)) ]

pub le_to : (a b : ℕ) → a ≤ b → nat_le a b ≡ true
le_to a b l = elim (leb_tells a b) [ inl t ↦ t.0 | inr t ↦ absurd (omega (arith, t.1)) ]

pub le_from : (a b : ℕ) → nat_le a b ≡ true → a ≤ b
le_from a b h = elim (leb_tells a b) [ inl t ↦ t.1 | inr t ↦ (let e = t.0 in absurd (differ (nat_le a b) h e)) ]
  where
    differ : (x : Bool) → x ≡ true → x ≡ false → ⊥
    differ true p q = cc
    differ false p q = cc

-- one that was done before x lies before the span
outside : (test : Done → Bool) (first last x : ℕ) (d : Done) → x ≤ last → not (test d && (nat_le first d.tick && nat_lt d.tick last)) ≡ true
    → test d ≡ true → d.tick < x → d.tick < first
outside test first last x d l h t b =
    elim (leb_tells first d.tick) [
      | inl f ↦
          absurd
          (never (test d && (nat_le first d.tick && nat_lt d.tick last)) (not_false _ h)
          (both _ _ t (both _ _ f.0 (lt_to d.tick last (omega (arith, b, l))))))
      | inr f ↦ f.1
    ]
  where
    never : (x : Bool) → x ≡ false → x ≡ true → ⊥
    never true p q = cc
    never false p q = cc

pub none_since : (test : Done → Bool) (first last x : ℕ) (done : List Done) → 1 ≤ first → x ≤ last → none_in test first last done ≡ true
    → latest_before test x done < first
none_since test first last x [] one l h = omega arith
none_since test first last x (d ∷ ds) one l h =
    let p = parts _ _ h in
    go (test d && nat_lt d.tick x) refl (outside test first last x d l p.0) (none_since test first last x ds one l p.1)
  where
    go : (b : Bool) → (test d && nat_lt d.tick x) ≡ b → (test d ≡ true → d.tick < x → d.tick < first) → latest_before test x ds < first
        → (if b then max d.tick (latest_before test x ds) else latest_before test x ds) < first
    go true e out ih = let q = parts _ _ e in let o = out q.0 (lt_from d.tick x q.1) in omega (arith, o, ih)
    go false e out ih = ih
