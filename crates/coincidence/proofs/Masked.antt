-- A mask with the bits of a zone and its partner is the mask of a test that no other zone passes.
use Rattle.std.proofs.Common.{◌≡◌, ◌≢◌, ◌⊎◌, inl, inr, ℕ, ◌+◌, ◌<◌, ◌^◌, Bool, true, false, Option, Some, None, slice_get, ◌==◌, ◌&&◌, if◌then◌else◌, refl, sym, ◌∙◌, ap, subst}
use Rattle.std.proofs.lemmas.Bool.{eq-eqb, ne_eqb}
use Rattle.std.proofs.lemmas.Bool.Decides.{eqb_tells}
use Rattle.site_types.specs.declared.site.Site.{Site}
use Rattle.site_types.specs.declared.zone.Zone.{Zone}
use Rattle.site_types.specs.Bits.{has_bit}
use Rattle.coincidence_rules.specs.Places.{on_zone, numbered, zones_where}
use Rattle.coincidence_rules.specs.Wired.{IsWired}
use Rattle.coincidence_rules.proofs.ZoneMasks.{zones_from_bits, numbered_of, of_numbered}

-- what the second bit is: of the partner, if there is one
pub record IsOther (site : Site) (panel : ℕ) (test : ℕ → Bool) (number : ℕ) (also : Bool) (other : ℕ) : Type 0 where
  pub zone : Zone
  pub is : slice_get site.zones other ≡ Some zone
  pub at : zone.panel ≡ panel
  pub number_is : number ≡ zone.number
  pub tests : test other ≡ also

abbrev pub IsSecondBit : Site → ℕ → (ℕ → Bool) → ℕ → Bool → Option ℕ → Type 0
IsSecondBit site panel test number also None = also ≡ false
IsSecondBit site panel test number also (Some other) = IsOther site panel test number also other

abbrev pub bit_of : ℕ → Bool → ℕ → Bool → ℕ → Bool
bit_of number on other also n = if n == number then on else ((n == other) && also)

module _ (site : Site) (wired : IsWired site) (panel place : ℕ) (zone : Zone) (is : slice_get site.zones place ≡ Some zone) (at : zone.panel ≡ panel)
    (test : ℕ → Bool) (on : Bool) (tests : test place ≡ on) where
  own_number : numbered site panel zone.number ≡ Some place
  own_number = subst (λ n. numbered site n zone.number ≡ Some place) at (numbered_of site place zone wired is)

  number_of : (other : ℕ) (y : Zone) → slice_get site.zones other ≡ Some y → y.panel ≡ panel → numbered site panel y.number ≡ Some other
  number_of other y has there = subst (λ n. numbered site n y.number ≡ Some other) there (numbered_of site other y wired has)

  -- a number that no zone has
  none_has : (n number : ℕ) (also : Bool) (partner : Option ℕ) → IsSecondBit site panel test number also partner → numbered site panel n ≡ None
      → bit_of zone.number on number also n ≡ false
  none_has n number also partner second none =
      let apart : n ≢ zone.number = (λ e. clash n zone.number place none own_number e) in
      ap (λ b. if b then on else ((n == number) && also)) (ne_eqb n zone.number apart) ∙ other partner second
    where
      clash : (a b q : ℕ) → numbered site panel a ≡ None → numbered site panel b ≡ Some q → a ≡ b → ⊥
      clash a b q x y e = let z : numbered site panel b ≡ None = subst (λ m. numbered site panel m ≡ None) e x in cc (z, y)

      off : (b : Bool) {c : Bool} → c ≡ false → (b && c) ≡ false
      off true e = e
      off false e = refl

      other : (o : Option ℕ) → IsSecondBit site panel test number also o → ((n == number) && also) ≡ false
      other None e = off (n == number) e
      other (Some q) s = ap (λ b. b && also) (ne_eqb n number (λ e. clash n s.zone.number q none (number_of q s.zone s.is s.at) (e ∙ s.number_is)))

  -- the number of a zone
  some_has : (n number : ℕ) (also : Bool) (partner : Option ℕ) → IsSecondBit site panel test number also partner
      → ((q : ℕ) → q ≢ place → partner ≢ Some q → test q ≡ false) → (q : ℕ) → numbered site panel n ≡ Some q
      → bit_of zone.number on number also n ≡ test q
  some_has n number also partner second rest q found = go (eqb_tells n zone.number)
    where
      one : (a b : ℕ) → numbered site panel n ≡ Some a → numbered site panel n ≡ Some b → a ≡ b
      one a b x y = cc

      off : (b : Bool) {c : Bool} → c ≡ false → (b && c) ≡ false
      off true e = e
      off false e = refl

      same_zone : (a b : ℕ) (y z : Zone) → a ≡ b → slice_get site.zones a ≡ Some y → slice_get site.zones b ≡ Some z → y.number ≡ z.number
      same_zone a b y z e f g = let h : slice_get site.zones b ≡ Some y = subst (λ k. slice_get site.zones k ≡ Some y) e f in let s : y ≡ z =
          cc (h, g) in ap (λ (x : Zone). x.number) s

      -- not the zone itself: its partner or another one
      apart_from : q ≢ place → (o : Option ℕ) → partner ≡ o → IsSecondBit site panel test number also o → ((n == number) && also) ≡ test q
      apart_from apart None e s = off (n == number) s ∙ sym (rest q apart (λ x. let y : None ≡ Some q = sym e ∙ x in cc))
      apart_from apart (Some p) e s = elim (eqb_tells q p) [
        | inl same ↦ (let has = of_numbered site panel n q found in
            let numbers : n ≡ number = sym has.number_is ∙ same_zone q p has.zone s.zone same.1 has.is s.is ∙ sym s.number_is in
            ap (λ b. b && also) (eq-eqb n number numbers) ∙ sym s.tests ∙ ap test (sym same.1))
        | inr other ↦
            ap (λ b. b && also)
            (ne_eqb n number
            (λ x. other.1 (one q p found (subst (λ m. numbered site panel m ≡ Some p) (sym (x ∙ s.number_is)) (number_of p s.zone s.is s.at)))))
            ∙ sym (rest q apart (λ x. other.1 (let y : Some p ≡ Some q = sym e ∙ x in cc)))
      ]

      go : ((n == zone.number) ≡ true) × (n ≡ zone.number) ⊎ (((n == zone.number) ≡ false) × (n ≢ zone.number))
          → bit_of zone.number on number also n ≡ test q
      go (inl same) =
          ap (λ b. if b then on else ((n == number) && also)) same.0 ∙ sym tests
          ∙ ap test (one place q (subst (λ m. numbered site panel m ≡ Some place) (sym same.1) own_number) found)
      go (inr other) =
          ap (λ b. if b then on else ((n == number) && also)) other.0
          ∙ apart_from (λ e. other.1 (let has = of_numbered site panel n q found in sym has.number_is ∙ same_zone q place has.zone zone e has.is is))
          partner refl second

  pub mask_is : (number : ℕ) (also : Bool) (partner : Option ℕ) (mask : ℕ) → mask < 2 ^ 32 → IsSecondBit site panel test number also partner
      → ((q : ℕ) → q ≢ place → partner ≢ Some q → test q ≡ false)
      → ((k : ℕ) → k < 32 → has_bit mask k ≡ bit_of zone.number on number also (k + 1)) → mask ≡ zones_where site panel test
  mask_is number also partner mask below second rest bits =
      zones_from_bits site panel test mask below (λ k small. bits k small ∙ go (k + 1) (numbered site panel (k + 1)) refl)
    where
      go : (n : ℕ) (o : Option ℕ) → numbered site panel n ≡ o → bit_of zone.number on number also n ≡ on_zone test (numbered site panel n)
      go n None e = none_has n number also partner second e ∙ ap (on_zone test) (sym e)
      go n (Some q) e = some_has n number also partner second rest q e ∙ ap (on_zone test) (sym e)
