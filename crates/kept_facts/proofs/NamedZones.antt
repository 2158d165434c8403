-- A mask that names zones of a panel is the mask of those that it names.
use Rattle.std.proofs.Common.{◌≡◌, ◌∙◌, ◌+◌, ◌-◌, ◌<◌, ◌||◌, ◌∷◌, [], ℕ, Bool, true, false, not, List, Option, Some, None, cond, length, subst, true≢false, slice_get, refl, sym, ap, arith}
use Rattle.std.specs.List.{list_any, position, position_or_len}
use Rattle.std.proofs.lemmas.Bool.{le-leb}
use Rattle.site_types.specs.declared.site.Site.{Site}
use Rattle.site_types.proofs.Done.{lt_true}
use Rattle.site_types.specs.declared.word.Word.{Word}
use Rattle.site_types.specs.Bits.{has_bit}
use Rattle.site_types.specs.Valid.{IsPanel}
use Rattle.coincidence_rules.specs.Places.{numbered, on_zone, zones_where}
use Rattle.coincidence_rules.proofs.ZoneMasks.{of_numbered, zones_from_bits}
use Rattle.panel_frames.specs.Grammar.{NamesZones, is_panel_zone}
use Rattle.panel_rules.specs.Zones.{panel_of, panel_of_zone}
use Rattle.node_rules.specs.Handed.{facts_of_words, mask_has_zone}

found_within : {X : Type 0} (test : X → Bool) (xs : List X) → list_any test xs ≡ true → position_or_len test xs < length xs
found_within test [] any = absurd (true≢false (sym any))
found_within test (x ∷ xs) any = by_head (test x) refl (λ h. found_within test xs h)
  where
    by_head : (b : Bool) → test x ≡ b → (list_any test xs ≡ true → position_or_len test xs < length xs)
        → position_or_len test (x ∷ xs) < length (x ∷ xs)
    by_head true is rest = subst (λ c. cond (not c) (1 + position_or_len test xs) 0 < length (x ∷ xs)) (sym is) (omega arith)
    by_head false is rest =
        let later = rest (ap (λ c. c || list_any test xs) (sym is) ∙ any) in
        subst (λ c. cond (not c) (1 + position_or_len test xs) 0 < length (x ∷ xs)) (sym is) (omega (arith, later))

never_found : {X : Type 0} (test : X → Bool) (xs : List X) → position test xs ≡ None → list_any test xs ≡ true → ⊥
never_found test xs none any =
    never
    (position_or_len test xs)
    (sym
    (ap (λ b. cond b (Some (position_or_len test xs)) None) (lt_true (position_or_len test xs) (length xs) (found_within test xs any)))
    ∙ none)
  where
    never : (n : ℕ) → Some n ≡ None → ⊥
    never n e = cc

-- zones by their masks, one of each panel
abbrev pub in_masks : Site → (ℕ → ℕ) → ℕ → Bool
in_masks site masks zone = mask_has_zone (masks (panel_of_zone site zone)) (slice_get site.zones zone)

pub named_is : (site : Site) (q : ℕ) (masks : ℕ → ℕ) → NamesZones site q (masks q) → masks q ≡ zones_where site q (in_masks site masks)
named_is site q masks names =
    zones_from_bits site q (in_masks site masks) (masks q) names.0 (λ k small. at k small (numbered site q (k + 1)) refl)
  where
    none_there : (k : ℕ) → k < 32 → numbered site q (k + 1) ≡ None → (b : Bool) → has_bit (masks q) k ≡ b → b ≡ false
    none_there k small is true has = absurd (never_found (is_panel_zone q (k + 1)) site.zones is (names.1 k small has))
    none_there k small is false has = refl

    at : (k : ℕ) → k < 32 → (o : Option ℕ) → numbered site q (k + 1) ≡ o → has_bit (masks q) k ≡ on_zone (in_masks site masks) o
    at k small None is = none_there k small is (has_bit (masks q) k) refl
    at k small (Some place) is =
        let there = of_numbered site q (k + 1) place is in
        let number = there.number_is in
        let same : there.zone.number - 1 ≡ k = omega (arith, number) in
        sym
        (ap (λ o. mask_has_zone (masks (panel_of o)) o) there.is
        ∙ ap (λ p. has_bit (masks p) (there.zone.number - 1)) there.panel_is
        ∙ ap (has_bit (masks q)) same)

-- a panel of the site is told of as its word tells
pub told_of : (site : Site) (q : ℕ) (words : ℕ → Word) → IsPanel site q → (words q).fault ≡ (facts_of_words site words).faulty q
told_of site q words p = rw (le-leb 1 q p.0, le-leb q site.panels p.1) refl
