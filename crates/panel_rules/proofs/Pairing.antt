-- Two points that make a pair for a zone.
use Rattle.std.proofs.Common.{◌≡◌, ℕ, Option, Some, None, slice_get, ◌⊎◌, inl, inr, Bool, true, false, not, refl, ◌∙◌}
use Rattle.site_types.specs.declared.site.Site.{Site}
use Rattle.site_types.specs.declared.point.Point.{Point}
use Rattle.coincidence_rules.specs.Places.{is_of, is_manual, is_detector, lies_in, is_call_point, detects, on_zone, partner_of, on_partner, pairs_up}
use Rattle.panel_rules.specs.Zones.{panel_of_zone}
use Rattle.panel_rules.proofs.SiteLayout.{IsLaidOut}
use Rattle.panel_rules.proofs.Bools.{both, parts, either, either_left, either_right}
use Rattle.panel_rules.proofs.Held.{IsAtPanel, at_panel, partner_at}

kinds : (zone : ℕ) (o : Option Point) → lies_in zone o ≡ true → (is_call_point o ≡ true) ⊎ (detects o ≡ true)
kinds zone None h = cc
kinds zone (Some p) h = go p.manual
  where
    go : (b : Bool) → (b ≡ true) ⊎ (not b ≡ true)
    go true = inl refl
    go false = inr refl

-- a point is a manual call point or a detector
pub kind_of : (site : Site) (zone point : ℕ) → is_of site zone point ≡ true → (is_manual site point ≡ true) ⊎ (is_detector site point ≡ true)
kind_of site zone point h = kinds zone (slice_get site.points point) h

on_zone_to : (test other : ℕ → Bool) (o : Option ℕ) → ((zone : ℕ) → test zone ≡ true → other zone ≡ true) → on_zone test o ≡ true
    → on_zone other o ≡ true
on_zone_to test other None to h = h
on_zone_to test other (Some zone) to h = to zone h

-- a partner that passes one test passes another that follows from it
pub partner_to : (site : Site) (zone : ℕ) (test other : ℕ → Bool) → ((z : ℕ) → test z ≡ true → other z ≡ true) → on_partner site zone test ≡ true
    → on_partner site zone other ≡ true
partner_to site zone test other to h = on_zone_to test other (partner_of (slice_get site.zones zone)) to h

-- how two points make a pair for a zone
pub data Pairs (site : Site) (zone point second : ℕ) : Type 0 where
  both_of_it : is_of site zone point ≡ true → is_of site zone second ≡ true → Pairs site zone point second
  second_of_partner : is_of site zone point ≡ true → on_partner site zone (λ other. is_of site other second) ≡ true → Pairs site zone point second
  first_of_partner : on_partner site zone (λ other. is_of site other point) ≡ true → is_of site zone second ≡ true → Pairs site zone point second

pub pairs_of : (site : Site) (zone point second : ℕ) → pairs_up site zone point (λ other. is_of site other second) ≡ true
    → Pairs site zone point second
pairs_of site zone point second h =
    elim (either _ _ h) [
      | inl g ↦
          (let p = parts _ _ g in
          elim (either _ _ p.1) [
            | inl s ↦ both_of_it p.0 s
            | inr s ↦ second_of_partner p.0 s
          ])
      | inr g ↦ (let p = parts _ _ g in first_of_partner p.0 p.1)
    ]

pub of_pairs : (site : Site) (zone point second : ℕ) (test : ℕ → Bool) → ((z : ℕ) → is_of site z second ≡ true → test z ≡ true)
    → Pairs site zone point second → pairs_up site zone point test ≡ true
of_pairs site zone point second test to (both_of_it p s) = either_left _ _ (both _ _ p (either_left _ _ (to zone s)))
of_pairs site zone point second test to (second_of_partner p s) =
    either_left _ _ (both _ _ p (either_right _ _ (partner_to site zone (λ other. is_of site other second) test to s)))
of_pairs site zone point second test to (first_of_partner p s) = either_right _ _ (both _ _ p (to zone s))

pub swapped : (site : Site) (zone point second : ℕ) → Pairs site zone point second → Pairs site zone second point
swapped site zone point second (both_of_it p s) = both_of_it s p
swapped site zone point second (second_of_partner p s) = first_of_partner s p
swapped site zone point second (first_of_partner p s) = second_of_partner s p

-- both are at the zone's panel
pub pair_panels : (site : Site) (zone panel point second : ℕ) → IsLaidOut site → panel_of_zone site zone ≡ panel → Pairs site zone point second
    → IsAtPanel site panel point × IsAtPanel site panel second
pair_panels site zone panel point second laid at (both_of_it p s) =
    (at_panel site zone panel point laid p at, at_panel site zone panel second laid s at)
pair_panels site zone panel point second laid at (second_of_partner p s) =
    let g = partner_at site zone (λ other. is_of site other second) laid s in
    (at_panel site zone panel point laid p at, at_panel site g.other panel second laid g.passes (g.same_panel ∙ at))
pair_panels site zone panel point second laid at (first_of_partner p s) =
    let g = partner_at site zone (λ other. is_of site other point) laid p in
    (at_panel site g.other panel point laid g.passes (g.same_panel ∙ at), at_panel site zone panel second laid s at)
