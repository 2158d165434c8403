-- What undoes the answers of a zone's points, by the zone's type.
use Rattle.std.proofs.Common.{◌≡◌, ℕ, ◌&&◌, ◌||◌, Bool, true, false, List, [], ◌∷◌, Option, Some, None, slice_get, refl, ◌∙◌, ap}
use Rattle.std.specs.Prelude.{nat_le}
use Rattle.std.proofs.lemmas.Bool.{eqb-true}
use Rattle.site_types.specs.declared.point.Point.{Point}
use Rattle.site_types.specs.declared.rule.Rule.TheVariants.{A, B}
use Rattle.site_types.specs.declared.site.Site.{Site}
use Rattle.site_types.specs.Done.{Done, cancels, moves_floor}
use Rattle.coincidence_rules.specs.Places.{is_of, lies_in, rule_of}
use Rattle.caused_zones.specs.Undoing.{is_type_B, undoes_at, undoes_in, undoes_of, was_undone}

pub undone_same : (f g : Done → Bool) (first : ℕ) (done : List Done) → ((d : Done) → f d ≡ g d) → was_undone f first done ≡ was_undone g first done
undone_same f g first [] same = refl
undone_same f g first (d ∷ done) same =
    ap (λ b. (b && nat_le first d.tick) || was_undone f first done) (same d)
    ∙ ap (λ b. (g d && nat_le first d.tick) || b) (undone_same f g first done same)

undone_either : (f g : Done → Bool) (first : ℕ) (done : List Done)
    → was_undone (λ d. f d || g d) first done ≡ (was_undone f first done || was_undone g first done)
undone_either f g first [] = refl
undone_either f g first (d ∷ done) =
    ap (λ b. ((f d || g d) && nat_le first d.tick) || b) (undone_either f g first done)
    ∙ go (f d) (g d) (nat_le first d.tick) (was_undone f first done) (was_undone g first done)
  where
    go : (a b c x y : Bool) → (((a || b) && c) || (x || y)) ≡ (((a && c) || x) || ((b && c) || y))
    go true true true x y = refl
    go true true false x y = refl
    go true false true x y = refl
    go true false false x y = refl
    go false true true true y = refl
    go false true true false y = refl
    go false true false x y = refl
    go false false c x y = refl

module _ (site : Site) (zone : ℕ) where
  point_of : (o : Option Point) (d : Done) → lies_in zone o ≡ true → undoes_of site o d ≡ undoes_in site zone d
  point_of None d h = absurd cc
  point_of (Some p) d h = ap (λ z. undoes_in site z d) (eqb-true p.zone zone h)

  -- of a point of the zone
  pub undone_at : (point first : ℕ) (done : List Done) → is_of site zone point ≡ true
      → was_undone (undoes_at site point) first done ≡ was_undone (undoes_in site zone) first done
  undone_at point first done h =
      undone_same (undoes_at site point) (undoes_in site zone) first done (λ d. point_of (slice_get site.points point) d h)

  -- in a zone of type A
  pub undone_A : (verify within first : ℕ) (done : List Done) → rule_of (slice_get site.zones zone) ≡ Some (A verify within)
      → was_undone (undoes_in site zone) first done ≡ was_undone (moves_floor site zone) first done
  undone_A verify within first done rule =
      undone_same (undoes_in site zone) (moves_floor site zone) first done
      (λ d. ap (λ o. moves_floor site zone d || (is_type_B o && cancels zone d)) rule ∙ or_none (moves_floor site zone d))
    where
      or_none : (a : Bool) → (a || false) ≡ a
      or_none true = refl
      or_none false = refl

  -- in one of type B
  pub undone_B : (within first : ℕ) (done : List Done) → rule_of (slice_get site.zones zone) ≡ Some (B within)
      → was_undone (undoes_in site zone) first done
      ≡ (was_undone (moves_floor site zone) first done || was_undone (cancels zone) first done)
  undone_B within first done rule =
      undone_same (undoes_in site zone) (λ d. moves_floor site zone d || cancels zone d) first done
      (λ d. ap (λ o. moves_floor site zone d || (is_type_B o && cancels zone d)) rule)
      ∙ undone_either (moves_floor site zone) (cancels zone) first done
