-- What operations change of what is retained.
use Rattle.std.proofs.Common.{◌≡◌, ℕ, ◌+◌, ◌-◌, ◌*◌, ◌%◌, ◌^◌, ◌<◌, ◌≤◌, List, ◌∷◌, length, drop, get_or, slice_get}
use Rattle.std.proofs.Common.{Option, Some, None, Bool, true, false, bit_and, bit_or, refl, ◌∙◌, ap, subst, arith}
use Rattle.std.proofs.Common.{add-one, drop-cons}
use Rattle.std.specs.Int.{w8}
use Rattle.std.specs.Int.Bits.{or_zero_r}
use Rattle.std.specs.List.{cons_option}
use Rattle.std.proofs.lemmas.Nat.{and_mask, pow-add}
use Rattle.site_types.specs.declared.change.Change.{Change}
use Rattle.site_types.specs.declared.item.Item.TheVariants.{Point as PointItem, Zone as ZoneItem, Output as OutputItem}
use Rattle.site_types.specs.declared.operation.Operation.{Operation}
use Rattle.site_types.specs.declared.operation.Operation.TheVariants.{Mute, Override, Silence, Resound, Reset, Cancel, Disable, Enable, Test, Untest, Delays, Clear}
use Rattle.site_types.specs.declared.output.Output.{Output}
use Rattle.site_types.specs.declared.point.Point.{Point}
use Rattle.site_types.specs.declared.retained.Retained.{Retained}
use Rattle.site_types.specs.declared.site.Site.{Site}
use Rattle.site_types.specs.declared.zone.Zone.{Zone}
use Rattle.site_types.specs.Bits.{IsPlace, with_bit}
use Rattle.site_types.specs.Changes.{IsNumber, IsPanelNumber, changed_by, operation_change, output_change, point_change, test_change, zone_change}
use Rattle.site_types.specs.Valid.{IsValid}
use Rattle.site_types.proofs.Places.{places_of}
use Rattle.panel_rules.specs.Batches.{changes_of}
use Rattle.plain_operations.specs.declared.request.Request.{Request}
use Rattle.plain_operations.specs.Desks.{all_requests}
use Rattle.plain_operations.specs.Storing.{HasPlace}

some_is : (a b : Change) → Some a ≡ Some b → a ≡ b
some_is a b e = cc

place_point : (o : Option Point) (off : Bool) (change : Change) → ((p : Point) → o ≡ Some p → IsPanelNumber p.panel × IsPlace p.line p.address)
    → point_change o off ≡ Some change → HasPlace change
place_point None off change h e = absurd cc
place_point (Some p) off change h e = subst HasPlace (some_is _ change e) (h p refl)

place_zone : (o : Option Zone) (off : Bool) (change : Change) → ((z : Zone) → o ≡ Some z → IsPanelNumber z.panel × IsNumber z.number)
    → zone_change o off ≡ Some change → HasPlace change
place_zone None off change h e = absurd cc
place_zone (Some z) off change h e = subst HasPlace (some_is _ change e) (h z refl)

place_output : (o : Option Output) (off : Bool) (change : Change) → ((z : Output) → o ≡ Some z → IsPanelNumber z.panel × IsNumber z.number)
    → output_change o off ≡ Some change → HasPlace change
place_output None off change h e = absurd cc
place_output (Some z) off change h e = subst HasPlace (some_is _ change e) (h z refl)

place_test : (o : Option Zone) (on : Bool) (change : Change) → ((z : Zone) → o ≡ Some z → IsPanelNumber z.panel × IsNumber z.number)
    → test_change o on ≡ Some change → HasPlace change
place_test None on change h e = absurd cc
place_test (Some z) on change h e = subst HasPlace (some_is _ change e) (h z refl)

module _ (site : Site) (valid : IsValid site) (panel : ℕ) where
  -- what an operation changes has a place
  pub has_place : (operation : Operation) (change : Change) → operation_change site panel operation ≡ Some change → HasPlace change
  has_place (Disable (PointItem point)) change e = place_point (slice_get site.points point) true change ((places_of site valid).point point) e
  has_place (Disable (ZoneItem zone)) change e = place_zone (slice_get site.zones zone) true change ((places_of site valid).zone zone) e
  has_place (Disable (OutputItem output)) change e = place_output (slice_get site.outputs output) true change ((places_of site valid).output output) e
  has_place (Enable (PointItem point)) change e = place_point (slice_get site.points point) false change ((places_of site valid).point point) e
  has_place (Enable (ZoneItem zone)) change e = place_zone (slice_get site.zones zone) false change ((places_of site valid).zone zone) e
  has_place (Enable (OutputItem output)) change e = place_output (slice_get site.outputs output) false change ((places_of site valid).output output) e
  has_place (Test zone) change e = place_test (slice_get site.zones zone) true change ((places_of site valid).zone zone) e
  has_place (Untest zone) change e = place_test (slice_get site.zones zone) false change ((places_of site valid).zone zone) e
  has_place (Delays on) change e = subst HasPlace (some_is _ change e) tt
  has_place Clear change e = subst HasPlace (some_is _ change e) tt
  has_place Mute change e = absurd cc
  has_place Override change e = absurd cc
  has_place Silence change e = absurd cc
  has_place Resound change e = absurd cc
  has_place Reset change e = absurd cc
  has_place (Cancel zone) change e = absurd cc

-- one operation more
pub next_made : (site : Site) (waiting : List Request) (k : ℕ) (d : Request) (was now : Retained) → k < length waiting
    → ((rest : List Change) → changed_by (cons_option (operation_change site (get_or waiting k d).panel (get_or waiting k d).operation) rest) was
    ≡ changed_by rest now)
    → changed_by (changes_of site (all_requests (drop k waiting))) was ≡ changed_by (changes_of site (all_requests (drop (k + 1) waiting))) now
next_made site waiting k d was now l made =
    ap (λ (xs : List Request). changed_by (changes_of site (all_requests xs)) was) here ∙ made (changes_of site (all_requests (drop (k + 1) waiting)))
  where
    here : drop k waiting ≡ get_or waiting k d ∷ drop (k + 1) waiting
    here = rw (add-one, drop-cons waiting k d) refl

past_byte : (k : ℕ) → 8 ≤ k → 1 * 2 ^ k % 2 ^ 8 ≡ 0
past_byte k far = let parts = ap (λ n. 2 ^ n) (split k far) ∙ pow-add 2 (k - 8) 8 in omega (arith, parts)
  where
    split : (k : ℕ) → 8 ≤ k → k ≡ (k - 8) + 8
    split k far = omega arith

-- a bit past a mask's width is no bit of it
pub bit_gone : (mask k : ℕ) (on : Bool) → mask < 2 ^ 8 → 8 ≤ k → with_bit w8 mask k on ≡ mask
bit_gone mask k true small far = ap (bit_or mask) (past_byte k far) ∙ or_zero_r mask
bit_gone mask k false small far = ap (λ (m : ℕ). bit_and mask (2 ^ 8 - 1 - m)) (past_byte k far) ∙ and_mask mask 8 ∙ within mask small
  where
    within : (mask : ℕ) → mask < 2 ^ 8 → mask % 2 ^ 8 ≡ mask
    within mask small = omega arith
