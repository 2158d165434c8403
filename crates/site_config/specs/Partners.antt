-- Partners that aren't mutual.
use Rattle.std.specs.Prelude.{ℕ, ◌&&◌, List, Bool, false, not, Option, Some, None, slice_get, if◌then◌else◌}
use Rattle.std.specs.Str.{bytes_eq}
use Rattle.site_types.specs.declared.named.Thing.{Thing}
use Rattle.site_types.specs.Valid.{is_partner_type}
use Rattle.site_document.specs.declared.draft_zone.DraftZone.{DraftZone}
use Rattle.site_document.specs.Refusals.{Refusal, partner_not_mutual, first_found}
use Rattle.site_config.specs.NoSuch.{zone_place}

abbrev pub zone_at : List DraftZone → Option ℕ → Option DraftZone
zone_at zones None = None
zone_at zones (Some place) = slice_get zones place

abbrev pub is_named : List ℕ → Option (List ℕ) → Bool
is_named name None = false
is_named name (Some other) = bytes_eq other name

-- the partner is another zone, has this one as its partner, and is of the same type
abbrev pub is_mutual : DraftZone → List ℕ → Option DraftZone → Bool
is_mutual zone name None = false
is_mutual zone name (Some partner) = not (bytes_eq name zone.name) && is_named zone.name partner.partner
    && is_partner_type zone.rule partner.rule

abbrev pub mutual_missing : (List ℕ → Option Thing) → List DraftZone → DraftZone → Option (List ℕ)
    → Option Refusal
mutual_missing look zones zone None = None
mutual_missing look zones zone (Some name) =
    if is_mutual zone name (zone_at zones (zone_place (look name))) then None else Some
    (partner_not_mutual zone.name)

unfoldable pub mutual_fault : (List ℕ → Option Thing) → List DraftZone → DraftZone → Option Refusal
mutual_fault look zones zone = mutual_missing look zones zone zone.partner

-- the first zone with a partner that isn't mutual
unfoldable pub unmutual_in : (List ℕ → Option Thing) → List DraftZone → Option Refusal
unmutual_in look zones = first_found (mutual_fault look zones) zones
