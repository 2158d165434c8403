-- A valid site has its points, zones and partners together.
use Rattle.std.proofs.Common.{◌≡◌, ℕ, List, [], ◌∷◌}
use Rattle.site_types.specs.declared.site.Site.{Site}
use Rattle.site_types.specs.Valid.{IsValid}
use Rattle.site_types.proofs.ValidSites.{zone_numbers, point_numbers, zone_of_point, partner_of_zone}
use Rattle.coincidence_rules.specs.Wired.{IsWired}

two : (a b c d : ℕ) → a ≡ c → b ≡ d → ◌≡◌ {A = List ℕ} (a ∷ b ∷ []) (c ∷ d ∷ [])
two a b c d p q = cc

pub wired_of : (site : Site) → IsValid site → IsWired site
wired_of site valid = record {
  points = λ place point is. let p = point_numbers site valid place point is in ((p.0, p.1), p.2);
  zoned = λ place point is. zone_of_point site valid place point is;
  zones = λ place zone is. let z = zone_numbers site valid place zone is in ((z.0, z.1), (z.2, z.3));
  numbered = λ i j one other f g p n. valid.twins.zones i j one other f g (two one.panel one.number other.panel other.number p n);
  partners = λ place other zone is has.
      let there = partner_of_zone site valid place zone other is has in
      let both = valid.partners place other zone there.zone is has there.is in
      record { partner = there.zone; is = there.is; at_panel = there.at_panel; back = both.back; type = both.same_type; apart = both.apart };
}
