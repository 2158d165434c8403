-- The list of a site's points.
use Rattle.std.proofs.Common.{◌≡◌, ◌≤◌, ◌∙◌, ℕ, List, length, map, take, sym, ap, arith, length-take}
use Rattle.std.proofs.lemmas.List.{length-map}
use Rattle.site_types.specs.Valid.{IsValid}
use Rattle.site_types.specs.declared.site.Site.{Site}
use Rattle.site_types.proofs.ValidSites.{few_points}
use Rattle.service_register.specs.Listed.{listed_row}
use Rattle.service_register.specs.Points.{point_row}
use Rattle.service_register.specs.declared.listed_point.ListedPoint.{ListedPoint}

-- a valid site has so few points that the place of each is a number of two bytes
pub few_listed : (site : Site) (points : List ListedPoint) (count : ℕ) → IsValid site
    → map listed_row points ≡ map (point_row site) (take count site.points) → length points ≤ 65536
few_listed site points count valid is =
    let same : length points ≡ length (take count site.points) =
    sym (length-map points listed_row) ∙ ap length is ∙ length-map (take count site.points) (point_row site) in
    omega (arith, same, length-take count site.points, few_points site valid)
