-- What is asked for has no body that is too long, and a panel that is asked for is one of the site's.
use Rattle.std.proofs.Common.{◌≡◌, ◌≤◌, ◌+◌, ◌^◌, ℕ, Bool, true, false, List, length, drop, Option, Some, None}
use Rattle.std.proofs.Common.{if◌then◌else◌, refl, ap, subst, arith, length-append, length-take}
use Rattle.std.specs.Prelude.{◌&&◌, nat_le, map}
use Rattle.std.proofs.lemmas.Bool.{and_parts, leb-true}
use Rattle.httparse.specs.Grammar.{print_request}
use Rattle.httparse.specs.Spans.{name_and_value}
use Rattle.desk_requests.proofs.AskedLaws.{route_asked}
use Rattle.desk_requests.specs.Paths.{face_route, route_at, route_found, route_of, the_paths, untested_since}
use Rattle.desk_requests.specs.Taking.{HasWhole, body_of}
use Rattle.desk_requests.specs.declared.paths.Path.{Path}
use Rattle.desk_requests.specs.declared.paths.Path.TheVariants.{Face as AtFace, Ticks as AtTicks, Table as AtTable}
use Rattle.desk_requests.specs.declared.paths.Path.TheVariants.{Visits as AtVisits, Untested as AtUntested, Stop as AtStop}
use Rattle.desk_requests.specs.declared.route.Route.{Route}
use Rattle.desk_requests.specs.declared.route.Route.TheVariants.{Face, Ticks, Table, Visits, Untested, Stop}
use Rattle.desk_requests.specs.declared.taken.Request.{Request}
use Rattle.line_fields.specs.Numbers.{number_below}
use Rattle.matchit.specs.Router.{RouteOf}
use Rattle.matchit.specs.Seek.{first}
use Rattle.panel_desk.specs.Acting.{IsOfSite}
use Rattle.site_types.specs.declared.site.Site.{Site}

some_same : {A : Type 0} (a b : A) → Some a ≡ Some b → a ≡ b
some_same a b e = cc

-- ---- routes

panel_of : (site : Site) (found : Option ℕ) (route : Route) → face_route site.panels found ≡ Some route → IsOfSite site route
panel_of site None route e = absurd cc
panel_of site (Some panel) route e = by (nat_le 1 panel && nat_le panel site.panels) refl e
  where
    by : (b : Bool) → (nat_le 1 panel && nat_le panel site.panels) ≡ b → (if b then Some (Face panel) else None) ≡ Some route → IsOfSite site route
    by true is h =
        let parts = and_parts (nat_le 1 panel) (nat_le panel site.panels) is in
        subst (IsOfSite site) (some_same (Face panel) route h) (leb-true 1 panel parts.0, leb-true panel site.panels parts.1)
    by false is h = absurd cc

day_of : (site : Site) (found : Option ℕ) (route : Route) → untested_since found ≡ Some route → IsOfSite site route
day_of site None route e = absurd cc
day_of site (Some day) route e = subst (IsOfSite site) (some_same (Untested day) route e) tt

at_path : (site : Site) (target : List ℕ) (path : Path) (route : Route) → route_at site.panels target path ≡ Some route → IsOfSite site route
at_path site target AtFace route e = panel_of site (number_below 256 (drop 9 target)) route e
at_path site target AtTicks route e = subst (IsOfSite site) (some_same Ticks route e) tt
at_path site target AtTable route e = subst (IsOfSite site) (some_same Table route e) tt
at_path site target AtVisits route e = subst (IsOfSite site) (some_same Visits route e) tt
at_path site target AtUntested route e = day_of site (number_below (2 ^ 32) (drop 13 target)) route e
at_path site target AtStop route e = subst (IsOfSite site) (some_same Stop route e) tt

found_path : (site : Site) (target : List ℕ) (found : Option (RouteOf Path)) (route : Route) → route_found site.panels target found ≡ Some route
    → IsOfSite site route
found_path site target None route e = absurd cc
found_path site target (Some found) route e = at_path site target found.value route e

-- ---- requests

module _ (site : Site) (bytes : List ℕ) (request : Request) (whole : HasWhole site.panels bytes request) where
  asked : (route_of site.panels whole.head.target ≡ Some request.route) × (request.body ≤ 65536)
  asked =
      route_asked whole.head.method (map name_and_value whole.head.fields) (route_of site.panels whole.head.target)
      request.route request.body whole.judged

  pub is_of_site : IsOfSite site request.route
  is_of_site = found_path site whole.head.target (first the_paths whole.head.target) request.route asked.0

  -- the body stands among the bytes that were read
  pub body_within : request.head + request.body ≤ length bytes
  body_within =
      let long = ap (λ (xs : List ℕ). length xs) whole.begins.reads.1 in
      let sum = length-append (print_request whole.head) whole.rest in
      let behind = whole.behind in
      let fits = whole.whole in
      omega (arith, long, sum, behind, fits)

  pub body_short : length (body_of request bytes) ≤ 65536
  body_short =
      let most = asked.1 in
      let taken = length-take request.body (drop request.head bytes) in
      omega (arith, most, taken)
