-- Sections of a loop that hold points of two zones.
use Rattle.std.specs.Prelude.{ℕ, ◌&&◌, ◌==◌, List, [], ◌∷◌, Bool, false, not, Option, Some, None, map, filter}
use Rattle.std.specs.Prelude.{if◌then◌else◌}
use Rattle.std.specs.List.{list_any}
use Rattle.site_types.specs.declared.loop_plan.LoopPlan.{LoopPlan}
use Rattle.site_types.specs.declared.named.Thing.{Thing}
use Rattle.site_types.specs.Sections.{section_of}
use Rattle.site_document.specs.declared.draft_point.DraftPoint.{DraftPoint}
use Rattle.site_document.specs.Refusals.{Refusal, section_crosses_zones, or_later, first_found}
use Rattle.site_config.specs.declared.section_point.SectionPoint.{SectionPoint}
use Rattle.site_config.specs.declared.spot.Spot.{Spot}
use Rattle.site_config.specs.NoSuch.{zone_place}

abbrev pub place_or_zero : Option ℕ → ℕ
place_or_zero None = 0
place_or_zero (Some place) = place

-- where a point stands, with the place of its zone
abbrev pub spot_of : (List ℕ → Option Thing) → DraftPoint → Spot
spot_of look point = record {
  panel = point.panel;
  line = point.line;
  address = point.address;
  zone =
      place_or_zero (zone_place (look point.zone));
}

-- the point is on the loop
abbrev pub is_on : LoopPlan → Spot → Bool
is_on plan spot = (spot.panel == plan.panel) && (spot.line == plan.line)

abbrev pub section_point : LoopPlan → Spot → SectionPoint
section_point plan spot = record { section = section_of plan.isolators spot.address; zone = spot.zone }

-- the points of a loop, each with its section and its zone
unfoldable pub on_loop : LoopPlan → List Spot → List SectionPoint
on_loop plan spots = map (section_point plan) (filter (is_on plan) spots)

-- a point is of another zone than the first
abbrev pub has_two_zones : List SectionPoint → Bool
has_two_zones [] = false
has_two_zones (first ∷ rest) =
    list_any (λ (point : SectionPoint). not (point.zone == first.zone)) (first ∷ rest)

abbrev pub in_section : ℕ → List SectionPoint → List SectionPoint
in_section place points = filter (λ (point : SectionPoint). point.section == place) points

-- the section that begins at a place holds points of two zones
unfoldable pub crossing_at : LoopPlan → List SectionPoint → ℕ → Option Refusal
crossing_at plan points place =
    if has_two_zones (in_section place points) then Some (section_crosses_zones plan.panel plan.line place)
    else None

-- the first such section of a loop, which begins at end A or at an isolator
unfoldable pub loop_crossing : List Spot → LoopPlan → Option Refusal
loop_crossing spots plan =
    or_later (crossing_at plan (on_loop plan spots) 0)
    (first_found (crossing_at plan (on_loop plan spots)) plan.isolators)

-- the first of the loops in their order
unfoldable pub crossing_in : List Spot → List LoopPlan → Option Refusal
crossing_in spots loops = first_found (loop_crossing spots) loops
