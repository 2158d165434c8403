-- The names and numbers that the zones, points, outputs and markers of a draft claim, in the order of the
-- page, and the first that is claimed twice.
use Rattle.std.specs.Prelude.{ℕ, ◌+◌, ◌||◌, ◌&&◌, ◌==◌, List, [], ◌∷◌, ◌++◌, min, Bool, false, Option, Some, None}
use Rattle.std.specs.Prelude.{is_some, codes, if◌then◌else◌}
use Rattle.std.specs.List.{list_any}
use Rattle.std.specs.Str.{bytes_eq}
use Rattle.site_types.specs.declared.loop_plan.LoopPlan.{LoopPlan}
use Rattle.site_types.specs.declared.named.Thing.{Thing}
use Rattle.site_types.specs.declared.named.Thing.TheVariants.{Point, Zone, Output, Marker}
use Rattle.site_document.specs.declared.draft.Draft.{Draft}
use Rattle.site_document.specs.declared.draft_marker.DraftMarker.{DraftMarker}
use Rattle.site_document.specs.declared.draft_output.DraftOutput.{DraftOutput}
use Rattle.site_document.specs.declared.draft_point.DraftPoint.{DraftPoint}
use Rattle.site_document.specs.declared.draft_zone.DraftZone.{DraftZone}
use Rattle.site_document.specs.declared.row_kind.RowKind.TheVariants as kind
use Rattle.site_document.specs.Refusals.{Refusal, twice, or_later}
use Rattle.site_document.specs.Texts.{key_text}
use Rattle.site_config.specs.declared.claim.Claim.{Claim}

-- what each claims: its name, and its number with its kind, panel and loop
abbrev pub zone_claim : ℕ → DraftZone → Claim
zone_claim place zone =
    record { name = zone.name; number = Some (1 ∷ zone.panel ∷ 0 ∷ zone.number ∷ []); thing = Zone place }

abbrev pub point_claim : ℕ → DraftPoint → Claim
point_claim place point =
    record {
      name = point.name;
      number = Some (2 ∷ point.panel ∷ point.line ∷ point.address ∷ []);
      thing =
          Point place;
    }

abbrev pub output_claim : ℕ → DraftOutput → Claim
output_claim place output =
    record {
      name = output.name;
      number = Some (3 ∷ output.panel ∷ 0 ∷ output.number ∷ []);
      thing =
          Output place;
    }

abbrev pub marker_claim : ℕ → DraftMarker → Claim
marker_claim place marker = record { name = marker.name; number = None; thing = Marker place }

-- the claims of a list, its first item having this place
abbrev pub claims_from : {X : Type 0} → (ℕ → X → Claim) → ℕ → List X → List Claim
claims_from claim place [] = []
claims_from claim place (x ∷ rest) = claim place x ∷ claims_from claim (place + 1) rest

-- the claims of a draft in the order of the page, each with what is kept of its place
abbrev pub claims_by : (ℕ → ℕ) → Draft → List Claim
claims_by keep draft =
    claims_from (λ place. zone_claim (keep place)) 0 draft.zones
    ++ claims_from (λ place. point_claim (keep place)) 0 draft.points
    ++ claims_from (λ place. output_claim (keep place)) 0 draft.outputs
    ++ claims_from (λ place. marker_claim (keep place)) 0 draft.markers

-- the claims of a draft, each with its place
unfoldable pub claims_of : Draft → List Claim
claims_of draft = claims_by (λ place. place) draft

-- what two bytes keep of a place: past the greatest number that they hold, that number
abbrev pub kept_place : ℕ → ℕ
kept_place place = min place 65535

-- what a name stands for by the claims made, the latest first
abbrev pub thing_named : List Claim → List ℕ → Option Thing
thing_named [] name = None
thing_named (claim ∷ before) name =
    if bytes_eq claim.name name then Some claim.thing else thing_named before name

abbrev pub is_number_of : Option (List ℕ) → List ℕ → Bool
is_number_of None number = false
is_number_of (Some claimed) number = bytes_eq claimed number

-- a number was claimed
abbrev pub has_number : List Claim → List ℕ → Bool
has_number [] number = false
has_number (claim ∷ before) number = is_number_of claim.number number || has_number before number

abbrev pub is_number_claimed : List Claim → Option (List ℕ) → Bool
is_number_claimed before None = false
is_number_claimed before (Some number) = has_number before number

-- the name or the number was claimed before
abbrev pub is_claimed : List Claim → Claim → Bool
is_claimed before claim = is_some (thing_named before claim.name) || is_number_claimed before claim.number

-- the first claim that was made before, where these were made already
abbrev pub first_twice : List Claim → List Claim → Option Refusal
first_twice before [] = None
first_twice before (claim ∷ rest) =
    or_later (if is_claimed before claim then Some (twice claim.name) else None)
    (first_twice (claim ∷ before) rest)

-- all claims, the latest first
abbrev pub onto : List Claim → List Claim → List Claim
onto before [] = before
onto before (claim ∷ rest) = onto (claim ∷ before) rest

-- what a name of the draft stands for
unfoldable pub named_in : Draft → List ℕ → Option Thing
named_in draft name = thing_named (onto [] (claims_of draft)) name

abbrev pub is_same_loop : LoopPlan → LoopPlan → Bool
is_same_loop a b = (a.panel == b.panel) && (a.line == b.line)

-- the first loop whose panel and number stand before
abbrev pub loop_twice : List LoopPlan → ℕ → List LoopPlan → Option Refusal
loop_twice before n [] = None
loop_twice before n (plan ∷ rest) =
    or_later
    (if list_any (is_same_loop plan) before then Some
    (twice (key_text (record { kind = kind.Loop; number = n }) (codes "loop"))) else None)
    (loop_twice (before ++ plan ∷ []) (n + 1) rest)

-- a name or a number occurs a second time: the loops first, then zones, points, outputs and markers
unfoldable pub twice_in : Draft → Option Refusal
twice_in draft = or_later (loop_twice [] 1 draft.loops) (first_twice [] (claims_of draft))
