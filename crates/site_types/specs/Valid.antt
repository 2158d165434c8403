-- A site is valid: it is one that a site file can spell.
use Rattle.std.specs.Prelude.{◌≡◌, ◌≢◌, ◌≤◌, ◌<◌, ℕ, Bool, true, false, List, [], ◌∷◌, length, Some, slice_get, All}
use Rattle.std.specs.Prelude.{IsTrue}
use Rattle.std.specs.Cmp.Lexicographic.{slice_cmp}
use Rattle.std.specs.Ordering.{nat_cmp}
use Rattle.std.specs.declared.cmp.Ordering.TheVariants.{Less}
use Rattle.site_types.specs.Names.{is_name}
use Rattle.site_types.specs.Limits.{most_panels, most_loops, most_zones, most_outputs, most_markers, most_terms}
use Rattle.site_types.specs.Limits.{most_codes}
use Rattle.site_types.specs.Profile.{greatest_mains_wait_of, greatest_standby_wait_of, greatest_voltage_wait_of}
use Rattle.site_types.specs.Profile.{greatest_charger_wait_of, greatest_delay_of, least_verify_of, greatest_verify_of}
use Rattle.site_types.specs.Profile.{least_within_a_of, least_within_b_of, greatest_within_of, last_address_of}
use Rattle.site_types.specs.Sections.{section_of}
use Rattle.site_types.specs.Things.{name_at}
use Rattle.site_types.specs.declared.site.Site.{Site}
use Rattle.site_types.specs.declared.waits.Waits.{Waits}
use Rattle.site_types.specs.declared.loop_plan.LoopPlan.{LoopPlan}
use Rattle.site_types.specs.declared.zone.Zone.{Zone}
use Rattle.site_types.specs.declared.rule.Rule.{Rule}
use Rattle.site_types.specs.declared.rule.Rule.TheVariants.{Plain, A, B, C}
use Rattle.site_types.specs.declared.point.Point.{Point}
use Rattle.site_types.specs.declared.output.Output.{Output}
use Rattle.site_types.specs.declared.marker.Marker.{Marker}
use Rattle.site_types.specs.declared.combine.Combine.{Combine}
use Rattle.site_types.specs.declared.combine.Combine.TheVariants.{All as AllOf, Any, AtLeast}
use Rattle.site_types.specs.declared.term.Term.{Term}
use Rattle.site_types.specs.declared.term.Term.TheVariants.{Zone as ZoneTerm, Manual, Fault, Marker as MarkerTerm}
use Rattle.site_types.specs.declared.named.Named.{Named}
use Rattle.site_types.specs.declared.named.Thing.{Thing}

-- ---- forms and ranges

-- a number of the site's panels
abbrev pub IsPanel : Site → ℕ → Type 0
IsPanel site panel = (1 ≤ panel) × (panel ≤ site.panels)

pub record AreWaits (format : ℕ) (waits : Waits) : Type 0 where
  pub mains : waits.mains ≤ greatest_mains_wait_of format
  pub standby : waits.standby ≤ greatest_standby_wait_of format
  pub voltage : waits.voltage ≤ greatest_voltage_wait_of format
  pub charger : waits.charger ≤ greatest_charger_wait_of format

-- isolators rise strictly, each above the one before and below the last address
abbrev pub AreIsolators : ℕ → ℕ → List ℕ → Type 0
AreIsolators before last [] = Unit {0}
AreIsolators before last (place ∷ rest) = (before < place) × (place < last) × AreIsolators place last rest

pub record IsLoop (site : Site) (plan : LoopPlan) : Type 0 where
  pub panel : IsPanel site plan.panel
  pub line : (1 ≤ plan.line) × (plan.line ≤ most_loops)
  pub last : (1 ≤ plan.last) × (plan.last ≤ last_address_of site.format)
  pub isolators : AreIsolators 0 plan.last plan.isolators

-- the times of a type of coincidence
abbrev pub IsRule : ℕ → Rule → Type 0
IsRule format Plain = Unit {0}
IsRule format (A verify within) =
    (least_verify_of format ≤ verify) × (verify ≤ greatest_verify_of format)
    × (least_within_a_of format verify ≤ within) × (within ≤ greatest_within_of format)
IsRule format (B within) = (least_within_b_of format ≤ within) × (within ≤ greatest_within_of format)
IsRule format C = Unit {0}

-- types B and C alone may have a partner zone
abbrev pub may_have_partner : Rule → Bool
may_have_partner Plain = false
may_have_partner (A verify within) = false
may_have_partner (B within) = true
may_have_partner C = true

pub record IsZone (site : Site) (zone : Zone) : Type 0 where
  pub name : IsTrue (is_name zone.name.bytes)
  pub panel : IsPanel site zone.panel
  pub number : (1 ≤ zone.number) × (zone.number ≤ most_zones)
  pub rule : IsRule site.format zone.rule
  pub partner : (place : ℕ) → zone.partner ≡ Some place → IsTrue (may_have_partner zone.rule)

pub record IsPoint (site : Site) (point : Point) : Type 0 where
  pub name : IsTrue (is_name point.name.bytes)
  pub panel : IsPanel site point.panel
  pub line : (1 ≤ point.line) × (point.line ≤ most_loops)
  pub address : (1 ≤ point.address) × (point.address ≤ last_address_of site.format)

pub record IsOutput (site : Site) (output : Output) : Type 0 where
  pub name : IsTrue (is_name output.name.bytes)
  pub panel : IsPanel site output.panel
  pub number : (1 ≤ output.number) × (output.number ≤ most_outputs)
  pub delay : output.delay ≤ greatest_delay_of site.format

-- how many terms a marker asks for
abbrev pub IsCombine : ℕ → Combine → Type 0
IsCombine terms AllOf = Unit {0}
IsCombine terms Any = Unit {0}
IsCombine terms (AtLeast count) = (1 ≤ count) × (count ≤ terms)

pub record IsMarker (marker : Marker) : Type 0 where
  pub name : IsTrue (is_name marker.name.bytes)
  pub terms : (1 ≤ length marker.terms) × (length marker.terms ≤ most_terms)
  pub combine : IsCombine (length marker.terms) marker.combine

-- each key of the site file has its form and lies in its range
pub record HasForms (site : Site) : Type 0 where
  pub format : (1 ≤ site.format) × (site.format ≤ 2)
  pub name : IsTrue (is_name site.name.bytes)
  pub panels : (1 ≤ site.panels) × (site.panels ≤ most_panels)
  pub waits : AreWaits site.format site.waits
  pub codes : All (λ (level : List (List ℕ)). length level ≤ most_codes) site.codes
  pub loops : All (IsLoop site) site.loops
  pub zones : All (IsZone site) site.zones
  pub points : All (IsPoint site) site.points
  pub outputs : All (IsOutput site) site.outputs
  pub markers : All IsMarker site.markers
  pub few_markers : length site.markers ≤ most_markers

-- ---- nothing occurs twice

-- no two places of a list have the same key
abbrev pub IsUniqueBy : {X : Type 0} → (X → List ℕ) → List X → Type 0
IsUniqueBy {X} key xs = (j k : ℕ) (a b : X) → slice_get xs j ≡ Some a → slice_get xs k ≡ Some b
    → key a ≡ key b → j ≡ k

abbrev pub loop_key : LoopPlan → List ℕ
loop_key plan = plan.panel ∷ plan.line ∷ []

abbrev pub zone_key : Zone → List ℕ
zone_key zone = zone.panel ∷ zone.number ∷ []

abbrev pub point_key : Point → List ℕ
point_key point = point.panel ∷ point.line ∷ point.address ∷ []

abbrev pub output_key : Output → List ℕ
output_key output = output.panel ∷ output.number ∷ []

-- a name stands for one thing, and a number at a panel for one loop, zone, point or output
pub record HasNoTwins (site : Site) : Type 0 where
  pub names : (s t : Thing) (name : List ℕ) → name_at site s ≡ Some name → name_at site t ≡ Some name → s ≡ t
  pub loops : IsUniqueBy loop_key site.loops
  pub zones : IsUniqueBy zone_key site.zones
  pub points : IsUniqueBy point_key site.points
  pub outputs : IsUniqueBy output_key site.outputs

-- ---- what is named is there

-- the zone at a place, which is of a panel
pub record HasZone (site : Site) (panel place : ℕ) : Type 0 where
  pub zone : Zone
  pub is : slice_get site.zones place ≡ Some zone
  pub at_panel : zone.panel ≡ panel

-- a listed loop that has an address
pub record HasAddress (site : Site) (panel line address : ℕ) : Type 0 where
  pub place : ℕ
  pub plan : LoopPlan
  pub is : slice_get site.loops place ≡ Some plan
  pub at_panel : plan.panel ≡ panel
  pub at_line : plan.line ≡ line
  pub within : address ≤ plan.last

abbrev pub IsTerm : Site → Term → Type 0
IsTerm site (ZoneTerm place) = place < length site.zones
IsTerm site (Manual place) = place < length site.zones
IsTerm site (Fault panel) = IsPanel site panel
IsTerm site (MarkerTerm place) = place < length site.markers

pub record HasReferences (site : Site) : Type 0 where
  pub zone_of_point : All (λ (point : Point). HasZone site point.panel point.zone) site.points
  pub loop_of_point : All (λ (point : Point). HasAddress site point.panel point.line point.address)
      site.points
  pub partner_of_zone : All (λ (zone : Zone). (place : ℕ) → zone.partner ≡ Some place
      → HasZone site zone.panel place) site.zones
  pub marker_of_output : All (λ (output : Output). output.marker < length site.markers) site.outputs
  pub terms : All (λ (marker : Marker). All (IsTerm site) marker.terms) site.markers

-- ---- sections and partners

-- two points on a loop
pub record AreOnLoop (plan : LoopPlan) (p q : Point) : Type 0 where
  pub panels : (p.panel ≡ plan.panel) × (q.panel ≡ plan.panel)
  pub lines : (p.line ≡ plan.line) × (q.line ≡ plan.line)

-- points of one section of a loop are of one zone
abbrev pub SectionsCrossNoZones : Site → Type 0
SectionsCrossNoZones site =
    All (λ (plan : LoopPlan). All (λ (p : Point). All (λ (q : Point). AreOnLoop plan p q →
    section_of plan.isolators p.address ≡ section_of plan.isolators q.address → p.zone ≡ q.zone) site.points)
    site.points) site.loops

-- two zones are both of type B, or both of type C, as partners are
abbrev pub is_partner_type : Rule → Rule → Bool
is_partner_type (B x) (B y) = true
is_partner_type C C = true
is_partner_type x y = false

-- a partner is another zone, of the same type, and has this one as its partner
pub record IsMutual (place : ℕ) (zone : Zone) (other : ℕ) (partner : Zone) : Type 0 where
  pub apart : other ≢ place
  pub back : partner.partner ≡ Some place
  pub same_type : IsTrue (is_partner_type zone.rule partner.rule)

abbrev pub PartnersAreMutual : Site → Type 0
PartnersAreMutual site = (place other : ℕ) (zone partner : Zone) →
    slice_get site.zones place ≡ Some zone → zone.partner ≡ Some other
    → slice_get site.zones other ≡ Some partner → IsMutual place zone other partner

-- ---- the list of names

-- a list of names rises strictly by their bytes
abbrev pub IsRising : List Named → Type 0
IsRising names = (j k : ℕ) (a b : Named) → j < k → slice_get names j ≡ Some a → slice_get names k ≡ Some b →
    slice_cmp nat_cmp a.name.bytes b.name.bytes ≡ Less

-- the names rise, each is its thing's, and each thing's name is there
pub record AreNames (site : Site) : Type 0 where
  pub rising : IsRising site.names
  pub right : All (λ (named : Named). name_at site named.thing ≡ Some named.name.bytes) site.names
  pub whole : (thing : Thing) (name : List ℕ) → name_at site thing ≡ Some name →
      (k : ℕ) × (named : Named) × (slice_get site.names k ≡ Some named) × (named.thing ≡ thing)

pub record IsValid (site : Site) : Type 0 where
  pub forms : HasForms site
  pub twins : HasNoTwins site
  pub references : HasReferences site
  pub sections : SectionsCrossNoZones site
  pub partners : PartnersAreMutual site
  pub names : AreNames site
