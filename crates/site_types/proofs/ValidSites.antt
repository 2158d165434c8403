-- What holds of every valid site: ranges of its parts, and how many there are.
use Rattle.std.proofs.Common.{◌≡◌, ◌≤◌, ◌<◌, ◌+◌, ◌-◌, ◌*◌, ℕ, List, [], ◌∷◌, Some, subst, length, arith}
use Rattle.std.specs.Prelude.{slice_get, All}
use Rattle.std.proofs.lemmas.Option.{get_or_from_slice_get, slice_get_within}
use Rattle.std.proofs.lemmas.List.Elements.{All-weaker}
use Rattle.site_types.specs.declared.site.Site.{Site}
use Rattle.site_types.specs.declared.loop_plan.LoopPlan.{LoopPlan}
use Rattle.site_types.specs.declared.zone.Zone.{Zone}
use Rattle.site_types.specs.declared.point.Point.{Point}
use Rattle.site_types.specs.declared.output.Output.{Output}
use Rattle.site_types.specs.declared.marker.Marker.{Marker}
use Rattle.site_types.specs.declared.term.Term.{Term}
use Rattle.site_types.specs.Bits.{IsPlace}
use Rattle.site_types.specs.Sections.{section_of}
use Rattle.site_types.specs.Valid.{IsValid, IsLoop, IsZone, IsPoint, IsOutput, IsMarker, IsTerm, AreOnLoop, HasZone, HasAddress}
use Rattle.site_types.proofs.Counting.{few}

-- what holds of all holds of the one at a place
pub all_at : {X : Type 0} (P : X → Type 0) (xs : List X) (k : ℕ) (x : X) → All P xs → slice_get xs k ≡ Some x → P x
all_at P xs k x all at = subst P (get_or_from_slice_get xs k x x at) (all k x (slice_get_within xs k x at))

-- ---- the parts at a place

pub loop_at : (site : Site) → IsValid site → (k : ℕ) (plan : LoopPlan) → slice_get site.loops k ≡ Some plan → IsLoop site plan
loop_at site valid k plan at = all_at (IsLoop site) site.loops k plan valid.forms.loops at

pub zone_at : (site : Site) → IsValid site → (k : ℕ) (zone : Zone) → slice_get site.zones k ≡ Some zone → IsZone site zone
zone_at site valid k zone at = all_at (IsZone site) site.zones k zone valid.forms.zones at

pub point_at : (site : Site) → IsValid site → (k : ℕ) (point : Point) → slice_get site.points k ≡ Some point → IsPoint site point
point_at site valid k point at = all_at (IsPoint site) site.points k point valid.forms.points at

pub output_at : (site : Site) → IsValid site → (k : ℕ) (output : Output) → slice_get site.outputs k ≡ Some output → IsOutput site output
output_at site valid k output at = all_at (IsOutput site) site.outputs k output valid.forms.outputs at

pub marker_at : (site : Site) → IsValid site → (k : ℕ) (marker : Marker) → slice_get site.markers k ≡ Some marker → IsMarker marker
marker_at site valid k marker at = all_at IsMarker site.markers k marker valid.forms.markers at

-- ---- ranges in plain numbers

pub zone_numbers : (site : Site) → IsValid site → (k : ℕ) (zone : Zone) → slice_get site.zones k ≡ Some zone →
    (1 ≤ zone.panel) × (zone.panel ≤ 8) × (1 ≤ zone.number) × (zone.number ≤ 32)
zone_numbers site valid k zone at =
    let is = zone_at site valid k zone at in
    let most = valid.forms.panels.1 in
    (is.panel.0, omega (arith, is.panel.1, most), is.number.0, is.number.1)

pub output_numbers : (site : Site) → IsValid site → (k : ℕ) (output : Output) → slice_get site.outputs k ≡ Some output →
    (1 ≤ output.panel) × (output.panel ≤ 8) × (1 ≤ output.number) × (output.number ≤ 32)
output_numbers site valid k output at =
    let is = output_at site valid k output at in
    let most = valid.forms.panels.1 in
    (is.panel.0, omega (arith, is.panel.1, most), is.number.0, is.number.1)

pub loop_numbers : (site : Site) → IsValid site → (k : ℕ) (plan : LoopPlan) → slice_get site.loops k ≡ Some plan →
    (1 ≤ plan.panel) × (plan.panel ≤ 8) × (1 ≤ plan.line) × (plan.line ≤ 4) × (1 ≤ plan.last) × (plan.last ≤ 192)
loop_numbers site valid k plan at =
    let is = loop_at site valid k plan at in
    let most = valid.forms.panels.1 in
    let format = valid.forms.format.1 in
    (is.panel.0, omega (arith, is.panel.1, most), is.line.0, is.line.1, is.last.0, omega (arith, is.last.1, format))

pub point_numbers : (site : Site) → IsValid site → (k : ℕ) (point : Point) → slice_get site.points k ≡ Some point →
    (1 ≤ point.panel) × (point.panel ≤ 8) × IsPlace point.line point.address
point_numbers site valid k point at =
    let is = point_at site valid k point at in
    let most = valid.forms.panels.1 in
    let format = valid.forms.format.1 in
    (is.panel.0, omega (arith, is.panel.1, most), (is.line.0, is.line.1, is.address.0, omega (arith, is.address.1, format)))

-- ---- references

pub zone_of_point : (site : Site) → IsValid site → (k : ℕ) (point : Point) → slice_get site.points k ≡ Some point
    → HasZone site point.panel point.zone
zone_of_point site valid k point at = all_at (λ (p : Point). HasZone site p.panel p.zone) site.points k point valid.references.zone_of_point at

pub loop_of_point : (site : Site) → IsValid site → (k : ℕ) (point : Point) → slice_get site.points k ≡ Some point →
    HasAddress site point.panel point.line point.address
loop_of_point site valid k point at =
    all_at (λ (p : Point). HasAddress site p.panel p.line p.address) site.points k point valid.references.loop_of_point at

pub partner_of_zone : (site : Site) → IsValid site → (k : ℕ) (zone : Zone) (other : ℕ) → slice_get site.zones k ≡ Some zone
    → zone.partner ≡ Some other →
    HasZone site zone.panel other
partner_of_zone site valid k zone other at has =
    all_at (λ (z : Zone). (place : ℕ) → z.partner ≡ Some place → HasZone site z.panel place) site.zones k zone valid.references.partner_of_zone at
    other has

pub marker_of_output : (site : Site) → IsValid site → (k : ℕ) (output : Output) → slice_get site.outputs k ≡ Some output
    → output.marker < length site.markers
marker_of_output site valid k output at =
    all_at (λ (o : Output). o.marker < length site.markers) site.outputs k output valid.references.marker_of_output at

pub term_of_marker : (site : Site) → IsValid site → (k : ℕ) (marker : Marker) (i : ℕ) (term : Term) → slice_get site.markers k ≡ Some marker →
    slice_get marker.terms i ≡ Some term → IsTerm site term
term_of_marker site valid k marker i term at has =
    all_at (IsTerm site) marker.terms i term (all_at (λ (m : Marker). All (IsTerm site) m.terms) site.markers k marker valid.references.terms at) has

-- two points of one section of a loop are of one zone
pub zone_of_section : (site : Site) → IsValid site → (k i j : ℕ) (plan : LoopPlan) (p q : Point) → slice_get site.loops k ≡ Some plan →
    slice_get site.points i ≡ Some p → slice_get site.points j ≡ Some q → AreOnLoop plan p q →
    section_of plan.isolators p.address ≡ section_of plan.isolators q.address → p.zone ≡ q.zone
zone_of_section site valid k i j plan p q at ap aq on same =
    let whole =
    all_at
    (λ (l : LoopPlan).
    All (λ (a : Point). All (λ (b : Point). AreOnLoop l a b → section_of l.isolators a.address ≡ section_of l.isolators b.address
    → a.zone ≡ b.zone) site.points) site.points)
    site.loops k plan valid.sections at in
    let one =
    all_at (λ (a : Point). All (λ (b : Point). AreOnLoop plan a b → section_of plan.isolators a.address ≡ section_of plan.isolators b.address
    → a.zone ≡ b.zone) site.points)
    site.points i p whole ap in
    all_at (λ (b : Point). AreOnLoop plan p b → section_of plan.isolators p.address ≡ section_of plan.isolators b.address
    → p.zone ≡ b.zone) site.points j q one aq on same

-- ---- how many parts there are, at most

two : (a b c d : ℕ) → a ≡ c → b ≡ d → ◌≡◌ {A = List ℕ} (a ∷ b ∷ []) (c ∷ d ∷ [])
two a b c d p q = cc

three : (a b c d e f : ℕ) → a ≡ d → b ≡ e → c ≡ f → ◌≡◌ {A = List ℕ} (a ∷ b ∷ c ∷ []) (d ∷ e ∷ f ∷ [])
three a b c d e f p q r = cc

-- a panel and a number at it, from the number that the two make
apart : (p n q m : ℕ) → 1 ≤ p → 1 ≤ q → 1 ≤ n → 1 ≤ m → n ≤ 32 → m ≤ 32 → 32 * (p - 1) + (n - 1) ≡ 32 * (q - 1) + (m - 1) → (p ≡ q) × (n ≡ m)
apart p n q m p1 q1 n1 m1 n2 m2 same = (omega arith, omega arith)

pub few_zones : (site : Site) → IsValid site → length site.zones ≤ 256
few_zones site valid = few (λ (z : Zone). 32 * (z.panel - 1) + (z.number - 1)) 256 site.zones
    (All-weaker (IsZone site) (λ (z : Zone). 32 * (z.panel - 1) + (z.number - 1) < 256)
    (λ z is. let most = valid.forms.panels.1 in let p = is.panel.1 in let n = is.number in omega (arith, most, p, n)) site.zones valid.forms.zones)
    (λ j k a b p q same.
    let x = zone_numbers site valid j a p in
    let y = zone_numbers site valid k b q in
    let parts = apart a.panel a.number b.panel b.number x.0 y.0 x.2 y.2 x.3 y.3 same in
    valid.twins.zones j k a b p q (two a.panel a.number b.panel b.number parts.0 parts.1))

pub few_outputs : (site : Site) → IsValid site → length site.outputs ≤ 256
few_outputs site valid = few (λ (z : Output). 32 * (z.panel - 1) + (z.number - 1)) 256 site.outputs
    (All-weaker (IsOutput site) (λ (z : Output). 32 * (z.panel - 1) + (z.number - 1) < 256)
    (λ z is. let most = valid.forms.panels.1 in let p = is.panel.1 in let n = is.number in omega (arith, most, p, n)) site.outputs
    valid.forms.outputs)
    (λ j k a b p q same.
    let x = output_numbers site valid j a p in
    let y = output_numbers site valid k b q in
    let parts = apart a.panel a.number b.panel b.number x.0 y.0 x.2 y.2 x.3 y.3 same in
    valid.twins.outputs j k a b p q (two a.panel a.number b.panel b.number parts.0 parts.1))

apart_loops : (p l q m : ℕ) → 1 ≤ p → 1 ≤ q → 1 ≤ l → 1 ≤ m → l ≤ 4 → m ≤ 4 → 4 * (p - 1) + (l - 1) ≡ 4 * (q - 1) + (m - 1) → (p ≡ q) × (l ≡ m)
apart_loops p l q m p1 q1 l1 m1 l2 m2 same = (omega arith, omega arith)

pub few_loops : (site : Site) → IsValid site → length site.loops ≤ 32
few_loops site valid = few (λ (z : LoopPlan). 4 * (z.panel - 1) + (z.line - 1)) 32 site.loops
    (All-weaker (IsLoop site) (λ (z : LoopPlan). 4 * (z.panel - 1) + (z.line - 1) < 32)
    (λ z is. let most = valid.forms.panels.1 in let p = is.panel.1 in let n = is.line in omega (arith, most, p, n)) site.loops valid.forms.loops)
    (λ j k a b p q same.
    let x = loop_numbers site valid j a p in
    let y = loop_numbers site valid k b q in
    let parts = apart_loops a.panel a.line b.panel b.line x.0 y.0 x.2 y.2 x.3 y.3 same in
    valid.twins.loops j k a b p q (two a.panel a.line b.panel b.line parts.0 parts.1))

apart_points : (p l a q m b : ℕ) → 1 ≤ p → 1 ≤ q → IsPlace l a → IsPlace m b →
    768 * (p - 1) + (192 * (l - 1) + (a - 1)) ≡ 768 * (q - 1) + (192 * (m - 1) + (b - 1)) → (p ≡ q) × (l ≡ m) × (a ≡ b)
apart_points p l a q m b p1 q1 x y same =
    let panels : p ≡ q = omega arith in
    let lines : l ≡ m = omega arith in
    (panels, lines, omega arith)

pub few_points : (site : Site) → IsValid site → length site.points ≤ 6144
few_points site valid = few (λ (z : Point). 768 * (z.panel - 1) + (192 * (z.line - 1) + (z.address - 1))) 6144 site.points
    (All-weaker (IsPoint site) (λ (z : Point). 768 * (z.panel - 1) + (192 * (z.line - 1) + (z.address - 1)) < 6144)
    (λ z is. let most = valid.forms.panels.1 in let f = valid.forms.format.1 in let p = is.panel.1 in let l = is.line in let a = is.address in
    omega (arith, most, f, p, l, a)) site.points valid.forms.points)
    (λ j k a b p q same.
    let x = point_numbers site valid j a p in
    let y = point_numbers site valid k b q in
    let parts = apart_points a.panel a.line a.address b.panel b.line b.address x.0 y.0 x.2 y.2 same in
    valid.twins.points j k a b p q (three a.panel a.line a.address b.panel b.line b.address parts.0 parts.1 parts.2))
