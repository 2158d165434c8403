-- The zones that a panel hides.
use Rattle.std.proofs.Common.{◌≡◌, ◌∙◌, ◌+◌, ◌-◌, ◌<◌, ◌↔◌, ◌&&◌, not, ℕ, zero, suc, Bool, true, false, List, [], ◌∷◌, refl, sym, ap, subst, arith, length, get_or, Option, Some, slice_get}
use Rattle.site_types.specs.declared.retained.Retained.{Retained}
use Rattle.site_types.specs.declared.site.Site.{Site}
use Rattle.site_types.specs.declared.zone.Zone.{Zone}
use Rattle.site_types.specs.Bits.{has_bit}
use Rattle.site_types.specs.Done.{Done}
use Rattle.face_text.specs.declared.face.Face.{Face}
use Rattle.face_text.specs.declared.timeline.Timeline.{Timeline}
use Rattle.face_text.specs.Faces.{empty_face}
use Rattle.marker_table.specs.Equations.{zone_bit}
use Rattle.panel_rules.specs.Due.{IsDue}
use Rattle.panel_rules.specs.Moments.{Moment, tick_of}
use Rattle.audit_rules.specs.Shown.{faces_after, text_tells_zone}
use Rattle.asked_markers.specs.FactsTold.{TellZones}
use Rattle.due_zones.specs.declared.due_zones.DueZones.{DueZones}
use Rattle.due_zones.specs.Telling.{AreDueAtEach}
use Rattle.panel_audit.specs.declared.numbered.Numbered.{Numbered}
use Rattle.panel_audit.specs.Broken.{IsHidden}
use Rattle.panel_audit.specs.Lowest.{MarkedLowest, is_in_masks, is_left}
use Rattle.panel_audit.specs.Numbers.{AreZoneNumbers}
use Rattle.panel_audit.specs.Places.{AreWritten, FirstPlace, IsLeftAt}
use Rattle.panel_audit.specs.Scans.{AreFacesAfter}
use Rattle.panel_audit.proofs.WrittenMarks.{first_marked, got_few}
use Rattle.panel_audit.proofs.NumbersTaken.{number_is, of_thing, panel_is}

pub both_true : (a b : Bool) → (a && b) ≡ true → (a ≡ true) × (b ≡ true)
both_true true b h = (refl, h)
both_true false b h = cc

pub true_both : (a b : Bool) → a ≡ true → b ≡ true → (a && b) ≡ true
true_both true b one other = other
true_both false b one other = cc

pub not_true : (a : Bool) → not a ≡ true → a ≡ false
not_true true h = cc
not_true false h = refl

pub true_not : (a : Bool) → a ≡ false → not a ≡ true
true_not true h = cc
true_not false h = refl

pub thing_there : (xs : List Numbered) (k : ℕ) → k < length xs → (x : Numbered) × (slice_get xs k ≡ Some x)
thing_there [] k low = absurd (omega (arith, low))
thing_there (x ∷ xs) zero low = (x, refl)
thing_there (x ∷ xs) (suc k) low = thing_there xs k (omega (arith, low))

-- the bit of a zone is that of its panel and number
pub bit_is : (masks : List ℕ) (thing : Numbered) (plan : Zone) → thing.panel ≡ plan.panel → thing.number ≡ plan.number
    → is_in_masks masks thing ≡ has_bit (get_or masks (plan.panel - 1) 0) (plan.number - 1)
bit_is masks thing plan panel number =
    ap (λ n. has_bit (get_or masks (n - 1) 0) (thing.number - 1)) panel ∙ ap (λ n. has_bit (get_or masks (plan.panel - 1) 0) (n - 1)) number

-- what a face shows of a zone is what the text tells
pub shown_is : (timeline : Timeline) (faces : List Face) (place tick : ℕ) (thing : Numbered) (plan : Zone) → AreFacesAfter timeline tick faces
    → thing.panel ≡ plan.panel → thing.number ≡ plan.number
    → is_in_masks (get_or faces place (empty_face (place + 1))).zones thing ≡ text_tells_zone timeline (place + 1) plan tick
shown_is timeline faces place tick thing plan are panel number =
    let back : place + 1 - 1 ≡ place = omega arith in
    bit_is (get_or faces place (empty_face (place + 1))).zones thing plan panel number
    ∙ ap (λ all. has_bit (get_or (get_or all place (empty_face (place + 1))).zones (plan.panel - 1) 0) (plan.number - 1)) are
    ∙ ap (λ n. has_bit (get_or (get_or (faces_after tick timeline.opened timeline.steps) n (empty_face (place + 1))).zones (plan.panel - 1) 0) (plan.number - 1)) (sym back)

module _ (site : Site) (kept : Retained) (done : List Done) (timeline : Timeline) (moments : List Moment) (zones : List Numbered) (place : ℕ)
    (numbers : AreZoneNumbers site.zones zones) (faces : List Face) (are : AreFacesAfter timeline (tick_of moments) faces) (due : List ℕ)
    (tells : TellZones site (λ zone. IsDue site kept done moments zone (place + 1)) due) where
  abbrev shown_there : List ℕ
  shown_there = (get_or faces place (empty_face (place + 1))).zones

  hides : (k : ℕ) (thing : Numbered) (plan : Zone) (mark : Bool) → slice_get zones k ≡ Some thing → slice_get site.zones k ≡ Some plan
      → mark ≡ is_left due shown_there thing → (mark ≡ true) ↔ IsHidden site kept done timeline moments (place + 1) k
  hides k thing plan mark is plan_is marked =
      let panel = panel_is (λ (z : Zone). z.panel) (λ (z : Zone). z.number) site.zones zones numbers k thing plan is plan_is in
      let number = number_is (λ (z : Zone). z.panel) (λ (z : Zone). z.number) site.zones zones numbers k thing plan is plan_is in
      let told = tells k (got_few site.zones k plan plan_is) in
      let bit : zone_bit due (slice_get site.zones k) ≡ is_in_masks due thing = ap (zone_bit due) plan_is ∙ sym (bit_is due thing plan panel number) in
      let seen = shown_is timeline faces place (tick_of moments) thing plan are panel number in (
        λ on. (let parts = both_true (is_in_masks due thing) (not (is_in_masks shown_there thing)) (sym marked ∙ on) in
            record { plan = plan; plan_is = plan_is; due = told.0 (bit ∙ parts.0); hidden = sym seen ∙ not_true (is_in_masks shown_there thing) parts.1 }),
        λ hidden. marked ∙ true_both (is_in_masks due thing) (not (is_in_masks shown_there thing)) (sym bit ∙ told.1 hidden.due)
            (true_not (is_in_masks shown_there thing) (seen ∙ same hidden.plan hidden.plan_is hidden.hidden)),
      )
    where
      same : (other : Zone) → slice_get site.zones k ≡ Some other → text_tells_zone timeline (place + 1) other (tick_of moments) ≡ false
          → text_tells_zone timeline (place + 1) plan (tick_of moments) ≡ false
      same other other_is off = subst (λ z. text_tells_zone timeline (place + 1) z (tick_of moments) ≡ false) (some_is (sym other_is ∙ plan_is)) off
        where
          some_is : Some other ≡ Some plan → other ≡ plan
          some_is e = cc

  pub panel_scanned : (marks : List Bool) (first : Option ℕ) → length marks ≡ length zones → AreWritten (IsLeftAt zones due shown_there) (length marks) marks
      → MarkedLowest zones marks first → FirstPlace zones (IsHidden site kept done timeline moments (place + 1)) first
  panel_scanned marks first size written lowest =
      first_marked zones (IsHidden site kept done timeline moments (place + 1)) marks first
      (λ k low. (
      let at = thing_there zones k low in
      let plan = of_thing (λ (z : Zone). z.panel) (λ (z : Zone). z.number) site.zones zones numbers k at.0 at.1 in
      hides k at.0 plan.0 (get_or marks k false) at.1 plan.1 (written k (omega (arith, low, size)) at.0 at.1)))
      lowest

-- the panel at a place, by what is due there
pub place_scanned : (site : Site) (zones : List Numbered) (due : List DueZones) (faces : List Face) (place : ℕ) (row : DueZones) (marks : List Bool)
    (first : Option ℕ) (shown : List ℕ) → slice_get due place ≡ Some row → place < site.panels
    → shown ≡ (get_or faces place (empty_face (place + 1))).zones → length marks ≡ length zones
    → AreWritten (IsLeftAt zones row.shown shown) (length marks) marks → MarkedLowest zones marks first → (kept : Retained) (done : List Done)
    (timeline : Timeline) (moments : List Moment) → AreZoneNumbers site.zones zones → AreDueAtEach site kept done moments due
    → AreFacesAfter timeline (tick_of moments) faces → FirstPlace zones (IsHidden site kept done timeline moments (place + 1)) first
place_scanned site zones due faces place row marks first shown row_is low shown_are size written lowest kept done timeline moments numbers due_are are =
    let back : place + 1 - 1 ≡ place = omega arith in
    let told = due_are (place + 1) row (omega arith, omega (arith, low)) (ap (slice_get due) back ∙ row_is) in
    panel_scanned site kept done timeline moments zones place numbers faces are row.shown told.shown marks first size
    (subst (λ masks. AreWritten (IsLeftAt zones row.shown masks) (length marks) marks) shown_are written) lowest
