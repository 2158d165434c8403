-- The zones that a panel shows and that can have no cause.
use Rattle.std.proofs.Common.{◌≡◌, ◌∙◌, ◌+◌, ◌<◌, ◌↔◌, not, ℕ, Bool, true, false, List, refl, sym, ap, subst, arith, length, get_or, Option, Some, slice_get}
use Rattle.std.specs.Prelude.{IsTrue}
use Rattle.site_types.specs.declared.retained.Retained.{Retained}
use Rattle.site_types.specs.declared.site.Site.{Site}
use Rattle.site_types.specs.declared.zone.Zone.{Zone}
use Rattle.face_text.specs.declared.face.Face.{Face}
use Rattle.face_text.specs.declared.timeline.Timeline.{Timeline}
use Rattle.face_text.specs.Faces.{empty_face}
use Rattle.panel_rules.specs.Moments.{TickBlock, moments, tick_of}
use Rattle.run_text.proofs.TickTimes.{tick_moments}
use Rattle.audit_rules.specs.CanCause.{CanBeShown}
use Rattle.audit_rules.specs.Shown.{text_tells_zone}
use Rattle.blocked_points.specs.declared.done_operation.DoneOperation.{DoneOperation}
use Rattle.blocked_points.specs.Operations.{done_newest_first}
use Rattle.joined_panels.specs.declared.joined_panels.JoinedPanels.{JoinedPanels}
use Rattle.joined_panels.specs.Stands.{StandsFor as JoinedStandsFor}
use Rattle.shown_causes.specs.declared.shown_causes.ShownCauses.{ShownCauses}
use Rattle.shown_causes.specs.Heard.{StandsFor as CausesStand}
use Rattle.panel_audit.specs.declared.numbered.Numbered.{Numbered}
use Rattle.panel_audit.specs.Broken.{IsUncaused}
use Rattle.panel_audit.specs.Lowest.{MarkedLowest, is_in_masks}
use Rattle.panel_audit.specs.Numbers.{AreZoneNumbers}
use Rattle.panel_audit.specs.Places.{AreWritten, FirstPlace}
use Rattle.panel_audit.specs.Scans.{AreFacesAfter, MarksUncaused}
use Rattle.panel_audit.proofs.HiddenZones.{shown_is, thing_there}
use Rattle.panel_audit.proofs.WrittenMarks.{first_marked, got_few}
use Rattle.panel_audit.proofs.NumbersTaken.{number_is, of_thing, panel_is}

-- a zone that is shown is uncaused where it can have no cause
pub no_cause : (bit can : Bool) (Can : Type 0) → bit ≡ true → (IsTrue can ↔ Can) → (not can ≡ true) ↔ ((bit ≡ true) × ¬ Can)
no_cause bit true Can on are = (λ h. absurd cc, λ h. absurd (h.1 (are.0 refl)))
no_cause bit false Can on are = (λ h. (on, λ can. (let e = are.1 can in cc)), λ h. refl)

-- one that isn't shown is not
pub not_shown : (bit mark : Bool) (Can : Type 0) → mark ≡ bit → bit ≡ false → (mark ≡ true) ↔ ((bit ≡ true) × ¬ Can)
not_shown bit mark Can is off = (λ on. absurd (let e : false ≡ true = sym off ∙ sym is ∙ on in cc), λ h. is ∙ h.0)

-- each zone that is numbered is one of the site
pub in_site : (site : Site) (zones : List Numbered) (place : ℕ) (thing : Numbered) → AreZoneNumbers site.zones zones → slice_get zones place ≡ Some thing
    → place < length site.zones
in_site site zones place thing numbers is =
    let plan = of_thing (λ (z : Zone). z.panel) (λ (z : Zone). z.number) site.zones zones numbers place thing is in
    got_few site.zones place plan.0 plan.1

module _ (site : Site) (kept : Retained) (operations : List DoneOperation) (timeline : Timeline) (ticks : List TickBlock) (zones : List Numbered) (place : ℕ)
    (numbers : AreZoneNumbers site.zones zones) (faces : List Face) (are : AreFacesAfter timeline (length ticks) faces) where
  abbrev shown_there : List ℕ
  shown_there = (get_or faces place (empty_face (place + 1))).zones

  abbrev Uncaused : ℕ → Type 0
  Uncaused = IsUncaused site kept (done_newest_first operations) timeline (moments ticks) (place + 1)

  abbrev Can : ℕ → Type 0
  Can = CanBeShown site timeline kept (done_newest_first operations) (moments ticks) (place + 1)

  uncauses : (k : ℕ) (thing : Numbered) (plan : Zone) (mark : Bool) → slice_get zones k ≡ Some thing → slice_get site.zones k ≡ Some plan
      → ((mark ≡ true) ↔ ((is_in_masks shown_there thing ≡ true) × ¬ Can k)) → (mark ≡ true) ↔ Uncaused k
  uncauses k thing plan mark is plan_is marked =
      let panel = panel_is (λ (z : Zone). z.panel) (λ (z : Zone). z.number) site.zones zones numbers k thing plan is plan_is in
      let number = number_is (λ (z : Zone). z.panel) (λ (z : Zone). z.number) site.zones zones numbers k thing plan is plan_is in
      let seen = shown_is timeline faces place (length ticks) thing plan are panel number in
      let now : text_tells_zone timeline (place + 1) plan (length ticks) ≡ text_tells_zone timeline (place + 1) plan (tick_of (moments ticks)) =
      ap (text_tells_zone timeline (place + 1) plan) (sym (tick_moments ticks)) in (
        λ on. (let parts = marked.0 on in
            record { plan = plan; plan_is = plan_is; shown = sym now ∙ sym seen ∙ parts.0; uncaused = parts.1 }),
        λ broken. marked.1 (seen ∙ now ∙ same broken.plan broken.plan_is broken.shown, broken.uncaused),
      )
    where
      same : (other : Zone) → slice_get site.zones k ≡ Some other → text_tells_zone timeline (place + 1) other (tick_of (moments ticks)) ≡ true
          → text_tells_zone timeline (place + 1) plan (tick_of (moments ticks)) ≡ true
      same other other_is on = subst (λ z. text_tells_zone timeline (place + 1) z (tick_of (moments ticks)) ≡ true) (some_is (sym other_is ∙ plan_is)) on
        where
          some_is : Some other ≡ Some plan → other ≡ plan
          some_is e = cc

  module _ (causes : ShownCauses) (joined : JoinedPanels) (stand : CausesStand site kept operations timeline ticks causes) (joins : JoinedStandsFor site ticks joined)
    where
      pub panel_scanned : (marks : List Bool) (first : Option ℕ) → length marks ≡ length zones
          → AreWritten (MarksUncaused site zones causes joined (place + 1) shown_there) (length marks) marks → MarkedLowest zones marks first
          → FirstPlace zones Uncaused first
      panel_scanned marks first size written lowest =
          first_marked zones Uncaused marks first
          (λ k low. (
          let at = thing_there zones k low in
          let plan = of_thing (λ (z : Zone). z.panel) (λ (z : Zone). z.number) site.zones zones numbers k at.0 at.1 in
          uncauses k at.0 plan.0 (get_or marks k false) at.1 plan.1
          (written k (omega (arith, low, size)) kept operations timeline ticks at.0 numbers stand joins at.1)))
          lowest

-- the panel at a place
pub shown_scanned : (site : Site) (zones : List Numbered) (causes : ShownCauses) (joined : JoinedPanels) (faces : List Face) (place : ℕ) (marks : List Bool)
    (first : Option ℕ) (shown : List ℕ) → shown ≡ (get_or faces place (empty_face (place + 1))).zones → length marks ≡ length zones
    → AreWritten (MarksUncaused site zones causes joined (place + 1) shown) (length marks) marks → MarkedLowest zones marks first
    → (kept : Retained) (operations : List DoneOperation) (timeline : Timeline) (ticks : List TickBlock) → AreZoneNumbers site.zones zones
    → CausesStand site kept operations timeline ticks causes → JoinedStandsFor site ticks joined → AreFacesAfter timeline (length ticks) faces
    → FirstPlace zones (IsUncaused site kept (done_newest_first operations) timeline (moments ticks) (place + 1)) first
shown_scanned site zones causes joined faces place marks first shown shown_are size written lowest kept operations timeline ticks numbers stand joins are =
    panel_scanned site kept operations timeline ticks zones place numbers faces are causes joined stand joins marks first size
    (subst (λ masks. AreWritten (MarksUncaused site zones causes joined (place + 1) masks) (length marks) marks) shown_are written) lowest
