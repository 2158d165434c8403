-- The outputs that are due to be on and aren't.
use Rattle.std.proofs.Common.{◌≡◌, ◌∙◌, ◌-◌, ◌<◌, ◌↔◌, ◌&&◌, not, ℕ, Bool, true, false, List, refl, sym, ap, subst, arith, length, get_or, Option, Some, None, slice_get}
use Rattle.site_types.specs.declared.output.Output.{Output}
use Rattle.site_types.specs.declared.retained.Retained.{Retained}
use Rattle.site_types.specs.declared.site.Site.{Site}
use Rattle.site_types.specs.Bits.{has_bit}
use Rattle.site_types.specs.Done.{Done}
use Rattle.face_text.specs.declared.face.Face.{Face}
use Rattle.face_text.specs.declared.timeline.Timeline.{Timeline}
use Rattle.face_text.specs.Faces.{empty_face}
use Rattle.panel_rules.specs.Moments.{TickBlock, moments, tick_of}
use Rattle.audit_rules.specs.Shown.{text_tells_output}
use Rattle.run_text.proofs.TickTimes.{tick_moments}
use Rattle.due_outputs.specs.DueOn.{IsDueUnexcused}
use Rattle.panel_audit.specs.declared.numbered.Numbered.{Numbered}
use Rattle.panel_audit.specs.Broken.{IsDark}
use Rattle.panel_audit.specs.Lowest.{MarkedLowest}
use Rattle.panel_audit.specs.Places.{FirstPlace}
use Rattle.panel_audit.specs.Scans.{AreFacesAfter}
use Rattle.panel_audit.proofs.WrittenMarks.{first_marked}

-- what the faces show of an output, as its bit
abbrev pub on_by : List Face → Output → Bool
on_by faces output = has_bit (get_or faces (output.panel - 1) (empty_face output.panel)).outputs (output.number - 1)

-- it is what the text tells
pub told_on : (timeline : Timeline) (faces : List Face) (ticks : List TickBlock) (output : Output) → AreFacesAfter timeline (length ticks) faces
    → on_by faces output ≡ text_tells_output timeline output (tick_of (moments ticks))
told_on timeline faces ticks output are =
    ap (λ all. on_by all output) are ∙ ap (text_tells_output timeline output) (sym (tick_moments ticks))

pub one_output : (one other : Output) (at : Option Output) → at ≡ Some one → at ≡ Some other → one ≡ other
one_output one other at is are = cc

-- marks that tell of each place whether something holds there
pub scanned : (outputs : List Numbered) (Holds : ℕ → Type 0) (marks : List Bool) (first : Option ℕ) → length marks ≡ length outputs
    → ((k : ℕ) → k < length marks → (get_or marks k false ≡ true) ↔ Holds k) → MarkedLowest outputs marks first → FirstPlace outputs Holds first
scanned outputs Holds marks first size each = first_marked outputs Holds marks first (λ k low. each k (omega (arith, low, size)))

module _ (site : Site) (kept : Retained) (done : List Done) (timeline : Timeline) (ticks : List TickBlock) (faces : List Face)
    (are : AreFacesAfter timeline (length ticks) faces) (place : ℕ) where
  pub none_dark : slice_get site.outputs place ≡ None → (false ≡ true) ↔ IsDark site kept done timeline (moments ticks) place
  none_dark none = (λ e. absurd (never e), λ dark. absurd (nothing dark.plan (sym none ∙ dark.plan_is)))
    where
      never : false ≡ true → ⊥
      never e = cc

      nothing : (plan : Output) → None ≡ Some plan → ⊥
      nothing plan e = cc

  module _ (output : Output) (is : slice_get site.outputs place ≡ Some output) where
    pub dark_both : (due on : Bool) → (due ≡ true) ↔ IsDueUnexcused site kept done (moments ticks) output.panel place → on ≡ on_by faces output
        → (due && not on ≡ true) ↔ IsDark site kept done timeline (moments ticks) place
    dark_both true true tells shown = (λ e. absurd (never e), λ dark. absurd (lit dark.off (one_output dark.plan output _ dark.plan_is is)))
      where
        never : false ≡ true → ⊥
        never e = cc

        lit : {plan : Output} → text_tells_output timeline plan (tick_of (moments ticks)) ≡ false → plan ≡ output → ⊥
        lit {plan} off same = (let on = shown ∙ told_on timeline faces ticks output are in
            let e : true ≡ false = on ∙ subst (λ p. text_tells_output timeline p (tick_of (moments ticks)) ≡ false) same off in no e)
          where
            no : true ≡ false → ⊥
            no e = cc
    dark_both true false tells shown = (
      λ e. record { plan = output; plan_is = is; due = tells.0 refl; off = sym (told_on timeline faces ticks output are) ∙ sym shown },
      λ dark. refl,
    )
    dark_both false on tells shown = (λ e. absurd (never e), λ dark. absurd (never (tells.1 (due_of dark.plan dark.due (one_output dark.plan output _ dark.plan_is is)))))
      where
        never : false ≡ true → ⊥
        never e = cc

        due_of : (plan : Output) → IsDueUnexcused site kept done (moments ticks) plan.panel place → plan ≡ output
            → IsDueUnexcused site kept done (moments ticks) output.panel place
        due_of plan due same = subst (λ p. IsDueUnexcused site kept done (moments ticks) p.panel place) same due

    pub not_due : (due : Bool) → due ≡ false → (due ≡ true) ↔ IsDueUnexcused site kept done (moments ticks) output.panel place
        → (due ≡ true) ↔ IsDark site kept done timeline (moments ticks) place
    not_due false off tells = dark_both false (on_by faces output) tells refl
    not_due true off tells = cc
