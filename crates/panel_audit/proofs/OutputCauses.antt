-- The outputs that are on and can have no cause.
use Rattle.std.proofs.Common.{◌≡◌, ◌≢◌, ◌∙◌, ◌+◌, ◌-◌, ◌<◌, ◌≤◌, ◌↔◌, not, ℕ, zero, suc, Bool, true, false, List}
use Rattle.std.proofs.Common.{refl, sym, ap, subst, arith, length, get_or, replicate, set, Some, None, slice_get, inl, inr}
use Rattle.std.proofs.lemmas.List.{length-set}
use Rattle.site_types.specs.declared.output.Output.{Output}
use Rattle.site_types.specs.declared.retained.Retained.{Retained}
use Rattle.site_types.specs.declared.site.Site.{Site}
use Rattle.site_types.specs.Bits.{has_bit}
use Rattle.site_types.proofs.Masks.{has_bit-zero}
use Rattle.site_types.specs.Done.{Done}
use Rattle.face_text.specs.declared.face.Face.{Face}
use Rattle.face_text.specs.declared.timeline.Timeline.{Timeline}
use Rattle.face_text.specs.Faces.{empty_face}
use Rattle.panel_rules.specs.Moments.{TickBlock, moments, tick_of}
use Rattle.audit_rules.specs.CanCause.{CanBeOn}
use Rattle.audit_rules.specs.Shown.{text_tells_output}
use Rattle.blocked_points.specs.declared.done_operation.DoneOperation.{DoneOperation}
use Rattle.joined_panels.specs.declared.joined_panels.JoinedPanels.{JoinedPanels}
use Rattle.joined_panels.specs.Stands.{StandsFor as JoinedStandsFor}
use Rattle.asked_markers.specs.declared.asked_markers.AskedMarkers.{AskedMarkers}
use Rattle.asked_markers.specs.Solved.{GoesBy}
use Rattle.shown_causes.specs.declared.shown_causes.ShownCauses.{ShownCauses}
use Rattle.shown_causes.specs.Heard.{StandsFor as CausesStand, TellAllHeard}
use Rattle.panel_audit.specs.Broken.{IsBaseless}
use Rattle.panel_audit.specs.Scans.{AreFacesAfter, HaveHeard, HeardSolved, IsHeardAt}
use Rattle.panel_audit.proofs.OutputsNotOn.{on_by, one_output, told_on}
use Rattle.panel_audit.proofs.TicksJudged.{row_is, row_within}

module _ (site : Site) (causes : ShownCauses) (joined : JoinedPanels) (faces : List Face) where
  -- the markers of a panel that shows no output as on stay
  pub heard_nothing : (place : ℕ) (asked : AskedMarkers) → GoesBy site asked.facts asked → (get_or faces place (empty_face (place + 1))).outputs ≡ 0
      → IsHeardAt site causes joined faces place asked
  heard_nothing place asked goes none = record { solved = goes; told = λ some. absurd (some none) }

  -- the panels below a place have heard, the markers of the others are solved
  pub record HeardBelow (place : ℕ) (heard : List AskedMarkers) : Type 0 where
    pub size : length heard ≡ 8
    pub below : (k : ℕ) (asked : AskedMarkers) → k < place → slice_get heard k ≡ Some asked → IsHeardAt site causes joined faces k asked
    pub above : (k : ℕ) (asked : AskedMarkers) → place ≤ k → slice_get heard k ≡ Some asked → GoesBy site asked.facts asked

  pub heard_none : (heard : List AskedMarkers) → HeardSolved site heard → HeardBelow 0 heard
  heard_none heard solved = record {
    size = solved.size;
    below = λ k asked low. absurd (omega (arith, low));
    above = λ k asked low is. solved.each k asked is;
  }

  pub heard_all : (place : ℕ) (heard : List AskedMarkers) → 8 ≤ place → HeardBelow place heard → HaveHeard site causes joined faces heard
  heard_all place heard past below = record {
    size = below.size;
    each = λ k asked is. (let low = row_within heard k asked is in let size = below.size in below.below k asked (omega (arith, low, size, past)) is);
  }

  pub heard_more : (place : ℕ) (heard : List AskedMarkers) (old new : AskedMarkers) → slice_get heard place ≡ Some old → place < 8
      → (GoesBy site old.facts old → IsHeardAt site causes joined faces place new) → HeardBelow place heard → HeardBelow (place + 1) (set heard place new)
  heard_more place heard old new was small hears before = record {
    size = length-set heard place new ∙ before.size;
    below = λ k asked low is.
        elim (row_is heard place new k asked is) [
          | inl h ↦ subst (λ n. IsHeardAt site causes joined faces n asked) (sym h.0)
              (subst (IsHeardAt site causes joined faces place) h.1 (hears (before.above place old (omega arith) was)))
          | inr h ↦ (let apart = h.0 in before.below k asked (omega (arith, low, apart)) h.1)
        ];
    above = λ k asked low is.
        elim (row_is heard place new k asked is) [
          | inl h ↦ (let same = h.0 in absurd (omega (arith, low, same)))
          | inr h ↦ before.above k asked (omega (arith, low)) h.1
        ];
  }

-- the same markers for each panel
pub all_solved : (site : Site) (asked : AskedMarkers) → GoesBy site asked.facts asked → HeardSolved site (replicate 8 asked)
all_solved site asked goes = record { size = refl; each = go 8 }
  where
    go : (n place : ℕ) (one : AskedMarkers) → slice_get (replicate n asked) place ≡ Some one → GoesBy site one.facts one
    go zero place one is = cc
    go (suc n) zero one is = subst (λ a. GoesBy site a.facts a) (some_is is) goes
      where
        some_is : Some asked ≡ Some one → asked ≡ one
        some_is e = cc
    go (suc n) (suc place) one is = go n place one is

pub still_solved : (site : Site) (causes : ShownCauses) (joined : JoinedPanels) (faces : List Face) (heard : List AskedMarkers)
    → HaveHeard site causes joined faces heard → HeardSolved site heard
still_solved site causes joined faces heard have = record {
  size = have.size;
  each = λ place asked is. (have.each place asked is).solved;
}

module _ (site : Site) (kept : Retained) (done : List Done) (timeline : Timeline) (ticks : List TickBlock) (faces : List Face)
    (are : AreFacesAfter timeline (length ticks) faces) (place : ℕ) where
  never : false ≡ true → ⊥
  never e = cc

  pub none_baseless : slice_get site.outputs place ≡ None → (false ≡ true) ↔ IsBaseless site kept done timeline (moments ticks) place
  none_baseless none = (λ e. absurd (never e), λ baseless. absurd (nothing baseless.plan (sym none ∙ baseless.plan_is)))
    where
      nothing : (plan : Output) → None ≡ Some plan → ⊥
      nothing plan e = cc

  module _ (output : Output) (is : slice_get site.outputs place ≡ Some output) where
    same_on : (plan : Output) → slice_get site.outputs place ≡ Some plan → text_tells_output timeline plan (tick_of (moments ticks)) ≡ true
        → on_by faces output ≡ true
    same_on plan plan_is on = told_on timeline faces ticks output are
        ∙ subst (λ p. text_tells_output timeline p (tick_of (moments ticks)) ≡ true) (one_output plan output _ plan_is is) on

    -- an output that is off
    pub off_has_none : (on : Bool) → on ≡ false → on ≡ on_by faces output → (on ≡ true) ↔ IsBaseless site kept done timeline (moments ticks) place
    off_has_none true off shown = cc
    off_has_none false off shown = (
      λ e. absurd (never e),
      λ baseless. shown ∙ same_on baseless.plan baseless.plan_is baseless.on,
    )

    -- one that is on
    pub on_may_have : (on can : Bool) → on ≡ true → on ≡ on_by faces output → (can ≡ true) ↔ CanBeOn site timeline kept done (moments ticks) place
        → (not can ≡ true) ↔ IsBaseless site kept done timeline (moments ticks) place
    on_may_have on true lit shown tells = (λ e. absurd (never e), λ baseless. absurd (baseless.uncaused (tells.0 refl)))
    on_may_have on false lit shown tells = (
      λ e. record {
        plan = output;
        plan_is = is;
        on = sym (told_on timeline faces ticks output are) ∙ sym shown ∙ lit;
        uncaused = λ can. never (tells.1 can);
      },
      λ baseless. refl,
    )

-- where an output is on, the face shows some
pub shows_some : (faces : List Face) (output : Output) (place : ℕ) → place + 1 ≡ output.panel → on_by faces output ≡ true
    → (get_or faces place (empty_face (place + 1))).outputs ≢ 0
shows_some faces output place at on none =
    let back : output.panel - 1 ≡ place = omega (arith, at) in
    let mask : (get_or faces (output.panel - 1) (empty_face output.panel)).outputs ≡ 0 =
    ap (λ n. (get_or faces n (empty_face output.panel)).outputs) back ∙ ap (λ n. (get_or faces place (empty_face n)).outputs) (sym at) ∙ none in
    never (sym (has_bit-zero (output.number - 1)) ∙ ap (λ m. has_bit m (output.number - 1)) (sym mask) ∙ on)
  where
    never : false ≡ true → ⊥
    never e = cc

-- then the panel's markers are solved over all that it may have heard
pub heard_there : (site : Site) (kept : Retained) (operations : List DoneOperation) (timeline : Timeline) (ticks : List TickBlock) (causes : ShownCauses)
    (joined : JoinedPanels) (faces : List Face) (heard : List AskedMarkers) (asked : AskedMarkers) (output : Output) (on : Bool)
    → HaveHeard site causes joined faces heard → CausesStand site kept operations timeline ticks causes → JoinedStandsFor site ticks joined
    → 1 ≤ output.panel → slice_get heard (output.panel - 1) ≡ Some asked → on ≡ true → on ≡ on_by faces output
    → GoesBy site asked.facts asked × TellAllHeard site kept operations timeline ticks output.panel asked.facts
heard_there site kept operations timeline ticks causes joined faces heard asked output on have stand joins some is lit shown =
    let at : output.panel - 1 + 1 ≡ output.panel = omega (arith, some) in
    let there = have.each (output.panel - 1) asked is in (
      there.solved,
      subst (λ n. TellAllHeard site kept operations timeline ticks n asked.facts) at
          (there.told (shows_some faces output (output.panel - 1) at (sym shown ∙ lit)) kept operations timeline ticks stand joins),
    )
