-- The masks of the zones that are due, zone by zone.
use Rattle.std.proofs.Common.{◌≡◌, ◌≢◌, ◌↔◌, ◌≤◌, ◌<◌, ◌+◌, ◌-◌, ◌==◌, inl, inr, ℕ, zero, suc, Bool, true, false, List, Option, Some, None}
use Rattle.std.proofs.Common.{length, get_or, replicate, refl, sym, ◌∙◌, ap, subst, arith, rules}
use Rattle.std.proofs.lemmas.Bool.{cases_lt}
use Rattle.std.proofs.lemmas.Bool.Decides.{eqb_tells}
use Rattle.std.specs.Prelude.{IsTrue, slice_get}
use Rattle.site_types.specs.declared.retained.Retained.{Retained}
use Rattle.site_types.specs.declared.site.Site.{Site}
use Rattle.site_types.specs.declared.zone.Zone.{Zone}
use Rattle.site_types.specs.Bits.{has_bit}
use Rattle.site_types.specs.Done.{Done}
use Rattle.site_types.specs.Valid.{IsValid}
use Rattle.site_types.proofs.Masks.{has_bit-zero}
use Rattle.marker_table.specs.Equations.{zone_bit}
use Rattle.panel_rules.specs.Due.{IsDue, IsDueByHand, IsDueOut}
use Rattle.panel_rules.specs.Moments.{Moment, TickBlock, moments}
use Rattle.panel_rules.specs.Zones.{panel_of}
use Rattle.run_text.proofs.TickTimes.{tick_moments}
use Rattle.joined_panels.specs.Latest.{IsLatestTick}
use Rattle.joined_panels.specs.Windows.{IsWindow}
use Rattle.asked_markers.specs.FactsTold.{TellZones}
use Rattle.asked_markers.specs.Marks.{SetsZone}
use Rattle.due_zones.specs.declared.due_zones.DueZones.{DueZones}
use Rattle.due_zones.specs.declared.least_signals.LeastSignals.{LeastSignals}
use Rattle.due_zones.specs.declared.reach.Reach.{Reach}
use Rattle.due_zones.specs.Deciding.{AreDecisive}
use Rattle.due_zones.specs.Reaching.{HasReach, IsDueFrom, TellsReached}
use Rattle.due_zones.specs.Telling.{AreDueBelow, AreDueZones, TellBelow}

is_true : (b : Bool) → b ≡ true → IsTrue b
is_true true h = search rules
is_true false h = absurd cc

true_is : (b : Bool) → IsTrue b → b ≡ true
true_is true h = refl
true_is false h = search rules

zeros : (n k : ℕ) → ◌≡◌ {A = ℕ} (get_or (replicate n 0) k 0) 0
zeros zero k = refl
zeros (suc n) zero = refl
zeros (suc n) (suc k) = zeros n k

no_zone : (plan : Option Zone) → zone_bit (replicate 8 0) plan ≡ false
no_zone None = refl
no_zone (Some zone) = ap (λ mask. has_bit mask (zone.number - 1)) (zeros 8 (zone.panel - 1)) ∙ has_bit-zero (zone.number - 1)

none_below : (site : Site) (Holds : ℕ → Type 0) → TellBelow site Holds 0 (replicate 8 0)
none_below site Holds zone l = (
  λ h. absurd (let n = no_zone (slice_get site.zones zone) in let e : false ≡ true = sym n ∙ h in cc),
  λ h. let k = h.0 in absurd (omega (arith, k)),
)

pub nothing_below : (site : Site) (kept : Retained) (done : List Done) (moments : List Moment) (panel : ℕ)
    → AreDueBelow site kept done moments panel 0 (record { shown = replicate 8 0; out = replicate 8 0; by_hand = replicate 8 0 })
nothing_below site kept done moments panel = record {
  shown = none_below site (λ zone. IsDue site kept done moments zone panel);
  out = none_below site (λ zone. IsDueOut site kept done moments zone panel);
  by_hand = none_below site (λ zone. IsDueByHand site kept done moments zone panel);
}

module _ (site : Site) (Holds : ℕ → Type 0) (place : ℕ) where
  -- another zone is below the next place where it is below this one
  passes_on : (zone : ℕ) → zone ≢ place → ((zone < place) × Holds zone) ↔ ((zone < place + 1) × Holds zone)
  passes_on zone apart = (
    λ h. (let l = h.0 in omega (arith, l), h.1),
    λ h. (let l = h.0 in nearer zone apart l, h.1),
  )
    where
      nearer : (zone : ℕ) → zone ≢ place → zone < place + 1 → zone < place
      nearer zone apart l = elim (cases_lt zone place) [ inl less ↦ less | inr more ↦ absurd (apart (omega (arith, l, more))) ]

  -- one zone more is told
  one_more : (on : Bool) (old new : List ℕ) → SetsZone site place on old new → IsTrue on ↔ Holds place → TellBelow site Holds place old
      → TellBelow site Holds (place + 1) new
  one_more on old new sets is before zone l =
      elim (eqb_tells zone place) [
        | inl same ↦
            subst (λ z. (zone_bit new (slice_get site.zones z) ≡ true) ↔ ((z < place + 1) × Holds z)) (sym same.1) (
              λ h. (omega arith, is.0 (is_true on (sym sets.this ∙ h))),
              λ h. sets.this ∙ true_is on (is.1 h.1),
            )
        | inr apart ↦
            (let same = sets.others zone l apart.1 in
            let b = before zone l in
            let p = passes_on zone apart.1 in
            (λ h. p.0 (b.0 (sym same ∙ h)), λ h. same ∙ b.1 (p.1 h)))
      ]

  -- one zone more of which it doesn't hold
  none_more : (masks : List ℕ) → (Holds place → ⊥) → TellBelow site Holds place masks → TellBelow site Holds (place + 1) masks
  none_more masks none before zone l =
      elim (eqb_tells zone place) [
        | inl same ↦ (
          λ h. (let k = ((before zone l).0 h).0 in let e = same.1 in absurd (omega (arith, k, e))),
          λ h. absurd (none (subst Holds same.1 h.1)),
        )
        | inr apart ↦
            (let b = before zone l in
            let p = passes_on zone apart.1 in
            (λ h. p.0 (b.0 h), λ h. b.1 (p.1 h)))
      ]

-- ---- the least signals of a zone decide

through : {A B C : Type 0} → A ↔ B → C ↔ B → A ↔ C
through one other = (λ a. other.1 (one.0 a), λ c. one.1 (other.0 c))

-- what a panel hears of the panel of a zone
pub reach_is : (site : Site) (ticks : List TickBlock) (place panel now : ℕ) (zone : Zone) (window : Option ℕ) → slice_get site.zones place ≡ Some zone
    → now ≡ length ticks → IsLatestTick (IsWindow site (moments ticks) zone.panel panel) window
    → HasReach site (moments ticks) place panel (record { format = site.format; tick = now; own = zone.panel == panel; window = window })
reach_is site ticks place panel now zone window at is latest =
    let same = ap panel_of at in
    record {
      format = refl;
      tick = is ∙ sym (tick_moments ticks);
      own = ap (λ n. n == panel) (sym same);
      window = subst (λ n. IsLatestTick (IsWindow site (moments ticks) n panel) window) (sym same) latest;
    }

module _ (site : Site) (kept : Retained) (done : List Done) (moments : List Moment) (panel place : ℕ) (valid : IsValid site) (signals :
    LeastSignals) (are : AreDecisive site kept done moments place signals) (reach : Reach) (has : HasReach site moments place panel reach) where
  -- one zone more is told, of each kind
  pub all_more : (old : DueZones) (a b c : Bool) (shown out by_hand : List ℕ) → TellsReached reach signals.shown a → TellsReached reach signals.out b
      → TellsReached reach signals.by_hand c → SetsZone site place a old.shown shown → SetsZone site place b old.out out
      → SetsZone site place c old.by_hand by_hand → AreDueBelow site kept done moments panel place old
      → AreDueBelow site kept done moments panel (place + 1) (record { shown = shown; out = out; by_hand = by_hand })
  all_more old a b c shown out by_hand x y z p q r below =
      record {
        shown =
            one_more site (λ zone. IsDue site kept done moments zone panel) place a old.shown shown p
            (through (x site kept done moments place panel valid has) (are.shown panel)) below.shown;
        out =
            one_more site (λ zone. IsDueOut site kept done moments zone panel) place b old.out out q
            (through (y site kept done moments place panel valid has) (are.out panel)) below.out;
        by_hand =
            one_more site (λ zone. IsDueByHand site kept done moments zone panel) place c old.by_hand by_hand r
            (through (z site kept done moments place panel valid has) (are.by_hand panel)) below.by_hand;
      }

-- a zone without a signal is not due
pub none_told : (site : Site) (kept : Retained) (done : List Done) (moments : List Moment) (panel place : ℕ) (signals : LeastSignals) (due : DueZones)
    → (answer : Bool) → answer ≡ true → IsTrue answer ↔ ((signals.shown ≡ None) × (signals.out ≡ None) × (signals.by_hand ≡ None))
    → AreDecisive site kept done moments place signals
    → AreDueBelow site kept done moments panel place due → AreDueBelow site kept done moments panel (place + 1) due
none_told site kept done moments panel place signals due answer is tells are below =
    let none = tells.0 (is_true answer is) in
    let From = IsDueFrom site kept done moments place panel in
    record {
      shown =
          none_more site (λ zone. IsDue site kept done moments zone panel) place due.shown (λ h. subst From none.0 ((are.shown panel).0 h)) below.shown;
      out = none_more site (λ zone. IsDueOut site kept done moments zone panel) place due.out (λ h. subst From none.1 ((are.out panel).0 h)) below.out;
      by_hand =
          none_more site (λ zone. IsDueByHand site kept done moments zone panel) place due.by_hand
          (λ h. subst From none.2 ((are.by_hand panel).0 h)) below.by_hand;
    }

told_all : (site : Site) (Holds : ℕ → Type 0) (place : ℕ) (masks : List ℕ) → length site.zones ≤ place → TellBelow site Holds place masks
    → TellZones site Holds masks
told_all site Holds place masks past below zone l = (
  λ h. ((below zone l).0 h).1,
  λ h. (below zone l).1 (omega (arith, l, past), h),
)

pub all_told : (site : Site) (kept : Retained) (done : List Done) (moments : List Moment) (panel place : ℕ) (due : DueZones) → length site.zones ≤ place
    → AreDueBelow site kept done moments panel place due → AreDueZones site kept done moments panel due
all_told site kept done moments panel place due past below = record {
  shown = told_all site (λ zone. IsDue site kept done moments zone panel) place due.shown past below.shown;
  out = told_all site (λ zone. IsDueOut site kept done moments zone panel) place due.out past below.out;
  by_hand = told_all site (λ zone. IsDueByHand site kept done moments zone panel) place due.by_hand past below.by_hand;
}
