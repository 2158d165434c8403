-- Which signals count from the beginning of a round, by the type of the zone.
use Rattle.std.proofs.Common.{◌≡◌, ◌⊎◌, inl, inr, ℕ, List, Some, slice_get, sym, ◌∙◌}
use Rattle.site_types.specs.declared.retained.Retained.{Retained}
use Rattle.site_types.specs.declared.rule.Rule.TheVariants.{Plain, A, B, C}
use Rattle.site_types.specs.declared.site.Site.{Site}
use Rattle.site_types.specs.Done.{Done}
use Rattle.coincidence_rules.specs.Places.{rule_of}
use Rattle.panel_rules.specs.Moments.{Moment}
use Rattle.panel_rules.specs.Due.{DetectorsSignal, PairSignals, PointSignals}
use Rattle.zone_signals.specs.Ended.{RoundSignals, by_one, by_pair, by_two}

module _ (site : Site) (kept : Retained) (done : List Done) (moments : List Moment) (zone last settled : ℕ) where
  pub one_of : (rule_of (slice_get site.zones zone) ≡ Some Plain) ⊎ (rule_of (slice_get site.zones zone) ≡ Some C)
      → RoundSignals site kept done moments zone last settled → PointSignals site kept done moments zone last settled
  one_of rule (by_one signal) = signal
  one_of (inl rule) (by_two signal) = let e = sym rule ∙ signal.rule in absurd (cc)
  one_of (inr rule) (by_two signal) = let e = sym rule ∙ signal.rule in absurd (cc)
  one_of (inl rule) (by_pair signal) = let e = sym rule ∙ signal.rule in absurd (cc)
  one_of (inr rule) (by_pair signal) = let e = sym rule ∙ signal.rule in absurd (cc)

  pub two_of : (verify within : ℕ) → rule_of (slice_get site.zones zone) ≡ Some (A verify within)
      → RoundSignals site kept done moments zone last settled → DetectorsSignal site kept done moments zone last settled
  two_of verify within rule (by_one signal) =
      elim signal.rule [
        | inl plain ↦ (let e = sym rule ∙ plain in absurd (cc))
        | inr second ↦ (let e = sym rule ∙ second in absurd (cc))
      ]
  two_of verify within rule (by_two signal) = signal
  two_of verify within rule (by_pair signal) = let e = sym rule ∙ signal.rule in absurd (cc)

  pub pair_of_round : (within : ℕ) → rule_of (slice_get site.zones zone) ≡ Some (B within)
      → RoundSignals site kept done moments zone last settled → PairSignals site kept done moments zone last settled
  pair_of_round within rule (by_one signal) =
      elim signal.rule [
        | inl plain ↦ (let e = sym rule ∙ plain in absurd (cc))
        | inr second ↦ (let e = sym rule ∙ second in absurd (cc))
      ]
  pair_of_round within rule (by_two signal) = let e = sym rule ∙ signal.rule in absurd (cc)
  pair_of_round within rule (by_pair signal) = signal
