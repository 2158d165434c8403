-- Which markers depend on a fact that changed from one turn of Effect to the next, and how many are evaluated.
use Rattle.std.specs.Prelude.{◌≡◌, ℕ, Bool, true, false, slice_get}
use Rattle.std.specs.List.{list_any}
use Rattle.site_types.specs.declared.site.Site.{Site}
use Rattle.site_types.specs.declared.term.Term.{Term}
use Rattle.site_types.specs.declared.term.Term.TheVariants.{Zone, Manual, Fault, Marker}
use Rattle.marker_table.specs.declared.facts.Facts.{Facts as Masks}
use Rattle.cause_effect.specs.Changes.{DependsOnChanged, RoseByNumberOf, differ}
use Rattle.cause_effect.specs.Cycles.{has_term, terms_of}
use Rattle.panel_rules.specs.Markers.{Facts, hand_facts}
use Rattle.panel_effects.specs.Masks.{hand_masks}

-- a term is a fact that changed: its zone is released, or in alarm by hand, or its panel has a fault, at one of the
-- two times alone
abbrev pub is_changed_fact : Facts → Facts → Term → Bool
is_changed_fact before after (Zone zone) = differ (before.released zone) (after.released zone)
is_changed_fact before after (Manual zone) = differ (before.by_hand zone) (after.by_hand zone)
is_changed_fact before after (Fault panel) = differ (before.faulty panel) (after.faulty panel)
is_changed_fact before after (Marker other) = false

-- a fact that changed is among a marker's terms
abbrev pub has_changed_fact : Site → Facts → Facts → ℕ → Bool
has_changed_fact site before after m =
    list_any (is_changed_fact before after) (terms_of (slice_get site.markers m))

-- a marker depends on a fact that changed: it has it as a term, or has as a term a marker that depends on one
pub data DependsOnChangedFact (site : Site) (before after : Facts) : ℕ → Type 0 where
  at_once : (m : ℕ) → has_changed_fact site before after m ≡ true → DependsOnChangedFact site before after m
  by_marker : (m next : ℕ) → has_term site m next ≡ true → DependsOnChangedFact site before after next
      → DependsOnChangedFact site before after m

-- a count rose by the number of those that are so, and then by the number of those that are so in another way
pub record RoseByBoth (IsSo IsSoToo : ℕ → Type 0) (before after : ℕ) : Type 0 where
  pub between : ℕ
  pub first : RoseByNumberOf IsSo before between
  pub second : RoseByNumberOf IsSoToo between after

-- steps rose by the number of the markers that depend on a fact that changed, and by the number of those that
-- depend on a changed one of what counts by hand
abbrev pub RoseByFacts : Site → Facts → Facts → ℕ → ℕ → Type 0
RoseByFacts site before after =
    RoseByBoth (DependsOnChangedFact site before after)
    (DependsOnChangedFact site (hand_facts before) (hand_facts after))

-- with facts as masks, steps rose by the number of the markers that depend on one that changed, and by the number of
-- those that depend on a changed one of what counts by hand
abbrev pub RoseByMasks : Site → Masks → Masks → ℕ → ℕ → Type 0
RoseByMasks site before after =
    RoseByBoth (DependsOnChanged site before after)
    (DependsOnChanged site (hand_masks before) (hand_masks after))
