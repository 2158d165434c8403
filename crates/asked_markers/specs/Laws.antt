-- What follows for masks that tell all that may be true.
use Rattle.std.specs.Prelude.{◌≡◌, ◌↔◌, ℕ, true}
use Rattle.site_types.specs.declared.site.Site.{Site}
use Rattle.site_types.specs.Valid.{IsValid}
use Rattle.marker_table.specs.declared.facts.Facts.{Facts as Masks}
use Rattle.panel_rules.specs.Markers.{Facts}
use Rattle.panel_rules.specs.Outputs.{is_true_over}
use Rattle.asked_markers.specs.Asking.{IsAskedOver}
use Rattle.asked_markers.specs.FactsTold.{TellAll, facts_told}

-- masks that tell all facts that may be true ask for an output exactly where some facts do that may be true
abbrev pub AllFactsDecide : Type 0
AllFactsDecide =
    (site : Site) (masks : Masks) (may : Facts) (output : ℕ) → IsValid site
    → TellAll site (λ zone. may.released zone ≡ true) (λ zone. may.by_hand zone ≡ true)
    (λ panel. may.faulty panel ≡ true) masks
    → (is_true_over site output (facts_told site masks) ≡ true)
    ↔ IsAskedOver site (λ zone. may.released zone ≡ true) (λ zone. may.by_hand zone ≡ true)
    (λ panel. may.faulty panel ≡ true) output
