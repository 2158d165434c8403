-- Zones and outputs by panel and number.
use Rattle.std.specs.Prelude.{◌≡◌, ℕ, List, map}
use Rattle.site_types.specs.declared.output.Output.{Output}
use Rattle.site_types.specs.declared.zone.Zone.{Zone}
use Rattle.panel_audit.specs.declared.numbered.Numbered.{Numbered}

-- each thing of a list at its place, by its panel and its number
pub record AreNumbersOf {X : Type 0} (panel number : X → ℕ) (xs : List X) (things : List Numbered) : Type 0 where
  pub panels : map (λ (thing : Numbered). thing.panel) things ≡ map panel xs
  pub numbers : map (λ (thing : Numbered). thing.number) things ≡ map number xs

abbrev pub AreZoneNumbers : List Zone → List Numbered → Type 0
AreZoneNumbers = AreNumbersOf (λ (zone : Zone). zone.panel) (λ (zone : Zone). zone.number)

abbrev pub AreOutputNumbers : List Output → List Numbered → Type 0
AreOutputNumbers = AreNumbersOf (λ (output : Output). output.panel) (λ (output : Output). output.number)
