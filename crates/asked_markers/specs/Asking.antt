-- Outputs that some facts ask for, each of which may be true.
use Rattle.std.specs.Prelude.{◌≡◌, ℕ, true}
use Rattle.site_types.specs.declared.site.Site.{Site}
use Rattle.panel_rules.specs.Markers.{Facts}
use Rattle.panel_rules.specs.Outputs.{is_true_over}

-- each true one of some facts may be true
pub record MayAllBe (Released ByHand Faulty : ℕ → Type 0) (facts : Facts) : Type 0 where
  pub released : (zone : ℕ) → facts.released zone ≡ true → Released zone
  pub by_hand : (zone : ℕ) → facts.by_hand zone ≡ true → ByHand zone
  pub faults : (source : ℕ) → facts.faulty source ≡ true → Faulty source

-- some facts, each true one of which may be true, make the marker of an output true
pub record IsAskedOver (site : Site) (Released ByHand Faulty : ℕ → Type 0) (output : ℕ) : Type 0 where
  pub facts : Facts
  pub may_be : MayAllBe Released ByHand Faulty facts
  pub asks : is_true_over site output facts ≡ true
