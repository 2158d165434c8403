-- A map of names and a map of numbers hold the claims made.
use Rattle.std.specs.Prelude.{◌≡◌, ℕ, List, String}
use Rattle.std.specs.BTreeMap.{BTreeMap}
use Rattle.std.specs.declared.alloc.Global.{Global}
use Rattle.site_types.specs.declared.named.Thing.{Thing}
use Rattle.site_config.specs.declared.claim.Claim.{Claim}
use Rattle.site_config.specs.Claims.{thing_named, has_number}
use Rattle.site_config.specs.NameMaps.{look_up, is_in}

pub record Holds (before : List Claim) (by_name : BTreeMap (String Global) Thing) (by_number :
    BTreeMap (List ℕ) (Unit {0})) : Type 0 where
  pub names : (q : List ℕ) → look_up by_name q ≡ thing_named before q
  pub numbers : (q : List ℕ) → is_in by_number q ≡ has_number before q
