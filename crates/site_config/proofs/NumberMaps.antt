-- What a map of numbers has after one was put in.
use Rattle.std.proofs.Common.{◌≡◌, ℕ, List, Bool, true, false, ◌||◌, Option, Some, is_some, cond, ap, ◌∙◌}
use Rattle.std.proofs.lemmas.Map.Text.{is_eq-slice_cmp}
use Rattle.std.specs.BTreeMap.{BTreeMap, UpdatesBy}
use Rattle.std.specs.Cmp.Lexicographic.{slice_cmp}
use Rattle.std.specs.Ordering.{nat_cmp, is_eq}
use Rattle.std.specs.Str.{bytes_eq}
use Rattle.site_config.specs.NameMaps.{is_in}

joined : (b c : Bool) (o : Option (Unit {0})) → b ≡ c → is_some (cond b (Some tt) o) ≡ (c || is_some o)
joined true c o e = rw (← e)
joined false c o e = rw (← e)

pub put : (n q : List ℕ) (old new : BTreeMap (List ℕ) (Unit {0})) → UpdatesBy (slice_cmp nat_cmp) (slice_cmp nat_cmp n) old new (Some tt)
    → is_in new q ≡ (bytes_eq n q || is_in old q)
put n q old new updates = ap is_some (updates.0 q) ∙ joined (is_eq (slice_cmp nat_cmp n q)) (bytes_eq n q) _ (is_eq-slice_cmp n q)
