use Rattle.std.proofs.Common.{◌≡◌, ◌++◌, drop}
use Rattle.site_config.specs.Claims.{claims_from, kept_place}
use Rattle.site_config.proofs.claims.put_claims.Given as goal

abbrev pub invariant-items : goal.invariant-items
invariant-items g l =
    l.claims.items ++ claims_from (λ place. g.T.Claimant.claims (kept_place place)) l.index (drop l.index l.items)
    ≡ l.initial.claims.items ++ claims_from (λ place. g.T.Claimant.claims (kept_place place)) 0 l.items
