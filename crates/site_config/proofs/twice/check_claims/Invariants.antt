use Rattle.std.proofs.Common.{◌≡◌, List, [], drop}
use Rattle.site_config.specs.declared.claim.Claim.{Claim}
use Rattle.site_config.specs.Claims.{first_twice, onto}
use Rattle.site_config.specs.Held.{Holds}
use Rattle.site_config.proofs.twice.check_claims.Given as goal

abbrev pub invariant-claims : goal.invariant-claims
invariant-claims l =
    (before : List Claim) × Holds before l.names l.numbers × (first_twice before (drop l.claim-index l.claims) ≡ first_twice [] l.claims)
    × (onto before (drop l.claim-index l.claims) ≡ onto [] l.claims)
