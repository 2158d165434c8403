use Rattle.std.proofs.Common.{◌≡◌, ◌+◌, ◌-◌, ◌<◌, ◌≤◌, ℕ, min, arith}
use Rattle.site_types.specs.Profile.{round_of}
use Rattle.zone_signals.proofs.signals.behind_start.Goals as goal

one_more : (start sum now round : ℕ) → start ≡ now - round → sum ≡ min (start + 1) 18446744073709551615 → now < 18446744073709551616 → 1 ≤ round → 1 ≤ now
    → sum ≡ now - round + 1
one_more start sum now round is more fits some begun = omega (arith, is, more, fits, some, begun)

pub returns : goal.returns
returns c some begun =
    one_more c.round_start.result c.saturating_add.result c.args.now (round_of c.args.site.now.format) c.round_start.ensures c.saturating_add.ensures
    c.ranges.now.fits some begun
