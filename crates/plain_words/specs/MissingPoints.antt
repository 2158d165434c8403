-- Which points a panel shows as missing, and which are in a half of a line: 96 addresses in a row.
use Rattle.std.specs.Prelude.{ℕ, ◌+◌, Bool, ◌==◌, ◌&&◌, List, nat_le, nat_lt, not}
use Rattle.site_types.specs.declared.answer.Answer.{Answer}
use Rattle.site_types.specs.declared.point.Point.{Point}
use Rattle.site_types.specs.declared.retained.Retained.{Retained}
use Rattle.site_types.specs.declared.site.Site.{Site}
use Rattle.site_types.specs.Done.{Done}
use Rattle.coincidence_rules.specs.Missing.{is_missing}
use Rattle.panel_conditions.specs.Missing.{is_off}

-- the point is of the panel and line, and has one of the 96 addresses that come after so many
abbrev pub lies_among : ℕ → ℕ → ℕ → Point → Bool
lies_among panel line past p =
    (p.panel == panel) && ((p.line == line) && (nat_lt past p.address && nat_le p.address (past + 96)))

-- a point is missing by the answers, and neither it nor its zone is disabled at a tick
abbrev pub is_shown_missing : Site → Retained → List Done → List Answer → ℕ → ℕ → Bool
is_shown_missing site kept done answers tick place = is_missing answers place && not (is_off site kept done place tick)
