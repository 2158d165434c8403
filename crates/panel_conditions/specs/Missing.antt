-- When a point is shown as missing. Points are places in the site's list.
use Rattle.std.specs.Prelude.{ℕ, Bool, false, not, List, [], ◌∷◌, Option, Some, None, slice_get, ◌==◌, ◌&&◌, ◌||◌}
use Rattle.std.specs.Prelude.{if◌then◌else◌}
use Rattle.site_types.specs.declared.site.Site.{Site}
use Rattle.site_types.specs.declared.point.Point.{Point}
use Rattle.site_types.specs.declared.retained.Retained.{Retained}
use Rattle.site_types.specs.Done.{Done, PointOff, ZoneOff, in_force}
use Rattle.coincidence_rules.specs.declared.finding.Finding.{Finding}

-- what the last finding of the point told of it, else what was told before
abbrev pub last_missing : ℕ → Bool → List Finding → Bool
last_missing place was [] = was
last_missing place was (f ∷ rest) = last_missing place (if f.point == place then f.missing else was) rest

-- the last three answers of the point were silent
abbrev pub missing_found : List Finding → ℕ → Bool
missing_found taken place = last_missing place false taken

abbrev pub zone_is_off : Site → Retained → List Done → Option Point → ℕ → Bool
zone_is_off site kept done None tick = false
zone_is_off site kept done (Some p) tick = in_force site kept (ZoneOff p.zone) tick done

-- the point or its zone is disabled at a tick
abbrev pub is_off : Site → Retained → List Done → ℕ → ℕ → Bool
is_off site kept done place tick = in_force site kept (PointOff place) tick done
    || zone_is_off site kept done (slice_get site.points place) tick

-- the point is shown as missing at a tick
abbrev pub shows_missing : Site → Retained → List Done → List Finding → ℕ → ℕ → Bool
shows_missing site kept done taken tick place =
    missing_found taken place && not (is_off site kept done place tick)
