-- Which zones the answers of a tick confirm, by the marks of points after them.
use Rattle.std.specs.Prelude.{ℕ, ◌-◌, ◌==◌, ◌&&◌, ◌||◌, not, nat_le, nat_lt, Bool, false, List, length}
use Rattle.std.specs.Prelude.{slice_index_or, Option, Some, None, slice_get}
use Rattle.site_types.specs.declared.point.Point.{Point}
use Rattle.site_types.specs.declared.rule.Rule.{Rule}
use Rattle.site_types.specs.declared.rule.Rule.TheVariants.{Plain, A, B, C}
use Rattle.site_types.specs.declared.site.Site.{Site}
use Rattle.coincidence_rules.specs.Confirmed.{is_by_call_point}
use Rattle.coincidence_rules.specs.Places.{is_detector, is_of, on_partner, pairs_up, rule_of}
use Rattle.caused_zones.specs.declared.point_mark.PointMark.{PointMark}
use Rattle.caused_zones.specs.Marks.{passes_below, no_mark}

abbrev pub mark_at : List PointMark → ℕ → PointMark
mark_at marks place = slice_index_or marks place no_mark

-- an answer counted, at most so many ticks ago
abbrev pub is_mark_near : ℕ → ℕ → PointMark → Bool
is_mark_near now within mark = nat_lt 0 mark.last && nat_le (now - mark.last) within

-- the run of a point's askings that lasts began so many ticks ago
abbrev pub is_mark_verified : ℕ → ℕ → PointMark → Bool
is_mark_verified now verify mark = nat_le verify (now - mark.first)

module _ (site : Site) (marks : List PointMark) (now : ℕ) where
  -- another detector of a zone counted, at most so many ticks ago
  abbrev pub is_near_to : ℕ → ℕ → ℕ → ℕ → Bool
  is_near_to within place zone other =
      (is_of site zone other && is_detector site other)
      && (not (other == place) && is_mark_near now within (mark_at marks other))

  abbrev pub some_near_to : ℕ → ℕ → ℕ → Bool
  some_near_to within place zone = passes_below (is_near_to within place zone) (length marks)

  -- what a zone's type asks for is there, for a detector that counts now
  abbrev pub coincides_by : ℕ → Option Rule → ℕ → Bool
  coincides_by zone None place = false
  coincides_by zone (Some Plain) place = is_of site zone place
  coincides_by zone (Some (A verify within)) place =
      is_of site zone place
      && (is_mark_verified now verify (mark_at marks place) || some_near_to within place zone)
  coincides_by zone (Some (B within)) place = pairs_up site zone place (some_near_to within place)
  coincides_by zone (Some C) place = is_of site zone place

  -- a point that counts now confirms a zone
  abbrev pub confirms_by : ℕ → ℕ → Bool
  confirms_by zone place =
      is_by_call_point site zone place
      || (is_detector site place && coincides_by zone (rule_of (slice_get site.zones zone)) place)

  -- the point counts now
  abbrev pub counts_now : ℕ → Bool
  counts_now place = (mark_at marks place).last == now

  abbrev pub touches_of : Option Point → ℕ → Bool
  touches_of None zone = false
  touches_of (Some p) zone = (zone == p.zone) || on_partner site p.zone (λ other. zone == other)

  -- the zone is the point's own one, or that one's partner
  abbrev pub touches : ℕ → ℕ → Bool
  touches place zone = touches_of (slice_get site.points place) zone

  -- an answer of this tick confirms a zone, or calls it by hand
  abbrev pub is_confirmed_now : ℕ → Bool
  is_confirmed_now zone =
      passes_below (λ place. counts_now place && (touches place zone && confirms_by zone place)) (length marks)

  abbrev pub is_called_now : ℕ → Bool
  is_called_now zone = passes_below (λ place. counts_now place && is_by_call_point site zone place) (length marks)
