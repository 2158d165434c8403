-- Which operations undo what a point's answers gave to coincidences.
use Rattle.std.specs.Prelude.{ℕ, ◌&&◌, ◌||◌, nat_le, Bool, true, false, List, Option, Some, None, slice_get}
use Rattle.std.specs.List.{list_any}
use Rattle.site_types.specs.declared.point.Point.{Point}
use Rattle.site_types.specs.declared.rule.Rule.{Rule}
use Rattle.site_types.specs.declared.rule.Rule.TheVariants.{Plain, A, B, C}
use Rattle.site_types.specs.declared.site.Site.{Site}
use Rattle.site_types.specs.Done.{Done, cancels, moves_floor}
use Rattle.coincidence_rules.specs.Places.{rule_of}
use Rattle.caused_zones.specs.declared.cause.Cause.{Cause}
use Rattle.caused_zones.specs.declared.point_mark.PointMark.{PointMark}
use Rattle.caused_zones.specs.Causes.{cause_ended}
use Rattle.caused_zones.specs.Marks.{no_mark}

abbrev pub is_type_B : Option Rule → Bool
is_type_B None = false
is_type_B (Some Plain) = false
is_type_B (Some (A verify within)) = false
is_type_B (Some (B within)) = true
is_type_B (Some C) = false

-- in a zone that is what moves its floor, and for type B a cancelling too
abbrev pub undoes_in : Site → ℕ → Done → Bool
undoes_in site zone d =
    moves_floor site zone d || (is_type_B (rule_of (slice_get site.zones zone)) && cancels zone d)

abbrev pub undoes_of : Site → Option Point → Done → Bool
undoes_of site None d = false
undoes_of site (Some p) d = undoes_in site p.zone d

abbrev pub undoes_at : Site → ℕ → Done → Bool
undoes_at site place d = undoes_of site (slice_get site.points place) d

-- an operation of a kind was done in a tick or later
abbrev pub was_undone : (Done → Bool) → ℕ → List Done → Bool
was_undone test first done = list_any (λ d. test d && nat_le first d.tick) done

-- the mark of a point, and the cause of a zone, after an operation
abbrev pub mark_unless : Bool → PointMark → PointMark
mark_unless true mark = no_mark
mark_unless false mark = mark

abbrev pub cause_unless : Bool → ℕ → Cause → Cause
cause_unless true at cause = cause_ended at cause
cause_unless false at cause = cause
