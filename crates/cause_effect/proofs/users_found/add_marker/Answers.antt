use Rattle.std.proofs.Common.{◌≡◌, ◌==◌, ◌+◌, ◌&&◌, ◌||◌, Option, Some, ap, arith, sym, ◌∙◌}
use Rattle.std.specs.Prelude.{option_copied, slice_get}
use Rattle.std.specs.List.{list_any}
use Rattle.std.proofs.lemmas.Option.{get_or_from_slice_get}
use Rattle.site_types.specs.declared.marker.Marker.{Marker}
use Rattle.marker_table.specs.Equations.{values_of}
use Rattle.marker_table.proofs.Rows.{item_at}
use Rattle.cause_effect.specs.Cycles.{terms_of}
use Rattle.cause_effect.specs.Users.{has_marker, is_user, joins, looks_at}
use Rattle.cause_effect.proofs.Using.{set_more}
use Rattle.cause_effect.proofs.users_found.add_marker.Goals as goal

pub returns-in-Some-clause-users : goal.returns-in-Some-clause-users
returns-in-Some-clause-users c place k =
    let site = c.args.site.now in
    let sets = c.args.sets.now in
    let x = c.args.marker in
    let n = c.args.position in
    let own = values_of c.set.new.self in
    let small = c.ranges.marker.fits in
    let long = c.requires.size in
    let was = item_at sets (512 + x) (omega (arith, small, long)) in
    let found : slice_get site.markers x ≡ Some c.in-Some.marker.now = sym c.get.ensures ∙ ap option_copied c.in-Some.is in
    let held : own k ≡ joins sets x n k =
    set_more (values_of was.0) own n c.set.ensures.this
    (λ m apart. c.set.ensures.others m apart ∙ ap (λ v. values_of v m) (get_or_from_slice_get sets (512 + x) was.0 _ was.1)) k ∙
    ap (λ o. has_marker o k || (k == n)) (sym was.1) in
    c.add_terms.ensures.users place k ∙
    (ap (λ b. is_user sets place k || (b && list_any (looks_at site place) c.as_slice.result.now)) held ∙
    (ap (λ terms. is_user sets place k || (joins sets x n k && list_any (looks_at site place) terms)) c.as_slice.ensures ∙
    ap (λ (o : Option Marker). is_user sets place k || (joins sets x n k && list_any (looks_at site place) (terms_of o))) (sym found)))
