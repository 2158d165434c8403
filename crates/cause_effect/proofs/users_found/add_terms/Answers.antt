use Rattle.std.proofs.Common.{◌≡◌, ◌||◌, ◌&&◌, ◌∙◌, ◌+◌, ℕ, sym, ap, subst, arith, take, Some}
use Rattle.std.specs.Prelude.{slice_get, slice_set}
use Rattle.std.specs.List.{list_any}
use Rattle.std.proofs.lemmas.List.{length-set}
use Rattle.std.proofs.lemmas.Option.{get_or_from_slice_get}
use Rattle.site_types.specs.Valid.{IsTerm}
use Rattle.marker_table.specs.Equations.{values_of}
use Rattle.marker_table.specs.Table.{input_of}
use Rattle.marker_table.proofs.Rows.{item_at}
use Rattle.cause_effect.specs.Users.{is_user, looks_at, place_of}
use Rattle.cause_effect.proofs.Using.{place_fits, term_added}
use Rattle.cause_effect.proofs.users_found.add_terms.Goals as goal

pub loop-term-preserved : goal.loop-term-preserved
loop-term-preserved c =
    let site = c.args.site.now in
    let terms = c.args.terms.now in
    let own = values_of c.args.own.now in
    let sets = c.loop-term.sets in
    let k = c.loop-term.term-index in
    let set = c.join.new.self in
    let at = item_at terms k c.loop-term-test.true in
    let is : IsTerm site at.0 =
    subst (IsTerm site) (get_or_from_slice_get terms k at.0 at.0 at.1) (c.requires.terms k at.0 c.loop-term-test.true) in
    let same : c.place_of.result ≡ place_of (input_of site at.0) =
    c.place_of.ensures ∙ ap place_of (c.of.ensures ∙ ap (input_of site) (get_or_from_slice_get terms k at.0 _ at.1)) in
    let within = place_fits site c.requires.valid at.0 is in
    let long = c.loop-term.invariant.size in
    let was = item_at sets c.place_of.result (omega (arith, same, within, long)) in
    let joined : (m : ℕ) → values_of set m ≡ (values_of was.0 m || own m) =
    λ m. c.join.ensures m
    ∙ ap (λ v. values_of v m || own m) (get_or_from_slice_get sets c.place_of.result was.0 _ was.1) in
    record {
      size = length-set sets c.place_of.result set ∙ long;
      users = λ p m. subst (λ n. is_user (slice_set sets n set) p m
          ≡ (is_user c.args.sets.now p m || (own m && list_any (looks_at site p) (take (k + 1) terms)))) (sym same)
          (term_added site c.args.sets.now sets terms k own at.0 was.0 set at.1 (omega (arith, within, long))
          (subst (λ n. slice_get sets n ≡ Some was.0) same was.1) joined c.loop-term.invariant.users p m);
    }
