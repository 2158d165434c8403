use Rattle.std.proofs.Common.{◌≡◌, map, None, sym, ap, ◌∙◌}
use Rattle.std.proofs.lemmas.Result.{err_from_is_err_and}
use Rattle.site_config.specs.Crossing.{crossing_in, spot_of}
use Rattle.site_config.specs.NameMaps.{look_up}
use Rattle.site_config.specs.Partners.{unmutual_in}
use Rattle.site_config.proofs.ByName.{nothing, placed, references_said}
use Rattle.site_config.proofs.reading.finish.Goals as goal

pub returns-in_err-check_references-clause-told : goal.returns-in_err-check_references-clause-told
returns-in_err-check_references-clause-told c =
    let p = err_from_is_err_and c.from_residual-in_err-check_references.result c.from_residual-in_err-check_references.ensures.1 in
    rw (p.1, p.2)
    (references_said c.args.draft (look_up c.in_ok-names.names) _ c.in_ok-names.ensures.named c.in_ok-names.ensures.told
    c.in_err-check_references.ensures)

pub returns-clause-told : goal.returns-clause-told
returns-clause-told c =
    let stand : c.as_slice-2.result.now ≡ map (spot_of (look_up c.in_ok-names.names)) c.args.draft.points =
    c.as_slice-2.ensures.value ∙ c.in_ok-spots.ensures ∙ ap (map (spot_of (look_up c.in_ok-names.names))) c.as_slice.ensures in
    let crossed : crossing_in c.as_slice-2.result.now c.args.draft.loops ≡ None =
    ap (crossing_in c.as_slice-2.result.now) (sym c.as_slice-3.ensures) ∙ c.in_ok-check_sections.ensures in
    let paired : unmutual_in (look_up c.in_ok-names.names) c.args.draft.zones ≡ None =
    ap (unmutual_in (look_up c.in_ok-names.names)) (sym c.as_slice-4.ensures) ∙ c.in_ok-check_mutual.ensures in
    nothing c.args.draft (look_up c.in_ok-names.names) c.as_slice-2.result.now c.in_ok-names.ensures.named c.in_ok-names.ensures.told
    c.in_ok-check_references.ensures stand
    crossed paired

pub returns-clause-site : goal.returns-clause-site
returns-clause-site c =
    placed c.args.draft (look_up c.in_ok-names.names) c.in_ok-place_site.field-0 c.in_ok-names.ensures.named c.in_ok-place_site.ensures.seen
    c.in_ok-place_site.ensures.named
