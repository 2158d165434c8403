use Rattle.std.proofs.Common.{◌∙◌}
use Rattle.site_config.proofs.CleanDrafts.{named_so, told_twice}
use Rattle.site_config.proofs.reading.names_in.Goals as goal

pub returns-clause-told : goal.returns-clause-told
returns-clause-told c =
    told_twice c.check_claims.result c.args.draft.now c.as_slice.result.now c.as_slice-2.result.now c.as_slice.ensures c.in_ok-check_loops.ensures
    (c.as_slice-2.ensures.value ∙ c.in_ok-claims.ensures) c.check_claims.ensures.told

pub returns-clause-named : goal.returns-clause-named
returns-clause-named c =
    let claims = c.as_slice-2.ensures.value ∙ c.in_ok-claims.ensures in
    let told =
    told_twice c.check_claims.result c.args.draft.now c.as_slice.result.now c.as_slice-2.result.now c.as_slice.ensures c.in_ok-check_loops.ensures
    claims c.check_claims.ensures.told in
    named_so c.check_claims.result c.args.draft.now c.as_slice-2.result.now c.requires told claims c.check_claims.ensures.named
