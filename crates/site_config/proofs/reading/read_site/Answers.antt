use Rattle.std.proofs.lemmas.Result.{IfOk-weaker, err_from_is_err_and}
use Rattle.site_config.proofs.DraftFaults.{accepted, refused, refused_so}
use Rattle.site_config.proofs.Validity.{valid_spelled}
use Rattle.site_config.proofs.reading.read_site.Goals as goal

pub finish-requires : goal.finish-requires
finish-requires c =
    let (doc, a, e) = c.in_ok-draft.ensures.draft in record { document = doc; clean = a.clean; spelled = e }

pub returns-in_err-draft-clause-refused : goal.returns-in_err-draft-clause-refused
returns-in_err-draft-clause-refused c =
    let p = err_from_is_err_and c.from_residual.result c.from_residual.ensures.1 in
    rw (p.1, p.2) (refused_so c.args.bytes.now _ c.in_err-draft.ensures.refused)

pub returns-clause-site : goal.returns-clause-site
returns-clause-site c =
    let (doc, a, e) = c.in_ok-draft.ensures.draft in
    accepted c.finish.result c.args.bytes.now c.in_ok-draft.draft doc a e c.finish.ensures.told c.finish.ensures.site

pub returns-clause-refused : goal.returns-clause-refused
returns-clause-refused c =
    let (doc, a, e) = c.in_ok-draft.ensures.draft in refused c.finish.result c.args.bytes.now c.in_ok-draft.draft doc a e c.finish.ensures.told

pub returns-clause-valid : goal.returns-clause-valid
returns-clause-valid c =
    let (doc, a, e) = c.in_ok-draft.ensures.draft in
    IfOk-weaker c.finish.result _ _ (λ site is. valid_spelled c.args.bytes.now site is)
    (accepted c.finish.result c.args.bytes.now c.in_ok-draft.draft doc a e c.finish.ensures.told c.finish.ensures.site)
