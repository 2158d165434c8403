use Rattle.std.proofs.Common.{◌≤◌, length, arith}
use Rattle.std.proofs.lemmas.Result.{err_from_is_err_and}
use Rattle.toml.specs.View.{table_view}
use Rattle.site_types.specs.Limits.{site_bytes}
use Rattle.site_document.specs.Walk.{finding}
use Rattle.site_document.proofs.Refused.{refused_by}
use Rattle.site_document.proofs.reading.read_draft.Goals as goal

pub returns-in_err-check_document-clause-refused : goal.returns-in_err-check_document-clause-refused
returns-in_err-check_document-clause-refused c =
    let p = err_from_is_err_and c.from_residual-in_err-check_document.result c.from_residual-in_err-check_document.ensures.1 in
    let short : length c.args.bytes.now ≤ site_bytes = omega arith in
    rw (p.1, p.2) (refused_by finding c.args.bytes.now (table_view c.in_ok-top.top) _ short c.in_ok-top.ensures.document
    c.in_err-check_document.ensures)
