use Rattle.std.proofs.Common.{◌++◌, subst}
use Rattle.std.proofs.lemmas.Result.{err_from_is_err_and}
use Rattle.panel_edges.specs.Contents.{Grows, GrowsByFront}
use Rattle.panel_edges.proofs.Growing.{grows_more, front_more, front_longer}
use Rattle.site_commands.proofs.Results.{on_err}
use Rattle.site_commands.proofs.site_lines.write_named.Goals as goal

pub returns-in_err-write_all-clause-err : goal.returns-in_err-write_all-clause-err
returns-in_err-write_all-clause-err g c =
    let p = err_from_is_err_and c.from_residual.result c.from_residual.ensures.1 in
    rw p.1
    (front_longer _ _ (c.args.word.now ++ c.args.name.now) c.args.detail.now
    (front_longer _ _ c.args.word.now c.args.name.now
    (subst (λ text. GrowsByFront (g.K.Stream.written c.args.out.now) (g.K.Stream.written c.write_all.new.out) text) c.as_bytes.ensures.value
    c.in_err-write_all.ensures.err)))

pub returns-in_err-write_all-2-clause-err : goal.returns-in_err-write_all-2-clause-err
returns-in_err-write_all-2-clause-err g c =
    let p = err_from_is_err_and c.from_residual-in_err-write_all-2.result c.from_residual-in_err-write_all-2.ensures.1 in
    rw p.1
    (front_longer _ _ (c.args.word.now ++ c.args.name.now) c.args.detail.now
    (front_more _ _ _ c.args.word.now c.args.name.now
    (subst (λ text. Grows (g.K.Stream.written c.args.out.now) (g.K.Stream.written c.write_all.new.out) text) c.as_bytes.ensures.value
    c.in_ok-write_all.ensures.ok)
    (subst (λ text. GrowsByFront (g.K.Stream.written c.write_all.new.out) (g.K.Stream.written c.write_all-2.new.out) text) c.as_bytes-2.ensures.value
    c.in_err-write_all-2.ensures.err)))

pub returns-clause-err : goal.returns-clause-err
returns-clause-err g c =
    on_err c.write_all-3.result
    (λ h. front_more _ _ _ (c.args.word.now ++ c.args.name.now) c.args.detail.now
    (grows_more _ _ _ c.args.word.now c.args.name.now
    (subst (λ text. Grows (g.K.Stream.written c.args.out.now) (g.K.Stream.written c.write_all.new.out) text) c.as_bytes.ensures.value
    c.in_ok-write_all.ensures.ok)
    (subst (λ text. Grows (g.K.Stream.written c.write_all.new.out) (g.K.Stream.written c.write_all-2.new.out) text) c.as_bytes-2.ensures.value
    c.in_ok-write_all-2.ensures.ok))
    (subst (λ text. GrowsByFront (g.K.Stream.written c.write_all-2.new.out) (g.K.Stream.written c.write_all-3.new.out) text)
    c.as_bytes-3.ensures.value h))
    c.write_all-3.ensures.err
