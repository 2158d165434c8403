use Rattle.node_desk.proofs.node_run.NodeRun.send.Goals as goal

pub returns-in-Ok-clause-faults : goal.returns-in-Ok-clause-faults
returns-in-Ok-clause-faults g c =
    record { later = c.in-Ok.ensures.cause.later; failed = λ is. absurd cc; not_read = λ is. absurd cc }

pub returns-in-Err-clause-faults : goal.returns-in-Err-clause-faults
returns-in-Err-clause-faults g c =
    let cause = c.in-Err.ensures.cause in
    record { later = cause.later; failed = λ is. cause.failed; not_read = λ is. absurd cc }
