use Rattle.site_run.proofs.Results.{on_err, on_ok}
use Rattle.panel_desk.proofs.Sending.{sent}
use Rattle.panel_desk.proofs.writing.send.Goals as goal

pub returns-clause-sends : goal.returns-clause-sends
returns-clause-sends g c site kept ticks stands at_hand =
    let written = c.write_reply-written in
    sent site kept ticks c.args.reply.now (g.K.Stream.written c.args.out.now) (g.K.Stream.written written.new.out) written.result c.served.result
    c.served.ensures (on_ok written.result (λ tells. tells site kept ticks stands at_hand) written.ensures.ok)
    (on_err written.result (λ tells. tells site kept ticks stands at_hand) written.ensures.err)
