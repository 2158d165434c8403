use Rattle.std.proofs.Common.{◌∙◌, refl}
use Rattle.panel_edges.specs.Contents.{Grows, GrowsByFront}
use Rattle.site_run.proofs.Results.{on_err, on_ok}
use Rattle.node_desk.specs.declared.reply.Reply.TheVariants.{Frame, BadFrame, Tick, OtherTick, BadBlock, TooLong}
use Rattle.node_desk.proofs.Written.{tells_as, tells_line}
use Rattle.node_desk.proofs.node_run.NodeRun.write_reply.Goals as goal

pub returns-in-Frame-clause-ok : goal.returns-in-Frame-clause-ok
returns-in-Frame-clause-ok g c =
    on_ok c.write_frame.result
    (λ tells.
    tells_as (Grows (g.K.Stream.written c.args.out.now) (g.K.Stream.written c.write_frame.new.out)) c.args.self.now c.args.reply Frame c.in-Frame.is
    (λ site panel kept before after ticks h hand. tells site panel kept after ticks h))
    c.write_frame.ensures.ok

pub returns-in-Frame-clause-err : goal.returns-in-Frame-clause-err
returns-in-Frame-clause-err g c =
    on_err c.write_frame.result
    (λ tells.
    tells_as (GrowsByFront (g.K.Stream.written c.args.out.now) (g.K.Stream.written c.write_frame.new.out)) c.args.self.now c.args.reply Frame c.in-Frame.is
    (λ site panel kept before after ticks h hand. tells site panel kept after ticks h))
    c.write_frame.ensures.err

pub returns-in-Tick-clause-ok : goal.returns-in-Tick-clause-ok
returns-in-Tick-clause-ok g c =
    on_ok c.write_tick.result
    (λ tells.
    tells_as (Grows (g.K.Stream.written c.args.out.now) (g.K.Stream.written c.write_tick.new.out)) c.args.self.now c.args.reply Tick c.in-Tick.is
    (tells))
    c.write_tick.ensures.ok

pub returns-in-Tick-clause-err : goal.returns-in-Tick-clause-err
returns-in-Tick-clause-err g c =
    on_err c.write_tick.result
    (λ tells.
    tells_as (GrowsByFront (g.K.Stream.written c.args.out.now) (g.K.Stream.written c.write_tick.new.out)) c.args.self.now c.args.reply Tick c.in-Tick.is
    (tells))
    c.write_tick.ensures.err

pub returns-in-BadFrame-clause-ok : goal.returns-in-BadFrame-clause-ok
returns-in-BadFrame-clause-ok g c =
    let Wrote = Grows (g.K.Stream.written c.args.out.now) (g.K.Stream.written c.write_all.new.out) in
    on_ok c.write_all.result
    (λ wrote.
    tells_as Wrote c.args.self.now c.args.reply (BadFrame c.in-BadFrame.refusal) c.in-BadFrame.is
    (tells_line Wrote c.args.self.now (BadFrame c.in-BadFrame.refusal) c.as_bytes.result.now _ (c.as_bytes.ensures.value ∙ c.as_str.ensures.value ∙ c.refused_frame_line.ensures)
    (λ site panel kept digest before after. refl) wrote))
    c.write_all.ensures.ok

pub returns-in-BadFrame-clause-err : goal.returns-in-BadFrame-clause-err
returns-in-BadFrame-clause-err g c =
    let Wrote = GrowsByFront (g.K.Stream.written c.args.out.now) (g.K.Stream.written c.write_all.new.out) in
    on_err c.write_all.result
    (λ wrote.
    tells_as Wrote c.args.self.now c.args.reply (BadFrame c.in-BadFrame.refusal) c.in-BadFrame.is
    (tells_line Wrote c.args.self.now (BadFrame c.in-BadFrame.refusal) c.as_bytes.result.now _ (c.as_bytes.ensures.value ∙ c.as_str.ensures.value ∙ c.refused_frame_line.ensures)
    (λ site panel kept digest before after. refl) wrote))
    c.write_all.ensures.err

pub returns-in-OtherTick-clause-ok : goal.returns-in-OtherTick-clause-ok
returns-in-OtherTick-clause-ok g c =
    let Wrote = Grows (g.K.Stream.written c.args.out.now) (g.K.Stream.written c.write_all-in-OtherTick.new.out) in
    on_ok c.write_all-in-OtherTick.result
    (λ wrote.
    tells_as Wrote c.args.self.now c.args.reply (OtherTick c.in-OtherTick.expected c.in-OtherTick.found) c.in-OtherTick.is
    (tells_line Wrote c.args.self.now (OtherTick c.in-OtherTick.expected c.in-OtherTick.found) c.as_bytes-in-OtherTick.result.now
    _ (c.as_bytes-in-OtherTick.ensures.value ∙ c.as_str-in-OtherTick.ensures.value ∙ c.other_tick_line.ensures)
    (λ site panel kept digest before after. refl) wrote))
    c.write_all-in-OtherTick.ensures.ok

pub returns-in-OtherTick-clause-err : goal.returns-in-OtherTick-clause-err
returns-in-OtherTick-clause-err g c =
    let Wrote = GrowsByFront (g.K.Stream.written c.args.out.now) (g.K.Stream.written c.write_all-in-OtherTick.new.out) in
    on_err c.write_all-in-OtherTick.result
    (λ wrote.
    tells_as Wrote c.args.self.now c.args.reply (OtherTick c.in-OtherTick.expected c.in-OtherTick.found) c.in-OtherTick.is
    (tells_line Wrote c.args.self.now (OtherTick c.in-OtherTick.expected c.in-OtherTick.found) c.as_bytes-in-OtherTick.result.now
    _ (c.as_bytes-in-OtherTick.ensures.value ∙ c.as_str-in-OtherTick.ensures.value ∙ c.other_tick_line.ensures)
    (λ site panel kept digest before after. refl) wrote))
    c.write_all-in-OtherTick.ensures.err

pub returns-in-BadBlock-clause-ok : goal.returns-in-BadBlock-clause-ok
returns-in-BadBlock-clause-ok g c =
    let Wrote = Grows (g.K.Stream.written c.args.out.now) (g.K.Stream.written c.write_all-in-BadBlock.new.out) in
    on_ok c.write_all-in-BadBlock.result
    (λ wrote.
    tells_as Wrote c.args.self.now c.args.reply (BadBlock c.in-BadBlock.refusal) c.in-BadBlock.is
    (tells_line Wrote c.args.self.now (BadBlock c.in-BadBlock.refusal) c.as_bytes-in-BadBlock.result.now
    _ (c.as_bytes-in-BadBlock.ensures.value ∙ c.as_str-in-BadBlock.ensures.value ∙ c.refused_block_line.ensures)
    (λ site panel kept digest before after. refl) wrote))
    c.write_all-in-BadBlock.ensures.ok

pub returns-in-BadBlock-clause-err : goal.returns-in-BadBlock-clause-err
returns-in-BadBlock-clause-err g c =
    let Wrote = GrowsByFront (g.K.Stream.written c.args.out.now) (g.K.Stream.written c.write_all-in-BadBlock.new.out) in
    on_err c.write_all-in-BadBlock.result
    (λ wrote.
    tells_as Wrote c.args.self.now c.args.reply (BadBlock c.in-BadBlock.refusal) c.in-BadBlock.is
    (tells_line Wrote c.args.self.now (BadBlock c.in-BadBlock.refusal) c.as_bytes-in-BadBlock.result.now
    _ (c.as_bytes-in-BadBlock.ensures.value ∙ c.as_str-in-BadBlock.ensures.value ∙ c.refused_block_line.ensures)
    (λ site panel kept digest before after. refl) wrote))
    c.write_all-in-BadBlock.ensures.err

pub returns-in-TooLong-clause-ok : goal.returns-in-TooLong-clause-ok
returns-in-TooLong-clause-ok g c =
    let Wrote = Grows (g.K.Stream.written c.args.out.now) (g.K.Stream.written c.write_all-in-TooLong.new.out) in
    on_ok c.write_all-in-TooLong.result
    (λ wrote.
    tells_as Wrote c.args.self.now c.args.reply TooLong c.in-TooLong.is
    (tells_line Wrote c.args.self.now TooLong c.as_bytes-in-TooLong.result.now _ c.as_bytes-in-TooLong.ensures.value
    (λ site panel kept digest before after. refl) wrote))
    c.write_all-in-TooLong.ensures.ok

pub returns-in-TooLong-clause-err : goal.returns-in-TooLong-clause-err
returns-in-TooLong-clause-err g c =
    let Wrote = GrowsByFront (g.K.Stream.written c.args.out.now) (g.K.Stream.written c.write_all-in-TooLong.new.out) in
    on_err c.write_all-in-TooLong.result
    (λ wrote.
    tells_as Wrote c.args.self.now c.args.reply TooLong c.in-TooLong.is
    (tells_line Wrote c.args.self.now TooLong c.as_bytes-in-TooLong.result.now _ c.as_bytes-in-TooLong.ensures.value
    (λ site panel kept digest before after. refl) wrote))
    c.write_all-in-TooLong.ensures.err
