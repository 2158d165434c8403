use Rattle.std.proofs.Common.{◌∙◌, sym}
use Rattle.panel_frames.proofs.ReadFrames.{read_frame_is}
use Rattle.node_inputs.proofs.input.read_input.Goals as goal

pub returns-in-Ok-clause-grammar : goal.returns-in-Ok-clause-grammar
returns-in-Ok-clause-grammar c =
    read_frame_is c.args.site.now c.args.digest.now c.args.panel c.args.bytes.now c.in-Ok.frame c.note_octets.ensures
    (sym c.read_frame.ensures ∙ c.in-Ok.is)
