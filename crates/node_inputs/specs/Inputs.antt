-- What bytes are that came to a panel by itself.
use Rattle.std.specs.Prelude.{ℕ, ◌==◌, nat_lt, List, [], ◌∷◌, length, Result, Ok, Err, if◌then◌else◌}
use Rattle.site_types.specs.declared.site.Site.{Site}
use Rattle.panel_links.specs.declared.frame.Frame.{Frame}
use Rattle.panel_frames.specs.declared.frame_refusal.FrameRefusal.{FrameRefusal}
use Rattle.panel_frames.specs.Grammar.{IsFrame}
use Rattle.panel_frames.specs.Refusals.{frame_read}
use Rattle.desk_ticks.specs.declared.block_refusal.BlockRefusal.{BlockRefusal}
use Rattle.desk_ticks.specs.Blocks.{most_block_bytes}
use Rattle.node_inputs.specs.declared.input.NodeInput.{NodeInput}
use Rattle.node_inputs.specs.declared.input.NodeInput.TheVariants.{Nothing, Framed, BadFrame, Block, BadBlock, TooLong}
use Rattle.node_inputs.specs.OwnBlocks.{own_verdict_of}

-- bytes that begin with `F` are a frame's
abbrev pub as_frame : Result Frame FrameRefusal → NodeInput
as_frame (Ok frame) = Framed frame
as_frame (Err refusal) = BadFrame refusal

-- others are a tick block's
abbrev pub as_block : Result ℕ BlockRefusal → NodeInput
as_block (Ok tick) = Block tick
as_block (Err refusal) = BadBlock refusal

-- the input
abbrev pub what_came : Site → List ℕ → ℕ → List ℕ → NodeInput
what_came site digest panel [] = Nothing
what_came site digest panel (byte ∷ bytes) =
    if byte == 70 then as_frame (frame_read site digest panel (byte ∷ bytes))
    else if nat_lt most_block_bytes (length (byte ∷ bytes)) then TooLong
    else as_block (own_verdict_of site panel (byte ∷ bytes))

-- a frame that is taken is one that the panel may get
abbrev pub IsOwnInput : Site → ℕ → NodeInput → Type 0
IsOwnInput site panel Nothing = Unit {0}
IsOwnInput site panel (Framed frame) = IsFrame site panel frame
IsOwnInput site panel (BadFrame refusal) = Unit {0}
IsOwnInput site panel (Block tick) = Unit {0}
IsOwnInput site panel (BadBlock refusal) = Unit {0}
IsOwnInput site panel TooLong = Unit {0}
