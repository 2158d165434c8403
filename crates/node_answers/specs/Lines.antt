-- The lines that a panel by itself answers.
use Rattle.std.specs.Prelude.{ℕ, List, ◌++◌, codes, decimal}
use Rattle.desk_ticks.specs.declared.block_refusal.BlockRefusal.{BlockRefusal}
use Rattle.panel_frames.specs.declared.frame_refusal.FrameRefusal.{FrameRefusal}
use Rattle.panel_frames.specs.declared.frame_refusal.FrameRefusal.TheVariants.{BadLength, BadMagic, OtherSite}
use Rattle.panel_frames.specs.declared.frame_refusal.FrameRefusal.TheVariants.{NotNeighbour, BadGroup, BadWord}

-- the number of the refusal of a frame
abbrev pub frame_refusal_number : FrameRefusal → ℕ
frame_refusal_number BadLength = 1
frame_refusal_number BadMagic = 2
frame_refusal_number OtherSite = 3
frame_refusal_number (NotNeighbour from) = 4
frame_refusal_number (BadGroup group) = 5
frame_refusal_number (BadWord offset) = 6

-- a frame that isn't taken
abbrev pub refused_frame_line : FrameRefusal → List ℕ
refused_frame_line refusal = codes "refused frame " ++ decimal (frame_refusal_number refusal) ++ codes "\n"

-- a block with a refused line: the number of the line and that of the refusal
abbrev pub refused_block_line : BlockRefusal → List ℕ
refused_block_line refusal =
    codes "refused line " ++ decimal refusal.line ++ codes " " ++ decimal refusal.number ++ codes "\n"

-- the block of another tick than the one that is expected
abbrev pub other_tick_line : ℕ → ℕ → List ℕ
other_tick_line expected found =
    codes "expected " ++ decimal expected ++ codes " found " ++ decimal found ++ codes "\n"

-- more bytes than a block may have
abbrev pub too_long_line : List ℕ
too_long_line = codes "refused long\n"
