-- What printing and reading are to one another.
use Rattle.std.specs.Prelude.{◌≡◌, ◌<◌, ℕ, List, length, slice_index, Ok}
use Rattle.site_types.specs.declared.site.Site.{Site}
use Rattle.panel_links.specs.declared.frame.Frame.{Frame}
use Rattle.panel_frames.specs.Bytes.{frame_bytes}
use Rattle.panel_frames.specs.Grammar.{IsFrame}
use Rattle.panel_frames.specs.Refusals.{frame_read}

-- a frame in the grammar, printed, is read as itself
abbrev pub PrintedFramesAreRead : Type 0
PrintedFramesAreRead = (site : Site) (digest : List ℕ) (at : ℕ) (frame : Frame) → length digest ≡ 32
    → IsFrame site at frame → frame_read site digest at (frame_bytes digest frame) ≡ Ok frame

-- bytes that are read as a frame are those of the frame
abbrev pub ReadBytesArePrinted : Type 0
ReadBytesArePrinted = (site : Site) (digest : List ℕ) (at : ℕ) (bytes : List ℕ) (frame : Frame)
    → ((k : ℕ) → slice_index bytes k < 256) → frame_read site digest at bytes ≡ Ok frame
    → frame_bytes digest frame ≡ bytes

-- bytes that are read as a frame are read as one in the grammar
abbrev pub ReadFramesAreInGrammar : Type 0
ReadFramesAreInGrammar = (site : Site) (digest : List ℕ) (at : ℕ) (bytes : List ℕ) (frame : Frame)
    → ((k : ℕ) → slice_index bytes k < 256) → frame_read site digest at bytes ≡ Ok frame → IsFrame site at frame
