-- Why bytes aren't read as a frame: the first cause that applies.
use Rattle.std.specs.Prelude.{ℕ, ◌+◌, ◌==◌, nat_lt, not, Bool, List, length, take, drop, zip}
use Rattle.std.specs.Prelude.{bit_and, bytes_eq, Option, Some, None, option_map, Result, Ok, Err}
use Rattle.std.specs.Prelude.{if◌then◌else◌}
use Rattle.std.specs.List.{position}
use Rattle.site_types.specs.declared.site.Site.{Site}
use Rattle.panel_links.specs.declared.frame.Frame.{Frame}
use Rattle.panel_frames.specs.declared.frame_refusal.FrameRefusal.{FrameRefusal}
use Rattle.panel_frames.specs.declared.frame_refusal.FrameRefusal.TheVariants.{BadLength, BadMagic, OtherSite}
use Rattle.panel_frames.specs.declared.frame_refusal.FrameRefusal.TheVariants.{NotNeighbour, BadGroup, BadWord}
use Rattle.panel_frames.specs.Bytes.{frame_in, frame_mark, words_bytes}
use Rattle.panel_frames.specs.Grammar.{fullest_words, is_neighbour, last_group}

-- a byte has a bit that another hasn't
abbrev pub goes_beyond : ℕ × ℕ → Bool
goes_beyond pair = not (bit_and pair.0 pair.1 == pair.0)

-- the place of the first byte with a bit that it may not have
abbrev pub first_beyond : List ℕ → List ℕ → Option ℕ
first_beyond bytes most = position goes_beyond (zip bytes most)

-- the refusal of the words' bytes, which begin at byte 36
abbrev pub refused_word : Site → Frame → List ℕ → Option FrameRefusal
refused_word site frame bytes =
    option_map (λ place. BadWord (place + 36)) (first_beyond bytes (words_bytes (fullest_words site frame)))

-- the refusal of what names the sender and the group, and of the words
abbrev pub refusal_in : Site → ℕ → Frame → List ℕ → Option FrameRefusal
refusal_in site at frame words =
    if not (is_neighbour site.panels at frame.from) then Some (NotNeighbour frame.from)
    else if nat_lt (last_group site.panels) frame.group then Some (BadGroup frame.group)
    else refused_word site frame words

-- the refusal of bytes at a panel
abbrev pub refusal_at : Site → List ℕ → ℕ → List ℕ → Option FrameRefusal
refusal_at site digest at bytes =
    if not (length bytes == 136) then Some BadLength
    else if not (bytes_eq (take 2 bytes) frame_mark) then Some BadMagic
    else if not (bytes_eq (take 32 (drop 2 bytes)) digest) then Some OtherSite
    else refusal_in site at (frame_in bytes) (drop 36 bytes)

-- a frame, if it isn't refused
abbrev pub frame_or : Option FrameRefusal → Frame → Result Frame FrameRefusal
frame_or None frame = Ok frame
frame_or (Some refusal) frame = Err refusal

-- what bytes are read as at a panel
abbrev pub frame_read : Site → List ℕ → ℕ → List ℕ → Result Frame FrameRefusal
frame_read site digest at bytes = frame_or (refusal_at site digest at bytes) (frame_in bytes)
