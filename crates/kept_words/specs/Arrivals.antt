-- The words that a panel keeps of what came in frames, and what it takes from how long ago that was.
use Rattle.std.specs.Prelude.{ℕ, ◌-◌, ◌/◌, ◌%◌, ◌==◌, ◌&&◌, nat_le, nat_lt, Bool, List, [], ◌∷◌, slice_index_or}
use Rattle.std.specs.Prelude.{if◌then◌else◌}
use Rattle.site_types.specs.declared.word.Word.{Word}
use Rattle.site_types.specs.Words.{empty_word}
use Rattle.panel_links.specs.declared.frame.Frame.{Frame}
use Rattle.panel_links.specs.Kept.{newest}
use Rattle.panel_links.specs.Stands.{is_link_of}
use Rattle.panel_links.specs.Words.{left_of, right_of}

-- what comes to a panel: a frame in a tick, or a word that the panel made of itself; lists have the newest first
pub data Arrival : Type 0 where
  Came : (tick : ℕ) → (frame : Frame) → Arrival
  Made : (own : Word) → Arrival

-- a frame has a word of a panel where it is of the panel's group
abbrev pub has_word_of : ℕ → Frame → Bool
has_word_of source frame = ((source - 1) / 4) == frame.group

-- the word of a panel in a frame of the panel's group
abbrev pub framed_word : ℕ → Frame → Word
framed_word source frame = slice_index_or frame.words ((source - 1) % 4) empty_word

-- the word that a panel keeps of a panel: of itself the latest that it made, of another the newest that came
abbrev pub word_kept : ℕ → ℕ → List Arrival → Word
word_kept panel source [] = empty_word
word_kept panel source (Came tick frame ∷ before) =
    if source == panel then word_kept panel source before
    else if has_word_of source frame then newest (word_kept panel source before) (framed_word source frame)
    else word_kept panel source before
word_kept panel source (Made own ∷ before) = if source == panel then own else word_kept panel source before

-- the tick in which the last frame of a panel came; before the first it is that of the opening
abbrev pub last_from : ℕ → List Arrival → ℕ
last_from sender [] = 0
last_from sender (Came tick frame ∷ before) = if frame.from == sender then tick else last_from sender before
last_from sender (Made own ∷ before) = last_from sender before

-- the neighbour that a link of a panel joins to it
abbrev pub joined_by : ℕ → ℕ → ℕ → ℕ
joined_by panels panel link = if link == panel then right_of panels panel else left_of panels panel

-- a link of the panel counts as down: no frame came over it for more ticks than a limit
abbrev pub counts_as_down : ℕ → ℕ → List Arrival → ℕ → ℕ → ℕ → Bool
counts_as_down panels panel arrivals now limit link =
    is_link_of panels panel link && nat_lt limit (now - last_from (joined_by panels panel link) arrivals)

-- of a panel of the ring nothing newer came for more ticks than a limit; a later stamp counts as one of now
abbrev pub is_silent_from : ℕ → ℕ → List Arrival → ℕ → ℕ → ℕ → Bool
is_silent_from panels panel arrivals now limit source =
    nat_le source panels && nat_lt limit (now - (word_kept panel source arrivals).stamp.0)
