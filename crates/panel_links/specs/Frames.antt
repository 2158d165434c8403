-- The frame that a panel sends over a link in a tick, and what its receiver keeps.
use Rattle.std.specs.Prelude.{ℕ, ◌+◌, ◌-◌, ◌*◌, ◌/◌, ◌%◌, ◌==◌, ◌&&◌, nat_le, List, [], ◌∷◌, slice_index_or}
use Rattle.std.specs.Prelude.{if◌then◌else◌}
use Rattle.site_types.specs.declared.word.Word.{Word}
use Rattle.site_types.specs.Words.{empty_word}
use Rattle.panel_links.specs.declared.frame.Frame.{Frame}
use Rattle.panel_links.specs.Kept.{newest}
use Rattle.panel_links.specs.Words.{group_of}

-- the word at a place of a group, 0 to 3: that of a panel, or the empty one where there is no panel
abbrev pub word_in : ℕ → ℕ → (ℕ → Word) → ℕ → Word
word_in panels group words place =
    if nat_le (4 * group + place + 1) panels then words (4 * group + place + 1) else empty_word

-- the four words of a group
abbrev pub group_words : ℕ → ℕ → (ℕ → Word) → List Word
group_words panels group words = word_in panels group words 0 ∷ word_in panels group words 1
    ∷ word_in panels group words 2 ∷ word_in panels group words 3 ∷ []

-- what a panel sends over its links in a tick: its number, the group that the tick carries, and the
-- words that it keeps of that
abbrev pub frame_of : ℕ → (ℕ → Word) → ℕ → ℕ → Frame
frame_of panels words from tick =
    record { from = from; group = group_of panels tick; words = group_words panels (group_of panels tick) words }

-- what a panel keeps of another after a frame was received
abbrev pub after_frame : ℕ → ℕ → List Word → ℕ → ℕ → Word → Word
after_frame receiver group words at from kept =
    if (at == receiver)
    && (((from - 1) / 4) == group) then newest kept (slice_index_or words ((from - 1) % 4) empty_word)
    else kept
