-- The bytes of a frame, and the frame that bytes spell. Numbers have their greatest byte first.
use Rattle.std.specs.Prelude.{ℕ, ◌==◌, ◌++◌, List, [], ◌∷◌, take, drop, slice_index, if◌then◌else◌}
use Rattle.std.specs.List.{flat_map}
use Rattle.std.specs.Int.{w32, w64, to_be_bytes, from_be_bytes}
use Rattle.site_types.specs.declared.word.Word.{Word}
use Rattle.panel_links.specs.declared.frame.Frame.{Frame}

-- `FW`
abbrev pub frame_mark : List ℕ
frame_mark = 70 ∷ 87 ∷ []

-- the 25 bytes of a word: its stamp, its four masks, and one byte for its fault
unfoldable pub word_bytes : Word → List ℕ
word_bytes word =
    to_be_bytes w64 word.stamp.0 ++ to_be_bytes w32 word.alarm ++ to_be_bytes w32 word.manual
    ++ to_be_bytes w32 word.released ++ to_be_bytes w32 word.first ++ (if word.fault then 1 else 0) ∷ []

abbrev pub words_bytes : List Word → List ℕ
words_bytes words = flat_map word_bytes words

-- the bytes of a frame: the mark, the site's digest, who sends it, the group, and the words
abbrev pub frame_bytes : List ℕ → Frame → List ℕ
frame_bytes digest frame = frame_mark ++ digest ++ frame.from ∷ frame.group ∷ words_bytes frame.words

-- the word that the first 25 bytes spell
unfoldable pub word_spelled : List ℕ → Word
word_spelled bytes = record {
  stamp = record { 0 = from_be_bytes w64 (take 8 bytes) };
  alarm = from_be_bytes w32 (take 4 (drop 8 bytes));
  manual = from_be_bytes w32 (take 4 (drop 12 bytes));
  released = from_be_bytes w32 (take 4 (drop 16 bytes));
  first = from_be_bytes w32 (take 4 (drop 20 bytes));
  fault = slice_index bytes 24 == 1;
}

-- the frame that bytes spell
abbrev pub frame_in : List ℕ → Frame
frame_in bytes = record {
  from = slice_index bytes 34;
  group = slice_index bytes 35;
  words =
      word_spelled (drop 36 bytes) ∷ word_spelled (drop 61 bytes) ∷ word_spelled (drop 86 bytes)
      ∷ word_spelled (drop 111 bytes) ∷ [];
}
