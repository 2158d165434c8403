-- Which frames are in the grammar: their words have no bit that they may not have.
use Rattle.std.specs.Prelude.{◌≡◌, ◌<◌, ◌≤◌, ◌+◌, ◌*◌, ◌-◌, ◌^◌, ◌==◌, ◌&&◌, ◌||◌, ℕ, nat_lt, nat_le, Bool}
use Rattle.std.specs.Prelude.{true, false, List, [], ◌∷◌, length, slice_index_or, if◌then◌else◌}
use Rattle.std.specs.List.{list_any}
use Rattle.site_types.specs.Bits.{has_bit, mask_of}
use Rattle.site_types.specs.Words.{empty_word}
use Rattle.site_types.specs.declared.site.Site.{Site}
use Rattle.site_types.specs.declared.word.Word.{Word}
use Rattle.site_types.specs.declared.zone.Zone.{Zone}
use Rattle.panel_links.specs.declared.frame.Frame.{Frame}
use Rattle.panel_links.specs.Words.{left_of, right_of}

-- a panel is next to another in the ring of a site's panels; a panel alone has no neighbours
abbrev pub is_neighbour : ℕ → ℕ → ℕ → Bool
is_neighbour panels at from = nat_lt 1 panels && ((from == left_of panels at) || (from == right_of panels at))

-- the greatest group of so many panels
abbrev pub last_group : ℕ → ℕ
last_group panels = if nat_le panels 4 then 0 else 1

-- a zone is the one of a panel with a number
abbrev pub is_panel_zone : ℕ → ℕ → Zone → Bool
is_panel_zone panel number zone = (zone.panel == panel) && (zone.number == number)

-- the zones of a panel, bit `number - 1` each
unfoldable pub zones_of : ℕ → List Zone → ℕ
zones_of panel zones = mask_of 32 (λ bit. list_any (is_panel_zone panel (bit + 1)) zones)

-- the word of a stamp with all these zones
abbrev pub stamped_word : ℕ → Bool → Word
stamped_word zones fault = record {
  stamp = record { 0 = 2 ^ 64 - 1 };
  alarm = zones;
  manual = zones;
  released = zones;
  first = zones;
  fault = fault;
}

-- the word with every bit that a panel's word may have: none where the site has no such panel, and none but
-- those of the stamp where that is 0
abbrev pub fullest_word : Site → ℕ → Word → Word
fullest_word site panel word =
    if nat_lt site.panels panel then empty_word
    else if word.stamp.0 == 0 then stamped_word 0 false else stamped_word (zones_of panel site.zones) true

-- the word at a place of a frame with every bit that its panel's word may have
abbrev pub fullest_at : Site → Frame → ℕ → Word
fullest_at site frame place =
    fullest_word site (4 * frame.group + 1 + place) (slice_index_or frame.words place empty_word)

abbrev pub fullest_words : Site → Frame → List Word
fullest_words site frame = fullest_at site frame 0 ∷ fullest_at site frame 1 ∷ fullest_at site frame 2
    ∷ fullest_at site frame 3 ∷ []

-- a mask names zones that a panel has, and nothing else
abbrev pub NamesZones : Site → ℕ → ℕ → Type 0
NamesZones site panel mask = (mask < 2 ^ 32)
    × ((bit : ℕ) → bit < 32 → has_bit mask bit ≡ true → list_any (is_panel_zone panel (bit + 1)) site.zones ≡ true)

-- a word that a frame may have of a panel: the empty one where the site has no such panel, or the stamp is 0
pub record IsWord (site : Site) (panel : ℕ) (word : Word) : Type 0 where
  pub absent : site.panels < panel → word ≡ empty_word
  pub unstamped : word.stamp.0 ≡ 0 → word ≡ empty_word
  pub stamp : word.stamp.0 < 2 ^ 64
  pub alarm : NamesZones site panel word.alarm
  pub manual : NamesZones site panel word.manual
  pub released : NamesZones site panel word.released
  pub first : NamesZones site panel word.first

-- a frame that a panel may get
pub record IsFrame (site : Site) (at : ℕ) (frame : Frame) : Type 0 where
  pub neighbour : is_neighbour site.panels at frame.from ≡ true
  pub group : frame.group ≤ last_group site.panels
  pub four : length frame.words ≡ 4
  pub words : (place : ℕ) → place < 4
      → IsWord site (4 * frame.group + 1 + place) (slice_index_or frame.words place empty_word)
