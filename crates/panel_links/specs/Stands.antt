-- What a ring keeps of the calls that were made.
use Rattle.std.specs.Prelude.{◌≡◌, ℕ, ◌-◌, ◌≤◌, ◌<◌, ◌&&◌, ◌||◌, ◌==◌, nat_le, nat_lt, not, Bool, List, []}
use Rattle.std.specs.Prelude.{slice_index_or}
use Rattle.site_types.specs.declared.word.Word.{Word}
use Rattle.marker_table.specs.declared.facts.Facts.{Facts}
use Rattle.panel_links.specs.declared.ring.Ring.{Ring}
use Rattle.panel_links.specs.Words.{Call, is_up, left_of}
use Rattle.site_types.specs.Bits.{has_bit}
use Rattle.site_types.specs.Words.{empty_word}
use Rattle.panel_links.specs.Kept.{kept_word, newest}
use Rattle.panel_links.specs.Told.{AreOfEight, TellWord}

-- a number of the ring's panels
abbrev pub HasPanel : Ring → ℕ → Type 0
HasPanel ring panel = (1 ≤ panel) × (panel ≤ ring.panels)

-- what a panel keeps of another
abbrev pub kept_in : Ring → ℕ → ℕ → Word
kept_in ring at from = slice_index_or (slice_index_or ring.words (at - 1) []) (from - 1) empty_word

-- the newest word that three panels keep of one
abbrev pub newest_of : Ring → ℕ → ℕ → ℕ → ℕ → Word
newest_of ring at left right of = newest (newest (kept_in ring at of) (kept_in ring left of)) (kept_in ring right of)

-- whether a link is up
abbrev pub is_up_in : Ring → ℕ → Bool
is_up_in ring link = not (has_bit ring.down (link - 1))

-- facts are what the words that a panel keeps tell of the ring's panels. Of other panels they have no more than the
-- word of a panel of which nothing was heard tells
pub record TellKept (ring : Ring) (at : ℕ) (facts : Facts) : Type 0 where
  pub eight : AreOfEight facts
  pub each : (of : ℕ) → HasPanel ring of → TellWord of (kept_in ring at of) facts
  pub none : (of : ℕ) → ring.panels < of → of ≤ 8 → TellWord of empty_word facts

-- a ring of so many panels stands for the calls, the newest first
pub record StandsFor (panels : ℕ) (calls : List Call) (ring : Ring) : Type 0 where
  pub size : ring.panels ≡ panels
  pub words : (at from : ℕ) → HasPanel ring at → HasPanel ring from
      → kept_in ring at from ≡ kept_word panels from at calls
  pub links : (link : ℕ) → 1 ≤ link → link ≤ 8 → is_up_in ring link ≡ is_up link calls

-- a link is one of the two of a panel
abbrev pub is_link_of : ℕ → ℕ → ℕ → Bool
is_link_of panels panel link = nat_lt 1 panels && ((link == panel) || (link == left_of panels panel))

-- one of the panel's links is down
abbrev pub is_down_at : ℕ → ℕ → List Call → ℕ → Bool
is_down_at panels panel calls link = is_link_of panels panel link && not (is_up link calls)

-- of another panel of the ring a panel has heard nothing newer for more ticks than a limit
abbrev pub is_silent : ℕ → ℕ → List Call → ℕ → ℕ → ℕ → Bool
is_silent panels at calls now limit from =
    nat_le from panels && nat_lt limit (now - (kept_word panels from at calls).stamp.0)
