-- What follows from the definitions of a panel that runs by itself.
use Rattle.std.specs.Prelude.{◌≡◌, ◌≢◌, ◌≤◌, ◌<◌, ◌-◌, ◌^◌, ◌&&◌, ℕ, nat_lt, Bool, true, List, []}
use Rattle.std.specs.Prelude.{◌∷◌, length, slice_index, if◌then◌else◌}
use Rattle.site_types.specs.declared.retained.Retained.{Retained}
use Rattle.site_types.specs.declared.site.Site.{Site}
use Rattle.site_types.specs.declared.word.Word.{Word}
use Rattle.site_types.specs.Done.{Done}
use Rattle.site_types.specs.Valid.{IsValid}
use Rattle.panel_conditions.specs.Words.{has_fault}
use Rattle.panel_links.specs.declared.frame.Frame.{Frame}
use Rattle.panel_frames.specs.Grammar.{IsFrame, is_neighbour}
use Rattle.panel_rules.specs.Moments.{Moment, IsPanel, IsRun, tick_of}
use Rattle.panel_rules.specs.Operations.{operations}
use Rattle.panel_rules.specs.Words.{kept_word_of}
use Rattle.kept_words.specs.Arrivals.{framed_word, has_word_of}
use Rattle.node_rules.specs.Handed.{faults_at_word, own_tells}
use Rattle.node_rules.specs.Histories.{Befell, FrameCame, IsPartOf, NodeMoment, befallen, part_until}
use Rattle.node_rules.specs.Nodes.{node_face, node_frame, node_word}
use Rattle.node_rules.specs.RingHistories.{ring_history}

-- a word that the panel made tells a fault exactly where one stood at the turn that made it
abbrev pub OwnFaultsAreTold : Type 0
OwnFaultsAreTold =
    (site : Site) (kept : Retained) (done : List Done) (panel : ℕ) (handed : List Moment → ℕ → Word)
    (up : List Moment → ℕ → Bool) (turn : Moment) (before : List Moment)
    → own_tells site kept done panel handed up (turn ∷ before)
    ≡ has_fault
    (faults_at_word site kept done panel handed up (own_tells site kept done panel handed up) (turn ∷ before))

-- a turn goes by the frames that came before it, whatever comes later
abbrev pub TurnsGoByWhatCame : Type 0
TurnsGoByWhatCame =
    (history before : List NodeMoment) (moment : Moment) → IsPartOf (Befell moment ∷ before) history
    → part_until (length (befallen before)) history ≡ before

-- a word that is newer than the one that is kept
abbrev pub is_newer : Word → Word → Bool
is_newer word kept = nat_lt kept.stamp.0 word.stamp.0

-- a frame that came with a newer word of another panel makes its zones shown, and a frame without one changes nothing
-- of them
abbrev pub FramesAreShown : Type 0
FramesAreShown =
    (site : Site) (panel : ℕ) (kept : Retained) (history : List NodeMoment) (frame : Frame) (source : ℕ)
    → 1 ≤ source → source ≤ 8 → source ≢ panel
    → slice_index (node_face site panel (FrameCame frame ∷ history) kept).zones (source - 1)
    ≡ (if has_word_of source frame && is_newer (framed_word source frame) (node_word site panel history kept source)
    then (framed_word source frame).alarm
    else slice_index (node_face site panel history kept).zones (source - 1))

-- the zones of another panel stay shown as they are while no frame comes
abbrev pub ZonesStayShown : Type 0
ZonesStayShown =
    (site : Site) (panel : ℕ) (kept : Retained) (history : List NodeMoment) (moment : Moment) (source : ℕ)
    → 1 ≤ source → source ≤ 8 → source ≢ panel
    → slice_index (node_face site panel (Befell moment ∷ history) kept).zones (source - 1)
    ≡ slice_index (node_face site panel history kept).zones (source - 1)

-- a word is another one, but for what it tells of faults
abbrev pub IsSameButFault : Word → Word → Type 0
IsSameButFault word other = word ≡ record other { fault = word.fault }

-- where a panel gets the frames that the ring would hand it, it keeps the words that it would keep in the ring,
-- whatever these tell of faults; its own but for that
pub record KeepsTheRingsWords (site : Site) (kept : Retained) (told : ℕ → List Moment → Bool) (panel : ℕ)
    (before : List Moment) : Type 0 where
  pub others : (source : ℕ) → IsPanel site.panels source → source ≢ panel
      → node_word site panel (ring_history site kept (operations site kept before).done told panel before) kept source
      ≡ kept_word_of site kept (operations site kept before).done told panel source before
  pub own : IsSameButFault
      (node_word site panel (ring_history site kept (operations site kept before).done told panel before) kept panel)
      (kept_word_of site kept (operations site kept before).done told panel panel before)

abbrev pub FramesOfTheRing : Type 0
FramesOfTheRing =
    (site : Site) (kept : Retained) (told : ℕ → List Moment → Bool) (panel : ℕ) (before : List Moment)
    → site.panels ≤ 8 → IsPanel site.panels panel → KeepsTheRingsWords site kept told panel before

-- each frame that came is one that the panel may get
abbrev pub AreFramesTo : Site → ℕ → List NodeMoment → Type 0
AreFramesTo site panel [] = Unit {0}
AreFramesTo site panel (Befell moment ∷ before) = AreFramesTo site panel before
AreFramesTo site panel (FrameCame frame ∷ before) = IsFrame site panel frame × AreFramesTo site panel before

-- where each frame that came is one that the panel may get, each that it sends is one that its neighbours may get
abbrev pub FramesStayInGrammar : Type 0
FramesStayInGrammar =
    (site : Site) (kept : Retained) (panel at : ℕ) (history : List NodeMoment)
    → IsValid site → IsPanel site.panels panel → IsRun site.panels (befallen history)
    → tick_of (befallen history) < 2 ^ 64 → AreFramesTo site panel history
    → is_neighbour site.panels at panel ≡ true → IsFrame site at (node_frame site panel history kept)
