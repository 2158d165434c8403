-- What a panel by itself makes of the frames that the ring would hand it, where its links were up.
use Rattle.std.specs.Prelude.{◌≡◌, ℕ, true, List}
use Rattle.site_types.specs.declared.retained.Retained.{Retained}
use Rattle.site_types.specs.declared.site.Site.{Site}
use Rattle.site_types.specs.Valid.{IsValid}
use Rattle.panel_links.specs.Stands.{is_link_of}
use Rattle.panel_rules.specs.Moments.{Moment, IsPanel, IsPast, IsRun}
use Rattle.panel_rules.specs.Operations.{operations}
use Rattle.panel_rules.specs.Run.{tells_fault}
use Rattle.panel_rules.specs.States.{is_up}
use Rattle.panel_rules.specs.Timeline.{face_of}
use Rattle.panel_rules.specs.Words.{kept_word_of}
use Rattle.node_rules.specs.Histories.{NodeMoment}
use Rattle.node_rules.specs.Nodes.{node_face, node_word}
use Rattle.node_rules.specs.RingHistories.{ring_history}

-- each link of a panel was up all the time
abbrev pub HadLinksUp : Site → ℕ → List Moment → Type 0
HadLinksUp site panel before = (past : List Moment) (link : ℕ) → IsPast past before
    → is_link_of site.panels panel link ≡ true → is_up link past ≡ true

-- the history of a panel along a run, with the frames of the ring
abbrev pub history_in_ring : Site → Retained → ℕ → List Moment → List NodeMoment
history_in_ring site kept panel before =
    ring_history site kept (operations site kept before).done
    (tells_fault site kept (operations site kept before).done) panel before

-- a panel that gets the frames of the ring, with its links up all the time, has as its own word the ring's, with what
-- that tells of faults
abbrev pub OwnWordOfTheRing : Type 0
OwnWordOfTheRing =
    (site : Site) (kept : Retained) (panel : ℕ) (before : List Moment)
    → IsValid site → IsPanel site.panels panel → IsRun site.panels before → HadLinksUp site panel before
    → node_word site panel (history_in_ring site kept panel before) kept panel
    ≡ kept_word_of site kept (operations site kept before).done
    (tells_fault site kept (operations site kept before).done) panel panel before

-- a panel that gets the frames of the ring, with its links up all the time, shows what it would show in the ring
abbrev pub FaceOfTheRing : Type 0
FaceOfTheRing =
    (site : Site) (kept : Retained) (panel : ℕ) (before : List Moment)
    → IsValid site → IsPanel site.panels panel → IsRun site.panels before → HadLinksUp site panel before
    → node_face site panel (history_in_ring site kept panel before) kept ≡ face_of site kept panel before
