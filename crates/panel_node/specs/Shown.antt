-- What a panel by itself shows, answers and sends.
use Rattle.std.specs.Prelude.{◌≡◌, ◌≤◌, ℕ, true, List, map}
use Rattle.std.specs.List.{range_with_len}
use Rattle.tick_units.specs.Ticks.{last_tick}
use Rattle.site_types.specs.declared.retained.Retained.{Retained}
use Rattle.site_types.specs.declared.site.Site.{Site}
use Rattle.site_types.specs.declared.word.Word.{Word}
use Rattle.site_types.specs.Limits.{most_panels}
use Rattle.face_text.specs.declared.answers.Answers.{Answers}
use Rattle.face_text.specs.declared.face.Face.{Face}
use Rattle.kept_words.specs.Arrivals.{word_kept}
use Rattle.node_rules.specs.Histories.{NodeMoment, befallen, frames_in}
use Rattle.node_rules.specs.Nodes.{node_done, node_face, node_frame, node_up, node_words}
use Rattle.node_rules.specs.Shown.{word_on_face}
use Rattle.panel_frames.specs.Grammar.{IsFrame, is_neighbour}
use Rattle.panel_links.specs.declared.frame.Frame.{Frame}
use Rattle.panel_rules.specs.Moments.{IsRun, tick_of}
use Rattle.panel_rules.specs.Timeline.{answers_now, failed_now, told}
use Rattle.panel_node.specs.declared.node.Node.{Node}
use Rattle.panel_node.specs.Stands.{NodeStandsFor}

-- for whatever history a panel by itself stands for, its face is that of the rules
abbrev pub ShowsFace : Node → Face → Type 0
ShowsFace node face =
    (site : Site) (panel : ℕ) (kept : Retained) (history : List NodeMoment)
    → NodeStandsFor site panel kept history node → IsRun site.panels (befallen history)
    → face ≡ node_face site panel history kept

-- what a panel by itself hands to its neighbours is the frame of the rules
abbrev pub SendsFrame : Node → Frame → Type 0
SendsFrame node frame =
    (site : Site) (panel : ℕ) (kept : Retained) (history : List NodeMoment)
    → NodeStandsFor site panel kept history node → IsRun site.panels (befallen history)
    → frame ≡ node_frame site panel history kept

-- up to the last tick, what a panel by itself hands to its neighbours is a frame that each of them may get
abbrev pub StaysInGrammar : Node → Frame → Type 0
StaysInGrammar node frame =
    (site : Site) (panel at : ℕ) (kept : Retained) (history : List NodeMoment)
    → NodeStandsFor site panel kept history node → IsRun site.panels (befallen history)
    → tick_of (befallen history) ≤ last_tick → is_neighbour site.panels at panel ≡ true → IsFrame site at frame

-- what a panel by itself answers is what the rules answer in the tick that began last
abbrev pub AnswersAsRuled : Node → Answers → Type 0
AnswersAsRuled node answers =
    (site : Site) (panel : ℕ) (kept : Retained) (history : List NodeMoment)
    → NodeStandsFor site panel kept history node
    → answers ≡ told (answers_now site kept (befallen history)) (failed_now site kept (befallen history))

-- ---- the zones of a face

-- the word of a panel by which its zones are shown
abbrev pub node_shows : Site → ℕ → Retained → List NodeMoment → ℕ → Word
node_shows site panel kept history source =
    word_on_face site kept (node_done site panel history kept) panel (node_words site panel history)
    (node_up site panel history) (λ other. word_kept panel other (frames_in history)) (befallen history) source

abbrev pub ShowsWord : Node → ℕ → Word → Type 0
ShowsWord node source word =
    (site : Site) (panel : ℕ) (kept : Retained) (history : List NodeMoment)
    → NodeStandsFor site panel kept history node → IsRun site.panels (befallen history)
    → word ≡ node_shows site panel kept history source

-- the zones of each panel, one kind of them, by the word of the panel by which its zones are shown
abbrev pub ShowsByWords : (Word → ℕ) → Node → List ℕ → Type 0
ShowsByWords told node zones =
    (site : Site) (panel : ℕ) (kept : Retained) (history : List NodeMoment)
    → NodeStandsFor site panel kept history node → IsRun site.panels (befallen history)
    → zones ≡ map (λ source. told (node_shows site panel kept history source)) (range_with_len 1 most_panels)

-- the zones of each panel that are in alarm and those in first state, by the words that are shown
pub record ShowsZones (node : Node) (in_alarm in_first : List ℕ) : Type 0 where
  pub alarms : ShowsByWords (λ (word : Word). word.alarm) node in_alarm
  pub firsts : ShowsByWords (λ (word : Word). word.first) node in_first
