-- What a panel that runs by itself goes by when it makes a turn: the words that it keeps then.
use Rattle.std.specs.Prelude.{◌≡◌, ℕ, List, ◌∷◌}
use Rattle.site_types.specs.declared.retained.Retained.{Retained}
use Rattle.site_types.specs.declared.site.Site.{Site}
use Rattle.panel_rules.specs.Markers.{Facts}
use Rattle.panel_rules.specs.Moments.{Moment}
use Rattle.node_rules.specs.Handed.{facts_of_words, handed_facts, own_tells, words_held}
use Rattle.node_rules.specs.Histories.{Befell, IsPartOf, NodeMoment, befallen}
use Rattle.node_rules.specs.Nodes.{node_done, node_up, node_word, node_words}

-- the facts that the words tell which the panel keeps now
abbrev pub facts_now : Site → ℕ → List NodeMoment → Retained → Facts
facts_now site panel history kept = facts_of_words site (node_word site panel history kept)

-- looked at from the end of a history, a turn that was made after a part of it goes by the words that the panel kept
-- then, and a turn of Effect by the facts that these told
pub record AreKeptThen (site : Site) (panel : ℕ) (kept : Retained) (history before : List NodeMoment) : Type 0 where
  pub words : (source : ℕ)
      → words_held site kept (node_done site panel history kept) panel (node_words site panel history)
      (node_up site panel history)
      (own_tells site kept (node_done site panel history kept) panel (node_words site panel history)
      (node_up site panel history)) (befallen before) source ≡ node_word site panel before kept source
  pub facts : (effect_of : ℕ)
      → handed_facts site kept (node_done site panel history kept) panel (node_words site panel history)
      (node_up site panel history) effect_of (befallen before) ≡ facts_now site panel before kept

-- each turn goes by the words that the panel kept when it was made, whatever was done or came later
abbrev pub TurnsGoByWordsKept : Type 0
TurnsGoByWordsKept =
    (site : Site) (panel : ℕ) (kept : Retained) (history before : List NodeMoment) (moment : Moment)
    → IsPartOf (Befell moment ∷ before) history → AreKeptThen site panel kept history before
