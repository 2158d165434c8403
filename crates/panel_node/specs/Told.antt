-- What a panel by itself is told from elsewhere, and the words that it keeps, by the history of what befell it.
use Rattle.std.specs.Prelude.{ℕ, List, ◌∷◌}
use Rattle.site_types.specs.declared.retained.Retained.{Retained}
use Rattle.site_types.specs.declared.site.Site.{Site}
use Rattle.site_types.specs.declared.word.Word.{Word}
use Rattle.site_types.specs.Done.{Done}
use Rattle.hold_calls.specs.Told.{Told}
use Rattle.kept_words.specs.Arrivals.{Arrival, Made}
use Rattle.panel_rules.specs.Moments.{Moment}
use Rattle.node_rules.specs.Handed.{handed_facts, own_kept, own_tells, words_held}
use Rattle.node_rules.specs.Histories.{NodeMoment, befallen, frames_in}
use Rattle.node_rules.specs.Nodes.{node_up, node_words}

module _ (site : Site) (kept : Retained) (done : List Done) (panel : ℕ) (history : List NodeMoment) where
  -- the word that it keeps of itself at a turn made now: the latest that it had made at its latest turn of Link
  abbrev pub word_of_itself : List Moment → Word
  word_of_itself =
      own_kept site kept done panel (node_words site panel history) (node_up site panel history)
      (own_tells site kept done panel (node_words site panel history) (node_up site panel history))

  -- the words that such a turn goes by, its own too
  abbrev pub words_by_frames : List Moment → ℕ → Word
  words_by_frames =
      words_held site kept done panel (node_words site panel history) (node_up site panel history)
      (own_tells site kept done panel (node_words site panel history) (node_up site panel history))

  -- what its turns are told: by the frames that had come before each, and by the words that it had made
  abbrev pub told_by_frames : Told
  told_by_frames =
      record {
        facts = handed_facts site kept done panel (node_words site panel history) (node_up site panel history);
        stamps = λ before source. (words_by_frames before source).stamp.0;
        up = node_up site panel history;
      }

  -- what its words come from: the frames that came, and then the word that it keeps of itself
  abbrev pub arrived : List Arrival
  arrived = Made (word_of_itself (befallen history)) ∷ frames_in history
