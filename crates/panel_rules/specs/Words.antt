-- The words that panels tell one another. Where each word tells a fault is an argument, by the panel and by
-- what had befallen when the word was made.
use Rattle.std.specs.Prelude.{ℕ, Bool, List, [], ◌∷◌}
use Rattle.tick_units.specs.declared.task.Task.TheVariants.{Link as LinkTask}
use Rattle.site_types.specs.declared.event.Event.{Event}
use Rattle.site_types.specs.declared.event.Event.TheVariants.{Link}
use Rattle.site_types.specs.declared.retained.Retained.{Retained}
use Rattle.site_types.specs.declared.site.Site.{Site}
use Rattle.site_types.specs.declared.word.Word.{Word}
use Rattle.site_types.specs.Done.{Done}
use Rattle.panel_conditions.specs.Answered.{answered_word}
use Rattle.panel_links.specs.Words.{Call, Linked, Took}
use Rattle.site_types.specs.Words.{empty_word}
use Rattle.panel_rules.specs.Moments.{Moment, Began, Happened, Turned, Kept, tick_of, up_to}
use Rattle.panel_rules.specs.Zones.{held_answers}
use Rattle.panel_rules.specs.Kept.{made_at, kept_at}

module _ (site : Site) (kept : Retained) (done : List Done) (told : ℕ → List Moment → Bool) where
  -- the word that a panel made in a turn of Hold, from what Hold had taken and the operations done before
  -- that tick; what had befallen up to that turn is given, nothing for the empty word
  abbrev pub word_made : ℕ → List Moment → Word
  word_made panel [] = empty_word
  word_made panel (moment ∷ before) =
      answered_word site kept panel done (held_answers site panel (moment ∷ before))
      (tick_of (moment ∷ before)) (told panel (moment ∷ before))

  -- the latest word of a panel
  abbrev pub latest_word : ℕ → List Moment → Word
  latest_word panel moments = word_made panel (made_at panel moments)

  -- the word of a panel of a tick: the latest one that it had made by the end of the tick
  abbrev pub word_of : ℕ → ℕ → List Moment → Word
  word_of panel tick moments = latest_word panel (up_to tick moments)

  -- the word of a panel that another one keeps
  abbrev pub kept_word_of : ℕ → ℕ → List Moment → Word
  kept_word_of panel source moments = word_made source (kept_at site.panels panel source moments)

  -- what befell the ring: reports on links, and the turns of Link, in each of which a panel gives its latest
  -- word
  abbrev pub and_report : Event → List Call → List Call
  and_report (Link link up) calls = Linked link up ∷ calls
  and_report _ calls = calls

  abbrev pub ring_calls : List Moment → List Call
  ring_calls [] = []
  ring_calls (Began ∷ before) = ring_calls before
  ring_calls (Happened event ∷ before) = and_report event (ring_calls before)
  ring_calls (Turned panel LinkTask ∷ before) = Took (tick_of before) panel (latest_word panel before)
      ∷ ring_calls before
  ring_calls (Turned panel task ∷ before) = ring_calls before
  ring_calls (Kept failed ∷ before) = ring_calls before
