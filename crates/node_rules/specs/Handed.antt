-- A panel that is handed the words of the others: what its turns go by. What it is handed, and which links are up, are
-- arguments, by what had befallen before a turn.
use Rattle.std.specs.Prelude.{ℕ, zero, suc, ◌-◌, ◌==◌, ◌&&◌, nat_le, Bool, false, List, [], ◌∷◌, length, Option}
use Rattle.std.specs.Prelude.{Some, None, slice_get, if◌then◌else◌}
use Rattle.tick_units.specs.declared.task.Task.TheVariants.{Link}
use Rattle.site_types.specs.declared.fault_set.FaultSet.{FaultSet}
use Rattle.site_types.specs.declared.retained.Retained.{Retained}
use Rattle.site_types.specs.declared.site.Site.{Site}
use Rattle.site_types.specs.declared.word.Word.{Word}
use Rattle.site_types.specs.declared.zone.Zone.{Zone}
use Rattle.site_types.specs.Bits.{has_bit}
use Rattle.site_types.specs.Done.{Done}
use Rattle.site_types.specs.Words.{no_faults}
use Rattle.panel_conditions.specs.declared.outside.Outside.{Outside}
use Rattle.panel_conditions.specs.Answered.{answered_faults}
use Rattle.panel_conditions.specs.Words.{has_fault}
use Rattle.panel_rules.specs.Faults.{outside_at}
use Rattle.panel_rules.specs.Kept.{made_at}
use Rattle.panel_rules.specs.Markers.{Facts}
use Rattle.panel_rules.specs.Moments.{Moment, before_turn, tick_of}
use Rattle.panel_rules.specs.Words.{word_made}
use Rattle.panel_rules.specs.Zones.{held_answers, panel_of_zone}

-- a mask of a panel's zones has a zone
abbrev pub mask_has_zone : ℕ → Option Zone → Bool
mask_has_zone mask None = false
mask_has_zone mask (Some zone) = has_bit mask (zone.number - 1)

-- the facts that words tell, one of each panel: which zones are released, which are in alarm by hand, which panels of
-- the site have a fault
abbrev pub facts_of_words : Site → (ℕ → Word) → Facts
facts_of_words site words = record {
  released = λ zone. mask_has_zone (words (panel_of_zone site zone)).released (slice_get site.zones zone);
  by_hand = λ zone. mask_has_zone (words (panel_of_zone site zone)).manual (slice_get site.zones zone);
  faulty = λ source. (nat_le 1 source && nat_le source site.panels) && (words source).fault;
}

module _ (site : Site) (kept : Retained) (done : List Done) (panel : ℕ) (handed : List Moment → ℕ → Word)
    (up : List Moment → ℕ → Bool) where
  module _ (told : List Moment → Bool) where
    -- the word that the panel keeps of itself: the latest that it had made at its latest turn of Link
    abbrev pub own_kept : List Moment → Word
    own_kept before = word_made site kept done (λ source. told) panel (made_at panel (before_turn panel Link before))

    -- the words that it keeps, its own too
    abbrev pub words_held : List Moment → ℕ → Word
    words_held before source = if source == panel then own_kept before else handed before source

    -- the facts of a turn of Effect made now
    abbrev pub facts_by_words : ℕ → List Moment → Facts
    facts_by_words effect_of before = facts_of_words site (words_held before)

    -- what stands besides missing points at a turn of Hold made now
    abbrev pub outside_by_words : List Moment → Outside
    outside_by_words before =
        outside_at site facts_by_words kept done (λ source. (words_held before source).stamp.0) (up before) panel before

    -- the faults that stood at the turn of Hold that made a word; none at the empty word
    abbrev pub faults_at_word : List Moment → FaultSet
    faults_at_word [] = no_faults
    faults_at_word (turn ∷ before) =
        answered_faults site kept panel done (held_answers site panel (turn ∷ before)) (tick_of (turn ∷ before))
        (outside_by_words before)

  -- whether a word that the panel made tells a fault: some fault stood at the turn that made it. Outputs without
  -- confirmation are faults, so this looks back to words made before; a bound on how far is given
  unfoldable pub own_tells_to : ℕ → List Moment → Bool
  own_tells_to bound [] = false
  own_tells_to zero (turn ∷ before) = false
  own_tells_to (suc bound) (turn ∷ before) = has_fault (faults_at_word (own_tells_to bound) (turn ∷ before))

  -- no word has more words before it than moments
  abbrev pub own_tells : List Moment → Bool
  own_tells word = own_tells_to (length word) word

  -- the facts of its turns of Effect
  abbrev pub handed_facts : ℕ → List Moment → Facts
  handed_facts effect_of before = facts_by_words own_tells effect_of before

  -- the faults at the latest turn of Hold
  abbrev pub handed_faults : List Moment → FaultSet
  handed_faults moments = faults_at_word own_tells (made_at panel moments)

  -- the latest word
  abbrev pub handed_word : List Moment → Word
  handed_word moments = word_made site kept done (λ source. own_tells) panel (made_at panel moments)
