-- The word that a panel by itself makes, and the one that it keeps of itself at its turn of Link.
use Rattle.std.proofs.Common.{◌≡◌, ◌∙◌, ℕ, List, [], ◌∷◌, refl, sym, ap}
use Rattle.tick_units.specs.declared.task.Task.TheVariants.{Link}
use Rattle.site_types.specs.declared.retained.Retained.{Retained}
use Rattle.site_types.specs.declared.site.Site.{Site}
use Rattle.site_types.specs.Done.{Done}
use Rattle.hold_calls.specs.Shown.{fault_told, faults_told, latest_faults, word_told}
use Rattle.node_rules.specs.Handed.{faults_at_word, handed_faults, handed_word, own_tells, own_tells_to}
use Rattle.node_rules.specs.Histories.{Befell, NodeMoment, befallen}
use Rattle.node_rules.specs.Nodes.{node_up, node_words}
use Rattle.node_rules.proofs.OwnFaults.{told_where_own}
use Rattle.panel_rules.specs.Kept.{made_at}
use Rattle.panel_rules.specs.Moments.{Moment, Turned, before_turn}
use Rattle.panel_rules.specs.Words.{word_made}
use Rattle.panel_rules.proofs.FaultsTold.{past_short}
use Rattle.panel_rules.proofs.KeptWords.{made_is}
use Rattle.panel_rules.proofs.Turns.{own_turn}
use Rattle.panel_node.specs.Told.{word_of_itself, told_by_frames}
use Rattle.panel_node.proofs.Histories.{word_moment}

module _ (site : Site) (kept : Retained) (done : List Done) (panel : ℕ) (history : List NodeMoment) where
  -- a word tells a fault where one stood at the turn that made it
  fault_is : (word : List Moment) → fault_told site kept done (told_by_frames site kept done panel history) panel word
      ≡ own_tells site kept done panel (node_words site panel history) (node_up site panel history) word
  unfolding own_tells_to
  fault_is [] = refl
  fault_is (turn ∷ before) = sym (told_where_own site kept done panel (node_words site panel history) (node_up site panel history) turn before)

  word_is : (word : List Moment) → word_made site kept done (λ source. fault_told site kept done (told_by_frames site kept done panel history) panel) panel word
      ≡ word_made site kept done (λ source. own_tells site kept done panel (node_words site panel history) (node_up site panel history)) panel word
  word_is [] = refl
  word_is (turn ∷ before) = rw (fault_is (turn ∷ before)) refl

  -- what Hold tells is what a panel is handed
  pub word_handed : (moments : List Moment) → word_told site kept done (told_by_frames site kept done panel history) panel moments
      ≡ handed_word site kept done panel (node_words site panel history) (node_up site panel history) moments
  word_handed moments = word_is (made_at panel moments)

  faults_by : (word : List Moment) → faults_told site kept done (told_by_frames site kept done panel history) panel word
      ≡ faults_at_word site kept done panel (node_words site panel history) (node_up site panel history)
      (own_tells site kept done panel (node_words site panel history) (node_up site panel history)) word
  faults_by [] = refl
  faults_by (turn ∷ before) = refl

  pub faults_handed : (moments : List Moment) → latest_faults site kept done (told_by_frames site kept done panel history) panel moments
      ≡ handed_faults site kept done panel (node_words site panel history) (node_up site panel history) moments
  faults_handed moments = faults_by (made_at panel moments)

  -- the word that it keeps of itself is the latest that it had made at its turn of Link
  pub own_at_link : word_told site kept done (told_by_frames site kept done panel history) panel (befallen history)
      ≡ word_of_itself site kept done panel (Befell (Turned panel Link) ∷ history) (Turned panel Link ∷ befallen history)
  own_at_link =
      word_handed (befallen history)
      ∙ word_moment site kept done panel (Turned panel Link) history (made_at panel (befallen history))
      (past_short (made_at panel (befallen history)) (befallen history) (made_is panel (befallen history)).past)
      ∙ ap (λ b. word_made site kept done (λ source. own_tells site kept done panel (node_words site panel (Befell (Turned panel Link) ∷ history))
      (node_up site panel (Befell (Turned panel Link) ∷ history))) panel (made_at panel b)) (sym at_link)
    where
      at_link : before_turn panel Link (Turned panel Link ∷ befallen history) ≡ befallen history
      at_link = rw (own_turn panel Link) refl
