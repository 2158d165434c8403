-- By what an output is on that a panel that runs by itself shows on.
use Rattle.std.specs.Prelude.{◌≡◌, ◌≤◌, ◌+◌, ℕ, true, List, ◌∷◌, Some, slice_get}
use Rattle.tick_units.specs.declared.task.Task.TheVariants.{Effect, Link}
use Rattle.site_types.specs.declared.fault_set.FaultSet.{FaultSet}
use Rattle.site_types.specs.declared.output.Output.{Output}
use Rattle.site_types.specs.declared.retained.Retained.{Retained}
use Rattle.site_types.specs.declared.site.Site.{Site}
use Rattle.panel_conditions.specs.Words.{has_fault}
use Rattle.panel_rules.specs.Caused.{IsCausedByHand, IsCausedOut}
use Rattle.panel_rules.specs.Kept.{made_at}
use Rattle.panel_rules.specs.Moments.{Turned, before_turn, tick_of}
use Rattle.panel_rules.specs.Outputs.{is_true_over}
use Rattle.panel_rules.specs.Zones.{panel_of_zone}
use Rattle.panel_laws.specs.FaceLaws.{HasEnded, shows_output}
use Rattle.node_rules.specs.Handed.{faults_at_word, own_tells}
use Rattle.node_rules.specs.Histories.{Befell, IsPartOf, NodeMoment, befallen}
use Rattle.node_rules.specs.Nodes.{node_done, node_face, node_up, node_word, node_words}
use Rattle.node_laws.specs.WordsKept.{facts_now}

-- the faults that stood when the panel made the word that it keeps now of itself
abbrev pub faults_at_own_word : Site → ℕ → Retained → List NodeMoment → FaultSet
faults_at_own_word site panel kept history =
    faults_at_word site kept (node_done site panel history kept) panel (node_words site panel history)
    (node_up site panel history)
    (own_tells site kept (node_done site panel history kept) panel (node_words site panel history)
    (node_up site panel history)) (made_at panel (before_turn panel Link (befallen history)))

-- what the word that the panel keeps of itself tells is caused by its stamp: its zones are released and in alarm by
-- hand, and where it tells a fault one stood
pub record IsOwnCaused (site : Site) (panel : ℕ) (kept : Retained) (history : List NodeMoment) : Type 0 where
  pub released : (zone : ℕ) → panel_of_zone site zone ≡ panel
      → (facts_now site panel history kept).released zone ≡ true
      → IsCausedOut site kept (node_done site panel history kept) (befallen history) zone
      (node_word site panel history kept panel).stamp.0
  pub by_hand : (zone : ℕ) → panel_of_zone site zone ≡ panel
      → (facts_now site panel history kept).by_hand zone ≡ true
      → IsCausedByHand site kept (node_done site panel history kept) (befallen history) zone
      (node_word site panel history kept panel).stamp.0
  pub fault : (facts_now site panel history kept).faulty panel ≡ true
      → has_fault (faults_at_own_word site panel kept history) ≡ true

-- the words that the panel kept at a turn of Effect in this tick or in the one before made the marker of an output
-- true: of each other panel the newest that had come, and its own, of which all that it told is caused
pub record IsCausedAtNode (site : Site) (panel : ℕ) (kept : Retained) (history : List NodeMoment) (output : ℕ)
    : Type 0 where
  pub before : List NodeMoment
  pub turn : IsPartOf (Befell (Turned panel Effect) ∷ before) history
  pub late : tick_of (befallen history) ≤ tick_of (befallen before) + 1
  pub asks : is_true_over site output (facts_now site panel before kept) ≡ true
  pub own : IsOwnCaused site panel kept before

-- each output that is shown on has such a cause
abbrev pub OnAtNodeIsCaused : Type 0
OnAtNodeIsCaused =
    (site : Site) (kept : Retained) (history : List NodeMoment) (output : ℕ) (plan : Output)
    → HasEnded site (befallen history) → slice_get site.outputs output ≡ Some plan
    → shows_output (node_face site plan.panel history kept) plan ≡ true
    → IsCausedAtNode site plan.panel kept history output
