-- Which outputs a panel that runs by itself has on for what the words tell that it keeps.
use Rattle.std.specs.Prelude.{◌≡◌, ◌≤◌, ◌<◌, ◌⊎◌, ◌+◌, ◌&&◌, ℕ, Bool, true, false, List, ◌∷◌, Some, slice_get}
use Rattle.tick_units.specs.declared.task.Task.TheVariants.{Effect}
use Rattle.site_types.specs.declared.output.Output.{Output}
use Rattle.site_types.specs.declared.retained.Retained.{Retained}
use Rattle.site_types.specs.declared.site.Site.{Site}
use Rattle.panel_rules.specs.Markers.{Facts, hand_facts}
use Rattle.panel_rules.specs.Moments.{Turned, tick_of}
use Rattle.panel_rules.specs.Outputs.{delay_of, is_true_over}
use Rattle.panel_laws.specs.FaceLaws.{HasEnded, shows_output}
use Rattle.node_rules.specs.Histories.{Befell, IsPartOf, NodeMoment, befallen}
use Rattle.node_rules.specs.Nodes.{node_face}
use Rattle.node_laws.specs.MayBeOn.{MayBeOn}
use Rattle.node_laws.specs.WordsKept.{facts_now}

-- the words that the panel kept at each of its turns of Effect pass a test, in the tick that began last and in so many
-- ticks before it; the first of these is tick 1 or a later one
pub record WordsPass (site : Site) (panel : ℕ) (kept : Retained) (history : List NodeMoment) (count : ℕ)
    (test : Facts → Bool) : Type 0 where
  pub begins : count < tick_of (befallen history)
  pub each : (before : List NodeMoment) → IsPartOf (Befell (Turned panel Effect) ∷ before) history
      → tick_of (befallen history) ≤ tick_of (befallen before) + count
      → test (facts_now site panel before kept) ≡ true

-- facts make the marker of an output true, by hand too
abbrev pub is_true_by_hand : Site → ℕ → Facts → Bool
is_true_by_hand site output facts = is_true_over site output facts && is_true_over site output (hand_facts facts)

-- the words that were kept asked for the output, by hand now and in the tick before, or for as long as its delay and in
-- the tick before
abbrev pub WordsAsk : Site → ℕ → Retained → List NodeMoment → ℕ → Type 0
WordsAsk site panel kept history output =
    WordsPass site panel kept history 1 (is_true_by_hand site output)
    ⊎ WordsPass site panel kept history (delay_of site output + 1) (is_true_over site output)

-- an output that may be on and is asked for so is shown on in the face of its panel
abbrev pub AskedAtNodeIsOn : Type 0
AskedAtNodeIsOn =
    (site : Site) (kept : Retained) (history : List NodeMoment) (output : ℕ) (plan : Output)
    → HasEnded site (befallen history) → slice_get site.outputs output ≡ Some plan
    → MayBeOn site plan.panel kept history output → WordsAsk site plan.panel kept history output
    → shows_output (node_face site plan.panel history kept) plan ≡ true

-- facts with all faults taken as false
abbrev pub without_faults : Facts → Facts
without_faults facts =
    record { released = facts.released; by_hand = facts.by_hand; faulty = λ source. false }

-- an output that may be on is shown on in the face of its panel where its marker is true over the words kept at each
-- moment of the tick, of the two before it and of as many more as its delay has, with all faults taken as false
abbrev pub KeptThroughoutIsOn : Type 0
KeptThroughoutIsOn =
    (site : Site) (kept : Retained) (history : List NodeMoment) (output : ℕ) (plan : Output)
    → HasEnded site (befallen history) → slice_get site.outputs output ≡ Some plan
    → MayBeOn site plan.panel kept history output
    → ((part : List NodeMoment) → IsPartOf part history
    → tick_of (befallen history) ≤ tick_of (befallen part) + 2 + delay_of site output
    → is_true_over site output (without_faults (facts_now site plan.panel part kept)) ≡ true)
    → shows_output (node_face site plan.panel history kept) plan ≡ true
