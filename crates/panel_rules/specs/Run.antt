-- What the words of a run tell, and the facts that its Effect turns solve the markers over.
use Rattle.std.specs.Prelude.{ℕ, zero, suc, Bool, false, List, [], ◌∷◌, length}
use Rattle.site_types.specs.declared.fault_set.FaultSet.{FaultSet}
use Rattle.site_types.specs.declared.retained.Retained.{Retained}
use Rattle.site_types.specs.declared.site.Site.{Site}
use Rattle.site_types.specs.Done.{Done}
use Rattle.panel_conditions.specs.Words.{has_fault}
use Rattle.panel_rules.specs.Moments.{Moment}
use Rattle.panel_rules.specs.States.{is_up}
use Rattle.panel_rules.specs.Zones.{holds_by_hand, holds_released, panel_of_zone}
use Rattle.panel_rules.specs.Kept.{kept_at, heard, made_at}
use Rattle.panel_rules.specs.Markers.{Facts}
use Rattle.panel_rules.specs.Faults.{faults_by}

module _ (site : Site) (kept : Retained) (done : List Done) where
  module _ (told : ℕ → List Moment → Bool) where
    -- the facts of an Effect turn of a panel made now: what the words that it keeps say of zones, and whether
    -- they tell a fault
    abbrev pub facts_with : ℕ → List Moment → Facts
    facts_with panel before =
        record {
          released =
              λ zone. holds_released site kept done (panel_of_zone site zone)
              (kept_at site.panels panel (panel_of_zone site zone) before) zone;
          by_hand =
              λ zone. holds_by_hand site kept done (panel_of_zone site zone)
              (kept_at site.panels panel (panel_of_zone site zone) before) zone;
          faulty = λ source. told source (kept_at site.panels panel source before);
        }

    -- the faults of a panel at a turn of Hold, with what had befallen up to that turn
    abbrev pub faults_with : ℕ → List Moment → FaultSet
    faults_with panel moments =
        faults_by site facts_with kept done (λ source. heard site.panels panel source moments)
        (λ link. is_up link moments) panel moments

  -- whether the word of a panel tells a fault: some fault stood at the turn that made it; the empty word
  -- tells none. Outputs without confirmation are faults, so this looks back to words made before; a bound on
  -- how far is given
  unfoldable pub tells_to : ℕ → ℕ → List Moment → Bool
  tells_to bound panel [] = false
  tells_to zero panel (moment ∷ before) = false
  tells_to (suc bound) panel (moment ∷ before) =
      has_fault (faults_with (tells_to bound) panel (moment ∷ before))

  -- no word has more words before it than moments
  abbrev pub tells_fault : ℕ → List Moment → Bool
  tells_fault panel word = tells_to (length word) panel word

  -- the facts of the run
  abbrev pub facts_of : ℕ → List Moment → Facts
  facts_of panel before = facts_with tells_fault panel before

  -- the faults of a panel at its latest turn of Hold
  abbrev pub faults_of : ℕ → List Moment → FaultSet
  faults_of panel moments = faults_with tells_fault panel (made_at panel moments)
