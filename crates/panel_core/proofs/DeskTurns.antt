-- The turns of Desk and Keep: when the desk may have them, and what they make of the system.
use Rattle.std.proofs.Common.{ℕ, Bool, List, ◌∷◌, sym, subst}
use Rattle.tick_units.specs.declared.task.Task.TheVariants.{Desk as DeskTask}
use Rattle.site_types.specs.declared.retained.Retained.{Retained}
use Rattle.site_types.specs.declared.site.Site.{Site}
use Rattle.operation_desk.specs.declared.desk.Desk.{Desk}
use Rattle.operation_desk.specs.Stands.{CanAnswerAll, CanTurn, DesksFor, MayTakeKeepTurn, MayTakeTurn}
use Rattle.panel_laws.proofs.EventsOfSite.{of_site}
use Rattle.panel_rules.specs.Moments.{Moment, Turned, Kept, IsPanel, IsRun}
use Rattle.panel_parts.specs.declared.kept_counts.KeptCounts.{KeptCounts}
use Rattle.panel_core.specs.declared.system.System.{System}
use Rattle.panel_parts.specs.Entries.{CountsFor}
use Rattle.panel_core.specs.Stands.{StandsFor}
use Rattle.panel_core.proofs.Whole.{stands_after_desk, stands_after_keep}

module _ (site : Site) (kept : Retained) (before : List Moment) (system : System) (h : StandsFor site kept before system) where
  desk_may : (panel : ℕ) → IsPanel site.panels panel → IsRun site.panels (Turned panel DeskTask ∷ before)
      → MayTakeTurn system.site kept system.settings panel before
  desk_may panel member run =
      subst (λ s. MayTakeTurn s kept system.settings panel before) (sym h.same) (record {
        valid = h.valid;
        member = member;
        run = run;
        of = of_site site before h.events;
        in_force = h.settings;
      })

  desk_stands : DesksFor system.site kept before system.desk
  desk_stands = subst (λ s. DesksFor s kept before system.desk) (sym h.same) h.desk

  pub can_turn : (panel : ℕ) → IsPanel site.panels panel → IsRun site.panels (Turned panel DeskTask ∷ before)
      → CanTurn system.site system.settings panel system.desk
  can_turn panel member run = record { kept = kept; before = before; stands = desk_stands; may = desk_may panel member run }

  pub desk_turn : (panel : ℕ) (desk : Desk) → IsPanel site.panels panel → IsRun site.panels (Turned panel DeskTask ∷ before)
      → (DesksFor system.site kept before system.desk → MayTakeTurn system.site kept system.settings panel before
      → DesksFor system.site kept (Turned panel DeskTask ∷ before) desk)
      → StandsFor site kept (Turned panel DeskTask ∷ before) (record system { desk = desk })
  desk_turn panel desk member run takes =
      stands_after_desk site kept before system panel desk h
      (subst (λ s. DesksFor s kept (Turned panel DeskTask ∷ before) desk) h.same (takes desk_stands (desk_may panel member run)))

  keep_may : (failed : Bool) → IsRun site.panels (Kept failed ∷ before) → MayTakeKeepTurn site failed before
  keep_may failed run = record { valid = h.valid; run = run; of = of_site site before h.events }

  pub can_keep : (failed : Bool) → IsRun site.panels (Kept failed ∷ before) → CanAnswerAll failed system.desk
  can_keep failed run = record { site = site; kept = kept; before = before; stands = h.desk; may = keep_may failed run }

  pub keep_turn : (failed : Bool) (desk : Desk) (counts : KeptCounts) → IsRun site.panels (Kept failed ∷ before)
      → (DesksFor site kept before system.desk → MayTakeKeepTurn site failed before → DesksFor site kept (Kept failed ∷ before) desk)
      → CountsFor site kept (Kept failed ∷ before) counts → StandsFor site kept (Kept failed ∷ before) (record system { desk = desk; counts = counts })
  keep_turn failed desk counts run takes counted =
      stands_after_keep site kept before system failed desk counts h (takes h.desk (keep_may failed run)) counted
