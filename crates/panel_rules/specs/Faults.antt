-- Which faults stand at a turn of Hold. The stamps heard of panels, the links that are down and the facts of
-- Effect turns are arguments.
use Rattle.std.specs.Prelude.{ℕ, ◌+◌, ◌==◌, ◌&&◌, not, nat_lt, Bool, List, [], ◌∷◌, slice_get, if◌then◌else◌}
use Rattle.tick_units.specs.declared.task.Task.TheVariants.{Supply as SupplyTask}
use Rattle.site_types.specs.declared.event.Event.{Event}
use Rattle.site_types.specs.declared.event.Event.TheVariants.{Supply}
use Rattle.site_types.specs.declared.fault_set.FaultSet.{FaultSet}
use Rattle.site_types.specs.declared.retained.Retained.{Retained}
use Rattle.site_types.specs.declared.site.Site.{Site}
use Rattle.site_types.specs.Bits.{mask_of}
use Rattle.site_types.specs.Done.{Done}
use Rattle.site_types.specs.Events.{is_confirming}
use Rattle.site_types.specs.Limits.{most_loops, most_panels}
use Rattle.site_types.specs.Profile.{routing_of, silent_of}
use Rattle.loop_poller.specs.Asked.{status_on}
use Rattle.site_types.specs.Things.{loop_of}
use Rattle.supply_monitor.specs.Supply.{Call, Reported, Turned as TurnMade, shown_mask}
use Rattle.panel_links.specs.Stands.{is_link_of}
use Rattle.panel_conditions.specs.declared.outside.Outside.{Outside}
use Rattle.panel_conditions.specs.Answered.{answered_faults}
use Rattle.panel_rules.specs.Moments.{Moment, Began, Happened, Turned, Kept, tick_of}
use Rattle.panel_rules.specs.States.{piece_of}
use Rattle.panel_rules.specs.Zones.{held_answers}
use Rattle.panel_rules.specs.Markers.{Facts}
use Rattle.panel_rules.specs.Outputs.{on_output, outputs_where, on_run, has_lasted, is_confirmed_out}

-- what befell the supplies of a panel: reports, and the turns of its Supply
abbrev pub and_supply : ℕ → Event → List Call → List Call
and_supply panel (Supply other kind bad) calls = if other == panel then Reported kind bad ∷ calls else calls
and_supply panel _ calls = calls

abbrev pub supply_calls : ℕ → List Moment → List Call
supply_calls panel [] = []
supply_calls panel (Began ∷ before) = supply_calls panel before
supply_calls panel (Happened event ∷ before) = and_supply panel event (supply_calls panel before)
supply_calls panel (Turned other SupplyTask ∷ before) = if other == panel then TurnMade (tick_of before)
    ∷ supply_calls panel before else supply_calls panel before
supply_calls panel (Turned other task ∷ before) = supply_calls panel before
supply_calls panel (Kept failed ∷ before) = supply_calls panel before

-- the loops of a panel with an open piece, and those with a short one
abbrev pub broken_loops : Site → ℕ → List Moment → ℕ
broken_loops site panel moments =
    mask_of most_loops
    (λ k. (status_on (loop_of site panel (k + 1)) (λ piece. piece_of panel (k + 1) piece moments)).broken)

abbrev pub shorted_loops : Site → ℕ → List Moment → ℕ
shorted_loops site panel moments =
    mask_of most_loops
    (λ k. (status_on (loop_of site panel (k + 1)) (λ piece. piece_of panel (k + 1) piece moments)).shorted)

-- the panels of which nothing newer was heard for too long
abbrev pub silent_panels : Site → (ℕ → ℕ) → ℕ → ℕ
silent_panels site stamps tick =
    mask_of most_panels (λ k. nat_lt k site.panels && nat_lt (stamps (k + 1) + silent_of site.format) tick)

-- the links of a panel that are down
abbrev pub links_down : Site → ℕ → (ℕ → Bool) → ℕ
links_down site panel up = mask_of most_panels (λ k. is_link_of site.panels panel (k + 1) && not (up (k + 1)))

-- what stands besides missing points, with these silent panels, links that are down and outputs without
-- confirmation
abbrev pub outside_with : Site → ℕ → List Moment → ℕ → ℕ → ℕ → Outside
outside_with site panel moments silent links unconfirmed =
    record {
      supply = shown_mask site.waits (supply_calls panel moments);
      broken = broken_loops site panel moments;
      shorted = shorted_loops site panel moments;
      silent = silent;
      links = links;
      unconfirmed = unconfirmed;
    }

module _ (site : Site) (facts : ℕ → List Moment → Facts) (kept : Retained) (done : List Done) where
  -- an output that asks for a confirmation has been on for too long without one
  abbrev pub is_unconfirmed : ℕ → List Moment → Bool
  is_unconfirmed output moments =
      on_output (λ o. is_confirming o.kind) (slice_get site.outputs output)
      && (has_lasted (routing_of site.format) (on_run site facts kept done output moments)
      && not (is_confirmed_out site facts kept done output moments))

  module _ (stamps : ℕ → ℕ) (up : ℕ → Bool) where
    -- what stands besides missing points
    abbrev pub outside_at : ℕ → List Moment → Outside
    outside_at panel moments =
        outside_with site panel moments (silent_panels site stamps (tick_of moments)) (links_down site panel up)
        (outputs_where site panel (λ output. is_unconfirmed output moments))

    -- the faults that stand at a turn of Hold, with what had befallen up to that turn
    abbrev pub faults_by : ℕ → List Moment → FaultSet
    faults_by panel moments =
        answered_faults site kept panel done (held_answers site panel moments) (tick_of moments)
        (outside_at panel moments)
