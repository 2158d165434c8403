-- What is done is of the site: it is done at a panel of it, which has what it names.
use Rattle.std.proofs.Common.{◌≡◌, ℕ, ◌==◌, ◌&&◌, true, false, Bool, List, [], ◌∷◌, Option, Some, None}
use Rattle.std.specs.List.{AllByRecursion}
use Rattle.tick_units.specs.declared.task.Task.TheVariants.{Desk}
use Rattle.site_types.specs.declared.operation.Operation.{Operation}
use Rattle.site_types.specs.declared.retained.Retained.{Retained}
use Rattle.site_types.specs.declared.site.Site.{Site}
use Rattle.site_types.specs.Done.{Done}
use Rattle.site_types.specs.Events.{has_operands}
use Rattle.panel_laws.specs.OperationLaws.{AreEventsOf}
use Rattle.panel_laws.proofs.EventsOfSite.{of_site}
use Rattle.panel_rules.specs.Moments.{Moment, Began, Happened, Turned, Kept, IsPanel, tick_of}
use Rattle.panel_rules.specs.Operations.{Reply, Request, Busy, Denied, Waiting, Already, Store, WasDone, Operations, after_desk, after_keep}
use Rattle.panel_rules.specs.Operations.{after_reply, after_request, desk_reply, do_all, done_in, operations, requests, requests_in}
use Rattle.panel_rules.proofs.Counting.{each_filtered, each_more}
use Rattle.panel_parts.specs.Applied.{done_so_far}

abbrev IsOf : Site → ℕ → Operation → Type 0
IsOf site panel operation = IsPanel site.panels panel × (has_operands site panel operation ≡ true)

abbrev DoneOf : Site → Done → Type 0
DoneOf site d = IsOf site d.panel d.operation

abbrev AskedOf : Site → Request → Type 0
AskedOf site r = IsOf site r.panel r.operation

record AreOf (site : Site) (so_far : Operations) : Type 0 where
  done : AllByRecursion (DoneOf site) so_far.done
  waiting : AllByRecursion (AskedOf site) so_far.waiting

of_reply : (site : Site) (r : Request) (so_far : Operations) (o : Option Reply) → AskedOf site r → AreOf site so_far
    → AreOf site (after_reply r so_far o)
of_reply site r so_far None is h = record { done = h.done; waiting = each_more (AskedOf site) so_far.waiting r h.waiting is }
of_reply site r so_far (Some Busy) is h = record { done = h.done; waiting = h.waiting }
of_reply site r so_far (Some (Denied needs has)) is h = record { done = h.done; waiting = h.waiting }
of_reply site r so_far (Some Waiting) is h = record { done = h.done; waiting = h.waiting }
of_reply site r so_far (Some Already) is h = record { done = h.done; waiting = h.waiting }
of_reply site r so_far (Some Store) is h = record { done = h.done; waiting = h.waiting }
of_reply site r so_far (Some WasDone) is h = record { done = (is, h.done); waiting = h.waiting }

of_desk : (site : Site) (kept : Retained) (taken : List Request) (so_far : Operations) → AllByRecursion (AskedOf site) taken → AreOf site so_far
    → AreOf site (after_desk site kept taken so_far)
of_desk site kept [] so_far all h = h
of_desk site kept (r ∷ taken) so_far all h =
    of_desk site kept taken (after_request site kept so_far r) all.1 (of_reply site r so_far (desk_reply site kept r so_far) all.0 h)

of_all : (site : Site) (tick : ℕ) (waiting : List Request) (done : List Done) → AllByRecursion (AskedOf site) waiting
    → AllByRecursion (DoneOf site) done → AllByRecursion (DoneOf site) (do_all tick waiting done)
of_all site tick [] done all h = h
of_all site tick (r ∷ waiting) done all h = of_all site tick waiting (done_in tick r ∷ done) all.1 (all.0, h)

of_kept : (site : Site) (tick : ℕ) (failed : Bool) (so_far : Operations) → AreOf site so_far → AreOf site (after_keep tick failed so_far)
of_kept site tick true so_far h = record { done = h.done; waiting = tt }
of_kept site tick false so_far h = record { done = of_all site tick so_far.waiting so_far.done h.waiting h.done; waiting = tt }

of_operations : (site : Site) (kept : Retained) (moments : List Moment) → AreEventsOf site moments → AreOf site (operations site kept moments)
of_operations site kept [] events = record { done = tt; waiting = tt }
of_operations site kept (Began ∷ before) events = let h = of_operations site kept before events in record { done = h.done; waiting = h.waiting }
of_operations site kept (Happened event ∷ before) events =
    let h = of_operations site kept before events.0 in record { done = h.done; waiting = h.waiting }
of_operations site kept (Turned panel Desk ∷ before) events =
    of_desk site kept (requests_in panel (tick_of before) (requests site before)) (operations site kept before)
    (each_filtered (AskedOf site) (λ (r : Request). (r.panel == panel) && (r.tick == tick_of before)) (requests site before)
    (λ k r is t. of_site site before events k r is)) (of_operations site kept before events)
of_operations site kept (Turned panel task ∷ before) events =
    let h = of_operations site kept before events in record { done = h.done; waiting = h.waiting }
of_operations site kept (Kept failed ∷ before) events = of_kept site (tick_of before) failed (operations site kept before) (of_operations site kept before events)

pub done_of_site : (site : Site) (kept : Retained) (moments : List Moment) → AreEventsOf site moments
    → AllByRecursion (DoneOf site) (done_so_far site kept moments)
done_of_site site kept moments events = (of_operations site kept moments events).done
