-- Where each event is of the site, each operation is.
use Rattle.std.proofs.Common.{◌≡◌, ℕ, ◌&&◌, true, List, [], ◌∷◌}
use Rattle.std.specs.Prelude.{nat_le}
use Rattle.std.specs.List.{AllByRecursion}
use Rattle.site_types.specs.declared.event.Event.TheVariants.{Op, Point, Cable, Supply, Link, Confirmed}
use Rattle.site_types.specs.declared.operation.Operation.{Operation}
use Rattle.site_types.specs.declared.site.Site.{Site}
use Rattle.site_types.specs.Events.{has_operands, is_panel}
use Rattle.panel_rules.specs.Moments.{Moment, Began, Happened, Turned, Kept, IsPanel}
use Rattle.panel_rules.specs.Operations.{Request, requests}
use Rattle.panel_laws.specs.OperationLaws.{AreEventsOf, OperationsAreOfSite}
use Rattle.panel_rules.proofs.Bools.{parts}
use Rattle.panel_rules.proofs.Counting.{each_at, each_more}
use Rattle.panel_rules.proofs.Floors.{le_from}

abbrev IsOfSite : Site → Request → Type 0
IsOfSite site r = IsPanel site.panels r.panel × (has_operands site r.panel r.operation ≡ true)

of_event : (site : Site) (panel : ℕ) (operation : Operation) → (is_panel site panel && has_operands site panel operation) ≡ true
    → IsPanel site.panels panel × (has_operands site panel operation ≡ true)
of_event site panel operation h =
    let p = parts (is_panel site panel) (has_operands site panel operation) h in
    let own = parts (nat_le 1 panel) (nat_le panel site.panels) p.0 in
    ((le_from 1 panel own.0, le_from panel site.panels own.1), p.1)

each_of_site : (site : Site) (moments : List Moment) → AreEventsOf site moments → AllByRecursion (IsOfSite site) (requests site moments)
each_of_site site [] h = tt
each_of_site site (Began ∷ before) h = each_of_site site before h
each_of_site site (Happened (Op panel code operation) ∷ before) h =
    each_more (IsOfSite site) (requests site before) _ (each_of_site site before h.0) (of_event site panel operation h.1)
each_of_site site (Happened (Point point state) ∷ before) h = each_of_site site before h.0
each_of_site site (Happened (Cable panel line piece state) ∷ before) h = each_of_site site before h.0
each_of_site site (Happened (Supply panel kind bad) ∷ before) h = each_of_site site before h.0
each_of_site site (Happened (Link link up) ∷ before) h = each_of_site site before h.0
each_of_site site (Happened (Confirmed output) ∷ before) h = each_of_site site before h.0
each_of_site site (Turned panel task ∷ before) h = each_of_site site before h
each_of_site site (Kept failed ∷ before) h = each_of_site site before h

pub of_site : OperationsAreOfSite
of_site site moments h place r is = each_at (IsOfSite site) (requests site moments) place r (each_of_site site moments h) is
