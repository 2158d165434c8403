-- What an event makes of a panel.
use Rattle.std.proofs.Common.{◌≡◌, ℕ, ◌-◌, ◌^◌, ◌≤◌, ◌<◌, ◌==◌, ◌&&◌, List, ◌∷◌, length, Option, Some, None, slice_get}
use Rattle.std.proofs.Common.{get_or, true, false, if◌then◌else◌, refl, sym, ◌∙◌, ap, subst, arith, Bool}
use Rattle.std.specs.Prelude.{nat_le}
use Rattle.std.specs.Vec.{with_item}
use Rattle.std.proofs.lemmas.Bool.{eqb-true}
use Rattle.std.proofs.lemmas.Option.{slice_get_read, slice_get_within}
use Rattle.site_types.specs.declared.event.Event.{Event}
use Rattle.site_types.specs.declared.event.Event.TheVariants.{Point, Cable, Supply, Confirmed, Link as LinkEvent}
use Rattle.site_types.specs.declared.output.Output.{Output}
use Rattle.site_types.specs.Changes.{IsNumber}
use Rattle.site_types.specs.declared.point.Point.{Point as PointPlan}
use Rattle.site_types.specs.declared.loop_plan.LoopPlan.{LoopPlan}
use Rattle.site_types.specs.declared.point_state.PointState.{PointState}
use Rattle.site_types.specs.declared.piece_state.PieceState.{PieceState}
use Rattle.site_types.specs.declared.retained.Retained.{Retained}
use Rattle.site_types.specs.declared.site.Site.{Site}
use Rattle.site_types.specs.declared.supply_kind.SupplyKind.{SupplyKind}
use Rattle.site_types.specs.Events.{has_event, has_piece, is_confirming, is_panel, is_some_with}
use Rattle.site_types.specs.Valid.{IsValid}
use Rattle.site_types.proofs.ValidSites.{loop_at, output_at, point_at}
use Rattle.loop_poller.specs.Calls.{Reported, Cabled}
use Rattle.supply_monitor.specs.Supply.{Reported as SupplyReported}
use Rattle.hold_calls.specs.Told.{told_in_ring}
use Rattle.panel_rules.specs.Faults.{supply_calls}
use Rattle.panel_rules.specs.Moments.{Moment, Happened, IsPanel}
use Rattle.panel_rules.specs.Operations.{requests}
use Rattle.panel_rules.proofs.Bools.{parts as both_parts, at_any}
use Rattle.panel_rules.proofs.AnswersTell.{eq_true}
use Rattle.panel_rules.proofs.Floors.{le_from, lt_from}
use Rattle.operation_desk.specs.declared.desk.Desk.{Desk}
use Rattle.operation_desk.specs.Stands.{CanTakeEvent, DesksFor}
use Rattle.panel_laws.specs.OperationLaws.{AreOfSite}
use Rattle.panel_laws.proofs.EventsOfSite.{of_site}
use Rattle.panel_parts.specs.declared.parts.Parts.{Parts}
use Rattle.panel_core.specs.declared.system.System.{System}
use Rattle.panel_rules.specs.Reports.{is_on_panel, reports}
use Rattle.panel_core.specs.Stands.{KeepsWords, StandsFor, StandsInRing}
use Rattle.panel_parts.specs.Applied.{applied}
use Rattle.panel_parts.proofs.Counts.{counts_stay}
use Rattle.panel_links.specs.declared.ring.Ring.{Ring}
use Rattle.panel_rules.specs.Outputs.{panel_of_plan}
use Rattle.panel_parts.proofs.Reports.{IsOther, none_confirmed, not_monitored, not_reported, not_there, untold}
use Rattle.panel_core.proofs.Whole.{panel_at, stands_changed, stands_unchanged}

-- the desk after an event of the site
pub record DeskAfter (site : Site) (kept : Retained) (before : List Moment) (event : Event) (desk : Desk) : Type 0 where
  pub has : has_event site event ≡ true
  pub desks : DesksFor site kept (Happened event ∷ before) desk

pub stands_after_point : (site : Site) (kept : Retained) (before : List Moment) (system : System) (desk : Desk) (plan : PointPlan) (point : ℕ)
    (state : PointState) (parts : Parts) → StandsFor site kept before system → DeskAfter site kept before (Point point state) desk
    → 1 ≤ plan.panel → slice_get site.points point ≡ Some plan
    → StandsInRing site kept (applied site kept before) plan.panel (Happened (Point point state) ∷ before) parts
    → StandsFor site kept (Happened (Point point state) ∷ before)
    (record system { panels = with_item system.panels (plan.panel - 1) parts; desk = desk })
stands_after_point site kept before system desk plan point state parts h after one is p =
    stands_changed site kept before system (Happened (Point point state)) desk system.counts system.ring refl (h.events, after.has) after.desks
    (counts_stay site kept before (Happened (Point point state)) system.counts (λ e. cc) h.counts) h.ring h plan.panel parts one p
    (λ other q n stood.
    let away : is_on_panel other (slice_get site.points point) ≡ false = ap (is_on_panel other) is ∙ not_there plan.panel other n in
    untold site kept (applied site kept before) (told_in_ring site kept (applied site kept before) other) other before q (Point point state) stood
    (ap (λ b. if b then Reported point state ∷ reports site other before else reports site other before) away) refl tt)

pub stands_after_piece : (site : Site) (kept : Retained) (before : List Moment) (system : System) (desk : Desk) (panel line piece : ℕ)
    (state : PieceState) (parts : Parts) → StandsFor site kept before system → DeskAfter site kept before (Cable panel line piece state) desk
    → 1 ≤ panel → StandsInRing site kept (applied site kept before) panel (Happened (Cable panel line piece state) ∷ before) parts
    → StandsFor site kept (Happened (Cable panel line piece state) ∷ before)
    (record system { panels = with_item system.panels (panel - 1) parts; desk = desk })
stands_after_piece site kept before system desk panel line piece state parts h after one p =
    stands_changed site kept before system (Happened (Cable panel line piece state)) desk system.counts system.ring refl (h.events, after.has) after.desks
    (counts_stay site kept before (Happened (Cable panel line piece state)) system.counts (λ e. cc) h.counts) h.ring h panel parts one p
    (λ other q n stood.
    untold site kept (applied site kept before) (told_in_ring site kept (applied site kept before) other) other before q (Cable panel line piece state) stood
    (ap (λ b. if b && (nat_le 1 line && nat_le line 4) then Cabled line piece state ∷ reports site other before else reports site other before)
    (not_there panel other n)) refl tt)

pub stands_after_report : (site : Site) (kept : Retained) (before : List Moment) (system : System) (desk : Desk) (panel : ℕ) (kind : SupplyKind) (bad : Bool)
    (parts : Parts) → StandsFor site kept before system → DeskAfter site kept before (Supply panel kind bad) desk
    → 1 ≤ panel → StandsInRing site kept (applied site kept before) panel (Happened (Supply panel kind bad) ∷ before) parts
    → StandsFor site kept (Happened (Supply panel kind bad) ∷ before)
    (record system { panels = with_item system.panels (panel - 1) parts; desk = desk })
stands_after_report site kept before system desk panel kind bad parts h after one p =
    stands_changed site kept before system (Happened (Supply panel kind bad)) desk system.counts system.ring refl (h.events, after.has) after.desks
    (counts_stay site kept before (Happened (Supply panel kind bad)) system.counts (λ e. cc) h.counts) h.ring h panel parts one p
    (λ other q n stood.
    untold site kept (applied site kept before) (told_in_ring site kept (applied site kept before) other) other before q (Supply panel kind bad) stood refl
    (ap (λ b. if b then SupplyReported kind bad ∷ supply_calls other before else supply_calls other before) (not_there panel other n)) tt)

pub stands_after_confirmation : (site : Site) (kept : Retained) (before : List Moment) (system : System) (desk : Desk) (output : ℕ) (plan : Output)
    (parts : Parts) → StandsFor site kept before system → DeskAfter site kept before (Confirmed output) desk
    → 1 ≤ plan.panel → slice_get site.outputs output ≡ Some plan
    → StandsInRing site kept (applied site kept before) plan.panel (Happened (Confirmed output) ∷ before) parts
    → StandsFor site kept (Happened (Confirmed output) ∷ before)
    (record system { panels = with_item system.panels (plan.panel - 1) parts; desk = desk })
stands_after_confirmation site kept before system desk output plan parts h after one is p =
    stands_changed site kept before system (Happened (Confirmed output)) desk system.counts system.ring refl (h.events, after.has) after.desks
    (counts_stay site kept before (Happened (Confirmed output)) system.counts (λ e. cc) h.counts) h.ring h plan.panel parts one p
    (λ other q n stood.
    untold site kept (applied site kept before) (told_in_ring site kept (applied site kept before) other) other before q (Confirmed output) stood refl refl
    (λ found there same. n (ap (λ (o : Option Output). panel_of_plan o) (sym is ∙ there) ∙ same)))

pub stands_after_other : (site : Site) (kept : Retained) (before : List Moment) (system : System) (desk : Desk) (ring : Ring) (event : Event)
    → StandsFor site kept before system → DeskAfter site kept before event desk → KeepsWords site kept (applied site kept before) (Happened event ∷ before) ring
    → IsOther event → StandsFor site kept (Happened event ∷ before) (record system { ring = ring; desk = desk })
stands_after_other site kept before system desk ring event h after rings o =
    stands_unchanged site kept before system (Happened event) desk system.counts ring refl (h.events, after.has) after.desks
    (counts_stay site kept before (Happened event) system.counts (λ e. cc) h.counts) rings h
    (λ panel q stood. untold site kept (applied site kept before) (told_in_ring site kept (applied site kept before) panel) panel before q event stood
    (not_reported site panel event (reports site panel before) o) (not_monitored panel event (supply_calls panel before) o)
    (none_confirmed site panel event o))

-- a piece that the site has is of a panel and a loop
pub record HasLine (site : Site) (panel line : ℕ) : Type 0 where
  pub member : IsPanel site.panels panel
  pub low : 1 ≤ line
  pub high : line ≤ 4

pub piece_line : (site : Site) (panel line piece : ℕ) → IsValid site → has_piece site panel line piece ≡ true → HasLine site panel line
piece_line site panel line piece valid h =
    let g = at_any (λ (plan : LoopPlan). (plan.panel == panel) && (plan.line == line) && nat_le piece plan.last) site.loops h in
    let p = both_parts ((g.item.panel == panel) && (g.item.line == line)) (nat_le piece g.item.last) g.passes in
    let q = both_parts (g.item.panel == panel) (g.item.line == line) p.0 in
    let is = loop_at site valid g.place g.item g.is in
    let at_panel = eqb-true g.item.panel panel q.0 in
    let at_line = eqb-true g.item.line line q.1 in
    record {
      member = (omega (arith, is.panel.0, at_panel), omega (arith, is.panel.1, at_panel));
      low = omega (arith, is.line.0, at_line);
      high =
          omega (arith, is.line.1, at_line);
    }

-- the plan of a point that an event names, read from the system's site
pub record PointRead (site : Site) (point : ℕ) (plan : PointPlan) : Type 0 where
  pub is : slice_get site.points point ≡ Some plan
  pub member : IsPanel site.panels plan.panel
  pub there : is_on_panel plan.panel (slice_get site.points point) ≡ true

pub point_read : (site : Site) (kept : Retained) (before : List Moment) (system : System) (point : ℕ) (state : PointState) (points : List PointPlan)
    (plan : PointPlan) → StandsFor site kept before system → has_event site (Point point state) ≡ true → points ≡ system.site.points
    → plan ≡ get_or points point plan → PointRead site point plan
point_read site kept before system point state points plan h has same read =
    let within = lt_from point (length site.points) has in
    let e : points ≡ site.points = same ∙ ap (λ (s : Site). s.points) h.same in
    let at = slice_get_read site.points (length site.points) point plan refl within (read ∙ ap (λ xs. get_or xs point plan) e) in
    record {
      is = at;
      member = (point_at site h.valid point plan at).panel;
      there =
          ap (is_on_panel plan.panel) at ∙ eq_true plan.panel plan.panel refl;
    }

-- the panel at a place of the system
pub panel_read : (site : Site) (kept : Retained) (before : List Moment) (system : System) (panel : ℕ) (parts : Parts)
    → StandsFor site kept before system → IsPanel site.panels panel → parts ≡ get_or system.panels.items (panel - 1) parts
    → StandsInRing site kept (applied site kept before) panel before parts
panel_read site kept before system panel parts h p read =
    panel_at site kept before system panel parts h p.0
    (slice_get_read system.panels.items site.panels (panel - 1) parts (sym h.count) (omega (arith, p.0, p.1)) read)

-- the panel of a point that an event names, as the system finds it
pub record PointPanel (site : Site) (kept : Retained) (before : List Moment) (point : ℕ) (plan : PointPlan) (parts : Parts) : Type 0 where
  pub read : PointRead site point plan
  pub stands : StandsInRing site kept (applied site kept before) plan.panel before parts
  pub within : point < length parts.poller.states

pub point_panel : (site : Site) (kept : Retained) (before : List Moment) (system : System) (event : Event) (point : ℕ) (state : PointState) (points :
    List PointPlan) (plan : PointPlan) (parts : Parts) → StandsFor site kept before system → has_event site event ≡ true → event ≡ Point point state
    → points ≡ system.site.points → plan ≡ get_or points point plan → parts ≡ get_or system.panels.items ((get_or points point plan).panel - 1) parts
    → PointPanel site kept before point plan parts
point_panel site kept before system event point state points plan parts h has is same read found =
    let had : has_event site (Point point state) ≡ true = ap (has_event site) (sym is) ∙ has in
    let r = point_read site kept before system point state points plan h had same read in
    let stands =
    panel_read site kept before system plan.panel parts h r.member
    (found ∙ ap (λ (p : PointPlan). get_or system.panels.items (p.panel - 1) parts) (sym read)) in
    let size = stands.polls.asks.states.size in
    let inside = lt_from point (length site.points) had in
    record { read = r; stands = stands; within = omega (arith, size, inside) }

-- the system after a report on a point
pub point_done : (site : Site) (kept : Retained) (before : List Moment) (system : System) (desk : Desk) (event : Event) (point : ℕ) (state :
    PointState) (points : List PointPlan) (plan : PointPlan) (old new : Parts) → StandsFor site kept before system
    → DeskAfter site kept before event desk → event ≡ Point point state → plan ≡ get_or points point plan → PointPanel site kept before point plan old
    → StandsInRing site kept (applied site kept before) plan.panel (Happened (Point point state) ∷ before) new
    → StandsFor site kept (Happened event ∷ before)
    (record system { panels = with_item system.panels ((get_or points point plan).panel - 1) new; desk = desk })
point_done site kept before system desk event point state points plan old new h after is read p stands =
    subst (λ e. StandsFor site kept (Happened e ∷ before)
    (record system { panels = with_item system.panels ((get_or points point plan).panel - 1) new; desk = desk })) (sym is)
    (subst
    (λ (q : PointPlan). StandsFor site kept (Happened (Point point state) ∷ before)
    (record system { panels = with_item system.panels (q.panel - 1) new; desk = desk })) read
    (stands_after_point site kept before system desk plan point state new h (subst (λ e. DeskAfter site kept before e desk) is after)
    p.read.member.0 p.read.is stands))

-- the panel of a piece of cable
pub piece_read : (site : Site) (event : Event) (panel line piece : ℕ) (state : PieceState) → IsValid site → has_event site event ≡ true
    → event ≡ Cable panel line piece state → HasLine site panel line
piece_read site event panel line piece state valid has is = piece_line site panel line piece valid (ap (has_event site) (sym is) ∙ has)

pub piece_within : (site : Site) (event : Event) (panel line piece : ℕ) (state : PieceState) → IsValid site → has_event site event ≡ true
    → event ≡ Cable panel line piece state → (1 ≤ line) × (line ≤ 4)
piece_within site event panel line piece state valid has is = let at = piece_read site event panel line piece state valid has is in (at.low, at.high)

pub piece_done : (site : Site) (kept : Retained) (before : List Moment) (system : System) (desk : Desk) (event : Event) (panel line piece : ℕ) (state :
    PieceState) (new : Parts) → StandsFor site kept before system → DeskAfter site kept before event desk → event ≡ Cable panel line piece state
    → IsPanel site.panels panel
    → StandsInRing site kept (applied site kept before) panel (Happened (Cable panel line piece state) ∷ before) new
    → StandsFor site kept (Happened event ∷ before) (record system { panels = with_item system.panels (panel - 1) new; desk = desk })
piece_done site kept before system desk event panel line piece state new h after is member stands =
    subst (λ e. StandsFor site kept (Happened e ∷ before) (record system { panels = with_item system.panels (panel - 1) new; desk = desk })) (sym is)
    (stands_after_piece site kept before system desk panel line piece state new h (subst (λ e. DeskAfter site kept before e desk) is after) member.0
    stands)

-- the panel of a supply
pub supply_panel : (site : Site) (event : Event) (panel : ℕ) (kind : SupplyKind) (bad : Bool) → has_event site event ≡ true
    → event ≡ Supply panel kind bad → IsPanel site.panels panel
supply_panel site event panel kind bad has is =
    let own : is_panel site panel ≡ true = ap (has_event site) (sym is) ∙ has in
    let p = both_parts (nat_le 1 panel) (nat_le panel site.panels) own in
    (le_from 1 panel p.0, le_from panel site.panels p.1)

pub report_done : (site : Site) (kept : Retained) (before : List Moment) (system : System) (desk : Desk) (event : Event) (panel : ℕ) (kind : SupplyKind)
    (bad : Bool) (new : Parts) → StandsFor site kept before system → DeskAfter site kept before event desk → event ≡ Supply panel kind bad
    → IsPanel site.panels panel
    → StandsInRing site kept (applied site kept before) panel (Happened (Supply panel kind bad) ∷ before) new
    → StandsFor site kept (Happened event ∷ before) (record system { panels = with_item system.panels (panel - 1) new; desk = desk })
report_done site kept before system desk event panel kind bad new h after is member stands =
    subst (λ e. StandsFor site kept (Happened e ∷ before) (record system { panels = with_item system.panels (panel - 1) new; desk = desk })) (sym is)
    (stands_after_report site kept before system desk panel kind bad new h (subst (λ e. DeskAfter site kept before e desk) is after) member.0
    stands)

-- the system after an event that concerns no panel; the ring may have heard of it
pub other_done : (site : Site) (kept : Retained) (before : List Moment) (system : System) (desk : Desk) (ring : Ring) (event other : Event)
    → StandsFor site kept before system → DeskAfter site kept before event desk → event ≡ other
    → KeepsWords site kept (applied site kept before) (Happened other ∷ before) ring → IsOther other
    → StandsFor site kept (Happened event ∷ before) (record system { ring = ring; desk = desk })
other_done site kept before system desk ring event other h after is rings o =
    subst (λ e. StandsFor site kept (Happened e ∷ before) (record system { ring = ring; desk = desk })) (sym is)
    (stands_after_other site kept before system desk ring other h (subst (λ e. DeskAfter site kept before e desk) is after) rings o)

-- a link of the ring
pub link_within : (site : Site) (event : Event) (link : ℕ) (up : Bool) → IsValid site → has_event site event ≡ true → event ≡ LinkEvent link up
    → (1 ≤ link) × (link ≤ 8)
link_within site event link up valid has is =
    let own : has_event site (LinkEvent link up) ≡ true = ap (has_event site) (sym is) ∙ has in
    let eight = valid.forms.panels.1 in
    let p = both_parts (nat_le 2 site.panels && nat_le 1 link) (nat_le link site.panels) own in
    let low = le_from 1 link (both_parts (nat_le 2 site.panels) (nat_le 1 link) p.0).1 in
    let high = le_from link site.panels p.1 in
    (low, omega (arith, high, eight))

pub output_within : (site : Site) (output : ℕ) → has_event site (Confirmed output) ≡ true → output < length site.outputs
output_within site output has = go (slice_get site.outputs output) refl has
  where
    go : (o : Option Output) → slice_get site.outputs output ≡ o → is_some_with (λ (p : Output). is_confirming p.kind) o ≡ true → output < length site.outputs
    go None is none = absurd (cc)
    go (Some plan) is some = slice_get_within site.outputs output plan is

-- the plan of an output that an event names, as the system finds it, and its panel
pub record OutputPanel (site : Site) (kept : Retained) (before : List Moment) (output : ℕ) (plan : Output) (parts : Parts) : Type 0 where
  pub is : slice_get site.outputs output ≡ Some plan
  pub member : IsPanel site.panels plan.panel
  pub number : IsNumber plan.number
  pub stands : StandsInRing site kept (applied site kept before) plan.panel before parts

pub output_panel : (site : Site) (kept : Retained) (before : List Moment) (system : System) (event : Event) (output : ℕ) (outputs : List Output)
    (plan : Output) (parts : Parts) → StandsFor site kept before system → has_event site event ≡ true → event ≡ Confirmed output
    → outputs ≡ system.site.outputs → plan ≡ get_or outputs output plan → parts ≡ get_or system.panels.items (plan.panel - 1) parts
    → OutputPanel site kept before output plan parts
output_panel site kept before system event output outputs plan parts h has is same read found =
    let had : has_event site (Confirmed output) ≡ true = ap (has_event site) (sym is) ∙ has in
    let e : outputs ≡ site.outputs = same ∙ ap (λ (s : Site). s.outputs) h.same in
    let within = output_within site output had in
    let at = slice_get_read site.outputs (length site.outputs) output plan refl within (read ∙ ap (λ xs. get_or xs output plan) e) in
    let there = output_at site h.valid output plan at in
    record {
      is = at;
      member = there.panel;
      number = there.number;
      stands = panel_read site kept before system plan.panel parts h there.panel found;
    }

pub confirmation_done : (site : Site) (kept : Retained) (before : List Moment) (system : System) (desk : Desk) (event : Event) (output : ℕ) (plan : Output)
    (old new : Parts) → StandsFor site kept before system → DeskAfter site kept before event desk → event ≡ Confirmed output
    → OutputPanel site kept before output plan old
    → StandsInRing site kept (applied site kept before) plan.panel (Happened (Confirmed output) ∷ before) new
    → StandsFor site kept (Happened event ∷ before) (record system { panels = with_item system.panels (plan.panel - 1) new; desk = desk })
confirmation_done site kept before system desk event output plan old new h after is p stands =
    subst (λ e. StandsFor site kept (Happened e ∷ before) (record system { panels = with_item system.panels (plan.panel - 1) new; desk = desk })) (sym is)
    (stands_after_confirmation site kept before system desk output plan new h (subst (λ e. DeskAfter site kept before e desk) is after) p.member.0 p.is
    stands)

-- the desk that heard of the event
pub desk_after : (site there : Site) (kept : Retained) (before : List Moment) (system : System) (event : Event) (desk : Desk)
    → StandsFor site kept before system → there ≡ site → has_event site event ≡ true
    → (DesksFor there kept before system.desk → AreOfSite there (Happened event ∷ before) → DesksFor there kept (Happened event ∷ before) desk)
    → DeskAfter site kept before event desk
desk_after site there kept before system event desk h same has heard =
    record {
      has = has;
      desks =
          subst (λ s. DesksFor s kept (Happened event ∷ before) desk) same
          (heard (subst (λ s. DesksFor s kept before system.desk) (sym same) h.desk)
          (subst (λ s. AreOfSite s (Happened event ∷ before)) (sym same) (of_site site (Happened event ∷ before) (h.events, has))));
    }

-- and that the desk may hear of it
pub can_hear : (site there : Site) (kept : Retained) (before : List Moment) (system : System) (event : Event) → StandsFor site kept before system
    → there ≡ site → has_event site event ≡ true → length (requests site before) < 2 ^ 64 - 1 → CanTakeEvent there event system.desk
can_hear site there kept before system event h same has few =
    subst (λ s. CanTakeEvent s event system.desk) (sym same) (record {
      kept = kept;
      before = before;
      stands = h.desk;
      valid = h.valid;
      of = of_site site (Happened event ∷ before) (h.events, has);
      few = few;
    })
