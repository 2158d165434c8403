-- What an event of its own makes of a panel.
use Rattle.std.proofs.Common.{◌≡◌, ◌<◌, ◌∙◌, ℕ, Bool, true, false, List, ◌∷◌, length, get_or, Option, Some, None, slice_get, refl, sym, ap, subst}
use Rattle.std.proofs.lemmas.Bool.{eqb-true}
use Rattle.std.proofs.lemmas.Option.{slice_get_read, slice_get_within}
use Rattle.site_types.specs.declared.event.Event.{Event}
use Rattle.site_types.specs.declared.event.Event.TheVariants.{Point, Cable, Supply, Confirmed}
use Rattle.site_types.specs.declared.output.Output.{Output}
use Rattle.site_types.specs.declared.piece_state.PieceState.{PieceState}
use Rattle.site_types.specs.declared.point.Point.{Point as PointPlan}
use Rattle.site_types.specs.declared.point_state.PointState.{PointState}
use Rattle.site_types.specs.declared.retained.Retained.{Retained}
use Rattle.site_types.specs.declared.site.Site.{Site}
use Rattle.site_types.specs.declared.supply_kind.SupplyKind.{SupplyKind}
use Rattle.site_types.specs.Changes.{IsNumber}
use Rattle.site_types.specs.Events.{has_event}
use Rattle.site_types.proofs.ValidSites.{output_at}
use Rattle.node_inputs.specs.OwnEvents.{is_event_of, is_output_of, is_point_of}
use Rattle.node_rules.specs.Histories.{Befell, NodeMoment, befallen}
use Rattle.operation_desk.specs.declared.desk.Desk.{Desk}
use Rattle.operation_desk.specs.Stands.{CanTakeEvent, DesksFor}
use Rattle.panel_laws.specs.OperationLaws.{AreOfSite}
use Rattle.panel_laws.proofs.EventsOfSite.{of_site}
use Rattle.panel_parts.specs.declared.parts.Parts.{Parts}
use Rattle.panel_parts.specs.Applied.{applied}
use Rattle.panel_parts.specs.Changes.{HearsConfirmation, HearsPiece, HearsPoint, HearsSupply}
use Rattle.panel_parts.specs.Stands.{PanelStands}
use Rattle.panel_parts.proofs.Reports.{IsOther, none_confirmed, not_monitored, not_reported, untold}
use Rattle.panel_rules.specs.Faults.{supply_calls}
use Rattle.panel_rules.specs.Moments.{Moment, Happened}
use Rattle.panel_rules.specs.Reports.{is_on_panel, reports}
use Rattle.panel_node.specs.declared.node.Node.{Node}
use Rattle.panel_node.specs.Stands.{MayHappen, NodeStandsFor}
use Rattle.panel_node.specs.Told.{told_by_frames}
use Rattle.panel_node.proofs.Next.{stands_further}

-- ---- what an own event names

pub own_point : (panel : ℕ) (plan : Option PointPlan) → is_point_of panel plan ≡ true → is_on_panel panel plan ≡ true
own_point panel None own = own
own_point panel (Some plan) own = own

-- the plan of an output
pub record OwnOutput (site : Site) (panel output : ℕ) (plan : Output) : Type 0 where
  pub is : slice_get site.outputs output ≡ Some plan
  pub at : plan.panel ≡ panel
  pub number : IsNumber plan.number

pub output_inside : (site : Site) (panel output : ℕ) → is_output_of panel (slice_get site.outputs output) ≡ true → output < length site.outputs
output_inside site panel output own = go (slice_get site.outputs output) refl own
  where
    go : (o : Option Output) → slice_get site.outputs output ≡ o → is_output_of panel o ≡ true → output < length site.outputs
    go None is none = absurd (let no_way : false ≡ true = none in cc)
    go (Some plan) is some = slice_get_within site.outputs output plan is

-- ---- the panel after it

module _ (site : Site) (panel : ℕ) (kept : Retained) (history : List NodeMoment) (node : Node) (h : NodeStandsFor site panel kept history node) where
  abbrev before : List Moment
  before = befallen history

  abbrev HasParts : Event → Parts → Type 0
  HasParts event parts =
      PanelStands site kept (applied site kept before) (told_by_frames site kept (applied site kept before) panel history) panel (Happened event ∷ before) parts

  pub read_output : (event : Event) (output : ℕ) (outputs : List Output) (plan : Output) → is_event_of site panel event ≡ true → event ≡ Confirmed output
      → outputs ≡ node.site.outputs → plan ≡ get_or outputs output plan → OwnOutput site panel output plan
  read_output event output outputs plan own is same read =
      let own' : is_event_of site panel (Confirmed output) ≡ true = ap (is_event_of site panel) (sym is) ∙ own in
      let e : outputs ≡ site.outputs = same ∙ ap (λ (s : Site). s.outputs) h.same in
      let at =
      slice_get_read site.outputs (length site.outputs) output plan refl (output_inside site panel output own') (read ∙ ap (λ xs. get_or xs output plan) e) in
      record {
        is = at;
        at = eqb-true plan.panel panel (ap (is_output_of panel) (sym at) ∙ own');
        number = (output_at site h.valid output plan at).number;
      }

  module _ (event : Event) (has : has_event site event ≡ true) (own : is_event_of site panel event ≡ true) (desk : Desk)
      (desks : DesksFor site kept (Happened event ∷ before) desk) where
    after : (parts : Parts) (other : Event) → event ≡ other → HasParts other parts
        → NodeStandsFor site panel kept (Befell (Happened event) ∷ history) (record node { parts = parts; desk = desk })
    after parts other is stands =
        stands_further site panel kept history node h (Happened event) refl (h.events, has) (own, h.own_events) parts desk (λ e. cc) refl
        (subst (λ e. HasParts e parts) (sym is) stands) desks

    own_as : (other : Event) → event ≡ other → is_event_of site panel other ≡ true
    own_as other is = ap (is_event_of site panel) (sym is) ∙ own

    pub stands_point : (point : ℕ) (state : PointState) (parts : Parts) → event ≡ Point point state → HearsPoint node.parts point state parts
        → NodeStandsFor site panel kept (Befell (Happened event) ∷ history) (record node { parts = parts; desk = desk })
    stands_point point state parts is hears =
        after parts (Point point state) is
        (hears site kept (applied site kept before) (told_by_frames site kept (applied site kept before) panel history) panel before h.parts
        (own_point panel (slice_get site.points point) (own_as (Point point state) is)))

    pub stands_piece : (at line piece : ℕ) (state : PieceState) (parts : Parts) → event ≡ Cable at line piece state → HearsPiece node.parts line piece state parts
        → NodeStandsFor site panel kept (Befell (Happened event) ∷ history) (record node { parts = parts; desk = desk })
    stands_piece at line piece state parts is hears =
        after parts (Cable at line piece state) is
        (subst (λ p. HasParts (Cable p line piece state) parts) (sym (eqb-true at panel (own_as (Cable at line piece state) is)))
        (hears site kept (applied site kept before) (told_by_frames site kept (applied site kept before) panel history) panel before h.parts))

    pub stands_supply : (at : ℕ) (kind : SupplyKind) (bad : Bool) (parts : Parts) → event ≡ Supply at kind bad → HearsSupply node.parts kind bad parts
        → NodeStandsFor site panel kept (Befell (Happened event) ∷ history) (record node { parts = parts; desk = desk })
    stands_supply at kind bad parts is hears =
        after parts (Supply at kind bad) is
        (subst (λ p. HasParts (Supply p kind bad) parts) (sym (eqb-true at panel (own_as (Supply at kind bad) is)))
        (hears site kept (applied site kept before) (told_by_frames site kept (applied site kept before) panel history) panel before h.parts))

    pub stands_confirmed : (output : ℕ) (plan : Output) (parts : Parts) → event ≡ Confirmed output → OwnOutput site panel output plan
        → HearsConfirmation node.parts plan.number parts
        → NodeStandsFor site panel kept (Befell (Happened event) ∷ history) (record node { parts = parts; desk = desk })
    stands_confirmed output plan parts is there hears =
        after parts (Confirmed output) is
        (hears site kept (applied site kept before) (told_by_frames site kept (applied site kept before) panel history) panel output plan before h.parts
        there.is there.at refl)

    -- one that concerns no part of a panel
    pub stands_other : (other : Event) → event ≡ other → IsOther other
        → NodeStandsFor site panel kept (Befell (Happened event) ∷ history) (record node { desk = desk })
    stands_other other is o =
        after node.parts other is
        (untold site kept (applied site kept before) (told_by_frames site kept (applied site kept before) panel history) panel before node.parts other h.parts
        (not_reported site panel other (reports site panel before) o) (not_monitored panel other (supply_calls panel before) o)
        (none_confirmed site panel other o))

-- ---- its desk

pub desk_may_hear : (event : Event) (node : Node) → MayHappen event node → CanTakeEvent node.site event node.desk
desk_may_hear event node may =
    let h = may.stands in
    subst (λ s. CanTakeEvent s event node.desk) (sym h.same) (record {
      kept = may.kept;
      before = befallen may.history;
      stands = h.desk;
      valid = h.valid;
      of = of_site may.site (Happened event ∷ befallen may.history) (h.events, may.has);
      few = may.few;
    })

-- what may happen for one history that it stands for may happen for each
pub record MayHappenHere (site : Site) (panel : ℕ) (event : Event) : Type 0 where
  pub has : has_event site event ≡ true
  pub own : is_event_of site panel event ≡ true

module _ (site : Site) (panel : ℕ) (kept : Retained) (history : List NodeMoment) (event : Event) (node : Node) (may : MayHappen event node)
    (h : NodeStandsFor site panel kept history node) where
  pub may_here : MayHappenHere site panel event
  may_here =
      let same : may.site ≡ site = sym may.stands.same ∙ h.same in
      let at : may.panel ≡ panel = sym may.stands.own ∙ h.own in
      record {
        has = ap (λ s. has_event s event) (sym same) ∙ may.has;
        own = ap (λ s. is_event_of s panel event) (sym same) ∙ ap (λ p. is_event_of may.site p event) (sym at) ∙ may.own;
      }

  pub desk_heard : (desk : Desk) → (DesksFor node.site kept (befallen history) node.desk → AreOfSite node.site (Happened event ∷ befallen history)
      → DesksFor node.site kept (Happened event ∷ befallen history) desk) → DesksFor site kept (Happened event ∷ befallen history) desk
  desk_heard desk heard =
      subst (λ s. DesksFor s kept (Happened event ∷ befallen history) desk) h.same
      (heard (subst (λ s. DesksFor s kept (befallen history) node.desk) (sym h.same) h.desk)
      (subst (λ s. AreOfSite s (Happened event ∷ befallen history)) (sym h.same) (of_site site (Happened event ∷ befallen history) (h.events, may_here.has))))
