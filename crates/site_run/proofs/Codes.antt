-- Of the code of an operation its bytes alone count.
use Rattle.std.proofs.Common.{◌≡◌, ◌∙◌, ◌+◌, ◌++◌, ℕ, Bool, List, [], ◌∷◌, length, Option, Some, None, refl, ap, subst}
use Rattle.std.specs.Prelude.{filter, option_map}
use Rattle.arrayvec.specs.ArrayString.{ArrayString}
use Rattle.site_types.specs.declared.event.Event.{Event}
use Rattle.site_types.specs.declared.event.Event.TheVariants.{Point, Cable, Supply, Link, Confirmed, Op}
use Rattle.site_types.specs.declared.operation.Operation.{Operation}
use Rattle.site_types.specs.declared.retained.Retained.{Retained}
use Rattle.site_types.specs.declared.site.Site.{Site}
use Rattle.site_types.specs.Done.{Done}
use Rattle.record_lines.specs.Events.{event_view, label_view}
use Rattle.operation_desk.specs.declared.desk.Desk.{Desk}
use Rattle.operation_desk.specs.Requests.{is_early}
use Rattle.operation_desk.specs.Stands.{DesksFor, TellsOutcomes, given_in}
use Rattle.access_levels.specs.Levels.{level_of}
use Rattle.panel_rules.specs.Moments.{Moment, Happened, tick_of}
use Rattle.panel_rules.specs.Operations.{operations, request_of, requests, requests_in}
use Rattle.panel_rules.specs.Timeline.{busy_count}
use Rattle.panel_parts.specs.Stands.{PanelStands}
use Rattle.panel_parts.specs.declared.parts.Parts.{Parts}
use Rattle.panel_core.specs.declared.system.System.{System}
use Rattle.panel_core.specs.Marks.{AreMarked}
use Rattle.panel_core.specs.Stands.{StandsFor}

module _ (site : Site) (kept : Retained) (panel : ℕ) (operation : Operation) (before : List Moment) where
  abbrev with_code : Option ArrayString → List Moment
  with_code code = Happened (Op panel code operation) ∷ before

  bytes_same : (code : Option ArrayString) → option_map (λ (label : ArrayString). label.bytes) code
      ≡ option_map (λ (label : ArrayString). label.bytes) (option_map label_view code)
  bytes_same None = refl
  bytes_same (Some label) = refl

  -- a panel of the site stands for the same with any code
  pub parts_viewed : (one other : Option ArrayString) (done : List Done) (told : _) (at : ℕ) (parts : Parts)
      → PanelStands site kept done told at (with_code one) parts → PanelStands site kept done told at (with_code other) parts
  parts_viewed one other done told at parts h =
      record {
        member = h.member;
        polls = h.polls;
        answers = h.answers;
        decides = h.decides;
        findings = h.findings;
        holds = h.holds;
        supplies = h.supplies;
        effects = record { masks = h.effects.masks; normal = h.effects.normal; manual = h.effects.manual; requests = h.effects.requests };
        drives = record {
          silence = h.drives.silence;
          delays = h.drives.delays;
          routing = h.drives.routing;
          on = h.drives.on;
          sounders = h.drives.sounders;
        };
      }

  module _ (code : Option ArrayString) where
    abbrev viewed : Option ArrayString
    viewed = option_map label_view code

    requests_same : requests site (with_code code) ≡ requests site (with_code viewed)
    requests_same =
        ap (λ b. requests site before ++ request_of (tick_of before) panel (level_of site b) operation (requests site before) ∷ []) (bytes_same code)

    pub desk_viewed : (desk : Desk) → DesksFor site kept (with_code code) desk → DesksFor site kept (with_code viewed) desk
    desk_viewed desk h =
        let same = requests_same in
        record {
          number = h.number ∙ ap (λ rs. length rs) same;
          counts = λ p is. (h.counts p is ∙ ap (λ rs. length (requests_in p (tick_of before) rs)) same);
          asked = h.asked ∙ ap (λ rs. filter (is_early (tick_of before)) rs) same;
          outcomes = subst (λ rs. TellsOutcomes site kept rs (tick_of before) (operations site kept before) desk) same h.outcomes;
          busy = λ p is. (h.busy p is ∙ ap (λ rs. busy_count p (given_in site kept (tick_of before) (operations site kept before).answers rs)) same);
          idle = h.idle;
          failed = h.failed;
          sized = h.sized;
        }

    -- the system stands for the history with the bytes of the code alone
    pub stands_viewed : (system : System) → StandsFor site kept (with_code code) system → StandsFor site kept (with_code viewed) system
    stands_viewed system h =
        record {
          valid = h.valid;
          same = h.same;
          plan = record { is = h.plan.is; free = h.plan.free };
          tick = h.tick;
          count = h.count;
          each = λ place parts is. parts_viewed code viewed _ _ (place + 1) parts (h.each place parts is);
          ring = h.ring;
          events = (h.events.0, h.events.1);
          desk = desk_viewed system.desk h.desk;
          settings = h.settings;
          sized = h.sized;
          own = h.own;
          counts = record { counted = h.counts.counted; counters = h.counts.counters };
        }

-- its panels are marked as with the event as a record has it
pub marked_for_view : (site : Site) (kept : Retained) (event : Event) (before : List Moment) (marks : List Bool)
    → AreMarked site kept (Happened event ∷ before) marks → AreMarked site kept (Happened (event_view event) ∷ before) marks
marked_for_view site kept (Point point state) before marks h = h
marked_for_view site kept (Cable panel line piece state) before marks h = h
marked_for_view site kept (Supply panel kind bad) before marks h = h
marked_for_view site kept (Link link up) before marks h = h
marked_for_view site kept (Confirmed output) before marks h = h
marked_for_view site kept (Op panel code operation) before marks h = h

-- the system stands for the history with the event as a record has it
pub stands_for_view : (site : Site) (kept : Retained) (event : Event) (before : List Moment) (system : System)
    → StandsFor site kept (Happened event ∷ before) system → StandsFor site kept (Happened (event_view event) ∷ before) system
stands_for_view site kept (Point point state) before system h = h
stands_for_view site kept (Cable panel line piece state) before system h = h
stands_for_view site kept (Supply panel kind bad) before system h = h
stands_for_view site kept (Link link up) before system h = h
stands_for_view site kept (Confirmed output) before system h = h
stands_for_view site kept (Op panel code operation) before system h = stands_viewed site kept panel operation before code system h
