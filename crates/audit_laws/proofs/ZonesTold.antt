-- A run's text makes of zones what the run makes of them.
use Rattle.std.proofs.Common.{◌≡◌, ℕ, ◌≤◌, ◌++◌, ◌||◌, Bool, List, [], length, Option, Some, None, slice_get, refl, ◌∙◌, ap, arith}
use Rattle.site_types.specs.declared.point.Point.{Point}
use Rattle.site_types.specs.declared.retained.Retained.{Retained}
use Rattle.site_types.specs.declared.site.Site.{Site}
use Rattle.site_types.specs.Done.{Done, InTest, PointOff, Setting, ZoneOff, at_opening, cancels, in_force, is_blocked, is_zone_blocked, latest_before}
use Rattle.site_types.specs.Done.{moves_floor}
use Rattle.site_types.specs.Valid.{IsValid}
use Rattle.site_types.proofs.Done.{in_force-later, latest-later}
use Rattle.site_types.proofs.LaterDone.{AreFrom}
use Rattle.coincidence_rules.proofs.Later.{from_earlier}
use Rattle.panel_rules.specs.Moments.{IsPast, Moment, TickBlock, later, moments, present, tick_of, up_to}
use Rattle.panel_rules.specs.Operations.{operations, requests}
use Rattle.panel_rules.specs.Records.{AreOrdered}
use Rattle.panel_rules.specs.Timeline.{timeline_of}
use Rattle.panel_rules.proofs.Turns.{tick_rises}
use Rattle.panel_laws.proofs.DueOn.{up_to_is_past}
use Rattle.panel_laws.proofs.LaterDone.{Grew, from_both, join, next_grew}
use Rattle.panel_laws.proofs.SettingLaws.{settings_change_once}
use Rattle.panel_laws.proofs.Steps.{rise, up_to_tick}
use Rattle.run_text.specs.Failures.{as_recorded}
use Rattle.run_text.proofs.TickTimes.{tick_moments}
use Rattle.audit_laws.specs.AlikeZones.{Account}
use Rattle.audit_laws.specs.DoneTold.{IsAmongDone, ZonesAreTold}
use Rattle.audit_laws.specs.ZonesJudged.{account_of_text}
use Rattle.audit_laws.proofs.DoneTold.{done_told}
use Rattle.audit_laws.proofs.SameDone.{in_force_alike, latest_alike}
use Rattle.audit_laws.proofs.SettingsTold.{settings_told}
use Rattle.audit_laws.proofs.StepsTold.{steps_fall}

-- what was done since
grew_since : (site : Site) (kept : Retained) (past m : List Moment) → IsPast past m
    → Grew (operations site kept past).done (operations site kept m).done (tick_of past)
grew_since site kept past m present = record { new = []; is = refl; from = tt }
grew_since site kept past m (later moment before h) =
    let g = grew_since site kept past before h in
    let n = next_grew site kept moment before in
    record {
      new = n.new ++ g.new;
      is = n.is ∙ ap (λ (xs : List Done). n.new ++ xs) g.is ∙ join n.new g.new (operations site kept past).done;
      from =
          from_both (tick_of past) n.new g.new (from_earlier (tick_of past) (tick_of before) n.new (tick_rises past before h) n.from) g.from;
    }

module _ (site : Site) (kept : Retained) (ticks : List TickBlock) (valid : IsValid site) (ordered : AreOrdered site.panels ticks)
    (tick x : ℕ) (by : tick ≤ length ticks) (within : x ≤ tick) where
  abbrev text : Account
  text = account_of_text site (as_recorded ticks) (timeline_of site kept (moments ticks))

  abbrev whole : List Done
  whole = (operations site kept (moments ticks)).done

  abbrev by_then : List Done
  by_then = (operations site kept (up_to tick (moments ticks))).done

  pub since : Grew by_then whole (tick_of (up_to tick (moments ticks)))
  since = grew_since site kept (up_to tick (moments ticks)) (moments ticks) (up_to_is_past tick (moments ticks))

  pub from : AreFrom x since.new
  from =
      let long = tick_moments ticks in
      let now : tick_of (up_to tick (moments ticks)) ≡ tick = up_to_tick tick (moments ticks) (omega (arith, by, long)) in
      from_earlier x (tick_of (up_to tick (moments ticks))) since.new (omega (arith, now, within)) since.from

  to_run : (d : Done) → IsAmongDone d text.done → IsAmongDone d whole
  to_run d = (done_told site kept ticks d ordered).0

  to_text : (d : Done) → IsAmongDone d whole → IsAmongDone d text.done
  to_text d = (done_told site kept ticks d ordered).1

  pub setting_told : (setting : Setting) → at_opening site text.kept setting ≡ at_opening site kept setting
      → in_force site text.kept setting x text.done ≡ in_force site kept setting x by_then
  setting_told setting opening =
      in_force_alike setting x site text.kept kept text.done whole opening
      (steps_fall (requests site (moments (as_recorded ticks))) setting (tick_of (moments ticks)) (timeline_of site kept (moments ticks)).steps
      (rise site kept (moments ticks)))
      (λ i j d e is also on on_too l. settings_change_once site kept (moments ticks) setting i j d e is also on on_too l) to_run to_text
      ∙ ap (in_force site kept setting x) since.is ∙ in_force-later site kept setting x since.new by_then from

  pub latest_told : (test : Done → Bool) → latest_before test x text.done ≡ latest_before test x by_then
  latest_told test =
      latest_alike test x text.done whole to_run to_text ∙ ap (latest_before test x) since.is ∙ latest-later test x since.new by_then from

  zone_told : (plan : Option Point) → is_zone_blocked site text.kept text.done plan x ≡ is_zone_blocked site kept by_then plan x
  zone_told None = refl
  zone_told (Some p) =
      ap (λ (b : Bool). b || in_force site text.kept (InTest p.zone) x text.done)
      (setting_told (ZoneOff p.zone) ((settings_told site kept valid).zones p.zone))
      ∙ ap (λ (b : Bool). in_force site kept (ZoneOff p.zone) x by_then || b)
      (setting_told (InTest p.zone) ((settings_told site kept valid).tests p.zone))

  pub blocked_told : (point : ℕ) → is_blocked site text.kept text.done point x ≡ is_blocked site kept by_then point x
  blocked_told point =
      ap (λ (b : Bool). b || is_zone_blocked site text.kept text.done (slice_get site.points point) x)
      (setting_told (PointOff point) ((settings_told site kept valid).points point))
      ∙ ap (λ (b : Bool). in_force site kept (PointOff point) x by_then || b) (zone_told (slice_get site.points point))

pub zones_told : ZonesAreTold
zones_told site kept ticks valid ordered =
    record {
      each =
          λ tick by. record {
            blocked = λ point x within. blocked_told site kept ticks valid ordered tick x by within point;
            floors = λ zone x within. latest_told site kept ticks valid ordered tick x by within (moves_floor site zone);
            cancellings = λ zone x within. latest_told site kept ticks valid ordered tick x by within (cancels zone);
          };
    }
