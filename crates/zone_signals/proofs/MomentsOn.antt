-- What is kept of zones before a tick's own events stands for them afterwards.
use Rattle.std.proofs.Common.{◌≡◌, ℕ, ◌-◌, ◌<◌, List, Some, slice_get, get_or, length, sym, ◌∙◌, ap, subst, arith}
use Rattle.std.proofs.lemmas.Option.{slice_get-get_or}
use Rattle.site_types.specs.declared.retained.Retained.{Retained}
use Rattle.site_types.specs.declared.site.Site.{Site}
use Rattle.site_types.specs.Done.{Done}
use Rattle.site_types.specs.Profile.{round_of}
use Rattle.panel_rules.specs.Moments.{Moment, tick_of, up_to}
use Rattle.point_runs.specs.declared.point_run.PointRun.{PointRun}
use Rattle.point_runs.specs.Runs.{RunStands}
use Rattle.blocked_points.specs.declared.done_operation.DoneOperation.{DoneOperation}
use Rattle.blocked_points.specs.Operations.{done_newest_first}
use Rattle.zone_signals.specs.declared.zone_floor.ZoneFloor.{ZoneFloor}
use Rattle.zone_signals.specs.declared.zone_settled.ZoneSettled.{ZoneSettled}
use Rattle.zone_signals.specs.declared.zone_signals.ZoneSignals.{ZoneSignals}
use Rattle.zone_signals.specs.Ended.{EndedAlone, EndedCalls, EndedRounds, EndedSeconds}
use Rattle.zone_signals.specs.Floors.{FloorsStand}
use Rattle.zone_signals.specs.Kinds.{AreAllMembers}
use Rattle.zone_signals.specs.Known.{ArePointsKnown}
use Rattle.zone_signals.specs.Stands.{ZoneStands, ZonesStand}
use Rattle.zone_signals.specs.StandsFor.{AreRunsOfSignals, IsNextTick, StandsFor}
use Rattle.zone_signals.proofs.LeastTicks.{least_same}
use Rattle.zone_signals.proofs.SignalsMoved.{call_on, detector_on, round_on, second_on}

pub row_at : (rows : List ZoneFloor) (k : ℕ) (row : ZoneFloor) → k < length rows → row ≡ get_or rows k row → slice_get rows k ≡ Some row
row_at rows k row less is = slice_get-get_or rows k row less ∙ ap Some (sym is)

pub zone_on : (site : Site) (kept : Retained) (done : List Done) (one other : List Moment) (now zone : ℕ) (settled : ZoneSettled)
    → ((tick : ℕ) → tick < now → up_to tick one ≡ up_to tick other) → ZoneStands site kept done one now zone settled
    → ZoneStands site kept done other now zone settled
zone_on site kept done one other now zone settled same stands = record {
  by_hand = least_same (EndedCalls site kept done one zone now) (EndedCalls site kept done other zone now)
      (λ tick ended. (call_on site kept done one other now same zone now now (λ first begins none. none) tick ended.1 ended.0, ended.1))
      (λ tick ended. (call_on site kept done other one now back zone now now (λ first begins none. none) tick ended.1 ended.0, ended.1)) settled.by_hand
      stands.by_hand;
  round = least_same (EndedRounds site kept done one zone now) (EndedRounds site kept done other zone now)
      (λ tick ended. (round_on site kept done one other now same zone now now (λ first begins none. none) tick ended.1 ended.0, ended.1))
      (λ tick ended. (round_on site kept done other one now back zone now now (λ first begins none. none) tick ended.1 ended.0, ended.1)) settled.round
      stands.round;
  alone = least_same (EndedAlone site kept done one zone now) (EndedAlone site kept done other zone now)
      (λ tick ended. (detector_on site kept done one other now same zone now now (λ first begins none. none) tick ended.1 ended.0, ended.1))
      (λ tick ended. (detector_on site kept done other one now back zone now now (λ first begins none. none) tick ended.1 ended.0, ended.1)) settled.alone
      stands.alone;
  second = least_same (EndedSeconds site kept done one zone now) (EndedSeconds site kept done other zone now)
      (λ tick ended. (second_on site kept done one other now same zone now now (λ first begins none. none) tick ended.1 ended.0, ended.1))
      (λ tick ended. (second_on site kept done other one now back zone now now (λ first begins none. none) tick ended.1 ended.0, ended.1)) settled.second
      stands.second;
}
  where
    back : (tick : ℕ) → tick < now → up_to tick other ≡ up_to tick one
    back tick less = sym (same tick less)

module _ (site : Site) (kept : Retained) (operations : List DoneOperation) (before moments : List Moment) (runs : List PointRun) (now : ℕ) (old : ZoneSignals)
    (stands : StandsFor site kept operations before old) (are : AreRunsOfSignals site kept operations before runs) (next : IsNextTick before moments)
    (at : now ≡ tick_of moments) where
  pub knows : ArePointsKnown site kept (done_newest_first operations) before now old.members.items runs
  knows = record {
    valid = stands.valid;
    listed = stands.members;
    told = record {
      begun = (let later = next.later in omega (arith, at, later));
      some = (let some = stands.valid.forms.format.0 in omega (arith, some));
      whole = are.whole;
      signals = are.signals;
      tells = are.tells;
      each = λ point run is.
          subst (λ n. RunStands (are.signals point) (round_of site.format) n run) (let later = next.later in
          let e : tick_of before ≡ now - 1 = omega (arith, at, later) in e) (are.each point run is);
    };
  }

  pub settled_before : ZonesStand site kept (done_newest_first operations) before (now - 1) old.settled.items
  settled_before =
      subst (λ n. ZonesStand site kept (done_newest_first operations) before n old.settled.items)
      (let later = next.later in
      let e : tick_of before ≡ now - 1 = omega (arith, at, later) in e) stands.settled

  pub stands_on : (new : ZoneSignals) → new.members.items ≡ old.members.items → FloorsStand site operations now new.floors
      → ZonesStand site kept (done_newest_first operations) before now new.settled.items → StandsFor site kept operations moments new
  stands_on new same floors zones =
      record {
        valid = stands.valid;
        floors = subst (λ n. FloorsStand site operations n new.floors) at floors;
        members = subst (AreAllMembers site) (sym same) stands.members;
        settled = subst (λ n. ZonesStand site kept (done_newest_first operations) moments n new.settled.items) at
            (record {
              whole = zones.whole;
              each = λ zone settled is.
                  zone_on site kept (done_newest_first operations) before moments now zone settled
                  (λ tick less. sym (next.past tick (let later = next.later in omega (arith, at, later, less)))) (zones.each zone settled is);
            });
      }
