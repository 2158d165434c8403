-- The turns of an order: those before Keep's, Keep's, and the rest.
use Rattle.std.proofs.Common.{◌≡◌, ◌∙◌, ◌+◌, ◌<◌, ◌≤◌, ◌++◌, ℕ, List, [], ◌∷◌, Bool, false, Some, length, drop, get_or, refl, slice_get, ap, arith, subst, sym, take-append-drop}
use Rattle.std.proofs.lemmas.List.{take_all}
use Rattle.std.proofs.lemmas.Option.{slice_get-get_or}
use Rattle.tick_units.specs.declared.seat.Seat.{Seat}
use Rattle.tick_units.specs.Orders.{IsOrder, keep_seat}
use Rattle.tick_units.specs.Ticks.{last_tick}
use Rattle.site_types.specs.declared.retained.Retained.{Retained}
use Rattle.site_types.specs.declared.site.Site.{Site}
use Rattle.panel_edges.specs.Crashes.{LeavesOnly}
use Rattle.retained_journal.specs.declared.journal.Journal.{Journal}
use Rattle.retained_journal.specs.Images.{HasRoomForTwo, MayLeave, MayLeaveOr}
use Rattle.keep_turn.specs.declared.store.Store.{Store}
use Rattle.panel_rules.specs.Batches.{batch, kept_after}
use Rattle.panel_rules.specs.Moments.{Moment, Kept, IsRun, and_turns, tick_of, turn_of}
use Rattle.panel_rules.specs.Run.{facts_of}
use Rattle.panel_rules.proofs.RecordRuns.{turns-append}
use Rattle.panel_rules.specs.Storing.{keep_answer}
use Rattle.panel_core.specs.declared.system.System.{System}
use Rattle.panel_core.specs.Changes.{AreOfPanels, MakesTurnsFrom, seats_between}
use Rattle.panel_core.specs.Keeping.{HasTurned, KeepsRun, KeepsTurn, LeavesWithBatch, MayKeep, MayTurnAll, before_keep, has_failed, store_of}
use Rattle.panel_core.specs.Marks.{AreMarked, MarksKept, MarksTurnsFrom}
use Rattle.panel_core.specs.PowerCuts.{IsLeftOver, OpensToFront, OpensToFrontOr}
use Rattle.panel_core.specs.Stands.{MayTurnFrom, StandsFor}
use Rattle.panel_core.specs.StepCounts.{CountsTurnsFrom, RisesOver, facts_in_force}
use Rattle.panel_parts.proofs.Applied.{applied_stays}
use Rattle.panel_core.proofs.Fronts.{front_left, fronts_left, left_over_stays}
use Rattle.panel_core.proofs.StepsCounted.{applied_over, keep_rises, rises_both, rises_either, rises_more}
use Rattle.panel_core.proofs.Orders.{before_turns, between_more, front_turns, keep_within, no_other, order_parted, panels_keep, panels_leave_keep, run_behind, same_turns, turns_tick}

-- all its seats may have their turns, so the first may
pub may_begin : (order : List Seat) (journal : Journal) (system : System) → MayTurnAll order journal system → MayTurnFrom order 0 system
may_begin order journal system r = record {
  site = r.site;
  kept = r.kept;
  before = r.before;
  stands = r.stands;
  ordered = r.ordered;
  run = r.run;
  few = r.few;
}

-- an order of a site that a system stands for is one of each site that it stands for
pub same_order : (site there : Site) (kept other : Retained) (before past : List Moment) (system : System) (order : List Seat)
    → StandsFor site kept before system → StandsFor there other past system → IsOrder there.panels order → IsOrder site.panels order
same_order site there kept other before past system order h g ordered =
    subst (λ (s : Site). IsOrder s.panels order) (sym g.same ∙ h.same) ordered

-- for a run that the system stands for, once the seats before Keep's had their turns
module _ {order : List Seat} {journal : Journal} {old between : System} {place : ℕ} (may : MayTurnAll order journal old)
    (first : MakesTurnsFrom old order 0 place between) {site : Site} {kept : Retained} {before : List Moment} (h : StandsFor site kept before old)
    (keeps : KeepsRun site kept before journal) (run : IsRun site.panels (and_turns false order before)) (few : tick_of before ≤ last_tick) where
  ordered : IsOrder site.panels order
  ordered = same_order site may.site kept may.kept before may.before old order h may.stands may.ordered

  -- what had befallen before the turn of Keep
  abbrev pub then : List Moment
  then = and_turns false (seats_between 0 place order) before

  within : place < length order
  within = keep_within site.panels order ordered place first.within first.panels

  there : slice_get order place ≡ Some (get_or order place keep_seat)
  there = slice_get-get_or order place keep_seat within

  -- the turns by the place of Keep
  parted : (failed : Bool) → and_turns failed order before ≡ and_turns failed (drop (place + 1) order) (Kept failed ∷ then)
  parted failed = order_parted order place (get_or order place keep_seat) there (first.keep (get_or order place keep_seat) there) first.panels failed before

  rest_run : IsRun site.panels (and_turns false (drop (place + 1) order) (Kept false ∷ then))
  rest_run = subst (IsRun site.panels) (parted false) run

  keep_run : IsRun site.panels (Kept false ∷ then)
  keep_run = before_turns site.panels false (drop (place + 1) order) (Kept false ∷ then) rest_run

  stands_between : StandsFor site kept then between
  stands_between = first.turns site kept before h (front_turns site.panels order 0 place before (omega arith) first.within run)

  keeps_between : KeepsRun site kept then journal
  keeps_between = record {
    keeps = keeps.keeps ∙ sym (panels_keep site kept false (seats_between 0 place order) before first.panels);
    wide = keeps.wide;
    torn = λ torn. left_over_stays site kept journal.attempt.items false (seats_between 0 place order) before first.panels (keeps.torn torn);
  }

  few_between : tick_of then ≤ last_tick
  few_between = rw (turns_tick false (seats_between 0 place order) before) few

  -- Keep may have its turn then
  pub may_keep : MayKeep journal between
  may_keep = record {
    site = site;
    kept = kept;
    before = then;
    stands = stands_between;
    keeps = keeps_between;
    run = keep_run;
    few = few_between;
    tried = may.tried;
  }

  module _ (store : Store) (journal' : Journal) (after : System) (made : KeepsTurn between journal store journal' after) where
    turned : HasTurned site kept (Kept (has_failed store) ∷ then) store journal' after
    turned = made site kept then stands_between keeps_between keep_run few_between

    behind_run : IsRun site.panels (and_turns false (drop (place + 1) order) (Kept (has_failed store) ∷ then))
    behind_run = run_behind site.panels false (has_failed store) (drop (place + 1) order) then rest_run

    -- the site stays what it was
    pub same_site : old.site ≡ after.site
    same_site = h.same ∙ sym turned.stands.same

    -- and the rest may have theirs after it
    pub may_rest : MayTurnFrom order (place + 1) after
    may_rest = record {
      site = site;
      kept = kept;
      before = Kept (has_failed store) ∷ then;
      stands = turned.stands;
      ordered = ordered;
      run = behind_run;
      few = few_between;
    }

    module _ {end : ℕ} {last : System} (second : MakesTurnsFrom after order (place + 1) end last) where
      ended : end ≡ length order
      ended =
          no_other order place (get_or order place keep_seat) there (first.keep (get_or order place keep_seat) there) first.panels site.panels end then
          (second.since (let inside = within in omega (arith, inside))) second.within second.panels second.keep rest_run

      rest_is : seats_between (place + 1) end order ≡ drop (place + 1) order
      rest_is = ap (drop (place + 1)) (take_all end order (let e = ended in omega (arith, e)))

      rest_panels : AreOfPanels (drop (place + 1) order)
      rest_panels = subst AreOfPanels rest_is second.panels

      -- so the order was turned
      pub all_turned : HasTurned site kept (and_turns (has_failed store) order before) store journal' last
      all_turned =
          let failed = has_failed store in
          let rest = drop (place + 1) order in
          let is = parted failed ∙ same_turns failed false rest (Kept failed ∷ then) rest_panels in
          let stands =
          second.turns site kept (Kept failed ∷ then) turned.stands
          (front_turns site.panels order (place + 1) end (Kept failed ∷ then) (second.since (let inside = within in omega (arith, inside))) second.within
          behind_run) in
          record {
            stands =
                subst (λ ms. StandsFor site kept ms last) (ap (λ xs. and_turns false xs (Kept failed ∷ then)) rest_is ∙ sym is) stands;
            keeps = record {
              keeps =
                  turned.keeps.keeps ∙ sym (panels_keep site kept failed rest (Kept failed ∷ then) rest_panels)
                  ∙ ap (kept_after site kept) (sym (parted failed));
              wide = turned.keeps.wide;
              torn = λ torn. subst (λ ms. IsLeftOver site kept ms journal'.attempt.items) (sym (parted failed))
                  (left_over_stays site kept journal'.attempt.items failed rest (Kept failed ∷ then) rest_panels (turned.keeps.torn torn));
            };
            answers =
                turned.answers
                ∙ ap (λ ms. store_of (keep_answer failed (batch site kept ms)))
                (sym (panels_leave_keep failed rest (Kept failed ∷ then) rest_panels) ∙ ap before_keep (sym (parted failed)));
          }

      -- and each panel that isn't marked then shows what it showed at the end of the tick before
      pub all_marked : MarksTurnsFrom old order 0 place between.changed → MarksKept between journal store after.changed
          → MarksTurnsFrom after order (place + 1) end last.changed → AreMarked site kept before old.changed
          → AreMarked site kept (and_turns (has_failed store) order before) last.changed
      all_marked front keep back marked =
          let failed = has_failed store in
          let is = parted failed ∙ same_turns failed false (drop (place + 1) order) (Kept failed ∷ then) rest_panels in
          let early = front site kept before h (front_turns site.panels order 0 place before (omega arith) first.within run) marked in
          let mid = keep site kept then stands_between keeps_between keep_run few_between early in
          let late =
          back site kept (Kept failed ∷ then) turned.stands
          (front_turns site.panels order (place + 1) end (Kept failed ∷ then) (second.since (let inside = within in omega (arith, inside))) second.within
          behind_run) mid in
          subst (λ ms. AreMarked site kept ms last.changed) (ap (λ xs. and_turns false xs (Kept failed ∷ then)) rest_is ∙ sym is) late

      -- the order by the place of Keep
      whole_order : (seats_between 0 place order ++ get_or order place keep_seat ∷ []) ++ drop (place + 1) order ≡ order
      whole_order =
          ap (λ xs. xs ++ drop (place + 1) order) (sym (between_more order 0 place (get_or order place keep_seat) (omega arith) there))
          ∙ take-append-drop (place + 1) order

      -- and its steps are those of the turns before Keep's and of those after it
      pub all_counted : (a b c : ℕ) → CountsTurnsFrom old order 0 place a b → CountsTurnsFrom after order (place + 1) end b c
          → RisesOver site (facts_in_force site kept before) (has_failed store) order before a c
      all_counted a b c front back =
          let failed = has_failed store in
          let facts = facts_in_force site kept before in
          let seat = get_or order place keep_seat in
          let xs = seats_between 0 place order in
          let rest = drop (place + 1) order in
          let is_keep = first.keep seat there in
          let early =
          rises_either site facts false failed xs before a b first.panels
          (front site kept before h (front_turns site.panels order 0 place before (omega arith) first.within run)) in
          let up_to_keep =
          rises_more site facts failed xs seat before a b b early (keep_rises site facts seat.panel seat.task (and_turns failed xs before) b is_keep) in
          let then_keep : and_turns failed (xs ++ seat ∷ []) before ≡ Kept failed ∷ then =
          turns-append failed xs (seat ∷ []) before ∙ ap (λ t. turn_of failed seat.panel t ∷ and_turns failed xs before) is_keep
          ∙ ap (λ ms. Kept failed ∷ ms) (same_turns failed false xs before first.panels) in
          let told =
          back site kept (Kept failed ∷ then) turned.stands
          (front_turns site.panels order (place + 1) end (Kept failed ∷ then) (second.since (let inside = within in omega (arith, inside))) second.within
          behind_run) in
          let in_force = sym (applied_stays site kept (Kept failed) then refl) ∙ applied_over site kept false xs before in
          let late =
          rises_either site facts false failed rest (Kept failed ∷ then) b c rest_panels
          (subst (λ seats. RisesOver site facts false seats (Kept failed ∷ then) b c) rest_is
          (subst (λ done. RisesOver site (facts_of site kept done) false (seats_between (place + 1) end order) (Kept failed ∷ then) b c) in_force told)) in
          subst (λ seats. RisesOver site facts failed seats before a c) whole_order
          (rises_both site facts failed (xs ++ seat ∷ []) rest before a b c up_to_keep
          (subst (λ ms. RisesOver site facts failed rest ms b c) (sym then_keep) late))

      -- and this had befallen before the latest turn of Keep
      then_is : then ≡ before_keep (and_turns false order before)
      then_is = sym (panels_leave_keep false (drop (place + 1) order) (Kept false ∷ then) rest_panels) ∙ ap before_keep (sym (parted false))

      -- at each moment of Keep's turn a power cut leaves a front of the run before it, or what is kept with the batch
      pub fronts_then : {D : Type 0} (moment : D → ℕ) (left_since : D → ℕ → List ℕ → Type 0) (disk disk' : D)
          → LeavesWithBatch moment left_since disk disk' between journal → HasRoomForTwo journal
          → LeavesOnly moment left_since disk disk'
          (OpensToFrontOr site kept journal.digest before (batch site kept (before_keep (and_turns false order before))))
      fronts_then moment left_since disk disk' leaves room =
          fronts_left site kept before journal keeps moment left_since disk disk' (batch site kept (before_keep (and_turns false order before)))
          (subst (λ ms. LeavesOnly moment left_since disk disk' (MayLeaveOr journal (batch site kept ms))) then_is
          (leaves site kept then stands_between keeps_between keep_run.0 few_between room))

      -- and after the order one of the run with it
      pub front_then : journal'.digest ≡ journal.digest → (file : List ℕ) → MayLeave journal' file
          → OpensToFront site kept journal.digest (and_turns (has_failed store) order before) file
      front_then same file left =
          subst (λ digest. OpensToFront site kept digest (and_turns (has_failed store) order before) file) same
          (front_left site kept (and_turns (has_failed store) order before) journal' all_turned.keeps file left)
