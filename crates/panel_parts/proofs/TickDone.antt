-- What a desk has done in the tick that ends, in front of what was done earlier: so many of them came in force, the oldest first.
use Rattle.std.proofs.Common.{◌≡◌, ◌∙◌, ◌+◌, ◌<◌, ◌≤◌, ℕ, List, ◌∷◌, length, take, Some, slice_get, sym, ap, subst, arith}
use Rattle.std.specs.Prelude.{slice_index_or}
use Rattle.std.proofs.lemmas.List.{take_all}
use Rattle.site_types.specs.declared.retained.Retained.{Retained}
use Rattle.site_types.specs.declared.site.Site.{Site}
use Rattle.site_types.specs.Done.{Done, AreBy, in_force}
use Rattle.site_types.proofs.Done.{in_force-later}
use Rattle.operation_desk.specs.declared.desk.Desk.{Desk}
use Rattle.operation_desk.specs.declared.done_operation.DoneOperation.{DoneOperation}
use Rattle.operation_desk.specs.Replies.{AreInForce, TellsOpen}
use Rattle.operation_desk.specs.Requests.{done_from, with_done}
use Rattle.operation_desk.specs.Stands.{DesksFor}
use Rattle.panel_laws.specs.OperationLaws.{AreEventsOf}
use Rattle.panel_laws.proofs.LaterDone.{Grew}
use Rattle.panel_rules.specs.Moments.{Moment, IsRun, tick_of}
use Rattle.panel_rules.specs.Operations.{operations}
use Rattle.panel_parts.specs.Applied.{MayBeApplied, applied, done_so_far}
use Rattle.panel_parts.proofs.Applied.{applied_is_older, before_by, by_tick, done_after_applied, done_in_front, next_may_be_applied, read_done, with_done_more}
use Rattle.panel_parts.proofs.Settings.{past_force}

-- what is read at a place of a desk that stays as it was
pub read_next : (old desk : Desk) (xs ends : List DoneOperation) (k : ℕ) (d : DoneOperation) → desk ≡ old → xs ≡ desk.done.items → ends ≡ old.done.items
    → k < length ends → slice_get old.done.items k ≡ Some (slice_index_or xs k d)
read_next old desk xs ends k d same read end within =
    let count = ap length end in
    read_done old.done.items xs k d (read ∙ ap (λ (later : Desk). later.done.items) same) (omega (arith, within, count))

module _ (site : Site) (kept : Retained) (before : List Moment) (desk : Desk) (desks : DesksFor site kept before desk) where
  abbrev pub unsettled : TellsOpen (tick_of before) (operations site kept before) desk.waiting.items desk.done.items
  unsettled = desks.outcomes.unsettled

  abbrev pub so_many : ℕ → List Done
  so_many k = with_done (tick_of before) (take k desk.done.items) unsettled.older

  pub none_yet : applied site kept before ≡ so_many 0
  none_yet = applied_is_older site kept before desk.done.items unsettled.older unsettled.done_is unsettled.earlier

  pub settings_yet : (settings : Retained) → AreInForce site kept (tick_of before) (done_so_far site kept before) settings
      → AreInForce site kept (tick_of before + 1) (so_many 0) settings
  settings_yet settings h setting is =
      let front = done_in_front (tick_of before) desk.done.items unsettled.older in
      h setting is
      ∙ ap (in_force site kept setting (tick_of before)) (unsettled.done_is ∙ front.is)
      ∙ in_force-later site kept setting (tick_of before) front.new unsettled.older front.from
      ∙ past_force site kept setting (tick_of before) unsettled.older unsettled.earlier

  -- one more
  module _ (k tick : ℕ) (d : DoneOperation) (now : tick ≡ tick_of before) (is : slice_get desk.done.items k ≡ Some d) where
    pub next_applied : IsRun site.panels before → AreEventsOf site before → MayBeApplied site before (so_many k) (done_from tick d)
    next_applied run events =
        subst (λ t. MayBeApplied site before (so_many k) (done_from t d)) (sym now)
        (next_may_be_applied site kept before desk.done.items unsettled.older k d run events unsettled.done_is unsettled.earlier is)

    pub one_more : done_from tick d ∷ so_many k ≡ so_many (k + 1)
    one_more = ap (λ t. done_from t d ∷ so_many k) now ∙ sym (with_done_more (tick_of before) desk.done.items k d unsettled.older is)

  -- all of them
  pub all_done : (k : ℕ) → length desk.done.items ≤ k → so_many k ≡ done_so_far site kept before
  all_done k whole = ap (λ xs. with_done (tick_of before) xs unsettled.older) (take_all k desk.done.items whole) ∙ sym unsettled.done_is

  pub by_now : AreBy (tick_of before) (done_so_far site kept before)
  by_now =
      subst (AreBy (tick_of before)) (sym unsettled.done_is)
      (by_tick (tick_of before) desk.done.items unsettled.older (before_by (tick_of before) unsettled.older unsettled.earlier))

  pub grew_now : Grew (applied site kept before) (done_so_far site kept before) (tick_of before)
  grew_now = done_after_applied site kept before desk.done.items unsettled.older unsettled.done_is unsettled.earlier
