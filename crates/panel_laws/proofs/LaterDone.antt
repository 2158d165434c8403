-- Operations done in a tick or later change nothing of the entries up to it; and what becomes of operations
-- at a moment is done in its tick.
use Rattle.std.proofs.Common.{◌≡◌, ◌∙◌, ◌≤◌, ◌+◌, ◌==◌, ◌&&◌, ◌++◌, ℕ, Bool, true, false, List, [], ◌∷◌, Option, Some, None, length, refl, ap, arith, if◌then◌else◌}
use Rattle.std.specs.Prelude.{not}
use Rattle.std.specs.List.{AllByRecursion}
use Rattle.tick_units.specs.declared.task.Task.{Task}
use Rattle.tick_units.specs.declared.task.Task.TheVariants.{Poll, Decide, Supply, Desk, Hold, Link, Effect, Drive, Keep}
use Rattle.site_types.specs.declared.retained.Retained.{Retained}
use Rattle.site_types.specs.declared.site.Site.{Site}
use Rattle.site_types.specs.Done.{Done}
use Rattle.site_types.proofs.LaterDone.{AreFrom}
use Rattle.coincidence_rules.proofs.Later.{in_alarm-later, zones_same}
use Rattle.coincidence_rules.proofs.Seconds.{AreUpTo}
use Rattle.panel_rules.specs.Answers.{answers}
use Rattle.panel_rules.specs.Moments.{Moment, Began, Happened, Turned, Kept, is_turn, latest_turn, tick_of}
use Rattle.panel_rules.specs.Counts.{taken_by_hold}
use Rattle.panel_rules.specs.Zones.{held_answers}
use Rattle.panel_rules.specs.Operations.{Request, Reply, Busy, Denied, Waiting, Already, Store, WasDone, Operations}
use Rattle.panel_rules.specs.Operations.{requests, requests_in, done_in, after_reply, desk_reply, after_request}
use Rattle.panel_rules.specs.Operations.{after_desk, do_all, after_keep, operations}
use Rattle.panel_rules.specs.Batches.{is_in_fire_alarm, enters, new_entries}
use Rattle.panel_laws.specs.TimelineLaws.{counted_entries}
use Rattle.panel_laws.proofs.AnswerLaws.{eq_is}
use Rattle.panel_rules.proofs.Bools.{parts}
use Rattle.panel_rules.proofs.Counting.{each_filtered}
use Rattle.panel_rules.proofs.Lags.{stamped_by}
use Rattle.panel_rules.proofs.Places.{take_get}

turn_by : (b : Bool) (here before : ℕ) → before ≤ here → (if b then here else before) ≤ here
turn_by true here before l = omega arith
turn_by false here before l = l

pub turn_in_time : (panel : ℕ) (task : Task) (moments : List Moment) → latest_turn panel task moments ≤ tick_of moments
turn_in_time panel task [] = omega arith
turn_in_time panel task (Began ∷ before) = omega (arith, turn_in_time panel task before)
turn_in_time panel task (Happened event ∷ before) = turn_in_time panel task before
turn_in_time panel task (Turned other_panel other ∷ before) =
    turn_by (is_turn panel task other_panel other) (tick_of before) (latest_turn panel task before) (turn_in_time panel task before)
turn_in_time panel task (Kept failed ∷ before) = turn_in_time panel task before

module _ (site : Site) (kept : Retained) (new old : List Done) (tick : ℕ) (from : AreFrom tick new) (panel : ℕ) where
  late : (m : List Moment) → tick_of m ≤ tick → AreUpTo tick (held_answers site panel m)
  late m le k a is = omega (arith, le, stamped_by site panel m k a (take_get (taken_by_hold site panel m) (answers site panel m) k a is).1)

  fire_same : (m : List Moment) → tick_of m ≤ tick → is_in_fire_alarm site kept (new ++ old) panel m ≡ is_in_fire_alarm site kept old panel m
  fire_same m le =
      ap (λ mask. not (mask == 0))
      (zones_same site panel _ _ (λ z. in_alarm-later site kept new old tick from (held_answers site panel m) (late m le) z (latest_turn panel Hold m)
      (omega (arith, le, turn_in_time panel Hold m))))

  enters_same : (m : List Moment) → tick_of m ≤ tick → enters site kept (new ++ old) panel m ≡ enters site kept old panel m
  enters_same m le =
      ap (λ b. b && not (is_in_fire_alarm site kept (new ++ old) panel m)) (fire_same (Turned panel Hold ∷ m) le)
      ∙ ap (λ b. is_in_fire_alarm site kept old panel (Turned panel Hold ∷ m) && not b) (fire_same m le)

  pub new_same : (m : List Moment) → tick_of m ≤ tick → new_entries site kept (new ++ old) panel m ≡ new_entries site kept old panel m
  new_same [] le = refl
  new_same (Began ∷ before) le = new_same before (omega (arith, le))
  new_same (Happened event ∷ before) le = new_same before le
  new_same (Turned other Hold ∷ before) le =
      ap (λ b. if (other == panel) && b then tick_of before ∷ new_entries site kept (new ++ old) panel before else new_entries site kept (new ++ old)
      panel before) (enters_same before le)
      ∙ ap (λ xs. if (other == panel) && enters site kept old panel before then tick_of before ∷ xs else xs) (new_same before le)
  new_same (Turned other Poll ∷ before) le = new_same before le
  new_same (Turned other Decide ∷ before) le = new_same before le
  new_same (Turned other Supply ∷ before) le = new_same before le
  new_same (Turned other Desk ∷ before) le = new_same before le
  new_same (Turned other Link ∷ before) le = new_same before le
  new_same (Turned other Effect ∷ before) le = new_same before le
  new_same (Turned other Drive ∷ before) le = new_same before le
  new_same (Turned other Keep ∷ before) le = new_same before le
  new_same (Kept failed ∷ before) le = ap (λ xs. if failed then xs else []) (new_same before le)

  pub counted_same : (m : List Moment) → tick_of m ≤ tick → counted_entries site kept (new ++ old) panel m ≡ counted_entries site kept old panel m
  counted_same [] le = refl
  counted_same (Began ∷ before) le = counted_same before (omega (arith, le))
  counted_same (Happened event ∷ before) le = counted_same before le
  counted_same (Turned other task ∷ before) le = counted_same before le
  counted_same (Kept failed ∷ before) le =
      ap (λ n. if failed then n else n + length (new_entries site kept (new ++ old) panel before)) (counted_same before le)
      ∙ ap (λ xs. if failed then counted_entries site kept old panel before else counted_entries site kept old panel before + length xs)
      (new_same before le)

-- what was done more, in a tick or later
pub record Grew (before after : List Done) (tick : ℕ) : Type 0 where
  pub new : List Done
  pub is : after ≡ new ++ before
  pub from : AreFrom tick new

same_done : (done : List Done) (tick : ℕ) → Grew done done tick
same_done done tick = record { new = []; is = refl; from = tt }

one_done : (before after : List Done) (tick : ℕ) (d : Done) → tick ≤ d.tick → Grew before after tick → Grew before (d ∷ after) tick
one_done before after tick d le h = record { new = d ∷ h.new; is = ap (λ xs. d ∷ xs) h.is; from = (le, h.from) }

pub from_both : (tick : ℕ) (xs ys : List Done) → AreFrom tick xs → AreFrom tick ys → AreFrom tick (xs ++ ys)
from_both tick [] ys a b = b
from_both tick (x ∷ xs) ys a b = (a.0, from_both tick xs ys a.1 b)

pub join : (xs ys zs : List Done) → xs ++ (ys ++ zs) ≡ (xs ++ ys) ++ zs
join [] ys zs = refl
join (x ∷ xs) ys zs = ap (λ ws. x ∷ ws) (join xs ys zs)

then_grew : (first second third : List Done) (tick : ℕ) → Grew first second tick → Grew second third tick → Grew first third tick
then_grew first second third tick h g =
    record { new = g.new ++ h.new; is = g.is ∙ ap (λ xs. g.new ++ xs) h.is ∙ join g.new h.new first; from = from_both tick g.new h.new g.from h.from }

reply_grew : (r : Request) (so_far : Operations) (reply : Option Reply) (tick : ℕ) → r.tick ≡ tick
    → Grew so_far.done (after_reply r so_far reply).done tick
reply_grew r so_far None tick now = same_done so_far.done tick
reply_grew r so_far (Some Busy) tick now = same_done so_far.done tick
reply_grew r so_far (Some (Denied needs has)) tick now = same_done so_far.done tick
reply_grew r so_far (Some Waiting) tick now = same_done so_far.done tick
reply_grew r so_far (Some Already) tick now = same_done so_far.done tick
reply_grew r so_far (Some Store) tick now = same_done so_far.done tick
reply_grew r so_far (Some WasDone) tick now =
    one_done so_far.done so_far.done tick (done_in r.tick r) (omega (arith, now)) (same_done so_far.done tick)

desk_grew : (site : Site) (kept : Retained) (tick : ℕ) (taken : List Request) (so_far : Operations)
    → AllByRecursion (λ (r : Request). r.tick ≡ tick) taken →
    Grew so_far.done (after_desk site kept taken so_far).done tick
desk_grew site kept tick [] so_far all = same_done so_far.done tick
desk_grew site kept tick (r ∷ taken) so_far all =
    then_grew so_far.done (after_request site kept so_far r).done (after_desk site kept taken (after_request site kept so_far r)).done tick
    (reply_grew r so_far (desk_reply site kept r so_far) tick all.0) (desk_grew site kept tick taken (after_request site kept so_far r) all.1)

all_grew : (tick : ℕ) (waiting : List Request) (done : List Done) → Grew done (do_all tick waiting done) tick
all_grew tick [] done = same_done done tick
all_grew tick (r ∷ waiting) done =
    then_grew done (done_in tick r ∷ done) (do_all tick waiting (done_in tick r ∷ done)) tick
    (one_done done done tick (done_in tick r) (omega arith) (same_done done tick)) (all_grew tick waiting (done_in tick r ∷ done))

keep_grew : (tick : ℕ) (failed : Bool) (so_far : Operations) → Grew so_far.done (after_keep tick failed so_far).done tick
keep_grew tick true so_far = same_done so_far.done tick
keep_grew tick false so_far = all_grew tick so_far.waiting so_far.done

-- what is done at a moment is done in its tick
pub next_grew : (site : Site) (kept : Retained) (moment : Moment) (before : List Moment)
    → Grew (operations site kept before).done (operations site kept (moment ∷ before)).done (tick_of before)
next_grew site kept Began before = same_done _ _
next_grew site kept (Happened event) before = same_done _ _
next_grew site kept (Turned panel Desk) before =
    desk_grew site kept (tick_of before) (requests_in panel (tick_of before) (requests site before)) (operations site kept before)
    (each_filtered (λ (r : Request). r.tick ≡ tick_of before) (λ (r : Request). (r.panel == panel) && (r.tick == tick_of before))
    (requests site before)
    (λ k r is t. eq_is r.tick (tick_of before) (parts (r.panel == panel) (r.tick == tick_of before) t).1))
next_grew site kept (Turned panel Poll) before = same_done _ _
next_grew site kept (Turned panel Decide) before = same_done _ _
next_grew site kept (Turned panel Supply) before = same_done _ _
next_grew site kept (Turned panel Hold) before = same_done _ _
next_grew site kept (Turned panel Link) before = same_done _ _
next_grew site kept (Turned panel Effect) before = same_done _ _
next_grew site kept (Turned panel Drive) before = same_done _ _
next_grew site kept (Turned panel Keep) before = same_done _ _
next_grew site kept (Kept failed) before = keep_grew (tick_of before) failed (operations site kept before)
