-- What is in force: the operations that were done before a tick, as moments leave them and the next tick takes more.
use Rattle.std.proofs.Common.{◌≡◌, ℕ, zero, suc, ◌+◌, ◌<◌, List, [], ◌∷◌, ◌++◌, length, take, Some, slice_get, inl, inr, Bool, true, false, refl, sym, ◌∙◌, ap, subst, arith}
use Rattle.std.specs.Prelude.{nat_lt, filter}
use Rattle.std.specs.Prelude.{slice_index_or}
use Rattle.std.proofs.lemmas.Bool.Decides.{eqb_tells}
use Rattle.std.proofs.lemmas.Option.{slice_get-get_or}
use Rattle.site_types.specs.declared.retained.Retained.{Retained}
use Rattle.site_types.specs.declared.site.Site.{Site}
use Rattle.site_types.specs.Done.{Done, Setting, AreBy, in_force, is_on}
use Rattle.site_types.proofs.Done.{in_force-later, lt_true, lt_false}
use Rattle.site_types.proofs.LaterDone.{AreFrom}
use Rattle.coincidence_rules.specs.Applied.{NoneIn}
use Rattle.operation_desk.specs.declared.done_operation.DoneOperation.{DoneOperation}
use Rattle.operation_desk.specs.Replies.{AreInForce}
use Rattle.operation_desk.specs.Requests.{done_from, with_done}
use Rattle.panel_laws.specs.OperationLaws.{AreEventsOf}
use Rattle.panel_laws.proofs.LaterDone.{Grew, from_both, join, next_grew}
use Rattle.panel_laws.proofs.SettingLaws.{settings_change_once}
use Rattle.panel_rules.specs.Moments.{Moment, Began, Happened, Turned, Kept, IsRun, tick_of}
use Rattle.panel_rules.proofs.Counting.{each_at}
use Rattle.panel_rules.proofs.Floors.{lt_from}
use Rattle.panel_parts.specs.Applied.{MayBeApplied, applied, done_so_far}
use Rattle.panel_parts.specs.Stands.{AreBefore}
use Rattle.panel_parts.proofs.OfSite.{done_of_site}

-- ---- lists of operations before a tick

abbrev was_before : ℕ → Done → Bool
was_before tick d = nat_lt d.tick tick

later_left_out : (tick : ℕ) (new old : List Done) → AreFrom tick new → filter (was_before tick) (new ++ old) ≡ filter (was_before tick) old
later_left_out tick [] old from = refl
later_left_out tick (d ∷ new) old from = rw (lt_false d.tick tick from.0) (later_left_out tick new old from.1)

all_kept : (tick : ℕ) (done : List Done) → AreBefore tick done → filter (was_before tick) done ≡ done
all_kept tick [] all = refl
all_kept tick (d ∷ done) all = rw (lt_true d.tick tick all.0) (ap (λ ds. d ∷ ds) (all_kept tick done all.1))

kept_before : (tick : ℕ) (done : List Done) → AreBefore tick (filter (was_before tick) done)
kept_before tick [] = tt
kept_before tick (d ∷ done) = go (was_before tick d) refl (kept_before tick done)
  where
    go : (b : Bool) → was_before tick d ≡ b → AreBefore tick (filter (was_before tick) done) → AreBefore tick (filter (was_before tick) (d ∷ done))
    go true e rest = rw e (lt_from d.tick tick e, rest)
    go false e rest = rw e rest

-- ---- what is in force at a moment

module _ (site : Site) (kept : Retained) where
  -- moments of one tick leave it
  pub applied_stays : (moment : Moment) (before : List Moment) → tick_of (moment ∷ before) ≡ tick_of before
      → applied site kept before ≡ applied site kept (moment ∷ before)
  applied_stays moment before same =
      let grew = next_grew site kept moment before in
      sym (
      ap (λ t. filter (was_before t) (done_so_far site kept (moment ∷ before))) same
      ∙ ap (filter (was_before (tick_of before))) grew.is
      ∙ later_left_out (tick_of before) grew.new (done_so_far site kept before) grew.from
      )

  pub applied_past : (before : List Moment) → AreBefore (tick_of before) (applied site kept before)
  applied_past before = kept_before (tick_of before) (done_so_far site kept before)

  -- when a tick begins, all that was done is
  pub applied_begun : (before : List Moment) → AreBy (tick_of before) (done_so_far site kept before)
      → done_so_far site kept before ≡ applied site kept (Began ∷ before)
  applied_begun before by = sym (all_kept (tick_of before + 1) (done_so_far site kept before) (up (done_so_far site kept before) by))
    where
      up : (done : List Done) → AreBy (tick_of before) done → AreBefore (tick_of before + 1) done
      up [] all = tt
      up (d ∷ done) all = (let l = all.0 in omega (arith, l), up done all.1)

  -- and the settings stay in force
  pub settings_stay : (moment : Moment) (before : List Moment) (settings : Retained) → tick_of (moment ∷ before) ≡ tick_of before
      → AreInForce site kept (tick_of before) (done_so_far site kept before) settings
      → AreInForce site kept (tick_of (moment ∷ before)) (done_so_far site kept (moment ∷ before)) settings
  settings_stay moment before settings same h setting is =
      let grew = next_grew site kept moment before in
      h setting is
      ∙ sym (in_force-later site kept setting (tick_of before) grew.new (done_so_far site kept before) grew.from)
      ∙ ap (in_force site kept setting (tick_of before)) (sym grew.is)
      ∙ ap (λ t. in_force site kept setting t (done_so_far site kept (moment ∷ before))) (sym same)

-- ---- what was done in the tick, before what was done earlier

pub done_in_front : (tick : ℕ) (ds : List DoneOperation) (older : List Done) → Grew older (with_done tick ds older) tick
done_in_front tick [] older = record { new = []; is = refl; from = tt }
done_in_front tick (d ∷ ds) older =
    let h = done_in_front tick ds (done_from tick d ∷ older) in
    record {
      new = h.new ++ done_from tick d ∷ [];
      is = h.is ∙ join h.new (done_from tick d ∷ []) older;
      from = from_both tick h.new (done_from tick d ∷ []) h.from (omega arith, tt);
    }

module _ (site : Site) (kept : Retained) (before : List Moment) (ds : List DoneOperation) (older : List Done)
    (is : done_so_far site kept before ≡ with_done (tick_of before) ds older) (earlier : AreBefore (tick_of before) older) where
  pub applied_is_older : applied site kept before ≡ older
  applied_is_older =
      let h = done_in_front (tick_of before) ds older in
      ap (filter (was_before (tick_of before))) (is ∙ h.is)
      ∙ later_left_out (tick_of before) h.new older h.from
      ∙ all_kept (tick_of before) older earlier

-- so of all that was done the newest were done in this tick
pub done_after_applied : (site : Site) (kept : Retained) (before : List Moment) (ds : List DoneOperation) (older : List Done)
    → done_so_far site kept before ≡ with_done (tick_of before) ds older → AreBefore (tick_of before) older
    → Grew (applied site kept before) (done_so_far site kept before) (tick_of before)
done_after_applied site kept before ds older is earlier =
    let h = done_in_front (tick_of before) ds older in
    record { new = h.new; is = is ∙ h.is ∙ ap (λ xs. h.new ++ xs) (sym (applied_is_older site kept before ds older is earlier)); from = h.from }

-- ---- one after another

-- one more than a front
pub with_done_more : (tick : ℕ) (ds : List DoneOperation) (k : ℕ) (d : DoneOperation) (older : List Done) → slice_get ds k ≡ Some d
    → with_done tick (take (k + 1) ds) older ≡ done_from tick d ∷ with_done tick (take k ds) older
with_done_more tick [] k d older is = cc
with_done_more tick (x ∷ ds) zero d older is = let same : x ≡ d = cc in subst (λ y. with_done tick (take 1 (x ∷ ds)) older ≡ done_from tick y ∷ older) same (none ds)
  where
    none : (xs : List DoneOperation) → with_done tick (take 1 (x ∷ xs)) older ≡ done_from tick x ∷ older
    none [] = refl
    none (y ∷ ys) = refl
with_done_more tick (x ∷ ds) (suc k) d older is =
    let e : suc k + 1 ≡ suc (k + 1) = omega arith in
    ap (λ n. with_done tick (take n (x ∷ ds)) older) e ∙ with_done_more tick ds k d (done_from tick x ∷ older) is

split : (tick : ℕ) (ds : List DoneOperation) (k : ℕ) (d : DoneOperation) (older : List Done) → slice_get ds k ≡ Some d
    → Grew (done_from tick d ∷ with_done tick (take k ds) older) (with_done tick ds older) tick
split tick [] k d older is = cc
split tick (x ∷ ds) zero d older is =
    let same : x ≡ d = cc in subst (λ y. Grew (done_from tick y ∷ older) (with_done tick (x ∷ ds) older) tick) same (done_in_front tick ds (done_from tick x ∷ older))
split tick (x ∷ ds) (suc k) d older is = split tick ds k d (done_from tick x ∷ older) is

pub by_tick : (tick : ℕ) (ds : List DoneOperation) (older : List Done) → AreBy tick older → AreBy tick (with_done tick ds older)
by_tick tick [] older h = h
by_tick tick (d ∷ ds) older h = by_tick tick ds (done_from tick d ∷ older) (omega arith, h)

pub before_by : (tick : ℕ) (done : List Done) → AreBefore tick done → AreBy tick done
before_by tick [] all = tt
before_by tick (d ∷ done) all = (let l = all.0 in omega (arith, l), before_by tick done all.1)

get_behind : (xs ys : List Done) (k : ℕ) → slice_get (xs ++ ys) (length xs + k) ≡ slice_get ys k
get_behind [] ys k = let e : 0 + k ≡ k = omega arith in ap (slice_get ys) e
get_behind (x ∷ xs) ys k = let e : suc (length xs) + k ≡ suc (length xs + k) = omega arith in ap (slice_get (x ∷ (xs ++ ys))) e ∙ get_behind xs ys k

none_in : (tick : ℕ) (setting : Setting) (done : List Done)
    → ((j : ℕ) (e : Done) → slice_get done j ≡ Some e → is_on setting e ≡ true → e.tick < tick) → NoneIn tick setting done
none_in tick setting [] h = tt
none_in tick setting (e ∷ done) h =
    ((λ on same. let l = h 0 e refl on in absurd (omega (arith, l, same))), none_in tick setting done (λ j f is. h (suc j) f is))

-- before the first tick nothing has befallen
none_before_ticks : (panels : ℕ) (before : List Moment) → IsRun panels before → tick_of before ≡ 0 → before ≡ []
none_before_ticks panels [] run e = refl
none_before_ticks panels (Began ∷ before) run e = absurd (omega (arith, e))
none_before_ticks panels (Happened event ∷ before) run e =
    absurd (let fresh = run.1 in let none = none_before_ticks panels before run.0 e in let no_way = rw none at fresh in cc)
none_before_ticks panels (Turned panel task ∷ before) run e =
    absurd (let owed = run.1 in let none = none_before_ticks panels before run.0 e in let no_way = rw none at owed in cc)
none_before_ticks panels (Kept failed ∷ before) run e =
    absurd (let owed = run.1 in let none = none_before_ticks panels before run.0 e in let no_way = rw none at owed in cc)

-- each of those that were done in the tick that ends may come in force after those before it
pub next_may_be_applied : (site : Site) (kept : Retained) (before : List Moment) (ds : List DoneOperation) (older : List Done) (k : ℕ)
    (d : DoneOperation) → IsRun site.panels before → AreEventsOf site before → done_so_far site kept before ≡ with_done (tick_of before) ds older
    → AreBefore (tick_of before) older → slice_get ds k ≡ Some d
    → MayBeApplied site before (with_done (tick_of before) (take k ds) older) (done_from (tick_of before) d)
next_may_be_applied site kept before ds older k d run events is earlier at =
    let tick = tick_of before in
    let rest = with_done tick (take k ds) older in
    let front = split tick ds k d older at in
    let whole : done_so_far site kept before ≡ front.new ++ done_from tick d ∷ rest = is ∙ front.is in
    let n = length front.new in
    let here : slice_get (done_so_far site kept before) (n + 0) ≡ Some (done_from tick d) =
    ap (λ xs. slice_get xs (n + 0)) whole ∙ get_behind front.new (done_from tick d ∷ rest) 0 in
    let of = each_at _ (done_so_far site kept before) (n + 0) (done_from tick d) (done_of_site site kept before events) here in
    record {
      run = run;
      at = of.0;
      now = refl;
      has = of.1;
      next = record {
        from_one = elim (eqb_tells tick 0) [
          | inl z ↦ absurd (
              let none = none_before_ticks site.panels before run z.1 in
              let gone = ap (λ ms. slice_get (done_so_far site kept ms) (n + 0)) (sym none) ∙ here in
              cc)
          | inr z ↦ (let some = z.1 in omega (arith, some))
        ];
        since = by_tick tick (take k ds) older (before_by tick older earlier);
        once = λ setting on. none_in tick setting rest (λ j e there on'.
            settings_change_once site kept before setting (n + 0) (n + suc j) (done_from tick d) e here
            (ap (λ xs. slice_get xs (n + suc j)) whole ∙ get_behind front.new (done_from tick d ∷ rest) (suc j) ∙ there) on on' (omega arith));
      };
    }

-- what is read at a place of a list
pub read_done : (ds xs : List DoneOperation) (k : ℕ) (d : DoneOperation) → xs ≡ ds → k < length ds → slice_get ds k ≡ Some (slice_index_or xs k d)
read_done ds xs k d same within = ap (λ l. slice_get l k) (sym same) ∙ slice_get-get_or xs k d (subst (λ l. k < length l) (sym same) within)
