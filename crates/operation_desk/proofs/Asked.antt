-- The desk after an event: an operation that is asked for stands behind those before it.
use Rattle.std.proofs.Common.{◌≡◌, ℕ, zero, suc, ◌+◌, ◌-◌, ◌^◌, ◌≤◌, ◌<◌, ◌==◌, ◌&&◌, Bool, true, false, List, []}
use Rattle.std.proofs.Common.{◌∷◌, ◌++◌, length, Option, Some, None, slice_get, if◌then◌else◌, inl, inr, refl, sym}
use Rattle.std.proofs.Common.{◌∙◌, ap, subst, arith, length-append}
use Rattle.std.specs.Prelude.{filter, nat_le, nat_lt, option_map, slice_index, slice_set}
use Rattle.std.specs.List.{AllByRecursion, cons_option, filter_map}
use Rattle.std.proofs.lemmas.Bool.Decides.{eqb_tells}
use Rattle.std.proofs.lemmas.List.{append-nil, get_or-set_other, get_or-set_same, length-map, length-set, map-append}
use Rattle.std.proofs.lemmas.List.Elements.{filter-append, filter_map-append}
use Rattle.tick_units.specs.declared.task.Task.TheVariants.{Desk as DeskTask}
use Rattle.site_types.specs.declared.event.Event.{Event}
use Rattle.site_types.specs.declared.event.Event.TheVariants.{Op, Point, Cable, Supply, Link, Confirmed}
use Rattle.site_types.specs.declared.operation.Operation.{Operation}
use Rattle.site_types.specs.declared.retained.Retained.{Retained}
use Rattle.site_types.specs.declared.site.Site.{Site}
use Rattle.site_types.specs.Changes.{IsPanelNumber}
use Rattle.site_types.specs.Limits.{most_operations}
use Rattle.site_types.specs.Valid.{IsValid}
use Rattle.access_levels.specs.Levels.{level_of}
use Rattle.panel_rules.specs.Moments.{Moment, Began, Happened, Turned, Kept, tick_of}
use Rattle.panel_rules.specs.Operations.{Answered, Operations, Reply, Request as RequestOf, after_desk, after_reply}
use Rattle.panel_rules.specs.Operations.{after_request, answer_all}
use Rattle.panel_rules.specs.Operations.{desk_reply, keep_reply, operations, request_of, requests, requests_in}
use Rattle.panel_rules.specs.Timeline.{answer_in, busy_count, told_answer}
use Rattle.panel_rules.proofs.Answering.{numbered_by_place}
use Rattle.panel_rules.proofs.Counting.{count, each_at, each_by, each_filtered, each_more, each_to, one}
use Rattle.panel_rules.proofs.Floors.{le_to, lt_to}
use Rattle.panel_rules.proofs.Places.{get_behind}
use Rattle.panel_rules.proofs.AnswersTell.{eq_true}
use Rattle.panel_laws.specs.OperationLaws.{AreOfSite}
use Rattle.panel_laws.proofs.AnswersRise.{found}
use Rattle.panel_laws.proofs.FewAnswers.{few_in_tick, is_early_up_to}
use Rattle.operation_desk.specs.declared.desk.Desk.{Desk}
use Rattle.operation_desk.specs.Changes.{Asks, CanAsk, asked_now}
use Rattle.operation_desk.specs.Requests.{with_done, is_early, request_from, requests_from}
use Rattle.operation_desk.specs.Stands.{DesksFor, given_in}

-- ---- what was answered and what waits was asked for

record AreOf (P : RequestOf → Type 0) (so_far : Operations) : Type 0 where
  answers : AllByRecursion (λ (a : Answered). P a.request) so_far.answers
  waiting : AllByRecursion P so_far.waiting

module _ (P : RequestOf → Type 0) where
  of_reply : (r : RequestOf) (so_far : Operations) (o : Option Reply) → P r → AreOf P so_far → AreOf P (after_reply r so_far o)
  of_reply r so_far None p h = record { answers = h.answers; waiting = each_more P so_far.waiting r h.waiting p }
  of_reply r so_far (Some reply) p h = record { answers = (p, h.answers); waiting = h.waiting }

  of_desk : (site : Site) (kept : Retained) (taken : List RequestOf) (so_far : Operations) → AllByRecursion P taken → AreOf P so_far
      → AreOf P (after_desk site kept taken so_far)
  of_desk site kept [] so_far all h = h
  of_desk site kept (r ∷ taken) so_far all h =
      of_desk site kept taken (after_request site kept so_far r) all.1 (of_reply r so_far (desk_reply site kept r so_far) all.0 h)

  of_all : (tick : ℕ) (failed : Bool) (waiting : List RequestOf) (answers : List Answered) → AllByRecursion P waiting
      → AllByRecursion (λ (a : Answered). P a.request) answers → AllByRecursion (λ (a : Answered). P a.request) (answer_all tick failed waiting answers)
  of_all tick failed [] answers all h = h
  of_all tick failed (r ∷ waiting) answers all h =
      of_all tick failed waiting (record { request = r; tick = tick; reply = keep_reply failed } ∷ answers) all.1 (all.0, h)

abbrev IsUpTo : ℕ → RequestOf → Type 0
IsUpTo n r = r.number ≤ n

numbers_up_to : (site : Site) (moments : List Moment) → AllByRecursion (IsUpTo (length (requests site moments))) (requests site moments)
numbers_up_to site moments =
    each_by (IsUpTo (length (requests site moments))) (requests site moments)
    (λ k r is. (let n = numbered_by_place site moments k r is in let l = slice_get_within (requests site moments) k r is in omega (arith, n, l)))
  where
    slice_get_within : {X : Type 0} (xs : List X) (k : ℕ) (x : X) → slice_get xs k ≡ Some x → k < length xs
    slice_get_within [] k x e = cc
    slice_get_within (y ∷ xs) zero x e = omega arith
    slice_get_within (y ∷ xs) (suc k) x e = let l = slice_get_within xs k x e in omega (arith, l)

-- numbers that stay below a greater end
grown : (n m : ℕ) (so_far : Operations) → n ≤ m → AreOf (IsUpTo n) so_far → AreOf (IsUpTo m) so_far
grown n m so_far l h = record {
  answers = each_to _ _ so_far.answers (λ a k. omega (arith, k, l)) h.answers;
  waiting = each_to (IsUpTo n) (IsUpTo m) so_far.waiting (λ r k. omega (arith, k, l)) h.waiting;
}

of_run : (site : Site) (kept : Retained) (moments : List Moment) → AreOf (IsUpTo (length (requests site moments))) (operations site kept moments)
of_run site kept [] = record { answers = tt; waiting = tt }
of_run site kept (Began ∷ before) = let h = of_run site kept before in record { answers = h.answers; waiting = h.waiting }
of_run site kept (Happened (Op panel code operation) ∷ before) =
    grown (length (requests site before)) _ (operations site kept before)
    (let l = length-append (requests site before)
    (request_of (tick_of before) panel (level_of site (option_map (λ label. label.bytes) code)) operation (requests site before) ∷ []) in omega (arith, l))
    (of_run site kept before)
of_run site kept (Happened (Point point state) ∷ before) = let h = of_run site kept before in record { answers = h.answers; waiting = h.waiting }
of_run site kept (Happened (Cable panel line piece state) ∷ before) =
    let h = of_run site kept before in record { answers = h.answers; waiting = h.waiting }
of_run site kept (Happened (Supply panel kind bad) ∷ before) =
    let h = of_run site kept before in record { answers = h.answers; waiting = h.waiting }
of_run site kept (Happened (Link link up) ∷ before) = let h = of_run site kept before in record { answers = h.answers; waiting = h.waiting }
of_run site kept (Happened (Confirmed output) ∷ before) = let h = of_run site kept before in record { answers = h.answers; waiting = h.waiting }
of_run site kept (Turned panel DeskTask ∷ before) =
    of_desk (IsUpTo (length (requests site before))) site kept (requests_in panel (tick_of before) (requests site before)) (operations site kept before)
    (each_filtered (IsUpTo (length (requests site before))) _ (requests site before)
    (λ k r is t. each_at (IsUpTo (length (requests site before))) (requests site before) k r (numbers_up_to site before) is))
    (of_run site kept before)
of_run site kept (Turned panel task ∷ before) = let h = of_run site kept before in record { answers = h.answers; waiting = h.waiting }
of_run site kept (Kept failed ∷ before) =
    let h = of_run site kept before in
    record {
      answers =
          of_all (IsUpTo (length (requests site before))) (tick_of before) failed (operations site kept before).waiting
          (operations site kept before).answers h.waiting h.answers;
      waiting = tt;
    }

-- ---- one operation more

module _ (site : Site) (kept : Retained) (before : List Moment) (r : RequestOf) (number : r.number ≡ length (requests site before) + 1) where
  abbrev all : List RequestOf
  all = requests site before

  abbrev tick : ℕ
  tick = tick_of before

  abbrev answered : List Answered
  answered = (operations site kept before).answers

  none_to_it : answer_in site kept tick answered r ≡ None
  none_to_it = go (answer_in site kept tick answered r) refl
    where
      go : (o : Option Answered) → answer_in site kept tick answered r ≡ o → o ≡ None
      go None e = refl
      go (Some a) e =
          let f = found site kept answered tick r a e in
          let l = each_at (λ (x : Answered). IsUpTo (length all) x.request) answered f.place a (of_run site kept before).answers f.is in
          let n = f.number in
          absurd (omega (arith, l, n, number))

  same_given : given_in site kept tick answered (all ++ r ∷ []) ≡ given_in site kept tick answered all
  same_given =
      filter_map-append (answer_in site kept tick answered) all (r ∷ [])
      ∙ ap (λ o. given_in site kept tick answered all ++ cons_option o []) none_to_it
      ∙ append-nil (given_in site kept tick answered all)

and_true : (b : Bool) → (b && true) ≡ b
and_true true = refl
and_true false = refl

-- the operation of an event, as the desk keeps it
module _ (site : Site) (kept : Retained) (panel level : ℕ) (operation : Operation) (before : List Moment) (old : Desk) (h :
    DesksFor site kept before old) (own : IsPanelNumber panel) where
  abbrev r : RequestOf
  r = request_of (tick_of before) panel level operation (requests site before)

  same_request : request_from (asked_now panel level operation old) ≡ r
  same_request = request_is (ap (λ n. n + 1) h.number) h.outcomes.now (h.counts panel own)
    where
      request_is : (old.number + 1 ≡ length (requests site before) + 1) → old.tick.0 ≡ tick_of before
          → slice_index old.counts (panel - 1) ≡ length (requests_in panel (tick_of before) (requests site before))
          → request_from (asked_now panel level operation old) ≡ r
      request_is n t e = rw (n, t, e) refl

  at_once : (tick_of before == tick_of before) ≡ true
  at_once = eq_true (tick_of before) (tick_of before) refl

  early_more : filter (is_early (tick_of before)) (requests site before ++ r ∷ [])
      ≡ filter (is_early (tick_of before)) (requests site before)
      ++ (if nat_lt (length (requests_in panel (tick_of before) (requests site before))) most_operations then r ∷ [] else [])
  early_more =
      filter-append (is_early (tick_of before)) (requests site before) (r ∷ [])
      ∙ ap (λ b. filter (is_early (tick_of before)) (requests site before)
      ++ (if b && nat_lt (length (requests_in panel (tick_of before) (requests site before))) most_operations then r ∷ [] else [])) at_once

  module _ (event : Event) (asked : requests site (Happened event ∷ before) ≡ requests site before ++ r ∷ []) where
    few_early : (tick : ℕ) (xs : List RequestOf) → ((k : ℕ) (x : RequestOf) → slice_get xs k ≡ Some x → IsPanelNumber x.panel)
        → length (filter (is_early tick) xs) ≤ count (is_early_up_to 8 tick) xs
    few_early tick [] of = omega arith
    few_early tick (x ∷ xs) of =
        let ih = few_early tick xs (λ k y e. of (suc k) y e) in
        let p = of 0 x refl in
        let low = le_to 1 x.panel p.0 in
        let high = le_to x.panel 8 p.1 in
        go (is_early tick x) refl ih (ap (λ b. (b && nat_le x.panel 8) && is_early tick x) low ∙ ap (λ b. (true && b) && is_early tick x) high)
      where
        go : (b : Bool) → is_early tick x ≡ b → length (filter (is_early tick) xs) ≤ count (is_early_up_to 8 tick) xs
            → is_early_up_to 8 tick x ≡ is_early tick x
            → length (if b then x ∷ filter (is_early tick) xs else filter (is_early tick) xs) ≤ one (is_early_up_to 8 tick x) + count (is_early_up_to 8 tick) xs
        go true e ih same = let o = ap one (same ∙ e) in omega (arith, ih, o)
        go false e ih same = omega (arith, ih)

    pub can_ask : IsValid site → AreOfSite site (Happened event ∷ before) → length (requests site before) < 2 ^ 64 - 1
        → CanAsk panel level operation old
    can_ask valid of few =
        record {
          own = own;
          sized = h.sized.0;
          number = (let n = h.number in omega (arith, n, few));
          count =
              (let n = h.number in
              let c = h.counts panel own in
              let l = filter_short (λ (x : RequestOf). (x.panel == panel) && (x.tick == tick_of before)) (requests site before) in
              omega (arith, n, c, l));
          room = roomy;
        }
      where
        filter_short : {X : Type 0} (test : X → Bool) (xs : List X) → length (filter test xs) ≤ length xs
        filter_short test [] = omega arith
        filter_short test (x ∷ xs) = by_test (test x) (filter_short test xs)
          where
            by_test : (b : Bool) → length (filter test xs) ≤ length xs → length (if b then x ∷ filter test xs else filter test xs) ≤ suc (length xs)
            by_test true l = omega (arith, l)
            by_test false l = omega (arith, l)

        roomy : slice_index old.counts (panel - 1) < most_operations → length old.asked.items < 32
        roomy less =
            let all = few_early (tick_of before) (requests site (Happened event ∷ before))
            (λ k x e. (let p = (of k x e).0 in let f = valid.forms.panels.1 in (p.0, omega (arith, p.1, f)))) in
            let most = few_in_tick site (Happened event ∷ before) (tick_of before) in
            let c = h.counts panel own in
            let step = early_more in
            let first : length (filter (is_early (tick_of before)) (requests site (Happened event ∷ before)))
            ≡ length (filter (is_early (tick_of before)) (requests site before ++ r ∷ [])) =
            ap (λ xs. length (filter (is_early (tick_of before)) xs)) asked in
            let second : filter (is_early (tick_of before)) (requests site before ++ r ∷ [])
            ≡ filter (is_early (tick_of before)) (requests site before) ++ r ∷ [] =
            step ∙ ap (λ b. filter (is_early (tick_of before)) (requests site before) ++ (if b then r ∷ [] else []))
            (lt_to (length (requests_in panel (tick_of before) (requests site before))) most_operations (omega (arith, c, less))) in
            let more : length (filter (is_early (tick_of before)) (requests site before ++ r ∷ []))
            ≡ length (filter (is_early (tick_of before)) (requests site before)) + 1 =
            ap length second ∙ length-append (filter (is_early (tick_of before)) (requests site before)) (r ∷ []) in
            let kept_so = length-map old.asked.items request_from in
            let here = ap length h.asked in
            omega (arith, all, most, first, more, kept_so, here)

    -- it was asked for
    pub desk_asked : (new : Desk) → Asks panel level operation old new → DesksFor site kept (Happened event ∷ before) new
    desk_asked new a =
        record {
          number = a.number ∙ ap (λ n. n + 1) h.number ∙ sym (ap length asked ∙ length-append (requests site before) (r ∷ []));
          counts = counts_then;
          asked = asked_then;
          outcomes =
              record {
                now = ap (λ t. t.0) a.tick ∙ h.outcomes.now;
                unsettled =
                    record {
                      waiting_is = ap (λ w. requests_from w.items) a.waiting ∙ h.outcomes.unsettled.waiting_is;
                      older = h.outcomes.unsettled.older;
                      done_is =
                          h.outcomes.unsettled.done_is ∙ ap (λ d. with_done (tick_of before) d.items h.outcomes.unsettled.older) (sym a.done);
                      earlier = h.outcomes.unsettled.earlier;
                    };
                ops = ap (λ x. x.ops) a.answers ∙ h.outcomes.ops ∙ ap (filter_map told_answer) (sym given_then);
                few =
                    (let one = ap (λ d. length d.items) a.done in
                    let two = ap (λ x. length x.ops) a.answers in
                    let three = h.outcomes.few in
                    omega (arith, one, two, three));
              };
          busy = λ q p. ap (λ x. slice_index x.busy (q - 1)) a.answers ∙ h.busy q p ∙ ap (busy_count q) (sym given_then);
          idle = λ q p e. ap (λ x. slice_index x.busy (q - 1)) a.answers ∙ h.idle q p e;
          failed = ap (λ x. x.failed) a.answers ∙ h.failed;
          sized = (
            ap length a.counts ∙ length-set old.counts (panel - 1) (slice_index old.counts (panel - 1) + 1) ∙ h.sized.0,
            ap (λ x. length x.busy) a.answers ∙ h.sized.1,
          );
        }
      where
        given_then : given_in site kept (tick_of before) (operations site kept before).answers (requests site (Happened event ∷ before))
            ≡ given_in site kept (tick_of before) (operations site kept before).answers (requests site before)
        given_then = ap (given_in site kept (tick_of before) (operations site kept before).answers) asked ∙ same_given site kept before r refl

        mine_more : (q : ℕ) → requests_in q (tick_of before) (requests site (Happened event ∷ before))
            ≡ requests_in q (tick_of before) (requests site before) ++ (if panel == q then r ∷ [] else [])
        mine_more q =
            ap (requests_in q (tick_of before)) asked
            ∙ filter-append (λ (x : RequestOf). (x.panel == q) && (x.tick == tick_of before)) (requests site before) (r ∷ [])
            ∙ ap (λ b. requests_in q (tick_of before) (requests site before) ++ (if (panel == q) && b then r ∷ [] else [])) at_once
            ∙ ap (λ b. requests_in q (tick_of before) (requests site before) ++ (if b then r ∷ [] else [])) (and_true (panel == q))

        counts_then : (q : ℕ) → IsPanelNumber q
            → slice_index new.counts (q - 1) ≡ length (requests_in q (tick_of before) (requests site (Happened event ∷ before)))
        counts_then q p =
            ap (λ xs. slice_index xs (q - 1)) a.counts ∙ elim (eqb_tells panel q) [
              | inl t ↦
                  subst
                  (λ n. slice_index (slice_set old.counts (panel - 1) (slice_index old.counts (panel - 1) + 1)) (n - 1)
                  ≡ length (requests_in n (tick_of before) (requests site (Happened event ∷ before)))) t.1
                  (get_or-set_same old.counts (panel - 1) (slice_index old.counts (panel - 1) + 1) 0
                  (let o = own in let l = h.sized.0 in omega (arith, o.0, o.1, l)) ∙ ap (λ n. n + 1) (h.counts panel own)
                  ∙ sym (ap length (mine_more panel) ∙ ap (λ b. length (requests_in panel (tick_of before) (requests site before)
                  ++ (if b then r ∷ [] else []))) (eq_true panel panel refl)
                  ∙ length-append (requests_in panel (tick_of before) (requests site before)) (r ∷ [])))
              | inr t ↦
                  get_or-set_other old.counts (panel - 1) (q - 1) (slice_index old.counts (panel - 1) + 1) 0
                  (λ e. t.1 (let o = own in omega (arith, e, o.0, p.0))) ∙ h.counts q p
                  ∙ sym (ap length (mine_more q) ∙ ap (λ b. length (requests_in q (tick_of before) (requests site before)
                  ++ (if b then r ∷ [] else []))) t.0 ∙ ap length (append-nil (requests_in q (tick_of before) (requests site before))))
            ]

        asked_then : requests_from new.asked.items ≡ filter (is_early (tick_of before)) (requests site (Happened event ∷ before))
        asked_then =
            ap requests_from a.asked
            ∙ by_count (nat_lt (slice_index old.counts (panel - 1)) most_operations)
            (ap (λ n. nat_lt n most_operations) (sym (h.counts panel own)))
            ∙ sym (ap (filter (is_early (tick_of before))) asked ∙ early_more)
          where
            by_count : (b : Bool) → nat_lt (length (requests_in panel (tick_of before) (requests site before))) most_operations ≡ b
                → requests_from (if b then old.asked.items ++ asked_now panel level operation old ∷ [] else old.asked.items)
                ≡ filter (is_early (tick_of before)) (requests site before)
                ++ (if nat_lt (length (requests_in panel (tick_of before) (requests site before))) most_operations then r ∷ [] else [])
            by_count true e =
                map-append request_from old.asked.items (asked_now panel level operation old ∷ [])
                ∙ ap (λ xs. xs ++ request_from (asked_now panel level operation old) ∷ []) h.asked
                ∙ ap (λ x. filter (is_early (tick_of before)) (requests site before) ++ x ∷ []) same_request
                ∙ ap (λ b. filter (is_early (tick_of before)) (requests site before) ++ (if b then r ∷ [] else [])) (sym e)
            by_count false e =
                h.asked ∙ sym (append-nil (filter (is_early (tick_of before)) (requests site before)))
                ∙ ap (λ b. filter (is_early (tick_of before)) (requests site before) ++ (if b then r ∷ [] else [])) (sym e)

-- it is at a panel of the site
pub own_panel : (site : Site) (before : List Moment) (event : Event) (x : RequestOf)
    → requests site (Happened event ∷ before) ≡ requests site before ++ x ∷ [] → IsValid site → AreOfSite site (Happened event ∷ before)
    → IsPanelNumber x.panel
own_panel site before event x asked valid of =
    let is = ap (λ xs. slice_get xs (0 + length (requests site before))) asked ∙ get_behind (requests site before) (x ∷ []) 0 in
    let p = (of (0 + length (requests site before)) x is).0 in
    let few = valid.forms.panels.1 in
    (p.0, omega (arith, p.1, few))
