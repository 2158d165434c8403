-- Each operation is answered once, in its tick or the one after.
use Rattle.std.proofs.Common.{◌≡◌, ℕ, suc, ◌+◌, ◌≤◌, ◌<◌, List, [], ◌∷◌, ◌++◌, Option, Some, None, slice_get, inl, inr, Bool, true, false, not, ◌==◌, ◌&&◌, refl, sym, ◌∙◌, ap, subst, arith}
use Rattle.std.specs.Prelude.{option_map, nat_lt}
use Rattle.std.specs.List.{AllByRecursion}
use Rattle.std.proofs.lemmas.Bool.Decides.{eqb_tells}
use Rattle.tick_units.specs.declared.task.Task.{Task}
use Rattle.tick_units.specs.declared.task.Task.TheVariants.{Desk}
use Rattle.site_types.specs.declared.event.Event.TheVariants.{Op, Point, Cable, Supply, Link, Confirmed}
use Rattle.site_types.specs.declared.retained.Retained.{Retained}
use Rattle.site_types.specs.declared.site.Site.{Site}
use Rattle.site_types.proofs.Done.{lt_false, lt_true}
use Rattle.access_levels.specs.Levels.{level_of}
use Rattle.panel_rules.specs.Moments.{Moment, Began, Happened, Turned, Kept, tick_of, has_turned, has_kept, is_fresh, IsRun, IsPanel}
use Rattle.panel_rules.specs.Operations.{Request, Reply, Answered, Operations, requests_in, request_of, requests}
use Rattle.panel_rules.specs.Operations.{after_reply, desk_reply, after_request, after_desk, keep_reply, answer_all}
use Rattle.panel_rules.specs.Operations.{operations}
use Rattle.panel_laws.specs.OperationLaws.{AnsweredOnce, AnswersAreToRequests, AnsweredByTheNextTick}
use Rattle.panel_rules.proofs.Bools.{both, parts}
use Rattle.panel_rules.proofs.Places.{get_front}
use Rattle.panel_rules.proofs.AnswersTell.{eq_true}
use Rattle.panel_rules.proofs.Counting.{one, count, count-append, count-none, count-some, counted, one_place, each_at, each_by, each_to, each_more, each_filtered}
use Rattle.panel_rules.proofs.Answering.{times, times_desk, times_keep, numbered_by_place}
use Rattle.panel_rules.proofs.OpenRequests.{is_open, desk_takes, answered_few}

pub eq_is : (a b : ℕ) → (a == b) ≡ true → a ≡ b
eq_is a b t = elim (eqb_tells a b) [ inl h ↦ h.1 | inr h ↦ (let e = sym t ∙ h.0 in absurd cc) ]

-- ---- at most one

-- a list that is numbered by places has each number once
pub numbered_once : (n : ℕ) (rs : List Request) (past : ℕ) → ((k : ℕ) (r : Request) → slice_get rs k ≡ Some r → r.number ≡ past + k + 1)
    → count (λ (r : Request). r.number == n) rs ≤ 1
numbered_once n [] past h = omega arith
numbered_once n (r ∷ rs) past h =
    elim (eqb_tells r.number n) [
      | inl t ↦
          (let z =
          count-none (λ (x : Request). x.number == n) rs
          (each_by _ rs (λ k x e. (let far = h (suc k) x e in let here = h 0 r refl in let same =
          t.1 in differs x.number n (omega (arith, far, here, same))))) in rw t.0 (omega (arith, z)))
      | inr t ↦ (let ih = numbered_once n rs (past + 1) (λ k x e. (let far = h (suc k) x e in omega (arith, far))) in rw t.0 (omega (arith, ih)))
    ]
  where
    differs : (a b : ℕ) → b < a → (a == b) ≡ false
    differs a b l = elim (eqb_tells a b) [ inl t ↦ (let e = t.1 in absurd (omega (arith, e, l))) | inr t ↦ t.0 ]

few_answers : (site : Site) (kept : Retained) (moments : List Moment) (n : ℕ) → IsRun site.panels moments
    → count (λ (x : Answered). x.request.number == n) (operations site kept moments).answers ≤ 1
few_answers site kept moments n run =
    let h = answered_few site kept (λ (r : Request). r.number == n) moments run in
    let l = numbered_once n (requests site moments) 0 (λ k r e. (let m = numbered_by_place site moments k r e in omega (arith, m))) in
    omega (arith, h, l)

pub answered_once : AnsweredOnce
answered_once site kept moments i j a b run is is' same =
    one_place (λ (x : Answered). x.request.number == a.request.number) (operations site kept moments).answers i j a b
    (few_answers site kept moments a.request.number run) is is' (eq_true a.request.number a.request.number refl)
    (eq_true b.request.number a.request.number (sym same))

-- ---- what is answered was asked for

pub record IsAsked (asked : List Request) (r : Request) : Type 0 where
  pub place : ℕ
  pub is : slice_get asked place ≡ Some r

abbrev pub owed : Bool → ℕ
owed true = 0
owed false = 1

-- an answer to one that was asked for, and one that waits
pub record Fits (asked : List Request) (a : Answered) : Type 0 where
  pub from : IsAsked asked a.request
  pub after : a.request.tick ≤ a.tick
  pub soon : a.tick ≤ a.request.tick + 1

pub record Waits (asked : List Request) (tick : ℕ) (turned : Bool) (r : Request) : Type 0 where
  pub from : IsAsked asked r
  pub by : r.tick ≤ tick
  pub soon : tick ≤ r.tick + owed turned

pub record AreSound (asked : List Request) (tick : ℕ) (turned : Bool) (so_far : Operations) : Type 0 where
  pub answers : AllByRecursion (Fits asked) so_far.answers
  pub waiting : AllByRecursion (Waits asked tick turned) so_far.waiting

-- as more is asked for
grown : (asked : List Request) (r x : Request) → IsAsked asked r → IsAsked (asked ++ x ∷ []) r
grown asked r x h = record { place = h.place; is = get_front asked (x ∷ []) h.place r h.is }

sound_grown : (asked : List Request) (x : Request) (tick : ℕ) (turned : Bool) (so_far : Operations) → AreSound asked tick turned so_far
    → AreSound (asked ++ x ∷ []) tick turned so_far
sound_grown asked x tick turned so_far h = record {
  answers =
      each_to (Fits asked) (Fits (asked ++ x ∷ [])) so_far.answers (λ a f. record {
        from = grown asked a.request x f.from;
        after = f.after;
        soon =
            f.soon;
      }) h.answers;
  waiting =
      each_to (Waits asked tick turned) (Waits (asked ++ x ∷ []) tick turned) so_far.waiting (λ r w. record {
        from = grown asked r x w.from;
        by =
            w.by;
        soon = w.soon;
      }) h.waiting;
}

-- Desk's turn takes those of its tick
record IsNow (asked : List Request) (tick : ℕ) (r : Request) : Type 0 where
  from : IsAsked asked r
  same : r.tick ≡ tick

sound_reply : (asked : List Request) (tick : ℕ) (turned : Bool) (r : Request) (so_far : Operations) (reply : Option Reply) → IsNow asked tick r
    → AreSound asked tick turned so_far → AreSound asked tick turned (after_reply r so_far reply)
sound_reply asked tick turned r so_far None here h = record {
  answers = h.answers;
  waiting =
      each_more (Waits asked tick turned) so_far.waiting r h.waiting (record {
        from = here.from;
        by = (let e = here.same in omega (arith, e));
        soon =
            (let e = here.same in omega (arith, e));
      });
}
sound_reply asked tick turned r so_far (Some reply) here h =
    record { answers = (record { from = here.from; after = omega arith; soon = omega arith }, h.answers); waiting = h.waiting }

sound_desk : (site : Site) (kept : Retained) (asked : List Request) (tick : ℕ) (turned : Bool) (taken : List Request) (so_far : Operations)
    → AllByRecursion (IsNow asked tick) taken → AreSound asked tick turned so_far → AreSound asked tick turned (after_desk site kept taken so_far)
sound_desk site kept asked tick turned [] so_far all h = h
sound_desk site kept asked tick turned (r ∷ taken) so_far all h =
    sound_desk site kept asked tick turned taken (after_request site kept so_far r) all.1
    (sound_reply asked tick turned r so_far (desk_reply site kept r so_far) all.0 h)

taken_now : (asked : List Request) (panel tick : ℕ) → AllByRecursion (IsNow asked tick) (requests_in panel tick asked)
taken_now asked panel tick =
    each_filtered (IsNow asked tick) (λ (r : Request). (r.panel == panel) && (r.tick == tick)) asked
    (λ k r is t. record { from = record { place = k; is = is }; same = eq_is r.tick tick (parts (r.panel == panel) (r.tick == tick) t).1 })

sound_all : (asked : List Request) (tick : ℕ) (turned failed : Bool) (waiting : List Request) (answers : List Answered)
    → AllByRecursion (Waits asked tick turned) waiting → AllByRecursion (Fits asked) answers
    → AllByRecursion (Fits asked) (answer_all tick failed waiting answers)
sound_all asked tick turned failed [] answers all h = h
sound_all asked tick turned failed (r ∷ waiting) answers all h =
    sound_all asked tick turned failed waiting (record { request = r; tick = tick; reply = keep_reply failed } ∷ answers) all.1
    (record { from = all.0.from; after = all.0.by; soon = soon turned all.0.soon }, h)
  where
    soon : (turned : Bool) → tick ≤ r.tick + owed turned → tick ≤ r.tick + 1
    soon true l = omega (arith, l)
    soon false l = omega (arith, l)

sound_began : (asked : List Request) (tick : ℕ) (turned : Bool) (so_far : Operations) → turned ≡ true → AreSound asked tick turned so_far
    → AreSound asked (tick + 1) false so_far
sound_began asked tick true so_far t h = record {
  answers = h.answers;
  waiting =
      each_to (Waits asked tick true) (Waits asked (tick + 1) false) so_far.waiting
      (λ r w. (let b = w.by in let s = w.soon in record { from = w.from; by = omega (arith, b); soon = omega (arith, s) })) h.waiting;
}
sound_began asked tick false so_far t h = absurd cc

pub sound : (site : Site) (kept : Retained) (moments : List Moment) → IsRun site.panels moments
    → AreSound (requests site moments) (tick_of moments) (has_kept moments) (operations site kept moments)
sound site kept [] run = record { answers = tt; waiting = tt }
sound site kept (Began ∷ before) run =
    sound_began (requests site before) (tick_of before) (has_kept before) (operations site kept before) run.1.keep (sound site kept before run.0)
sound site kept (Happened (Op panel code operation) ∷ before) run =
    sound_grown (requests site before) (request_of (tick_of before) panel (level_of site (option_map (λ label. label.bytes) code)) operation
    (requests site before)) (tick_of before) (has_kept before) (operations site kept before) (sound site kept before run.0)
sound site kept (Happened (Point point state) ∷ before) run = let h = sound site kept before run.0 in
    record { answers = h.answers; waiting = h.waiting }
sound site kept (Happened (Cable panel line piece state) ∷ before) run = let h = sound site kept before run.0 in
    record { answers = h.answers; waiting = h.waiting }
sound site kept (Happened (Supply panel kind bad) ∷ before) run = let h = sound site kept before run.0 in
    record { answers = h.answers; waiting = h.waiting }
sound site kept (Happened (Link link up) ∷ before) run = let h = sound site kept before run.0 in record { answers = h.answers; waiting = h.waiting }
sound site kept (Happened (Confirmed output) ∷ before) run = let h = sound site kept before run.0 in
    record { answers = h.answers; waiting = h.waiting }
sound site kept (Turned panel Desk ∷ before) run =
    sound_desk site kept (requests site before) (tick_of before) (has_kept before) (requests_in panel (tick_of before) (requests site before))
    (operations site kept before) (taken_now (requests site before) panel (tick_of before)) (sound site kept before run.0)
sound site kept (Turned panel task ∷ before) run = let h = sound site kept before run.0 in record { answers = h.answers; waiting = h.waiting }
sound site kept (Kept failed ∷ before) run =
    let h = sound site kept before run.0 in
    record {
      answers =
          sound_all (requests site before) (tick_of before) (has_kept before) failed (operations site kept before).waiting
          (operations site kept before).answers h.waiting h.answers;
      waiting = tt;
    }

pub answers_are_to : AnswersAreToRequests
answers_are_to site kept moments i a run is =
    let f = each_at (Fits (requests site moments)) (operations site kept moments).answers i a (sound site kept moments run).answers is in
    record { place = f.from.place; asked = f.from.is; after = f.after; soon = f.soon }

-- ---- one by the end of the tick after

fresh_owes : (panel : ℕ) (task : Task) (moments : List Moment) → is_fresh moments ≡ true → has_turned panel task moments ≡ false
fresh_owes panel task [] f = absurd cc
fresh_owes panel task (Began ∷ before) f = refl
fresh_owes panel task (Happened event ∷ before) f = fresh_owes panel task before f
fresh_owes panel task (Turned other_panel other ∷ before) f = absurd cc
fresh_owes panel task (Kept failed ∷ before) f = absurd cc

closed : (b c turned : Bool) → (b ≡ true → turned ≡ true) → (b && (c && not turned)) ≡ false
closed true true true f = refl
closed true true false f = absurd (let e = f refl in cc)
closed true false turned f = refl
closed false c turned f = refl

stays_open : (b c turned : Bool) → c ≡ true → turned ≡ false → one b ≤ one (b && (c && not turned))
stays_open true true false e f = omega arith
stays_open true true true e f = cc
stays_open true false turned e f = cc
stays_open false c turned e f = omega arith

module _ (site : Site) (kept : Retained) (test : Request → Bool) where
  -- those that pass the test are of panels of the site
  abbrev AreOfPanels : List Request → Type 0
  AreOfPanels asked = (k : ℕ) (r : Request) → slice_get asked k ≡ Some r → test r ≡ true → IsPanel site.panels r.panel

  -- what is not open was answered, or waits
  answered_many : (moments : List Moment) → IsRun site.panels moments → AreOfPanels (requests site moments)
      → count test (requests site moments) ≤ times test (operations site kept moments) + count (is_open test moments) (requests site moments)
  answered_many [] run of = omega arith
  answered_many (Began ∷ before) run of =
      let ih = answered_many before run.0 of in
      let z =
      count-none (is_open test before) (requests site before)
      (each_by (λ (r : Request). is_open test before r ≡ false) (requests site before)
      (λ k r e. closed (test r) (r.tick == tick_of before) (has_turned r.panel Desk before) (λ t. run.1.each r.panel Desk (of k r e t) tt))) in
      omega (arith, ih, z)
  answered_many (Happened (Op panel code operation) ∷ before) run of =
      let r = request_of (tick_of before) panel (level_of site (option_map (λ label. label.bytes) code)) operation (requests site before) in
      let ih = answered_many before run.0 (λ k x e t. of k x (get_front (requests site before) (r ∷ []) k x e) t) in
      let a = count-append test (requests site before) (r ∷ []) in
      let o = count-append (is_open test before) (requests site before) (r ∷ []) in
      let l = stays_open (test r) (r.tick == tick_of before) (has_turned r.panel Desk before) (eq_true (tick_of before) (tick_of before) refl)
      (fresh_owes panel Desk before run.1) in
      omega (arith, ih, a, o, l)
  answered_many (Happened (Point point state) ∷ before) run of = answered_many before run.0 of
  answered_many (Happened (Cable panel line piece state) ∷ before) run of = answered_many before run.0 of
  answered_many (Happened (Supply panel kind bad) ∷ before) run of = answered_many before run.0 of
  answered_many (Happened (Link link up) ∷ before) run of = answered_many before run.0 of
  answered_many (Happened (Confirmed output) ∷ before) run of = answered_many before run.0 of
  answered_many (Turned panel Desk ∷ before) run of =
      let ih = answered_many before run.0 of in
      let t = times_desk test site kept (requests_in panel (tick_of before) (requests site before)) (operations site kept before) in
      let o = desk_takes site test panel before run.1 in
      omega (arith, ih, t, o)
  answered_many (Turned panel task ∷ before) run of = answered_many before run.0 of
  answered_many (Kept failed ∷ before) run of =
      let ih = answered_many before run.0 of in
      let t = times_keep test (tick_of before) failed (operations site kept before) in
      omega (arith, ih, t)

-- two that have one number are one
pub same_request : (site : Site) (moments : List Moment) (i j : ℕ) (r x : Request) → slice_get (requests site moments) i ≡ Some r
    → slice_get (requests site moments) j ≡ Some x → r.number ≡ x.number → r ≡ x
same_request site moments i j r x is is' same =
    let a = numbered_by_place site moments i r is in
    let b = numbered_by_place site moments j x is' in
    let places : i ≡ j = omega (arith, a, b, same) in
    some_same (sym is ∙ ap (λ k. slice_get (requests site moments) k) places ∙ is')
  where
    some_same : {a b : Request} → Some a ≡ Some b → a ≡ b
    some_same e = cc

abbrev past_test : ℕ → ℕ → Request → Bool
past_test n tick r = (r.number == n) && nat_lt r.tick tick

and_no : (b c : Bool) → c ≡ false → (b && c) ≡ false
and_no true c e = e
and_no false c e = refl

and_no_left : (b c : Bool) → b ≡ false → (b && c) ≡ false
and_no_left true c e = cc
and_no_left false c e = refl

past_closed : (n tick : ℕ) (r : Request) (c : Bool) → (past_test n tick r && ((r.tick == tick) && c)) ≡ false
past_closed n tick r c =
    elim (eqb_tells r.tick tick) [
      | inl h ↦
          and_no_left (past_test n tick r) _ (and_no (r.number == n) (nat_lt r.tick tick) (lt_false r.tick tick (let e = h.1 in omega (arith, e))))
      | inr h ↦ and_no (past_test n tick r) _ (and_no_left (r.tick == tick) c h.0)
    ]

late_waits : (n tick : ℕ) (turned : Bool) (r : Request) → turned ≡ true → tick ≤ r.tick + owed turned → past_test n tick r ≡ false
late_waits n tick true r t l = and_no (r.number == n) (nat_lt r.tick tick) (lt_false r.tick tick (omega (arith, l)))
late_waits n tick false r t l = absurd cc

pub answered_by : AnsweredByTheNextTick
answered_by site kept moments place request run turned is panel earlier =
    let n = request.number in
    let tick = tick_of moments in
    let whole = sound site kept moments run in
    let found = counted (λ (a : Answered). past_test request.number (tick_of moments) a.request) (operations site kept moments).answers some_answer in
    let fits = each_at (Fits (requests site moments)) (operations site kept moments).answers found.place found.item whole.answers found.is in
    record {
      place = found.place;
      answer = found.item;
      is = found.is;
      to = same_request site moments fits.from.place place found.item.request request fits.from.is is (eq_is found.item.request.number request.number (parts _ _ found.passes).0);
    }
  where
    some_answer : 1 ≤ count (λ (a : Answered). past_test request.number (tick_of moments) a.request) (operations site kept moments).answers
    some_answer =
        let asked =
        count-some (past_test request.number (tick_of moments)) (requests site moments) place request is
        (both (request.number == request.number) (nat_lt request.tick (tick_of moments)) (eq_true request.number request.number refl)
        (lt_true request.tick (tick_of moments) earlier)) in
        let many =
        answered_many site kept (past_test request.number (tick_of moments)) moments run
        (λ k r e t. subst (λ (x : Request). IsPanel site.panels x.panel)
        (same_request site moments place k request r is e
        (sym (eq_is r.number request.number (parts (r.number == request.number) (nat_lt r.tick (tick_of moments)) t).0))) panel) in
        let none =
        count-none (is_open (past_test request.number (tick_of moments)) moments) (requests site moments)
        (each_by (λ (r : Request). is_open (past_test request.number (tick_of moments)) moments r ≡ false) (requests site moments)
        (λ k r e. past_closed request.number (tick_of moments) r (not (has_turned r.panel Desk moments)))) in
        let waits =
        count-none (past_test request.number (tick_of moments)) (operations site kept moments).waiting
        (each_to (Waits (requests site moments) (tick_of moments) (has_kept moments)) _ (operations site kept moments).waiting
        (λ r w. late_waits request.number (tick_of moments) (has_kept moments) r turned w.soon) (sound site kept moments run).waiting) in
        omega (arith, asked, many, none, waits)
