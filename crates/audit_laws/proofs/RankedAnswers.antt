-- The answers of a run that tell a silence or a resound of a panel done are given by number.
use Rattle.std.proofs.Common.{◌≡◌, ℕ, zero, suc, ◌+◌, ◌≤◌, ◌<◌, ◌==◌, ◌&&◌, Bool, true, false, List, [], ◌∷◌, length, Option, Some, None}
use Rattle.std.proofs.Common.{slice_get, filter, if◌then◌else◌, inl, inr, refl, sym, ◌∙◌, ap, arith}
use Rattle.std.specs.List.{AllByRecursion}
use Rattle.tick_units.specs.declared.task.Task.TheVariants.{Desk}
use Rattle.site_types.specs.declared.event.Event.TheVariants.{Op}
use Rattle.site_types.specs.declared.operation.Operation.{Operation}
use Rattle.site_types.specs.declared.operation.Operation.TheVariants.{Silence, Resound}
use Rattle.site_types.specs.declared.retained.Retained.{Retained}
use Rattle.site_types.specs.declared.site.Site.{Site}
use Rattle.site_types.specs.Done.{Setting, operation_setting}
use Rattle.panel_rules.specs.Moments.{IsRun, Moment, Began, Happened, Turned, Kept, has_turned, tick_of}
use Rattle.panel_rules.specs.Operations.{Answered, Operations, Reply, Request, after_desk, after_reply, after_request, answer_all}
use Rattle.panel_rules.specs.Operations.{desk_reply, keep_reply, operations, requests, requests_in}
use Rattle.panel_rules.proofs.Answering.{numbered_by_place}
use Rattle.panel_rules.proofs.AnswersTell.{eq_true}
use Rattle.panel_rules.proofs.Bools.{parts}
use Rattle.panel_rules.proofs.Counting.{each_at, each_by, each_filtered, each_more, each_to}
use Rattle.panel_rules.proofs.Places.{get_either}
use Rattle.panel_laws.proofs.AnswerLaws.{answers_are_to, eq_is, owed}
use Rattle.panel_laws.proofs.DeskOutcomes.{Outcome, at_once, goes_on, outcome, told}
use Rattle.audit_laws.proofs.Silences.{AreRanked, is_word, says}

-- ---- operations that are asked for in later ticks have greater numbers

single : (x r : Request) (k : ℕ) → slice_get (x ∷ []) k ≡ Some r → (k ≡ 0) × (x ≡ r)
single x r zero is = (refl, cc)
single x r (suc k) is = cc

asked_in_time : (site : Site) (m : List Moment) (k : ℕ) (r : Request) → slice_get (requests site m) k ≡ Some r → r.tick ≤ tick_of m
asked_in_time site [] k r is = cc
asked_in_time site (Began ∷ before) k r is = let ih = asked_in_time site before k r is in omega (arith, ih)
asked_in_time site (Happened (Op panel code operation) ∷ before) k r is =
    elim (get_either (requests site before) _ k r is) [
      | inl g ↦ asked_in_time site before k r g
      | inr g ↦ (let one = single _ r g.place g.is in let ticks = ap (λ (y : Request). y.tick) one.1 in omega (arith, ticks))
    ]
asked_in_time site (Happened event ∷ before) k r is = asked_in_time site before k r is
asked_in_time site (Turned panel task ∷ before) k r is = asked_in_time site before k r is
asked_in_time site (Kept failed ∷ before) k r is = asked_in_time site before k r is

got_few : (xs : List Request) (k : ℕ) (x : Request) → slice_get xs k ≡ Some x → k < length xs
got_few [] k x h = cc
got_few (y ∷ xs) zero x h = omega arith
got_few (y ∷ xs) (suc k) x h = let ih = got_few xs k x h in omega (arith, ih)

places_rise : (site : Site) (m : List Moment) (i j : ℕ) (r s : Request) → slice_get (requests site m) i ≡ Some r
    → slice_get (requests site m) j ≡ Some s → r.tick < s.tick → i < j
places_rise site [] i j r s is also l = cc
places_rise site (Began ∷ before) i j r s is also l = places_rise site before i j r s is also l
places_rise site (Happened (Op panel code operation) ∷ before) i j r s is also l =
    elim (get_either (requests site before) _ i r is) [
      | inl g ↦
          elim (get_either (requests site before) _ j s also) [
            | inl h ↦ places_rise site before i j r s g h l
            | inr h ↦ (let few = got_few (requests site before) i r g in let far = h.far in omega (arith, few, far))
          ]
      | inr g ↦
          (let one = single _ r g.place g.is in
          let ticks = ap (λ (y : Request). y.tick) one.1 in
          let by = asked_in_time site (Happened (Op panel code operation) ∷ before) j s also in
          absurd (omega (arith, ticks, by, l)))
    ]
places_rise site (Happened event ∷ before) i j r s is also l = places_rise site before i j r s is also l
places_rise site (Turned panel task ∷ before) i j r s is also l = places_rise site before i j r s is also l
places_rise site (Kept failed ∷ before) i j r s is also l = places_rise site before i j r s is also l

pub numbers_rise : (site : Site) (m : List Moment) (i j : ℕ) (r s : Request) → slice_get (requests site m) i ≡ Some r
    → slice_get (requests site m) j ≡ Some s → r.tick < s.tick → r.number < s.number
numbers_rise site m i j r s is also l =
    let places = places_rise site m i j r s is also l in
    let one = numbered_by_place site m i r is in
    let two = numbered_by_place site m j s also in
    omega (arith, places, one, two)

-- ---- in order of numbers

abbrev pub Ascend : List Request → Type 0
Ascend [] = Unit {0}
Ascend (r ∷ rs) = AllByRecursion (λ (s : Request). r.number < s.number) rs × Ascend rs

pub ascend_by : (rs : List Request) (past : ℕ) → ((k : ℕ) (r : Request) → slice_get rs k ≡ Some r → r.number ≡ past + k + 1) → Ascend rs
ascend_by [] past numbered = tt
ascend_by (r ∷ rs) past numbered = (
  each_by (λ (s : Request). r.number < s.number) rs
      (λ k s is. (let far = numbered (suc k) s is in let here = numbered 0 r refl in omega (arith, far, here))),
  ascend_by rs (past + 1) (λ k s is. (let far = numbered (suc k) s is in omega (arith, far))),
)

kept_some : (P : Request → Type 0) (test : Request → Bool) (rs : List Request) → AllByRecursion P rs → AllByRecursion P (filter test rs)
kept_some P test rs all = each_filtered P test rs (λ k r is t. each_at P rs k r all is)

ascend_filtered : (test : Request → Bool) (rs : List Request) → Ascend rs → Ascend (filter test rs)
ascend_filtered test [] h = tt
ascend_filtered test (r ∷ rs) h = by (test r) (ascend_filtered test rs h.1)
  where
    by : (b : Bool) → Ascend (filter test rs) → Ascend (if b then r ∷ filter test rs else filter test rs)
    by true ih = (kept_some (λ (s : Request). r.number < s.number) test rs h.0, ih)
    by false ih = ih

-- ---- what is on a setting is no silence or resound

no_word : (panel : ℕ) (op : Operation) (setting : Setting) → operation_setting panel op ≡ Some setting → is_word op ≡ false
no_word panel Silence setting e = cc
no_word panel Resound setting e = cc
no_word panel op setting e = refl

module _ (panel : ℕ) where
  abbrev Quiet : Request → Type 0
  Quiet r = is_word r.operation ≡ false

  of_panel : (a : Answered) → says panel a ≡ true → (a.request.panel == panel) ≡ true
  of_panel a t = (parts _ _ (parts _ _ t).1).0

  never : (a : Answered) → is_word a.request.operation ≡ false → says panel a ≡ true → ⊥
  never a quiet t = let e = sym quiet ∙ (parts _ _ (parts _ _ t).1).1 in cc

  -- all of an operation's panel that say it were given to lesser numbers
  abbrev Exceeds : List Answered → Request → Type 0
  Exceeds answers r = (r.panel == panel) ≡ true → AllByRecursion (λ (b : Answered). says panel b ≡ true → b.request.number < r.number) answers

  exceeds_more : (a : Answered) (answers : List Answered) (rs : List Request) → AllByRecursion (λ (s : Request). a.request.number < s.number) rs
      → AllByRecursion (Exceeds answers) rs → AllByRecursion (Exceeds (a ∷ answers)) rs
  exceeds_more a answers [] less all = tt
  exceeds_more a answers (r ∷ rs) less all = ((λ own. ((λ t. less.0), all.0 own)), exceeds_more a answers rs less.1 all.1)

  abbrev Early : ℕ → ℕ → Answered → Type 0
  Early tick owing b = says panel b ≡ true → b.request.tick + owing ≤ tick

  record Stands (tick owing : ℕ) (so_far : Operations) : Type 0 where
    ranked : AreRanked panel so_far.answers
    early : AllByRecursion (Early tick owing) so_far.answers
    same : AllByRecursion (λ (b : Answered). says panel b ≡ true → b.tick ≡ b.request.tick) so_far.answers
    quiet : AllByRecursion Quiet so_far.waiting

  quiet_reply : (r : Request) (so_far : Operations) (reply : Option Reply) → Outcome r reply → AllByRecursion Quiet so_far.waiting
      → AllByRecursion Quiet (after_reply r so_far reply).waiting
  quiet_reply r so_far reply (told answer by same) all = all
  quiet_reply r so_far reply (at_once none) all = all
  quiet_reply r so_far reply (goes_on setting is) all = each_more Quiet so_far.waiting r all (no_word r.panel r.operation setting is)

  module _ (site : Site) (kept : Retained) (tick owing : ℕ) where
    abbrev InTime : Request → Type 0
    InTime r = (r.panel == panel) ≡ true → r.tick + owing ≤ tick

    one_desk : (r : Request) (rs : List Request) (so_far : Operations) (reply : Option Reply) → Outcome r reply
        → AllByRecursion (λ (s : Request). r.number < s.number) rs → Exceeds so_far.answers r → AllByRecursion (Exceeds so_far.answers) rs → InTime r
        → Stands tick owing so_far → Stands tick owing (after_reply r so_far reply) × AllByRecursion (Exceeds (after_reply r so_far reply).answers) rs
    one_desk r rs so_far None o less own others time h =
        (record { ranked = h.ranked; early = h.early; same = h.same; quiet = quiet_reply r so_far None o h.quiet }, others)
    one_desk r rs so_far (Some reply) o less own others time h = (
      record {
        ranked = ((λ t. own (of_panel (record { request = r; tick = r.tick; reply = reply }) t)), h.ranked);
        early = ((λ t. time (of_panel (record { request = r; tick = r.tick; reply = reply }) t)), h.early);
        same = ((λ t. refl), h.same);
        quiet = h.quiet;
      },
      exceeds_more (record { request = r; tick = r.tick; reply = reply }) so_far.answers rs less others,
    )

    all_desk : (rs : List Request) (so_far : Operations) → Ascend rs → AllByRecursion (Exceeds so_far.answers) rs → AllByRecursion InTime rs
        → Stands tick owing so_far → Stands tick owing (after_desk site kept rs so_far)
    all_desk [] so_far asc exceed time h = h
    all_desk (r ∷ rs) so_far asc exceed time h =
        let g =
        one_desk r rs so_far (desk_reply site kept r so_far) (outcome site kept r so_far) asc.0 exceed.0 exceed.1 time.0 h in
        all_desk rs (after_request site kept so_far r) asc.1 g.1 time.1 g.0

  record AreKept (tick owing : ℕ) (answers : List Answered) : Type 0 where
    ranked : AreRanked panel answers
    early : AllByRecursion (Early tick owing) answers
    same : AllByRecursion (λ (b : Answered). says panel b ≡ true → b.tick ≡ b.request.tick) answers

  all_kept : (tick owing : ℕ) (failed : Bool) (waiting : List Request) (answers : List Answered) → AllByRecursion Quiet waiting
      → AreKept tick owing answers → AreKept tick owing (answer_all tick failed waiting answers)
  all_kept tick owing failed [] answers all h = h
  all_kept tick owing failed (r ∷ waiting) answers all h =
      let a : Answered = record { request = r; tick = tick; reply = keep_reply failed } in
      let no_says : says panel a ≡ true → ⊥ = λ t. never (record { request = r; tick = tick; reply = keep_reply failed }) all.0 t in
      all_kept tick owing failed waiting (record { request = r; tick = tick; reply = keep_reply failed } ∷ answers) all.1
      (record {
        ranked = ((λ t. absurd (no_says t)), h.ranked);
        early = ((λ t. absurd (no_says t)), h.early);
        same = ((λ t. absurd (no_says t)), h.same);
      })

  sooner : (tick more owing less : ℕ) (answers : List Answered) → tick + less ≤ more + owing → AllByRecursion (Early tick owing) answers
      → AllByRecursion (Early more less) answers
  sooner tick more owing less answers l all =
      each_to (Early tick owing) (Early more less) answers (λ b h t. (let k = h t in omega (arith, k, l))) all

  owes_less : (c turned : Bool) → owed (if c then true else turned) ≤ owed turned
  owes_less true true = omega arith
  owes_less true false = omega arith
  owes_less false true = omega arith
  owes_less false false = omega arith

  module _ (site : Site) (kept : Retained) where
    turned_now : (p : ℕ) (turned : Bool) → (p == panel) ≡ true → owed (if p == panel then true else turned) ≡ 0
    turned_now p turned e = ap (λ (c : Bool). owed (if c then true else turned)) e

    owes_one : (turned : Bool) → turned ≡ false → owed turned ≡ 1
    owes_one true e = cc
    owes_one false e = refl

    stands_at : (m : List Moment) → IsRun site.panels m → Stands (tick_of m) (owed (has_turned panel Desk m)) (operations site kept m)
    stands_at [] run = record { ranked = tt; early = tt; same = tt; quiet = tt }
    stands_at (Began ∷ before) run =
        let h = stands_at before run.0 in
        record {
          ranked = h.ranked;
          early =
              sooner (tick_of before) (tick_of before + 1) (owed (has_turned panel Desk before)) 1 (operations site kept before).answers (omega arith)
              h.early;
          same = h.same;
          quiet = h.quiet;
        }
    stands_at (Happened event ∷ before) run =
        let h = stands_at before run.0 in record { ranked = h.ranked; early = h.early; same = h.same; quiet = h.quiet }
    stands_at (Turned p Desk ∷ before) run =
        let h = stands_at before run.0 in
        let less = owes_less (p == panel) (has_turned panel Desk before) in
        all_desk site kept (tick_of before) (owed (if p == panel then true else has_turned panel Desk before))
        (requests_in p (tick_of before) (requests site before)) (operations site kept before)
        (ascend_filtered (λ (r : Request). (r.panel == p) && (r.tick == tick_of before)) (requests site before)
        (ascend_by (requests site before) 0 (λ k r is. (let n = numbered_by_place site before k r is in omega (arith, n)))))
        (each_filtered (Exceeds (operations site kept before).answers) (λ (r : Request). (r.panel == p) && (r.tick == tick_of before))
        (requests site before)
        (λ k r is t own. (let q = parts (r.panel == p) (r.tick == tick_of before) t in
        let panels : panel ≡ p = sym (eq_is r.panel panel own) ∙ eq_is r.panel p q.0 in
        let now = eq_is r.tick (tick_of before) q.1 in
        let owing = owes_one (has_turned panel Desk before) (ap (λ n. has_turned n Desk before) panels ∙ run.1) in
        each_by (λ (b : Answered). says panel b ≡ true → b.request.number < r.number) (operations site kept before).answers
        (λ j b at say. (let early =
        each_at (Early (tick_of before) (owed (has_turned panel Desk before))) (operations site kept before).answers j b h.early at say in
        let fits = answers_are_to site kept before j b run.0 at in
        numbers_rise site before fits.place k b.request r fits.asked is (omega (arith, early, owing, now)))))))
        (each_filtered (λ (r : Request). (r.panel == panel) ≡ true → r.tick + owed (if p == panel then true else has_turned panel Desk before) ≤ tick_of before)
        (λ (r : Request). (r.panel == p) && (r.tick == tick_of before)) (requests site before)
        (λ k r is t own. (let q = parts (r.panel == p) (r.tick == tick_of before) t in
        let panels : p ≡ panel = sym (eq_is r.panel p q.0) ∙ eq_is r.panel panel own in
        let now = eq_is r.tick (tick_of before) q.1 in
        let none = turned_now p (has_turned panel Desk before) (eq_true p panel panels) in
        omega (arith, now, none))))
        (record {
          ranked = h.ranked;
          early =
              sooner (tick_of before) (tick_of before) (owed (has_turned panel Desk before))
              (owed (if p == panel then true else has_turned panel Desk before)) (operations site kept before).answers (omega (arith, less)) h.early;
          same = h.same;
          quiet = h.quiet;
        })
    stands_at (Turned p task ∷ before) run =
        let h = stands_at before run.0 in record { ranked = h.ranked; early = h.early; same = h.same; quiet = h.quiet }
    stands_at (Kept failed ∷ before) run =
        let h = stands_at before run.0 in
        let g =
        all_kept (tick_of before) (owed (has_turned panel Desk before)) failed (operations site kept before).waiting
        (operations site kept before).answers h.quiet (record { ranked = h.ranked; early = h.early; same = h.same }) in
        record { ranked = g.ranked; early = g.early; same = g.same; quiet = tt }

    pub run_ranked : (m : List Moment) → IsRun site.panels m → AreRanked panel (operations site kept m).answers
    run_ranked m run = (stands_at m run).ranked

    pub in_own_tick : (m : List Moment) → IsRun site.panels m → (place : ℕ) (a : Answered) → slice_get (operations site kept m).answers place ≡ Some a
        → says panel a ≡ true → a.tick ≡ a.request.tick
    in_own_tick m run place a is say =
        each_at (λ (b : Answered). says panel b ≡ true → b.tick ≡ b.request.tick) (operations site kept m).answers place a (stands_at m run).same is say
