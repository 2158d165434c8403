-- The desk after a turn of Desk.
use Rattle.std.proofs.Common.{◌≡◌, ◌≢◌, ℕ, ◌+◌, ◌-◌, ◌==◌, ◌&&◌, Bool, true, false, not, List, [], ◌∷◌, ◌++◌, length}
use Rattle.std.proofs.Common.{if◌then◌else◌, inl, inr, refl, sym, ◌∙◌, ap, subst, arith}
use Rattle.std.specs.Prelude.{nat_le, nat_lt, slice_index, slice_set}
use Rattle.std.specs.List.{AllByRecursion}
use Rattle.std.proofs.lemmas.Bool.Decides.{eqb_tells, leb_tells}
use Rattle.std.proofs.lemmas.List.{get_or-set_other, get_or-set_same, length-set, nil_from_length, set-get_or}
use Rattle.std.proofs.lemmas.List.Sums.{fold-append}
use Rattle.tick_units.specs.declared.task.Task.TheVariants.{Desk as DeskTask}
use Rattle.site_types.specs.declared.retained.Retained.{Retained}
use Rattle.site_types.specs.declared.site.Site.{Site}
use Rattle.site_types.specs.Changes.{IsPanelNumber}
use Rattle.site_types.specs.Limits.{most_operations}
use Rattle.site_types.proofs.Done.{lt_tells}
use Rattle.panel_rules.specs.Moments.{Moment, Turned, has_turned, tick_of}
use Rattle.panel_rules.specs.Operations.{Operations, Request as RequestOf, after_desk, after_request, operations}
use Rattle.panel_rules.specs.Operations.{requests}
use Rattle.panel_rules.specs.Timeline.{busy_count}
use Rattle.panel_rules.proofs.Bools.{parts}
use Rattle.panel_rules.proofs.Counting.{count, each_filtered}
use Rattle.panel_laws.proofs.AnswerLaws.{eq_is}
use Rattle.operation_desk.specs.declared.desk.Desk.{Desk}
use Rattle.operation_desk.specs.Changes.{HasSameRest, firsts_of}
use Rattle.operation_desk.specs.Requests.{with_done, requests_from}
use Rattle.operation_desk.specs.Stands.{DesksFor, MayTakeTurn, TellsOutcomes, given_in, told_in}
use Rattle.operation_desk.proofs.Bounds.{few_of_run}
use Rattle.operation_desk.proofs.Mine.{counted, is_first, late_count}
use Rattle.operation_desk.proofs.Turning.{busy_all, late_same}
use Rattle.operation_desk.proofs.Turns.{lates, mine, mine_is, taken}

-- the desk but for how many found each panel busy
pub record HasBusy (busy : List ℕ) (old new : Desk) : Type 0 where
  pub tick : new.tick ≡ old.tick
  pub number : new.number ≡ old.number
  pub counts : new.counts ≡ old.counts
  pub asked : new.asked ≡ old.asked
  pub waiting : new.waiting ≡ old.waiting
  pub done : new.done ≡ old.done
  pub ops : new.answers.ops ≡ old.answers.ops
  pub failed : new.answers.failed ≡ old.answers.failed
  pub busy_is : new.answers.busy ≡ busy

-- these are put in it
pub busy_put : (desk : Desk) (busy put : List ℕ) → put ≡ busy → HasBusy busy desk (record desk { answers = record desk.answers { busy = put } })
busy_put desk busy put same = record {
  tick = refl;
  number = refl;
  counts = refl;
  asked = refl;
  waiting = refl;
  done = refl;
  ops = refl;
  failed = refl;
  busy_is = same;
}

-- those of a panel, counted for it and for another
count_own : (panel : ℕ) (test : RequestOf → Bool) (xs : List RequestOf) → AllByRecursion (λ (r : RequestOf). (r.panel == panel) ≡ true) xs
    → count (λ (r : RequestOf). (r.panel == panel) && test r) xs ≡ count test xs
count_own panel test [] all = refl
count_own panel test (r ∷ xs) all = let ih = count_own panel test xs all.1 in rw all.0 (omega (arith, ih))

count_all : (test : RequestOf → Bool) (xs : List RequestOf) → AllByRecursion (λ (r : RequestOf). test r ≡ true) xs → count test xs ≡ length xs
count_all test [] all = refl
count_all test (r ∷ xs) all = let ih = count_all test xs all.1 in rw all.0 (omega (arith, ih))

count_other : (panel q : ℕ) (test : RequestOf → Bool) (xs : List RequestOf) → panel ≢ q
    → AllByRecursion (λ (r : RequestOf). (r.panel == panel) ≡ true) xs → count (λ (r : RequestOf). (r.panel == q) && test r) xs ≡ 0
count_other panel q test [] apart all = refl
count_other panel q test (r ∷ xs) apart all =
    let ih = count_other panel q test xs apart all.1 in
    let here : (r.panel == q) ≡ false =
    elim (eqb_tells r.panel q) [ inl t ↦ absurd (apart (sym (eq_is r.panel panel all.0) ∙ t.1)) | inr t ↦ t.0 ] in
    rw here (omega (arith, ih))

module _ (site : Site) (kept settings : Retained) (panel : ℕ) (before : List Moment) (old : Desk) (h : DesksFor site kept before old) (m :
    MayTakeTurn site kept settings panel before) where
  abbrev all : List RequestOf
  all = requests site before

  abbrev tick : ℕ
  tick = tick_of before

  abbrev own : List RequestOf
  own = mine site kept settings panel before old h m

  abbrev after : Operations
  after = operations site kept (Turned panel DeskTask ∷ before)

  -- after those that the desk has, which are the first of the panel
  abbrev after_firsts : Operations
  after_firsts = after_desk site kept (firsts_of panel old.asked.items) (operations site kept before)

  panel_of_own : AllByRecursion (λ (r : RequestOf). (r.panel == panel) ≡ true) own
  panel_of_own =
      each_filtered (λ (r : RequestOf). (r.panel == panel) ≡ true) (λ (r : RequestOf). (r.panel == panel) && (r.tick == tick)) all
      (λ k r is t. (parts (r.panel == panel) (r.tick == tick) t).0)

  own_number : IsPanelNumber panel
  own_number = let p = m.member in let few = m.valid.forms.panels.1 in (p.0, omega (arith, p.1, few))

  late_of : (b : Bool) (n : ℕ) → nat_lt n 4 ≡ b → not b ≡ true → nat_le 4 n ≡ true
  late_of true n e t = cc
  late_of false n e t =
      elim (leb_tells 4 n) [
        | inl g ↦ g.0
        | inr g ↦ (let l = g.1 in elim (lt_tells n 4) [
          | inl f ↦ (let x : true ≡ false = sym f.0 ∙ e in absurd cc)
          | inr f ↦ (let k = f.1 in absurd (omega (arith, k, l)))
        ])
      ]

  all_late : AllByRecursion (λ (r : RequestOf). nat_le most_operations r.earlier ≡ true) (lates site kept settings panel before old h m)
  all_late =
      each_filtered (λ (r : RequestOf). nat_le most_operations r.earlier ≡ true) (λ r. not (is_first r)) own
      (λ k r is t. late_of (is_first r) r.earlier refl t)

  split : after ≡ after_desk site kept (lates site kept settings panel before old h m) after_firsts
  split =
      ap (λ xs. after_desk site kept xs (operations site kept before)) (mine_is site kept settings panel before old h m)
      ∙ fold-append (after_request site kept) (operations site kept before) (firsts_of panel old.asked.items) (lates site kept settings panel before old h m)

  same : (after.waiting ≡ after_firsts.waiting)
      × (after.done ≡ after_firsts.done)
      × (told_in site kept tick after.answers all
      ≡ told_in site kept tick after_firsts.answers all)
  same =
      subst
      (λ (o : Operations). (o.waiting ≡ after_firsts.waiting)
      × (o.done ≡ after_firsts.done)
      × (told_in site kept tick o.answers all ≡ told_in site kept tick after_firsts.answers all))
      (sym split)
      (late_same site kept all tick (few_of_run site before tick) (operations site kept before) own (firsts_of panel old.asked.items)
      (lates site kept settings panel before old h m) (mine_is site kept settings panel before old h m) (taken site kept settings panel before old h m)
      all_late)

  busy_of : (q : ℕ) → busy_count q (given_in site kept tick after.answers all)
      ≡ count (λ (r : RequestOf). (r.panel == q) && nat_le most_operations r.earlier) own + busy_count q (given_in site kept tick (operations site kept before).answers all)
  busy_of q = busy_all site kept all tick (few_of_run site before tick) (operations site kept before) q own [] own refl (taken site kept settings panel before old h m)

  own_busy : busy_count panel (given_in site kept tick after.answers all) ≡ length own - 4
  own_busy =
      let b = busy_of panel in
      let c = count_own panel (λ (r : RequestOf). nat_le most_operations r.earlier) own panel_of_own in
      let n = late_count 0 own (counted panel tick site before) in
      let z = h.busy panel own_number in
      let i = h.idle panel own_number m.run.1 in
      omega (arith, b, c, n, z, i)

  other_busy : (q : ℕ) → panel ≢ q → busy_count q (given_in site kept tick after.answers all) ≡ busy_count q (given_in site kept tick (operations site kept before).answers all)
  other_busy q apart =
      let b = busy_of q in
      let c = count_other panel q (λ (r : RequestOf). nat_le most_operations r.earlier) own apart panel_of_own in
      omega (arith, b, c)

  other_place : (q : ℕ) → IsPanelNumber q → panel ≢ q → (q - 1) ≢ (panel - 1)
  other_place q p apart e = apart (let o = own_number in omega (arith, e, o.0, p.0))

  pub desk_turned : (mid new : Desk) → TellsOutcomes site kept all tick after_firsts mid
      → HasSameRest old mid
      → HasBusy (slice_set mid.answers.busy (panel - 1) (slice_index mid.counts (panel - 1) - 4)) mid new
      → DesksFor site kept (Turned panel DeskTask ∷ before) new
  desk_turned mid new told rest b =
      record {
        number = b.number ∙ rest.number ∙ h.number;
        counts = λ q p. ap (λ xs. slice_index xs (q - 1)) (b.counts ∙ rest.counts) ∙ h.counts q p;
        asked = ap (λ a. requests_from a.items) (b.asked ∙ rest.asked) ∙ h.asked;
        outcomes =
            record {
              now = ap (λ t. t.0) b.tick ∙ told.now;
              unsettled =
                  record {
                    waiting_is = ap (λ w. requests_from w.items) b.waiting ∙ told.unsettled.waiting_is ∙ sym same.0;
                    older = told.unsettled.older;
                    done_is =
                        same.1 ∙ told.unsettled.done_is ∙ ap (λ d. with_done tick d.items told.unsettled.older) (sym b.done);
                    earlier = told.unsettled.earlier;
                  };
              ops = b.ops ∙ told.ops ∙ sym same.2;
              few =
                  (let one = ap (λ d. length d.items) b.done in
                  let two = ap length b.ops in
                  let three = told.few in
                  omega (arith, one, two, three));
            };
        busy = busy_then;
        idle = idle_then;
        failed = b.failed ∙ rest.failed ∙ h.failed;
        sized = (
          ap length (b.counts ∙ rest.counts) ∙ h.sized.0,
          ap length b.busy_is ∙ length-set mid.answers.busy (panel - 1) (slice_index mid.counts (panel - 1) - 4) ∙ ap length rest.busy ∙ h.sized.1,
        );
      }
    where
      value : ℕ
      value = slice_index mid.counts (panel - 1) - 4

      long : length mid.answers.busy ≡ 8
      long = ap length rest.busy ∙ h.sized.1

      own_value : slice_index mid.counts (panel - 1) ≡ length own
      own_value = ap (λ xs. slice_index xs (panel - 1)) rest.counts ∙ h.counts panel own_number

      others : (q : ℕ) → IsPanelNumber q → panel ≢ q → slice_index new.answers.busy (q - 1) ≡ slice_index old.answers.busy (q - 1)
      others q p apart =
          ap (λ xs. slice_index xs (q - 1)) b.busy_is
          ∙ get_or-set_other mid.answers.busy (panel - 1) (q - 1) (slice_index mid.counts (panel - 1) - 4) 0 (other_place q p apart)
          ∙ ap (λ xs. slice_index xs (q - 1)) rest.busy

      owns : slice_index new.answers.busy (panel - 1) ≡ length own - 4
      owns =
          ap (λ xs. slice_index xs (panel - 1)) b.busy_is
          ∙ get_or-set_same mid.answers.busy (panel - 1) (slice_index mid.counts (panel - 1) - 4) 0
          (let o = own_number in let l = long in omega (arith, o.0, o.1, l))
          ∙ ap (λ n. n - 4) own_value

      busy_then : (q : ℕ) → IsPanelNumber q → slice_index new.answers.busy (q - 1) ≡ busy_count q (given_in site kept tick after.answers all)
      busy_then q p =
          elim (eqb_tells panel q) [
            | inl t ↦
                subst (λ n. slice_index new.answers.busy (n - 1) ≡ busy_count n (given_in site kept tick after.answers all)) t.1 (owns ∙ sym own_busy)
            | inr t ↦ others q p t.1 ∙ h.busy q p ∙ sym (other_busy q t.1)
          ]

      idle_then : (q : ℕ) → IsPanelNumber q → has_turned q DeskTask (Turned panel DeskTask ∷ before) ≡ false
          → slice_index new.answers.busy (q - 1) ≡ 0
      idle_then q p e =
          elim (eqb_tells panel q) [
            | inl t ↦ (let x : true ≡ false = ap (λ b. if b then true else has_turned q DeskTask before) (sym t.0) ∙ e in absurd cc)
            | inr t ↦ others q p t.1 ∙ h.idle q p (ap (λ b. if b then true else has_turned q DeskTask before) (sym t.0) ∙ e)
          ]

  -- where no request is there to be taken, none was asked for at the panel, and a turn leaves the desk as it is
  module _ (few : length old.asked.items ≡ 0) where
    none : old.asked.items ≡ []
    none = nil_from_length old.asked.items few

    only_late : own ≡ lates site kept settings panel before old h m
    only_late =
        mine_is site kept settings panel before old h m
        ∙ ap (λ xs. firsts_of panel xs ++ lates site kept settings panel before old h m) none

    none_asked : length own ≡ 0
    none_asked =
        let n = late_count 0 own (counted panel tick site before) in
        let c = count_all (λ (r : RequestOf). nat_le most_operations r.earlier) own
        (subst (AllByRecursion (λ (r : RequestOf). nat_le most_operations r.earlier ≡ true)) (sym only_late) all_late) in
        omega (arith, n, c)

    same_busy : slice_index old.counts (panel - 1) - 4 ≡ slice_index old.answers.busy (panel - 1)
    same_busy =
        let n = h.counts panel own_number in
        let z = h.idle panel own_number m.run.1 in
        let k = none_asked in
        omega (arith, n, z, k)

    pub desk_passed : DesksFor site kept (Turned panel DeskTask ∷ before) old
    desk_passed =
        desk_turned old old
        (subst (λ xs. TellsOutcomes site kept all tick (after_desk site kept (firsts_of panel xs) (operations site kept before)) old) (sym none) h.outcomes)
        (record { tick = refl; number = refl; counts = refl; asked = refl; busy = refl; failed = refl })
        (busy_put old _ old.answers.busy (sym (ap (slice_set old.answers.busy (panel - 1)) same_busy ∙ set-get_or old.answers.busy (panel - 1) 0)))
