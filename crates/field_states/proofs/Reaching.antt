-- A point is reached where its address is on the cable of its loop.
use Rattle.std.proofs.Common.{◌≡◌, ℕ, ◌≤◌, ◌<◌, ◌==◌, ◌&&◌, cond, Bool, true, false, List, Some, None, length, get_or, slice_get, sym, ◌∙◌, ap, subst, inl, inr}
use Rattle.std.specs.List.{find, position, position_or_len}
use Rattle.std.proofs.lemmas.Bool.{eqb-true}
use Rattle.std.proofs.lemmas.List.Folds.{find_at}
use Rattle.std.proofs.lemmas.Option.{same_Some, slice_get-get_or, slice_get_past}
use Rattle.site_types.specs.declared.loop_plan.LoopPlan.{LoopPlan}
use Rattle.site_types.specs.declared.point.Point.{Point}
use Rattle.site_types.specs.declared.site.Site.{Site}
use Rattle.site_types.specs.Things.{loop_of}
use Rattle.site_types.specs.Valid.{IsValid}
use Rattle.site_types.proofs.Done.{lt_tells}
use Rattle.isolators.specs.Reach.{is_reached}
use Rattle.loop_poller.specs.Asked.{is_reached_on}
use Rattle.loop_poller.specs.Stands.{IsOnLoop}
use Rattle.loop_poller.proofs.Lines.{on_loop}
use Rattle.panel_rules.specs.Due.{reached_at}
use Rattle.panel_rules.specs.Moments.{Moment}
use Rattle.panel_rules.specs.Reached.{is_point_reached}
use Rattle.panel_rules.specs.States.{piece_of}
use Rattle.panel_rules.proofs.AnswersTell.{position_got}
use Rattle.panel_rules.proofs.Bools.{parts}
use Rattle.panel_rules.proofs.ValidLayout.{laid_out}
use Rattle.field_states.specs.Lines.{cable_after}

pub got_item : {X : Type 0} (xs : List X) (k : ℕ) (x : X) → k < length xs → x ≡ get_or xs k x → slice_get xs k ≡ Some x
got_item xs k x within is = slice_get-get_or xs k x within ∙ ap Some (sym is)

found_none : {X : Type 0} (test : X → Bool) (xs : List X) → position test xs ≡ None → find test xs ≡ None
found_none test xs none =
    elim (lt_tells (position_or_len test xs) (length xs)) [
      | inl h ↦ absurd (never (position_or_len test xs) (sym (ap (λ b. cond b (Some (position_or_len test xs)) None) h.0) ∙ none))
      | inr h ↦ find_at test xs ∙ slice_get_past xs (position_or_len test xs) h.1
    ]
  where
    never : (n : ℕ) → Some n ≡ None → ⊥
    never n e = cc

found_place : {X : Type 0} (test : X → Bool) (xs : List X) (k : ℕ) (x : X) → position test xs ≡ Some k → slice_get xs k ≡ Some x
    → find test xs ≡ Some x
found_place test xs k x found at =
    elim (lt_tells (position_or_len test xs) (length xs)) [
      | inl h ↦
          (let same : position_or_len test xs ≡ k =
          same_Some (position_or_len test xs) k (sym (ap (λ b. cond b (Some (position_or_len test xs)) None) h.0) ∙ found) in
          find_at test xs ∙ ap (slice_get xs) same ∙ at)
      | inr h ↦ absurd (never k (sym (ap (λ b. cond b (Some (position_or_len test xs)) None) h.0) ∙ found))
    ]
  where
    never : (n : ℕ) → None ≡ Some n → ⊥
    never n e = cc

-- the loop of a panel with a number
abbrev pub is_loop : ℕ → ℕ → LoopPlan → Bool
is_loop panel line plan = (plan.panel == panel) && (plan.line == line)

module _ (site : Site) (valid : IsValid site) (before : List Moment) (place : ℕ) (point : Point) (at : slice_get site.points place ≡ Some point) where
  reached_is : reached_at site place before
      ≡ is_reached_on (loop_of site point.panel point.line) (λ piece. piece_of point.panel point.line piece before) point.address
  reached_is = ap (λ o. is_point_reached site o (λ panel line piece. piece_of panel line piece before)) at

  pub no_loop : position (is_loop point.panel point.line) site.loops ≡ None → false ≡ reached_at site place before
  no_loop none =
      let no_plan : loop_of site point.panel point.line ≡ None = found_none (is_loop point.panel point.line) site.loops none in
      sym (reached_is ∙ ap (λ o. is_reached_on o (λ piece. piece_of point.panel point.line piece before) point.address) no_plan)

  -- its address is one of the loop, and from 1 on
  pub from_one : 1 ≤ point.address
  from_one = ((laid_out site valid).points place point at).address.0

  pub by_loop : (k : ℕ) (plan : LoopPlan) (reached : Bool) → position (is_loop point.panel point.line) site.loops ≡ Some k
      → slice_get site.loops k ≡ Some plan
      → (point.address ≤ plan.last → reached ≡ is_reached plan (cable_after plan before) point.address)
      → reached ≡ reached_at site place before
  by_loop k plan reached found plan_at says =
      let is_plan : loop_of site point.panel point.line ≡ Some plan =
      found_place (is_loop point.panel point.line) site.loops k plan found plan_at in
      let lies = (laid_out site valid).points place point at in
      let within : point.address ≤ plan.last =
      subst (λ o. IsOnLoop o point.address) is_plan (on_loop site point.panel point.line point.address place valid lies.alone) in
      let got = position_got (is_loop point.panel point.line) site.loops k found in
      let same : got.item ≡ plan = same_Some got.item plan (sym got.is ∙ plan_at) in
      let keys = parts (plan.panel == point.panel) (plan.line == point.line)
      (subst (λ p. is_loop point.panel point.line p ≡ true) same got.passes) in
      let cable : is_reached plan (cable_after plan before) point.address
      ≡ is_reached plan (λ piece. piece_of point.panel point.line piece before) point.address =
      ap (λ n. is_reached plan (λ piece. piece_of n plan.line piece before) point.address) (eqb-true plan.panel point.panel keys.0)
      ∙ ap (λ n. is_reached plan (λ piece. piece_of point.panel n piece before) point.address) (eqb-true plan.line point.line keys.1) in
      says within ∙ cable
      ∙ sym (reached_is ∙ ap (λ o. is_reached_on o (λ piece. piece_of point.panel point.line piece before) point.address) is_plan)
