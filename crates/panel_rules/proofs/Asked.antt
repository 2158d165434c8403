-- How many are asked in a tick.
use Rattle.std.proofs.Common.{◌≡◌, ℕ, zero, suc, ◌+◌, ◌≤◌, List, [], ◌∷◌, length, Option, Some, None, slice_get, option_map, ◌++◌, ◌⊎◌, inl, inr, refl, sym, ◌∙◌, ap, arith, ◌<◌}
use Rattle.std.specs.List.{filter_map, flat_map, range_with_len, cons_option}
use Rattle.std.proofs.lemmas.Bool.Decides.{leb_tells}
use Rattle.site_types.specs.Limits.{most_loops}
use Rattle.site_types.specs.Profile.{last_address_of}
use Rattle.loop_poller.specs.Asked.{answer_from}
use Rattle.loop_poller.proofs.Places.{asked_in_places, asked_few, line_at, address_at, answer_at, places}
use Rattle.site_types.specs.declared.site.Site.{Site}
use Rattle.site_types.specs.declared.answer.Answer.{Answer}
use Rattle.site_types.specs.declared.point_state.PointState.{PointState}
use Rattle.site_types.specs.declared.piece_state.PieceState.{PieceState}
use Rattle.panel_rules.proofs.Places.{found_from, range_got}
use Rattle.panel_rules.specs.Moments.{Moment, tick_of}
use Rattle.panel_rules.specs.States.{state_of, piece_of}
use Rattle.loop_poller.specs.Asked.{answer_of, asked_in, point_at}
use Rattle.panel_rules.specs.Answers.{asked}

pub length-range : (a n : ℕ) → length (range_with_len a n) ≡ n
length-range a zero = refl
length-range a (suc n) = ap suc (length-range (a + 1) n)

pub found_few : {X : Type 0} (f : ℕ → Option X) (xs : List ℕ) → length (filter_map f xs) ≤ length xs
found_few f [] = omega arith
found_few f (x ∷ xs) =
    elim (f x) as (λ o. length (cons_option o (filter_map f xs)) ≤ suc (length xs)) [
      | None ↦ omega (arith, found_few f xs)
      | Some y ↦
          omega (arith, found_few f xs)
    ]

-- with no address there is no answer
no_address : {X : Type 0} (f : ℕ → ℕ → Option X) (count : ℕ) (lines : List ℕ) → count ≡ 0
    → flat_map (λ line. filter_map (f line) (range_with_len 1 count)) lines ≡ []
no_address f count [] e = refl
no_address f count (line ∷ lines) e =
    ap (λ n. filter_map (f line) (range_with_len 1 n) ++ flat_map (λ l. filter_map (f l) (range_with_len 1 count)) lines) e ∙ no_address f count lines
    e

none_asked : (site : Site) (panel : ℕ) (points : ℕ → PointState) (pieces : ℕ → ℕ → PieceState) (tick : ℕ) → site.format ≡ 0
    → asked_in site panel points pieces tick ≡ []
unfolding asked_in
none_asked site panel points pieces tick e =
    no_address (answer_from site panel points pieces tick) (last_address_of site.format) (range_with_len 1 most_loops) (omega (arith, e))

-- the answers of a turn are those from its 32 places; a format of 0 has no address
pub by_places : (site : Site) (panel : ℕ) (points : ℕ → PointState) (pieces : ℕ → ℕ → PieceState) (tick : ℕ)
    → (asked_in site panel points pieces tick ≡ [])
    ⊎ (asked_in site panel points pieces tick ≡ filter_map (answer_at site panel points pieces tick) places)
by_places site panel points pieces tick =
    elim (leb_tells 1 site.format) [
      | inl h ↦ inr (asked_in_places site panel points pieces tick h.1)
      | inr h ↦
          inl (none_asked site panel points pieces tick (omega (arith, h.1)))
    ]

-- a turn puts at most 32 answers
pub asked_at_most : (site : Site) (panel : ℕ) (before : List Moment) → length (asked site panel before) ≤ 32
asked_at_most site panel before =
    elim (leb_tells 1 site.format) [
      | inl h ↦ asked_few site panel (λ point. state_of point before) (λ line piece. piece_of panel line piece before) (tick_of before) h.1
      | inr h ↦
          (let e =
          none_asked site panel (λ point. state_of point before) (λ line piece. piece_of panel line piece before) (tick_of before)
          (omega (arith, h.1)) in let n = ap length e in omega (arith, n))
    ]

pub answered_at : (site : Site) (panel : ℕ) (points : ℕ → PointState) (pieces : ℕ → ℕ → PieceState) (tick line address : ℕ) (o : Option ℕ) (a :
    Answer) → option_map (answer_of site panel points pieces tick line address) o ≡ Some a
    → (point : ℕ) × (o ≡ Some point) × (a ≡ answer_of site panel points pieces tick line address point)
answered_at site panel points pieces tick line address None a h = cc
answered_at site panel points pieces tick line address (Some point) a h = (point, refl, cc)

-- an answer in what a turn puts, by the place of the tick that it comes from
pub record IsAskedAt (site : Site) (panel : ℕ) (points : ℕ → PointState) (pieces : ℕ → ℕ → PieceState) (tick : ℕ) (a : Answer) : Type 0 where
  pub place : ℕ
  pub few : place < 32
  pub point : ℕ
  pub stands : point_at site panel (line_at place) (address_at site.format tick place) ≡ Some point
  pub is : a ≡ answer_of site panel points pieces tick (line_at place) (address_at site.format tick place) point

pub asked_from : (site : Site) (panel : ℕ) (points : ℕ → PointState) (pieces : ℕ → ℕ → PieceState) (tick k : ℕ) (a : Answer)
    → slice_get (asked_in site panel points pieces tick) k ≡ Some a → IsAskedAt site panel points pieces tick a
unfolding places
asked_from site panel points pieces tick k a h =
    elim (by_places site panel points pieces tick) [
      | inl e ↦ absurd (none k (sym (ap (λ xs. slice_get xs k) e) ∙ h))
      | inr e ↦
          (let g = found_from (answer_at site panel points pieces tick) (range_with_len 0 32) k a (sym (ap (λ xs. slice_get xs k) e) ∙ h) in
          let r = range_got 0 32 g.place g.source g.is in
          let found =
          answered_at site panel points pieces tick (line_at g.source) (address_at site.format tick g.source)
          (point_at site panel (line_at g.source) (address_at site.format tick g.source)) a g.gives in
          record { place = g.source; few = omega (arith, r.0, r.1); point = found.0; stands = found.1; is = found.2 })
    ]
  where
    none : (k : ℕ) → slice_get [] k ≡ Some a → ⊥
    none k h = cc

-- what a turn puts is stamped with its tick
pub asked_now : (site : Site) (panel : ℕ) (before : List Moment) (k : ℕ) (a : Answer) → slice_get (asked site panel before) k ≡ Some a
    → a.stamp.0 ≡ tick_of before
asked_now site panel before k a h =
    ap (λ (x : Answer). x.stamp.0) (asked_from site panel (λ point. state_of point before) (λ line piece. piece_of panel line piece before)
    (tick_of before) k a h).is
