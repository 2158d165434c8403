-- The answers of a panel come in the order of their stamps, and no point gives two in one tick.
use Rattle.std.proofs.Common.{◌≡◌, ℕ, zero, suc, ◌≤◌, ◌<◌, List, [], ◌∷◌, length, Option, Some, None, slice_get, ◌⊎◌, inl, inr, true, false, refl, sym, ◌∙◌, ap, arith}
use Rattle.std.specs.List.{filter_map, range_with_len, cons_option}
use Rattle.std.proofs.lemmas.Bool.Decides.{eqb_tells, leb_tells}
use Rattle.std.proofs.lemmas.Option.{slice_get_within}
use Rattle.tick_units.specs.declared.task.Task.TheVariants.{Poll}
use Rattle.site_types.specs.declared.site.Site.{Site}
use Rattle.site_types.specs.declared.answer.Answer.{Answer}
use Rattle.site_types.specs.declared.point.Point.{Point}
use Rattle.site_types.specs.declared.point_state.PointState.{PointState}
use Rattle.site_types.specs.declared.piece_state.PieceState.{PieceState}
use Rattle.coincidence_rules.specs.InOrder.{AreInOrder}
use Rattle.panel_rules.specs.Moments.{Moment, Began, Happened, Turned, Kept, tick_of, has_turned, IsPanel, IsRun}
use Rattle.panel_rules.specs.States.{state_of, piece_of}
use Rattle.loop_poller.specs.Asked.{asked_in, point_at}
use Rattle.loop_poller.proofs.Places.{address_at, answer_at, line_at, places}
use Rattle.panel_rules.specs.Answers.{answers, asked}
use Rattle.panel_rules.proofs.Places.{get_either, IsBehind, found_from, range_got}
use Rattle.panel_rules.proofs.Asked.{asked_now, answered_at, by_places}
use Rattle.panel_rules.proofs.AnswersTell.{placed}
use Rattle.panel_rules.proofs.Counts.{of_panel}
use Rattle.panel_rules.proofs.Lags.{stamped_by}

-- what a filter lets through at two places came from two places in the same order
pub record ComeApart {X Y : Type 0} (f : X → Option Y) (xs : List X) (y z : Y) : Type 0 where
  pub first : X
  pub second : X
  pub first_place : ℕ
  pub second_place : ℕ
  pub first_is : slice_get xs first_place ≡ Some first
  pub second_is : slice_get xs second_place ≡ Some second
  pub apart : first_place < second_place
  pub first_gives : f first ≡ Some y
  pub second_gives : f second ≡ Some z

come_later : {X Y : Type 0} (f : X → Option Y) (x : X) (xs : List X) (y z : Y) → ComeApart f xs y z → ComeApart f (x ∷ xs) y z
come_later f x xs y z h = record {
  first = h.first;
  second = h.second;
  first_place = suc h.first_place;
  second_place = suc h.second_place;
  first_is =
      h.first_is;
  second_is = h.second_is;
  apart = omega (arith, h.apart);
  first_gives = h.first_gives;
  second_gives = h.second_gives;
}

pub come_apart : {X Y : Type 0} (f : X → Option Y) (xs : List X) (i j : ℕ) (y z : Y) → i < j → slice_get (filter_map f xs) i ≡ Some y
    → slice_get (filter_map f xs) j ≡ Some z → ComeApart f xs y z
come_apart f [] i j y z l h g = cc
come_apart {X = X} {Y = Y} f (x ∷ xs) i j y z l h g = go (f x) refl (λ i' j' l' h' g'. come_apart f xs i' j' y z l' h' g') i j l h g
  where
    go : (o : Option Y) → f x ≡ o → ((i j : ℕ) → i < j → slice_get (filter_map f xs) i ≡ Some y → slice_get (filter_map f xs) j ≡ Some z
        → ComeApart f xs y z) → (i j : ℕ) → i < j → slice_get (cons_option o (filter_map f xs)) i ≡ Some y
        → slice_get (cons_option o (filter_map f xs)) j ≡ Some z → ComeApart f (x ∷ xs) y z
    go None e ih i j l h g = come_later f x xs y z (ih i j l h g)
    go (Some w) e ih i zero l h g = absurd (omega arith)
    go (Some w) e ih zero (suc j) l h g =
        let from = found_from f xs j z g in
        record {
          first = x;
          second = from.source;
          first_place = 0;
          second_place = suc from.place;
          first_is = refl;
          second_is = from.is;
          apart =
              omega arith;
          first_gives = e ∙ h;
          second_gives = from.gives;
        }
    go (Some w) e ih (suc i) (suc j) l h g = come_later f x xs y z (ih i j (omega arith) h g)

-- one point stands at one place of a tick
one_place : (site : Site) (panel tick s t point : ℕ) → point_at site panel (line_at s) (address_at site.format tick s) ≡ Some point
    → point_at site panel (line_at t) (address_at site.format tick t) ≡ Some point → s ≡ t
one_place site panel tick s t point h g =
    let a = placed site panel (line_at s) (address_at site.format tick s) point h in
    let b = placed site panel (line_at t) (address_at site.format tick t) point g in
    let same : a.plan ≡ b.plan = (let e = sym a.is ∙ b.is in cc) in
    let line : line_at s ≡ line_at t = sym a.line_is ∙ ap (λ (p : Point). p.line) same ∙ b.line_is in
    let address : address_at site.format tick s ≡ address_at site.format tick t =
    sym a.address_is ∙ ap (λ (p : Point). p.address) same ∙ b.address_is in
    omega (arith, line, address)

-- two answers of one turn are of two points
asked_once : (site : Site) (panel : ℕ) (points : ℕ → PointState) (pieces : ℕ → ℕ → PieceState) (tick i j : ℕ) (a b : Answer) → i < j
    → slice_get (asked_in site panel points pieces tick) i ≡ Some a → slice_get (asked_in site panel points pieces tick) j ≡ Some b
    → a.point ≡ b.point → ⊥
unfolding places
asked_once site panel points pieces tick i j a b l h g e =
    elim (by_places site panel points pieces tick) [
      | inl n ↦ none i (sym (ap (λ xs. slice_get xs i) n) ∙ h)
      | inr n ↦ two (sym (ap (λ xs. slice_get xs i) n) ∙ h) (sym (ap (λ xs. slice_get xs j) n) ∙ g)
    ]
  where
    none : (k : ℕ) → slice_get [] k ≡ Some a → ⊥
    none k h = cc

    two : slice_get (filter_map (answer_at site panel points pieces tick) (range_with_len 0 32)) i ≡ Some a
        → slice_get (filter_map (answer_at site panel points pieces tick) (range_with_len 0 32)) j ≡ Some b → ⊥
    two h g =
        let c = come_apart (answer_at site panel points pieces tick) (range_with_len 0 32) i j a b l h g in
        let f = range_got 0 32 c.first_place c.first c.first_is in
        let s = range_got 0 32 c.second_place c.second c.second_is in
        let x =
        answered_at site panel points pieces tick (line_at c.first) (address_at site.format tick c.first)
        (point_at site panel (line_at c.first) (address_at site.format tick c.first)) a c.first_gives in
        let y =
        answered_at site panel points pieces tick (line_at c.second) (address_at site.format tick c.second)
        (point_at site panel (line_at c.second) (address_at site.format tick c.second)) b c.second_gives in
        let same : x.0 ≡ y.0 = sym (ap (λ (r : Answer). r.point) x.2) ∙ e ∙ ap (λ (r : Answer). r.point) y.2 in
        let place = one_place site panel tick c.first c.second y.0 (x.1 ∙ ap Some same) y.1 in
        omega (arith, place, f.1, s.1, c.apart)

pub asked_apart : (site : Site) (panel : ℕ) (before : List Moment) (i j : ℕ) (a b : Answer) → slice_get (asked site panel before) i ≡ Some a
    → slice_get (asked site panel before) j ≡ Some b → a.point ≡ b.point → i ≡ j
asked_apart site panel before i j a b h g e =
    elim (eqb_tells i j) [
      | inl t ↦ t.1
      | inr t ↦
          elim (leb_tells i j) [
            | inl l ↦
                absurd (asked_once site panel (λ p. state_of p before) (λ line piece. piece_of panel line piece before) (tick_of before) i j a b
                (omega (arith, l.1, t.1)) h g e)
            | inr l ↦
                absurd (asked_once site panel (λ p. state_of p before) (λ line piece. piece_of panel line piece before) (tick_of before) j i b a l.1 g
                h (sym e))
          ]
    ]

-- before Poll's turn all answers are of earlier ticks
pub asked_before : (site : Site) (panels panel : ℕ) (before : List Moment) (k : ℕ) (a : Answer) → IsPanel panels panel → IsRun panels before
    → has_turned panel Poll before ≡ false → slice_get (answers site panel before) k ≡ Some a → a.stamp.0 < tick_of before
asked_before site panels panel [] k a p run f h = cc
asked_before site panels panel (Began ∷ before) k a p run f h = omega (arith, stamped_by site panel before k a h)
asked_before site panels panel (Happened event ∷ before) k a p run f h = asked_before site panels panel before k a p run.0 f h
asked_before site panels panel (Turned other Poll ∷ before) k a p run f h =
    elim (eqb_tells other panel) [
      | inl t ↦ (let f' = rw t.0 at f in absurd (differ f'))
      | inr t ↦ (let h' = rw t.0 at h in let f' = rw t.0 at f in asked_before site panels panel before k a p run.0 f' h')
    ]
  where
    differ : true ≡ false → ⊥
    differ e = cc
asked_before site panels panel (Turned other task ∷ before) k a p run f h = asked_before site panels panel before k a p run.0 f h
asked_before site panels panel (Kept failed ∷ before) k a p run f h = asked_before site panels panel before k a p run.0 f h

-- two answers, the first not behind the second
pub record Follow (i j : ℕ) (a b : Answer) : Type 0 where
  pub rising : i ≤ j → a.stamp.0 ≤ b.stamp.0
  pub once : a.point ≡ b.point → a.stamp.0 ≡ b.stamp.0 → i ≡ j

follow_turn : (site : Site) (panels panel : ℕ) (before : List Moment) (i j : ℕ) (a b : Answer) → IsPanel panels panel → IsRun panels before
    → has_turned panel Poll before ≡ false → (slice_get (answers site panel before) i ≡ Some a → slice_get (answers site panel before) j ≡ Some b
    → Follow i j a b) → (slice_get (answers site panel before) i ≡ Some a) ⊎ IsBehind (length (answers site panel before)) (asked site panel before) i
    a → (slice_get (answers site panel before) j ≡ Some b) ⊎ IsBehind (length (answers site panel before)) (asked site panel before) j b
    → Follow i j a b
follow_turn site panels panel before i j a b p run f ih (inl x) (inl y) = ih x y
follow_turn site panels panel before i j a b p run f ih (inl x) (inr y) =
    let now = asked_now site panel before y.place b y.is in
    let old = asked_before site panels panel before i a p run f x in
    record { rising = λ l. omega (arith, now, old); once = λ e s. absurd (omega (arith, now, old, s)) }
follow_turn site panels panel before i j a b p run f ih (inr x) (inl y) =
    let now = asked_now site panel before x.place a x.is in
    let old = asked_before site panels panel before j b p run f y in
    let within = slice_get_within (answers site panel before) j b y in
    record { rising = λ l. absurd (omega (arith, l, x.far, within)); once = λ e s. absurd (omega (arith, now, old, s)) }
follow_turn site panels panel before i j a b p run f ih (inr x) (inr y) =
    let one = asked_now site panel before x.place a x.is in
    let two = asked_now site panel before y.place b y.is in
    record {
      rising = λ l. omega (arith, one, two);
      once =
          λ e s. (let same = asked_apart site panel before x.place y.place a b x.is y.is e in omega (arith, same, x.far, y.far));
    }

pub follow : (site : Site) (panels panel : ℕ) (before : List Moment) (i j : ℕ) (a b : Answer) → IsPanel panels panel → IsRun panels before
    → slice_get (answers site panel before) i ≡ Some a → slice_get (answers site panel before) j ≡ Some b → Follow i j a b
follow site panels panel [] i j a b p run h g = cc
follow site panels panel (Began ∷ before) i j a b p run h g = follow site panels panel before i j a b p run.0 h g
follow site panels panel (Happened event ∷ before) i j a b p run h g = follow site panels panel before i j a b p run.0 h g
follow site panels panel (Turned other Poll ∷ before) i j a b p run h g =
    let ih = follow site panels panel before i j a b p run.0 in
    elim (eqb_tells other panel) [
      | inl t ↦
          (let h' = rw t.0 at h in
          let g' = rw t.0 at g in
          follow_turn site panels panel before i j a b p run.0 (of_panel other panel Poll before t.1 run.1) ih
          (get_either (answers site panel before) (asked site panel before) i a h')
          (get_either (answers site panel before) (asked site panel before) j b g'))
      | inr t ↦ (let h' = rw t.0 at h in let g' = rw t.0 at g in ih h' g')
    ]
follow site panels panel (Turned other task ∷ before) i j a b p run h g = follow site panels panel before i j a b p run.0 h g
follow site panels panel (Kept failed ∷ before) i j a b p run h g = follow site panels panel before i j a b p run.0 h g

pub answers_in_order : (site : Site) (panels panel : ℕ) (before : List Moment) → IsPanel panels panel → IsRun panels before
    → AreInOrder (answers site panel before)
answers_in_order site panels panel before p run =
    record {
      rising = λ i j a b l h g. (follow site panels panel before i j a b p run h g).rising l;
      once = λ i j a b h g e s. (follow site panels panel before i j a b p run h g).once e s;
    }
