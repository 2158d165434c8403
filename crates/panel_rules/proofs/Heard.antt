-- How old a word is that comes over a way of links that were up.
use Rattle.std.proofs.Common.{◌≡◌, ℕ, zero, suc, ◌+◌, ◌-◌, ◌*◌, ◌/◌, ◌%◌, ◌≤◌, ◌<◌, ◌==◌, List, [], ◌∷◌, inl, inr, Bool, true, false, if◌then◌else◌, refl, sym, ◌∙◌, ap, subst, arith}
use Rattle.std.proofs.lemmas.Bool.Decides.{eqb_tells, leb_tells}
use Rattle.tick_units.specs.declared.task.Task.TheVariants.{Hold, Link}
use Rattle.panel_rules.specs.Moments.{Moment, Began, Happened, Turned, Kept, tick_of, has_turned, IsPanel, IsRun, IsPast, present, later, up_to, latest_turn}
use Rattle.panel_rules.specs.States.{is_up}
use Rattle.panel_links.specs.Words.{carries, left_of, right_of}
use Rattle.panel_rules.specs.Kept.{heard}
use Rattle.panel_rules.proofs.Turns.{turn_lag, one_back, run_tail, past_on, owed_turn}
use Rattle.panel_rules.proofs.Stays.{ByEvents, state_stays}
use Rattle.panel_rules.proofs.AnswersTell.{eq_true}
use Rattle.panel_rules.proofs.KeptWords.{heard_next, takes_above, takes_below, own_heard}

-- of two ticks one after the other one carries a panel's word
carries_again : (panels tick source : ℕ) → panels ≤ 8 → IsPanel panels source → carries panels (tick + 1) source ≡ false
    → carries panels tick source ≡ true
carries_again panels tick source few s h =
    elim (leb_tells panels 4) [
      | inl all ↦ (let small : (source - 1) / 4 ≡ 0 = (let a = all.1 in omega (arith, a, s.1)) in rw (all.0, small) refl)
      | inr more ↦ rw more.0
          (elim (eqb_tells ((source - 1) / 4) ((tick + 1) % 2)) [
            | inl now ↦ now.0
            | inr apart ↦ absurd (not_next (other apart.1) (ap (λ b. ((source - 1) / 4) == (if b then 0 else (tick + 1 + 1) % 2)) (sym more.0) ∙ h))
          ])
    ]
  where
    small : (source - 1) / 4 ≤ 1
    small = omega (arith, s.1, few)

    other : ((source - 1) / 4 ≡ (tick + 1) % 2 → ⊥) → (source - 1) / 4 ≡ (tick + 1 + 1) % 2
    other apart = omega (arith, apart, small)

    not_next : (source - 1) / 4 ≡ (tick + 1 + 1) % 2 → (((source - 1) / 4) == ((tick + 1 + 1) % 2)) ≡ false → ⊥
    not_next same unlike = elim (eqb_tells ((source - 1) / 4) ((tick + 1 + 1) % 2)) [ inl t ↦ (let e = t.0 in cc) | inr t ↦ t.1 same ]

-- how old a word may be after so many links, in a tick that carries it and in one that doesn't
abbrev pub lag : ℕ → Bool → ℕ
lag zero carried = 1
lag (suc steps) carried = if carried then 2 * (steps + 1) else 2 * (steps + 1) + 1

pub lag_few : (steps : ℕ) (carried : Bool) → lag steps carried ≤ 2 * steps + 1
lag_few zero carried = omega arith
lag_few (suc steps) true = omega arith
lag_few (suc steps) false = omega arith

-- one panel takes from another over a link
pub data IsStep (panels from to link : ℕ) : Type 0 where
  downward : right_of panels to ≡ from → link ≡ to → IsStep panels from to link
  upward : left_of panels to ≡ from → link ≡ from → IsStep panels from to link

step_takes : (panels source from to link : ℕ) (before : List Moment) → IsStep panels from to link → is_up link before ≡ true
    → carries panels (tick_of before) source ≡ true → heard panels from source before ≤ heard panels to source (Turned to Link ∷ before)
step_takes panels source from to link before (downward a l) up carried =
    subst (λ p. heard panels p source before ≤ heard panels to source (Turned to Link ∷ before)) a
    (takes_above panels to source before (subst (λ k. is_up k before ≡ true) l up) carried)
step_takes panels source from to link before (upward b l) up carried =
    subst (λ p. heard panels p source before ≤ heard panels to source (Turned to Link ∷ before)) b
    (takes_below panels to source before (subst (λ k. is_up k before ≡ true) (l ∙ sym b) up) carried)

pub link_by_events : (link : ℕ) → ByEvents (λ before. is_up link before)
link_by_events link = record { began = λ before. refl; turned = λ panel task before. refl; kept = λ failed before. refl }

module _ (panels source : ℕ) (few : panels ≤ 8) (whole : List Moment) (run : IsRun panels whole) (way link : ℕ → ℕ) (last : ℕ) (begins :
    way 0 ≡ source) (steps : (j : ℕ) → j < last → IsStep panels (way j) (way (suc j)) (link j)) (members : (j : ℕ) → j ≤ last
    → IsPanel panels (way j)) where
  -- the links of the first steps were up in the ticks that count, seen from a tick
  abbrev WereUp : ℕ → ℕ → ℕ → Type 0
  WereUp j tick age = (i y : ℕ) → i < j → 1 ≤ y → y ≤ tick → tick + 1 < y + age → is_up (link i) (up_to y whole) ≡ true

  -- what a panel on the way has heard at a tick
  abbrev HasHeard : ℕ → List Moment → ℕ → Type 0
  HasHeard j moments tick = WereUp j tick (lag j (carries panels tick source))
      → tick ≤ heard panels (way j) source moments + lag j (carries panels tick source)

  -- after its latest turn of Link
  abbrev Claim : ℕ → List Moment → Type 0
  Claim j moments = HasHeard j moments (latest_turn (way j) Link moments)

  first_claim : (moments : List Moment) → IsPast moments whole → Claim 0 moments
  first_claim moments past were =
      let run' = run_tail panels moments whole past run in
      let own = own_heard panels source moments in
      let member = subst (IsPanel panels) begins (members 0 (omega arith)) in
      let back = one_back panels source source Link Hold moments member tt run' in
      subst (λ p. latest_turn p Link moments ≤ heard panels p source moments + 1) (sym begins) (omega (arith, own, back.0))

  -- a turn of Link on the way
  link_turn : (j : ℕ) → j < last → ((moments : List Moment) → IsPast moments whole → Claim j moments) → (before : List Moment)
      → IsPast (Turned (way (suc j)) Link ∷ before) whole → Claim (suc j) before
      → HasHeard (suc j) (Turned (way (suc j)) Link ∷ before) (tick_of before)
  link_turn j l ih before past inner were = go (carries panels (tick_of before) source) refl were
    where
      tail : IsPast before whole
      tail = past_on before (Turned (way (suc j)) Link ∷ before) whole (later (Turned (way (suc j)) Link) before present) past

      here : IsRun panels (Turned (way (suc j)) Link ∷ before)
      here = run_tail panels (Turned (way (suc j)) Link ∷ before) whole past run

      owes : (b : Bool) → latest_turn (way j) Link before + owed_turn b ≡ tick_of before → (tick_of before ≤ latest_turn (way j) Link before + 1)
          × (latest_turn (way j) Link before ≤ tick_of before)
      owes true e = (omega (arith, e), omega (arith, e))
      owes false e = (omega (arith, e), omega (arith, e))

      near : (tick_of before ≤ latest_turn (way j) Link before + 1) × (latest_turn (way j) Link before ≤ tick_of before)
      near = owes (has_turned (way j) Link before) (turn_lag panels (way j) Link before (members j (omega arith)) tt here.0)

      was : latest_turn (way (suc j)) Link before + 1 ≡ tick_of before
      was = rw here.1 at (turn_lag panels (way (suc j)) Link before (members (suc j) (omega arith)) tt here.0)

      from_neighbour : carries panels (tick_of before) source ≡ true → 1 ≤ tick_of before → WereUp (suc j) (tick_of before) (2 * (j + 1))
          → tick_of before ≤ heard panels (way (suc j)) source (Turned (way (suc j)) Link ∷ before) + 2 * (j + 1)
      from_neighbour carried one were' =
          let up : is_up (link j) before ≡ true =
          sym (state_stays (λ b. is_up (link j) b) panels (Turned (way (suc j)) Link ∷ before) whole (link_by_events (link j)) past run refl) ∙
          were' j (tick_of before) (omega arith) one (omega arith) (omega arith) in
          let takes = step_takes panels source (way j) (way (suc j)) (link j) before (steps j l) up carried in
          let t = latest_turn (way j) Link before in
          let few = lag_few j (carries panels t source) in
          let rest : WereUp j t (lag j (carries panels t source)) =
          λ i y less begin end recent. were' i y (omega (arith, less)) begin (omega (arith, end, near.1)) (omega (arith, recent, few, near.0)) in
          let heard_there = ih before tail rest in
          omega (arith, heard_there, few, takes, near.0)

      go : (c : Bool) → carries panels (tick_of before) source ≡ c → WereUp (suc j) (tick_of before) (lag (suc j) c)
          → tick_of before ≤ heard panels (way (suc j)) source (Turned (way (suc j)) Link ∷ before) + lag (suc j) c
      go true e were' = elim (leb_tells 1 (tick_of before)) [ inl o ↦ from_neighbour e o.1 were' | inr o ↦ omega (arith, o.1) ]
      go false e were' =
          let t = latest_turn (way (suc j)) Link before in
          let carried : carries panels t source ≡ true =
          carries_again panels t source few (subst (IsPanel panels) begins (members 0 (omega arith))) (ap (λ x. carries panels x source) was ∙ e)
          in
          let next = heard_next panels (way (suc j)) source (Turned (way (suc j)) Link) before in
          let before_that : WereUp (suc j) t (lag (suc j) true) → t ≤ heard panels (way (suc j)) source before + lag (suc j) true =
          subst (λ c. WereUp (suc j) t (lag (suc j) c) → t ≤ heard panels (way (suc j)) source before + lag (suc j) c) carried inner in
          let held = before_that (λ i y less begin end recent. were' i y less begin (omega (arith, end, was)) (omega (arith, recent, was))) in
          omega (arith, held, next, was)

  next_claim : (j : ℕ) → j < last → ((moments : List Moment) → IsPast moments whole → Claim j moments) → (moments : List Moment)
      → IsPast moments whole → Claim (suc j) moments
  next_claim j l ih [] past = λ were. omega arith
  next_claim j l ih (Began ∷ before) past = next_claim j l ih before (past_on before (Began ∷ before) whole (later Began before present) past)
  next_claim j l ih (Happened event ∷ before) past =
      next_claim j l ih before (past_on before (Happened event ∷ before) whole (later (Happened event) before present) past)
  next_claim j l ih (Turned other Link ∷ before) past =
      let inner = next_claim j l ih before (past_on before (Turned other Link ∷ before) whole (later (Turned other Link) before present) past) in
      elim (eqb_tells other (way (suc j))) [
        | inl t ↦
            (let mine : HasHeard (suc j) (Turned (way (suc j)) Link ∷ before) (tick_of before) =
            link_turn j l ih before (subst (λ p. IsPast (Turned p Link ∷ before) whole) t.1 past) inner in
            let stamp : latest_turn (way (suc j)) Link (Turned (way (suc j)) Link ∷ before) ≡ tick_of before =
            rw (eq_true (way (suc j)) (way (suc j)) refl) refl in
            subst (λ p. Claim (suc j) (Turned p Link ∷ before)) (sym t.1)
            (subst (λ x. HasHeard (suc j) (Turned (way (suc j)) Link ∷ before) x) (sym stamp) mine))
        | inr t ↦ rw t.0 inner
      ]
  next_claim j l ih (Turned other task ∷ before) past =
      next_claim j l ih before (past_on before (Turned other task ∷ before) whole (later (Turned other task) before present) past)
  next_claim j l ih (Kept failed ∷ before) past =
      next_claim j l ih before (past_on before (Kept failed ∷ before) whole (later (Kept failed) before present) past)

  pub heard_at_least : (j : ℕ) → j ≤ last → (moments : List Moment) → IsPast moments whole → Claim j moments
  heard_at_least zero l moments past = first_claim moments past
  heard_at_least (suc j) l moments past = next_claim j (omega arith) (λ m p. heard_at_least j (omega arith) m p) moments past

  -- over links that were up in the last ticks, two for each link, a word is no older than that and one tick
  pub heard_by_way : (moments : List Moment) → IsPast moments whole
      → ((i y : ℕ) → i < last → 1 ≤ y → y ≤ latest_turn (way last) Link moments → latest_turn (way last) Link moments < y + 2 * last
      → is_up (link i) (up_to y whole) ≡ true) → latest_turn (way last) Link moments ≤ heard panels (way last) source moments + (2 * last + 1)
  heard_by_way moments past were =
      let t = latest_turn (way last) Link moments in
      let few = lag_few last (carries panels t source) in
      let claim = heard_at_least last (omega arith) moments past (λ i y less begin end recent. were i y less begin end (omega (arith, recent, few)))
      in
      omega (arith, claim, few)
