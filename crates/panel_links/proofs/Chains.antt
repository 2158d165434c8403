-- The newest word over all chains is the one that is kept turn by turn.
use Rattle.std.proofs.Common.{◌≡◌, ◌⊎◌, inl, inr, ℕ, ◌<◌, ◌≤◌, nat_lt, Bool, true, false, List, [], ◌∷◌, if◌then◌else◌, ◌==◌, ◌&&◌, refl, sym, ◌∙◌, ap, subst, arith, ⊎_elim}
use Rattle.std.proofs.lemmas.Bool.{and_parts, cases_Bool, cases_eq, eq-eqb, lt-ltb, ltb-false, ltb-true, ne_eqb}
use Rattle.site_types.specs.declared.word.Word.{Word}
use Rattle.panel_links.specs.Words.{AreJoined, Call, Comes, IsNewest, Linked, OwnStampsRise, Took, begins, carries, is_up, lasts, left_of, own_stamp, passes, right_of}
use Rattle.site_types.specs.Words.{empty_word}
use Rattle.panel_links.specs.Kept.{after_turn, after_word, comes_over, kept_word, newest}

-- the newer of two words is one of them, and neither is newer than it
newest_keeps : (k w : Word) → k.stamp.0 ≤ (newest k w).stamp.0
newest_keeps k w = elim (cases_Bool (nat_lt k.stamp.0 w.stamp.0)) [
  | inl less ↦ (let lt = ltb-true k.stamp.0 w.stamp.0 less in rw less (omega arith))
  | inr more ↦ rw more (omega arith)
]

newest_takes : (k w : Word) → w.stamp.0 ≤ (newest k w).stamp.0
newest_takes k w = elim (cases_Bool (nat_lt k.stamp.0 w.stamp.0)) [
  | inl less ↦ rw less (omega arith)
  | inr more ↦ (let le = ltb-false k.stamp.0 w.stamp.0 more in rw more (omega arith))
]

newest_within : (k w : Word) (n : ℕ) → k.stamp.0 ≤ n → w.stamp.0 ≤ n → (newest k w).stamp.0 ≤ n
newest_within k w n p q = elim (cases_Bool (nat_lt k.stamp.0 w.stamp.0)) [ inl less ↦ rw less q | inr more ↦ rw more p ]

-- the same of a word that may come
pub after_keeps : (b : Bool) (k w : Word) → k.stamp.0 ≤ (after_word b k w).stamp.0
after_keeps true k w = newest_keeps k w
after_keeps false k w = omega arith

after_takes : (b : Bool) (k w : Word) → b ≡ true → w.stamp.0 ≤ (after_word b k w).stamp.0
after_takes true k w e = newest_takes k w
after_takes false k w e = absurd cc

after_within : (b : Bool) (k w : Word) (n : ℕ) → k.stamp.0 ≤ n → w.stamp.0 ≤ n → (after_word b k w).stamp.0 ≤ n
after_within true k w n p q = newest_within k w n p q
after_within false k w n p q = p

-- what a turn makes, whatever comes
module _ (panels tick from : ℕ) (left_up right_up : Bool) (own left right : Word) where
  turn_keeps : own.stamp.0 ≤ (after_turn panels tick from left_up right_up own left right).stamp.0
  turn_keeps =
      omega (
        arith,
        after_keeps (comes_over panels tick from left_up) own left,
        after_keeps (comes_over panels tick from right_up) (after_word (comes_over panels tick from left_up) own left) right,
      )

  turn_takes_right : comes_over panels tick from right_up ≡ true
      → right.stamp.0 ≤ (after_turn panels tick from left_up right_up own left right).stamp.0
  turn_takes_right comes = after_takes (comes_over panels tick from right_up) (after_word (comes_over panels tick from left_up) own left) right comes

  turn_takes_left : comes_over panels tick from left_up ≡ true → left.stamp.0 ≤ (after_turn panels tick from left_up right_up own left right).stamp.0
  turn_takes_left comes =
      omega (
        arith,
        after_takes (comes_over panels tick from left_up) own left comes,
        after_keeps (comes_over panels tick from right_up) (after_word (comes_over panels tick from left_up) own left) right,
      )

  turn_within : (n : ℕ) → own.stamp.0 ≤ n → left.stamp.0 ≤ n → right.stamp.0 ≤ n
      → (after_turn panels tick from left_up right_up own left right).stamp.0 ≤ n
  turn_within n p q r =
      after_within (comes_over panels tick from right_up) (after_word (comes_over panels tick from left_up) own left) right n
      (after_within (comes_over panels tick from left_up) own left n p q) r

pub comes_if : (panels tick from : ℕ) (up : Bool) → 1 < panels → up ≡ true → carries panels tick from ≡ true → comes_over panels tick from up ≡ true
comes_if panels tick from up several u c = let s : nat_lt 1 panels ≡ true = lt-ltb 1 panels several in rw (s, u, c) refl

module _ (panels from : ℕ) where
  -- the recursion at a turn of the panel itself, and of another
  pub kept_own : (at tick panel : ℕ) (own : Word) (before : List Call) → panel ≡ at
      → kept_word panels from at (Took tick panel own ∷ before) ≡ after_turn panels tick from (is_up (left_of panels at) before) (is_up at before)
      (if from == at then own else kept_word panels from at before) (kept_word panels from (left_of panels at) before)
      (kept_word panels from (right_of panels at) before)
  kept_own at tick panel own before same = rw (eq-eqb panel at same) refl

  pub kept_other : (at tick panel : ℕ) (own : Word) (before : List Call) → (panel ≡ at → ⊥)
      → kept_word panels from at (Took tick panel own ∷ before) ≡ kept_word panels from at before
  kept_other at tick panel own before apart = rw (ne_eqb panel at apart) refl

  -- nobody keeps a word of a panel that is newer than its last own one
  own_rises : (tick panel : ℕ) (own : Word) (before : List Call) → own_stamp panel before ≤ own.stamp.0
      → own_stamp from before ≤ own_stamp from (Took tick panel own ∷ before)
  own_rises tick panel own before rise = elim (cases_eq panel from) [
    | inl same ↦ (let test : (panel == from) ≡ true = eq-eqb panel from same in let e = ap (λ p. own_stamp p before) same in rw test (omega arith))
    | inr apart ↦ (let test : (panel == from) ≡ false = ne_eqb panel from apart in rw test (omega arith))
  ]

  own_here : (tick at : ℕ) (own kept : Word) (before : List Call) → kept.stamp.0 ≤ own_stamp from (Took tick at own ∷ before)
      → (if from == at then own else kept).stamp.0 ≤ own_stamp from (Took tick at own ∷ before)
  own_here tick at own kept before h = elim (cases_eq from at) [
    | inl same ↦ (let test : (from == at) ≡ true = eq-eqb from at same in let test2 : (at == from) ≡ true = eq-eqb at from (sym same) in
        rw (test, test2) (omega arith))
    | inr apart ↦ (let test : (from == at) ≡ false = ne_eqb from at apart in rw test h)
  ]

  pub kept_within : (at : ℕ) (before : List Call) → OwnStampsRise before → (kept_word panels from at before).stamp.0 ≤ own_stamp from before
  kept_within at [] rise = omega arith
  kept_within at (Linked link up ∷ before) rise = kept_within at before rise
  kept_within at (Took tick panel own ∷ before) rise =
      let rises = own_rises tick panel own before rise.0 in
      let here = kept_within at before rise.1 in
      let left = kept_within (left_of panels at) before rise.1 in
      let right = kept_within (right_of panels at) before rise.1 in
      elim (cases_eq panel at) [
        | inl same ↦ rw (kept_own at tick panel own before same)
            (turn_within panels tick from (is_up (left_of panels at) before) (is_up at before)
            (if from == at then own else kept_word panels from at before) (kept_word panels from (left_of panels at) before)
            (kept_word panels from (right_of panels at) before) (own_stamp from (Took tick panel own ∷ before))
            (subst (λ p. (if from == at then own else kept_word panels from at before).stamp.0 ≤ own_stamp from (Took tick p own ∷ before)) (sym same)
            (own_here tick at own (kept_word panels from at before) before
            (subst (λ p. (kept_word panels from at before).stamp.0 ≤ own_stamp from (Took tick p own ∷ before)) same
            (omega (arith, here, rises)))))
            (omega (arith, left, rises)) (omega (arith, right, rises)))
        | inr apart ↦ rw (kept_other at tick panel own before apart) (omega (arith, here, rises))
      ]

  -- what is kept is never replaced by an older word
  own_or_kept : (tick at : ℕ) (own : Word) (before : List Call) → OwnStampsRise (Took tick at own ∷ before)
      → (kept_word panels from at before).stamp.0 ≤ (if from == at then own else kept_word panels from at before).stamp.0
  own_or_kept tick at own before rise = elim (cases_eq from at) [
    | inl same ↦ (let test : (from == at) ≡ true = eq-eqb from at same in let w = kept_within at before rise.1 in let e =
        ap (λ p. own_stamp p before) same in let r = rise.0 in rw test (omega arith))
    | inr apart ↦ (let test : (from == at) ≡ false = ne_eqb from at apart in rw test (omega arith))
  ]

  pub keeps_on : (at tick panel : ℕ) (own : Word) (before : List Call) → OwnStampsRise (Took tick panel own ∷ before)
      → (kept_word panels from at before).stamp.0 ≤ (kept_word panels from at (Took tick panel own ∷ before)).stamp.0
  keeps_on at tick panel own before rise = elim (cases_eq panel at) [
    | inl same ↦ rw (kept_own at tick panel own before same)
        (omega (
          arith,
          own_or_kept tick at own before (subst (λ p. OwnStampsRise (Took tick p own ∷ before)) same rise),
          turn_keeps panels tick from (is_up (left_of panels at) before) (is_up at before)
              (if from == at then own else kept_word panels from at before) (kept_word panels from (left_of panels at) before)
              (kept_word panels from (right_of panels at) before),
        ))
    | inr apart ↦ rw (kept_other at tick panel own before apart) (omega arith)
  ]

  -- no chain brings a newer word
  pub at_most : (at : ℕ) (before : List Call) (word : Word) → OwnStampsRise before → Comes panels from at before word
      → word.stamp.0 ≤ (kept_word panels from at before).stamp.0
  at_most at before word rise (begins tick own rest) =
      rw (kept_own from tick from own rest refl)
      (let test : (from == from) ≡ true = eq-eqb from from refl in
      rw test (turn_keeps panels tick from (is_up (left_of panels from) rest) (is_up from rest) own (kept_word panels from (left_of panels from) rest)
      (kept_word panels from (right_of panels from) rest)))
  at_most at before word rise (passes one other tick own word' rest c joined carried) =
      let less = at_most one rest word' rise.1 c in
      rw (kept_own other tick other own rest refl)
      (elim joined.over_link [
        | inl right ↦
            (let takes =
            turn_takes_right panels tick from (is_up (left_of panels other) rest) (is_up other rest)
            (if from == other then own else kept_word panels from other rest) (kept_word panels from (left_of panels other) rest)
            (kept_word panels from (right_of panels other) rest) (comes_if panels tick from (is_up other rest) joined.several right.1 carried) in
            let same = ap (λ p. (kept_word panels from p rest).stamp.0) right.0 in
            omega (arith, less, takes, same))
        | inr left ↦ (let up : is_up (left_of panels other) rest ≡ true = ap (λ p. is_up p rest) (sym left.0) ∙ left.1 in
            let takes =
            turn_takes_left panels tick from (is_up (left_of panels other) rest) (is_up other rest)
            (if from == other then own else kept_word panels from other rest) (kept_word panels from (left_of panels other) rest)
            (kept_word panels from (right_of panels other) rest)
            (comes_if panels tick from (is_up (left_of panels other) rest) joined.several up carried) in
            let same = ap (λ p. (kept_word panels from p rest).stamp.0) left.0 in
            omega (arith, less, takes, same))
      ])
  at_most at before word rise (lasts at' word' (Linked link up) rest c) = at_most at' rest word' rise c
  at_most at before word rise (lasts at' word' (Took tick panel own) rest c) =
      omega (arith, at_most at' rest word' rise.1 c, keeps_on at' tick panel own rest rise)

  -- a word comes by a chain, or is the empty one
  abbrev HasCome : ℕ → List Call → Word → Type 0
  HasCome at before word = Comes panels from at before word ⊎ (word ≡ empty_word)

  newest_comes : (at : ℕ) (before : List Call) (k w : Word) → HasCome at before k → HasCome at before w → HasCome at before (newest k w)
  newest_comes at before k w p q = elim (cases_Bool (nat_lt k.stamp.0 w.stamp.0)) [ inl less ↦ rw less q | inr more ↦ rw more p ]

  after_comes : (at : ℕ) (before : List Call) (b : Bool) (k w : Word) → HasCome at before k → (b ≡ true → HasCome at before w)
      → HasCome at before (after_word b k w)
  after_comes at before true k w p q = newest_comes at before k w p (q refl)
  after_comes at before false k w p q = p

  later_comes : (at : ℕ) (call : Call) (rest : List Call) (word : Word) → HasCome at rest word → HasCome at (call ∷ rest) word
  later_comes at call rest word h = ⊎_elim (λ c. inl (lasts at word call rest c)) (λ z. inr z) h

  passed_comes : (at near tick : ℕ) (own : Word) (rest : List Call) (up : Bool) (word : Word) → comes_over panels tick from up ≡ true
      → (1 < panels → up ≡ true → AreJoined panels rest at near) → HasCome near rest word → HasCome at (Took tick at own ∷ rest) word
  passed_comes at near tick own rest up word comes joined (inl c) =
      let parts = and_parts (nat_lt 1 panels) (up && carries panels tick from) comes in
      let more = and_parts up (carries panels tick from) parts.1 in
      inl (passes near at tick own word rest c (joined (ltb-true 1 panels parts.0) more.0) more.1)
  passed_comes at near tick own rest up word comes joined (inr none) = inr none

  own_comes : (at tick : ℕ) (own : Word) (rest : List Call) → HasCome at rest (kept_word panels from at rest)
      → HasCome at (Took tick at own ∷ rest) (if from == at then own else kept_word panels from at rest)
  own_comes at tick own rest h = elim (cases_eq from at) [
    | inl same ↦ (let test : (from == at) ≡ true = eq-eqb from at same in
        rw test (inl (subst (λ p. Comes panels from p (Took tick p own ∷ rest) own) same (begins tick own rest))))
    | inr apart ↦ (let test : (from == at) ≡ false = ne_eqb from at apart in
        rw test (later_comes at (Took tick at own) rest (kept_word panels from at rest) h))
  ]

  turned_comes : (at tick : ℕ) (own : Word) (rest : List Call) → HasCome at rest (kept_word panels from at rest)
      → HasCome (left_of panels at) rest (kept_word panels from (left_of panels at) rest)
      → HasCome (right_of panels at) rest (kept_word panels from (right_of panels at) rest)
      → HasCome at (Took tick at own ∷ rest) (kept_word panels from at (Took tick at own ∷ rest))
  turned_comes at tick own rest here left right =
      rw (kept_own at tick at own rest refl)
      (after_comes at (Took tick at own ∷ rest) (comes_over panels tick from (is_up at rest))
      (after_word (comes_over panels tick from (is_up (left_of panels at) rest)) (if from == at then own else kept_word panels from at rest)
      (kept_word panels from (left_of panels at) rest)) (kept_word panels from (right_of panels at) rest)
      (after_comes at (Took tick at own ∷ rest) (comes_over panels tick from (is_up (left_of panels at) rest))
      (if from == at then own else kept_word panels from at rest) (kept_word panels from (left_of panels at) rest)
      (own_comes at tick own rest here)
      (λ comes. passed_comes at (left_of panels at) tick own rest (is_up (left_of panels at) rest) (kept_word panels from (left_of panels at) rest)
      comes (λ several up. record { several = several; over_link = inr (refl, up) }) left))
      (λ comes. passed_comes at (right_of panels at) tick own rest (is_up at rest) (kept_word panels from (right_of panels at) rest) comes
      (λ several up. record { several = several; over_link = inl (refl, up) }) right))

  pub came : (at : ℕ) (before : List Call) → HasCome at before (kept_word panels from at before)
  came at [] = inr refl
  came at (Linked link up ∷ rest) = later_comes at (Linked link up) rest (kept_word panels from at rest) (came at rest)
  came at (Took tick panel own ∷ rest) =
      let here = came at rest in
      let left = came (left_of panels at) rest in
      let right = came (right_of panels at) rest in
      elim (cases_eq panel at) [
        | inl same ↦ subst (λ p. HasCome at (Took tick p own ∷ rest) (kept_word panels from at (Took tick p own ∷ rest))) (sym same)
            (turned_comes at tick own rest here left right)
        | inr apart ↦ rw (kept_other at tick panel own rest apart) (later_comes at (Took tick panel own) rest (kept_word panels from at rest) here)
      ]

  -- the word that is kept is the newest over all chains
  pub kept_is_newest : (at : ℕ) (before : List Call) → OwnStampsRise before → IsNewest panels from at before (kept_word panels from at before)
  kept_is_newest at before rise = record { comes = came at before; greatest = λ other comes. at_most at before other rise comes }
