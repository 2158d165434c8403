-- How calls of a disk follow one another: laws of what a crash at any moment since leaves.
use Rattle.std.proofs.Common.{inl, inr, ⊎_elim, ℕ, List, arith}
use Rattle.panel_edges.specs.Crashes.{Elapses, LeavesOnly}

module _ {D : Type 0} (moment : D → ℕ) (left_since : D → ℕ → List ℕ → Type 0) where
  -- no call at all
  pub stays : (disk : D) (P : List ℕ → Type 0) → ((c : List ℕ) → left_since disk (moment disk) c → P c) → LeavesOnly moment left_since disk disk P
  stays disk P here = record { later = omega arith; each = here; before = λ t c le left. inl left }

  -- one call
  pub one_call : (old new : D) (P images : List ℕ → Type 0) → ((c : List ℕ) → left_since old (moment old) c → P c)
      → Elapses (moment old) (moment new) (left_since old) (left_since new) images → ((c : List ℕ) → images c → P c)
      → LeavesOnly moment left_since old new P
  one_call old new P images start time here = record {
    later = time.later;
    each = λ c left. ⊎_elim (start c) (here c) (time.nothing_else (moment old) c (omega arith) left);
    before = λ t c le left. ⊎_elim (λ past. inl past) (λ brought. inr (here c brought)) (time.nothing_else t c le left);
  }

  -- one part after another
  pub then_more : (old mid new : D) (P : List ℕ → Type 0) → LeavesOnly moment left_since old mid P → LeavesOnly moment left_since mid new P
      → LeavesOnly moment left_since old new P
  then_more old mid new P first second = record {
    later = omega (arith, first.later, second.later);
    each = λ c left. ⊎_elim (first.each c) (λ p. p) (second.before (moment old) c first.later left);
    before = λ t c le left. ⊎_elim (first.before t c le) (λ p. inr p) (second.before t c (omega (arith, le, first.later)) left);
  }

  -- what has P has Q
  pub weaker : (old new : D) (P Q : List ℕ → Type 0) → ((c : List ℕ) → P c → Q c) → LeavesOnly moment left_since old new P
      → LeavesOnly moment left_since old new Q
  weaker old new P Q f l = record {
    later = l.later;
    each = λ c left. f c (l.each c left);
    before = λ t c le left. ⊎_elim (λ past. inl past) (λ p. inr (f c p)) (l.before t c le left);
  }
