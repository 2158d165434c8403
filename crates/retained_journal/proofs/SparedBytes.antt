-- What each write of a journal spares: the bytes that an image needs.
use Rattle.std.proofs.Common.{inl, inr, ◌≡◌, ◌⊎◌, ◌+◌, ◌*◌, ◌<◌, ◌≤◌, ℕ, Bool, true, false, sym, subst, arith}
use Rattle.std.specs.Prelude.{not, MatchBool}
use Rattle.retained_journal.specs.declared.journal.Journal.{Journal}
use Rattle.retained_journal.specs.declared.log_gate.LogGate.TheVariants.{Shut, Ready}
use Rattle.retained_journal.specs.Places.{slot_place}
use Rattle.retained_journal.specs.Places.{bytes_of_slot, bytes_of_cell, front_bytes, first_slot, most_cells}
use Rattle.retained_journal.proofs.Lengths.{bytes_of_slot_body}
use Rattle.retained_journal.specs.Images.{MayCount, chosen_of, next_of, other_of}
use Rattle.retained_journal.proofs.Torn.{Apart, Spares}

when_true : (b : Bool) (P Q : Type 0) → b ≡ true → P → MatchBool b P Q
when_true true P Q is p = p
when_true false P Q is p = absurd (cc)

when_false : (b : Bool) (P Q : Type 0) → b ≡ false → Q → MatchBool b P Q
when_false false P Q is q = q
when_false true P Q is q = absurd (cc)

-- the two slots lie apart, behind the log gate and before the cells
pub record SlotsApart (second : Bool) : Type 0 where
  pub apart : (slot_place (not second) + bytes_of_slot ≤ slot_place second) ⊎ (slot_place second + bytes_of_slot ≤ slot_place (not second))
  pub low : first_slot ≤ slot_place (not second)
  pub high : slot_place (not second) + bytes_of_slot ≤ front_bytes
  pub chosen_high : slot_place second + bytes_of_slot ≤ front_bytes

pub slots_apart : (second : Bool) → SlotsApart second
slots_apart true = record { apart = inl (omega arith); low = omega arith; high = omega arith; chosen_high = omega arith }
slots_apart false = record { apart = inr (omega arith); low = omega arith; high = omega arith; chosen_high = omega arith }

either_behind : (b : Bool) (P Q : Type 0) → P → Q → MatchBool b P Q
either_behind true P Q p q = p
either_behind false P Q p q = q

module _ (j : Journal) where
  in_other : (at n : ℕ) → other_of j ≤ at → at + n ≤ other_of j + bytes_of_slot
      → MatchBool j.slot_may_be_open (Apart at n (other_of j + 1) bytes_of_slot_body) (Apart at n (other_of j) 1) → Spares j at n
  in_other at n from to apart =
      let slots = slots_apart j.second in
      record {
        front = let l = slots.low in omega (arith, l, from);
        log_gate_apart = inr (let l = slots.low in omega (arith, l, from));
        slot = chosen slots.apart;
        cells_apart = inr (inr (let h = slots.high in omega (arith, h, to)));
        next_apart =
            λ may free. either_behind j.cell_may_be_open _ _ (inr (let h = slots.high in omega (arith, h, to)))
            (inr (let h = slots.high in omega (arith, h, to)));
        other_apart = apart;
      }
    where
      chosen : (slot_place (not j.second) + bytes_of_slot ≤ slot_place j.second) ⊎ (slot_place j.second + bytes_of_slot ≤ slot_place (not j.second))
          → Apart at n (chosen_of j) bytes_of_slot
      chosen (inl before) = inr (omega (arith, before, to))
      chosen (inr behind) = inl (omega (arith, behind, from))

  pub spares_other_gate : (at : ℕ) → at ≡ other_of j → j.slot_may_be_open ≡ true → Spares j at 1
  spares_other_gate at there is = subst (λ (n : ℕ). Spares j n 1) (sym there) (in_other (other_of j) 1 (omega arith) (omega arith)
      (when_true j.slot_may_be_open _ _ is (inr (omega arith))))

  pub spares_other_body : (at n : ℕ) → at ≡ other_of j → n ≡ bytes_of_slot_body → j.slot_may_be_open ≡ false → Spares j (at + 1) n
  spares_other_body at n there long is =
      subst (λ (m : ℕ). Spares j (at + 1) m) (sym long)
      (subst (λ (k : ℕ). Spares j (k + 1) bytes_of_slot_body) (sym there)
      (in_other (other_of j + 1) bytes_of_slot_body (omega arith) (omega arith) (when_false j.slot_may_be_open _ _ is (inl (omega arith)))))

  -- a write behind the front
  in_cells : (at n : ℕ) → front_bytes ≤ at → ((j.log ≡ Shut) ⊎ Apart at n front_bytes (bytes_of_cell * j.cells))
      → (MayCount j.log → j.cells < most_cells → MatchBool j.cell_may_be_open (Apart at n (next_of j + 1) bytes_of_cell) (Apart at n (next_of j) 1)) → Spares j at n
  in_cells at n from cells next =
      let slots = slots_apart j.second in
      record {
        front = omega (arith, from);
        log_gate_apart = inr (omega (arith, from));
        slot = inl (let h = slots.chosen_high in omega (arith, h, from));
        cells_apart = cells;
        next_apart = next;
        other_apart =
            either_behind j.slot_may_be_open _ _ (inl (let h = slots.high in omega (arith, h, from)))
            (inl (let h = slots.high in omega (arith, h, from)));
      }

  pub spares_next_gate : (at : ℕ) → at ≡ next_of j → j.cell_may_be_open ≡ true → Spares j at 1
  spares_next_gate at there is =
      subst (λ (n : ℕ). Spares j n 1) (sym there)
      (in_cells (next_of j) 1 (omega arith) (inr (inl (omega arith))) (λ may free. when_true j.cell_may_be_open _ _ is (inr (omega arith))))

  pub spares_next_body : (at n : ℕ) → at ≡ next_of j → n ≡ bytes_of_cell → j.cell_may_be_open ≡ false → Spares j (at + 1) n
  spares_next_body at n there long is =
      subst (λ (m : ℕ). Spares j (at + 1) m) (sym long)
      (subst (λ (k : ℕ). Spares j (k + 1) bytes_of_cell) (sym there)
      (in_cells (next_of j + 1) bytes_of_cell (omega arith) (inr (inl (omega arith)))
      (λ may free. when_false j.cell_may_be_open _ _ is (inl (omega arith)))))

  pub spares_cells : (at n : ℕ) → j.log ≡ Shut → front_bytes ≤ at → Spares j at n
  spares_cells at n shut from = in_cells at n from (inl shut) (λ may free. absurd (subst MayCount shut may))

  pub spares_log : j.log ≡ Ready → Spares j 40 1
  spares_log ready =
      let slots = slots_apart j.second in
      record {
        front = omega arith;
        log_gate_apart = inl ready;
        slot = inr (low_chosen j.second);
        cells_apart = inr (inr (omega arith));
        next_apart = λ may free. either_behind j.cell_may_be_open _ _ (inr (omega arith)) (inr (omega arith));
        other_apart =
            either_behind j.slot_may_be_open _ _ (inr (let l = slots.low in omega (arith, l))) (inr (let l = slots.low in omega (arith, l)));
      }
    where
      low_chosen : (b : Bool) → 41 ≤ slot_place b
      low_chosen true = omega arith
      low_chosen false = omega arith
