use Rattle.std.proofs.Common.{◌≡◌, ◌<◌, ◌-◌, ℕ, zero, suc, true, false, [], ◌∷◌, length, refl, arith}
use Rattle.std.proofs.lemmas.List.{get_or_past}
use Rattle.panel_core.specs.Marks.{is_marked}
use Rattle.panel_core.proofs.system.System.mark_all.Goals as goal

-- where the marks of eight panels are raised none of theirs isn't
beyond : (other : ℕ) → is_marked (true ∷ true ∷ true ∷ true ∷ true ∷ true ∷ true ∷ true ∷ []) other ≡ false → 8 < other
beyond zero e = absurd (cc)
beyond (suc zero) e = absurd (cc)
beyond (suc (suc zero)) e = absurd (cc)
beyond (suc (suc (suc zero))) e = absurd (cc)
beyond (suc (suc (suc (suc zero)))) e = absurd (cc)
beyond (suc (suc (suc (suc (suc zero))))) e = absurd (cc)
beyond (suc (suc (suc (suc (suc (suc zero)))))) e = absurd (cc)
beyond (suc (suc (suc (suc (suc (suc (suc zero))))))) e = absurd (cc)
beyond (suc (suc (suc (suc (suc (suc (suc (suc zero)))))))) e = absurd (cc)
beyond (suc (suc (suc (suc (suc (suc (suc (suc (suc n))))))))) e = omega arith

pub returns-then-differ : goal.returns-then-differ
returns-then-differ c = record {
  rest = refl;
  unmarked = λ other clear.
      let past = beyond other clear in
      let size : length c.args.self.now.changed ≡ 8 = omega arith in
      get_or_past c.args.self.now.changed (other - 1) false (omega (arith, past, size));
  same = λ other from to clear. let past = beyond other clear in absurd (omega (arith, past, to));
}
