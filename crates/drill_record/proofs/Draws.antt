-- Two words are drawn for a tick.
use Rattle.std.proofs.Common.{◌≡◌, ◌∙◌, ◌+◌, ◌*◌, ℕ, suc, ap, arith, sym}
use Rattle.rand_pcg.specs.Lcg.{Lcg}
use Rattle.rand_pcg.specs.Pcg.{pcg32}
use Rattle.drill_record.specs.declared.drawn.Drawn.{Drawn}
use Rattle.drill_record.specs.Records.{after_words, drawn_by, word_behind}
use Rattle.drill_record.specs.Stands.{DrawsNext}

after_one : (seed n m : ℕ) → m ≡ n + 1 → after_words seed m ≡ (pcg32 (after_words seed n)).1
after_one seed n m e = let next : m ≡ suc n = omega (arith, e) in ap (after_words seed) next

pub draws : (seed ticks : ℕ) (old middle last : Lcg) (first second : ℕ) (drawn : Drawn) → old ≡ after_words seed (2 * ticks)
    → (first, middle) ≡ pcg32 old → (second, last) ≡ pcg32 middle → drawn ≡ drawn_by first second
    → DrawsNext seed ticks drawn (record { draws = last })
draws seed ticks old middle last first second drawn stood drew more is =
    let one : middle ≡ after_words seed (2 * ticks + 1) =
    ap (λ (p : ℕ × Lcg). p.1) drew ∙ ap (λ g. (pcg32 g).1) stood ∙ sym (after_one seed (2 * ticks) (2 * ticks + 1) (omega arith)) in
    record {
      drew =
          is
          ∙ ap (λ w. drawn_by w second) (ap (λ (p : ℕ × Lcg). p.0) drew ∙ ap (λ g. (pcg32 g).0) stood)
          ∙ ap (drawn_by (word_behind seed (2 * ticks))) (ap (λ (p : ℕ × Lcg). p.0) more ∙ ap (λ g. (pcg32 g).0) one);
      stands =
          ap (λ (p : ℕ × Lcg). p.1) more
          ∙ ap (λ g. (pcg32 g).1) one
          ∙ sym (after_one seed (2 * ticks + 1) (2 * (ticks + 1)) (omega arith));
    }
