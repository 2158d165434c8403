-- The answers of a point, the newest first, where the last answer of all is of it.
use Rattle.std.proofs.Common.{◌≡◌, ◌∙◌, ◌-◌, ◌≤◌, ◌==◌, ◌&&◌, ℕ, suc, Bool, true, false, List, [], ◌∷◌, ◌++◌, ap, arith, filter, get_or, inl, inr, length, refl, reverse, sym, take}
use Rattle.std.proofs.Math.Seq.{take-suc}
use Rattle.std.proofs.lemmas.List.{reverse-append, take_all}
use Rattle.std.proofs.lemmas.List.Elements.{filter-append}
use Rattle.std.proofs.lemmas.Bool.Decides.{eqb_tells}
use Rattle.site_types.specs.declared.answer.Answer.{Answer}
use Rattle.coincidence_rules.specs.Counted.{is_silent}
use Rattle.coincidence_rules.specs.Missing.{begins_silent, latest_of}

last_apart : (answers : List Answer) (d : Answer) (n : ℕ) → length answers ≡ suc n → answers ≡ take n answers ++ get_or answers n d ∷ []
last_apart answers d n is =
    sym (take_all (suc n) answers (omega arith)) ∙ take-suc answers n d (omega arith)

latest_of-append : (point : ℕ) (before : List Answer) (last : Answer) → (last.point == point) ≡ true → latest_of point (before ++ last ∷ []) ≡ last
    ∷ latest_of point before
latest_of-append point before last own =
    ap reverse (filter-append (λ answer. answer.point == point) before (last ∷ []))
    ∙ reverse-append (filter (λ answer. answer.point == point) before) (filter (λ answer. answer.point == point) (last ∷ []))
    ∙ rw own refl

same_point : (a b : ℕ) → a ≡ b → (a == b) ≡ true
same_point a b is = elim (eqb_tells a b) [ inl h ↦ h.0 | inr h ↦ absurd (h.1 is) ]

module _ (answers : List Answer) (d : Answer) (n : ℕ) (is : length answers ≡ suc n) where
  pub silent_more : (count point : ℕ) → (get_or answers n d).point ≡ point
      → begins_silent (suc count) (latest_of point answers)
      ≡ (is_silent (get_or answers n d).heard && begins_silent count (latest_of point (take n answers)))
  silent_more count point own =
      ap (λ list. begins_silent (suc count) (latest_of point list)) (last_apart answers d n is)
      ∙ ap (begins_silent (suc count))
      (latest_of-append point (take n answers) (get_or answers n d) (same_point (get_or answers n d).point point own))

before_of : (n : ℕ) → 1 ≤ n → n ≡ suc (n - 1)
before_of n at = omega arith

pub silent_last : (answers : List Answer) (d : Answer) (count point : ℕ) → 1 ≤ length answers → 1 ≤ count
    → (get_or answers (length answers - 1) d).point ≡ point
    → (is_silent (get_or answers (length answers - 1) d).heard && begins_silent (count - 1) (latest_of point (take (length answers - 1) answers)))
    ≡ begins_silent count (latest_of point answers)
silent_last answers d count point there some own =
    sym (silent_more answers d (length answers - 1) (before_of (length answers) there) (count - 1) point own)
    ∙ ap (λ n. begins_silent n (latest_of point answers)) (sym (before_of count some))

pub both : (a b x y : Bool) → x ≡ true → x ≡ a → y ≡ b → y ≡ (a && b)
both a b x y on x_is y_is = y_is ∙ rw (← x_is, on) refl

pub neither : (a b x : Bool) → x ≡ false → x ≡ a → x ≡ (a && b)
neither a b x off x_is = off ∙ rw (← x_is, off) refl
