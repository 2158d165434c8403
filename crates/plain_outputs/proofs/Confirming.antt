-- Confirmations of a run, and how long it has lasted.
use Rattle.std.proofs.Common.{sym, ◌≡◌, ◌<◌, ◌≤◌, ◌+◌, ◌||◌, max, ℕ, Bool, true, false, List, [], ◌∷◌, Some, None, inl, inr, refl, ◌∙◌, ap, arith, add-one}
use Rattle.std.specs.Prelude.{nat_le, nat_lt}
use Rattle.std.specs.List.{list_any}
use Rattle.site_types.proofs.Done.{lt_tells}
use Rattle.panel_rules.specs.Outputs.{has_lasted, is_confirmed_in}
use Rattle.plain_outputs.specs.Drives.{greatest, newest}

less_is : (a b : ℕ) → a < b → nat_lt a b ≡ true
less_is a b h = elim (lt_tells a b) [ inl t ↦ t.0 | inr t ↦ absurd (omega (arith, h, t.1)) ]

not_less : (a b : ℕ) → b ≤ a → nat_lt a b ≡ false
not_less a b h = elim (lt_tells a b) [ inl t ↦ absurd (omega (arith, h, t.1)) | inr t ↦ t.0 ]

before_greater : (a t g : ℕ) → nat_lt a (max t g) ≡ (nat_lt a t || nat_lt a g)
before_greater a t g =
    elim (lt_tells a t) [
      | inl h ↦ (let l = h.1 in rw h.0 (less_is a (max t g) (omega (arith, l))))
      | inr h ↦
          elim (lt_tells a g) [
            | inl k ↦ (let l = k.1 in rw (h.0, k.0) (less_is a (max t g) (omega (arith, l))))
            | inr k ↦ (let m = h.1 in let l = k.1 in rw (h.0, k.0) (not_less a (max t g) (omega (arith, m, l))))
          ]
    ]

before_some : (first : ℕ) (ticks : List ℕ) → nat_lt first (greatest ticks) ≡ list_any (nat_lt first) ticks
before_some first [] = not_less first 0 (omega arith)
before_some first (tick ∷ ticks) = before_greater first tick (greatest ticks) ∙ ap (λ (b : Bool). nat_lt first tick || b) (before_some first ticks)

-- a run was confirmed where one of its ticks came before the greatest tick of a confirmation
pub confirmed_by_last : (run ticks : List ℕ) → list_any (λ first. nat_le (first + 1) (greatest ticks)) run ≡ is_confirmed_in run ticks
confirmed_by_last [] ticks = refl
confirmed_by_last (first ∷ run) ticks =
    let one : nat_le (first + 1) (greatest ticks) ≡ list_any (nat_lt first) ticks = rw add-one (before_some first ticks) in
    let rest = confirmed_by_last run ticks in
    rw (one, rest) refl

pub no_run_lasts : (limit : ℕ) (run : List ℕ) → newest run ≡ None → false ≡ has_lasted limit run
no_run_lasts limit [] none = refl
no_run_lasts limit (latest ∷ run) none = cc

pub run_lasts : (limit latest : ℕ) (run : List ℕ) → newest run ≡ Some latest
    → list_any (λ first. nat_le (first + limit) latest) run ≡ has_lasted limit run
run_lasts limit latest [] is = cc
run_lasts limit latest (newer ∷ run) is = let same : latest ≡ newer =
    cc in ap (λ (tick : ℕ). list_any (λ first. nat_le (first + limit) tick) (newer ∷ run)) same

none_before : (run : List ℕ) (last : ℕ) → last ≤ 0 → list_any (λ first. nat_le (first + 1) last) run ≡ false
none_before [] last least = refl
none_before (first ∷ run) last least =
    let one : nat_le (first + 1) last ≡ false = rw add-one (not_less first last (omega (arith, least))) in
    let rest = none_before run last least in
    rw (one, rest) refl

-- with no confirmation after tick 0 no run was confirmed
pub never_confirmed : (run ticks : List ℕ) (last : ℕ) → last ≡ greatest ticks → last ≤ 0 → nat_lt 0 last ≡ is_confirmed_in run ticks
never_confirmed run ticks last is least =
    let last_least : greatest ticks ≤ 0 = omega (arith, is, least) in
    not_less 0 last least ∙ sym (none_before run (greatest ticks) last_least) ∙ confirmed_by_last run ticks
