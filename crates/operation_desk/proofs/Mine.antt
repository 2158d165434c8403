-- The operations of a panel in a tick: the first four, and those that find it busy.
use Rattle.std.proofs.Common.{◌≡◌, ℕ, zero, suc, ◌+◌, ◌-◌, ◌≤◌, ◌<◌, ◌==◌, ◌&&◌, Bool, true, false, not, List, []}
use Rattle.std.proofs.Common.{◌∷◌, ◌++◌, length, Some, slice_get, if◌then◌else◌, inl, inr, refl, sym, ◌∙◌, ap}
use Rattle.std.proofs.Common.{subst, arith}
use Rattle.std.specs.Prelude.{filter, nat_le, nat_lt, option_map}
use Rattle.std.proofs.lemmas.Bool.Decides.{eqb_tells, leb_tells}
use Rattle.std.proofs.lemmas.List.Elements.{filter-append}
use Rattle.site_types.specs.declared.event.Event.TheVariants.{Op, Point, Cable, Supply, Link, Confirmed}
use Rattle.site_types.specs.declared.site.Site.{Site}
use Rattle.site_types.specs.Limits.{most_operations}
use Rattle.site_types.proofs.Done.{lt_tells}
use Rattle.access_levels.specs.Levels.{level_of}
use Rattle.panel_rules.specs.Moments.{Moment, Began, Happened, Turned, Kept, tick_of}
use Rattle.panel_rules.specs.Operations.{Request, request_of, requests, requests_in}
use Rattle.panel_rules.proofs.Counting.{count}
use Rattle.panel_rules.proofs.Places.{get_either}
use Rattle.operation_desk.specs.Requests.{is_early}

-- in a list each comes after as many as its place says, from some number on
abbrev pub AreCounted : ℕ → List Request → Type 0
AreCounted past xs = (k : ℕ) (r : Request) → slice_get xs k ≡ Some r → r.earlier ≡ past + k

next_counted : (past : ℕ) (r : Request) (xs : List Request) → AreCounted past (r ∷ xs) → AreCounted (past + 1) xs
next_counted past r xs h k x e = let m = h (suc k) x e in omega (arith, m)

abbrev pub is_first : Request → Bool
is_first r = nat_lt r.earlier most_operations

late : (n : ℕ) → 4 ≤ n → nat_lt n 4 ≡ false
late n l = elim (lt_tells n 4) [ inl h ↦ (let m = h.1 in absurd (omega (arith, l, m))) | inr h ↦ h.0 ]

soon : (n : ℕ) → n < 4 → nat_lt n 4 ≡ true
soon n l = elim (lt_tells n 4) [ inl h ↦ h.0 | inr h ↦ (let m = h.1 in absurd (omega (arith, l, m))) ]

none_first : (past : ℕ) (xs : List Request) → 4 ≤ past → AreCounted past xs → filter is_first xs ≡ []
none_first past [] l h = refl
none_first past (r ∷ xs) l h =
    let here = h 0 r refl in
    rw (late r.earlier (omega (arith, here, l))) (none_first (past + 1) xs (omega (arith, l)) (next_counted past r xs h))

all_late : (past : ℕ) (xs : List Request) → 4 ≤ past → AreCounted past xs → filter (λ r. not (is_first r)) xs ≡ xs
all_late past [] l h = refl
all_late past (r ∷ xs) l h =
    let here = h 0 r refl in
    rw (late r.earlier (omega (arith, here, l))) (ap (λ ys. r ∷ ys) (all_late (past + 1) xs (omega (arith, l)) (next_counted past r xs h)))

-- the first of a panel come before those that find it busy
pub firsts_first : (past : ℕ) (xs : List Request) → AreCounted past xs → xs ≡ filter is_first xs ++ filter (λ r. not (is_first r)) xs
firsts_first past [] h = refl
firsts_first past (r ∷ xs) h =
    elim (lt_tells past 4) [
      | inl t ↦
          (let l = t.1 in
          let here = h 0 r refl in
          let ih = firsts_first (past + 1) xs (next_counted past r xs h) in
          rw (soon r.earlier (omega (arith, here, l))) (ap (λ ys. r ∷ ys) ih))
      | inr t ↦
          (let l = t.1 in
          sym (ap (λ ys. ys ++ filter (λ r. not (is_first r)) (r ∷ xs)) (none_first past (r ∷ xs) (omega (arith, l)) h)
          ∙ all_late past (r ∷ xs) (omega (arith, l)) h))
    ]

-- how many find it busy
pub late_count : (past : ℕ) (xs : List Request) → AreCounted past xs
    → count (λ (r : Request). nat_le most_operations r.earlier) xs ≡ past + length xs - 4 - (past - 4)
late_count past [] h = omega arith
late_count past (r ∷ xs) h =
    let here = h 0 r refl in
    let ih = late_count (past + 1) xs (next_counted past r xs h) in
    elim (leb_tells most_operations r.earlier) [
      | inl t ↦ (let l = t.1 in rw t.0 (omega (arith, ih, here, l)))
      | inr t ↦ (let l = t.1 in rw t.0 (omega (arith, ih, here, l)))
    ]

-- ---- those of a run

module _ (panel tick : ℕ) where
  abbrev is_mine : Request → Bool
  is_mine r = (r.panel == panel) && (r.tick == tick)

  counted_more : (xs : List Request) (x : Request) → AreCounted 0 (filter is_mine xs) → (is_mine x ≡ true → x.earlier ≡ length (filter is_mine xs))
      → AreCounted 0 (filter is_mine (xs ++ x ∷ []))
  counted_more xs x h here k r is = go (is_mine x) refl (subst (λ ys. slice_get ys k ≡ Some r) (filter-append is_mine xs (x ∷ [])) is)
    where
      go : (b : Bool) → is_mine x ≡ b → slice_get (filter is_mine xs ++ (if b then x ∷ [] else [])) k ≡ Some r → r.earlier ≡ 0 + k
      go true e at =
          elim (get_either (filter is_mine xs) (x ∷ []) k r at) [
            | inl g ↦ h k r g
            | inr g ↦ last g.place g.far g.is
          ]
        where
          last : (place : ℕ) → k ≡ place + length (filter is_mine xs) → slice_get (x ∷ []) place ≡ Some r → r.earlier ≡ 0 + k
          last zero far is = (let same : x ≡ r = cc in let l = here e in let m = ap (λ (y : Request). y.earlier) same in omega (arith, far, l, m))
          last (suc place) far is = cc
      go false e at =
          elim (get_either (filter is_mine xs) [] k r at) [
            | inl g ↦ h k r g
            | inr g ↦ (let none = g.is in cc)
          ]

  both_true : (a b : Bool) → (a && b) ≡ true → (a ≡ true) × (b ≡ true)
  both_true true true e = (refl, refl)
  both_true true false e = cc
  both_true false b e = cc

  same_numbers : (a b : ℕ) → (a == b) ≡ true → a ≡ b
  same_numbers a b t = elim (eqb_tells a b) [ inl h ↦ h.1 | inr h ↦ (let e = sym t ∙ h.0 in absurd cc) ]

  pub counted : (site : Site) (moments : List Moment) → AreCounted 0 (requests_in panel tick (requests site moments))
  counted site [] k r is = cc
  counted site (Began ∷ before) k r is = counted site before k r is
  counted site (Happened (Op other code operation) ∷ before) k r is =
      counted_more (requests site before)
      (request_of (tick_of before) other (level_of site (option_map (λ label. label.bytes) code)) operation (requests site before)) (counted site before)
      (λ e. (let p = both_true (other == panel) (tick_of before == tick) e in
      ap (λ n. length (requests_in n (tick_of before) (requests site before))) (same_numbers other panel p.0)
      ∙ ap (λ n. length (requests_in panel n (requests site before))) (same_numbers (tick_of before) tick p.1))) k r is
  counted site (Happened (Point point state) ∷ before) k r is = counted site before k r is
  counted site (Happened (Cable other line piece state) ∷ before) k r is = counted site before k r is
  counted site (Happened (Supply other kind bad) ∷ before) k r is = counted site before k r is
  counted site (Happened (Link link up) ∷ before) k r is = counted site before k r is
  counted site (Happened (Confirmed output) ∷ before) k r is = counted site before k r is
  counted site (Turned other task ∷ before) k r is = counted site before k r is
  counted site (Kept failed ∷ before) k r is = counted site before k r is

  -- of the early ones of a tick those of the panel are its first
  pub early_mine : (xs : List Request) → filter (λ (r : Request). r.panel == panel) (filter (is_early tick) xs) ≡ filter is_first (filter is_mine xs)
  early_mine [] = refl
  early_mine (x ∷ xs) = go (x.panel == panel) (x.tick == tick) (is_first x) refl refl refl (early_mine xs)
    where
      left : List Request
      left = filter (λ (r : Request). r.panel == panel) (filter (is_early tick) xs)

      right : List Request
      right = filter is_first (filter is_mine xs)

      go : (a b c : Bool) → (x.panel == panel) ≡ a → (x.tick == tick) ≡ b → is_first x ≡ c → left ≡ right
          → filter (λ (r : Request). r.panel == panel) (filter (is_early tick) (x ∷ xs)) ≡ filter is_first (filter is_mine (x ∷ xs))
      go true true true e f g ih = rw (e, f, g) (rw e (ap (λ ys. x ∷ ys) ih))
      go true true false e f g ih = rw (e, f, g) ih
      go true false c e f g ih = rw (e, f) ih
      go false true true e f g ih = rw (e, f, g) (rw e ih)
      go false true false e f g ih = rw (e, f, g) ih
      go false false c e f g ih = rw (e, f) ih
