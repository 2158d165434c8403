-- Of the findings taken, the latest stamp that passes a test is enough, and of a point its last finding.
use Rattle.std.proofs.Common.{◌≡◌, ◌⊎◌, inl, inr, ℕ, ◌≤◌, max, Bool, true, false, List, [], ◌∷◌, ◌++◌, ◌==◌, ◌&&◌, ◌||◌, if◌then◌else◌, refl, sym, ◌∙◌, ap, arith}
use Rattle.std.specs.List.{list_any}
use Rattle.tick_units.specs.declared.tick.Tick.{Tick}
use Rattle.site_types.proofs.Done.{lt_tells}
use Rattle.coincidence_rules.specs.declared.finding.Finding.{Finding}
use Rattle.panel_conditions.specs.Parts.{stamp_if}
use Rattle.panel_conditions.specs.Missing.{last_missing}
use Rattle.panel_conditions.specs.Stands.{latest_stamp}

max-assoc : (a b c : ℕ) → max a (max b c) ≡ max (max a b) c
max-assoc a b c = omega arith

-- with one more finding
pub latest-push : (test : Finding → Bool) (taken : List Finding) (f : Finding)
    → latest_stamp test (taken ++ f ∷ []) ≡ max (latest_stamp test taken) (if test f then f.stamp.0 else 0)
latest-push test [] f = omega arith
latest-push test (g ∷ taken) f =
    ap (λ n. max (if test g then g.stamp.0 else 0) n) (latest-push test taken f)
    ∙ max-assoc (if test g then g.stamp.0 else 0) (latest_stamp test taken) (if test f then f.stamp.0 else 0)

-- with more findings
pub latest-append : (test : Finding → Bool) (taken more : List Finding)
    → latest_stamp test (taken ++ more) ≡ max (latest_stamp test taken) (latest_stamp test more)
latest-append test [] more = omega arith
latest-append test (g ∷ taken) more =
    ap (λ n. max (if test g then g.stamp.0 else 0) n) (latest-append test taken more)
    ∙ max-assoc (if test g then g.stamp.0 else 0) (latest_stamp test taken) (latest_stamp test more)

stamp_max : (on : Bool) (stamp latest : Tick) → (stamp_if on stamp latest).0 ≡ max latest.0 (if on then stamp.0 else 0)
stamp_max false stamp latest = omega arith
stamp_max true stamp latest = elim (lt_tells latest.0 stamp.0) [
  | inl less ↦ (let le = less.1 in rw less.0 (omega (arith, le)))
  | inr not_less ↦ (let le = not_less.1 in rw not_less.0 (omega (arith, le)))
]

-- the stamp that is kept is the latest one
pub stamp_more : (test : Finding → Bool) (taken : List Finding) (f : Finding) (on : Bool) (latest : Tick) → on ≡ test f
    → latest.0 ≡ latest_stamp test taken →
    (stamp_if on f.stamp latest).0 ≡ latest_stamp test (taken ++ f ∷ [])
stamp_more test taken f on latest e same =
    stamp_max on f.stamp latest
    ∙ ap (λ n. max n (if on then f.stamp.0 else 0)) same
    ∙ ap (λ b. max (latest_stamp test taken) (if b then f.stamp.0 else 0)) e
    ∙ sym (latest-push test taken f)

or_less : (stamps : ℕ → Bool) (m n : ℕ) → (stamps m ≡ true → stamps n ≡ true) → (stamps m || stamps n) ≡ stamps n
or_less stamps m n up = go (stamps m) refl
  where
    go : (b : Bool) → stamps m ≡ b → (b || stamps n) ≡ stamps n
    go true e = sym (up e)
    go false e = refl

or_more : (stamps : ℕ → Bool) (m n : ℕ) → (stamps n ≡ true → stamps m ≡ true) → (stamps m || stamps n) ≡ stamps m
or_more stamps m n up = go (stamps m) (stamps n) refl refl
  where
    go : (b c : Bool) → stamps m ≡ b → stamps n ≡ c → (b || c) ≡ b
    go true c e g = refl
    go false true e g = let bad = up g in cc
    go false false e g = refl

le_or : (m n : ℕ) → (m ≤ n) ⊎ (n ≤ m)
le_or m n = elim (lt_tells m n) [ inl less ↦ (let le = less.1 in inl (omega (arith, le))) | inr other ↦ inr other.1 ]

either_max : (stamps : ℕ → Bool) → ((m n : ℕ) → m ≤ n → stamps m ≡ true → stamps n ≡ true) → (m n : ℕ) → (stamps m || stamps n) ≡ stamps (max m n)
either_max stamps up m n = elim (le_or m n) [
  | inl le ↦ or_less stamps m n (up m n le) ∙ ap stamps (let e : n ≡ max m n = omega (arith, le) in e)
  | inr le ↦ or_more stamps m n (up n m le) ∙ ap stamps (let e : m ≡ max m n = omega (arith, le) in e)
]

-- some finding passes a test at a stamp, where later stamps pass if an earlier one does: the latest stamp decides
pub any_latest : (stamps : ℕ → Bool) → stamps 0 ≡ false → ((m n : ℕ) → m ≤ n → stamps m ≡ true → stamps n ≡ true) →
    (test both : Finding → Bool) → ((f : Finding) → both f ≡ (test f && stamps f.stamp.0)) → (taken : List Finding)
    → list_any both taken ≡ stamps (latest_stamp test taken)
any_latest stamps none up test both same [] = sym none
any_latest stamps none up test both same (f ∷ taken) =
    ap (λ b. b || list_any both taken) (same f)
    ∙ ap (λ b. (test f && stamps f.stamp.0) || b) (any_latest stamps none up test both same taken)
    ∙ go (test f)
  where
    none_left : max 0 (latest_stamp test taken) ≡ latest_stamp test taken
    none_left = omega arith

    go : (b : Bool)
        → ((b && stamps f.stamp.0) || stamps (latest_stamp test taken)) ≡ stamps (max (if b then f.stamp.0 else 0) (latest_stamp test taken))
    go true = either_max stamps up f.stamp.0 (latest_stamp test taken)
    go false = ap stamps (sym none_left)

-- what the last finding told, with one more
pub last-push : (place : ℕ) (was : Bool) (taken : List Finding) (f : Finding) →
    last_missing place was (taken ++ f ∷ []) ≡ (if f.point == place then f.missing else last_missing place was taken)
last-push place was [] f = refl
last-push place was (g ∷ taken) f = last-push place (if g.point == place then g.missing else was) taken f
