-- Words of a group taken one by one, each the newest of three.
use Rattle.std.proofs.Common.{◌≡◌, ◌≢◌, ◌∙◌, ℕ, ◌+◌, ◌-◌, ◌*◌, ◌/◌, ◌≤◌, ◌==◌, ◌&&◌, ◌||◌, Bool, nat_le, nat_lt, true, false, if◌then◌else◌, inl, inr}
use Rattle.std.proofs.Common.{refl, sym, ap, arith}
use Rattle.std.proofs.lemmas.Bool.{and_left, and_right, cases_eq, eq-eqb, le-leb, le-ltb, lt-ltb, ne_eqb}
use Rattle.std.proofs.lemmas.Bool.Decides.{leb_tells}
use Rattle.site_types.specs.declared.word.Word.{Word}
use Rattle.site_types.proofs.Done.{lt_tells}
use Rattle.panel_links.specs.Kept.{HasZonesOf, newest}
use Rattle.panel_links.proofs.Turns.{InRing}

-- the panels of a group
pub in_group : (group o end : ℕ) → 1 ≤ o → end ≡ 4 * group + 1 + 4 → (nat_le (4 * group + 1) o && nat_lt o end) ≡ (((o - 1) / 4) == group)
in_group group o end low ends = elim (leb_tells (4 * group + 1) o) [
  | inr t ↦ (let less = t.1 in
      and_left (nat_le (4 * group + 1) o) (nat_lt o end) t.0 ∙ sym (ne_eqb ((o - 1) / 4) group (λ e. absurd (omega (arith, e, less, low)))))
  | inl t ↦ elim (lt_tells o end) [
    | inr u ↦ (let more = u.1 in
        and_right (nat_le (4 * group + 1) o) (nat_lt o end) u.0 ∙ sym (ne_eqb ((o - 1) / 4) group (λ e. absurd (omega (arith, e, more, ends)))))
    | inl u ↦ (let first = t.1 in let last = u.1 in rw (t.0, u.0) (sym (eq-eqb ((o - 1) / 4) group (omega (arith, first, last, ends)))))
  ]
]

pub has_zones_then : {word middle other : Word} → HasZonesOf word middle → HasZonesOf middle other → HasZonesOf word other
has_zones_then later earlier = record { alarm = later.alarm ∙ earlier.alarm; first = later.first ∙ earlier.first }

pub has_zones_equal : {word other : Word} → word ≡ other → HasZonesOf word other
has_zones_equal same = record { alarm = ap (λ (w : Word). w.alarm) same; first = ap (λ (w : Word). w.first) same }

pub not_both : (b : Bool) → b ≡ false → b ≡ true → ⊥
not_both false down up = absurd cc
not_both true down up = absurd cc

-- a flag stays down where nothing raises it
pub stays_down : (flag raises : Bool) → flag ≡ false → (raises ≡ true → ⊥) → (flag || raises) ≡ false
stays_down false false down never = refl
stays_down false true down never = absurd (never refl)
stays_down true raises down never = absurd cc

-- what was kept at the start, what is kept before the words of a panel are taken and what after it
module _ (panels at left right first of : ℕ) (start before after : ℕ → ℕ → Word) (word : Word) (begun : first ≤ of)
    (taken : (a o : ℕ) → InRing panels a → InRing panels o
    → before a o ≡ (if (a == at) && (nat_le first o && nat_lt o of) then newest (newest (start a o) (start left o)) (start right o) else start a o))
    (put : (a o : ℕ) → InRing panels a → InRing panels o
    → after a o ≡ (if (a == at) && (o == of) then word else before a o)) where
  abbrev best : ℕ → ℕ → Word
  best a o = newest (newest (start a o) (start left o)) (start right o)

  pub untaken : (a o : ℕ) → InRing panels a → InRing panels o → of ≤ o → before a o ≡ start a o
  untaken a o ha ho late =
      let ended : nat_lt o of ≡ false = le-ltb o of late in
      taken a o ha ho
      ∙ ap (λ b. if (a == at) && b then best a o else start a o) (and_right (nat_le first o) (nat_lt o of) ended)
      ∙ ap (λ b. if b then best a o else start a o) (and_right (a == at) false refl)

  elsewhere : (a o : ℕ) → InRing panels a → InRing panels o → o ≢ of → after a o ≡ before a o
  elsewhere a o ha ho apart =
      put a o ha ho
      ∙ ap (λ b. if b then word else before a o) (and_right (a == at) (o == of) (ne_eqb o of apart))

  passed : (o : ℕ) → o ≢ of → nat_lt o of ≡ nat_lt o (of + 1)
  passed o apart =
      elim (lt_tells o of) [
        | inl t ↦ (let less = t.1 in t.0 ∙ sym (lt-ltb o (of + 1) (omega (arith, less))))
        | inr t ↦ (let more = t.1 in t.0 ∙ sym (le-ltb o (of + 1) (omega (arith, more, apart))))
      ]

  module _ (hat : InRing panels at) (hleft : InRing panels left) (hright : InRing panels right)
      (is : word ≡ newest (newest (before at of) (before left of)) (before right of)) where
    is_best : InRing panels of → word ≡ best at of
    is_best hof =
        let late : of ≤ of = omega arith in
        is
        ∙ ap (λ k. newest (newest k (before left of)) (before right of)) (untaken at of hat hof late)
        ∙ ap (λ k. newest (newest (start at of) k) (before right of)) (untaken left of hleft hof late)
        ∙ ap (newest (newest (start at of) (start left of))) (untaken right of hright hof late)

    pub one_more : (a o : ℕ) → InRing panels a → InRing panels o
        → after a o ≡ (if (a == at) && (nat_le first o && nat_lt o (of + 1)) then best a o else start a o)
    one_more a o ha ho = elim (cases_eq o of) [
      | inr apart ↦ elsewhere a o ha ho apart ∙ taken a o ha ho
          ∙ ap (λ b. if (a == at) && (nat_le first o && b) then best a o else start a o) (passed o apart)
      | inl same ↦ elim (cases_eq a at) [
        | inl here ↦
            (let t1 : (a == at) ≡ true = eq-eqb a at here in
            let t2 : (o == of) ≡ true = eq-eqb o of same in
            let t3 : nat_le first o ≡ true = le-leb first o (omega (arith, begun, same)) in
            let t4 : nat_lt o (of + 1) ≡ true = lt-ltb o (of + 1) (omega (arith, same)) in
            let test : ((a == at) && (nat_le first o && nat_lt o (of + 1))) ≡ true = rw (t1, t3, t4) refl in
            (rw (t1, t2) at (put a o ha ho)) ∙ is_best (omega (arith, ho.0, same), omega (arith, ho.1, same))
            ∙ ap (λ x. best x of) (sym here) ∙ ap (best a) (sym same)
            ∙ sym (ap (λ b. if b then best a o else start a o) test))
        | inr apart ↦
            (let t1 : (a == at) ≡ false = ne_eqb a at apart in
            put a o ha ho
            ∙ ap (λ b. if b then word else before a o) (and_left (a == at) (o == of) t1)
            ∙ untaken a o ha ho (omega (arith, same))
            ∙ sym (ap (λ b. if b then best a o else start a o) (and_left (a == at) (nat_le first o && nat_lt o (of + 1)) t1)))
      ]
    ]

  here : InRing panels at → InRing panels of → after at of ≡ word
  here hat hof =
      let t1 : (at == at) ≡ true = eq-eqb at at refl in
      let t2 : (of == of) ≡ true = eq-eqb of of refl in
      rw (t1, t2) at (put at of hat hof)

  -- the zones of what is kept of another panel are as at the start if they were before, and are in the word that is taken
  pub same_zones : (o : ℕ) → InRing panels at → InRing panels o → (o ≡ of → HasZonesOf word (before at of))
      → HasZonesOf (before at o) (start at o) → HasZonesOf (after at o) (start at o)
  same_zones o hat ho by_word were = elim (cases_eq o of) [
    | inr apart ↦ has_zones_then (has_zones_equal (elsewhere at o hat ho apart)) were
    | inl same ↦
        (let t1 : (at == at) ≡ true = eq-eqb at at refl in
        let t2 : (o == of) ≡ true = eq-eqb o of same in
        has_zones_then (has_zones_equal (rw (t1, t2) at (put at o hat ho)))
        (has_zones_then (by_word same) (has_zones_then (has_zones_equal (ap (before at) (sym same))) were)))
  ]

  -- where they are as at the start, they were before
  pub were_same : (o : ℕ) → InRing panels at → InRing panels o → HasZonesOf (after at o) (start at o) → HasZonesOf (before at o) (start at o)
  were_same o hat ho are = elim (cases_eq o of) [
    | inr apart ↦ has_zones_then (has_zones_equal (sym (elsewhere at o hat ho apart))) are
    | inl same ↦ has_zones_equal (untaken at o hat ho (omega (arith, same)))
  ]

  -- and so are those of the word that is taken
  pub word_same : InRing panels at → InRing panels of → HasZonesOf (after at of) (start at of) → HasZonesOf word (before at of)
  word_same hat hof are =
      let late : of ≤ of = omega arith in
      has_zones_then (has_zones_equal (sym (here hat hof)))
      (has_zones_then are (has_zones_equal (sym (untaken at of hat hof late))))
