-- The bits of a group's masks.
use Rattle.std.proofs.Common.{◌≡◌, ◌⊎◌, inl, inr, ℕ, ◌+◌, ◌-◌, ◌/◌, ◌%◌, ◌^◌, ◌<◌, ◌≤◌, ◌==◌, ◌&&◌, ◌||◌, Bool, if◌then◌else◌, false, true, bit_and, min, nat_lt, not, refl, sym, ◌∙◌, ap, arith}
use Rattle.std.specs.Int.{w8, trailing_zeros}
use Rattle.std.proofs.lemmas.Nat.{shr-shr}
use Rattle.std.proofs.lemmas.Nat.Bits.{bit_at_ones, bit_at_ones_above, bit_at-trailing_zeros}
use Rattle.site_types.specs.declared.heard.Heard.{Heard}
use Rattle.site_types.specs.declared.heard.Heard.TheVariants.{Alarm, Quiet, Silent}
use Rattle.site_types.specs.Bits.{has_bit}
use Rattle.site_types.proofs.Done.{lt_tells}
use Rattle.site_types.proofs.Masks.{has_bit-above, has_bit-and, has_bit-zero}
use Rattle.coincidence_rules.specs.Counted.{is_silent}
use Rattle.answer_lanes.specs.Groups.{IsMatching}
use Rattle.answer_lanes.specs.Points.{heard_at}

-- what is heard by the bits of two masks
abbrev heard_by : Bool → Bool → Heard
heard_by alarm silent = if alarm then Alarm else if silent then Silent else Quiet

silent_by : (alarm silent : Bool) → (silent && not alarm) ≡ is_silent (heard_by alarm silent)
silent_by true true = refl
silent_by true false = refl
silent_by false true = refl
silent_by false false = refl

pub silent_is : (alarms silents k : ℕ) → (has_bit silents k && not (has_bit alarms k)) ≡ is_silent (heard_at alarms silents k)
silent_is alarms silents k = silent_by (has_bit alarms k) (has_bit silents k)

pub matches : (alarm silent quiet other : Bool) → (((quiet && not silent) || (other && silent)) && not alarm) ≡ true
    → IsMatching (heard_by alarm silent) quiet other
matches true silent quiet other is = absurd (never ((quiet && not silent) || (other && silent)) is)
  where
    never : (b : Bool) → (b && false) ≡ true → ⊥
    never true e = cc
    never false e = cc
matches false true quiet other is = inr (refl, by quiet other is)
  where
    by : (quiet other : Bool) → (((quiet && false) || (other && true)) && true) ≡ true → other ≡ true
    by quiet true e = refl
    by true false e = absurd (cc)
    by false false e = absurd (cc)
matches false false quiet other is = inl (refl, by quiet other is)
  where
    by : (quiet other : Bool) → (((quiet && true) || (other && false)) && true) ≡ true → quiet ≡ true
    by true other e = refl
    by false true e = absurd (cc)
    by false false e = absurd (cc)

pub matches_back : (alarm silent quiet other : Bool) → IsMatching (heard_by alarm silent) quiet other
    → (((quiet && not silent) || (other && silent)) && not alarm) ≡ true
matches_back true silent quiet other (inl is) = absurd (let no = is.0 in cc)
matches_back true silent quiet other (inr is) = absurd (let no = is.0 in cc)
matches_back false true quiet other (inl is) = absurd (let no = is.0 in cc)
matches_back false true true true (inr is) = refl
matches_back false true false true (inr is) = refl
matches_back false true quiet false (inr is) = absurd (let no = is.1 in cc)
matches_back false false true other (inl is) = refl
matches_back false false false other (inl is) = absurd (let no = is.1 in cc)
matches_back false false quiet other (inr is) = absurd (let no = is.0 in cc)

-- ---- so many bits of a mask, from one on

and_false : (b : Bool) → (b && false) ≡ false
and_false true = refl
and_false false = refl

and_true : (b : Bool) → (b && true) ≡ b
and_true true = refl
and_true false = refl

pub lt_is : (a b : ℕ) → a < b → nat_lt a b ≡ true
lt_is a b less = elim (lt_tells a b) [
  | inl one ↦ one.0
  | inr other ↦ absurd (let le = other.1 in omega (arith, le, less))
]

lt_isnt : (a b : ℕ) → b ≤ a → nat_lt a b ≡ false
lt_isnt a b le = elim (lt_tells a b) [
  | inl one ↦ absurd (let less = one.1 in omega (arith, le, less))
  | inr other ↦ other.0
]

-- a mask of ones has its bits up to its end
ones_have : (n k : ℕ) → has_bit (2 ^ n - 1) k ≡ nat_lt k n
ones_have n k = elim (lt_tells k n) [
  | inl less ↦ ap (λ b. b == 1) (bit_at_ones n k less.1) ∙ sym less.0
  | inr other ↦ ap (λ b. b == 1) (bit_at_ones_above n k other.1) ∙ sym other.0
]

module _ (mask from count : ℕ) (below : mask < 2 ^ 8) where
  abbrev pub asked : ℕ
  asked = bit_and (mask / 2 ^ min from 8) (2 ^ min count 8 - 1)

  asked_bit : (k : ℕ) → has_bit asked k ≡ (has_bit mask (min from 8 + k) && nat_lt k (min count 8))
  asked_bit k =
      has_bit-and (mask / 2 ^ min from 8) (2 ^ min count 8 - 1) k
      ∙ ap (λ n. (n % 2 == 1) && has_bit (2 ^ min count 8 - 1) k) (shr-shr mask (min from 8) k)
      ∙ ap (λ b. has_bit mask (min from 8 + k) && b) (ones_have (min count 8) k)

  -- past the eighth there is none
  past : (k : ℕ) → 8 ≤ from + k → has_bit mask (min from 8 + k) ≡ false
  past k le = has_bit-above 8 mask (min from 8 + k) below (omega (arith, le))

  pub within_bit : (k : ℕ) → has_bit asked k ≡ (nat_lt k count && has_bit mask (from + k))
  within_bit k = asked_bit k ∙ by (lt_tells k count)
    where
      here : ((nat_lt (from + k) 8 ≡ true) × (from + k < 8)) ⊎ ((nat_lt (from + k) 8 ≡ false) × (8 ≤ from + k)) → k < count
          → (has_bit mask (min from 8 + k) && nat_lt k (min count 8)) ≡ has_bit mask (from + k)
      here (inl less) small =
          let low = less.1 in
          let same : min from 8 + k ≡ from + k = omega (arith, low) in
          ap (λ b. has_bit mask (min from 8 + k) && b) (lt_is k (min count 8) (omega (arith, low, small)))
          ∙ and_true (has_bit mask (min from 8 + k)) ∙ ap (has_bit mask) same
      here (inr other) small =
          ap (λ b. b && nat_lt k (min count 8)) (past k other.1) ∙ sym (has_bit-above 8 mask (from + k) below other.1)

      by : ((nat_lt k count ≡ true) × (k < count)) ⊎ ((nat_lt k count ≡ false) × (count ≤ k))
          → (has_bit mask (min from 8 + k) && nat_lt k (min count 8)) ≡ (nat_lt k count && has_bit mask (from + k))
      by (inl less) = here (lt_tells (from + k) 8) less.1 ∙ sym (ap (λ b. b && has_bit mask (from + k)) less.0)
      by (inr other) =
          let le = other.1 in
          ap (λ b. has_bit mask (min from 8 + k) && b) (lt_isnt k (min count 8) (omega (arith, le))) ∙ and_false (has_bit mask (min from 8 + k))
          ∙ sym (ap (λ b. b && has_bit mask (from + k)) other.0)

-- a mask of a byte has no bit past the eighth
pub set_below : (mask place : ℕ) → mask < 2 ^ 8 → has_bit mask place ≡ true → place < 8
set_below mask place fits set = elim (lt_tells place 8) [
  | inl less ↦ less.1
  | inr other ↦ absurd (let none = has_bit-above 8 mask place fits other.1 in cc)
]

-- ---- what such bits tell

module _ (mask from count bits : ℕ) (fits : bits < 2 ^ 8) (are :
    (k : ℕ) → has_bit bits k ≡ (nat_lt k count && has_bit mask (from + k))) where
  pub none_set : bits ≡ 0 → (k : ℕ) → k < count → has_bit mask (from + k) ≡ false
  none_set none k small =
      sym (ap (λ b. b && has_bit mask (from + k)) (lt_is k count small)) ∙ sym (are k) ∙ ap (λ m. has_bit m k) none ∙ has_bit-zero k

  pub record IsFirst (place : ℕ) : Type 0 where
    pub within : place < count
    pub set : has_bit mask (from + place) ≡ true

  -- the lowest one
  pub first_set : 0 < bits → IsFirst (trailing_zeros w8 bits)
  first_set some = both (nat_lt (trailing_zeros w8 bits) count) refl (sym (are (trailing_zeros w8 bits)) ∙ one)
    where
      zeros : ℕ
      zeros = trailing_zeros w8 bits

      one : has_bit bits zeros ≡ true
      one = ap (λ n. n == 1) (bit_at-trailing_zeros w8 bits some fits).1

      both : (b : Bool) → nat_lt zeros count ≡ b → (b && has_bit mask (from + zeros)) ≡ true → IsFirst zeros
      both true less set = record { within = by (lt_tells zeros count); set = set }
        where
          by : ((nat_lt zeros count ≡ true) × (zeros < count)) ⊎ ((nat_lt zeros count ≡ false) × (count ≤ zeros)) → zeros < count
          by (inl one) = one.1
          by (inr other) = absurd (let no = other.0 in cc)
      both false less set = absurd (cc)
