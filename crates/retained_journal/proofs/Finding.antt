-- What is found first at the places below a number.
use Rattle.std.proofs.Common.{inl, inr, ◌≡◌, ◌+◌, ◌<◌, ◌≤◌, ℕ, zero, suc, true, false, refl, sym, ◌∙◌, subst, arith, add-one}
use Rattle.std.specs.Prelude.{Option, Some, None, is_some, ◌-◌, ◌⊎◌, nat_le}
use Rattle.std.proofs.lemmas.Bool.Decides.{leb_tells}
use Rattle.retained_journal.specs.Fields.{first_in, or_else}

-- one place more
pub found-none : (find : ℕ → Option ℕ) → first_in find 0 ≡ None
unfolding first_in
found-none find = refl

pub found-more : (find : ℕ → Option ℕ) (n : ℕ) → first_in find (n + 1) ≡ or_else (first_in find n) (find n)
unfolding first_in
found-more find n = rw add-one refl

pub nothing_more : (find : ℕ → Option ℕ) (n : ℕ) → first_in find n ≡ None → find n ≡ None → first_in find (n + 1) ≡ None
nothing_more find n before here = found-more find n ∙ rw (before, here) refl

-- what is found at a place below which there is nothing is found first
found_yet : (find : ℕ → Option ℕ) (i x : ℕ) (more : ℕ) → first_in find i ≡ None → find i ≡ Some x → first_in find (suc more + i) ≡ Some x
unfolding first_in
found_yet find i x zero before here = let e : 1 + i ≡ i + 1 = omega arith in rw e (found-more find i ∙ rw (before, here) refl)
found_yet find i x (suc more) before here =
    let e : suc (suc more) + i ≡ (suc more + i) + 1 = omega arith in
    rw e (found-more find (suc more + i) ∙ rw (found_yet find i x more before here) refl)

pub found-first : (find : ℕ → Option ℕ) (i x n : ℕ) → first_in find i ≡ None → find i ≡ Some x → i < n → first_in find n ≡ Some x
found-first find i x n before here less = subst (λ (m : ℕ). first_in find m ≡ Some x) (omega arith) (found_yet find i x (n - suc i) before here)

-- where nothing is found at any place below n, and the other way round
pub none_below : (find : ℕ → Option ℕ) (n : ℕ) → ((i : ℕ) → i < n → find i ≡ None) → first_in find n ≡ None
unfolding first_in
none_below find zero none = refl
none_below find (suc n) none = rw (none_below find n (λ i less. none i (omega arith)), none n (omega arith)) refl

none_in_both : (a b : Option ℕ) → or_else a b ≡ None → (a ≡ None) × (b ≡ None)
none_in_both None b h = (refl, h)
none_in_both (Some x) b h = absurd (cc)

pub none_each : (find : ℕ → Option ℕ) (n : ℕ) → first_in find n ≡ None → (i : ℕ) → i < n → find i ≡ None
unfolding first_in
none_each find zero none i less = absurd (omega (arith, less))
none_each find (suc n) none i less =
    let both = none_in_both (first_in find n) (find n) none in
    at_or_below (leb_tells n i) both.1 (λ below. none_each find n both.0 i below)
  where
    at_or_below : ((nat_le n i ≡ true) × (n ≤ i)) ⊎ ((nat_le n i ≡ false) × (i < n)) → find n ≡ None → (i < n → find i ≡ None) → find i ≡ None
    at_or_below (inl at) here below = subst (λ (k : ℕ). find k ≡ None) (let h = at.1 in omega (arith, less, h)) here
    at_or_below (inr less') here below = below less'.1

pub is_none : (found : Option ℕ) → is_some found ≡ false → found ≡ None
is_none None e = refl
is_none (Some x) e = absurd (cc)

-- what was found at a place below which there is nothing, as a call answered it
pub found_option : (find : ℕ → Option ℕ) (i n : ℕ) (found : Option ℕ) → first_in find i ≡ None → found ≡ find i → is_some found ≡ true → i < n
    → found ≡ first_in find n
found_option find i n (Some x) before e some less = sym (found-first find i x n before (sym e) less)
found_option find i n None before e some less = absurd (cc)

pub none_to_end : (find : ℕ → Option ℕ) (i n : ℕ) → first_in find i ≡ None → n ≤ i → first_in find n ≡ None
none_to_end find i n none le = none_below find n (λ k less. none_each find i none k (omega arith))

-- what is found at each place is the same
pub first-same : (find other : ℕ → Option ℕ) (n : ℕ) → ((i : ℕ) → i < n → find i ≡ other i) → first_in find n ≡ first_in other n
unfolding first_in
first-same find other zero same = refl
first-same find other (suc n) same =
    let before = first-same find other n (λ i less. same i (omega arith)) in
    let here = same n (omega arith) in
    rw (before, here) refl

-- what is found first has what each that is found has
pub found-within : (find : ℕ → Option ℕ) (P : ℕ → Type 0) (n : ℕ) → ((i k : ℕ) → i < n → find i ≡ Some k → P k) → (k : ℕ) → first_in find n ≡ Some k
    → P k
unfolding first_in
found-within find P zero each k is = absurd (cc)
found-within find P (suc n) each k is =
    either (first_in find n) (find n) refl refl is (λ e. found-within find P n (λ i x less. each i x (omega arith)) k e)
  where
    either : (a b : Option ℕ) → first_in find n ≡ a → find n ≡ b → or_else a b ≡ Some k → (first_in find n ≡ Some k → P k) → P k
    either None b before here e earlier = each n k (omega arith) (here ∙ e)
    either (Some x) b before here e earlier = earlier (before ∙ e)
