-- A loop over a list of states that turns each in its place, and sets the bit of each that then passes a test.
use Rattle.std.proofs.Common.{◌≡◌, ◌≢◌, ◌+◌, ◌<◌, ◌≤◌, ◌^◌, ◌==◌, ◌&&◌, ◌||◌, ℕ, zero, suc, Bool, true, false, List, []}
use Rattle.std.proofs.Common.{◌∷◌, ◌++◌, map, take, drop, set, get_or, length, append-nil, inl, inr, refl, sym, subst}
use Rattle.std.proofs.Common.{◌∙◌, ap, arith}
use Rattle.std.specs.List.{AllByRecursion, list_any}
use Rattle.std.proofs.lemmas.List.{take_more, take_all, map-append, drop_all, length-map}
use Rattle.std.proofs.lemmas.List.Folds.{list_any-append}
use Rattle.std.proofs.lemmas.Bool.Decides.{eqb_tells}
use Rattle.site_types.specs.Bits.{has_bit, mask_of}
use Rattle.site_types.proofs.Masks.{mask_from_bits}

or_false : (b : Bool) → (b || false) ≡ b
or_false true = refl
or_false false = refl

or_true : (b : Bool) → (b || true) ≡ true
or_true true = refl
or_true false = refl

and_false : (b : Bool) → (b && false) ≡ false
and_false true = refl
and_false false = refl

-- ---- lists that are written in place

module _ {X : Type 0} (f : X → X) where
  -- the list of a loop that writes, at the place that it has come to
  pub next_state : (xs ys : List X) (i : ℕ) (d : X) → i < length xs → ys ≡ map f (take i xs) ++ drop i xs → get_or ys i d ≡ get_or xs i d
  next_state xs ys i d within is = rw is (go xs i within)
    where
      go : (xs : List X) (i : ℕ) → i < length xs → get_or (map f (take i xs) ++ drop i xs) i d ≡ get_or xs i d
      go [] i within = absurd (omega (arith, within))
      go (x ∷ xs) zero within = refl
      go (x ∷ xs) (suc i) within = go xs i (omega (arith, within))

  -- the write of the loop
  written : (xs ys : List X) (i : ℕ) (d : X) → i < length xs → ys ≡ map f (take i xs) ++ drop i xs →
      set ys i (f (get_or ys i d)) ≡ map f (take (i + 1) xs) ++ drop (i + 1) xs
  written xs ys i d within is = rw is (go xs i within)
    where
      go : (xs : List X) (i : ℕ) → i < length xs →
          set (map f (take i xs) ++ drop i xs) i (f (get_or (map f (take i xs) ++ drop i xs) i d)) ≡ map f (take (i + 1) xs) ++ drop (i + 1) xs
      go [] i within = absurd (omega (arith, within))
      go (x ∷ xs) zero within = refl
      go (x ∷ xs) (suc i) within =
          let more : suc i + 1 ≡ suc (i + 1) = omega arith in
          rw more (ap (λ zs. f x ∷ zs) (go xs i (omega (arith, within))))

  -- the list at its end
  all_written : (xs ys : List X) (i : ℕ) → length xs ≤ i → ys ≡ map f (take i xs) ++ drop i xs → ys ≡ map f (take i xs)
  all_written xs ys i whole is = is ∙ ap (λ zs. map f (take i xs) ++ zs) (drop_all i xs whole) ∙ append-nil (map f (take i xs))

  -- a list written back in place of one of its length
  refilled : (xs ws : List X) → length ws ≡ length xs → take (length xs) (ws ++ drop (length ws) xs) ≡ ws
  refilled xs ws same =
      ap (λ zs. take (length xs) (ws ++ zs)) (drop_all (length ws) xs (omega (arith, same)))
      ∙ ap (take (length xs)) (append-nil ws)
      ∙ take_all (length xs) ws (omega (arith, same))

  pub turned_states : (xs ws : List X) → ws ≡ map f xs → take (length xs) (ws ++ drop (length ws) xs) ≡ map f xs
  turned_states xs ws is = refilled xs ws (ap length is ∙ length-map xs f) ∙ is

  -- a turn that keeps the places of states
  module _ (place : X → ℕ) (keeps : (x : X) → place (f x) ≡ place x) where
    still_placed : (xs : List X) → AllByRecursion (λ x. place x < 32) xs → AllByRecursion (λ x. place x < 32) (map f xs)
    still_placed [] all = tt
    still_placed (x ∷ xs) all = (subst (λ k. k < 32) (sym (keeps x)) all.0, still_placed xs all.1)

    pub placed_states : (xs ws : List X) → AllByRecursion (λ x. place x < 32) xs → ws ≡ map f xs →
        AllByRecursion (λ x. place x < 32) (take (length xs) (ws ++ drop (length ws) xs))
    placed_states xs ws all is = subst (AllByRecursion (λ x. place x < 32)) (sym (turned_states xs ws is)) (still_placed xs all)

-- ---- the bits of the states that pass a test

module _ {X : Type 0} (place : X → ℕ) (f : X → X) (test : X → Bool) where
  -- the first states are turned, the others as they were, and the bits are set of those that passed
  pub record HasTurned (xs : List X) (i : ℕ) (ys : List X) (mask : ℕ) : Type 0 where
    pub states : ys ≡ map f (take i xs) ++ drop i xs
    pub below : mask < 2 ^ 32
    pub bits : (k : ℕ) → k < 32 → has_bit mask k ≡ list_any (λ x. (place x == k) && test x) (map f (take i xs))

  module _ (k : ℕ) where
    abbrev here : X → Bool
    here x = (place x == k) && test x

    more : (xs : List X) (i : ℕ) (d : X) → i < length xs
        → list_any here (map f (take (i + 1) xs)) ≡ (list_any here (map f (take i xs)) || (here (f (get_or xs i d)) || false))
    more xs i d within =
        ap (λ zs. list_any here (map f zs)) (take_more xs i d within)
        ∙ ap (list_any here) (map-append f (take i xs) (get_or xs i d ∷ []))
        ∙ list_any-append here (map f (take i xs)) (f (get_or xs i d) ∷ [])

    -- a state that fails the test sets no bit
    failed : (xs : List X) (i : ℕ) (d x : X) (old : ℕ) → i < length xs → x ≡ f (get_or xs i d) → test x ≡ false →
        has_bit old k ≡ list_any here (map f (take i xs)) → has_bit old k ≡ list_any here (map f (take (i + 1) xs))
    failed xs i d x old within is fails before =
        let none : here (f (get_or xs i d)) ≡ false = ap here (sym is) ∙ ap (λ b. (place x == k) && b) fails ∙ and_false (place x == k) in
        before ∙ sym (more xs i d within ∙ ap (λ b. list_any here (map f (take i xs)) || (b || false)) none ∙ or_false
        (list_any here (map f (take i xs))))

    -- one that passes sets its own
    passed : (xs : List X) (i : ℕ) (d x : X) (old new : ℕ) → i < length xs → x ≡ f (get_or xs i d) → test x ≡ true →
        has_bit new (place x) ≡ true → (k ≢ place x → has_bit new k ≡ has_bit old k) →
        has_bit old k ≡ list_any here (map f (take i xs)) → has_bit new k ≡ list_any here (map f (take (i + 1) xs))
    passed xs i d x old new within is passes this others before =
        let one : here (f (get_or xs i d)) ≡ (place x == k) && test x = ap here (sym is) in
        let all = more xs i d within in
        elim (eqb_tells (place x) k) [
          | inl same ↦ (
              let yes : here (f (get_or xs i d)) ≡ true = one ∙ ap (λ b. b && test x) same.0 ∙ passes in
              ap (has_bit new) (sym same.1) ∙ this ∙ sym
              (all ∙ ap (λ b. list_any here (map f (take i xs)) || (b || false)) yes ∙ or_true (list_any here (map f (take i xs))))
              )
          | inr other ↦ (
              let no_state : here (f (get_or xs i d)) ≡ false = one ∙ ap (λ b. b && test x) other.0 in
              let ne = other.1 in
              others (λ e. ne (sym e)) ∙ before ∙ sym (all ∙ ap (λ b. list_any here (map f (take i xs)) || (b || false)) no_state ∙ or_false
              (list_any here (map f (take i xs))))
              )
        ]

  module _ (xs ys zs : List X) (i : ℕ) (d x : X) (old new : ℕ) (within : i < length xs) (so_far : HasTurned xs i ys old)
      (made : x ≡ f (get_or ys i d)) (write : zs ≡ set ys i x) where
    turned_one : x ≡ f (get_or xs i d)
    turned_one = made ∙ ap f (next_state f xs ys i d within so_far.states)

    written_one : zs ≡ map f (take (i + 1) xs) ++ drop (i + 1) xs
    written_one = write ∙ ap (set ys i) made ∙ written f xs ys i d within so_far.states

    -- a state more that passes
    pub has_passed : test x ≡ true → new < 2 ^ 32 → has_bit new (place x) ≡ true
        → ((k : ℕ) → k < 32 → k ≢ place x → has_bit new k ≡ has_bit old k) → HasTurned xs (i + 1) zs new
    has_passed passes small this others = record {
      states = written_one;
      below = small;
      bits = λ k low. passed k xs i d x old new within turned_one passes this (λ ne. others k low ne) (so_far.bits k low);
    }

    -- one more that fails
    pub has_failed : test x ≡ false → new ≡ old → HasTurned xs (i + 1) zs new
    has_failed fails same = record {
      states = written_one;
      below = rw same so_far.below;
      bits = λ k low. ap (λ m. has_bit m k) same ∙ failed k xs i d x old within turned_one fails (so_far.bits k low);
    }

  -- at the end the mask is of those states that pass
  pub mask_of_turned : (xs ys : List X) (i mask : ℕ) → length xs ≤ i → HasTurned xs i ys mask
      → mask ≡ mask_of 32 (λ k. list_any (λ x. (place x == k) && test x) ys)
  mask_of_turned xs ys i mask whole turned =
      mask_from_bits 32 mask (λ k. list_any (λ x. (place x == k) && test x) ys) turned.below
      (λ k small. turned.bits k small ∙ ap (list_any (λ x. (place x == k) && test x)) (sym (all_written f xs ys i whole turned.states)))
