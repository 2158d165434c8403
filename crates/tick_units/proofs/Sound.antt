-- Lists of seats of a site in which none stands twice.
use Rattle.std.proofs.Common.{◌≢◌, ◌+◌, ◌*◌, ◌≤◌, ◌++◌, ℕ, List, [], ◌∷◌, length, sym, ◌∙◌, arith, subst, length-append}
use Rattle.std.specs.List.{All, Contains}
use Rattle.std.proofs.lemmas.List.{get_or_append_left}
use Rattle.std.proofs.Math.Seq.{get_or-append_seam}
use Rattle.std.proofs.lemmas.List.Sorted.{All-permutation, Contains-permutation}
use Rattle.std.proofs.lemmas.List.Elements.{All-nil, All-push, All-contains, All-weaker, All-contains_itself, Contains-get_or}
use Rattle.std.proofs.lemmas.List.Quantifiers.{all_pairs_push}
use Rattle.std.proofs.lemmas.Map.Keys.{IsDistinct-IsPermutation}
use Rattle.std.proofs.lemmas.Map.Made.{length-le_from_is_member, AllPairs-from_IsDistinct, IsDistinct-from_AllPairs}
use Rattle.tick_units.specs.declared.seat.Seat.{Seat}
use Rattle.tick_units.specs.Orders.{IsSound, IsOrder, canonical_seats, is_same_seat}
use Rattle.tick_units.proofs.Seats.{is_same_seat-Decides, is_same_seat-comm, seats_equivalence, is_among-Decides}
use Rattle.tick_units.proofs.Canonical.{length-canonical_seats, IsDistinct-canonical_seats}
use Rattle.tick_units.proofs.Permutations.{same_members}

pub sound_none : (panels : ℕ) → IsSound panels []
sound_none panels = record { known = All-nil (Contains (canonical_seats panels)); once = λ i j d lt within. absurd (omega arith) }

-- one more seat of the site, that isn't there yet
pub sound_push : (panels : ℕ) (xs : List Seat) (s : Seat) → IsSound panels xs → Contains (canonical_seats panels) s → ¬ Contains xs s
    → IsSound panels (xs ++ s ∷ [])
sound_push panels xs s h known absent =
    record {
      known = All-push (Contains (canonical_seats panels)) xs s h.known known;
      once = all_pairs_push (λ a b. a ≢ b) xs s h.once (λ k d within same. absent (subst (Contains xs) same (Contains-get_or xs k d within)));
    }

-- a front
pub sound_front : (panels : ℕ) (xs ys : List Seat) → IsSound panels (xs ++ ys) → IsSound panels xs
sound_front panels xs ys h =
    record {
      known =
          λ k d within. subst (Contains (canonical_seats panels)) (get_or_append_left xs ys d k within)
          (h.known k d (omega (arith, length-append xs ys)));
      once = λ i j d lt within same.
          h.once i j d lt (omega (arith, length-append xs ys))
          (get_or_append_left xs ys d i (omega arith) ∙ same ∙ sym (get_or_append_left xs ys d j within));
    }

-- the seat behind a front
pub known_behind : (panels : ℕ) (xs : List Seat) (s : Seat) (ys : List Seat) → IsSound panels (xs ++ s ∷ ys) → Contains (canonical_seats panels) s
known_behind panels xs s ys h =
    subst (Contains (canonical_seats panels)) (get_or-append_seam xs s ys s) (h.known (length xs) s (omega (arith, length-append xs (s ∷ ys))))

pub absent_before : (panels : ℕ) (xs : List Seat) (s : Seat) (ys : List Seat) → IsSound panels (xs ++ s ∷ ys) → ¬ Contains xs s
absent_before panels xs s ys h there =
    h.once there.0 (length xs) s there.1 (omega (arith, length-append xs (s ∷ ys)))
    (get_or_append_left xs (s ∷ ys) s there.0 there.1 ∙ there.2 ∙ sym (get_or-append_seam xs s ys s))

-- no more seats than the site has
pub length_sound : (panels : ℕ) (xs : List Seat) → IsSound panels xs → length xs ≤ 8 * panels + 1
length_sound panels xs h =
    let few : length xs ≤ length (canonical_seats panels) =
    length-le_from_is_member seats_equivalence xs (canonical_seats panels) (IsDistinct-from_AllPairs is_same_seat-Decides xs h.once)
    (λ q m.
    (is_among-Decides q (canonical_seats panels)).1 (All-contains (Contains (canonical_seats panels)) xs q h.known ((is_among-Decides q xs).0 m)))
    in
    omega (arith, length-canonical_seats panels)

-- an order is a sound list that has all seats of the site
pub order_from_sound : (panels : ℕ) (seats : List Seat) → IsSound panels seats → All (Contains seats) (canonical_seats panels) → IsOrder panels seats
order_from_sound panels seats h whole =
    same_members (canonical_seats panels) seats (IsDistinct-canonical_seats panels) (IsDistinct-from_AllPairs is_same_seat-Decides seats h.once)
    (λ q there. All-contains (Contains seats) (canonical_seats panels) q whole there)
    (λ q there. All-contains (Contains (canonical_seats panels)) seats q h.known there)

pub sound_from_order : (panels : ℕ) (seats : List Seat) → IsOrder panels seats → IsSound panels seats
sound_from_order panels seats order =
    record {
      known = All-permutation (Contains (canonical_seats panels)) (canonical_seats panels) seats order (All-contains_itself (canonical_seats panels));
      once =
          AllPairs-from_IsDistinct is_same_seat-Decides seats
          (IsDistinct-IsPermutation is_same_seat is_same_seat-comm (canonical_seats panels) seats order (IsDistinct-canonical_seats panels));
    }

pub whole_from_order : (panels : ℕ) (seats : List Seat) → IsOrder panels seats → All (Contains seats) (canonical_seats panels)
whole_from_order panels seats order =
    All-weaker (Contains (canonical_seats panels)) (Contains seats) (λ q there. Contains-permutation (canonical_seats panels) seats q order there)
    (canonical_seats panels) (All-contains_itself (canonical_seats panels))
