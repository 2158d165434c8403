-- What is wrong with a list of seats, read from its first seat on, against the seats that it has.
use Rattle.std.proofs.Common.{◌≡◌, ◌+◌, ◌<◌, ℕ, suc, take, drop, get_or, drop-cons, take-append-drop}
use Rattle.std.proofs.Common.{◌++◌, Bool, true, false, not, List, [], ◌∷◌, length, Option, Some, None}
use Rattle.std.proofs.Common.{option_map, refl, ap, sym, ◌∙◌, arith, subst, append-nil, append_assoc, if◌then◌else◌}
use Rattle.std.specs.Prelude.{◌↔◌, Result, Ok, Err, MatchResult, IsOk, IfOk}
use Rattle.std.specs.List.{Contains}
use Rattle.std.proofs.lemmas.List.{length-take-le}
use Rattle.std.proofs.lemmas.Bool.Decides.{not_from_Decides}
use Rattle.std.proofs.lemmas.List.Elements.{All-contains}
use Rattle.tick_units.specs.declared.seat.Seat.{Seat}
use Rattle.tick_units.specs.declared.order_fault.BadOrder.{BadOrder}
use Rattle.tick_units.specs.declared.order_fault.BadOrder.TheVariants.{Repeated, Missing, Strange}
use Rattle.tick_units.specs.Orders.{IsSound, IsOrder, IsBadAt, IsStrangeAt, IsRepeatedAt, IsFirstMissing, canonical_seats, is_among, first_missing, fault_behind, order_fault}
use Rattle.tick_units.proofs.Seats.{is_among-Decides}
use Rattle.tick_units.proofs.Missing.{missing_at, first_missing-at, all_there, first_missing-all_there}
use Rattle.tick_units.proofs.Sound.{sound_none, sound_push, known_behind, absent_before, order_from_sound, sound_from_order, whole_from_order}

-- what the next seat decides
pub strange_here : (panels : ℕ) (earlier : List Seat) (seat : Seat) (later : List Seat) → is_among seat (canonical_seats panels) ≡ false
    → fault_behind panels earlier (seat ∷ later) ≡ Some (Strange (length earlier + 1))
strange_here panels earlier seat later e =
    ap (λ b. if not b then Some (Strange (length earlier + 1)) else (if is_among seat earlier then Some (Repeated (length earlier + 1)) else fault_behind panels (earlier ++ seat ∷ []) later)) e

pub repeated_here : (panels : ℕ) (earlier : List Seat) (seat : Seat) (later : List Seat) → is_among seat (canonical_seats panels) ≡ true
    → is_among seat earlier ≡ true → fault_behind panels earlier (seat ∷ later) ≡ Some (Repeated (length earlier + 1))
repeated_here panels earlier seat later e f =
    ap (λ b. if not b then Some (Strange (length earlier + 1)) else (if is_among seat earlier then Some (Repeated (length earlier + 1)) else fault_behind panels (earlier ++ seat ∷ []) later)) e
    ∙ ap (λ b. if b then Some (Repeated (length earlier + 1)) else fault_behind panels (earlier ++ seat ∷ []) later) f

pub passes_here : (panels : ℕ) (earlier : List Seat) (seat : Seat) (later : List Seat) → is_among seat (canonical_seats panels) ≡ true
    → is_among seat earlier ≡ false → fault_behind panels earlier (seat ∷ later) ≡ fault_behind panels (earlier ++ seat ∷ []) later
passes_here panels earlier seat later e f =
    ap (λ b. if not b then Some (Strange (length earlier + 1)) else (if is_among seat earlier then Some (Repeated (length earlier + 1)) else fault_behind panels (earlier ++ seat ∷ []) later)) e
    ∙ ap (λ b. if b then Some (Repeated (length earlier + 1)) else fault_behind panels (earlier ++ seat ∷ []) later) f

isnt : (seat : Seat) (seats : List Seat) (b : Bool) → is_among seat seats ≡ b → ¬ Contains seats seat → is_among seat seats ≡ false
isnt seat seats true e absent = absurd (absent ((is_among-Decides seat seats).0 e))
isnt seat seats false e absent = e

-- seats that are sound decide nothing
pub sound_passed : (panels : ℕ) (earlier xs later : List Seat) → IsSound panels (earlier ++ xs)
    → fault_behind panels earlier (xs ++ later) ≡ fault_behind panels (earlier ++ xs) later
sound_passed panels earlier [] later h = ap (λ ys. fault_behind panels ys later) (sym (append-nil earlier))
sound_passed panels earlier (x ∷ xs) later h =
    let joined : (earlier ++ x ∷ []) ++ xs ≡ earlier ++ (x ∷ xs) = append_assoc earlier (x ∷ []) xs in
    passes_here panels earlier x (xs ++ later) ((is_among-Decides x (canonical_seats panels)).1 (known_behind panels earlier x xs h))
    (isnt x earlier (is_among x earlier) refl (absent_before panels earlier x xs h))
    ∙ sound_passed panels (earlier ++ x ∷ []) xs later (subst (IsSound panels) (sym joined) h)
    ∙ ap (λ ys. fault_behind panels ys later) joined

-- what a list has that is read to its end, or to its first bad place
data Walked (panels : ℕ) (seats : List Seat) (fault : Option BadOrder) : Type 0 where
  at_strange : (place : ℕ) → IsStrangeAt panels seats place → fault ≡ Some (Strange place) → Walked panels seats fault
  at_repeated : (place : ℕ) → IsRepeatedAt panels seats place → fault ≡ Some (Repeated place) → Walked panels seats fault
  at_end : IsSound panels seats → fault ≡ option_map Missing (first_missing (canonical_seats panels) seats) → Walked panels seats fault

bad_here : {IsBad : List Seat → Seat → Type 0} (panels : ℕ) (earlier : List Seat) (seat : Seat) (later : List Seat) → IsSound panels earlier
    → IsBad earlier seat → IsBadAt IsBad panels (earlier ++ seat ∷ later) (length earlier + 1)
bad_here panels earlier seat later sound bad =
    record { earlier = earlier; seat = seat; later = later; splits = refl; counted = refl; sound = sound; bad = bad }

walk-step : (panels : ℕ) (earlier : List Seat) (seat : Seat) (later : List Seat) (known there : Bool) → is_among seat (canonical_seats panels) ≡ known
    → is_among seat earlier ≡ there → IsSound panels earlier
    → (IsSound panels (earlier ++ seat ∷ []) → Walked panels ((earlier ++ seat ∷ []) ++ later) (fault_behind panels (earlier ++ seat ∷ []) later))
    → Walked panels (earlier ++ seat ∷ later) (fault_behind panels earlier (seat ∷ later))
walk-step panels earlier seat later false there k t sound rest =
    at_strange (length earlier + 1)
    (bad_here panels earlier seat later sound
    (not_from_Decides (is_among seat (canonical_seats panels)) (is_among-Decides seat (canonical_seats panels)) k))
    (strange_here panels earlier seat later k)
walk-step panels earlier seat later true true k t sound rest =
    at_repeated (length earlier + 1) (bad_here panels earlier seat later sound ((is_among-Decides seat earlier).0 t))
    (repeated_here panels earlier seat later k t)
walk-step panels earlier seat later true false k t sound rest =
    let more : IsSound panels (earlier ++ seat ∷ []) =
    sound_push panels earlier seat sound ((is_among-Decides seat (canonical_seats panels)).0 k)
    (not_from_Decides (is_among seat earlier) (is_among-Decides seat earlier) t)
    in
    let whole : Walked panels (earlier ++ seat ∷ later) (fault_behind panels (earlier ++ seat ∷ []) later) =
    subst (λ xs. Walked panels xs (fault_behind panels (earlier ++ seat ∷ []) later)) (append_assoc earlier (seat ∷ []) later) (rest more)
    in
    subst (Walked panels (earlier ++ seat ∷ later)) (sym (passes_here panels earlier seat later k t)) whole

walk : (panels : ℕ) (earlier later : List Seat) → IsSound panels earlier → Walked panels (earlier ++ later) (fault_behind panels earlier later)
walk panels earlier [] sound =
    at_end (subst (IsSound panels) (sym (append-nil earlier)) sound)
    (ap (λ xs. option_map Missing (first_missing (canonical_seats panels) xs)) (sym (append-nil earlier)))
walk panels earlier (seat ∷ later) sound =
    walk-step panels earlier seat later (is_among seat (canonical_seats panels)) (is_among seat earlier) refl refl sound
    (walk panels (earlier ++ seat ∷ []) later)

walked : (panels : ℕ) (seats : List Seat) → Walked panels seats (order_fault panels seats)
walked panels seats = walk panels [] seats (sound_none panels)

-- what stands at the end
end_names : (o : Option Seat) (seat : Seat) → option_map Missing o ≡ Some (Missing seat) → o ≡ Some seat
end_names (Some s) seat e = cc
end_names None seat e = cc

end_none : (o : Option Seat) → option_map Missing o ≡ None → o ≡ None
end_none (Some s) e = cc
end_none None e = refl

end_no_place : (o : Option Seat) (fault : BadOrder) → ((seat : Seat) → Missing seat ≡ fault → ⊥) → option_map Missing o ≡ Some fault → ⊥
end_no_place (Some s) fault other e = other s cc
end_no_place None fault other e = cc

-- a strange seat
strange_told : (panels : ℕ) (seats : List Seat) (place : ℕ) (fault : Option BadOrder) → fault ≡ Some (Strange place) → Walked panels seats fault
    → IsStrangeAt panels seats place
strange_told panels seats place fault e (at_strange q h f) = let same : q ≡ place = let g : Some (Strange q) ≡ Some (Strange place) = sym f ∙ e in
    cc in subst (IsStrangeAt panels seats) same h
strange_told panels seats place fault e (at_repeated q h f) = let g : Some (Repeated q) ≡ Some (Strange place) = sym f ∙ e in cc
strange_told panels seats place fault e (at_end h f) =
    absurd (end_no_place (first_missing (canonical_seats panels) seats) (Strange place) (λ s g. cc) (sym f ∙ e))

pub order_fault-strange : (panels : ℕ) (seats : List Seat) (place : ℕ)
    → (order_fault panels seats ≡ Some (Strange place)) ↔ IsStrangeAt panels seats place
order_fault-strange panels seats place = (
  λ e. strange_told panels seats place (order_fault panels seats) e (walked panels seats),
  λ h. ap (order_fault panels) h.splits ∙ sound_passed panels [] h.earlier (h.seat ∷ h.later) h.sound ∙ strange_here panels h.earlier h.seat h.later
      (isnt h.seat (canonical_seats panels) (is_among h.seat (canonical_seats panels)) refl h.bad) ∙ ap (λ n. Some (Strange n)) (sym h.counted),
)

-- a repeated seat
repeated_told : (panels : ℕ) (seats : List Seat) (place : ℕ) (fault : Option BadOrder) → fault ≡ Some (Repeated place) → Walked panels seats fault
    → IsRepeatedAt panels seats place
repeated_told panels seats place fault e (at_strange q h f) = let g : Some (Strange q) ≡ Some (Repeated place) = sym f ∙ e in cc
repeated_told panels seats place fault e (at_repeated q h f) = let same : q ≡ place = let g : Some (Repeated q) ≡ Some (Repeated place) = sym f ∙ e in
    cc in subst (IsRepeatedAt panels seats) same h
repeated_told panels seats place fault e (at_end h f) =
    absurd (end_no_place (first_missing (canonical_seats panels) seats) (Repeated place) (λ s g. cc) (sym f ∙ e))

pub order_fault-repeated : (panels : ℕ) (seats : List Seat) (place : ℕ)
    → (order_fault panels seats ≡ Some (Repeated place)) ↔ IsRepeatedAt panels seats place
order_fault-repeated panels seats place = (
  λ e. repeated_told panels seats place (order_fault panels seats) e (walked panels seats),
  λ h. ap (order_fault panels) h.splits ∙ sound_passed panels [] h.earlier (h.seat ∷ h.later) h.sound ∙ repeated_here panels h.earlier h.seat h.later
      ((is_among-Decides h.seat (canonical_seats panels)).1 (known_twice panels h.earlier h.seat h.sound h.bad))
      ((is_among-Decides h.seat h.earlier).1 h.bad) ∙ ap (λ n. Some (Repeated n)) (sym h.counted),
)
  where
    known_twice : (panels : ℕ) (earlier : List Seat) (seat : Seat) → IsSound panels earlier → Contains earlier seat
        → Contains (canonical_seats panels) seat
    known_twice panels earlier seat sound there = All-contains (Contains (canonical_seats panels)) earlier seat sound.known there

-- the end of a sound list
pub order_fault-sound : (panels : ℕ) (seats : List Seat) → IsSound panels seats
    → order_fault panels seats ≡ option_map Missing (first_missing (canonical_seats panels) seats)
order_fault-sound panels seats sound = ap (order_fault panels) (sym (append-nil seats)) ∙ sound_passed panels [] seats [] sound

-- a missing seat
missing_told : (panels : ℕ) (seats : List Seat) (seat : Seat) (fault : Option BadOrder) → fault ≡ Some (Missing seat) → Walked panels seats fault
    → IsFirstMissing panels seats seat
missing_told panels seats seat fault e (at_strange q h f) = let g : Some (Strange q) ≡ Some (Missing seat) = sym f ∙ e in cc
missing_told panels seats seat fault e (at_repeated q h f) = let g : Some (Repeated q) ≡ Some (Missing seat) = sym f ∙ e in cc
missing_told panels seats seat fault e (at_end sound f) =
    let m = missing_at (canonical_seats panels) seats seat (end_names (first_missing (canonical_seats panels) seats) seat (sym f ∙ e)) in
    record {
      earlier = m.earlier;
      later = m.later;
      sound = sound;
      splits = m.splits;
      there = m.there;
      absent = m.absent;
    }

pub order_fault-missing : (panels : ℕ) (seats : List Seat) (seat : Seat)
    → (order_fault panels seats ≡ Some (Missing seat)) ↔ IsFirstMissing panels seats seat
order_fault-missing panels seats seat = (
  λ e. missing_told panels seats seat (order_fault panels seats) e (walked panels seats),
  λ h. order_fault-sound panels seats h.sound ∙ ap (option_map Missing)
      (ap (λ xs. first_missing xs seats) h.splits ∙ first_missing-at h.earlier seat h.later seats h.there h.absent),
)

-- no fault
order_told : (panels : ℕ) (seats : List Seat) (fault : Option BadOrder) → fault ≡ None → Walked panels seats fault → IsOrder panels seats
order_told panels seats fault e (at_strange q h f) = let g : Some (Strange q) ≡ None = sym f ∙ e in cc
order_told panels seats fault e (at_repeated q h f) = let g : Some (Repeated q) ≡ None = sym f ∙ e in cc
order_told panels seats fault e (at_end sound f) =
    order_from_sound panels seats sound
    (all_there (canonical_seats panels) seats (end_none (first_missing (canonical_seats panels) seats) (sym f ∙ e)))

pub order_fault-none : (panels : ℕ) (seats : List Seat) → (order_fault panels seats ≡ None) ↔ IsOrder panels seats
order_fault-none panels seats = (
  λ e. order_told panels seats (order_fault panels seats) e (walked panels seats),
  λ order. order_fault-sound panels seats (sound_from_order panels seats order) ∙ ap (option_map Missing)
      (first_missing-all_there (canonical_seats panels) seats (whole_from_order panels seats order)),
)

-- what `Order::new` answers tells the fault of the list, and accepts it where there is none
abbrev pub IsTold : ℕ → List Seat → Result (List Seat) BadOrder → Type 0
IsTold panels seats result = MatchResult result (λ _. order_fault panels seats ≡ None) (λ fault. order_fault panels seats ≡ Some fault)

pub ok-order : (panels : ℕ) (seats : List Seat) (result : Result (List Seat) BadOrder) → IsTold panels seats result
    → IsOk result ↔ IsOrder panels seats
ok-order panels seats (Ok order) told = (λ _. (order_fault-none panels seats).0 told, λ _. refl)
ok-order panels seats (Err fault) told = (
  λ ok. cc,
  λ order. let h : Some fault ≡ None = sym told ∙ (order_fault-none panels seats).1 order in cc,
)

err-fault : (panels : ℕ) (seats : List Seat) (result : Result (List Seat) BadOrder) (fault : BadOrder) → IsTold panels seats result
    → (result ≡ Err fault) ↔ (order_fault panels seats ≡ Some fault)
err-fault panels seats (Ok order) fault told = (λ e. cc, λ e. let h : None ≡ Some fault = sym told ∙ e in cc)
err-fault panels seats (Err other) fault told = (
  λ e. let same : other ≡ fault = cc in told ∙ ap Some same,
  λ e. let h : Some other ≡ Some fault = sym told ∙ e in let same : other ≡ fault = cc in ap Err same,
)

both : {P Q R : Type 0} → P ↔ Q → Q ↔ R → P ↔ R
both h k = (λ p. k.0 (h.0 p), λ r. h.1 (k.1 r))

pub err-strange : (panels : ℕ) (seats : List Seat) (result : Result (List Seat) BadOrder) → IsTold panels seats result → (place : ℕ)
    → (result ≡ Err (Strange place)) ↔ IsStrangeAt panels seats place
err-strange panels seats result told place = both (err-fault panels seats result (Strange place) told) (order_fault-strange panels seats place)

pub err-repeated : (panels : ℕ) (seats : List Seat) (result : Result (List Seat) BadOrder) → IsTold panels seats result → (place : ℕ)
    → (result ≡ Err (Repeated place)) ↔ IsRepeatedAt panels seats place
err-repeated panels seats result told place = both (err-fault panels seats result (Repeated place) told) (order_fault-repeated panels seats place)

pub err-missing : (panels : ℕ) (seats : List Seat) (result : Result (List Seat) BadOrder) → IsTold panels seats result → (seat : Seat)
    → (result ≡ Err (Missing seat)) ↔ IsFirstMissing panels seats seat
err-missing panels seats result told seat = both (err-fault panels seats result (Missing seat) told) (order_fault-missing panels seats seat)

-- all of it at once
abbrev pub Told : ℕ → List Seat → Result (List Seat) BadOrder → Type 0
Told panels seats result =
    record {
      same : IfOk result (λ order. order ≡ seats);
      order : IsOk result ↔ IsOrder panels seats;
      strange : (place : ℕ) → (result ≡ Err (Strange place)) ↔ IsStrangeAt panels seats place;
      repeated : (place : ℕ) → (result ≡ Err (Repeated place)) ↔ IsRepeatedAt panels seats place;
      missing : (seat : Seat) → (result ≡ Err (Missing seat)) ↔ IsFirstMissing panels seats seat;
      answer : IsTold panels seats result;
    }

pub told_all : (panels : ℕ) (seats : List Seat) (result : Result (List Seat) BadOrder) → IfOk result (λ order. order ≡ seats)
    → IsTold panels seats result → Told panels seats result
told_all panels seats result same told =
    record {
      same = same;
      order = ok-order panels seats result told;
      strange = err-strange panels seats result told;
      repeated = err-repeated panels seats result told;
      missing = err-missing panels seats result told;
      answer = told;
    }

-- where a list of seats that are sound so far goes wrong
at_place : (panels : ℕ) (seats earlier : List Seat) (i : ℕ) (d : Seat) → earlier ≡ take i seats → i < length seats → IsSound panels earlier
    → order_fault panels seats ≡ fault_behind panels earlier (get_or seats i d ∷ drop (suc i) seats)
at_place panels seats earlier i d is within sound =
    ap (order_fault panels) (sym (take-append-drop i seats) ∙ ap (λ xs. xs ++ drop i seats) (sym is))
    ∙ sound_passed panels [] earlier (drop i seats) sound
    ∙ ap (fault_behind panels earlier) (drop-cons seats i d within)

strange_at : (panels : ℕ) (seats earlier : List Seat) (i : ℕ) (d : Seat) → earlier ≡ take i seats → i < length seats → IsSound panels earlier
    → is_among (get_or seats i d) (canonical_seats panels) ≡ false → order_fault panels seats ≡ Some (Strange (length earlier + 1))
strange_at panels seats earlier i d is within sound strange =
    at_place panels seats earlier i d is within sound ∙ strange_here panels earlier (get_or seats i d) (drop (suc i) seats) strange

repeated_at : (panels : ℕ) (seats earlier : List Seat) (i : ℕ) (d : Seat) → earlier ≡ take i seats → i < length seats → IsSound panels earlier
    → is_among (get_or seats i d) (canonical_seats panels) ≡ true → is_among (get_or seats i d) earlier ≡ true
    → order_fault panels seats ≡ Some (Repeated (length earlier + 1))
repeated_at panels seats earlier i d is within sound known there =
    at_place panels seats earlier i d is within sound ∙ repeated_here panels earlier (get_or seats i d) (drop (suc i) seats) known there

-- one more
pub sound_more : (panels : ℕ) (earlier : List Seat) (seat : Seat) → IsSound panels earlier → is_among seat (canonical_seats panels) ≡ true
    → is_among seat earlier ≡ false → IsSound panels (earlier ++ seat ∷ [])
sound_more panels earlier seat sound known absent =
    sound_push panels earlier seat sound ((is_among-Decides seat (canonical_seats panels)).0 known)
    (not_from_Decides (is_among seat earlier) (is_among-Decides seat earlier) absent)

-- the first bad seat of a list decides what is wrong with it
pub fault_at : (panels : ℕ) (seats : List Seat) (i : ℕ) (d : Seat) (known : Bool) → is_among (get_or seats i d) (canonical_seats panels) ≡ known
    → i < length seats → IsSound panels (take i seats) → (known ≡ true → is_among (get_or seats i d) (take i seats) ≡ true)
    → order_fault panels seats ≡ Some (if known then Repeated (i + 1) else Strange (i + 1))
fault_at panels seats i d true is within sound there =
    repeated_at panels seats (take i seats) i d refl within sound is (there refl)
    ∙ ap (λ n. Some (Repeated (n + 1))) (length-take-le i seats (omega arith))
fault_at panels seats i d false is within sound there =
    strange_at panels seats (take i seats) i d refl within sound is ∙ ap (λ n. Some (Strange (n + 1))) (length-take-le i seats (omega arith))

-- what the search for a missing seat finds at the end
pub told_at_end : (panels : ℕ) (seats : List Seat) (found : Option Seat) → IsSound panels seats
    → found ≡ first_missing (canonical_seats panels) seats → order_fault panels seats ≡ option_map Missing found
told_at_end panels seats found sound is = order_fault-sound panels seats sound ∙ ap (option_map Missing) (sym is)
