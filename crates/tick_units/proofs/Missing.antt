-- The first of some seats that isn't among others.
use Rattle.std.proofs.Common.{◌≡◌, ◌+◌, ◌<◌, ◌≤◌, ◌++◌, ℕ, zero, suc, Bool, true, false, cond, not, List, [], ◌∷◌}
use Rattle.std.proofs.Common.{length, drop, get_or, Some, None, refl, sym, ap, ◌∙◌, arith, add-one, drop-cons, subst}
use Rattle.std.specs.List.{All, Contains}
use Rattle.std.proofs.lemmas.Bool.Decides.{not_from_Decides}
use Rattle.std.proofs.lemmas.List.Elements.{All-nil, All-cons, All-head, All-tail}
use Rattle.tick_units.specs.declared.seat.Seat.{Seat}
use Rattle.tick_units.specs.Orders.{first_missing, is_among}
use Rattle.tick_units.proofs.Seats.{is_among-Decides}

-- a seat that is there isn't the missing one
pub first_missing-there : (x : Seat) (xs others : List Seat) → is_among x others ≡ true → first_missing (x ∷ xs) others ≡ first_missing xs others
first_missing-there x xs others there = ap (λ b. cond (not b) (Some x) (first_missing xs others)) there

pub first_missing-absent : (x : Seat) (xs others : List Seat) → is_among x others ≡ false → first_missing (x ∷ xs) others ≡ Some x
first_missing-absent x xs others absent = ap (λ b. cond (not b) (Some x) (first_missing xs others)) absent

pub missing_past : (xs others : List Seat) (i : ℕ) (d : Seat) → i < length xs → is_among (get_or xs i d) others ≡ true
    → first_missing xs others ≡ first_missing (drop i xs) others → first_missing xs others ≡ first_missing (drop (i + 1) xs) others
missing_past xs others i d within there before =
    before ∙ ap (λ ys. first_missing ys others) (drop-cons xs i d within) ∙ first_missing-there (get_or xs i d) (drop (suc i) xs) others there ∙ ap
    (λ n. first_missing (drop n xs) others) (sym (add-one i))

pub missing_here : (xs others : List Seat) (i : ℕ) (d : Seat) → i < length xs → is_among (get_or xs i d) others ≡ false
    → first_missing xs others ≡ first_missing (drop i xs) others → first_missing xs others ≡ Some (get_or xs i d)
missing_here xs others i d within absent before =
    before ∙ ap (λ ys. first_missing ys others) (drop-cons xs i d within) ∙ first_missing-absent (get_or xs i d) (drop (suc i) xs) others absent

pub drop_all : {X : Type 0} (xs : List X) (n : ℕ) → length xs ≤ n → drop n xs ≡ []
drop_all [] zero h = refl
drop_all [] (suc n) h = refl
drop_all (x ∷ xs) zero h = absurd (omega arith)
drop_all (x ∷ xs) (suc n) h = drop_all xs n (omega arith)

pub missing_nowhere : (xs others : List Seat) (i : ℕ) → length xs ≤ i → first_missing xs others ≡ first_missing (drop i xs) others
    → first_missing xs others ≡ None
missing_nowhere xs others i past before = before ∙ ap (λ ys. first_missing ys others) (drop_all xs i past)

-- where a seat stands behind seats that are all there
pub record MissingAt (xs others : List Seat) (seat : Seat) : Type 0 where
  pub earlier : List Seat
  pub later : List Seat
  pub splits : xs ≡ earlier ++ seat ∷ later
  pub there : All (Contains others) earlier
  pub absent : ¬ Contains others seat

put_before : (x : Seat) (xs others : List Seat) (seat : Seat) → Contains others x → MissingAt xs others seat → MissingAt (x ∷ xs) others seat
put_before x xs others seat there m =
    record {
      earlier = x ∷ m.earlier;
      later = m.later;
      splits = ap (λ ys. x ∷ ys) m.splits;
      there = All-cons (Contains others) x m.earlier there m.there;
      absent = m.absent;
    }

missing_at-step : (x : Seat) (xs others : List Seat) (seat : Seat) (b : Bool) → is_among x others ≡ b
    → (first_missing xs others ≡ Some seat → MissingAt xs others seat) → first_missing (x ∷ xs) others ≡ Some seat → MissingAt (x ∷ xs) others seat
missing_at-step x xs others seat true is rest e =
    put_before x xs others seat ((is_among-Decides x others).0 is) (rest (sym (first_missing-there x xs others is) ∙ e))
missing_at-step x xs others seat false is rest e =
    let h : Some x ≡ Some seat = sym (first_missing-absent x xs others is) ∙ e in
    let same : x ≡ seat = cc in
    record {
      earlier = [];
      later = xs;
      splits = ap (λ y. y ∷ xs) same;
      there = All-nil (Contains others);
      absent = subst (λ (y : Seat). ¬ Contains others y) same (not_from_Decides (is_among x others) (is_among-Decides x others) is);
    }

pub missing_at : (xs others : List Seat) (seat : Seat) → first_missing xs others ≡ Some seat → MissingAt xs others seat
missing_at [] others seat e = cc
missing_at (x ∷ xs) others seat e = missing_at-step x xs others seat (is_among x others) refl (missing_at xs others seat) e

-- the way back
pub first_missing-at : (earlier : List Seat) (seat : Seat) (later others : List Seat) → All (Contains others) earlier → ¬ Contains others seat
    → first_missing (earlier ++ seat ∷ later) others ≡ Some seat
first_missing-at [] seat later others there absent =
    first_missing-absent seat later others (isnt (is_among seat others) (λ e. absent ((is_among-Decides seat others).0 e)))
  where
    isnt : (b : Bool) → ((b ≡ true) → ⊥) → b ≡ false
    isnt true f = absurd (f refl)
    isnt false f = refl
first_missing-at (x ∷ xs) seat later others there absent =
    first_missing-there x (xs ++ seat ∷ later) others ((is_among-Decides x others).1 (All-head (Contains others) x xs there))
    ∙ first_missing-at xs seat later others (All-tail (Contains others) x xs there) absent

-- none is missing where all are there
pub first_missing-all_there : (xs others : List Seat) → All (Contains others) xs → first_missing xs others ≡ None
first_missing-all_there [] others there = refl
first_missing-all_there (x ∷ xs) others there =
    first_missing-there x xs others ((is_among-Decides x others).1 (All-head (Contains others) x xs there)) ∙ first_missing-all_there xs others
    (All-tail (Contains others) x xs there)

all_there-step : (x : Seat) (xs others : List Seat) (b : Bool) → is_among x others ≡ b → (first_missing xs others ≡ None → All (Contains others) xs)
    → first_missing (x ∷ xs) others ≡ None → All (Contains others) (x ∷ xs)
all_there-step x xs others true is rest e =
    All-cons (Contains others) x xs ((is_among-Decides x others).0 is) (rest (sym (first_missing-there x xs others is) ∙ e))
all_there-step x xs others false is rest e = let h : Some x ≡ None = sym (first_missing-absent x xs others is) ∙ e in cc

pub all_there : (xs others : List Seat) → first_missing xs others ≡ None → All (Contains others) xs
all_there [] others e = All-nil (Contains others)
all_there (x ∷ xs) others e = all_there-step x xs others (is_among x others) refl (all_there xs others) e
