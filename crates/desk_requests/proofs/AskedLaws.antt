-- What is asked for has a body that isn't too long.
use Rattle.std.proofs.Common.{◌≡◌, ◌≤◌, not, ℕ, Bool, true, false, List, [], ◌∷◌, length, Option, Some, None, Result, Ok, Err}
use Rattle.std.proofs.Common.{if◌then◌else◌, refl, ap, subst, arith}
use Rattle.std.specs.Prelude.{nat_le}
use Rattle.std.proofs.lemmas.Bool.{leb-true}
use Rattle.desk_requests.specs.Asked.{allowed_length, by_route, encoding_name, field_values, has_field, has_method}
use Rattle.desk_requests.specs.Asked.{length_name, only_length, unencoded, with_body, with_length}
use Rattle.desk_requests.specs.Paths.{is_posted}
use Rattle.desk_requests.specs.declared.asking.Asking.{Asking}
use Rattle.desk_requests.specs.declared.route.Route.{Route}
use Rattle.desk_requests.specs.declared.route.Route.TheVariants.{Stop}
use Rattle.desk_requests.specs.declared.status.Status.{Status}
use Rattle.desk_requests.specs.declared.status.Status.TheVariants.{BodyTooLarge, MethodNotAllowed, NotImplemented}
use Rattle.site_types.specs.Numbers.{number_of}

-- the number of an accepted length
ok_number : (count n : ℕ) → (λ (r : Result ℕ Status). r) (Ok count) ≡ Ok n → count ≡ n
ok_number count n e = cc

allowed_short : (count : Option ℕ) (n : ℕ) → allowed_length count ≡ Ok n → n ≤ 65536
allowed_short None n e = absurd cc
allowed_short (Some count) n e = by (nat_le count 65536) refl e
  where
    by : (b : Bool) → nat_le count 65536 ≡ b → (if b then Ok count else Err BodyTooLarge) ≡ Ok n → n ≤ 65536
    by true is h = subst (λ m. m ≤ 65536) (ok_number count n h) (leb-true count 65536 is)
    by false is h = absurd cc

only_short : (values : List (List ℕ)) (n : ℕ) → only_length values ≡ Ok n → n ≤ 65536
only_short [] n e = absurd cc
only_short (text ∷ []) n e = allowed_short (number_of text) n e
only_short (text ∷ other ∷ more) n e = absurd cc

-- the route that was found is asked for, with a body of so many bytes
abbrev IsAsked : Route → Route → ℕ → Type 0
IsAsked found route count = (found ≡ route) × (count ≤ 65536)

-- what is asked for, and how many bytes of body, where that is accepted
route_in : Result Asking Status → Route
route_in (Ok asks) = asks.route
route_in (Err status) = Stop

count_in : Result Asking Status → ℕ
count_in (Ok asks) = asks.length
count_in (Err status) = 0

route_same : (found route : Route) (n count : ℕ) → with_length found (Ok n) ≡ with_length route (Ok count) → found ≡ route
unfolding route_in
route_same found route n count e = ap route_in e

count_same : (found route : Route) (n count : ℕ) → with_length found (Ok n) ≡ with_length route (Ok count) → n ≡ count
unfolding count_in
count_same found route n count e = ap count_in e

length_asked : (found : Route) (counted : Result ℕ Status) (route : Route) (count : ℕ) → ((n : ℕ) → counted ≡ Ok n → n ≤ 65536)
    → with_length found counted ≡ with_length route (Ok count) → IsAsked found route count
length_asked found (Ok n) route count short e = (route_same found route n count e, subst (λ m. m ≤ 65536) (count_same found route n count e) (short n refl))
length_asked found (Err status) route count short e = absurd cc

none_asked : (found route : Route) (count : ℕ) → with_length found (Ok 0) ≡ with_length route (Ok count) → IsAsked found route count
none_asked found route count e = let none = count_same found route 0 count e in (route_same found route 0 count e, omega (arith, none))

body_asked : (found : Route) (fields : List (List ℕ × List ℕ)) (route : Route) (count : ℕ) → with_body found fields ≡ with_length route (Ok count)
    → IsAsked found route count
body_asked found fields route count e = by (not (is_posted found)) e
  where
    by : (b : Bool) → (if b then with_length found (Ok 0) else with_length found (only_length (field_values length_name fields))) ≡ with_length route (Ok count)
        → IsAsked found route count
    by true h = none_asked found route count h
    by false h = length_asked found (only_length (field_values length_name fields)) route count (only_short (field_values length_name fields)) h

unencoded_asked : (found : Route) (fields : List (List ℕ × List ℕ)) (route : Route) (count : ℕ) → unencoded found fields ≡ with_length route (Ok count)
    → IsAsked found route count
unencoded_asked found fields route count e = by (has_field encoding_name fields) e
  where
    by : (b : Bool) → (if b then Err NotImplemented else with_body found fields) ≡ with_length route (Ok count) → IsAsked found route count
    by true h = absurd cc
    by false h = body_asked found fields route count h

pub route_asked : (method : List ℕ) (fields : List (List ℕ × List ℕ)) (found : Option Route) (route : Route) (count : ℕ)
    → by_route method fields found ≡ with_length route (Ok count) → (found ≡ Some route) × (count ≤ 65536)
route_asked method fields None route count e = absurd cc
route_asked method fields (Some found) route count e = by (not (has_method found method)) e
  where
    by : (b : Bool) → (if b then Err MethodNotAllowed else unencoded found fields) ≡ with_length route (Ok count) → (Some found ≡ Some route) × (count ≤ 65536)
    by true h = absurd cc
    by false h = let asked = unencoded_asked found fields route count h in (ap Some asked.0, asked.1)
