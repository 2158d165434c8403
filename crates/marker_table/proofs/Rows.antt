-- What a row of the table makes of a marker is its equation.
use Rattle.std.proofs.Common.{◌≡◌, ◌≤◌, ◌<◌, ◌+◌, ◌-◌, ◌*◌, ◌/◌, ◌%◌, ◌&&◌, ◌||◌, ◌++◌, ℕ, zero, suc, Bool, true}
use Rattle.std.proofs.Common.{false, List, [], ◌∷◌, Some, None, map, length, take, get_or, refl, sym, ap, subst, ◌∙◌, arith, if◌then◌else◌}
use Rattle.std.specs.Prelude.{slice_get, slice_index_or, slice_set, nat_le, nat_lt, count_by, sum_by}
use Rattle.std.specs.List.{list_all, list_any}
use Rattle.std.proofs.lemmas.Bool.Decides.{nat_tests}
use Rattle.std.proofs.lemmas.List.Sums.{sum_by-cons, sum_by-set, sum_by_more, sum_by-take-le}
use Rattle.std.proofs.lemmas.Option.{get_or_from_slice_get}
use Rattle.site_types.specs.Bits.{has_bit}
use Rattle.site_types.specs.Valid.{IsValid, IsTerm}
use Rattle.site_types.specs.declared.site.Site.{Site}
use Rattle.site_types.specs.declared.marker.Marker.{Marker}
use Rattle.site_types.specs.declared.combine.Combine.{Combine}
use Rattle.site_types.specs.declared.combine.Combine.TheVariants.{All as AllOf, Any, AtLeast}
use Rattle.site_types.specs.declared.term.Term.{Term}
use Rattle.site_types.specs.declared.term.Term.TheVariants.{Zone as ZoneTerm, Manual as ManualTerm, Fault as FaultTerm, Marker as MarkerTerm}
use Rattle.site_types.proofs.ValidSites.{zone_numbers, term_of_marker}
use Rattle.marker_table.specs.declared.facts.Facts.{Facts}
use Rattle.marker_table.specs.declared.input.Input.{Input}
use Rattle.marker_table.specs.declared.mask.Mask.{Mask}
use Rattle.marker_table.specs.declared.row.Row.{Row}
use Rattle.marker_table.specs.declared.table.MarkerTable.{MarkerTable}
use Rattle.marker_table.specs.declared.readings.Readings.{Readings}
use Rattle.marker_table.specs.Equations.{zone_bit, holds, is_met, equation}
use Rattle.marker_table.specs.Table.{zone_index, input_of, reads, count_in, value_read, one_if, HasFacts, needed_of, AddsInputAt, CountsMore, IsRowOf, AreRowsOf, IsTableOf}

-- ---- what is read where a term looks

-- a place below the length has an item
pub item_at : {X : Type 0} (xs : List X) (k : ℕ) → k < length xs → (x : X) × (slice_get xs k ≡ Some x)
item_at [] k within = absurd (omega (arith, within))
item_at (x ∷ xs) zero within = (x, refl)
item_at (x ∷ xs) (suc k) within = item_at xs k (omega (arith, within))

-- the words of the zones of all panels, or of their call points, among some words
abbrev AreWordsOf : List ℕ → ℕ → List ℕ → Type 0
AreWordsOf words first masks = (k : ℕ) → k < 8 → slice_index_or words (first + k) 0 ≡ slice_index_or masks k 0

bit_there : (words masks : List ℕ) (first panel number : ℕ) → AreWordsOf words first masks → 1 ≤ panel → panel ≤ 8 → 1 ≤ number → number ≤ 32 →
    has_bit (slice_index_or words (first + (32 * (panel - 1) + (number - 1)) / 32) 0) ((32 * (panel - 1) + (number - 1)) % 32)
    ≡ has_bit (slice_index_or masks (panel - 1) 0) (number - 1)
bit_there words masks first panel number are p most n m =
    let row : (32 * (panel - 1) + (number - 1)) / 32 ≡ panel - 1 = omega arith in
    let bit : (32 * (panel - 1) + (number - 1)) % 32 ≡ number - 1 = omega arith in
    rw (row, bit) (ap (λ w. has_bit w (number - 1)) (are (panel - 1) (omega (arith, p, most))))

zone_there : (site : Site) → IsValid site → (words masks : List ℕ) (first place : ℕ) → AreWordsOf words first masks → place < length site.zones →
    has_bit (slice_index_or words (first + zone_index (slice_get site.zones place) / 32) 0) (zone_index (slice_get site.zones place) % 32)
    ≡ zone_bit masks (slice_get site.zones place)
zone_there site valid words masks first place are within =
    let at = item_at site.zones place within in
    let n = zone_numbers site valid place at.0 at.1 in
    rw at.1 (bit_there words masks first at.0.panel at.0.number are n.0 n.1 n.2 n.3)

pub reads_input : (site : Site) → IsValid site → (facts : Facts) (readings : Readings) (values : ℕ → Bool) (term : Term) → HasFacts facts readings
    → ((m : ℕ) → value_read readings m ≡ values m) → IsTerm site term →
    reads readings (input_of site term) ≡ holds site facts values term
reads_input site valid facts readings values (ZoneTerm place) has same is =
    ap (λ k. has_bit (slice_index_or readings.words k 0) (zone_index (slice_get site.zones place) % 32)) (from_none (zone_index (slice_get site.zones place) / 32))
    ∙ zone_there site valid readings.words facts.zones 0 place
    (λ k small. ap (λ n. slice_index_or readings.words n 0) (sym (from_none k)) ∙ has.zones k small) is
  where
    from_none : (n : ℕ) → n ≡ 0 + n
    from_none n = omega arith
reads_input site valid facts readings values (ManualTerm place) has same is = zone_there site valid readings.words facts.manual 8 place has.manual is
reads_input site valid facts readings values (FaultTerm panel) has same is =
    let most = valid.forms.panels.1 in
    let low : (panel - 1) % 32 ≡ panel - 1 = omega (arith, is, most) in
    ap (λ w. has_bit w ((panel - 1) % 32)) has.faults ∙ ap (has_bit facts.faults) low
reads_input site valid facts readings values (MarkerTerm other) has same is =
    let few = valid.forms.few_markers in
    let small : nat_lt other 256 ≡ true = (let less : other < 256 = omega (arith, is, few) in grind (arith, nat_tests, less)) in
    first (nat_lt other 256) (has_bit (slice_index_or readings.words (17 + other / 32) 0) (other % 32)) small ∙ same other
  where
    first : (a b : Bool) → a ≡ true → b ≡ (a && b)
    first true b e = refl
    first false b e = cc

-- ---- enough of a list

abbrev AgreeOn : {X Y : Type 0} → (X → Y) → (Y → Bool) → (X → Bool) → List X → Type 0
AgreeOn {X} f p q xs = (k : ℕ) (x : X) → slice_get xs k ≡ Some x → p (f x) ≡ q x

count_map : {X Y : Type 0} (f : X → Y) (p : Y → Bool) (q : X → Bool) (xs : List X) → AgreeOn f p q xs → count_by p (map f xs) ≡ count_by q xs
count_map f p q [] same = refl
count_map f p q (x ∷ xs) same =
    sum_by-cons (λ y. if p y then 1 else 0) (f x) (map f xs) ∙
    (ap (λ b. (if b then 1 else 0) + count_by p (map f xs)) (same 0 x refl) ∙
    (ap (λ n. (if q x then 1 else 0) + n) (count_map f p q xs (λ k y at. same (suc k) y at)) ∙
    sym (sum_by-cons (λ y. if q y then 1 else 0) x xs)))

count_cons : {X : Type 0} (p : X → Bool) (x : X) (xs : List X) → count_by p (x ∷ xs) ≡ one_if (p x) + count_by p xs
count_cons p x xs = sum_by-cons (λ y. if p y then 1 else 0) x xs

one_more_at_most : (b : Bool) (n count : ℕ) → count ≤ n → one_if b + count ≤ suc n
one_more_at_most true n count le = omega (arith, le)
one_more_at_most false n count le = omega (arith, le)

count_at_most : {X : Type 0} (p : X → Bool) (xs : List X) → count_by p xs ≤ length xs
count_at_most p [] = omega arith
count_at_most p (x ∷ xs) =
    let more = one_more_at_most (p x) (length xs) (count_by p xs) (count_at_most p xs) in
    let counted = count_cons p x xs in
    omega (arith, more, counted)

all_step : (b rest : Bool) (n count : ℕ) → rest ≡ nat_le n count → count ≤ n → (b && rest) ≡ nat_le (suc n) (one_if b + count)
all_step true rest n count is le = grind (arith, nat_tests, is)
all_step false rest n count is le = grind (arith, nat_tests, le)

any_step : (b rest : Bool) (count : ℕ) → rest ≡ nat_le 1 count → (b || rest) ≡ nat_le 1 (one_if b + count)
any_step true rest count is = grind (arith, nat_tests)
any_step false rest count is = grind (arith, nat_tests, is)

-- that all of a list pass a test, or any, or at least so many, is told by how many do
all_counted : {X : Type 0} (p : X → Bool) (xs : List X) → list_all p xs ≡ nat_le (length xs) (count_by p xs)
all_counted p [] = refl
all_counted p (x ∷ xs) =
    all_step (p x) (list_all p xs) (length xs) (count_by p xs) (all_counted p xs) (count_at_most p xs) ∙
    ap (nat_le (suc (length xs))) (sym (count_cons p x xs))

any_counted : {X : Type 0} (p : X → Bool) (xs : List X) → list_any p xs ≡ nat_le 1 (count_by p xs)
any_counted p [] = refl
any_counted p (x ∷ xs) = any_step (p x) (list_any p xs) (count_by p xs) (any_counted p xs) ∙ ap (nat_le 1) (sym (count_cons p x xs))

met_counted : {X : Type 0} (combine : Combine) (p : X → Bool) (xs : List X)
    → nat_le (needed_of combine (length xs)) (count_by p xs) ≡ is_met combine p xs
met_counted AllOf p xs = sym (all_counted p xs)
met_counted Any p xs = sym (any_counted p xs)
met_counted (AtLeast needed) p xs = refl

-- where the masks so far have enough, all of them do
pub met_early : (needed left count k : ℕ) (counts : Mask → ℕ) (masks : List Mask) (mask : Mask) → left + sum_by counts (take k masks) ≡ needed →
    left ≤ count → count ≡ counts (get_or masks k mask) → k < length masks → true ≡ nat_le needed (sum_by counts masks)
met_early needed left count k counts masks mask known enough is less =
    let more = sum_by_more counts masks k mask less in
    let most = sum_by-take-le counts masks (k + 1) in
    let le : needed ≤ sum_by counts masks = omega (arith, known, enough, is, more, most) in
    grind (arith, nat_tests, le)

-- ---- the row of a marker

-- one mask takes an input more
pub replaced : (input : Input) (masks : List Mask) (place : ℕ) (more : Mask) → AddsInputAt input masks (place, more)
    → CountsMore input masks (slice_set masks place more)
replaced input masks place more adds readings =
    let old = item_at masks place adds.0 in
    let one = adds.1 old.0 old.1 readings in
    let moved = sum_by-set (count_in readings) masks place more old.0 adds.0 in
    let here = ap (count_in readings) (get_or_from_slice_get masks place old.0 old.0 old.1) in
    omega (arith, one, moved, here)

-- a row for each marker, and one more
pub row_pushed : (site : Site) (markers : List Marker) (rows : List Row) (marker : Marker) (row : Row) → AreRowsOf site markers rows
    → IsRowOf site marker row → AreRowsOf site (markers ++ marker ∷ []) (rows ++ row ∷ [])
row_pushed site [] [] marker row are is = (is, tt)
row_pushed site [] (_ ∷ rows) marker row are is = absurd are
row_pushed site (_ ∷ markers) [] marker row are is = absurd are
row_pushed site (first ∷ markers) (head ∷ rows) marker row are is = (are.0, row_pushed site markers rows marker row are.1 is)

row_at : (site : Site) (markers : List Marker) (rows : List Row) (m : ℕ) (row : Row) → AreRowsOf site markers rows → slice_get rows m ≡ Some row
    → (marker : Marker) × (slice_get markers m ≡ Some marker) × IsRowOf site marker row
row_at site [] [] m row are at = cc
row_at site [] (_ ∷ rows) m row are at = absurd are
row_at site (_ ∷ markers) [] m row are at = absurd are
row_at site (marker ∷ markers) (head ∷ rows) zero row are at = (marker, refl, same head row at are.0)
  where
    same : (head row : Row) → Some head ≡ Some row → IsRowOf site marker head → IsRowOf site marker row
    same head row e is = let equal : head ≡ row = cc in subst (IsRowOf site marker) equal is
row_at site (marker ∷ markers) (head ∷ rows) (suc m) row are at = row_at site markers rows m row are.1 at

none_at : (site : Site) (markers : List Marker) (rows : List Row) (m : ℕ) → AreRowsOf site markers rows → slice_get rows m ≡ None
    → slice_get markers m ≡ None
none_at site [] [] m are at = refl
none_at site [] (_ ∷ rows) m are at = absurd are
none_at site (_ ∷ markers) [] m are at = absurd are
none_at site (marker ∷ markers) (head ∷ rows) zero are at = cc
none_at site (marker ∷ markers) (head ∷ rows) (suc m) are at = none_at site markers rows m are.1 at

same_row : (site : Site) (facts : Facts) (readings : Readings) (values : ℕ → Bool) (m : ℕ) (row : Row) (marker : Marker) → IsValid site
    → HasFacts facts readings → ((other : ℕ) → value_read readings other ≡ values other)
    → slice_get site.markers m ≡ Some marker → IsRowOf site marker row →
    nat_le row.needed (sum_by (count_in readings) row.masks) ≡ equation site facts values m
same_row site facts readings values m row marker valid has same at is =
    let holds_here = holds site facts values in
    let counted = is.counted readings ∙ count_map (input_of site) (reads readings) holds_here marker.terms
    (λ k term there. reads_input site valid facts readings values term has same (term_of_marker site valid m marker k term at there)) in
    ap (λ n. nat_le n (sum_by (count_in readings) row.masks)) is.needed ∙
    (ap (nat_le (needed_of marker.combine (length marker.terms))) counted ∙
    (met_counted marker.combine holds_here marker.terms ∙ rw at refl))

pub row_met : (site : Site) (table : MarkerTable) (facts : Facts) (readings : Readings) (values : ℕ → Bool) (m : ℕ) (row : Row) → IsTableOf site table
    → HasFacts facts readings → ((other : ℕ) → value_read readings other ≡ values other)
    → slice_get table.rows m ≡ Some row →
    nat_le row.needed (sum_by (count_in readings) row.masks) ≡ equation site facts values m
row_met site table facts readings values m row is has same at =
    let found = row_at site site.markers table.rows m row is.rows at in
    same_row site facts readings values m row found.0 is.valid has same found.1 found.2

pub no_row : (site : Site) (table : MarkerTable) (facts : Facts) (values : ℕ → Bool) (m : ℕ) → IsTableOf site table → slice_get table.rows m ≡ None →
    false ≡ equation site facts values m
no_row site table facts values m is at = rw (none_at site site.markers table.rows m is.rows at) refl
