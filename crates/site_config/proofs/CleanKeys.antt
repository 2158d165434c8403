-- What stands at a key where no pass finds anything there.
use Rattle.std.proofs.Common.{◌≡◌, ◌≤◌, ℕ, ℤ, pos, negsuc, List, [], ◌∷◌, Bool, true, false, ◌&&◌, nat_le, Option, Some, None, is_some, is_none, IsTrue, refl, arith, if◌then◌else◌}
use Rattle.std.proofs.lemmas.Bool.{and_parts, leb-true}
use Rattle.std.specs.List.{AllByRecursion}
use Rattle.toml.specs.Data.{Data, string, integer, float, boolean, datetime, array, table, Members, as_integer, as_str}
use Rattle.site_types.specs.Names.{is_name}
use Rattle.site_document.specs.declared.form.Form.{Form}
use Rattle.site_document.specs.declared.form.Form.TheVariants as form
use Rattle.site_document.specs.declared.key.Key.{Key}
use Rattle.site_document.specs.declared.place.Place.{Place}
use Rattle.site_document.specs.declared.ranges.Range.{Range}
use Rattle.site_document.specs.Drafts.{name_at, text_or_empty}
use Rattle.site_document.specs.Missing.{missing_at}
use Rattle.site_document.specs.Needs.{is_needed}
use Rattle.site_document.specs.Ranges.{contains, number_out, out_at, out_by, range_of}
use Rattle.site_document.specs.Refusals.{Refusal, first_found, or_later, out_of_range}
use Rattle.site_document.specs.Rules.{form_of}
use Rattle.site_document.specs.Tables.{integer_at, integer_in, natural_at, natural_in, text_at, text_in, value_at}
use Rattle.site_document.specs.Texts.{key_text, key_word}
use Rattle.site_document.specs.WrongKind.{fits, wrong_at, wrong_value}

-- ---- findings that aren't there

pub none_first : (a b : Option Refusal) → or_later a b ≡ None → a ≡ None
none_first None b e = refl
none_first (Some r) b e = absurd (cc e)

pub none_later : (a b : Option Refusal) → or_later a b ≡ None → b ≡ None
none_later None b e = e
none_later (Some r) b e = absurd (cc e)

pub all_none : {X : Type 0} (find : X → Option Refusal) (xs : List X) → first_found find xs ≡ None → AllByRecursion (λ x. find x ≡ None) xs
all_none find [] e = tt
all_none find (x ∷ xs) e = (none_first (find x) (first_found find xs) e, all_none find xs (none_later (find x) (first_found find xs) e))

pub passed : (b : Bool) (x : Option Refusal) (r : Refusal) → (if b then x else Some r) ≡ None → b ≡ true
passed true x r e = refl
passed false x r e = absurd (cc e)

pub not_failed : (b : Bool) (r : Refusal) → (if b then Some r else None) ≡ None → b ≡ false
not_failed true r e = absurd (cc e)
not_failed false r e = refl

-- ---- numbers

pub record InRange (range : Range) (n : ℕ) : Type 0 where
  pub low : range.least ≤ n
  pub high : n ≤ range.greatest

number_there : (range : Range) (text : List ℕ) (o : Option ℤ) → is_some o ≡ true → number_out range text o ≡ None → InRange range (natural_in o)
number_there range text None there out = absurd (cc there)
number_there range text (Some (pos n)) there out =
    let parts = and_parts (nat_le range.least n) (nat_le n range.greatest) (passed (contains range (pos n)) None (out_of_range text (pos n)) out) in
    record { low = leb-true range.least n parts.0; high = leb-true n range.greatest parts.1 }
number_there range text (Some (negsuc n)) there out = absurd (cc (passed (contains range (negsuc n)) None (out_of_range text (negsuc n)) out))

fit : (place : Place) (key : Key) (d : Data) → wrong_value place key (Some d) ≡ None → fits (form_of key) d ≡ true
fit place key d e = passed (fits (form_of key) d) _ _ e

whole : (d : Data) → fits form.Number d ≡ true → is_some (as_integer d) ≡ true
unfolding fits
whole d e = e

number_of_value : (place : Place) (key : Key) (range : Range) (text : List ℕ) (v : Option Data) → form_of key ≡ form.Number → is_none v ≡ false
    → wrong_value place key v ≡ None → number_out range text (integer_in v) ≡ None → InRange range (natural_in (integer_in v))
number_of_value place key range text None is there right out = absurd (cc there)
number_of_value place key range text (Some d) is there right out =
    number_there range text (as_integer d) (whole d (rw is at (fit place key d right))) out

needed_there : (b c : Bool) (r : Refusal) → b ≡ true → (if b && c then Some r else None) ≡ None → c ≡ false
needed_there true c r e missing = not_failed c r missing
needed_there false c r e missing = absurd (cc e)

there_at : (place : Place) (row : Members) (key : Key) → is_needed key row ≡ true → missing_at place row key ≡ None
    → is_none (value_at key row) ≡ false
unfolding missing_at
there_at place row key needed missing = needed_there (is_needed key row) (is_none (value_at key row)) _ needed missing

right_at : (place : Place) (row : Members) (key : Key) → wrong_at place row key ≡ None → wrong_value place key (value_at key row) ≡ None
unfolding wrong_at
right_at place row key e = e

by_number : (place : Place) (top row : Members) (key : Key) (f : Form) → f ≡ form.Number → out_by f place top row key ≡ None
    → number_out (range_of key top row) (key_text place (key_word key)) (integer_at key row) ≡ None
by_number place top row key f is out = rw is at out

number_out_at : (place : Place) (top row : Members) (key : Key) → form_of key ≡ form.Number → out_at place top row key ≡ None
    → number_out (range_of key top row) (key_text place (key_word key)) (integer_in (value_at key row)) ≡ None
unfolding out_at integer_at
number_out_at place top row key is out = by_number place top row key (form_of key) is out

natural_is : (key : Key) (row : Members) → natural_at key row ≡ natural_in (integer_in (value_at key row))
unfolding natural_at integer_at
natural_is key row = refl

-- a needed number lies in its range
pub number_clean : (place : Place) (top row : Members) (key : Key) → form_of key ≡ form.Number → is_needed key row ≡ true
    → missing_at place row key ≡ None
    → wrong_at place row key ≡ None → out_at place top row key ≡ None → InRange (range_of key top row) (natural_at key row)
number_clean place top row key is needed missing wrong out =
    rw (natural_is key row)
    (number_of_value place key (range_of key top row) _ (value_at key row) is (there_at place row key needed missing) (right_at place row key wrong)
    (number_out_at place top row key is out))

at_most : (range : Range) (text : List ℕ) (o : Option ℤ) → number_out range text o ≡ None → natural_in o ≤ range.greatest
at_most range text None out = omega arith
at_most range text (Some (pos n)) out = (number_there range text (Some (pos n)) refl out).high
at_most range text (Some (negsuc n)) out = omega arith

-- a number is at most the greatest of its range, being 0 where it is absent
pub number_most : (place : Place) (top row : Members) (key : Key) → form_of key ≡ form.Number → out_at place top row key ≡ None
    → natural_at key row ≤ (range_of key top row).greatest
number_most place top row key is out = rw (natural_is key row) (at_most (range_of key top row) _ _ (number_out_at place top row key is out))

-- ---- names

named : (d : Data) → fits form.Name d ≡ true → IsTrue (is_name (text_or_empty (as_str d)))
unfolding fits
named (string s) e = e
named (integer _) e = absurd (cc e)
named (float _) e = absurd (cc e)
named (boolean _) e = absurd (cc e)
named (datetime _) e = absurd (cc e)
named (array _) e = absurd (cc e)
named (table _) e = absurd (cc e)

name_of_value : (place : Place) (key : Key) (v : Option Data) → form_of key ≡ form.Name → is_none v ≡ false → wrong_value place key v ≡ None
    → IsTrue (is_name (text_or_empty (text_in v)))
name_of_value place key None is there right = absurd (cc there)
name_of_value place key (Some d) is there right = named d (rw is at (fit place key d right))

name_is : (key : Key) (row : Members) → name_at key row ≡ text_or_empty (text_in (value_at key row))
unfolding text_at
name_is key row = refl

-- a needed name has a name's form
pub name_clean : (place : Place) (row : Members) (key : Key) → form_of key ≡ form.Name → is_needed key row ≡ true → missing_at place row key ≡ None
    → wrong_at place row key ≡ None → IsTrue (is_name (name_at key row))
name_clean place row key is needed missing wrong =
    rw (name_is key row) (name_of_value place key (value_at key row) is (there_at place row key needed missing) (right_at place row key wrong))
