-- How the database compares numbers and texts.
use Rattle.std.proofs.Common.{◌≡◌, ℕ, ◌<◌, ◌==◌, pos, Bool, true, false, cond, Some, refl, sym, ap, ◌∙◌, arith, List}
use Rattle.std.proofs.lemmas.Int.{ints}
use Rattle.std.specs.Prelude.{◌<ℤ◌}
use Rattle.std.specs.Str.{bytes_eq}
use Rattle.std.specs.declared.cmp.Ordering.{Ordering}
use Rattle.std.specs.declared.cmp.Ordering.TheVariants.{Less, Equal, Greater}
use Rattle.std.specs.Ordering.{MatchOrdering, int_cmp, is_eq, nat_cmp}
use Rattle.std.specs.Cmp.{int_ranks, unsigned_tied, nat_cmp_is}
use Rattle.std.proofs.lemmas.Map.Text.{is_eq-slice_cmp}
use Rattle.sqlite_value.specs.declared.keys.Collation.TheVariants.{Binary}
use Rattle.sqlite_value.specs.declared.value.Value.{Value}
use Rattle.sqlite_value.specs.declared.value.Value.TheVariants.{Null, Int, Text}
use Rattle.sqlite_value.specs.Order.{value_cmp}
use Rattle.sqlite_value.proofs.OrderLemmas.{value_cmp-Int, value_cmp-Text}
use Rattle.sqlite_sql.specs.Ops.{binary, from_truth, is_true, unary}
use Rattle.sqlite_sql.specs.declared.ops.BinaryOp.TheVariants.{Compare}
use Rattle.sqlite_sql.specs.declared.ops.CompareOp.TheVariants.{Eq}
use Rattle.sqlite_schema.specs.declared.schema.Kind.TheVariants.{Integer}
use Rattle.sqlite.specs.Cast.{cast}

ranks : (a b : ℕ) (o : Ordering) → MatchOrdering o (pos a <ℤ pos b) (pos a ≡ pos b) (pos b <ℤ pos a) → MatchOrdering o (a < b) (a ≡ b) (b < a)
ranks a b Less h = grind (arith, ints)
ranks a b Equal h = cc
ranks a b Greater h = grind (arith, ints)

pub numbers_cmp : (a b : ℕ) → value_cmp (Int (pos a)) (Int (pos b)) ≡ nat_cmp a b
numbers_cmp a b = value_cmp-Int (pos a) (pos b) ∙ nat_cmp_is a b (int_cmp (pos a) (pos b)) (ranks a b (int_cmp (pos a) (pos b)) (int_ranks (pos a) (pos b)))

truth_back : (b : Bool) → is_true (from_truth (Some b)) ≡ b
truth_back true = refl
truth_back false = refl

pub equal_numbers : (a b : ℕ) → is_true (binary (Compare Eq Binary) (Int (pos a)) (Int (pos b))) ≡ (a == b)
unfolding binary
equal_numbers a b = truth_back (is_eq (value_cmp (Int (pos a)) (Int (pos b)))) ∙ ap is_eq (numbers_cmp a b) ∙ unsigned_tied a b

pub equal_texts : (s t : List ℕ) → is_true (binary (Compare Eq Binary) (Text s) (Text t)) ≡ bytes_eq s t
unfolding binary
equal_texts s t = truth_back (is_eq (value_cmp (Text s) (Text t))) ∙ ap is_eq (value_cmp-Text s t) ∙ is_eq-slice_cmp s t

either : (b : Bool) (x : Value) → cond b x x ≡ x
either true x = refl
either false x = refl

pub cast_number : (n : ℕ) → cast Integer (Int (pos n)) ≡ Int (pos n)
unfolding unary
cast_number n = either _ (Int (pos n))

pub cast_null : cast Integer Null ≡ Null
unfolding unary
cast_null = either _ Null

pub below : (a b : ℕ) → a < b → value_cmp (Int (pos a)) (Int (pos b)) ≡ Less
below a b low = numbers_cmp a b ∙ sym (nat_cmp_is a b Less low)

pub apart : (a b : ℕ) → a < b → (a == b) ≡ false
apart a b low = grind (arith)
