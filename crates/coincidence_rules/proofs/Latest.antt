-- The latest answer of another point stands for all of them.
use Rattle.std.proofs.Common.{◌≡◌, ℕ, suc, ◌+◌, ◌≤◌, Bool, true, false, not, List, [], ◌∷◌, Option, Some, None, slice_get, ◌==◌, ◌&&◌, ◌||◌, nat_lt, nat_le, if◌then◌else◌, is_some, refl, ◌∙◌, arith}
use Rattle.std.specs.List.{list_any}
use Rattle.tick_units.specs.declared.tick.Tick.{Tick}
use Rattle.site_types.specs.declared.answer.Answer.{Answer}
use Rattle.coincidence_rules.specs.Kept.{latest_besides, after, is_within}
use Rattle.coincidence_rules.specs.InOrder.{AreInOrder}

-- stamps never fall from one on, and don't pass the last
abbrev pub AreOrdered : ℕ → ℕ → List Answer → Type 0
AreOrdered from last [] = from ≤ last
AreOrdered from last (answer ∷ answers) = (from ≤ answer.stamp.0) × AreOrdered answer.stamp.0 last answers

pub ordered : (from last : ℕ) (answers : List Answer) → from ≤ last → AreInOrder answers
    → ((k : ℕ) (a : Answer) → slice_get answers k ≡ Some a → (from ≤ a.stamp.0) × (a.stamp.0 ≤ last)) → AreOrdered from last answers
ordered from last [] le o within = le
ordered from last (x ∷ xs) le o within = (
  (within 0 x refl).0,
  ordered x.stamp.0 last xs (within 0 x refl).1 (record {
    rising = λ i j a b l f g. o.rising (suc i) (suc j) a b (omega (arith, l)) f g;
    once =
        λ i j a b f g p s. suc_same i j (o.once (suc i) (suc j) a b f g p s);
  })
      (λ k a at. (o.rising 0 (suc k) x a (omega arith) refl at, (within (suc k) a at).1)),
)
  where
    suc_same : (i j : ℕ) → suc i ≡ suc j → i ≡ j
    suc_same i j e = omega (arith, e)

abbrev pub on_stamp : (Tick → Bool) → Option Tick → Bool
on_stamp test None = false
on_stamp test (Some stamp) = test stamp

-- a stamp, if there is one, is not after this
abbrev pub IsBy : Option Tick → ℕ → Type 0
IsBy None from = Unit {0}
IsBy (Some first) from = first.0 ≤ from

pub by_later : (o : Option Tick) (from stamp : ℕ) → from ≤ stamp → IsBy o from → IsBy o stamp
by_later None from stamp le h = tt
by_later (Some first) from stamp le h = omega (arith, le, h)

pub ordered_last : (from last : ℕ) (answers : List Answer) → AreOrdered from last answers → from ≤ last
ordered_last from last [] h = h
ordered_last from last (x ∷ xs) h = omega (arith, h.0, ordered_last x.stamp.0 last xs h.1)

-- a test that a later stamp passes where an earlier one does
pub record Rises (last : ℕ) (test : Tick → Bool) : Type 0 where
  pub up : (x y : Tick) → x.0 ≤ y.0 → y.0 ≤ last → test x ≡ true → test y ≡ true

on_up : (last : ℕ) (passes : Tick → Bool) (o : Option Tick) (stamp : Tick) → Rises last passes → IsBy o stamp.0 → stamp.0 ≤ last
    → on_stamp passes o ≡ true → passes stamp ≡ true
on_up last passes None stamp rises b le h = cc
on_up last passes (Some first) stamp rises b le h = rises.up first stamp b le h

-- the latest passes where one of them does
pub latest_tells : (test : Answer → Bool) (point last from : ℕ) (passes : Tick → Bool) (o : Option Tick) (xs : List Answer) → Rises last passes
    → IsBy o from → AreOrdered from last xs
    → on_stamp passes (latest_besides test point o xs)
    ≡ (on_stamp passes o || list_any (λ x. (test x && not (x.point == point)) && passes x.stamp) xs)
latest_tells test point last from passes o [] rises b ordered = ends (on_stamp passes o)
  where
    ends : (a : Bool) → a ≡ (a || false)
    ends true = refl
    ends false = refl
latest_tells test point last from passes o (x ∷ xs) rises b ordered =
    go (test x && not (x.point == point))
    (latest_tells test point last x.stamp.0 passes o xs rises (by_later o from x.stamp.0 ordered.0 b) ordered.1)
    (latest_tells test point last x.stamp.0 passes (Some x.stamp) xs rises (omega arith) ordered.1)
    (on_up last passes o x.stamp rises (by_later o from x.stamp.0 ordered.0 b) (ordered_last x.stamp.0 last xs ordered.1))
  where
    joins : (a p r : Bool) → (a ≡ true → p ≡ true) → (p || r) ≡ (a || (p || r))
    joins true true r h = refl
    joins true false r h = cc (h refl)
    joins false p r h = refl

    go : (t : Bool)
        → on_stamp passes (latest_besides test point o xs)
        ≡ (on_stamp passes o || list_any (λ x. (test x && not (x.point == point)) && passes x.stamp) xs)
        → on_stamp passes (latest_besides test point (Some x.stamp) xs)
        ≡ (passes x.stamp || list_any (λ x. (test x && not (x.point == point)) && passes x.stamp) xs)
        → (on_stamp passes o ≡ true → passes x.stamp ≡ true)
        → on_stamp passes (latest_besides test point (if t then Some x.stamp else o) xs)
        ≡ (on_stamp passes o || ((t && passes x.stamp) || list_any (λ x. (test x && not (x.point == point)) && passes x.stamp) xs))
    go true same later up =
        later ∙ joins (on_stamp passes o) (passes x.stamp) (list_any (λ x. (test x && not (x.point == point)) && passes x.stamp) xs) up
    go false same later up = same

pub within_after : (within x tick : ℕ) (o : Option Tick)
    → is_within within x (after tick o) ≡ on_stamp (λ s. nat_lt tick s.0 && nat_le x (s.0 + within)) o
within_after within x tick None = refl
within_after within x tick (Some s) = go (nat_lt tick s.0)
  where
    go : (b : Bool) → is_within within x (if b then Some s else None) ≡ (b && nat_le x (s.0 + within))
    go true = refl
    go false = refl

pub some_after : (tick : ℕ) (o : Option Tick) → is_some (after tick o) ≡ on_stamp (λ s. nat_lt tick s.0) o
some_after tick None = refl
some_after tick (Some s) = go (nat_lt tick s.0)
  where
    go : (b : Bool) → is_some (if b then Some s else None) ≡ b
    go true = refl
    go false = refl
