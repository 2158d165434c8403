-- Where the spaces of a line lie, and walks over its fields.
use Rattle.std.proofs.Common.{◌≡◌, ◌<◌, ◌≤◌, ◌+◌, ◌-◌, ◌++◌, ◌&&◌, ◌∙◌, ℕ, zero, suc, Bool, true, false, cond, List, []}
use Rattle.std.proofs.Common.{◌∷◌, refl, sym, ap, length, get_or, take, drop, arith}
use Rattle.std.specs.Prelude.{◌==◌, if◌then◌else◌}
use Rattle.std.proofs.lemmas.Bool.{eq-eqb, eqb-true, ne_eqb}
use Rattle.std.proofs.lemmas.List.{drop_more}
use Rattle.line_fields.specs.Fields.{each_field, space_count}
use Rattle.line_fields.proofs.Joined.{count_front}
use Rattle.site_types.specs.Fields.{after_space, before_space, field}

-- the first space is at a place
pub at_space : (text : List ℕ) (k : ℕ) → k < length text → ((j : ℕ) → j < k → get_or text j 0 ≡ 32 → ⊥) → get_or text k 0 ≡ 32
    → length (before_space text) ≡ k
at_space [] k within none is = absurd (omega arith)
at_space (byte ∷ rest) zero within none is = rw (eq-eqb byte 32 is) refl
at_space (byte ∷ rest) (suc k) within none is =
    let far : (byte == 32) ≡ false = ne_eqb byte 32 (none 0 (omega arith)) in
    let ih : length (before_space rest) ≡ k = at_space rest k (omega arith) (λ j below. none (suc j) (omega arith)) is in
    rw far (omega (arith, ih))

-- no space is anywhere
pub no_space : (text : List ℕ) → ((j : ℕ) → j < length text → get_or text j 0 ≡ 32 → ⊥) → length (before_space text) ≡ length text
no_space [] none = refl
no_space (byte ∷ rest) none =
    let far : (byte == 32) ≡ false = ne_eqb byte 32 (none 0 (omega arith)) in
    let ih : length (before_space rest) ≡ length rest = no_space rest (λ j below. none (suc j) (omega arith)) in
    rw far (omega (arith, ih))

front_is : (byte : ℕ) (rest : List ℕ) (b : Bool) → take (length (before_space rest)) rest ≡ before_space rest →
    take (length (if b then [] else byte ∷ before_space rest)) (byte ∷ rest) ≡ (if b then [] else byte ∷ before_space rest)
front_is byte rest true ih = refl
front_is byte rest false ih = ap (λ t. byte ∷ t) ih

pub take_front : (text : List ℕ) → take (length (before_space text)) text ≡ before_space text
take_front [] = refl
take_front (byte ∷ rest) = front_is byte rest (byte == 32) (take_front rest)

behind_is : (byte : ℕ) (rest : List ℕ) (b : Bool) →
    (length (before_space rest) < length rest → drop (length (before_space rest) + 1) rest ≡ after_space rest) →
    length (if b then [] else byte ∷ before_space rest) < length (byte ∷ rest) →
    drop (length (if b then [] else byte ∷ before_space rest) + 1) (byte ∷ rest) ≡ (if b then rest else after_space rest)
behind_is byte rest true ih within = refl
behind_is byte rest false ih within =
    let one : length (before_space rest) + 1 ≡ suc (length (before_space rest)) = omega arith in
    let two : suc (length (before_space rest)) + 1 ≡ suc (suc (length (before_space rest))) = omega arith in
    ap (λ n. drop n (byte ∷ rest)) two ∙ sym (ap (λ n. drop n rest) one) ∙ ih (omega arith)

-- what follows the first space
pub drop_front : (text : List ℕ) → length (before_space text) < length text → drop (length (before_space text) + 1) text ≡ after_space text
drop_front [] within = absurd (omega arith)
drop_front (byte ∷ rest) within = behind_is byte rest (byte == 32) (drop_front rest) within

nothing_is : (byte : ℕ) (rest : List ℕ) (b : Bool) → (length rest ≤ length (before_space rest) → [] ≡ after_space rest) →
    length (byte ∷ rest) ≤ length (if b then [] else byte ∷ before_space rest) → [] ≡ (if b then rest else after_space rest)
nothing_is byte rest true ih within = absurd (omega arith)
nothing_is byte rest false ih within = ih (omega arith)

-- nothing follows where there is no space
pub nothing_behind : (text : List ℕ) → length text ≤ length (before_space text) → [] ≡ after_space text
nothing_behind [] past = refl
nothing_behind (byte ∷ rest) past = nothing_is byte rest (byte == 32) (nothing_behind rest) past

-- ---- walks: so many of the fields are passed

pub one_fewer : (count passed : ℕ) → passed < count → count - passed ≡ suc (count - (passed + 1))
one_fewer count passed below = omega arith

pub field_step : (place passed : ℕ) (rest whole : List ℕ) → passed < place → field (place - passed) rest ≡ whole
    → field (place - (passed + 1)) (after_space rest) ≡ whole
field_step place passed rest whole below is = sym (ap (λ n. field n rest) (one_fewer place passed below)) ∙ is

pub each_step : (test : List ℕ → Bool) (count passed : ℕ) (rest : List ℕ) (whole : Bool) → passed < count → test (before_space rest) ≡ true →
    each_field test (count - passed) rest ≡ whole → each_field test (count - (passed + 1)) (after_space rest) ≡ whole
each_step test count passed rest whole below passes is =
    sym (ap (λ b. b && each_field test (count - (passed + 1)) (after_space rest)) passes) ∙ sym
    (ap (λ n. each_field test n rest) (one_fewer count passed below)) ∙ is

-- ---- as the reader of fields finds them

drop_length : (text : List ℕ) → drop (length text) text ≡ []
drop_length [] = refl
drop_length (byte ∷ rest) = drop_length rest

pub take_place : (text : List ℕ) (n : ℕ) → n ≡ length (before_space text) → take n text ≡ before_space text
take_place text n is = ap (λ k. take k text) is ∙ take_front text

pub drop_place : (text : List ℕ) (n : ℕ) → n ≡ length (before_space text) → n < length text → drop (n + 1) text ≡ after_space text
drop_place text n is within = ap (λ k. drop (k + 1) text) is ∙ drop_front text (omega (arith, is, within))

pub drop_none : (text : List ℕ) (n : ℕ) → n ≡ length (before_space text) → n ≤ length text → length text ≤ n → drop n text ≡ after_space text
drop_none text n is most past =
    let all : n ≡ length text = omega arith in
    let behind : length text ≤ length (before_space text) = omega (arith, is, past) in
    ap (λ k. drop k text) all ∙ drop_length text ∙ nothing_behind text behind

-- ---- as the loops go

pub field_on : (place passed : ℕ) (rest next whole : List ℕ) → passed < place → next ≡ after_space rest → field (place - passed) rest ≡ whole
    → field (place - (passed + 1)) next ≡ whole
field_on place passed rest next whole below is_next is =
    ap (λ r. field (place - (passed + 1)) r) is_next ∙ field_step place passed rest whole below is

pub each_on : (test : List ℕ → Bool) (count passed : ℕ) (rest front next : List ℕ) (whole : Bool) → passed < count → next ≡ after_space rest
    → front ≡ before_space rest → true ≡ test front →
    each_field test (count - passed) rest ≡ whole → each_field test (count - (passed + 1)) next ≡ whole
each_on test count passed rest front next whole below is_next is_front passes is =
    ap (λ r. each_field test (count - (passed + 1)) r) is_next ∙ each_step test count passed rest whole below (sym (passes ∙ ap test is_front)) is

-- ---- texts with few spaces

-- a text with something behind its first space
pub parted_text : (text : List ℕ) → (after_space text ≡ [] → ⊥) → text ≡ before_space text ++ 32 ∷ after_space text
parted_text [] some = absurd (some refl)
parted_text (byte ∷ rest) some = by (byte == 32) refl some (parted_text rest)
  where
    by : (b : Bool) → (byte == 32) ≡ b → ((if b then rest else after_space rest) ≡ [] → ⊥)
        → ((after_space rest ≡ [] → ⊥) → rest ≡ before_space rest ++ 32 ∷ after_space rest) →
        byte ∷ rest ≡ (if b then [] else byte ∷ before_space rest) ++ 32 ∷ (if b then rest else after_space rest)
    by true e some ih = ap (λ x. x ∷ rest) (eqb-true byte 32 e)
    by false e some ih = ap (λ r. byte ∷ r) (ih some)

-- a text without a space is one field
pub one_field : (text : List ℕ) → space_count text ≡ 0 → before_space text ≡ text
one_field [] none = refl
one_field (byte ∷ rest) none = by (byte == 32) (sym (count_front byte rest) ∙ none) (one_field rest)
  where
    by : (b : Bool) → cond b 1 0 + space_count rest ≡ 0 → (space_count rest ≡ 0 → before_space rest ≡ rest)
        → (if b then [] else byte ∷ before_space rest) ≡ byte ∷ rest
    by true some ih = absurd (omega (arith, some))
    by false none ih = ap (λ r. byte ∷ r) (ih (omega (arith, none)))

-- of a text with one space the second field is all that is behind it
pub two_fields : (text : List ℕ) → space_count text ≡ 1 → field 1 text ≡ after_space text
two_fields [] one = absurd (omega (arith, one))
two_fields (byte ∷ rest) one = by (byte == 32) (sym (count_front byte rest) ∙ one) (two_fields rest)
  where
    by : (b : Bool) → cond b 1 0 + space_count rest ≡ 1 → (space_count rest ≡ 1 → field 1 rest ≡ after_space rest)
        → before_space (if b then rest else after_space rest) ≡ (if b then rest else after_space rest)
    by true one ih = one_field rest (omega (arith, one))
    by false one ih = ih (omega (arith, one))

-- ---- counting

-- one byte more is counted
pub counted_more : (text : List ℕ) (place so_far one whole : ℕ) → place < length text → one ≡ cond (get_or text place 0 == 32) 1 0
    → so_far + space_count (drop place text) ≡ whole → (so_far + one) + space_count (drop (place + 1) text) ≡ whole
counted_more text place so_far one whole within is counted =
    let cut = ap space_count (drop_more text place 0 within) ∙ count_front (get_or text place 0) (drop (place + 1) text) in
    omega (arith, cut, is, counted)

pub counted_behind : (so_far whole : ℕ) (rest behind : List ℕ) → rest ≡ behind → so_far + space_count behind ≡ whole
    → so_far + space_count rest ≡ whole
counted_behind so_far whole rest behind is counted = let same = ap space_count is in omega (arith, same, counted)
