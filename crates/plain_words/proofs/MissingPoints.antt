-- Where a panel has no point in a half of a line, no bit of a mask of it is set.
use Rattle.std.proofs.Common.{◌≡◌, ◌∙◌, ◌+◌, ◌<◌, ◌==◌, ◌&&◌, ℕ, zero, suc, Bool, true, false, List, [], ◌∷◌, Option, Some, None, length, get_or, arith, ap, refl, sym}
use Rattle.std.specs.Prelude.{nat_le, nat_lt}
use Rattle.std.specs.List.{list_any, position}
use Rattle.std.proofs.lemmas.Bool.{eqb-true}
use Rattle.std.proofs.lemmas.Bool.Decides.{nat_tests}
use Rattle.std.proofs.lemmas.List.Quantifiers.{position-Some}
use Rattle.site_types.specs.declared.answer.Answer.{Answer}
use Rattle.site_types.specs.declared.point.Point.{Point}
use Rattle.site_types.specs.declared.retained.Retained.{Retained}
use Rattle.site_types.specs.declared.site.Site.{Site}
use Rattle.site_types.specs.Bits.{mask_of}
use Rattle.site_types.specs.Done.{Done}
use Rattle.site_types.proofs.Masks.{has_bit-mask, mask_below, mask_empty}
use Rattle.panel_conditions.specs.Points.{addressed, is_addressed, on_point}
use Rattle.plain_words.specs.MissingPoints.{is_shown_missing, lies_among}
use Rattle.plain_history.proofs.Reported.{or_first, or_rest}

-- a point that a line and an address have is shown as missing
abbrev pub point_test : Site → Retained → ℕ → List Done → List Answer → ℕ → ℕ → ℕ → ℕ → Bool
point_test site kept panel done answers tick line past k =
    on_point (is_shown_missing site kept done answers tick) (addressed site panel line (past + k + 1))

and_first : (a b : Bool) → (a && b) ≡ true → a ≡ true
and_first true b e = refl
and_first false b e = e

and_rest : (a b : Bool) → (a && b) ≡ true → b ≡ true
and_rest true b e = e
and_rest false b e = let f : false ≡ true = e in cc

fails_at : {X : Type 0} (q : X → Bool) (xs : List X) (i : ℕ) (d : X) → i < length xs → list_any q xs ≡ false → q (get_or xs i d) ≡ false
fails_at q [] i d l none = absurd (omega arith)
fails_at q (x ∷ xs) zero d l none = or_first (q x) (list_any q xs) none
fails_at q (x ∷ xs) (suc i) d l none = fails_at q xs i d (omega arith) (or_rest (q x) (list_any q xs) none)

-- where nothing passes a test, nothing is found by a narrower one
none_found : {X : Type 0} (p q : X → Bool) → ((x : X) → p x ≡ true → q x ≡ true) → (xs : List X) → list_any q xs ≡ false → (o : Option ℕ)
    → position p xs ≡ o → o ≡ None
none_found p q wider xs none None e = refl
none_found p q wider [] none (Some i) e = let n : None ≡ Some i = e in cc
none_found p q wider (x ∷ xs) none (Some i) e =
    let found = position-Some p (x ∷ xs) i x e in
    let passes = wider (get_or (x ∷ xs) i x) found.1 in
    let fails = fails_at q (x ∷ xs) i x found.0 none in
    cc (passes, fails)

after : (past k address : ℕ) → address ≡ past + k + 1 → nat_lt past address ≡ true
after past k address is = grind (arith, nat_tests, is)

up_to_last : (past k address : ℕ) → k < 96 → address ≡ past + k + 1 → nat_le address (past + 96) ≡ true
up_to_last past k address small is = grind (arith, nat_tests, is, small)

among : (panel line past k : ℕ) → k < 96 → (p : Point) → is_addressed panel line (past + k + 1) p ≡ true → lies_among panel line past p ≡ true
among panel line past k small p h =
    let rest = and_rest (p.panel == panel) ((p.line == line) && (p.address == past + k + 1)) h in
    let address = eqb-true p.address (past + k + 1) (and_rest (p.line == line) (p.address == past + k + 1) rest) in
    rw (
      and_first (p.panel == panel) ((p.line == line) && (p.address == past + k + 1)) h,
      and_first (p.line == line) (p.address == past + k + 1) rest,
      after past k p.address address,
      up_to_last past k p.address small address,
    )
    refl

pub none_among : (site : Site) (kept : Retained) (panel : ℕ) (done : List Done) (answers : List Answer) (tick line past : ℕ)
    → list_any (lies_among panel line past) site.points ≡ false
    → 0 ≡ mask_of 96 (point_test site kept panel done answers tick line past)
none_among site kept panel done answers tick line past none =
    let test = point_test site kept panel done answers tick line past in
    sym
    (mask_empty 96 (mask_of 96 test) (mask_below 96 test)
    (λ k small. has_bit-mask 96 test k small
    ∙ ap (on_point (is_shown_missing site kept done answers tick))
    (none_found (is_addressed panel line (past + k + 1)) (lies_among panel line past) (among panel line past k small) site.points none
    (addressed site panel line (past + k + 1)) refl)))
