-- What `strip_prefix` says of a text, as the text after a word.
use Rattle.std.proofs.Common.{◌≡◌, ℕ, List, ◌++◌, Bool, true, false, Option, Some, None, MatchOption, option_map, length, take, drop, Bor, refl, ap, sym, ◌∙◌, if◌then◌else◌}
use Rattle.std.proofs.Math.Seq.{take-append_seam}
use Rattle.std.proofs.lemmas.List.{take-append-drop}
use Rattle.std.proofs.lemmas.Slice.Eq.{bytes_eq-Decides}
use Rattle.std.specs.Str.{bytes_eq}
use Rattle.std.specs.Str.Pattern.{FindsTextPrefix, StripsPrefix}
use Rattle.site_document.specs.Terms.{after}

none_there : (b : Bool) (rest : List ℕ) → (b ≡ true → ⊥) → None ≡ (if b then Some rest else None)
none_there true rest h = absurd (h refl)
none_there false rest h = refl

some_there : (b : Bool) (x rest : List ℕ) → b ≡ true → x ≡ rest → Some x ≡ (if b then Some rest else None)
some_there b x rest h e = rw (h, e)

begins : (w s t : List ℕ) → s ≡ w ++ t → take (length w) s ≡ w
begins w s t e = ap (take (length w)) e ∙ take-append_seam w t

pub stripped : (w s : List ℕ) (r : Option (Bor (List ℕ))) → MatchOption r (FindsTextPrefix w s None) (λ x. StripsPrefix (FindsTextPrefix w) s x.now)
    → option_map (λ (x : Bor (List ℕ)). x.now) r ≡ after w s
stripped w s None lacks =
    none_there (bytes_eq (take (length w) s) w) (drop (length w) s)
    (λ same.
    lacks (drop (length w) s)
    (sym (take-append-drop (length w) s) ∙ ap (λ t. t ++ drop (length w) s) ((bytes_eq-Decides (take (length w) s) w).0 same)))
stripped w s (Some x) (n, found, is, more) =
    some_there (bytes_eq (take (length w) s) w) x.now (drop (length w) s) ((bytes_eq-Decides (take (length w) s) w).1 (begins w s (drop n s) found.1))
    (is ∙ ap (λ k. drop k s) found.0)
