-- The mask of an array of flags for numbers from 1 on.
use Rattle.std.proofs.Common.{◌≡◌, ◌<◌, ◌+◌, ℕ, zero, suc, Bool, false, List, length, take, drop, refl, ap, ◌∙◌, length-drop, replicate, arith}
use Rattle.std.specs.Prelude.{slice_index_or, slice_range}
use Rattle.std.specs.List.{list_any}
use Rattle.std.proofs.lemmas.List.{length-take, get_or-take, get_or-drop}
use Rattle.site_types.specs.Bits.{mask_of}
use Rattle.site_types.specs.declared.zone.Zone.{Zone}
use Rattle.site_types.proofs.Masks.{mask_same}
use Rattle.panel_frames.specs.Grammar.{is_panel_zone, zones_of}

pub none_of : (n number : ℕ) → slice_index_or (replicate n false) number false ≡ false
none_of zero number = refl
none_of (suc n) zero = refl
none_of (suc n) (suc number) = none_of n number

pub numbered_zones : (panel : ℕ) (zones : List Zone) (numbers : List Bool) → length numbers ≡ 256 →
    ((number : ℕ) → number < 256 → slice_index_or numbers number false ≡ list_any (is_panel_zone panel number) zones) →
    mask_of (length (slice_range numbers 1 33)) (λ k. slice_index_or (slice_range numbers 1 33) k false) ≡ zones_of panel zones
unfolding zones_of
numbered_zones panel zones numbers size known =
    let after = length-drop 1 numbers in
    let taken = length-take 32 (drop 1 numbers) in
    let long : length (take 32 (drop 1 numbers)) ≡ 32 = omega (arith, after, taken, size) in
    ap (λ n. mask_of n (λ k. slice_index_or (slice_range numbers 1 33) k false)) long ∙
    mask_same 32 (λ k. slice_index_or (slice_range numbers 1 33) k false) (λ bit. list_any (is_panel_zone panel (bit + 1)) zones)
    (λ k less.
    let next : 1 + k ≡ k + 1 = omega arith in
    get_or-take 32 (drop 1 numbers) k false less ∙
    (get_or-drop 1 numbers k false ∙ (known (1 + k) (omega (arith, less)) ∙ ap (λ n. list_any (is_panel_zone panel n) zones) next)))
