-- The words that a frame may have are those that fit the fullest ones.
use Rattle.std.proofs.Common.{◌≡◌, ◌+◌, ◌<◌, ◌^◌, ◌∙◌, ℕ, Bool, true, false, List, refl, sym, ap, subst, arith, mod-eq_of_lt, if◌then◌else◌}
use Rattle.std.specs.Prelude.{◌==◌, ◌&&◌, nat_lt, bit_and}
use Rattle.std.specs.List.{list_any}
use Rattle.std.proofs.lemmas.Bool.{eqb-true, eqb-false, ltb-true, ltb-false}
use Rattle.std.proofs.lemmas.Nat.{and_mask, and_le_l, and_le_r}
use Rattle.std.proofs.lemmas.Nat.Bits.{bit_at-zero}
use Rattle.site_types.specs.declared.site.Site.{Site}
use Rattle.site_types.specs.declared.word.Word.{Word}
use Rattle.site_types.specs.declared.zone.Zone.{Zone}
use Rattle.site_types.specs.Bits.{has_bit}
use Rattle.site_types.specs.Words.{empty_word}
use Rattle.site_types.proofs.Masks.{has_bit-and, has_bit-mask, same_mask}
use Rattle.panel_frames.specs.Grammar.{IsWord, NamesZones, fullest_word, is_panel_zone, stamped_word, zones_of}
use Rattle.panel_frames.proofs.Fitting.{IsWithin}
use Rattle.panel_frames.proofs.WordBytes.{FitsWidths}

zone_bit : (panel : ℕ) (zones : List Zone) (k : ℕ) → k < 32 → has_bit (zones_of panel zones) k ≡ list_any (is_panel_zone panel (k + 1)) zones
unfolding zones_of
zone_bit panel zones k less = has_bit-mask 32 (λ bit. list_any (is_panel_zone panel (bit + 1)) zones) k less

-- a mask that names a panel's zones has no bits but theirs
kept_both : (a b : Bool) → (a ≡ true → b ≡ true) → (a && b) ≡ a
kept_both true b implies = implies refl
kept_both false b implies = refl

pub names_fit : (site : Site) (panel mask : ℕ) → NamesZones site panel mask → bit_and mask (zones_of panel site.zones) ≡ mask
names_fit site panel mask names =
    let zones = zones_of panel site.zones in
    let below = and_le_l mask zones in
    let fits = names.0 in
    same_mask 32 (bit_and mask zones) mask (omega (arith, below, fits)) fits
    (λ k less. has_bit-and mask zones k ∙ kept_both (has_bit mask k) (has_bit zones k) (λ on. zone_bit panel site.zones k less ∙ names.1 k less on))

and_true : (a b : Bool) → (a && b) ≡ true → b ≡ true
and_true true b e = e
and_true false b e = absurd (cc)

pub fit_names : (site : Site) (panel mask : ℕ) → mask < 2 ^ 32 → bit_and mask (zones_of panel site.zones) ≡ mask → NamesZones site panel mask
fit_names site panel mask fits same =
    let zones = zones_of panel site.zones in (
      fits,
      (λ k less on. sym (zone_bit panel site.zones k less)
          ∙ and_true (has_bit mask k) (has_bit zones k) (sym (has_bit-and mask zones k) ∙ ap (λ (m : ℕ). has_bit m k) same ∙ on)),
    )

flag_one : (b : Bool) → bit_and (if b then 1 else 0) 1 ≡ (if b then 1 else 0)
flag_one true = refl
flag_one false = refl

pub within_fullest : (site : Site) (panel : ℕ) (w : Word) → IsWord site panel w → IsWithin w (fullest_word site panel w)
within_fullest site panel w is = go (nat_lt site.panels panel) (w.stamp.0 == 0) refl refl
  where
    go : (absent unstamped : Bool) → nat_lt site.panels panel ≡ absent → (w.stamp.0 == 0) ≡ unstamped
        → IsWithin w (if absent then empty_word else if unstamped then stamped_word 0 false else stamped_word (zones_of panel site.zones) true)
    go true b e f = subst (λ (x : Word). IsWithin x empty_word) (sym (is.absent (ltb-true site.panels panel e)))
        (record { stamp = refl; alarm = refl; manual = refl; released = refl; first = refl; fault = refl })
    go false true e f = subst (λ (x : Word). IsWithin x (stamped_word 0 false)) (sym (is.unstamped (eqb-true w.stamp.0 0 f)))
        (record { stamp = refl; alarm = refl; manual = refl; released = refl; first = refl; fault = refl })
    go false false e f = record {
      stamp = and_mask w.stamp.0 64 ∙ mod-eq_of_lt is.stamp;
      alarm = names_fit site panel w.alarm is.alarm;
      manual = names_fit site panel w.manual is.manual;
      released = names_fit site panel w.released is.released;
      first = names_fit site panel w.first is.first;
      fault = flag_one w.fault;
    }

nothing : (a : ℕ) → bit_and a 0 ≡ a → a ≡ 0
nothing a same = let less = and_le_r a 0 in omega (arith, less, same)

no_flag : (b : Bool) → bit_and (if b then 1 else 0) 0 ≡ (if b then 1 else 0) → b ≡ false
no_flag true e = absurd (let n = nothing 1 e in omega (arith, n))
no_flag false e = refl

zero_bit : (k : ℕ) → has_bit 0 k ≡ false
zero_bit k = rw (bit_at-zero k) refl

none_named : (site : Site) (panel mask : ℕ) → mask ≡ 0 → NamesZones site panel mask
none_named site panel mask e =
    subst (λ (m : ℕ). NamesZones site panel m) (sym e) (omega arith, (λ bit less on. absurd (let off = zero_bit bit in cc)))

-- a word that has no bits but a stamp's, and whose stamp is 0
all_zero : (w : Word) → w.stamp.0 ≡ 0 → w.alarm ≡ 0 → w.manual ≡ 0 → w.released ≡ 0 → w.first ≡ 0 → w.fault ≡ false → w ≡ empty_word
all_zero w s a m r f b = rw (s, a, m, r, f, b) refl

zero_word : (site : Site) (panel : ℕ) (w : Word) → FitsWidths w → w ≡ empty_word → IsWord site panel w
zero_word site panel w fits e = record {
  absent = λ less. e;
  unstamped = λ none. e;
  stamp = fits.stamp;
  alarm = none_named site panel w.alarm (ap (λ (x : Word). x.alarm) e);
  manual = none_named site panel w.manual (ap (λ (x : Word). x.manual) e);
  released = none_named site panel w.released (ap (λ (x : Word). x.released) e);
  first = none_named site panel w.first (ap (λ (x : Word). x.first) e);
}

pub is_word : (site : Site) (panel : ℕ) (w : Word) → FitsWidths w → IsWithin w (fullest_word site panel w) → IsWord site panel w
is_word site panel w fits within = go (nat_lt site.panels panel) (w.stamp.0 == 0) refl refl within
  where
    masks_zero : (zeros : Word) → zeros.alarm ≡ 0 → zeros.manual ≡ 0 → zeros.released ≡ 0 → zeros.first ≡ 0 → zeros.fault ≡ false
        → IsWithin w zeros → w.stamp.0 ≡ 0 → w ≡ empty_word
    masks_zero zeros a m r f b in_zeros s =
        all_zero w s (nothing w.alarm (subst (λ (x : ℕ). bit_and w.alarm x ≡ w.alarm) a in_zeros.alarm))
        (nothing w.manual (subst (λ (x : ℕ). bit_and w.manual x ≡ w.manual) m in_zeros.manual))
        (nothing w.released (subst (λ (x : ℕ). bit_and w.released x ≡ w.released) r in_zeros.released))
        (nothing w.first (subst (λ (x : ℕ). bit_and w.first x ≡ w.first) f in_zeros.first))
        (no_flag w.fault (subst (λ (x : Bool). bit_and (if w.fault then 1 else 0) (if x then 1 else 0) ≡ (if w.fault then 1 else 0)) b in_zeros.fault))

    go : (absent unstamped : Bool) → nat_lt site.panels panel ≡ absent → (w.stamp.0 == 0) ≡ unstamped
        → IsWithin w (if absent then empty_word else if unstamped then stamped_word 0 false else stamped_word (zones_of panel site.zones) true)
        → IsWord site panel w
    go true b e f in_most = zero_word site panel w fits (masks_zero empty_word refl refl refl refl refl in_most (nothing w.stamp.0 in_most.stamp))
    go false true e f in_most = zero_word site panel w fits (masks_zero (stamped_word 0 false) refl refl refl refl refl in_most (eqb-true w.stamp.0 0 f))
    go false false e f in_most = record {
      absent = λ less. absurd (let le = ltb-false site.panels panel e in omega (arith, le, less));
      unstamped = λ none. absurd (eqb-false w.stamp.0 0 f none);
      stamp = fits.stamp;
      alarm = fit_names site panel w.alarm fits.alarm in_most.alarm;
      manual = fit_names site panel w.manual fits.manual in_most.manual;
      released = fit_names site panel w.released fits.released in_most.released;
      first = fit_names site panel w.first fits.first in_most.first;
    }
