-- What the words that a panel keeps say is exactly the facts of its turn of Effect, with no bit besides.
use Rattle.std.proofs.Common.{◌≡◌, ℕ, zero, suc, ◌+◌, ◌-◌, ◌≤◌, ◌<◌, ◌&&◌, List, [], ◌∷◌, length, map, slice_get}
use Rattle.std.proofs.Common.{Option, Some, None, inl, inr, Bool, false, refl, sym, ◌∙◌, ap, arith}
use Rattle.std.specs.Prelude.{nat_lt, slice_index_or}
use Rattle.std.specs.List.{range_with_len}
use Rattle.site_types.specs.declared.retained.Retained.{Retained}
use Rattle.site_types.specs.declared.site.Site.{Site}
use Rattle.site_types.specs.declared.zone.Zone.{Zone}
use Rattle.site_types.specs.Bits.{mask_of}
use Rattle.site_types.specs.Done.{Done}
use Rattle.site_types.specs.Valid.{IsPanel, IsValid}
use Rattle.site_types.proofs.Done.{lt_tells}
use Rattle.site_types.proofs.Masks.{has_bit-zero, mask_same}
use Rattle.site_types.proofs.ValidSites.{zone_at}
use Rattle.coincidence_rules.specs.Alarm.{is_by_hand, is_released}
use Rattle.coincidence_rules.specs.Places.{numbered, on_zone, zones_where}
use Rattle.coincidence_rules.proofs.ZoneMasks.{of_numbered, zones_from_bits}
use Rattle.panel_rules.specs.Kept.{kept_at}
use Rattle.panel_rules.specs.Moments.{Moment, tick_of}
use Rattle.panel_rules.specs.Run.{facts_of, tells_fault}
use Rattle.panel_rules.specs.Words.{kept_word_of}
use Rattle.panel_rules.specs.Zones.{held_answers, holds_by_hand, holds_released, panel_of}
use Rattle.panel_rules.proofs.Joined.{kept_stamp}
use Rattle.panel_bridges.proofs.WordFacts.{fault_in, hand_in, released_in}
use Rattle.output_calls.specs.SilenceCalls.{zone_masks}
use Rattle.panel_effects.specs.Masks.{panel_mask}

-- ---- lists of numbers

cons_same : (x y : ℕ) (xs ys : List ℕ) → x ≡ y → xs ≡ ys → ◌≡◌ {A = List ℕ} (x ∷ xs) (y ∷ ys)
cons_same x y xs ys p q = cc

-- a list with the number of each place
pub filled : (f : ℕ → ℕ) (xs : List ℕ) (from n : ℕ) → length xs ≡ n → ((k : ℕ) → k < n → slice_index_or xs k 0 ≡ f (from + k))
    → xs ≡ map f (range_with_len from n)
filled f [] from zero size each = refl
filled f [] from (suc n) size each = absurd (omega (arith, size))
filled f (x ∷ xs) from zero size each = absurd (omega (arith, size))
filled f (x ∷ xs) from (suc n) size each =
    let at : from + 0 ≡ from = omega arith in
    cons_same x (f from) xs (map f (range_with_len (from + 1) n)) (each 0 (omega arith) ∙ ap f at)
    (filled f xs (from + 1) n (omega (arith, size))
    (λ k small. each (suc k) (omega (arith, small)) ∙ (let next : from + suc k ≡ from + 1 + k = omega arith in ap f next)))

-- ---- zones of a panel

-- tests that agree on the zones of a panel make the same mask
zones_alike : (site : Site) (panel : ℕ) (f g : ℕ → Bool)
    → ((zone : ℕ) (plan : Zone) → slice_get site.zones zone ≡ Some plan → plan.panel ≡ panel → f zone ≡ g zone)
    → zones_where site panel f ≡ zones_where site panel g
unfolding zones_where
zones_alike site panel f g same =
    mask_same 32 (λ k. on_zone f (numbered site panel (k + 1))) (λ k. on_zone g (numbered site panel (k + 1)))
    (λ k small. at k (numbered site panel (k + 1)) refl)
  where
    at : (k : ℕ) (o : Option ℕ) → numbered site panel (k + 1) ≡ o → on_zone f o ≡ on_zone g o
    at k None is = refl
    at k (Some zone) is = let there = of_numbered site panel (k + 1) zone is in same zone there.zone there.is there.panel_is

-- a panel that the site hasn't has no zone
pub zones_elsewhere : (site : Site) → IsValid site → (panel : ℕ) (test : ℕ → Bool) → site.panels < panel → 0 ≡ zones_where site panel test
zones_elsewhere site valid panel test beyond =
    zones_from_bits site panel test 0 (omega arith) (λ k small. has_bit-zero k ∙ sym (none k (numbered site panel (k + 1)) refl))
  where
    none : (k : ℕ) (o : Option ℕ) → numbered site panel (k + 1) ≡ o → on_zone test o ≡ false
    none k None is = refl
    none k (Some zone) is =
        let there = of_numbered site panel (k + 1) zone is in
        let lies = (zone_at site valid zone there.zone there.is).panel in
        let same = there.panel_is in
        absurd (omega (arith, lies.1, same, beyond))

-- ---- what a word says

module _ (site : Site) (kept : Retained) (done : List Done) (panel : ℕ) (before : List Moment) where
  -- the mask of released zones in the word that is kept of a panel
  pub released_heard : (source : ℕ) → (kept_word_of site kept done (tells_fault site kept done) panel source before).released
      ≡ zones_where site source (facts_of site kept done panel before).released
  released_heard source =
      released_in site kept done source (kept_at site.panels panel source before)
      ∙ zones_alike site source
      (λ zone. is_released site kept done (held_answers site source (kept_at site.panels panel source before)) zone
      (tick_of (kept_at site.panels panel source before))) (facts_of site kept done panel before).released
      (λ zone plan at same.
      ap (is_released site kept done (held_answers site source (kept_at site.panels panel source before)) zone)
      (sym (kept_stamp site.panels panel source before))
      ∙ ap (λ p. holds_released site kept done p (kept_at site.panels panel p before) zone) (sym (ap panel_of at ∙ same)))

  pub hand_heard : (source : ℕ) → (kept_word_of site kept done (tells_fault site kept done) panel source before).manual
      ≡ zones_where site source (facts_of site kept done panel before).by_hand
  hand_heard source =
      hand_in site kept done source (kept_at site.panels panel source before)
      ∙ zones_alike site source
      (λ zone. is_by_hand site kept done (held_answers site source (kept_at site.panels panel source before)) zone
      (tick_of (kept_at site.panels panel source before))) (facts_of site kept done panel before).by_hand
      (λ zone plan at same.
      ap (is_by_hand site kept done (held_answers site source (kept_at site.panels panel source before)) zone)
      (sym (kept_stamp site.panels panel source before))
      ∙ ap (λ p. holds_by_hand site kept done p (kept_at site.panels panel p before) zone) (sym (ap panel_of at ∙ same)))

  pub fault_heard : (source : ℕ) → (kept_word_of site kept done (tells_fault site kept done) panel source before).fault
      ≡ (facts_of site kept done panel before).faulty source
  fault_heard source = fault_in site kept done source (kept_at site.panels panel source before)

-- ---- masks by panel

-- a mask of the zones of each panel of the site, and none of the others
pub record AreHeard (site : Site) (masks : List ℕ) (each : ℕ → ℕ) : Type 0 where
  pub wide : length masks ≡ 8
  pub heard : (q : ℕ) → IsPanel site q → slice_index_or masks (q - 1) 0 ≡ each q
  pub none : (q : ℕ) → site.panels < q → q ≤ 8 → slice_index_or masks (q - 1) 0 ≡ 0

pub zones_heard : (site : Site) → IsValid site → (test : ℕ → Bool) (masks : List ℕ) (each : ℕ → ℕ) → AreHeard site masks each
    → ((q : ℕ) → IsPanel site q → each q ≡ zones_where site q test) → masks ≡ zone_masks site test
zones_heard site valid test masks each are same =
    filled (λ q. zones_where site q test) masks 1 8 are.wide
    (λ k small. (let place : 1 + k - 1 ≡ k = omega arith in
    sym (ap (λ n. slice_index_or masks n 0) place) ∙ at (1 + k) (omega arith) (omega (arith, small))))
  where
    at : (q : ℕ) → 1 ≤ q → q ≤ 8 → slice_index_or masks (q - 1) 0 ≡ zones_where site q test
    at q low high =
        elim (lt_tells site.panels q) [
          | inl t ↦ are.none q t.1 high ∙ zones_elsewhere site valid q test t.1
          | inr t ↦ are.heard q (low, t.1) ∙ same q (low, t.1)
        ]

-- a flag of each panel of the site, and none of the others
pub record AreFlags (site : Site) (flag : ℕ → Bool) (each : ℕ → Bool) : Type 0 where
  pub heard : (q : ℕ) → IsPanel site q → flag (q - 1) ≡ each q
  pub none : (q : ℕ) → site.panels < q → q ≤ 8 → flag (q - 1) ≡ false

pub flags_heard : (site : Site) (test : ℕ → Bool) (flag each : ℕ → Bool) → AreFlags site flag each
    → ((q : ℕ) → IsPanel site q → each q ≡ test q) → mask_of 8 flag ≡ panel_mask site test
flags_heard site test flag each are same =
    mask_same 8 flag (λ k. nat_lt k site.panels && test (k + 1))
    (λ k small. (let place : k + 1 - 1 ≡ k = omega arith in sym (ap flag place) ∙ at k small))
  where
    at : (k : ℕ) → k < 8 → flag (k + 1 - 1) ≡ (nat_lt k site.panels && test (k + 1))
    at k small =
        elim (lt_tells k site.panels) [
          | inl t ↦ (let less = t.1 in let p : IsPanel site (k + 1) = (omega arith, omega (arith, less)) in
              are.heard (k + 1) p ∙ same (k + 1) p ∙ ap (λ b. b && test (k + 1)) (sym t.0))
          | inr t ↦ (let far = t.1 in
              are.none (k + 1) (omega (arith, far)) (omega (arith, small)) ∙ ap (λ b. b && test (k + 1)) (sym t.0))
        ]

-- where the flags are a list
pub faults_heard : (site : Site) (test : ℕ → Bool) (flags : List Bool) (each : ℕ → Bool) → AreFlags site (λ k. slice_index_or flags k false) each
    → ((q : ℕ) → IsPanel site q → each q ≡ test q) → mask_of 8 (λ k. slice_index_or flags k false) ≡ panel_mask site test
faults_heard site test flags each are same = flags_heard site test (λ k. slice_index_or flags k false) each are same
