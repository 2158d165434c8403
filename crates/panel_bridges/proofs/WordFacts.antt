-- What the words that a panel keeps say are the facts of its Effect turn.
use Rattle.std.proofs.Common.{◌≡◌, ◌≢◌, ℕ, zero, suc, ◌+◌, ◌-◌, ◌≤◌, ◌<◌, List, [], ◌∷◌, length, slice_get}
use Rattle.std.proofs.Common.{slice_index_or, slice_set, Option, Some, None, inl, inr, Bool, false, refl, sym, ◌∙◌}
use Rattle.std.proofs.Common.{ap, subst, arith}
use Rattle.std.proofs.lemmas.Bool.Decides.{eqb_tells}
use Rattle.std.proofs.lemmas.Grind.{get_or-set_at}
use Rattle.std.proofs.lemmas.List.{get_or-set_other}
use Rattle.site_types.specs.declared.retained.Retained.{Retained}
use Rattle.site_types.specs.declared.site.Site.{Site}
use Rattle.site_types.specs.declared.word.Word.{Word}
use Rattle.site_types.specs.declared.zone.Zone.{Zone}
use Rattle.site_types.specs.Bits.{has_bit, mask_of}
use Rattle.site_types.specs.Done.{Done}
use Rattle.site_types.specs.Valid.{IsValid, IsPanel}
use Rattle.site_types.proofs.Masks.{has_bit-mask, has_bit-zero}
use Rattle.site_types.proofs.ValidSites.{zone_at}
use Rattle.marker_table.specs.declared.facts.Facts.{Facts as Masks}
use Rattle.marker_table.specs.Equations.{zone_bit}
use Rattle.coincidence_rules.specs.Alarm.{is_by_hand, is_released}
use Rattle.coincidence_rules.specs.Places.{numbered, on_zone, zones_where}
use Rattle.coincidence_rules.proofs.ValidWired.{wired_of}
use Rattle.coincidence_rules.proofs.ZoneMasks.{has_bit-zone, zones_from_bits}
use Rattle.panel_rules.specs.Moments.{Moment, tick_of}
use Rattle.panel_rules.specs.Kept.{kept_at}
use Rattle.panel_rules.specs.Words.{kept_word_of, word_made}
use Rattle.panel_rules.specs.Zones.{held_answers, holds_by_hand, holds_released, panel_of}
use Rattle.panel_rules.specs.Run.{facts_of, tells_fault, tells_to}
use Rattle.panel_rules.proofs.Joined.{kept_stamp}
use Rattle.panel_bridges.specs.FactMasks.{AreFacts}

-- a list in which what is of each number up to one is known, after one more was written
module _ {X : Type 0} where
  pub set_each : (xs : List X) (f : ℕ → X) (source : ℕ) (x d : X) → length xs ≡ 8 → 1 ≤ source → source ≤ 8 → x ≡ f source
      → ((q : ℕ) → 1 ≤ q → q < source → slice_index_or xs (q - 1) d ≡ f q)
      → (q : ℕ) → 1 ≤ q → q < source + 1 → slice_index_or (slice_set xs (source - 1) x) (q - 1) d ≡ f q
  set_each xs f source x d wide one few e h q low small =
      elim (eqb_tells q source) [
        | inl t ↦
            (let same = t.1 in get_or-set_at xs (source - 1) (q - 1) x d (omega (arith, same)) (omega (arith, wide, one, few)) ∙ e ∙ ap f (sym same))
        | inr t ↦ get_or-set_other xs (source - 1) (q - 1) x d (λ s. t.1 (omega (arith, s, low, one))) ∙ h q low (below q source small t.1)
      ]
    where
      below : (q source : ℕ) → q < source + 1 → q ≢ source → q < source
      below q source small apart = omega arith

  get_there : (xs : List X) (k : ℕ) → k < length xs → (x : X) × (slice_get xs k ≡ Some x)
  get_there [] k l = absurd (omega (arith, l))
  get_there (x ∷ xs) zero l = (x, refl)
  get_there (x ∷ xs) (suc k) l = get_there xs k (omega (arith, l))

no_zone : (o : Option ℕ) → false ≡ on_zone (λ z. false) o
no_zone None = refl
no_zone (Some z) = refl

no_zones : (site : Site) (panel : ℕ) → 0 ≡ zones_where site panel (λ z. false)
no_zones site panel = zones_from_bits site panel (λ z. false) 0 (omega arith) (λ k small. has_bit-zero k ∙ no_zone (numbered site panel (k + 1)))

-- what a word says
module _ (site : Site) (kept : Retained) (done : List Done) where
  pub released_in : (source : ℕ) (word : List Moment)
      → (word_made site kept done (tells_fault site kept done) source word).released
      ≡ zones_where site source (λ zone. is_released site kept done (held_answers site source word) zone (tick_of word))
  released_in source [] = no_zones site source
  released_in source (moment ∷ before) = refl

  pub hand_in : (source : ℕ) (word : List Moment)
      → (word_made site kept done (tells_fault site kept done) source word).manual
      ≡ zones_where site source (λ zone. is_by_hand site kept done (held_answers site source word) zone (tick_of word))
  hand_in source [] = no_zones site source
  hand_in source (moment ∷ before) = refl

  pub fault_in : (source : ℕ) (word : List Moment)
      → (word_made site kept done (tells_fault site kept done) source word).fault ≡ tells_fault site kept done source word
  unfolding tells_to
  fault_in source [] = refl
  fault_in source (moment ∷ before) = refl

  module _ (valid : IsValid site) (panel : ℕ) (before : List Moment) (words : ℕ → Word)
      (words_are : (q : ℕ) → IsPanel site q → words q ≡ kept_word_of site kept done (tells_fault site kept done) panel q before) where
    released_at : (masks : List ℕ) (zone : ℕ) (plan : Zone) → ((q : ℕ) → IsPanel site q → slice_index_or masks (q - 1) 0 ≡ (words q).released)
        → IsPanel site plan.panel → slice_get site.zones zone ≡ Some plan
        → zone_bit masks (Some plan) ≡ holds_released site kept done plan.panel (kept_at site.panels panel plan.panel before) zone
    released_at masks zone plan masks_are p is =
        ap (λ m. has_bit m (plan.number - 1))
        (masks_are plan.panel p ∙ ap (λ (w : Word). w.released) (words_are plan.panel p) ∙ released_in plan.panel
        (kept_at site.panels panel plan.panel before))
        ∙ has_bit-zone site (λ z. is_released site kept done (held_answers site plan.panel (kept_at site.panels panel plan.panel before)) z
        (tick_of (kept_at site.panels panel plan.panel before))) zone plan (wired_of site valid) is
        ∙ ap (is_released site kept done (held_answers site plan.panel (kept_at site.panels panel plan.panel before)) zone)
        (sym (kept_stamp site.panels panel plan.panel before))

    hand_at : (masks : List ℕ) (zone : ℕ) (plan : Zone) → ((q : ℕ) → IsPanel site q → slice_index_or masks (q - 1) 0 ≡ (words q).manual)
        → IsPanel site plan.panel → slice_get site.zones zone ≡ Some plan
        → zone_bit masks (Some plan) ≡ holds_by_hand site kept done plan.panel (kept_at site.panels panel plan.panel before) zone
    hand_at masks zone plan masks_are p is =
        ap (λ m. has_bit m (plan.number - 1))
        (masks_are plan.panel p ∙ ap (λ (w : Word). w.manual) (words_are plan.panel p) ∙ hand_in plan.panel
        (kept_at site.panels panel plan.panel before))
        ∙ has_bit-zone site (λ z. is_by_hand site kept done (held_answers site plan.panel (kept_at site.panels panel plan.panel before)) z
        (tick_of (kept_at site.panels panel plan.panel before))) zone plan (wired_of site valid) is
        ∙ ap (is_by_hand site kept done (held_answers site plan.panel (kept_at site.panels panel plan.panel before)) zone)
        (sym (kept_stamp site.panels panel plan.panel before))

    panel_in : (zone : ℕ) (plan : Zone) → slice_get site.zones zone ≡ Some plan → IsPanel site plan.panel
    panel_in zone plan is = (zone_at site valid zone plan is).panel

    pub facts_are : (zones manual : List ℕ) (faulty : List Bool) → site.panels ≤ 8
        → ((q : ℕ) → IsPanel site q → slice_index_or zones (q - 1) 0 ≡ (words q).released)
        → ((q : ℕ) → IsPanel site q → slice_index_or manual (q - 1) 0 ≡ (words q).manual)
        → ((q : ℕ) → IsPanel site q → slice_index_or faulty (q - 1) false ≡ (words q).fault)
        → AreFacts site (facts_of site kept done panel before) (let masks : Masks =
        record { zones = zones; manual = manual; faults = mask_of 8 (λ k. slice_index_or faulty k false) } in masks)
    facts_are zones manual faulty few zones_are manual_are faulty_are = record {
      released = λ zone small.
          let there = get_there site.zones zone small in
          subst (λ o. zone_bit zones o ≡ holds_released site kept done (panel_of o) (kept_at site.panels panel (panel_of o) before) zone)
          (sym there.1)
          (released_at zones zone there.0 zones_are (panel_in zone there.0 there.1) there.1);
      by_hand = λ zone small.
          let there = get_there site.zones zone small in
          subst (λ o. zone_bit manual o ≡ holds_by_hand site kept done (panel_of o) (kept_at site.panels panel (panel_of o) before) zone)
          (sym there.1)
          (hand_at manual zone there.0 manual_are (panel_in zone there.0 there.1) there.1);
      faulty = λ q p.
          has_bit-mask 8 (λ k. slice_index_or faulty k false) (q - 1) (omega (arith, p.0, p.1, few))
          ∙ faulty_are q p ∙ ap (λ (w : Word). w.fault) (words_are q p) ∙ fault_in q (kept_at site.panels panel q before);
    }
