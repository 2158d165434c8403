-- What a word of the own panel tells.
use Rattle.std.proofs.Common.{◌≡◌, ◌∙◌, ◌-◌, ◌<◌, ℕ, Bool, true, List, [], ◌∷◌, length, Option, Some, None, slice_get, refl, sym, ap, subst}
use Rattle.tick_units.specs.declared.task.Task.TheVariants.{Hold}
use Rattle.site_types.specs.declared.retained.Retained.{Retained}
use Rattle.site_types.specs.declared.site.Site.{Site}
use Rattle.site_types.specs.declared.word.Word.{Word}
use Rattle.site_types.specs.declared.zone.Zone.{Zone}
use Rattle.site_types.specs.Bits.{has_bit}
use Rattle.site_types.specs.Done.{Done}
use Rattle.site_types.specs.Valid.{IsValid}
use Rattle.site_types.proofs.Masks.{has_bit-zero}
use Rattle.coincidence_rules.specs.Alarm.{is_by_hand, is_released}
use Rattle.coincidence_rules.proofs.ValidWired.{wired_of}
use Rattle.coincidence_rules.proofs.ZoneMasks.{has_bit-zone}
use Rattle.panel_rules.specs.Moments.{Moment, latest_turn, tick_of}
use Rattle.panel_rules.specs.Words.{word_made}
use Rattle.panel_rules.specs.Zones.{held_answers, holds_by_hand, holds_released, panel_of, panel_of_zone}
use Rattle.panel_rules.proofs.Joined.{was_made}
use Rattle.panel_rules.proofs.KeptWords.{IsMade}
use Rattle.panel_laws.proofs.DueOn.{got}
use Rattle.node_rules.specs.Handed.{facts_of_words, mask_has_zone}

-- ---- the bits of a zone in a word of its panel

module _ (site : Site) (kept : Retained) (done : List Done) (told : ℕ → List Moment → Bool) (valid : IsValid site) (zone : ℕ) (plan : Zone)
    (is : slice_get site.zones zone ≡ Some plan) where
  released_bit : (word : List Moment) → latest_turn plan.panel Hold word ≡ tick_of word
      → has_bit (word_made site kept done told plan.panel word).released (plan.number - 1) ≡ holds_released site kept done plan.panel word zone
  released_bit [] e = has_bit-zero (plan.number - 1)
  released_bit (moment ∷ before) e =
      has_bit-zone site (λ z. is_released site kept done (held_answers site plan.panel (moment ∷ before)) z (tick_of (moment ∷ before))) zone plan
      (wired_of site valid) is
      ∙ ap (λ t. is_released site kept done (held_answers site plan.panel (moment ∷ before)) zone t) (sym e)

  hand_bit : (word : List Moment) → latest_turn plan.panel Hold word ≡ tick_of word
      → has_bit (word_made site kept done told plan.panel word).manual (plan.number - 1) ≡ holds_by_hand site kept done plan.panel word zone
  hand_bit [] e = has_bit-zero (plan.number - 1)
  hand_bit (moment ∷ before) e =
      has_bit-zone site (λ z. is_by_hand site kept done (held_answers site plan.panel (moment ∷ before)) z (tick_of (moment ∷ before))) zone plan
      (wired_of site valid) is
      ∙ ap (λ t. is_by_hand site kept done (held_answers site plan.panel (moment ∷ before)) zone t) (sym e)

-- ---- the facts of words, among which a panel's own is one that it made

module _ (site : Site) (kept : Retained) (done : List Done) (told : ℕ → List Moment → Bool) (valid : IsValid site) (panel : ℕ) (words : ℕ → Word)
    (word : List Moment) (made : IsMade panel word) (own : words panel ≡ word_made site kept done told panel word) where
  released_of : (zone : ℕ) (plan : Zone) → slice_get site.zones zone ≡ Some plan → plan.panel ≡ panel
      → (facts_of_words site words).released zone ≡ holds_released site kept done panel word zone
  released_of zone plan is at =
      ap (λ o. mask_has_zone (words (panel_of o)).released o) is
      ∙ ap (λ q. has_bit (words q).released (plan.number - 1)) at
      ∙ ap (λ (w : Word). has_bit w.released (plan.number - 1)) own
      ∙ subst (λ q. latest_turn q Hold word ≡ tick_of word
      → has_bit (word_made site kept done told q word).released (plan.number - 1) ≡ holds_released site kept done q word zone) at
      (released_bit site kept done told valid zone plan is word) (was_made panel word made)

  by_hand_of : (zone : ℕ) (plan : Zone) → slice_get site.zones zone ≡ Some plan → plan.panel ≡ panel
      → (facts_of_words site words).by_hand zone ≡ holds_by_hand site kept done panel word zone
  by_hand_of zone plan is at =
      ap (λ o. mask_has_zone (words (panel_of o)).manual o) is
      ∙ ap (λ q. has_bit (words q).manual (plan.number - 1)) at
      ∙ ap (λ (w : Word). has_bit w.manual (plan.number - 1)) own
      ∙ subst (λ q. latest_turn q Hold word ≡ tick_of word
      → has_bit (word_made site kept done told q word).manual (plan.number - 1) ≡ holds_by_hand site kept done q word zone) at
      (hand_bit site kept done told valid zone plan is word) (was_made panel word made)

  -- a zone that the word holds is among the facts
  pub released_in : (zone : ℕ) → zone < length site.zones → panel_of_zone site zone ≡ panel → holds_released site kept done panel word zone ≡ true
      → (facts_of_words site words).released zone ≡ true
  released_in zone within of holds =
      let z = got site.zones zone within in released_of zone z.0 z.1 (sym (ap panel_of z.1) ∙ of) ∙ holds

  pub by_hand_in : (zone : ℕ) → zone < length site.zones → panel_of_zone site zone ≡ panel → holds_by_hand site kept done panel word zone ≡ true
      → (facts_of_words site words).by_hand zone ≡ true
  by_hand_in zone within of holds =
      let z = got site.zones zone within in by_hand_of zone z.0 z.1 (sym (ap panel_of z.1) ∙ of) ∙ holds

  -- and the zones of the panel that are among the facts are those that the word holds
  pub released_from : (zone : ℕ) → panel_of_zone site zone ≡ panel → (facts_of_words site words).released zone ≡ true
      → holds_released site kept done panel word zone ≡ true
  released_from zone of told_so = go (slice_get site.zones zone) refl
    where
      go : (o : Option Zone) → slice_get site.zones zone ≡ o → holds_released site kept done panel word zone ≡ true
      go None is = absurd (let none : mask_has_zone (words (panel_of_zone site zone)).released None ≡ true =
          sym (ap (mask_has_zone (words (panel_of_zone site zone)).released) is) ∙ told_so in cc)
      go (Some plan) is = sym (released_of zone plan is (sym (ap panel_of is) ∙ of)) ∙ told_so

  pub by_hand_from : (zone : ℕ) → panel_of_zone site zone ≡ panel → (facts_of_words site words).by_hand zone ≡ true
      → holds_by_hand site kept done panel word zone ≡ true
  by_hand_from zone of told_so = go (slice_get site.zones zone) refl
    where
      go : (o : Option Zone) → slice_get site.zones zone ≡ o → holds_by_hand site kept done panel word zone ≡ true
      go None is = absurd (let none : mask_has_zone (words (panel_of_zone site zone)).manual None ≡ true =
          sym (ap (mask_has_zone (words (panel_of_zone site zone)).manual) is) ∙ told_so in cc)
      go (Some plan) is = sym (by_hand_of zone plan is (sym (ap panel_of is) ∙ of)) ∙ told_so
