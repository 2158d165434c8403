-- The fire alarm condition that a face tells is the one that is counted.
use Rattle.std.proofs.Common.{◌≡◌, ℕ, ◌+◌, ◌-◌, ◌≤◌, ◌==◌, List, [], ◌∷◌, map, Option, Some, None, true, false, refl, ◌∙◌, ap, arith}
use Rattle.std.specs.Prelude.{slice_index}
use Rattle.std.specs.List.{range_with_len}
use Rattle.std.proofs.lemmas.Bool.Decides.{nat_tests}
use Rattle.site_types.specs.declared.retained.Retained.{Retained}
use Rattle.site_types.specs.declared.site.Site.{Site}
use Rattle.site_types.specs.Done.{Done}
use Rattle.site_types.specs.declared.answer.Answer.{Answer}
use Rattle.coincidence_rules.specs.Alarm.{is_in_alarm}
use Rattle.coincidence_rules.specs.Places.{zones_where, on_zone, numbered}
use Rattle.coincidence_rules.proofs.ZoneMasks.{zones_from_bits}
use Rattle.face_text.specs.Faces.{has_some}
use Rattle.panel_rules.specs.Moments.{Moment, tick_of}
use Rattle.panel_rules.specs.Kept.{made_at}
use Rattle.panel_rules.specs.Zones.{held_answers, holds_alarm}
use Rattle.panel_rules.specs.Words.{word_made, latest_word}
use Rattle.panel_rules.specs.Run.{tells_fault}
use Rattle.panel_rules.specs.Faces.{shown_word}
use Rattle.panel_laws.specs.FaceLaws.{FireIsCounted}
use Rattle.panel_rules.proofs.KeptWords.{made_tick}
use Rattle.panel_laws.proofs.FacesShow.{entry, no_bit}
use Rattle.panel_laws.proofs.FirstsShow.{held_made}

no_zone : (o : Option ℕ) → false ≡ on_zone (λ z. false) o
no_zone None = refl
no_zone (Some z) = refl

-- no zone makes the empty mask
no_zones : (site : Site) (panel : ℕ) → 0 ≡ zones_where site panel (λ z. false)
no_zones site panel = zones_from_bits site panel (λ z. false) 0 (omega arith) (λ k small. no_bit k small ∙ no_zone (numbered site panel (k + 1)))

module _ (site : Site) (kept : Retained) (done : List Done) (panel : ℕ) where
  -- the zones in alarm over some answers
  abbrev alarms : List Answer → ℕ → ℕ
  alarms answers tick = zones_where site panel (λ zone. is_in_alarm site kept done answers zone tick)

  -- those that a word tells are those over the answers that were held when it was made
  in_word : (word : List Moment) → (word_made site kept done (tells_fault site kept done) panel word).alarm ≡ alarms (held_answers site panel word)
      (tick_of word)
  in_word [] = no_zones site panel
  in_word (moment ∷ before) = refl

  latest : (m : List Moment)
      → (latest_word site kept done (tells_fault site kept done) panel m).alarm ≡ zones_where site panel (holds_alarm site kept done panel m)
  latest m =
      in_word (made_at panel m) ∙
      (ap (λ xs. alarms xs (tick_of (made_at panel m))) (held_made site panel m) ∙
      ap (λ t. alarms (held_answers site panel m) t) (made_tick panel m))

  own_word : (m : List Moment)
      → (shown_word site kept done panel m panel).alarm ≡ (latest_word site kept done (tells_fault site kept done) panel m).alarm
  own_word m = let same = equal_self panel in rw same refl
    where
      equal_self : (n : ℕ) → (n == n) ≡ true
      equal_self n = grind (arith, nat_tests)

  own_mask : (m : List Moment) → (1 ≤ panel) × (panel ≤ 8)
      → slice_index (map (λ source. (shown_word site kept done panel m source).alarm) (range_with_len 1 8)) (panel - 1)
      ≡ zones_where site panel (holds_alarm site kept done panel m)
  own_mask m p =
      entry (λ source. (shown_word site kept done panel m source).alarm) (panel - 1) (let l = p.0 in let h = p.1 in omega (arith, l, h)) ∙
      (ap (λ q. (shown_word site kept done panel m q).alarm) (let l = p.0 in omega (arith, l)) ∙
      (own_word m ∙ latest m))

pub fire_counted : FireIsCounted
fire_counted site kept done stored moments panel p = ap has_some (own_mask site kept done panel moments p)
