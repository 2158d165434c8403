-- The zones that a panel's Hold shows in alarm and in first state are those of the rules, whatever the panel is told from elsewhere.
use mathlib.Core.Path.{fun_ext}
use Rattle.std.proofs.Common.{◌≡◌, ◌∙◌, ◌+◌, ℕ, Bool, false, List, [], ◌∷◌, Option, Some, None, slice_get, ap, lit<, refl, sym}
use Rattle.site_types.specs.declared.answer.Answer.{Answer}
use Rattle.site_types.specs.declared.retained.Retained.{Retained}
use Rattle.site_types.specs.declared.rule.Rule.{Rule}
use Rattle.site_types.specs.declared.rule.Rule.TheVariants.{Plain, A, B, C}
use Rattle.site_types.specs.declared.site.Site.{Site}
use Rattle.site_types.specs.declared.word.Word.{Word}
use Rattle.site_types.specs.Done.{Done}
use Rattle.site_types.specs.Valid.{IsValid}
use Rattle.site_types.proofs.Masks.{has_bit-zero}
use Rattle.coincidence_rules.specs.Alarm.{is_in_alarm}
use Rattle.coincidence_rules.specs.First.{is_first, is_first_by}
use Rattle.coincidence_rules.specs.Places.{numbered, on_zone, rule_of, zones_where}
use Rattle.coincidence_rules.proofs.ZoneMasks.{zones_from_bits}
use Rattle.panel_conditions.specs.Words.{word_after}
use Rattle.panel_laws.proofs.FirstsShow.{held_made}
use Rattle.panel_rules.specs.Kept.{made_at}
use Rattle.panel_rules.specs.Moments.{Moment, IsPanel, IsRun, tick_of}
use Rattle.panel_rules.specs.Words.{latest_word, word_made}
use Rattle.panel_rules.specs.Zones.{held_answers, holds_alarm, holds_first}
use Rattle.panel_rules.proofs.KeptWords.{made_tick}
use Rattle.hold_calls.specs.Shown.{fault_told}
use Rattle.hold_calls.specs.Told.{Told}
use Rattle.hold_calls.specs.Turns.{hold_turns}
use Rattle.hold_calls.proofs.WordsHeld.{word_by_told}

none_on : (o : Option ℕ) → on_zone (λ _. false) o ≡ false
none_on None = refl
none_on (Some place) = refl

-- no zone makes the empty mask
no_zones : (site : Site) (panel : ℕ) → 0 ≡ zones_where site panel (λ _. false)
no_zones site panel = zones_from_bits site panel (λ _. false) 0 (lit< tt) (λ k l. has_bit-zero k ∙ sym (none_on (numbered site panel (k + 1))))

-- without answers no zone is in first state
no_first : (site : Site) (kept : Retained) (done : List Done) (zone tick : ℕ) (o : Option Rule) → false ≡ is_first_by site kept done [] zone tick o
no_first site kept done zone tick None = refl
no_first site kept done zone tick (Some Plain) = refl
no_first site kept done zone tick (Some (A verify within)) = refl
no_first site kept done zone tick (Some (B within)) = refl
no_first site kept done zone tick (Some C) = refl

module _ (site : Site) (kept : Retained) (done : List Done) (panel : ℕ) where
  -- the zones in alarm, and in first state, over some answers
  abbrev alarms : List Answer → ℕ → ℕ
  alarms xs tick = zones_where site panel (λ zone. is_in_alarm site kept done xs zone tick)

  abbrev firsts : List Answer → ℕ → ℕ
  firsts xs tick = zones_where site panel (λ zone. is_first site kept done xs zone tick)

  -- whatever words tell of faults
  module _ (faulty : ℕ → List Moment → Bool) where
    -- a word tells those over the answers that were held when it was made
    alarm_in : (word : List Moment) → (word_made site kept done faulty panel word).alarm ≡ alarms (held_answers site panel word) (tick_of word)
    alarm_in [] = no_zones site panel
    alarm_in (moment ∷ before) = refl

    first_in : (word : List Moment) → (word_made site kept done faulty panel word).first ≡ firsts (held_answers site panel word) (tick_of word)
    first_in [] = no_zones site panel ∙ ap (zones_where site panel) (fun_ext (λ zone. no_first site kept done zone 0 (rule_of (slice_get site.zones zone))))
    first_in (moment ∷ before) = refl

    -- and those are held still
    pub latest_alarm : (before : List Moment) → (latest_word site kept done faulty panel before).alarm
        ≡ zones_where site panel (λ zone. holds_alarm site kept done panel before zone)
    latest_alarm before =
        alarm_in (made_at panel before)
        ∙ ap (λ xs. alarms xs (tick_of (made_at panel before))) (held_made site panel before)
        ∙ ap (alarms (held_answers site panel before)) (made_tick panel before)

    pub latest_first : (before : List Moment) → (latest_word site kept done faulty panel before).first
        ≡ zones_where site panel (λ zone. holds_first site kept done panel before zone)
    latest_first before =
        first_in (made_at panel before)
        ∙ ap (λ xs. firsts xs (tick_of (made_at panel before))) (held_made site panel before)
        ∙ ap (firsts (held_answers site panel before)) (made_tick panel before)

module _ (site : Site) (kept : Retained) (done : List Done) (told : Told) (panel : ℕ) (before : List Moment) (valid : IsValid site)
    (run : IsRun site.panels before) (member : IsPanel site.panels panel) where
  pub alarm_shown : (word_after site kept panel done (hold_turns site kept done told panel before)).alarm
      ≡ zones_where site panel (λ zone. holds_alarm site kept done panel before zone)
  alarm_shown =
      ap (λ (w : Word). w.alarm) (word_by_told site kept done told panel before valid member run)
      ∙ latest_alarm site kept done panel (λ source. fault_told site kept done told panel) before

  pub first_shown : (word_after site kept panel done (hold_turns site kept done told panel before)).first
      ≡ zones_where site panel (λ zone. holds_first site kept done panel before zone)
  first_shown =
      ap (λ (w : Word). w.first) (word_by_told site kept done told panel before valid member run)
      ∙ latest_first site kept done panel (λ source. fault_told site kept done told panel) before
