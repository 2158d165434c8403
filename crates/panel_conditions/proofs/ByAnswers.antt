-- The word and the faults by the answers.
use Rattle.std.proofs.Common.{◌≡◌, ℕ, ◌+◌, Bool, not, List, Option, Some, None, slice_get, ◌&&◌, refl, ap, subst}
use Rattle.site_types.specs.declared.site.Site.{Site}
use Rattle.site_types.specs.declared.zone.Zone.{Zone}
use Rattle.site_types.specs.declared.answer.Answer.{Answer}
use Rattle.site_types.specs.declared.retained.Retained.{Retained}
use Rattle.site_types.specs.Done.{Done}
use Rattle.site_types.proofs.Masks.{mask_same}
use Rattle.coincidence_rules.specs.declared.finding.Finding.{Finding}
use Rattle.coincidence_rules.specs.Places.{numbered, on_zone, zones_where}
use Rattle.coincidence_rules.specs.Alarm.{is_in_alarm, is_by_hand, is_released}
use Rattle.coincidence_rules.specs.First.{is_first}
use Rattle.coincidence_rules.specs.Findings.{findings_of}
use Rattle.coincidence_rules.specs.InOrder.{AreInOrder}
use Rattle.coincidence_rules.specs.Wired.{IsWired}
use Rattle.coincidence_rules.proofs.ZoneMasks.{of_numbered}
use Rattle.panel_conditions.specs.declared.outside.Outside.{Outside}
use Rattle.panel_conditions.specs.Answered.{answered_word, answered_faults}
use Rattle.panel_conditions.specs.Missing.{is_off}
use Rattle.panel_conditions.specs.Words.{with_missing, word_at, faults_at}
use Rattle.panel_conditions.specs.Zones.{alarm_found, hand_found, release_found, first_found}
use Rattle.panel_conditions.proofs.Tells.{alarm_tells, hand_tells, release_tells, first_state_tells, missing_tells}
use Rattle.panel_conditions.proofs.BeforeOperation.{points_same, same_words}

-- two tests that agree on a panel's zones make one mask
own_same : (site : Site) (panel : ℕ) (p q : ℕ → Bool) → ((place : ℕ) (zone : Zone) → slice_get site.zones place ≡ Some zone → zone.panel ≡ panel
    → p place ≡ q place) →
    zones_where site panel p ≡ zones_where site panel q
unfolding zones_where
own_same site panel p q same =
    mask_same 32 (λ k. on_zone p (numbered site panel (k + 1))) (λ k. on_zone q (numbered site panel (k + 1)))
    (λ k small. go (k + 1) (numbered site panel (k + 1)) refl)
  where
    go : (number : ℕ) (o : Option ℕ) → numbered site panel number ≡ o → on_zone p o ≡ on_zone q o
    go number None e = refl
    go number (Some place) e = let n = of_numbered site panel number place e in same place n.zone n.is n.panel_is

pub word_by_answers : (site : Site) (kept : Retained) (panel tick : ℕ) (done : List Done) (answers : List Answer) (fault : Bool) → IsWired site
    → AreInOrder answers →
    word_at site panel done (findings_of site kept panel done answers) tick fault ≡ answered_word site kept panel done answers tick fault
word_by_answers site kept panel tick done answers fault wired order =
    same_words tick fault
    (own_same site panel (λ z. alarm_found site done taken z tick) (λ z. is_in_alarm site kept done answers z tick)
    (λ place zone is at.
    at_panel at (λ p. alarm_found site done (findings_of site kept p done answers) place tick ≡ is_in_alarm site kept done answers place tick)
    (alarm_tells site kept done answers place tick zone wired is order)))
    (own_same site panel (λ z. hand_found site done taken z tick) (λ z. is_by_hand site kept done answers z tick)
    (λ place zone is at.
    at_panel at (λ p. hand_found site done (findings_of site kept p done answers) place tick ≡ is_by_hand site kept done answers place tick)
    (hand_tells site kept done answers place tick zone wired is)))
    (own_same site panel (λ z. release_found site done taken z tick) (λ z. is_released site kept done answers z tick)
    (λ place zone is at.
    at_panel at (λ p. release_found site done (findings_of site kept p done answers) place tick ≡ is_released site kept done answers place tick)
    (release_tells site kept done answers place tick zone wired is order)))
    (own_same site panel (λ z. first_found site done taken z tick) (λ z. is_first site kept done answers z tick)
    (λ place zone is at.
    at_panel at (λ p. first_found site done (findings_of site kept p done answers) place tick ≡ is_first site kept done answers place tick)
    (first_state_tells site kept done answers place tick zone wired is order)))
  where
    taken : List Finding
    taken = findings_of site kept panel done answers

    at_panel : {a b : ℕ} → a ≡ b → (P : ℕ → Type 0) → P a → P b
    at_panel e P h = subst P e h

pub faults_by_answers : (site : Site) (kept : Retained) (panel tick : ℕ) (done : List Done) (answers : List Answer) (outside : Outside) →
    faults_at site kept panel done (findings_of site kept panel done answers) tick outside ≡ answered_faults site kept panel done answers tick outside
faults_by_answers site kept panel tick done answers outside =
    ap (λ m. with_missing m outside) (points_same site panel _ _ (λ place. ap (λ b. b && not (is_off site kept done place tick)) (missing_tells site kept panel place done answers)))
