-- A face shows what is due, and what it shows is caused.
use Rattle.std.proofs.Common.{◌≡◌, ℕ, zero, suc, ◌+◌, ◌-◌, ◌<◌, ◌==◌, ◌&&◌, List, [], ◌∷◌, map, Some, slice_get, inl, inr, Bool, true, false, if◌then◌else◌, refl, sym, ◌∙◌, ap, subst, arith}
use Rattle.std.specs.Prelude.{slice_index}
use Rattle.std.specs.List.{range_with_len}
use Rattle.std.proofs.lemmas.Bool.Decides.{eqb_tells}
use Rattle.tick_units.specs.declared.task.Task.TheVariants.{Hold}
use Rattle.site_types.specs.declared.output.Output.{Output}
use Rattle.site_types.specs.declared.retained.Retained.{Retained}
use Rattle.site_types.specs.declared.site.Site.{Site}
use Rattle.site_types.specs.declared.zone.Zone.{Zone}
use Rattle.site_types.specs.Bits.{has_bit, mask_of}
use Rattle.site_types.specs.Done.{Done}
use Rattle.site_types.specs.Valid.{IsValid}
use Rattle.site_types.proofs.Masks.{has_bit-mask, mask_more, mask_none}
use Rattle.site_types.proofs.ValidSites.{zone_at, zone_numbers, output_numbers}
use Rattle.coincidence_rules.proofs.ValidWired.{wired_of}
use Rattle.coincidence_rules.proofs.ZoneMasks.{has_bit-zone}
use Rattle.coincidence_rules.specs.Alarm.{is_in_alarm}
use Rattle.panel_rules.specs.Moments.{Moment, tick_of, IsPanel, IsPast, latest_turn}
use Rattle.panel_rules.specs.Kept.{made_at, kept_at, heard}
use Rattle.panel_rules.specs.Zones.{panel_of, panel_of_zone, held_answers, holds_alarm}
use Rattle.panel_rules.specs.Words.{word_made}
use Rattle.panel_rules.specs.Outputs.{output_numbered, on_place, outputs_where, is_on}
use Rattle.panel_rules.specs.Run.{tells_fault, facts_of}
use Rattle.panel_rules.specs.Due.{IsDue}
use Rattle.panel_rules.specs.Caused.{IsCausedAt}
use Rattle.panel_rules.specs.CausedOutputs.{shown_at}
use Rattle.panel_laws.specs.FaceLaws.{HasEnded, DueZoneIsShown, ShownZoneIsCaused, DueOutputIsShown, ShownOutputIsCaused}
use Rattle.panel_rules.proofs.Bools.{both, parts}
use Rattle.panel_rules.proofs.AnswersTell.{eq_true}
use Rattle.panel_rules.proofs.Turns.{turn_lag}
use Rattle.panel_rules.proofs.KeptWords.{made_is, made_tick, kept_is}
use Rattle.panel_rules.proofs.ValidLayout.{laid_out, position_unique}
use Rattle.panel_rules.proofs.InAlarm.{signal_holds}
use Rattle.panel_rules.proofs.Causes.{alarm_caused}
use Rattle.panel_rules.proofs.Joined.{due_kept, was_made}
use Rattle.panel_rules.proofs.Deadlines.{settled_by}
use Rattle.panel_rules.proofs.OpenRequests.{eq_swap}
use Rattle.panel_laws.proofs.OutputsOn.{due_output_on, on_output_caused}

-- the entry of a panel in a list by panel
pub entry : (f : ℕ → ℕ) (k : ℕ) → k < 8 → slice_index (map f (range_with_len 1 8)) k ≡ f (k + 1)
entry f zero l = refl
entry f (suc zero) l = refl
entry f (suc (suc zero)) l = refl
entry f (suc (suc (suc zero))) l = refl
entry f (suc (suc (suc (suc zero)))) l = refl
entry f (suc (suc (suc (suc (suc zero))))) l = refl
entry f (suc (suc (suc (suc (suc (suc zero)))))) l = refl
entry f (suc (suc (suc (suc (suc (suc (suc zero))))))) l = refl
entry f (suc (suc (suc (suc (suc (suc (suc (suc k)))))))) l = absurd (omega (arith, l))

-- the empty mask has no bit
no_mask : (n : ℕ) → mask_of n (λ k. false) ≡ 0
no_mask zero = mask_none (λ k. false)
no_mask (suc n) = let ih = no_mask n in let m = mask_more n (λ k. false) in omega (arith, ih, m)

pub no_bit : (k : ℕ) → k < 32 → has_bit 0 k ≡ false
no_bit k l = ap (λ mask. has_bit mask k) (sym (no_mask 32)) ∙ has_bit-mask 32 (λ j. false) k l

module _ (site : Site) (kept : Retained) (done : List Done) (valid : IsValid site) (zone : ℕ) (plan : Zone) (is :
    slice_get site.zones zone ≡ Some plan) where
  -- the bit of the zone in a word that was made with what is given
  in_word : (word : List Moment) → latest_turn plan.panel Hold word ≡ tick_of word
      → has_bit (word_made site kept done (tells_fault site kept done) plan.panel word).alarm (plan.number - 1)
      ≡ holds_alarm site kept done plan.panel word zone
  in_word [] e = no_bit (plan.number - 1) (let n = zone_numbers site valid zone plan is in omega (arith, n.2, n.3))
  in_word (moment ∷ before) e =
      has_bit-zone site (λ z. is_in_alarm site kept done (held_answers site plan.panel (moment ∷ before)) z (tick_of (moment ∷ before))) zone plan
      (wired_of site valid) is
      ∙ ap (λ t. is_in_alarm site kept done (held_answers site plan.panel (moment ∷ before)) zone t) (sym e)

  pub of_plan : panel_of_zone site zone ≡ plan.panel
  of_plan = ap panel_of is

  pub plan_panel : IsPanel site.panels plan.panel
  plan_panel = (zone_at site valid zone plan is).panel

  pub own_stamp : (m : List Moment) → latest_turn plan.panel Hold (made_at plan.panel m) ≡ tick_of (made_at plan.panel m)
  own_stamp m = was_made plan.panel (made_at plan.panel m) (made_is plan.panel m).made

  kept_stamp_is : (panel : ℕ) (m : List Moment)
      → latest_turn plan.panel Hold (kept_at site.panels panel plan.panel m) ≡ tick_of (kept_at site.panels panel plan.panel m)
  kept_stamp_is panel m = was_made plan.panel (kept_at site.panels panel plan.panel m) (kept_is site.panels panel plan.panel m).made

  -- the word that a panel shows of the zone's panel
  abbrev shown : ℕ → List Moment → List Moment
  shown panel m = if plan.panel == panel then made_at panel m else kept_at site.panels panel plan.panel m

  -- the bit of the zone in a face
  pub in_face : (panel : ℕ) (m : List Moment)
      → has_bit
      (slice_index
      (map
      (λ source.
      (if source == panel then word_made site kept done (tells_fault site kept done) panel (made_at panel m) else word_made site kept done
      (tells_fault site kept done) source (kept_at site.panels panel source m)).alarm) (range_with_len 1 8)) (plan.panel - 1)) (plan.number - 1)
      ≡ holds_alarm site kept done plan.panel (shown panel m) zone
  in_face panel m =
      ap (λ mask. has_bit mask (plan.number - 1))
      (entry
      (λ source.
      (if source == panel then word_made site kept done (tells_fault site kept done) panel (made_at panel m) else word_made site kept done
      (tells_fault site kept done) source (kept_at site.panels panel source m)).alarm) (plan.panel - 1) (let n =
      zone_numbers site valid zone plan is in omega (arith, n.0, n.1))
      ∙ ap (λ q. (if q == panel then word_made site kept done (tells_fault site kept done) panel (made_at panel m) else word_made site kept done (tells_fault site kept done) q (kept_at site.panels panel q m)).alarm) (let n = zone_numbers site valid zone plan is in omega (arith, n.0)))
      ∙ go panel
    where
      go : (panel : ℕ)
          → has_bit (if plan.panel == panel then word_made site kept done (tells_fault site kept done) panel (made_at panel m) else word_made site
          kept done (tells_fault site kept done) plan.panel (kept_at site.panels panel plan.panel m)).alarm (plan.number - 1)
          ≡ holds_alarm site kept done plan.panel (if plan.panel == panel then made_at panel m else kept_at site.panels panel plan.panel m) zone
      go panel =
          elim (eqb_tells plan.panel panel) [
            | inl t ↦ rw t.0
                (subst (λ q. has_bit (word_made site kept done (tells_fault site kept done) q (made_at q m)).alarm (plan.number - 1)
                ≡ holds_alarm site kept done plan.panel (made_at q m) zone) t.1 (in_word (made_at plan.panel m) (own_stamp m)))
            | inr t ↦ rw t.0 (in_word (kept_at site.panels panel plan.panel m) (kept_stamp_is panel m))
          ]

  module _ (m : List Moment) (after : HasEnded site m) where
    held_now : tick_of (made_at plan.panel m) ≡ tick_of m
    held_now = let lag = rw (after.ended.each plan.panel Hold plan_panel tt) at (turn_lag site.panels plan.panel Hold m plan_panel tt after.run) in
        let t = made_tick plan.panel m in omega (arith, lag, t)

    due_in : (panel : ℕ) → IsPanel site.panels panel → IsDue site kept done m zone panel
        → holds_alarm site kept done plan.panel (shown panel m) zone ≡ true
    due_in panel p due =
        elim (eqb_tells plan.panel panel) [
          | inl t ↦ rw t.0 (subst (λ q. holds_alarm site kept done plan.panel (made_at q m) zone ≡ true) t.1 own)
          | inr t ↦ rw t.0
              (subst (λ q. holds_alarm site kept done q (kept_at site.panels panel q m) zone ≡ true) of_plan
              (due_kept site kept done m zone panel (record {
                valid = after.valid;
                run = after.run;
                ended = after.ended;
                panel =
                    subst (IsPanel site.panels) (sym of_plan) plan_panel;
              }) p due))
        ]
      where
        own : holds_alarm site kept done plan.panel (made_at plan.panel m) zone ≡ true
        own =
            let s = own_stamp m in
            let h = held_now in
            let l = settled_by site kept done m zone panel due.settled due.late in
            let f = after.valid.forms.format.0 in
            signal_holds site kept done m (made_at plan.panel m) plan.panel zone (laid_out site after.valid) after.run (made_is plan.panel m).past
            plan_panel of_plan due.settled due.signal (omega (arith, s, h, l, f))

    caused_in : (panel : ℕ) → holds_alarm site kept done plan.panel (shown panel m) zone ≡ true
        → IsCausedAt site kept done m zone (shown_at site panel zone m)
    caused_in panel h =
        elim (eqb_tells plan.panel panel) [
          | inl t ↦
              (let here : holds_alarm site kept done plan.panel (made_at panel m) zone ≡ true = rw t.0 at h in
              let mine = subst (λ q. holds_alarm site kept done plan.panel (made_at q m) zone ≡ true) (sym t.1) here in
              let test : (panel == panel_of_zone site zone) ≡ true = eq_true panel (panel_of_zone site zone) (sym t.1 ∙ sym of_plan) in
              rw test (subst (IsCausedAt site kept done m zone) (stamp_of (made_at plan.panel m) (own_stamp m) ∙ held_now)
              (caused (made_at plan.panel m) (made_is plan.panel m).past mine)))
          | inr t ↦
              (let here : holds_alarm site kept done plan.panel (kept_at site.panels panel plan.panel m) zone ≡ true = rw t.0 at h in
              let test : (panel == panel_of_zone site zone) ≡ false = ap (λ q. panel == q) of_plan ∙ eq_swap panel plan.panel ∙ t.0 in
              rw test
              (subst (IsCausedAt site kept done m zone)
              (stamp_of (kept_at site.panels panel plan.panel m) (kept_stamp_is panel m) ∙ ap (λ q. heard site.panels panel q m) (sym of_plan))
              (caused (kept_at site.panels panel plan.panel m) (kept_is site.panels panel plan.panel m).past here)))
        ]
      where
        stamp_of : (word : List Moment) → latest_turn plan.panel Hold word ≡ tick_of word
            → latest_turn (panel_of_zone site zone) Hold word ≡ tick_of word
        stamp_of word e = ap (λ q. latest_turn q Hold word) of_plan ∙ e

        caused : (word : List Moment) → IsPast word m → holds_alarm site kept done plan.panel word zone ≡ true
            → IsCausedAt site kept done m zone (latest_turn (panel_of_zone site zone) Hold word)
        caused word past g =
            alarm_caused site kept done m word zone after.run past (subst (IsPanel site.panels) (sym of_plan) plan_panel)
            (subst (λ q. holds_alarm site kept done q word zone ≡ true) (sym of_plan) g)

pub due_zone_shown : DueZoneIsShown
due_zone_shown site kept done stored m zone plan panel after p is due =
    in_face site kept done after.valid zone plan is panel m ∙ due_in site kept done after.valid zone plan is m after panel p due

pub shown_zone_caused : ShownZoneIsCaused
shown_zone_caused site kept done stored m zone plan panel after p is h =
    caused_in site kept done after.valid zone plan is m after panel (sym (in_face site kept done after.valid zone plan is panel m) ∙ h)

-- ---- outputs

two : (a b c d : ℕ) → a ≡ c → b ≡ d → ◌≡◌ {A = List ℕ} (a ∷ b ∷ []) (c ∷ d ∷ [])
two a b c d p q = cc

eq_is : (a b : ℕ) → (a == b) ≡ true → a ≡ b
eq_is a b t = elim (eqb_tells a b) [ inl h ↦ h.1 | inr h ↦ (let e = sym t ∙ h.0 in absurd cc) ]

pub output_bit : (site : Site) → IsValid site → (output : ℕ) (plan : Output) → slice_get site.outputs output ≡ Some plan → (test : ℕ → Bool)
    → has_bit (outputs_where site plan.panel test) (plan.number - 1) ≡ test output
unfolding outputs_where
output_bit site valid output plan is test =
    let n = output_numbers site valid output plan is in
    let number : (plan.number - 1) + 1 ≡ plan.number = omega (arith, n.2) in
    has_bit-mask 32 (λ k. on_place test (output_numbered site plan.panel (k + 1))) (plan.number - 1) (omega (arith, n.2, n.3))
    ∙ ap (λ k. on_place test (output_numbered site plan.panel k)) number
    ∙ ap (on_place test)
    (position_unique (λ (o : Output). (o.panel == plan.panel) && (o.number == plan.number)) site.outputs output plan is
    (both _ _ (eq_true plan.panel plan.panel refl) (eq_true plan.number plan.number refl))
    (λ j o at t. (let g = parts (o.panel == plan.panel) (o.number == plan.number) t in
    valid.twins.outputs j output o plan at is
    (two o.panel o.number plan.panel plan.number (eq_is o.panel plan.panel g.0) (eq_is o.number plan.number g.1)))))

pub due_output_shown : DueOutputIsShown
due_output_shown site kept done stored m output plan after is due =
    output_bit site after.valid output plan is (λ o. is_on site (facts_of site kept done) kept done o m) ∙ due_output_on site kept done m output
    after.valid after.run after.ended due

pub shown_output_caused : ShownOutputIsCaused
shown_output_caused site kept done stored m output plan after is h =
    on_output_caused site kept done m output after.valid after.run
    (sym (output_bit site after.valid output plan is (λ o. is_on site (facts_of site kept done) kept done o m)) ∙ h)
