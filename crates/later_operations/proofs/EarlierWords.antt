-- What is done in a tick or later changes nothing of what words made up to that tick tell, nor of what goes by what they tell: the facts
-- of Effect turns, outputs, faults, the ring.
use Rattle.std.proofs.Common.{◌≡◌, ◌≤◌, ◌&&◌, ◌++◌, not, ℕ, zero, suc, Bool, List, [], ◌∷◌, length, refl, ◌∙◌, ap, arith}
use Rattle.std.proofs.Math.Path.{fun_ext}
use Rattle.tick_units.specs.declared.task.Task.TheVariants.{Effect, Hold, Link as LinkTask}
use Rattle.site_types.specs.declared.event.Event.{Event}
use Rattle.site_types.specs.declared.event.Event.TheVariants.{Link}
use Rattle.site_types.specs.declared.retained.Retained.{Retained}
use Rattle.site_types.specs.declared.site.Site.{Site}
use Rattle.site_types.specs.declared.word.Word.{Word}
use Rattle.site_types.specs.Done.{Done}
use Rattle.site_types.proofs.LaterDone.{AreFrom}
use Rattle.coincidence_rules.specs.Missing.{is_missing}
use Rattle.panel_conditions.specs.Answered.{answered_word}
use Rattle.panel_conditions.specs.Missing.{is_off}
use Rattle.panel_conditions.specs.Points.{points_where}
use Rattle.panel_conditions.specs.Words.{has_fault, with_missing}
use Rattle.panel_links.specs.Words.{Call, Took}
use Rattle.panel_rules.specs.Faults.{is_unconfirmed, outside_at}
use Rattle.panel_rules.specs.Kept.{heard, kept_at, made_at}
use Rattle.panel_rules.specs.Latest.{made_latest}
use Rattle.panel_rules.specs.Markers.{Facts}
use Rattle.panel_rules.specs.Moments.{Moment, Began, Happened, Turned, Kept, tick_of}
use Rattle.panel_rules.specs.Outputs.{goes_on, is_confirmed_out, is_on, on_run, released_at_effect}
use Rattle.panel_rules.specs.Run.{facts_of, facts_with, faults_of, faults_with, tells_fault, tells_to}
use Rattle.panel_rules.specs.States.{is_up}
use Rattle.panel_rules.specs.Words.{and_report, kept_word_of, latest_word, ring_calls, word_made}
use Rattle.panel_rules.specs.Zones.{held_answers, panel_of_zone}
use Rattle.panel_rules.proofs.KeptWords.{heard_past, latest_by, made_tick}
use Rattle.output_calls.specs.DelayCalls.{delay_calls, requests_at}
use Rattle.output_calls.specs.RoutingCalls.{routing_calls}
use Rattle.output_calls.specs.SilenceCalls.{silence_calls}
use Rattle.output_calls.proofs.LaterDone.{delays_later, silence_later}
use Rattle.later_operations.proofs.Earlier.{then_earlier, made_stays, up_to_tick}
use Rattle.later_operations.proofs.ByFacts.{delays_by_facts, goes_by_facts, released_by_facts, requests_by_facts, silences_by_facts}
use Rattle.later_operations.proofs.ByOutputs.{confirmed_by_outputs, on_by_outputs, on_run_by_outputs, outside_by_outputs, routing_by_outputs, unconfirmed_by_outputs}
use Rattle.later_operations.proofs.GoesOn.{goes_later}
use Rattle.later_operations.proofs.Signs.{by_hand_later, missing_later, released_later, signs_later}

-- a history up to a tick
abbrev pub IsUpTo : ℕ → List Moment → Type 0
IsUpTo x m = tick_of m ≤ x

made_by : (x panel : ℕ) (m : List Moment) → tick_of m ≤ x → tick_of (made_at panel m) ≤ x
made_by x panel m by =
    let made = made_tick panel m in
    let latest = latest_by panel Hold m in
    omega (arith, by, made, latest)

kept_by : (x panels panel source : ℕ) (m : List Moment) → tick_of m ≤ x → tick_of (kept_at panels panel source m) ≤ x
kept_by x panels panel source m by =
    let past = heard_past panels panel source m in
    let latest = latest_by source Hold m in
    omega (arith, by, past, latest)

same_facts : (a b c d e f : ℕ → Bool) → a ≡ b → c ≡ d → e ≡ f
    → ◌≡◌ {A = Facts} (record { released = a; by_hand = c; faulty = e }) (record { released = b; by_hand = d; faulty = f })
same_facts a b c d e f p q r = cc

module _ (site : Site) (kept : Retained) (new old : List Done) (x : ℕ) (from : AreFrom x new) where
  -- two ways to tell faults that agree on all words up to the tick give the same facts
  facts_with_later : (one other : ℕ → List Moment → Bool)
      → ((source : ℕ) (y : List Moment) → tick_of y ≤ x → one source y ≡ other source y) → (panel : ℕ) (b : List Moment) → tick_of b ≤ x
      → facts_with site kept (new ++ old) one panel b ≡ facts_with site kept old other panel b
  facts_with_later one other agree panel b by =
      let words = λ (source : ℕ). kept_at site.panels panel source b in
      let in_time = λ (source : ℕ). kept_by x site.panels panel source b by in
      same_facts _ _ _ _ _ _
      (fun_ext (λ zone. released_later site kept new old x from (panel_of_zone site zone) (words (panel_of_zone site zone)) (in_time (panel_of_zone
      site zone)) zone))
      (fun_ext (λ zone. by_hand_later site kept new old x from (panel_of_zone site zone) (words (panel_of_zone site zone)) (in_time (panel_of_zone
      site zone)) zone)) (fun_ext (λ source. agree source (words source) (in_time source)))

  -- by facts that agree up to the tick, the same outputs go on
  goes_stays : (facts others : ℕ → List Moment → Facts) → ((panel : ℕ) (b : List Moment) → tick_of b ≤ x → facts panel b ≡ others panel b)
      → (output : ℕ) (b : List Moment) → tick_of b ≤ x
      → goes_on site facts kept (new ++ old) output b ≡ goes_on site others kept old output b
  goes_stays facts others agree output b by =
      goes_by_facts (IsUpTo x) (up_to_tick x) site facts others agree kept (new ++ old) output b by
      ∙ goes_later site others kept new old x from output b by

  -- and the same faults stand
  faults_with_later : (one other : ℕ → List Moment → Bool)
      → ((source : ℕ) (y : List Moment) → tick_of y ≤ x → one source y ≡ other source y) → (panel : ℕ) (m : List Moment) → tick_of m ≤ x
      → faults_with site kept (new ++ old) one panel m ≡ faults_with site kept old other panel m
  faults_with_later one other agree panel m by =
      let outside =
      outside_by_outputs (IsUpTo x) (up_to_tick x) site (facts_with site kept (new ++ old) one) (facts_with site kept old other) kept (new ++ old) old
      (goes_stays (facts_with site kept (new ++ old) one) (facts_with site kept old other) (facts_with_later one other agree))
      (λ source. heard site.panels panel source m) (λ link. is_up link m) panel m (then_earlier (IsUpTo x) (up_to_tick x) m by) in
      ap (λ missing. with_missing missing (outside_at site (facts_with site kept (new ++ old) one) kept (new ++ old)
      (λ source. heard site.panels panel source m) (λ link. is_up link m) panel m)) (missing_later site kept new old x from panel m by)
      ∙ ap (with_missing (points_where site panel (λ place. is_missing (held_answers site panel m) place && not (is_off site kept old place (tick_of m)))))
      outside

  tells_to_later : (bound panel : ℕ) (m : List Moment) → tick_of m ≤ x
      → tells_to site kept (new ++ old) bound panel m ≡ tells_to site kept old bound panel m
  unfolding tells_to
  tells_to_later bound panel [] by = refl
  tells_to_later zero panel (moment ∷ before) by = refl
  tells_to_later (suc bound) panel (moment ∷ before) by =
      ap has_fault (faults_with_later (tells_to site kept (new ++ old) bound) (tells_to site kept old bound)
      (λ source y s. tells_to_later bound source y s) panel (moment ∷ before) by)

  pub told_later : (panel : ℕ) (m : List Moment) → tick_of m ≤ x
      → tells_fault site kept (new ++ old) panel m ≡ tells_fault site kept old panel m
  told_later panel m by = tells_to_later (length m) panel m by

  pub facts_later : (panel : ℕ) (m : List Moment) → tick_of m ≤ x → facts_of site kept (new ++ old) panel m ≡ facts_of site kept old panel m
  facts_later panel m by = facts_with_later (tells_fault site kept (new ++ old)) (tells_fault site kept old) told_later panel m by

  pub latest_facts_later : (none : Facts) (panel : ℕ) (m : List Moment) → tick_of m ≤ x
      → made_latest none panel Effect (facts_of site kept (new ++ old) panel) m ≡ made_latest none panel Effect (facts_of site kept old panel) m
  latest_facts_later none panel m by =
      made_stays (IsUpTo x) (up_to_tick x) none panel Effect (facts_of site kept (new ++ old) panel) (facts_of site kept old panel)
      (facts_later panel) m (then_earlier (IsUpTo x) (up_to_tick x) m by)

  pub released_at_effect_later : (panel : ℕ) (m : List Moment) → tick_of m ≤ x
      → released_at_effect site (facts_of site kept (new ++ old)) panel m ≡ released_at_effect site (facts_of site kept old) panel m
  released_at_effect_later panel m by =
      released_by_facts (IsUpTo x) (up_to_tick x) site (facts_of site kept (new ++ old)) (facts_of site kept old) facts_later panel m
      (then_earlier (IsUpTo x) (up_to_tick x) m by)

  -- a turn of Drive
  pub goes_on_later : (output : ℕ) (b : List Moment) → tick_of b ≤ x
      → goes_on site (facts_of site kept (new ++ old)) kept (new ++ old) output b ≡ goes_on site (facts_of site kept old) kept old output b
  goes_on_later output b by = goes_stays (facts_of site kept (new ++ old)) (facts_of site kept old) facts_later output b by

  pub on_later : (output : ℕ) (m : List Moment) → tick_of m ≤ x
      → is_on site (facts_of site kept (new ++ old)) kept (new ++ old) output m ≡ is_on site (facts_of site kept old) kept old output m
  on_later output m by =
      on_by_outputs (IsUpTo x) (up_to_tick x) site (facts_of site kept (new ++ old)) (facts_of site kept old) kept (new ++ old) old goes_on_later
      output m (then_earlier (IsUpTo x) (up_to_tick x) m by)

  pub on_run_later : (output : ℕ) (m : List Moment) → tick_of m ≤ x
      → on_run site (facts_of site kept (new ++ old)) kept (new ++ old) output m ≡ on_run site (facts_of site kept old) kept old output m
  on_run_later output m by =
      on_run_by_outputs (IsUpTo x) (up_to_tick x) site (facts_of site kept (new ++ old)) (facts_of site kept old) kept (new ++ old) old goes_on_later
      output m (then_earlier (IsUpTo x) (up_to_tick x) m by)

  pub confirmed_later : (output : ℕ) (m : List Moment) → tick_of m ≤ x
      → is_confirmed_out site (facts_of site kept (new ++ old)) kept (new ++ old) output m
      ≡ is_confirmed_out site (facts_of site kept old) kept old output m
  confirmed_later output m by =
      confirmed_by_outputs (IsUpTo x) (up_to_tick x) site (facts_of site kept (new ++ old)) (facts_of site kept old) kept (new ++ old) old
      goes_on_later output m (then_earlier (IsUpTo x) (up_to_tick x) m by)

  pub unconfirmed_later : (output : ℕ) (m : List Moment) → tick_of m ≤ x
      → is_unconfirmed site (facts_of site kept (new ++ old)) kept (new ++ old) output m
      ≡ is_unconfirmed site (facts_of site kept old) kept old output m
  unconfirmed_later output m by =
      unconfirmed_by_outputs (IsUpTo x) (up_to_tick x) site (facts_of site kept (new ++ old)) (facts_of site kept old) kept (new ++ old) old
      goes_on_later output m (then_earlier (IsUpTo x) (up_to_tick x) m by)

  -- faults
  pub outside_later : (stamps : ℕ → ℕ) (up : ℕ → Bool) (panel : ℕ) (m : List Moment) → tick_of m ≤ x
      → outside_at site (facts_of site kept (new ++ old)) kept (new ++ old) stamps up panel m
      ≡ outside_at site (facts_of site kept old) kept old stamps up panel m
  outside_later stamps up panel m by =
      outside_by_outputs (IsUpTo x) (up_to_tick x) site (facts_of site kept (new ++ old)) (facts_of site kept old) kept (new ++ old) old
      goes_on_later stamps up panel m (then_earlier (IsUpTo x) (up_to_tick x) m by)

  pub standing_faults_later : (panel : ℕ) (m : List Moment) → tick_of m ≤ x
      → faults_with site kept (new ++ old) (tells_fault site kept (new ++ old)) panel m ≡ faults_with site kept old (tells_fault site kept old) panel m
  standing_faults_later panel m by = faults_with_later (tells_fault site kept (new ++ old)) (tells_fault site kept old) told_later panel m by

  pub faults_later : (panel : ℕ) (m : List Moment) → tick_of m ≤ x → faults_of site kept (new ++ old) panel m ≡ faults_of site kept old panel m
  faults_later panel m by = standing_faults_later panel (made_at panel m) (made_by x panel m by)

  -- words
  pub word_later : (panel : ℕ) (m : List Moment) → tick_of m ≤ x
      → word_made site kept (new ++ old) (tells_fault site kept (new ++ old)) panel m ≡ word_made site kept old (tells_fault site kept old) panel m
  word_later panel [] by = refl
  word_later panel (moment ∷ before) by =
      signs_later site kept new old x from panel (moment ∷ before) (tells_fault site kept (new ++ old) panel (moment ∷ before)) by
      ∙ ap (answered_word site kept panel old (held_answers site panel (moment ∷ before)) (tick_of (moment ∷ before)))
      (told_later panel (moment ∷ before) by)

  pub latest_word_later : (panel : ℕ) (m : List Moment) → tick_of m ≤ x
      → latest_word site kept (new ++ old) (tells_fault site kept (new ++ old)) panel m ≡ latest_word site kept old (tells_fault site kept old) panel m
  latest_word_later panel m by = word_later panel (made_at panel m) (made_by x panel m by)

  pub kept_word_later : (panel source : ℕ) (m : List Moment) → tick_of m ≤ x
      → kept_word_of site kept (new ++ old) (tells_fault site kept (new ++ old)) panel source m
      ≡ kept_word_of site kept old (tells_fault site kept old) panel source m
  kept_word_later panel source m by = word_later source (kept_at site.panels panel source m) (kept_by x site.panels panel source m by)

  -- a report on a link is the same call whatever was done
  report_later : (event : Event) (calls : List Call)
      → and_report site kept (new ++ old) (tells_fault site kept (new ++ old)) event calls
      ≡ and_report site kept old (tells_fault site kept old) event calls
  report_later (Link link up) calls = refl
  report_later event calls = refl

  pub ring_later : (m : List Moment) → tick_of m ≤ x
      → ring_calls site kept (new ++ old) (tells_fault site kept (new ++ old)) m ≡ ring_calls site kept old (tells_fault site kept old) m
  ring_later [] by = refl
  ring_later (Began ∷ before) by = ring_later before (omega (arith, by))
  ring_later (Happened event ∷ before) by =
      ap (and_report site kept (new ++ old) (tells_fault site kept (new ++ old)) event) (ring_later before by)
      ∙ report_later event (ring_calls site kept old (tells_fault site kept old) before)
  ring_later (Turned panel LinkTask ∷ before) by =
      ap (λ (own : Word). Took (tick_of before) panel own ∷ ring_calls site kept (new ++ old) (tells_fault site kept (new ++ old)) before)
      (latest_word_later panel before by)
      ∙ ap (λ (calls : List Call). Took (tick_of before) panel (latest_word site kept old (tells_fault site kept old) panel before) ∷ calls)
      (ring_later before by)
  ring_later (Turned panel task ∷ before) by = ring_later before by
  ring_later (Kept failed ∷ before) by = ring_later before by

  -- what the parts that drive outputs are told
  pub requests_later : (panel : ℕ) (m : List Moment) → tick_of m ≤ x
      → requests_at site (facts_of site kept (new ++ old)) panel m ≡ requests_at site (facts_of site kept old) panel m
  requests_later panel m by =
      requests_by_facts (IsUpTo x) (up_to_tick x) site (facts_of site kept (new ++ old)) (facts_of site kept old) facts_later panel m
      (then_earlier (IsUpTo x) (up_to_tick x) m by)

  pub routing_calls_later : (panel : ℕ) (m : List Moment) → tick_of m ≤ x
      → routing_calls site (facts_of site kept (new ++ old)) kept (new ++ old) panel m ≡ routing_calls site (facts_of site kept old) kept old panel m
  routing_calls_later panel m by =
      routing_by_outputs (IsUpTo x) (up_to_tick x) site (facts_of site kept (new ++ old)) (facts_of site kept old) kept (new ++ old) old
      goes_on_later panel m (then_earlier (IsUpTo x) (up_to_tick x) m by)

  pub delay_calls_later : (panel : ℕ) (m : List Moment) → tick_of m ≤ x
      → delay_calls site (facts_of site kept (new ++ old)) (new ++ old) panel m ≡ delay_calls site (facts_of site kept old) old panel m
  delay_calls_later panel m by =
      delays_by_facts (IsUpTo x) (up_to_tick x) site (facts_of site kept (new ++ old)) (facts_of site kept old) facts_later (new ++ old) panel m
      (then_earlier (IsUpTo x) (up_to_tick x) m by)
      ∙ delays_later site (facts_of site kept old) new old x from panel m by

  pub silence_calls_later : (panel : ℕ) (m : List Moment) → tick_of m ≤ x
      → silence_calls site (facts_of site kept (new ++ old)) (new ++ old) panel m ≡ silence_calls site (facts_of site kept old) old panel m
  silence_calls_later panel m by =
      silences_by_facts (IsUpTo x) (up_to_tick x) site (facts_of site kept (new ++ old)) (facts_of site kept old) facts_later (new ++ old) panel m
      (then_earlier (IsUpTo x) (up_to_tick x) m by)
      ∙ silence_later site (facts_of site kept old) new old x from panel m by
