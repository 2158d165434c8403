-- A panel by itself that gets the frames of the ring, and whose links were up, tells the faults that it would tell there.
use Rattle.std.proofs.Common.{◌≡◌, ◌⊎◌, ◌∙◌, ◌+◌, ◌-◌, ◌≤◌, ◌<◌, ◌==◌, ◌&&◌, ◌||◌, not, ℕ, zero, suc, Bool, true, false, List, [], ◌∷◌, length, nat_le, nat_lt, slice_get, Option, Some, None}
use Rattle.std.proofs.Common.{if◌then◌else◌, inl, inr, refl, sym, ap, subst, arith}
use Rattle.std.proofs.Math.Path.{fun_ext}
use Rattle.std.proofs.lemmas.Bool.{eq-eqb, le-leb, lt-ltb, ltb-true, leb-true}
use Rattle.std.proofs.lemmas.Bool.Decides.{eqb_tells}
use Rattle.tick_units.specs.declared.task.Task.TheVariants.{Hold, Link}
use Rattle.site_types.specs.declared.retained.Retained.{Retained}
use Rattle.site_types.specs.declared.site.Site.{Site}
use Rattle.site_types.specs.declared.word.Word.{Word}
use Rattle.site_types.specs.declared.zone.Zone.{Zone}
use Rattle.site_types.specs.Bits.{has_bit}
use Rattle.site_types.specs.Done.{Done}
use Rattle.site_types.specs.Profile.{silent_of}
use Rattle.site_types.specs.Valid.{IsValid}
use Rattle.site_types.proofs.Done.{lt_false, lt_tells}
use Rattle.site_types.proofs.Masks.{mask_same}
use Rattle.site_types.proofs.ValidSites.{zone_at}
use Rattle.coincidence_rules.specs.Places.{zones_where}
use Rattle.coincidence_rules.proofs.ValidWired.{wired_of}
use Rattle.coincidence_rules.proofs.ZoneMasks.{has_bit-zone}
use Rattle.panel_conditions.specs.Answered.{answered_faults}
use Rattle.panel_conditions.specs.Words.{has_fault}
use Rattle.panel_effects.proofs.HeardMasks.{fault_heard, hand_heard, released_heard}
use Rattle.panel_links.specs.Stands.{is_link_of}
use Rattle.panel_links.specs.Words.{left_of, right_of}
use Rattle.panel_rules.specs.Faults.{is_unconfirmed, links_down, outside_at, outside_with, silent_panels}
use Rattle.panel_rules.specs.Kept.{heard, kept_at}
use Rattle.panel_rules.specs.Markers.{Facts}
use Rattle.panel_rules.specs.Moments.{Moment, Turned, IsPanel, IsPast, IsRun, has_turned, present, tick_of, latest_turn}
use Rattle.panel_rules.specs.Operations.{operations}
use Rattle.panel_rules.specs.Outputs.{outputs_where, panel_of_output}
use Rattle.panel_rules.specs.Run.{facts_of, faults_with, tells_fault, tells_to}
use Rattle.panel_rules.specs.States.{is_up}
use Rattle.panel_rules.specs.Words.{kept_word_of, word_made}
use Rattle.panel_rules.specs.Zones.{held_answers, panel_of}
use Rattle.panel_rules.proofs.FaultsTold.{past_short, told_where}
use Rattle.panel_rules.proofs.KeptWords.{IsMade, in_turn, kept_is, nothing}
use Rattle.panel_rules.proofs.RingWords.{stamp_is}
use Rattle.panel_rules.proofs.Turns.{owed_turn, past_on, run_tail, turn_lag}
use Rattle.later_operations.proofs.Earlier.{then_earlier}
use Rattle.output_drive.proofs.OutputBits.{where_same}
use Rattle.kept_words.specs.Arrivals.{joined_by, last_from}
use Rattle.node_rules.specs.Handed.{faults_at_word, handed_facts, mask_has_zone, outside_by_words, own_kept, own_tells, own_tells_to, words_held}
use Rattle.node_rules.specs.Histories.{NodeMoment, befallen, frames_in}
use Rattle.node_rules.specs.Nodes.{node_up, node_words}
use Rattle.node_rules.specs.RingLaws.{HadLinksUp, OwnWordOfTheRing}
use Rattle.node_rules.specs.RingHistories.{ring_history}
use Rattle.node_rules.proofs.OwnFaults.{told_where_own}
use Rattle.node_rules.proofs.OwnOutputs.{unconfirmed_own}
use Rattle.node_rules.proofs.OwnWords.{own_at}
use Rattle.node_rules.proofs.RingFrames.{same_moments}
use Rattle.node_rules.proofs.RingParts.{last_frame, none_of, part_then, past_tail, words_then}

same_facts : (a b c d e f : ℕ → Bool) → a ≡ b → c ≡ d → e ≡ f
    → ◌≡◌ {A = Facts} (record { released = a; by_hand = c; faulty = e }) (record { released = b; by_hand = d; faulty = f })
same_facts a b c d e f p q r = cc

nothing_told : (site : Site) (kept : Retained) (done : List Done) (source : ℕ) → tells_fault site kept done source [] ≡ false
unfolding tells_to
nothing_told site kept done source = refl

nothing_own : (site : Site) (kept : Retained) (done : List Done) (panel : ℕ) (handed : List Moment → ℕ → Word) (up : List Moment → ℕ → Bool)
    → own_tells site kept done panel handed up [] ≡ false
unfolding own_tells_to
nothing_own site kept done panel handed up = refl

module _ (site : Site) (kept : Retained) (done : List Done) (panel : ℕ) (moments : List Moment) (valid : IsValid site) (own : IsPanel site.panels panel)
    (run : IsRun site.panels moments) (ups : HadLinksUp site panel moments) where
  abbrev pub told : ℕ → List Moment → Bool
  told = tells_fault site kept done

  abbrev pub words : List Moment → ℕ → Word
  words = node_words site panel (ring_history site kept done told panel moments)

  abbrev pub up : List Moment → ℕ → Bool
  up = node_up site panel (ring_history site kept done told panel moments)

  abbrev pub own_told : List Moment → Bool
  own_told = own_tells site kept done panel words up

  -- an earlier part of the run, of at most so many moments
  pub record IsBehind (n : ℕ) (before : List Moment) : Type 0 where
    pub moment : Moment
    pub past : IsPast (moment ∷ before) moments
    pub few : length before ≤ n

  pub behind_tail : (n : ℕ) (moment : Moment) (before : List Moment) → IsBehind n (moment ∷ before) → IsBehind n before
  behind_tail n moment before h = record {
    moment = moment;
    past = past_tail h.moment (moment ∷ before) moments h.past;
    few = let few = h.few in omega (arith, few);
  }

  -- words up to so many moments tell of faults what they would tell in the ring
  abbrev pub TellAlike : ℕ → Type 0
  TellAlike n = (word : List Moment) → IsMade panel word → IsPast word moments → length word ≤ n → own_told word ≡ told panel word

  -- ---- the words that are held, and the facts

  own_alike : (n : ℕ) → TellAlike n → (before : List Moment) → IsPast before moments → length before ≤ n
      → own_kept site kept done panel words up own_told before ≡ kept_word_of site kept done told panel panel before
  own_alike n alike before behind few =
      let word = kept_is site.panels panel panel before in
      let past = past_on (kept_at site.panels panel panel before) before moments word.past behind in
      let short = past_short (kept_at site.panels panel panel before) before word.past in
      ap (word_made site kept done (λ source. own_told) panel) (sym (own_at site.panels panel before))
      ∙ with_told (kept_at site.panels panel panel before)
      (alike (kept_at site.panels panel panel before) word.made past (omega (arith, short, few)))
    where
      with_told : (word : List Moment) → own_told word ≡ told panel word
          → word_made site kept done (λ source. own_told) panel word ≡ word_made site kept done told panel word
      with_told [] e = refl
      with_told (turn ∷ before) e = rw e refl

  held_alike : (n : ℕ) → TellAlike n → (before : List Moment) → IsBehind n before → (source : ℕ) → IsPanel site.panels source
      → words_held site kept done panel words up own_told before source ≡ kept_word_of site kept done told panel source before
  held_alike n alike before h source member =
      elim (eqb_tells source panel) [
        | inl t ↦ rw t.0 (own_alike n alike before (past_tail h.moment before moments h.past) h.few ∙ ap (λ p. kept_word_of site kept done told panel p before) (sym t.1))
        | inr t ↦ rw t.0 (words_then site kept done told panel own source member t.1 h.moment before moments h.past)
      ]

  zone_alike : (mask : Word → ℕ) (test : ℕ → Bool) (n : ℕ) → TellAlike n → (before : List Moment) → IsBehind n before
      → ((source : ℕ) → mask (kept_word_of site kept done told panel source before) ≡ zones_where site source test)
      → (zone : ℕ) (o : Option Zone) → slice_get site.zones zone ≡ o → (o ≡ None → false ≡ test zone)
      → mask_has_zone (mask (words_held site kept done panel words up own_told before (panel_of o))) o ≡ test zone
  zone_alike mask test n alike before h heard zone None is none = none refl
  zone_alike mask test n alike before h heard zone (Some plan) is none =
      ap (λ word. has_bit (mask word) (plan.number - 1)) (held_alike n alike before h plan.panel (zone_at site valid zone plan is).panel)
      ∙ ap (λ m. has_bit m (plan.number - 1)) (heard plan.panel)
      ∙ has_bit-zone site test zone plan (wired_of site valid) is

  not_zero : IsPanel site.panels 0 → ⊥
  not_zero p = (let one = p.0 in omega (arith, one))

  pub facts_alike : (n : ℕ) → TellAlike n → (q : ℕ) (before : List Moment) → IsBehind n before
      → handed_facts site kept done panel words up q before ≡ facts_of site kept done panel before
  facts_alike n alike q before h =
      same_facts _ _ _ _ _ _
      (fun_ext (λ zone. zone_alike (λ w. w.released) (facts_of site kept done panel before).released n alike before h
      (λ source. released_heard site kept done panel before source) zone (slice_get site.zones zone) refl
      (λ none. rw (ap panel_of none, none_of site.panels 0 not_zero before panel own) refl)))
      (fun_ext (λ zone. zone_alike (λ w. w.manual) (facts_of site kept done panel before).by_hand n alike before h
      (λ source. hand_heard site kept done panel before source) zone (slice_get site.zones zone) refl
      (λ none. rw (ap panel_of none, none_of site.panels 0 not_zero before panel own) refl)))
      (fun_ext (λ source. faulty_alike source (nat_le 1 source) (nat_le source site.panels) refl refl))
    where
      none_told : (source : ℕ) → (IsPanel site.panels source → ⊥) → false ≡ (facts_of site kept done panel before).faulty source
      none_told source none = rw (none_of site.panels source none before panel own) (sym (nothing_told site kept done source))

      faulty_alike : (source : ℕ) (low high : Bool) → nat_le 1 source ≡ low → nat_le source site.panels ≡ high
          → ((low && high) && (words_held site kept done panel words up own_told before source).fault) ≡ (facts_of site kept done panel before).faulty source
      faulty_alike source true true a b =
          ap (λ (w : Word). w.fault) (held_alike n alike before h source (leb-true 1 source a, leb-true source site.panels b))
          ∙ fault_heard site kept done panel before source
      faulty_alike source true false a b = none_told source (λ p. absurd (let no_way : true ≡ false = sym (le-leb source site.panels p.1) ∙ b in cc))
      faulty_alike source false high a b = none_told source (λ p. absurd (let no_way : true ≡ false = sym (le-leb 1 source p.0) ∙ a in cc))

  -- ---- what stands besides missing points

  stamps_alike : (n : ℕ) → TellAlike n → (before : List Moment) → IsBehind n before
      → silent_panels site (λ source. (words_held site kept done panel words up own_told before source).stamp.0) (tick_of before)
      ≡ silent_panels site (λ source. heard site.panels panel source before) (tick_of before)
  stamps_alike n alike before h =
      mask_same 8 _ _ (λ k small. elim (lt_tells k site.panels) [
        | inl t ↦ (let less = t.1 in
            ap (λ stamp. nat_lt k site.panels && nat_lt (stamp + silent_of site.format) (tick_of before))
            (ap (λ (w : Word). w.stamp.0) (held_alike n alike before h (k + 1) (omega arith, omega (arith, less)))
            ∙ stamp_is site kept done told (k + 1) (kept_at site.panels panel (k + 1) before)))
        | inr t ↦ rw t.0 refl
      ])

  -- a link of the panel isn't down
  came_lately : (latest owed tick limit : ℕ) → latest + owed ≡ tick → owed ≤ 1 → 1 ≤ limit → nat_lt limit (tick - latest) ≡ false
  came_lately latest owed tick limit is one some = lt_false limit (tick - latest) (omega (arith, is, one, some))

  link_up : (n : ℕ) (before : List Moment) → IsBehind n before → (link : ℕ) → is_link_of site.panels panel link ≡ true → up before link ≡ true
  link_up n before h link is =
      let behind = past_tail h.moment before moments h.past in
      let several : 1 < site.panels = ltb-true 1 site.panels (first (nat_lt 1 site.panels) ((link == panel) || (link == left_of site.panels panel)) is) in
      let came = last_frame site kept done told panel several (joined_by site.panels panel link) (side (link == panel)) before
      (λ past p. (let there = past_on past before moments p behind in (ups past panel there (own_link several), ups past (left_of site.panels panel) there (left_link several)))) in
      let came_by = ap (λ part. last_from (joined_by site.panels panel link) (frames_in part)) (part_then site kept done told panel h.moment before moments h.past) ∙ came in
      let lag = turn_lag site.panels panel Link before own tt (run_tail site.panels before moments behind run) in
      let format = valid.forms.format.0 in
      let late = came_lately (latest_turn panel Link before) (owed_turn (has_turned panel Link before)) (tick_of before) (silent_of site.format) lag
      (owed_few (has_turned panel Link before)) (omega (arith, format)) in
      ap (λ last. not (is_link_of site.panels panel link && nat_lt (silent_of site.format) (tick_of before - last))) came_by
      ∙ ap (λ b. not (is_link_of site.panels panel link && b)) late ∙ not_and (is_link_of site.panels panel link)
    where
      first : (a b : Bool) → (a && b) ≡ true → a ≡ true
      first true b e = refl
      first false b e = e

      not_and : (a : Bool) → not (a && false) ≡ true
      not_and true = refl
      not_and false = refl

      side : (b : Bool) → ((if b then right_of site.panels panel else left_of site.panels panel) ≡ left_of site.panels panel)
          ⊎ ((if b then right_of site.panels panel else left_of site.panels panel) ≡ right_of site.panels panel)
      side true = inr refl
      side false = inl refl

      or_same : (a : Bool) → (a || true) ≡ true
      or_same true = refl
      or_same false = refl

      own_link : 1 < site.panels → is_link_of site.panels panel panel ≡ true
      own_link several = rw (lt-ltb 1 site.panels several, eq-eqb panel panel refl) refl

      left_link : 1 < site.panels → is_link_of site.panels panel (left_of site.panels panel) ≡ true
      left_link several =
          rw (lt-ltb 1 site.panels several, eq-eqb (left_of site.panels panel) (left_of site.panels panel) refl) (or_same (left_of site.panels panel == panel))

      owed_few : (b : Bool) → owed_turn b ≤ 1
      owed_few true = omega arith
      owed_few false = omega arith

  links_alike : (n : ℕ) (before : List Moment) → IsBehind n before → links_down site panel (up before) ≡ links_down site panel (λ link. is_up link before)
  links_alike n before h =
      mask_same 8 _ _ (λ k small. by_link k (is_link_of site.panels panel (k + 1)) refl)
    where
      by_link : (k : ℕ) (b : Bool) → is_link_of site.panels panel (k + 1) ≡ b → (b && not (up before (k + 1))) ≡ (b && not (is_up (k + 1) before))
      by_link k true is = ap not (link_up n before h (k + 1) is ∙ sym (ups before (k + 1) (past_tail h.moment before moments h.past) is))
      by_link k false isnt = refl

  outputs_alike : (n : ℕ) → TellAlike n → (before : List Moment) → IsBehind n before
      → outputs_where site panel (λ output. is_unconfirmed site (handed_facts site kept done panel words up) kept done output before)
      ≡ outputs_where site panel (λ output. is_unconfirmed site (facts_of site kept done) kept done output before)
  outputs_alike n alike before h =
      where_same site panel _ _ (λ output of.
      unconfirmed_own (IsBehind n) (behind_tail n) site (handed_facts site kept done panel words up) (facts_of site kept done) output
      (λ b behind. facts_alike n alike (panel_of_output site output) b behind ∙ ap (λ p. facts_of site kept done p b) (sym of))
      kept done before (then_earlier (IsBehind n) (behind_tail n) before h))

  outside_alike : (n : ℕ) → TellAlike n → (before : List Moment) → IsBehind n before
      → outside_by_words site kept done panel words up own_told before
      ≡ outside_at site (facts_of site kept done) kept done (λ source. heard site.panels panel source before) (λ link. is_up link before) panel before
  outside_alike n alike before h =
      ap (λ mask. outside_with site panel before mask (links_down site panel (up before))
      (outputs_where site panel (λ output. is_unconfirmed site (handed_facts site kept done panel words up) kept done output before)))
      (stamps_alike n alike before h)
      ∙ ap (λ mask. outside_with site panel before (silent_panels site (λ source. heard site.panels panel source before) (tick_of before)) mask
      (outputs_where site panel (λ output. is_unconfirmed site (handed_facts site kept done panel words up) kept done output before)))
      (links_alike n before h)
      ∙ ap (λ mask. outside_with site panel before (silent_panels site (λ source. heard site.panels panel source before) (tick_of before))
      (links_down site panel (λ link. is_up link before)) mask) (outputs_alike n alike before h)

  -- ---- faults

  pub faults_alike : (n : ℕ) → TellAlike n → (before : List Moment) → IsPast (Turned panel Hold ∷ before) moments → length before ≤ n
      → faults_at_word site kept done panel words up own_told (Turned panel Hold ∷ before)
      ≡ faults_with site kept done told panel (Turned panel Hold ∷ before)
  faults_alike n alike before past few =
      ap (answered_faults site kept panel done (held_answers site panel (Turned panel Hold ∷ before)) (tick_of before))
      (outside_alike n alike before (record { moment = Turned panel Hold; past = past; few = few }))

  tell_more : (n : ℕ) → TellAlike n → TellAlike (suc n)
  tell_more n alike word (nothing e) past few =
      ap own_told e ∙ nothing_own site kept done panel words up ∙ sym (ap (told panel) e ∙ nothing_told site kept done panel)
  tell_more n alike word (in_turn before e) past few =
      let short : length before ≤ n = (let same = ap (λ (w : List Moment). length w) e in omega (arith, same, few)) in
      ap own_told e
      ∙ told_where_own site kept done panel words up (Turned panel Hold) before
      ∙ ap has_fault (faults_alike n alike before (subst (λ w. IsPast w moments) e past) short)
      ∙ sym (ap (told panel) e ∙ told_where site kept done panel (Turned panel Hold) before)

  pub tell_all : (n : ℕ) → TellAlike n
  tell_all zero word (nothing e) past few =
      ap own_told e ∙ nothing_own site kept done panel words up ∙ sym (ap (told panel) e ∙ nothing_told site kept done panel)
  tell_all zero word (in_turn before e) past few = absurd (let same = ap (λ (w : List Moment). length w) e in omega (arith, same, few))
  tell_all (suc n) word made past few = tell_more n (tell_all n) word made past few

pub own_word_in_ring : OwnWordOfTheRing
own_word_in_ring site kept panel before valid own run ups =
    let done = (operations site kept before).done in
    let history = ring_history site kept done (tells_fault site kept done) panel before in
    let same = same_moments site kept done (tells_fault site kept done) panel before in
    rw (eq-eqb panel panel refl)
    (by_same history (operations site kept (befallen history)).done (befallen history) (ap (λ ms. (operations site kept ms).done) same) same
    (own_alike site kept done panel before valid own run ups (length before) (tell_all site kept done panel before valid own run ups (length before))
    before present (omega arith)))
  where
    word_by : List NodeMoment → List Done → List Moment → Word
    word_by history done moments =
        own_kept site kept done panel (node_words site panel history) (node_up site panel history)
        (own_tells site kept done panel (node_words site panel history) (node_up site panel history)) moments

    by_same : (history : List NodeMoment) (more : List Done) (moments : List Moment) → more ≡ (operations site kept before).done → moments ≡ before
        → word_by history (operations site kept before).done before
        ≡ kept_word_of site kept (operations site kept before).done (tells_fault site kept (operations site kept before).done) panel panel before
        → word_by history more moments
        ≡ kept_word_of site kept (operations site kept before).done (tells_fault site kept (operations site kept before).done) panel panel before
    by_same history more moments d m e = ap (λ ds. word_by history ds moments) d ∙ ap (word_by history (operations site kept before).done) m ∙ e
