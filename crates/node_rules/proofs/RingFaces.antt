-- A panel by itself that gets the frames of the ring, and whose links were up, shows what it would show there.
use Rattle.std.proofs.Common.{◌≡◌, ◌∙◌, ◌+◌, ◌-◌, ◌*◌, ◌/◌, ◌%◌, ◌≤◌, ◌<◌, ◌==◌, ◌&&◌, ℕ, zero, suc, Bool, true, false, List, [], ◌∷◌, length, map, nat_lt, slice_index_or, if◌then◌else◌, inl}
use Rattle.std.proofs.Common.{inr, refl, sym, ap, subst, arith}
use Rattle.std.specs.List.{range_with_len}
use Rattle.std.proofs.lemmas.Bool.{cases_Bool, eqb-true}
use Rattle.std.proofs.lemmas.Bool.Decides.{eqb_tells, leb_tells}
use Rattle.tick_units.specs.declared.task.Task.TheVariants.{Poll, Decide, Supply, Desk, Hold, Link, Effect, Drive, Keep}
use Rattle.site_types.specs.declared.buzzer.Buzzer.{Buzzer}
use Rattle.site_types.specs.declared.fault_set.FaultSet.{FaultSet}
use Rattle.site_types.specs.declared.retained.Retained.{Retained}
use Rattle.site_types.specs.declared.site.Site.{Site}
use Rattle.site_types.specs.declared.word.Word.{Word}
use Rattle.site_types.specs.Done.{Done, muted_before}
use Rattle.site_types.specs.Valid.{IsValid}
use Rattle.site_types.specs.Words.{empty_word}
use Rattle.site_types.proofs.Done.{lt_false}
use Rattle.face_text.specs.declared.face.Face.{Face}
use Rattle.panel_bridges.proofs.NoFaultsYet.{no_faults_yet}
use Rattle.panel_conditions.specs.Shown.{is_news, sounds}
use Rattle.panel_links.specs.declared.frame.Frame.{Frame}
use Rattle.panel_links.specs.Frames.{group_words, word_in}
use Rattle.panel_links.specs.Kept.{newest}
use Rattle.panel_links.specs.Words.{group_of, left_of, right_of}
use Rattle.panel_rules.specs.Batches.{kept_after}
use Rattle.panel_rules.specs.Faces.{buzzer_of, counter_in, face_with, last_news, shown_word, shows_news, with_settings}
use Rattle.panel_rules.specs.Kept.{made_at}
use Rattle.panel_rules.specs.Moments.{Moment, Began, Happened, Turned, Kept, IsPanel, IsPast, IsRun, latest_turn, present, tick_of}
use Rattle.panel_rules.specs.Operations.{operations}
use Rattle.panel_rules.specs.Outputs.{is_confirmed_out, is_on, outputs_where, panel_of_output}
use Rattle.panel_rules.specs.Run.{facts_of, faults_of, faults_with, tells_fault}
use Rattle.panel_rules.specs.States.{is_up}
use Rattle.panel_rules.specs.Words.{kept_word_of, latest_word, word_made}
use Rattle.panel_rules.proofs.KeptWords.{IsMade, in_turn, made_is, nothing}
use Rattle.panel_rules.proofs.Turns.{past_on}
use Rattle.later_operations.proofs.Earlier.{Earlier}
use Rattle.output_drive.proofs.OutputBits.{where_same}
use Rattle.kept_words.specs.Arrivals.{framed_word, has_word_of, word_kept}
use Rattle.node_rules.specs.Handed.{faults_at_word, handed_facts, handed_faults, handed_word, own_tells}
use Rattle.node_rules.specs.Histories.{Befell, NodeMoment, frames_in}
use Rattle.node_rules.specs.Nodes.{node_up, node_words}
use Rattle.node_rules.specs.RingHistories.{and_frame, and_ring_frames, ring_frame, ring_history}
use Rattle.node_rules.specs.RingLaws.{FaceOfTheRing, HadLinksUp}
use Rattle.node_rules.specs.Shown.{handed_buzzer, handed_face, handed_news, tells_news, word_on_face}
use Rattle.node_rules.proofs.OwnOutputs.{confirmed_own, on_own}
use Rattle.node_rules.proofs.RingFaults.{IsBehind, behind_tail, facts_alike, faults_alike, tell_all, words}
use Rattle.node_rules.proofs.RingFrames.{others_kept, same_moments}
use Rattle.node_rules.proofs.RingParts.{none_of, past_tail}

-- ---- words of panels that the ring hasn't

module _ (site : Site) (kept : Retained) (done : List Done) (tells : ℕ → List Moment → Bool) (panel source : ℕ) (beyond : site.panels < source) where
  none_there : (group place : ℕ) (words : ℕ → Word) → (source - 1) / 4 ≡ group → (source - 1) % 4 ≡ place → word_in site.panels group words place ≡ empty_word
  none_there group place words in_group at =
      elim (leb_tells (4 * group + place + 1) site.panels) [
        | inl t ↦ absurd (let low = t.1 in omega (arith, low, in_group, at, beyond))
        | inr t ↦ rw t.0 refl
      ]

  none_framed : (group : ℕ) (words : ℕ → Word) → (source - 1) / 4 ≡ group
      → slice_index_or (group_words site.panels group words) ((source - 1) % 4) empty_word ≡ empty_word
  none_framed group words in_group = by_place ((source - 1) % 4) refl
    where
      by_place : (place : ℕ) → (source - 1) % 4 ≡ place → slice_index_or (group_words site.panels group words) place empty_word ≡ empty_word
      by_place zero at = none_there group 0 words in_group at
      by_place (suc zero) at = none_there group 1 words in_group at
      by_place (suc (suc zero)) at = none_there group 2 words in_group at
      by_place (suc (suc (suc zero))) at = none_there group 3 words in_group at
      by_place (suc (suc (suc (suc place)))) at = absurd (omega (arith, at))

  none_newer : (word : Word) → newest word empty_word ≡ word
  none_newer word = rw (lt_false word.stamp.0 0 (omega arith)) refl

  after_none : (comes : Bool) (neighbour : ℕ) (before : List Moment) (history : List NodeMoment) → word_kept panel source (frames_in history) ≡ empty_word
      → word_kept panel source (frames_in (and_frame comes (ring_frame site kept done tells panel neighbour before) history)) ≡ empty_word
  after_none false neighbour before history h = h
  after_none true neighbour before history h =
      elim (source == panel) as (λ b. (if b then word_kept panel source (frames_in history)
      else if has_word_of source frame then newest (word_kept panel source (frames_in history)) (framed_word source frame)
      else word_kept panel source (frames_in history)) ≡ empty_word) [
        | true ↦ h
        | false ↦ elim (cases_Bool (has_word_of source frame)) [
          | inl has ↦ rw has
              (ap (newest (word_kept panel source (frames_in history)))
              (none_framed (group_of site.panels (tick_of before)) (λ s. kept_word_of site kept done tells neighbour s before)
              (eqb-true ((source - 1) / 4) (group_of site.panels (tick_of before)) has))
              ∙ none_newer (word_kept panel source (frames_in history)) ∙ h)
          | inr hasnt ↦ rw hasnt h
        ]
      ]
    where
      frame : Frame
      frame = ring_frame site kept done tells panel neighbour before

  pub none_kept : (before : List Moment) → word_kept panel source (frames_in (ring_history site kept done tells panel before)) ≡ empty_word
  none_kept [] = refl
  none_kept (Began ∷ before) = none_kept before
  none_kept (Happened event ∷ before) = none_kept before
  none_kept (Turned other Link ∷ before) =
      elim (other == panel) as (λ b. word_kept panel source (frames_in (if b then and_ring_frames site kept done tells panel before
      (Befell (Turned other Link) ∷ ring_history site kept done tells panel before) else Befell (Turned other Link) ∷ ring_history site kept done tells panel before)) ≡ empty_word) [
        | true ↦ after_none (nat_lt 1 site.panels && is_up panel before) (right_of site.panels panel) before _
            (after_none (nat_lt 1 site.panels && is_up (left_of site.panels panel) before) (left_of site.panels panel) before _ (none_kept before))
        | false ↦ none_kept before
      ]
  none_kept (Turned other Poll ∷ before) = none_kept before
  none_kept (Turned other Decide ∷ before) = none_kept before
  none_kept (Turned other Supply ∷ before) = none_kept before
  none_kept (Turned other Desk ∷ before) = none_kept before
  none_kept (Turned other Hold ∷ before) = none_kept before
  none_kept (Turned other Effect ∷ before) = none_kept before
  none_kept (Turned other Drive ∷ before) = none_kept before
  none_kept (Turned other Keep ∷ before) = none_kept before
  none_kept (Kept failed ∷ before) = none_kept before

-- ---- lists by numbers

cons_alike : (x y : ℕ) (xs ys : List ℕ) → x ≡ y → xs ≡ ys → ◌≡◌ {A = List ℕ} (x ∷ xs) (y ∷ ys)
cons_alike x y xs ys p q = cc

map_alike : (f g : ℕ → ℕ) (from count : ℕ) → ((k : ℕ) → from ≤ k → k < from + count → f k ≡ g k)
    → map f (range_with_len from count) ≡ map g (range_with_len from count)
map_alike f g from zero same = refl
map_alike f g from (suc count) same =
    cons_alike (f from) (g from) (map f (range_with_len (from + 1) count)) (map g (range_with_len (from + 1) count)) (same from (omega arith) (omega arith))
    (map_alike f g (from + 1) count (λ k low high. same k (omega (arith, low)) (omega (arith, high))))

-- ---- what is shown

module _ (site : Site) (kept : Retained) (done : List Done) (panel : ℕ) (moments : List Moment) (valid : IsValid site) (own : IsPanel site.panels panel)
    (run : IsRun site.panels moments) (ups : HadLinksUp site panel moments) where
  abbrev tells : ℕ → List Moment → Bool
  tells = tells_fault site kept done

  abbrev history : List NodeMoment
  history = ring_history site kept done tells panel moments

  abbrev handed : List Moment → ℕ → Word
  handed = node_words site panel history

  abbrev links : List Moment → ℕ → Bool
  links = node_up site panel history

  word_alike : (word : List Moment) → IsMade panel word → IsPast word moments
      → word_made site kept done (λ source. own_tells site kept done panel handed links) panel word ≡ word_made site kept done tells panel word
  word_alike [] made past = refl
  word_alike (turn ∷ before) made past =
      rw (tell_all site kept done panel moments valid own run ups (length (turn ∷ before)) (turn ∷ before) made past (omega arith)) refl

  latest_alike : (before : List Moment) → IsPast before moments → handed_word site kept done panel handed links before ≡ latest_word site kept done tells panel before
  latest_alike before past =
      let word = made_is panel before in
      word_alike (made_at panel before) word.made (past_on (made_at panel before) before moments word.past past)

  faults_by : (word : List Moment) → IsMade panel word → IsPast word moments
      → faults_at_word site kept done panel handed links (own_tells site kept done panel handed links) word
      ≡ faults_with site kept done tells panel word
  faults_by word (nothing e) past =
      ap (faults_at_word site kept done panel handed links (own_tells site kept done panel handed links)) e
      ∙ no_faults_yet site kept done panel ∙ ap (faults_with site kept done tells panel) (sym e)
  faults_by word (in_turn before e) past =
      ap (faults_at_word site kept done panel handed links (own_tells site kept done panel handed links)) e
      ∙ faults_alike site kept done panel moments valid own run ups (length before) (tell_all site kept done panel moments valid own run ups (length before)) before
      (subst (λ w. IsPast w moments) e past) (omega arith)
      ∙ ap (faults_with site kept done tells panel) (sym e)

  faults_shown : (before : List Moment) → IsPast before moments → handed_faults site kept done panel handed links before ≡ faults_of site kept done panel before
  faults_shown before past =
      let word = made_is panel before in
      faults_by (made_at panel before) word.made (past_on (made_at panel before) before moments word.past past)

  -- ---- the buzzer

  news_alike : (word word' earlier earlier' : Word) (faults faults' past past' : FaultSet) → word ≡ word' → faults ≡ faults' → earlier ≡ earlier'
      → past ≡ past' → is_news word faults earlier past ≡ is_news word' faults' earlier' past'
  news_alike word word' earlier earlier' faults faults' past past' a b c d = cc

  told_news : (before : List Moment) → IsPast (Turned panel Hold ∷ before) moments
      → tells_news site kept done panel handed links before ≡ shows_news site kept done panel before
  told_news before past =
      let behind = past_tail (Turned panel Hold) before moments past in
      news_alike _ _ _ _ _ _ _ _ (latest_alike (Turned panel Hold ∷ before) past) (faults_shown (Turned panel Hold ∷ before) past)
      (latest_alike before behind) (faults_shown before behind)

  news_same : (before : List Moment) → IsPast before moments → handed_news site kept done panel handed links before ≡ last_news site kept done panel before
  news_same [] past = refl
  news_same (Began ∷ before) past = news_same before (past_tail Began before moments past)
  news_same (Happened event ∷ before) past = news_same before (past_tail (Happened event) before moments past)
  news_same (Turned other Hold ∷ before) past =
      let ih = news_same before (past_tail (Turned other Hold) before moments past) in
      elim (eqb_tells other panel) [
        | inl t ↦ rw (t.0, ih) (ap (λ b. if b then tick_of before else last_news site kept done panel before)
            (told_news before (subst (λ p. IsPast (Turned p Hold ∷ before) moments) t.1 past)))
        | inr t ↦ rw t.0 ih
      ]
  news_same (Turned other task ∷ before) past = news_same before (past_tail (Turned other task) before moments past)
  news_same (Kept failed ∷ before) past = news_same before (past_tail (Kept failed) before moments past)

  buzzer_same : handed_buzzer site kept done panel handed links moments ≡ buzzer_of site kept done panel moments
  buzzer_same =
      ap (λ word. sounds word (nat_lt (muted_before panel (latest_turn panel Hold moments) done) (handed_news site kept done panel handed links moments)))
      (latest_alike moments present)
      ∙ ap (λ news. sounds (latest_word site kept done tells panel moments) (nat_lt (muted_before panel (latest_turn panel Hold moments) done) news))
      (news_same moments present)

  -- ---- outputs

  earlier_all : Earlier (IsBehind site kept done panel moments valid own run ups (length moments)) moments
  earlier_all = go moments present (omega arith)
    where
      go : (ms : List Moment) → IsPast ms moments → length ms ≤ length moments → Earlier (IsBehind site kept done panel moments valid own run ups (length moments)) ms
      go [] past few = tt
      go (moment ∷ before) past few = record { moment = moment; past = past; few = omega (arith, few) }

  agree : (output : ℕ) → panel_of_output site output ≡ panel → (b : List Moment) → IsBehind site kept done panel moments valid own run ups (length moments) b
      → handed_facts site kept done panel handed links (panel_of_output site output) b ≡ facts_of site kept done (panel_of_output site output) b
  agree output of b behind =
      facts_alike site kept done panel moments valid own run ups (length moments) (tell_all site kept done panel moments valid own run ups (length moments))
      (panel_of_output site output) b behind
      ∙ ap (λ p. facts_of site kept done p b) (sym of)

  on_same : outputs_where site panel (λ output. is_on site (handed_facts site kept done panel handed links) kept done output moments)
      ≡ outputs_where site panel (λ output. is_on site (facts_of site kept done) kept done output moments)
  on_same = where_same site panel _ _ (λ output of.
      on_own (IsBehind site kept done panel moments valid own run ups (length moments)) (behind_tail site kept done panel moments valid own run ups (length moments))
      site (handed_facts site kept done panel handed links) (facts_of site kept done) output (agree output of) kept done moments earlier_all)

  confirmed_same : outputs_where site panel (λ output. is_confirmed_out site (handed_facts site kept done panel handed links) kept done output moments)
      ≡ outputs_where site panel (λ output. is_confirmed_out site (facts_of site kept done) kept done output moments)
  confirmed_same = where_same site panel _ _ (λ output of.
      confirmed_own (IsBehind site kept done panel moments valid own run ups (length moments)) (behind_tail site kept done panel moments valid own run ups (length moments))
      site (handed_facts site kept done panel handed links) (facts_of site kept done) output (agree output of) kept done moments earlier_all)

  -- ---- words of panels

  abbrev now : ℕ → Word
  now source = word_kept panel source (frames_in history)

  shown_alike : (source : ℕ) → 1 ≤ source → word_on_face site kept done panel handed links now moments source ≡ shown_word site kept done panel moments source
  shown_alike source low =
      elim (eqb_tells source panel) [
        | inl t ↦ rw t.0 (latest_alike moments present)
        | inr t ↦ rw t.0 (elim (leb_tells source site.panels) [
          | inl h ↦ others_kept site kept done tells panel source own (low, h.1) t.1 moments
          | inr h ↦ none_kept site kept done tells panel source (let far = h.1 in omega (arith, far)) moments
              ∙ sym (ap (word_made site kept done tells source)
              (none_of site.panels source (λ p. (let far = h.1 in let near = p.1 in omega (arith, far, near))) moments panel own))
        ])
      ]

  -- ---- the face

  face_parts : (stored : Retained) (zones zones' firsts firsts' : List ℕ) (faults faults' : FaultSet) (on on' confirmed confirmed' : ℕ) (buzzer buzzer' : Buzzer)
      → zones ≡ zones' → firsts ≡ firsts' → faults ≡ faults' → on ≡ on' → confirmed ≡ confirmed' → buzzer ≡ buzzer'
      → (let a : Face =
      record (with_settings site kept done panel (tick_of moments) now faults (λ o. false) (λ o. false) buzzer (counter_in panel stored))
      { zones = zones; firsts = firsts; outputs = on; confirmed = confirmed } in
      let b : Face =
      record (with_settings site kept done panel (tick_of moments) now faults' (λ o. false) (λ o. false) buzzer' (counter_in panel stored))
      { zones = zones'; firsts = firsts'; outputs = on'; confirmed = confirmed' } in a ≡ b)
  face_parts stored zones zones' firsts firsts' faults faults' on on' confirmed confirmed' buzzer buzzer' a b c d e f = rw (a, b, c, d, e, f) refl

  pub face_same : (stored : Retained) → handed_face site kept done panel handed links now stored moments ≡ face_with site kept done stored panel moments
  face_same stored =
      face_parts stored _ _ _ _ _ _ _ _ _ _ _ _
      (map_alike _ _ 1 8 (λ k low high. ap (λ (w : Word). w.alarm) (shown_alike k low)))
      (map_alike _ _ 1 8 (λ k low high. ap (λ (w : Word). w.first) (shown_alike k low)))
      (faults_shown moments present) on_same confirmed_same buzzer_same

pub face_in_ring : FaceOfTheRing
face_in_ring site kept panel before valid own run ups =
    let done = (operations site kept before).done in
    let history = ring_history site kept done (tells_fault site kept done) panel before in
    let same = same_moments site kept done (tells_fault site kept done) panel before in
    ap (λ ms. face_by history (operations site kept ms).done (kept_after site kept ms) ms) same
    ∙ face_same site kept done panel before valid own run ups (kept_after site kept before)
  where
    face_by : List NodeMoment → List Done → Retained → List Moment → Face
    face_by history done stored moments =
        handed_face site kept done panel (node_words site panel history) (node_up site panel history) (λ source. word_kept panel source (frames_in history)) stored moments
