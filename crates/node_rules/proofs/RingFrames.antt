-- With the frames of the ring a panel keeps the ring's words.
use Rattle.std.proofs.Common.{◌≡◌, ◌≢◌, ◌∙◌, ◌-◌, ◌/◌, ◌<◌, ◌==◌, ◌&&◌, ℕ, Bool, true, false, List, [], ◌∷◌, nat_lt, if◌then◌else◌, inl, inr, refl, sym, ap, subst, arith}
use Rattle.std.proofs.lemmas.Bool.{cases_Bool, eqb-true, lt-ltb, ne_eqb}
use Rattle.std.proofs.lemmas.Bool.Decides.{eqb_tells}
use Rattle.tick_units.specs.declared.task.Task.TheVariants.{Poll, Decide, Supply, Desk, Hold, Link, Effect, Drive, Keep}
use Rattle.site_types.specs.declared.retained.Retained.{Retained}
use Rattle.site_types.specs.declared.site.Site.{Site}
use Rattle.site_types.specs.declared.word.Word.{Word}
use Rattle.site_types.specs.Done.{Done}
use Rattle.panel_links.specs.declared.frame.Frame.{Frame}
use Rattle.panel_links.specs.Frames.{frame_of}
use Rattle.panel_links.specs.Kept.{newest}
use Rattle.panel_links.specs.Words.{carries, group_of, left_of, right_of}
use Rattle.panel_links.proofs.Places.{sent_word}
use Rattle.panel_rules.specs.Kept.{kept_at, made_at, newer, taken_over}
use Rattle.panel_rules.specs.Moments.{Moment, Began, Happened, Turned, Kept, IsPanel, before_turn, tick_of}
use Rattle.panel_rules.specs.Operations.{operations}
use Rattle.panel_rules.specs.States.{is_up}
use Rattle.panel_rules.specs.Words.{kept_word_of, word_made}
use Rattle.panel_rules.proofs.AnswersTell.{eq_true}
use Rattle.panel_rules.proofs.RingWords.{stamp_is}
use Rattle.kept_words.specs.Arrivals.{framed_word, word_kept}
use Rattle.node_rules.specs.Handed.{own_tells}
use Rattle.node_rules.specs.Histories.{Befell, NodeMoment, frames_in, befallen}
use Rattle.node_rules.specs.Nodes.{node_done, node_up, node_words}
use Rattle.node_rules.specs.NodeLaws.{FramesOfTheRing, IsSameButFault}
use Rattle.node_rules.specs.RingHistories.{and_frame, and_ring_frames, ring_frame, ring_history}
use Rattle.node_rules.proofs.OwnWords.{own_at}

-- ---- moments of a history with frames

module _ (site : Site) (kept : Retained) (done : List Done) (told : ℕ → List Moment → Bool) (panel : ℕ) where
  one_frame : (comes : Bool) (frame : Frame) (history : List NodeMoment) → befallen (and_frame comes frame history) ≡ befallen history
  one_frame true frame history = refl
  one_frame false frame history = refl

  two_frames : (before : List Moment) (history : List NodeMoment) → befallen (and_ring_frames site kept done told panel before history) ≡ befallen history
  two_frames before history =
      one_frame (nat_lt 1 site.panels && is_up panel before) (ring_frame site kept done told panel (right_of site.panels panel) before)
      (and_frame (nat_lt 1 site.panels && is_up (left_of site.panels panel) before)
      (ring_frame site kept done told panel (left_of site.panels panel) before) history)
      ∙ one_frame (nat_lt 1 site.panels && is_up (left_of site.panels panel) before)
      (ring_frame site kept done told panel (left_of site.panels panel) before) history

  more : (moment : Moment) (one other : List Moment) → one ≡ other → ◌≡◌ {A = List Moment} (moment ∷ one) (moment ∷ other)
  more moment one other e = ap (λ rest. moment ∷ rest) e

  -- the run is what befell, but for frames
  pub same_moments : (before : List Moment) → befallen (ring_history site kept done told panel before) ≡ before
  same_moments [] = refl
  same_moments (Began ∷ before) = more Began _ _ (same_moments before)
  same_moments (Happened event ∷ before) = more (Happened event) _ _ (same_moments before)
  same_moments (Turned other Link ∷ before) =
      elim (eqb_tells other panel) [
        | inl t ↦ rw t.0 (two_frames before (Befell (Turned other Link) ∷ ring_history site kept done told panel before)
            ∙ more (Turned other Link) _ _ (same_moments before))
        | inr t ↦ rw t.0 (more (Turned other Link) _ _ (same_moments before))
      ]
  same_moments (Turned other Poll ∷ before) = more (Turned other Poll) _ _ (same_moments before)
  same_moments (Turned other Decide ∷ before) = more (Turned other Decide) _ _ (same_moments before)
  same_moments (Turned other Supply ∷ before) = more (Turned other Supply) _ _ (same_moments before)
  same_moments (Turned other Desk ∷ before) = more (Turned other Desk) _ _ (same_moments before)
  same_moments (Turned other Hold ∷ before) = more (Turned other Hold) _ _ (same_moments before)
  same_moments (Turned other Effect ∷ before) = more (Turned other Effect) _ _ (same_moments before)
  same_moments (Turned other Drive ∷ before) = more (Turned other Drive) _ _ (same_moments before)
  same_moments (Turned other Keep ∷ before) = more (Turned other Keep) _ _ (same_moments before)
  same_moments (Kept failed ∷ before) = more (Kept failed) _ _ (same_moments before)

  -- ---- one frame of a neighbour

  newest_made : (source : ℕ) (a b : List Moment) → newest (word_made site kept done told source a) (word_made site kept done told source b)
      ≡ word_made site kept done told source (newer a b)
  newest_made source a b =
      rw (stamp_is site kept done told source a, stamp_is site kept done told source b)
      (elim (nat_lt (tick_of a) (tick_of b)) as (λ t. (if t then word_made site kept done told source b else word_made site kept done told source a)
      ≡ word_made site kept done told source (if t then b else a)) [
        | true ↦ refl
        | false ↦ refl
      ])

  -- the words kept after a frame that comes are those that are taken over a link
  after_ring_frame : (up : Bool) (neighbour source : ℕ) (before word : List Moment) (history : List NodeMoment) → 1 < site.panels
      → IsPanel site.panels source → source ≢ panel
      → word_kept panel source (frames_in history) ≡ word_made site kept done told source word
      → word_kept panel source (frames_in (and_frame (nat_lt 1 site.panels && up) (ring_frame site kept done told panel neighbour before) history))
      ≡ word_made site kept done told source
      (taken_over up (carries site.panels (tick_of before) source) word (kept_at site.panels neighbour source before))
  after_ring_frame false neighbour source before word history several member apart h = rw (lt-ltb 1 site.panels several) h
  after_ring_frame true neighbour source before word history several member apart h =
      rw (lt-ltb 1 site.panels several, ne_eqb source panel apart)
      (elim (cases_Bool (carries site.panels (tick_of before) source)) [
        | inl carried ↦
            (let in_group : (source - 1) / 4 ≡ group_of site.panels (tick_of before) = eqb-true ((source - 1) / 4) (group_of site.panels (tick_of before)) carried
            in
            let words : ℕ → Word = λ s. kept_word_of site kept done told neighbour s before in
            rw carried
            (ap (λ w. newest w (framed_word source (frame_of site.panels words neighbour (tick_of before)))) h
            ∙ ap (newest (word_made site kept done told source word))
            (sent_word site.panels (group_of site.panels (tick_of before)) source words member.0 member.1 in_group)
            ∙ newest_made source word (kept_at site.panels neighbour source before)))
        | inr isnt ↦ rw isnt h
      ])

  -- ---- along a run

  module _ (source : ℕ) (own : IsPanel site.panels panel) (member : IsPanel site.panels source) (apart : source ≢ panel) where
    several : 1 < site.panels
    several = elim (eqb_tells source panel) [ inl t ↦ absurd (apart t.1) | inr t ↦ (let p = t.1 in omega (arith, p, own.0, own.1, member.0, member.1)) ]

    linked : (before : List Moment) → word_kept panel source (frames_in (ring_history site kept done told panel before))
        ≡ kept_word_of site kept done told panel source before
        → word_kept panel source (frames_in (and_ring_frames site kept done told panel before (Befell (Turned panel Link) ∷ ring_history site kept done told panel before)))
        ≡ word_made site kept done told source
        (taken_over (is_up panel before) (carries site.panels (tick_of before) source)
        (taken_over (is_up (left_of site.panels panel) before) (carries site.panels (tick_of before) source)
        (kept_at site.panels panel source before) (kept_at site.panels (left_of site.panels panel) source before))
        (kept_at site.panels (right_of site.panels panel) source before))
    linked before ih =
        let history = Befell (Turned panel Link) ∷ ring_history site kept done told panel before in
        after_ring_frame (is_up panel before) (right_of site.panels panel) source before
        (taken_over (is_up (left_of site.panels panel) before) (carries site.panels (tick_of before) source)
        (kept_at site.panels panel source before) (kept_at site.panels (left_of site.panels panel) source before))
        (and_frame (nat_lt 1 site.panels && is_up (left_of site.panels panel) before)
        (ring_frame site kept done told panel (left_of site.panels panel) before) history)
        several member apart
        (after_ring_frame (is_up (left_of site.panels panel) before) (left_of site.panels panel) source before
        (kept_at site.panels panel source before) history several member apart ih)

    abbrev turned_other : ℕ → List Moment → Type 0
    turned_other other before = word_kept panel source (frames_in (ring_history site kept done told panel (Turned other Link ∷ before)))
        ≡ kept_word_of site kept done told panel source (Turned other Link ∷ before)

    pub others_kept : (before : List Moment) → word_kept panel source (frames_in (ring_history site kept done told panel before))
        ≡ kept_word_of site kept done told panel source before
    others_kept [] = refl
    others_kept (Began ∷ before) = others_kept before
    others_kept (Happened event ∷ before) = others_kept before
    others_kept (Turned other Link ∷ before) =
        elim (eqb_tells other panel) [
          | inl t ↦
              subst (λ p. turned_other p before) (sym t.1)
              (let me = eqb_same panel in
              let not_mine : (panel == source) ≡ false = ne_eqb panel source (λ e. apart (sym e)) in
              rw (me, not_mine) (linked before (others_kept before)))
          | inr t ↦ rw t.0 (others_kept before)
        ]
      where
        eqb_same : (p : ℕ) → (p == p) ≡ true
        eqb_same p = elim (eqb_tells p p) [ inl t ↦ t.0 | inr t ↦ absurd (t.1 refl) ]
    others_kept (Turned other Poll ∷ before) = others_kept before
    others_kept (Turned other Decide ∷ before) = others_kept before
    others_kept (Turned other Supply ∷ before) = others_kept before
    others_kept (Turned other Desk ∷ before) = others_kept before
    others_kept (Turned other Hold ∷ before) = others_kept before
    others_kept (Turned other Effect ∷ before) = others_kept before
    others_kept (Turned other Drive ∷ before) = others_kept before
    others_kept (Turned other Keep ∷ before) = others_kept before
    others_kept (Kept failed ∷ before) = others_kept before

-- two words made at the same turn are alike but for their faults
made_alike : (site : Site) (kept : Retained) (done : List Done) (one other : ℕ → List Moment → Bool) (panel : ℕ) (word : List Moment)
    → IsSameButFault (word_made site kept done one panel word) (word_made site kept done other panel word)
made_alike site kept done one other panel [] = refl
made_alike site kept done one other panel (turn ∷ before) = refl

own_alike : (site : Site) (kept : Retained) (done later : List Done) (told : ℕ → List Moment → Bool) (own_told : List Moment → Bool) (panel : ℕ)
    (before moments : List Moment) → later ≡ done → moments ≡ before
    → IsSameButFault (word_made site kept later (λ source. own_told) panel (made_at panel (before_turn panel Link moments)))
    (word_made site kept done told panel (kept_at site.panels panel panel before))
own_alike site kept done later told own_told panel before moments same_done same =
    subst (λ ds. IsSameButFault (word_made site kept ds (λ source. own_told) panel (made_at panel (before_turn panel Link moments)))
    (word_made site kept done told panel (kept_at site.panels panel panel before))) (sym same_done)
    (subst (λ ms. IsSameButFault (word_made site kept done (λ source. own_told) panel (made_at panel (before_turn panel Link ms)))
    (word_made site kept done told panel (kept_at site.panels panel panel before))) (sym same)
    (subst (λ word. IsSameButFault (word_made site kept done (λ source. own_told) panel (made_at panel (before_turn panel Link before)))
    (word_made site kept done told panel word)) (sym (own_at site.panels panel before))
    (made_alike site kept done (λ source. own_told) told panel (made_at panel (before_turn panel Link before)))))

pub ring_frames : FramesOfTheRing
ring_frames site kept told panel before few own =
    let done = (operations site kept before).done in
    let history = ring_history site kept done told panel before in
    let same = same_moments site kept done told panel before in
    record {
      others = λ source member apart. rw (ne_eqb source panel apart) (others_kept site kept done told panel source own member apart before);
      own = rw (eq_true panel panel refl) (own_alike site kept done (node_done site panel history kept) told
          (own_tells site kept (node_done site panel history kept) panel (node_words site panel history) (node_up site panel history)) panel before
          (befallen history) (ap (λ ms. (operations site kept ms).done) same) same);
    }
