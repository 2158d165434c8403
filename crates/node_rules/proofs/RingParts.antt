-- The frames of the ring, by what had befallen when they came.
use Rattle.std.proofs.Common.{◌≡◌, ◌≢◌, ◌⊎◌, ◌∙◌, ◌<◌, ◌==◌, ◌&&◌, ℕ, Bool, true, false, List, [], ◌∷◌, length, nat_lt, if◌then◌else◌, inl, inr, refl, sym, ap, subst}
use Rattle.std.proofs.lemmas.Bool.{eq-eqb, lt-ltb, ne_eqb}
use Rattle.std.proofs.lemmas.Bool.Decides.{eqb_tells}
use Rattle.tick_units.specs.declared.task.Task.TheVariants.{Poll, Decide, Supply, Desk, Hold, Link, Effect, Drive, Keep}
use Rattle.site_types.specs.declared.retained.Retained.{Retained}
use Rattle.site_types.specs.declared.site.Site.{Site}
use Rattle.site_types.specs.Done.{Done}
use Rattle.panel_links.specs.declared.frame.Frame.{Frame}
use Rattle.panel_links.specs.Words.{carries, left_of, right_of}
use Rattle.panel_rules.specs.Kept.{kept_at, taken_over}
use Rattle.panel_rules.specs.Moments.{Moment, Began, Happened, Turned, Kept, IsPanel, IsPast, latest_turn, later, present, tick_of}
use Rattle.panel_rules.specs.States.{is_up}
use Rattle.panel_rules.specs.Words.{kept_word_of}
use Rattle.panel_rules.proofs.Ways.{left_member, right_member}
use Rattle.kept_words.specs.Arrivals.{last_from, word_kept}
use Rattle.node_rules.specs.Histories.{Befell, FrameCame, IsPartOf, NodeMoment, frames_in, longer, part_until, whole}
use Rattle.node_rules.specs.Nodes.{node_words}
use Rattle.node_rules.specs.RingHistories.{and_frame, and_ring_frames, ring_frame, ring_history}
use Rattle.node_rules.proofs.Parts.{cut_back}
use Rattle.node_rules.proofs.RingFrames.{others_kept, same_moments}

pub past_tail : (moment : Moment) (before moments : List Moment) → IsPast (moment ∷ before) moments → IsPast before moments
past_tail moment before moments present = later moment before present
past_tail moment before moments (later x rest h) = later x rest (past_tail moment before rest h)

-- a panel that the ring hasn't makes no words
taken_none : (up carried : Bool) → taken_over up carried [] [] ≡ []
taken_none true true = refl
taken_none true false = refl
taken_none false carried = refl

pub none_of : (panels source : ℕ) → (IsPanel panels source → ⊥) → (before : List Moment) (panel : ℕ) → IsPanel panels panel → kept_at panels panel source before ≡ []
none_of panels source none [] panel p = refl
none_of panels source none (Began ∷ before) panel p = none_of panels source none before panel p
none_of panels source none (Happened event ∷ before) panel p = none_of panels source none before panel p
none_of panels source none (Turned other Link ∷ before) panel p =
    elim (eqb_tells other panel) [
      | inl t ↦ rw (
        t.0,
        ne_eqb panel source (λ e. none (subst (IsPanel panels) e p)),
        none_of panels source none before panel p,
        none_of panels source none before (left_of panels panel) (left_member panels panel p),
        none_of panels source none before (right_of panels panel) (right_member panels panel p),
      )
          (ap (λ word. taken_over (is_up panel before) (carries panels (tick_of before) source) word [])
          (taken_none (is_up (left_of panels panel) before) (carries panels (tick_of before) source))
          ∙ taken_none (is_up panel before) (carries panels (tick_of before) source))
      | inr t ↦ rw t.0 (none_of panels source none before panel p)
    ]
none_of panels source none (Turned other Poll ∷ before) panel p = none_of panels source none before panel p
none_of panels source none (Turned other Decide ∷ before) panel p = none_of panels source none before panel p
none_of panels source none (Turned other Supply ∷ before) panel p = none_of panels source none before panel p
none_of panels source none (Turned other Desk ∷ before) panel p = none_of panels source none before panel p
none_of panels source none (Turned other Hold ∷ before) panel p = none_of panels source none before panel p
none_of panels source none (Turned other Effect ∷ before) panel p = none_of panels source none before panel p
none_of panels source none (Turned other Drive ∷ before) panel p = none_of panels source none before panel p
none_of panels source none (Turned other Keep ∷ before) panel p = none_of panels source none before panel p
none_of panels source none (Kept failed ∷ before) panel p = none_of panels source none before panel p

module _ (site : Site) (kept : Retained) (done : List Done) (told : ℕ → List Moment → Bool) (panel : ℕ) where
  abbrev rings : List Moment → List NodeMoment
  rings moments = ring_history site kept done told panel moments

  -- ---- parts of the history

  frame_on : (comes : Bool) (frame : Frame) (part history : List NodeMoment) → IsPartOf part history → IsPartOf part (and_frame comes frame history)
  frame_on true frame part history h = longer (FrameCame frame) history h
  frame_on false frame part history h = h

  frames_on : (before : List Moment) (part history : List NodeMoment) → IsPartOf part history
      → IsPartOf part (and_ring_frames site kept done told panel before history)
  frames_on before part history h =
      frame_on (nat_lt 1 site.panels && is_up panel before) (ring_frame site kept done told panel (right_of site.panels panel) before) part
      (and_frame (nat_lt 1 site.panels && is_up (left_of site.panels panel) before)
      (ring_frame site kept done told panel (left_of site.panels panel) before) history)
      (frame_on (nat_lt 1 site.panels && is_up (left_of site.panels panel) before)
      (ring_frame site kept done told panel (left_of site.panels panel) before) part history h)

  on_top : (moment : Moment) (before : List Moment) (part : List NodeMoment) → IsPartOf part (Befell moment ∷ rings before)
      → IsPartOf part (rings (moment ∷ before))
  on_top Began before part h = h
  on_top (Happened event) before part h = h
  on_top (Turned other Link) before part h =
      elim (other == panel) as (λ b. IsPartOf part (if b then and_ring_frames site kept done told panel before (Befell (Turned other Link) ∷ rings before)
      else Befell (Turned other Link) ∷ rings before)) [
        | true ↦ frames_on before part (Befell (Turned other Link) ∷ rings before) h
        | false ↦ h
      ]
  on_top (Turned other Poll) before part h = h
  on_top (Turned other Decide) before part h = h
  on_top (Turned other Supply) before part h = h
  on_top (Turned other Desk) before part h = h
  on_top (Turned other Hold) before part h = h
  on_top (Turned other Effect) before part h = h
  on_top (Turned other Drive) before part h = h
  on_top (Turned other Keep) before part h = h
  on_top (Kept failed) before part h = h

  in_history : (moment : Moment) (before moments : List Moment) → IsPast (moment ∷ before) moments → IsPartOf (Befell moment ∷ rings before) (rings moments)
  in_history moment before moments present = on_top moment before (Befell moment ∷ rings before) whole
  in_history moment before moments (later x rest h) =
      on_top x rest (Befell moment ∷ rings before) (longer (Befell x) (rings rest) (in_history moment before rest h))

  -- the part up to a turn is the history by then
  pub part_then : (moment : Moment) (before moments : List Moment) → IsPast (moment ∷ before) moments
      → part_until (length before) (rings moments) ≡ rings before
  part_then moment before moments past =
      subst (λ ms. part_until (length ms) (rings moments) ≡ rings before) (same_moments site kept done told panel before)
      (cut_back (rings before) moment (rings moments) (in_history moment before moments past))

  -- so the words that it is handed at a turn are the ring's
  pub words_then : (own : IsPanel site.panels panel) (source : ℕ) → IsPanel site.panels source → source ≢ panel → (moment : Moment) (before moments : List Moment)
      → IsPast (moment ∷ before) moments → node_words site panel (rings moments) before source ≡ kept_word_of site kept done told panel source before
  words_then own source member apart moment before moments past =
      ap (λ part. word_kept panel source (frames_in part)) (part_then moment before moments past)
      ∙ others_kept site kept done told panel source own member apart before

  -- ---- the last frames of its neighbours, where its links were up

  module _ (several : 1 < site.panels) (neighbour : ℕ) (is : (neighbour ≡ left_of site.panels panel) ⊎ (neighbour ≡ right_of site.panels panel)) where
    either : (right left : ℕ) (here there rest : ℕ) → (neighbour ≡ left) ⊎ (neighbour ≡ right) → here ≡ there
        → (if right == neighbour then here else if left == neighbour then there else rest) ≡ there
    either right left here there rest (inl e) same =
        rw (eq-eqb left neighbour (sym e)) (elim (right == neighbour) as (λ b. (if b then here else there) ≡ there) [ true ↦ same | false ↦ refl ])
    either right left here there rest (inr e) same = rw (eq-eqb right neighbour (sym e)) same

    two_came : (other : ℕ) (before : List Moment) → is_up panel before ≡ true → is_up (left_of site.panels panel) before ≡ true
        → last_from neighbour (frames_in (and_ring_frames site kept done told panel before (Befell (Turned other Link) ∷ rings before))) ≡ tick_of before
    two_came other before right left =
        rw (lt-ltb 1 site.panels several, right, left)
        (either (right_of site.panels panel) (left_of site.panels panel) _ _ (last_from neighbour (frames_in (rings before))) is refl
        ∙ ap tick_of (same_moments site kept done told panel before))

    pub last_frame : (before : List Moment)
        → ((past : List Moment) → IsPast past before → (is_up panel past ≡ true) × (is_up (left_of site.panels panel) past ≡ true))
        → last_from neighbour (frames_in (rings before)) ≡ latest_turn panel Link before
    last_frame [] up = refl
    last_frame (Began ∷ before) up = last_frame before (λ past h. up past (later Began before h))
    last_frame (Happened event ∷ before) up = last_frame before (λ past h. up past (later (Happened event) before h))
    last_frame (Turned other Link ∷ before) up =
        elim (eqb_tells other panel) [
          | inl t ↦ (let both = up before (later (Turned other Link) before present) in rw t.0 (two_came other before both.0 both.1))
          | inr t ↦ rw t.0 (last_frame before (λ past h. up past (later (Turned other Link) before h)))
        ]
    last_frame (Turned other Poll ∷ before) up = last_frame before (λ past h. up past (later (Turned other Poll) before h))
    last_frame (Turned other Decide ∷ before) up = last_frame before (λ past h. up past (later (Turned other Decide) before h))
    last_frame (Turned other Supply ∷ before) up = last_frame before (λ past h. up past (later (Turned other Supply) before h))
    last_frame (Turned other Desk ∷ before) up = last_frame before (λ past h. up past (later (Turned other Desk) before h))
    last_frame (Turned other Hold ∷ before) up = last_frame before (λ past h. up past (later (Turned other Hold) before h))
    last_frame (Turned other Effect ∷ before) up = last_frame before (λ past h. up past (later (Turned other Effect) before h))
    last_frame (Turned other Drive ∷ before) up = last_frame before (λ past h. up past (later (Turned other Drive) before h))
    last_frame (Turned other Keep ∷ before) up = last_frame before (λ past h. up past (later (Turned other Keep) before h))
    last_frame (Kept failed ∷ before) up = last_frame before (λ past h. up past (later (Kept failed) before h))
