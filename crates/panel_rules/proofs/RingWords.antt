-- The words kept, by what had befallen when they were made, are those that the ring keeps.
use Rattle.std.proofs.Common.{◌≡◌, ℕ, ◌≤◌, ◌==◌, ◌&&◌, List, [], ◌∷◌, inl, inr, Bool, true, false, if◌then◌else◌, refl, sym, ◌∙◌, ap, subst, arith}
use Rattle.std.specs.Prelude.{nat_lt}
use Rattle.std.proofs.lemmas.Bool.Decides.{eqb_tells, leb_tells}
use Rattle.tick_units.specs.declared.task.Task.TheVariants.{Hold, Link as LinkTask}
use Rattle.site_types.specs.declared.event.Event.TheVariants.{Op, Point, Cable, Supply, Link, Confirmed}
use Rattle.site_types.specs.declared.retained.Retained.{Retained}
use Rattle.site_types.specs.declared.site.Site.{Site}
use Rattle.site_types.specs.declared.word.Word.{Word}
use Rattle.site_types.specs.Done.{Done}
use Rattle.site_types.proofs.Done.{lt_false, lt_true}
use Rattle.panel_links.specs.Words.{IsNewest, OwnStampsRise, own_stamp, left_of, right_of, is_up as ring_is_up, carries}
use Rattle.panel_links.specs.Kept.{kept_word, newest, after_turn, after_word}
use Rattle.panel_links.proofs.Chains.{kept_is_newest}
use Rattle.panel_rules.specs.Moments.{Moment, Began, Happened, Turned, Kept, tick_of, latest_turn, IsPanel}
use Rattle.panel_rules.specs.States.{is_up}
use Rattle.panel_rules.specs.Kept.{made_at, newer, taken_over, kept_at}
use Rattle.panel_rules.specs.Words.{word_made, latest_word, kept_word_of, ring_calls}
use Rattle.panel_rules.specs.WordLaws.{KeptByTheRing, NewestOverChains}
use Rattle.panel_rules.proofs.KeptWords.{made_tick, heard_past, latest_rises}
use Rattle.panel_rules.proofs.OpenRequests.{eq_swap}
use Rattle.panel_rules.proofs.Ways.{left_member, right_member}

-- an older word is not taken
taken_older : (up carried : Bool) (one other : List Moment) → tick_of other ≤ tick_of one → taken_over up carried one other ≡ one
taken_older true true one other l = rw (lt_false (tick_of one) (tick_of other) l) refl
taken_older true false one other l = refl
taken_older false carried one other l = refl

module _ (site : Site) (kept : Retained) (done : List Done) (told : ℕ → List Moment → Bool) where
  pub stamp_is : (source : ℕ) (x : List Moment) → (word_made site kept done told source x).stamp.0 ≡ tick_of x
  stamp_is source [] = refl
  stamp_is source (moment ∷ before) = refl

  newest_same : (source : ℕ) (a b : List Moment) → newest (word_made site kept done told source a) (word_made site kept done told source b)
      ≡ word_made site kept done told source (newer a b)
  newest_same source a b =
      ap (λ s. if nat_lt s (word_made site kept done told source b).stamp.0 then word_made site kept done told source b else word_made site kept done
      told source a) (stamp_is source a)
      ∙ ap (λ s. if nat_lt (tick_of a) s then word_made site kept done told source b else word_made site kept done told source a) (stamp_is source b)
      ∙ either (nat_lt (tick_of a) (tick_of b))
    where
      either : (t : Bool) → (if t then word_made site kept done told source b else word_made site kept done told source a)
          ≡ word_made site kept done told source (if t then b else a)
      either true = refl
      either false = refl

  taken_same : (source : ℕ) (up carried : Bool) (a b : List Moment)
      → after_word (up && carried) (word_made site kept done told source a) (word_made site kept done told source b) ≡ word_made site kept done told
      source (taken_over up carried a b)
  taken_same source true true a b = newest_same source a b
  taken_same source true false a b = refl
  taken_same source false carried a b = refl

  -- a link is up in the ring by the calls that a run makes of it where it is up in the run
  pub up_same : (link : ℕ) (m : List Moment) → ring_is_up link (ring_calls site kept done told m) ≡ is_up link m
  up_same link [] = refl
  up_same link (Began ∷ before) = up_same link before
  up_same link (Happened (Link other up) ∷ before) = ap (λ b. if other == link then up else b) (up_same link before)
  up_same link (Happened (Op panel code operation) ∷ before) = up_same link before
  up_same link (Happened (Point point state) ∷ before) = up_same link before
  up_same link (Happened (Cable panel line piece state) ∷ before) = up_same link before
  up_same link (Happened (Supply panel kind bad) ∷ before) = up_same link before
  up_same link (Happened (Confirmed output) ∷ before) = up_same link before
  up_same link (Turned panel LinkTask ∷ before) = up_same link before
  up_same link (Turned panel task ∷ before) = up_same link before
  up_same link (Kept failed ∷ before) = up_same link before

  -- a turn of Link, with several panels
  joined_turn : (source : ℕ) (first second carried : Bool) (own left right : Word) (a b c : List Moment)
      → own ≡ word_made site kept done told source a → left ≡ word_made site kept done told source b → right ≡ word_made site kept done told source c
      → after_word (second && carried) (after_word (first && carried) own left) right ≡ word_made site kept done told source
      (taken_over second carried (taken_over first carried a b) c)
  joined_turn source first second carried own left right a b c o l r =
      ap (λ w. after_word (second && carried) (after_word (first && carried) w left) right) o
      ∙ ap (λ w. after_word (second && carried) (after_word (first && carried) (word_made site kept done told source a) w) right) l
      ∙ ap (λ w. after_word (second && carried) (after_word (first && carried) (word_made site kept done told source a) (word_made site kept done told source b)) w) r
      ∙ ap (λ w. after_word (second && carried) w (word_made site kept done told source c)) (taken_same source first carried a b)
      ∙ taken_same source second carried (taken_over first carried a b) c

  -- what the panel begins with
  own_same : (panel source other : ℕ) (before : List Moment) (was : Word) → other ≡ panel
      → was ≡ word_made site kept done told source (kept_at site.panels panel source before)
      → (if source == panel then latest_word site kept done told other before else was) ≡ word_made site kept done told source
      (if panel == source then made_at panel before else kept_at site.panels panel source before)
  own_same panel source other before was same h =
      elim (eqb_tells source panel) [
        | inl t ↦
            rw (t.0, eq_swap panel source, t.0)
            (ap (λ p. word_made site kept done told p (made_at p before)) same ∙ ap (λ p. word_made site kept done told p (made_at panel before))
            (sym t.1))
        | inr t ↦ rw (t.0, eq_swap panel source, t.0) h
      ]

  module _ (few : site.panels ≤ 8) where
    -- a panel alone keeps its own word
    alone : (panel source : ℕ) (before : List Moment) → IsPanel site.panels panel → IsPanel site.panels source → site.panels ≤ 1
        → taken_over (is_up panel before) (carries site.panels (tick_of before) source)
        (taken_over (is_up (left_of site.panels panel) before) (carries site.panels (tick_of before) source)
        (if panel == source then made_at panel before else kept_at site.panels panel source before)
        (kept_at site.panels (left_of site.panels panel) source before)) (kept_at site.panels (right_of site.panels panel) source before)
        ≡ (if panel == source then made_at panel before else kept_at site.panels panel source before)
    alone panel source before p s one =
        elim (eqb_tells panel source) [
          | inl t ↦ rw t.0
              (let mine : tick_of (made_at panel before) ≡ latest_turn source Hold before =
              ap (λ q. tick_of (made_at q before)) t.1 ∙ made_tick source before in
              let down = heard_past site.panels (left_of site.panels panel) source before in
              let up = heard_past site.panels (right_of site.panels panel) source before in
              let first =
              taken_older (is_up (left_of site.panels panel) before) (carries site.panels (tick_of before) source) (made_at panel before)
              (kept_at site.panels (left_of site.panels panel) source before) (omega (arith, mine, down)) in
              ap (λ k. taken_over (is_up panel before) (carries site.panels (tick_of before) source) k (kept_at site.panels (right_of site.panels panel) source before)) first
              ∙ taken_older (is_up panel before) (carries site.panels (tick_of before) source) (made_at panel before)
              (kept_at site.panels (right_of site.panels panel) source before) (omega (arith, mine, up)))
          | inr t ↦ absurd (t.1 (omega (arith, p.0, p.1, s.0, s.1, one)))
        ]

    -- the turn of a panel itself
    turn : (other panel source : ℕ) (before : List Moment) → other ≡ panel → IsPanel site.panels panel → IsPanel site.panels source
        → kept_word site.panels source panel (ring_calls site kept done told before) ≡ kept_word_of site kept done told panel source before
        → kept_word site.panels source (left_of site.panels panel) (ring_calls site kept done told before) ≡ kept_word_of site kept done told
        (left_of site.panels panel) source before
        → kept_word site.panels source (right_of site.panels panel) (ring_calls site kept done told before) ≡ kept_word_of site kept done told
        (right_of site.panels panel) source before
        → after_turn site.panels (tick_of before) source (ring_is_up (left_of site.panels panel) (ring_calls site kept done told before))
        (ring_is_up panel (ring_calls site kept done told before))
        (if source == panel then latest_word site kept done told other before else kept_word site.panels source panel
        (ring_calls site kept done told before))
        (kept_word site.panels source (left_of site.panels panel) (ring_calls site kept done told before))
        (kept_word site.panels source (right_of site.panels panel) (ring_calls site kept done told before))
        ≡ word_made site kept done told source
        (taken_over (is_up panel before) (carries site.panels (tick_of before) source)
        (taken_over (is_up (left_of site.panels panel) before) (carries site.panels (tick_of before) source)
        (if panel == source then made_at panel before else kept_at site.panels panel source before)
        (kept_at site.panels (left_of site.panels panel) source before)) (kept_at site.panels (right_of site.panels panel) source before))
    turn other panel source before same p s mine down up =
        elim (leb_tells 2 site.panels) [
          | inl several ↦
              several_turn (ring_is_up (left_of site.panels panel) (ring_calls site kept done told before)) (is_up (left_of site.panels panel) before)
              (ring_is_up panel (ring_calls site kept done told before)) (is_up panel before)
              (up_same (left_of site.panels panel) before) (up_same panel before) (lt_true 1 site.panels (let l = several.1 in omega (arith, l)))
              (if source == panel then latest_word site kept done told other before else kept_word site.panels source panel
              (ring_calls site kept done told before))
              (kept_word site.panels source (left_of site.panels panel) (ring_calls site kept done told before))
              (kept_word site.panels source (right_of site.panels panel) (ring_calls site kept done told before))
              (if panel == source then made_at panel before else kept_at site.panels panel source before)
              (kept_at site.panels (left_of site.panels panel) source before) (kept_at site.panels (right_of site.panels panel) source before)
              (own_same panel source other before (kept_word site.panels source panel (ring_calls site kept done told before)) same mine)
              down up
          | inr one ↦
              one_turn (lt_false 1 site.panels (let l = one.1 in omega (arith, l)))
              (ring_is_up (left_of site.panels panel) (ring_calls site kept done told before))
              (ring_is_up panel (ring_calls site kept done told before))
              (if source == panel then latest_word site kept done told other before else kept_word site.panels source panel
              (ring_calls site kept done told before))
              (kept_word site.panels source (left_of site.panels panel) (ring_calls site kept done told before))
              (kept_word site.panels source (right_of site.panels panel) (ring_calls site kept done told before))
              ∙ own_same panel source other before (kept_word site.panels source panel (ring_calls site kept done told before)) same mine
              ∙ ap (word_made site kept done told source) (sym (alone panel source before p s (let l = one.1 in omega (arith, l))))
        ]
      where
        several_turn : (r1 u1 r2 u2 : Bool) → r1 ≡ u1 → r2 ≡ u2 → nat_lt 1 site.panels ≡ true → (own left right : Word) (a b c : List Moment)
            → own ≡ word_made site kept done told source a → left ≡ word_made site kept done told source b
            → right ≡ word_made site kept done told source c
            → after_turn site.panels (tick_of before) source r1 r2 own left right ≡ word_made site kept done told source
            (taken_over u2 (carries site.panels (tick_of before) source) (taken_over u1 (carries site.panels (tick_of before) source) a b) c)
        several_turn r1 u1 r2 u2 e1 e2 lt own left right a b c o l r =
            ap (λ x. after_word (x && (r2 && carries site.panels (tick_of before) source)) (after_word (x && (r1 && carries site.panels (tick_of before) source)) own left) right) lt
            ∙ ap (λ x. after_word (r2 && carries site.panels (tick_of before) source) (after_word (x && carries site.panels (tick_of before) source) own left) right) e1
            ∙ ap (λ x. after_word (x && carries site.panels (tick_of before) source) (after_word (u1 && carries site.panels (tick_of before) source) own left) right) e2
            ∙ joined_turn source u1 u2 (carries site.panels (tick_of before) source) own left right a b c o l r

        one_turn : nat_lt 1 site.panels ≡ false → (r1 r2 : Bool) (own left right : Word)
            → after_turn site.panels (tick_of before) source r1 r2 own left right ≡ own
        one_turn lt r1 r2 own left right =
            ap
            (λ x. after_word (x && (r2 && carries site.panels (tick_of before) source))
            (after_word (x && (r1 && carries site.panels (tick_of before) source)) own left) right) lt

    keeps_same : (m : List Moment) (panel source : ℕ) → IsPanel site.panels panel → IsPanel site.panels source
        → kept_word site.panels source panel (ring_calls site kept done told m) ≡ kept_word_of site kept done told panel source m
    keeps_same [] panel source p s = refl
    keeps_same (Began ∷ before) panel source p s = keeps_same before panel source p s
    keeps_same (Happened (Link link up) ∷ before) panel source p s = keeps_same before panel source p s
    keeps_same (Happened (Op who code operation) ∷ before) panel source p s = keeps_same before panel source p s
    keeps_same (Happened (Point point state) ∷ before) panel source p s = keeps_same before panel source p s
    keeps_same (Happened (Cable who line piece state) ∷ before) panel source p s = keeps_same before panel source p s
    keeps_same (Happened (Supply who kind bad) ∷ before) panel source p s = keeps_same before panel source p s
    keeps_same (Happened (Confirmed output) ∷ before) panel source p s = keeps_same before panel source p s
    keeps_same (Turned other LinkTask ∷ before) panel source p s =
        elim (eqb_tells other panel) [
          | inl t ↦
              rw t.0
              (turn other panel source before t.1 p s (keeps_same before panel source p s)
              (keeps_same before (left_of site.panels panel) source (left_member site.panels panel p) s)
              (keeps_same before (right_of site.panels panel) source (right_member site.panels panel p) s))
          | inr t ↦ rw t.0 (keeps_same before panel source p s)
        ]
    keeps_same (Turned other task ∷ before) panel source p s = keeps_same before panel source p s
    keeps_same (Kept failed ∷ before) panel source p s = keeps_same before panel source p s

  -- no panel gives the ring an older word than before
  stamp_by : (panel : ℕ) (m : List Moment) → own_stamp panel (ring_calls site kept done told m) ≤ latest_turn panel Hold m
  stamp_by panel [] = omega arith
  stamp_by panel (Began ∷ before) = stamp_by panel before
  stamp_by panel (Happened (Link link up) ∷ before) = stamp_by panel before
  stamp_by panel (Happened (Op who code operation) ∷ before) = stamp_by panel before
  stamp_by panel (Happened (Point point state) ∷ before) = stamp_by panel before
  stamp_by panel (Happened (Cable who line piece state) ∷ before) = stamp_by panel before
  stamp_by panel (Happened (Supply who kind bad) ∷ before) = stamp_by panel before
  stamp_by panel (Happened (Confirmed output) ∷ before) = stamp_by panel before
  stamp_by panel (Turned other LinkTask ∷ before) =
      elim (eqb_tells other panel) [
        | inl t ↦ rw t.0 (let e = ap (λ q. latest_turn q Hold before) t.1 in let l = latest_stamp other before in omega (arith, l, e))
        | inr t ↦ rw t.0 (stamp_by panel before)
      ]
    where
      latest_stamp : (other : ℕ) (before : List Moment) → (latest_word site kept done told other before).stamp.0 ≡ latest_turn other Hold before
      latest_stamp other before = stamp_is other (made_at other before) ∙ made_tick other before
  stamp_by panel (Turned other task ∷ before) = let r = latest_rises panel Hold (Turned other task) before in let ih = stamp_by panel before in
      omega (arith, r, ih)
  stamp_by panel (Kept failed ∷ before) = stamp_by panel before

  stamps_rise : (m : List Moment) → OwnStampsRise (ring_calls site kept done told m)
  stamps_rise [] = tt
  stamps_rise (Began ∷ before) = stamps_rise before
  stamps_rise (Happened (Link link up) ∷ before) = stamps_rise before
  stamps_rise (Happened (Op who code operation) ∷ before) = stamps_rise before
  stamps_rise (Happened (Point point state) ∷ before) = stamps_rise before
  stamps_rise (Happened (Cable who line piece state) ∷ before) = stamps_rise before
  stamps_rise (Happened (Supply who kind bad) ∷ before) = stamps_rise before
  stamps_rise (Happened (Confirmed output) ∷ before) = stamps_rise before
  stamps_rise (Turned panel LinkTask ∷ before) = (
    let s = stamp_is panel (made_at panel before) in let t = made_tick panel before in let l =
        stamp_by panel before in omega (arith, s, t, l),
    stamps_rise before,
  )
  stamps_rise (Turned panel task ∷ before) = stamps_rise before
  stamps_rise (Kept failed ∷ before) = stamps_rise before

pub kept_by_ring : KeptByTheRing
kept_by_ring site kept done told moments panel source few p s = keeps_same site kept done told few moments panel source p s

pub newest_over_chains : NewestOverChains
newest_over_chains site kept done told moments panel source few p s =
    subst (λ w. IsNewest site.panels source panel (ring_calls site kept done told moments) w)
    (keeps_same site kept done told few moments panel source p s)
    (kept_is_newest site.panels source panel (ring_calls site kept done told moments) (stamps_rise site kept done told moments))
