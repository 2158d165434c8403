-- What the steps of a text make of the faults that it told.
use Rattle.std.proofs.Common.{◌≡◌, ℕ, zero, suc, ◌+◌, ◌-◌, ◌≤◌, ◌<◌, ◌&&◌, not, Bool, true, false, if◌then◌else◌, List, [], ◌∷◌, length, get_or, replicate, Option, Some, None, slice_get, inl, inr}
use Rattle.std.proofs.Common.{refl, sym, ◌∙◌, ap, subst, arith, add-one}
use Rattle.std.specs.Prelude.{nat_le}
use Rattle.std.proofs.lemmas.Bool.Decides.{leb_tells}
use Rattle.std.proofs.lemmas.List.{get_or-replicate, length-replicate}
use Rattle.std.proofs.lemmas.Option.{slice_get-get_or, slice_get_within}
use Rattle.face_text.specs.declared.face.Face.{Face}
use Rattle.face_text.specs.declared.step.Step.{Step}
use Rattle.face_text.specs.declared.timeline.Timeline.{Timeline}
use Rattle.audit_rules.specs.Shown.{faces_after, text_tells_fault}
use Rattle.caused_zones.specs.Marks.{AreEachAfter}
use Rattle.shown_causes.specs.declared.fault_told.FaultTold.{FaultTold}
use Rattle.shown_causes.specs.declared.told_faults.ToldFaults.{ToldFaults}
use Rattle.shown_causes.specs.Faults.{DoStepsRise, FaultStands, FaultsStand, IsLastTold, shows_fault_at, told_after, told_last}

-- no fault was told
abbrev pub quiet_told : FaultTold
quiet_told = record { lasts = false; last = None }

-- the faces after so many steps
abbrev pub faces_behind : ℕ → List Face → List Step → List Face
faces_behind zero faces steps = faces
faces_behind (suc n) faces [] = faces
faces_behind (suc n) faces (step ∷ steps) = faces_behind n step.faces steps

le_true : (a b : ℕ) → a ≤ b → nat_le a b ≡ true
le_true a b l = elim (leb_tells a b) [ inl h ↦ h.0 | inr h ↦ absurd (omega (arith, h.1, l)) ]

le_false : (a b : ℕ) → b < a → nat_le a b ≡ false
le_false a b l = elim (leb_tells a b) [ inl h ↦ absurd (omega (arith, h.1, l)) | inr h ↦ h.0 ]

-- where the first so many steps are those up to a tick, the faces after it are theirs
faces_are : (tick n : ℕ) (faces : List Face) (steps : List Step) → ((k : ℕ) (step : Step) → k < n → slice_get steps k ≡ Some step → step.tick.0 ≤ tick)
    → ((step : Step) → slice_get steps n ≡ Some step → tick < step.tick.0) → faces_after tick faces steps ≡ faces_behind n faces steps
faces_are tick zero faces [] by late = refl
faces_are tick (suc n) faces [] by late = refl
faces_are tick zero faces (step ∷ steps) by late =
    ap (λ b. if b then faces_after tick step.faces steps else faces) (le_false step.tick.0 tick (late step refl))
faces_are tick (suc n) faces (step ∷ steps) by late =
    ap (λ b. if b then faces_after tick step.faces steps else faces) (le_true step.tick.0 tick (by 0 step (omega arith) refl))
    ∙ faces_are tick n step.faces steps (λ k s l at. by (suc k) s (omega (arith, l)) at) late

-- the faces of the last of them
faces_next : (n : ℕ) (faces : List Face) (steps : List Step) (step : Step) → slice_get steps n ≡ Some step
    → faces_behind (suc n) faces steps ≡ step.faces
faces_next zero faces [] step at = absurd cc
faces_next (suc n) faces [] step at = absurd cc
faces_next zero faces (x ∷ steps) step at = let e : x ≡ step = cc in ap (λ (s : Step). s.faces) e
faces_next (suc n) faces (x ∷ steps) step at = faces_next n x.faces steps step at

-- a tick more of one panel
fault_after : (was_told : ℕ → Bool) (before now : ℕ) (fault : Bool) (told : FaultTold) → now ≡ before + 1 → was_told now ≡ fault
    → FaultStands was_told before told → FaultStands was_told now (told_after now fault told)
fault_after was_told before now true told next is stands = record {
  lasts = is;
  last = ((omega arith, is), λ t h. h.0);
}
fault_after was_told before now false told next is stands = record {
  lasts = is;
  last = by_last told.lasts refl;
}
  where
    earlier : (t : ℕ) → t ≤ now → was_told t ≡ true → t ≤ before
    earlier t l h =
        elim (leb_tells t before) [
          | inl k ↦ k.1
          | inr k ↦ absurd (let a = k.1 in let e : t ≡ now = omega (arith, a, l, next) in
              differ (was_told now) (subst (λ x. was_told x ≡ true) e h) is)
        ]
      where
        differ : (x : Bool) → x ≡ true → x ≡ false → ⊥
        differ true p q = absurd cc
        differ false p q = absurd cc

    on : (last : Option ℕ) → IsLastTold was_told before last → IsLastTold was_told now last
    on None h = λ t g. h t (earlier t g.0 g.1, g.1)
    on (Some last) h = (let l = h.0.0 in ((omega (arith, l, next), h.0.1), λ t g. h.1 t (earlier t g.0 g.1, g.1)))

    by_last : (b : Bool) → told.lasts ≡ b → IsLastTold was_told now (told_last now (told_after now false told))
    by_last true e =
        (let was = subst (IsLastTold was_told before) (ap (λ b. if b then Some before else told.last) e) stands.last in
        let same : before ≡ now - 1 = omega (arith, next) in
        subst (IsLastTold was_told now) (sym (ap (λ b. if b && not false then Some (now - 1) else told.last) e))
        (on (Some (now - 1)) (subst (λ x. IsLastTold was_told before (Some x)) same was)))
    by_last false e =
        (let was = subst (IsLastTold was_told before) (ap (λ b. if b then Some before else told.last) e) stands.last in
        subst (IsLastTold was_told now) (sym (ap (λ b. if b && not false then Some (now - 1) else told.last) e)) (on told.last was))

-- the first
fault_first : (was_told : ℕ → Bool) (fault : Bool) (told : FaultTold) → told.lasts ≡ false → told.last ≡ None → was_told 0 ≡ fault
    → FaultStands was_told 0 (told_after 0 fault told)
fault_first was_told fault told quiet none is = record {
  lasts = is;
  last = go fault is;
}
  where
    none_is : told.last ≡ None → (b : Bool) → (if told.lasts && b then Some 0 else told.last) ≡ None
    none_is e b = ap (λ x. if x && b then Some 0 else told.last) quiet ∙ e

    go : (b : Bool) → was_told 0 ≡ b → IsLastTold was_told 0 (told_last 0 (told_after 0 b told))
    go true e = ((omega arith, e), λ t h. h.0)
    go false e =
        subst (IsLastTold was_told 0) (sym (none_is none (not false)))
        (λ t h. (let l = h.0 in let z : t ≡ 0 = omega (arith, l) in differ (was_told 0) (subst (λ x. was_told x ≡ true) z h.1) e))
      where
        differ : (x : Bool) → x ≡ true → x ≡ false → ⊥
        differ true p q = absurd cc
        differ false p q = absurd cc

-- a tick without a step: what is told stays
stays : (told : FaultTold) (now : ℕ) → told ≡ told_after now told.lasts told
stays told now = go told.lasts told.last
  where
    go : (lasts : Bool) (last : Option ℕ) → record { lasts = lasts; last = last } ≡ told_after now lasts (record { lasts = lasts; last = last })
    go true last = refl
    go false last = refl

-- the step at a place of a list
pub got_step : (xs : List Step) (k : ℕ) (x : Step) → k < length xs → x ≡ get_or xs k x → slice_get xs k ≡ Some x
got_step xs k x within is = slice_get-get_or xs k x within ∙ ap Some (sym is)

pub late_step : (steps : List Step) (k now : ℕ) (step : Step) → slice_get steps k ≡ Some step → now < step.tick.0 → (other : Step)
    → slice_get steps k ≡ Some other → now < other.tick.0
late_step steps k now step at late other is = subst (λ (x : Step). now < x.tick.0) (same (sym at ∙ is)) late
  where
    same : Some step ≡ Some other → step ≡ other
    same e = cc

-- at opening
pub faults_first : (timeline : Timeline) (opened : ToldFaults) → DoStepsRise timeline.steps → opened.next ≡ 0
    → AreEachAfter (λ place told. told_after 0 (shows_fault_at timeline.opened place) told) (replicate 8 quiet_told) opened.panels
    → FaultsStand timeline 0 opened
faults_first timeline opened rising none are = record {
  rising = rising;
  within = omega (arith, none);
  earlier = λ place step l at. absurd (omega (arith, l, none));
  later = λ step at. rising.from_one opened.next step at;
  panels = λ place other l. (
      let told = get_or (replicate 8 quiet_told) place other in
      let is : told ≡ quiet_told = get_or-replicate 8 place quiet_told other l in
      let faces = faces_are 0 0 timeline.opened timeline.steps (λ k step less at. absurd (omega (arith, less))) (λ step at. rising.from_one 0 step at) in
      subst (FaultStands (text_tells_fault timeline (place + 1)) 0)
      (sym (are.each place other (let size = length-replicate 8 quiet_told in omega (arith, l, size))))
      (fault_first (text_tells_fault timeline (place + 1)) (shows_fault_at timeline.opened place) told (ap (λ (t : FaultTold). t.lasts) is)
      (ap (λ (t : FaultTold). t.last) is) (ap (λ fs. shows_fault_at fs place) faces)));
}

module _ (timeline : Timeline) (before now : ℕ) (next : now ≡ before + 1) (old : ToldFaults) (stand : FaultsStand timeline before old) where
  -- a step of this tick
  pub faults_told : (step : Step) (new : ToldFaults) → slice_get timeline.steps old.next ≡ Some step → step.tick.0 ≤ now → new.next ≡ old.next + 1
      → length old.panels ≡ 8
      → AreEachAfter (λ place told. told_after now (shows_fault_at step.faces place) told) old.panels new.panels → FaultsStand timeline now new
  faults_told step new at by one size are = record {
    rising = stand.rising;
    within = (let inside = slice_get_within timeline.steps old.next step at in omega (arith, inside, one));
    earlier = earlier;
    later = later;
    panels = λ place other l. (
        let faces = faces_are now new.next timeline.opened timeline.steps earlier later
        ∙ ap (λ n. faces_behind n timeline.opened timeline.steps) (one ∙ add-one old.next) ∙ faces_next old.next timeline.opened timeline.steps step at in
        subst (FaultStands (text_tells_fault timeline (place + 1)) now) (sym (are.each place other (omega (arith, l, size))))
        (fault_after (text_tells_fault timeline (place + 1)) before now (shows_fault_at step.faces place) (get_or old.panels place other) next
        (ap (λ fs. shows_fault_at fs place) faces) (stand.panels place other l)));
  }
    where
      earlier : (k : ℕ) (s : Step) → k < new.next → slice_get timeline.steps k ≡ Some s → s.tick.0 ≤ now
      earlier k s l is =
          elim (leb_tells old.next k) [
            | inl h ↦ (let a = h.1 in let e : k ≡ old.next = omega (arith, a, l, one) in
                let same : s ≡ step = same_step s step (sym is ∙ ap (slice_get timeline.steps) e ∙ at) in
                subst (λ (x : Step). x.tick.0 ≤ now) (sym same) by)
            | inr h ↦ (let b = stand.earlier k s h.1 is in omega (arith, b, next))
          ]
        where
          same_step : (a b : Step) → Some a ≡ Some b → a ≡ b
          same_step a b e = cc

      later : (s : Step) → slice_get timeline.steps new.next ≡ Some s → now < s.tick.0
      later s is =
          let low = stand.later step at in
          let up = stand.rising.rise old.next new.next step s (omega (arith, one)) at is in
          omega (arith, low, up, next)

  -- none
  pub faults_stay : ((step : Step) → slice_get timeline.steps old.next ≡ Some step → now < step.tick.0) → FaultsStand timeline now old
  faults_stay late = record {
    rising = stand.rising;
    within = stand.within;
    earlier = λ k s l is. (let b = stand.earlier k s l is in omega (arith, b, next));
    later = late;
    panels = λ place other l. (
        let was = stand.panels place other l in
        let told = get_or old.panels place other in
        let same = faces_are now old.next timeline.opened timeline.steps (λ k s l is. (let b = stand.earlier k s l is in omega (arith, b, next))) late
        ∙ sym (faces_are before old.next timeline.opened timeline.steps stand.earlier stand.later) in
        subst (FaultStands (text_tells_fault timeline (place + 1)) now) (sym (stays told now))
        (fault_after (text_tells_fault timeline (place + 1)) before now told.lasts told next
        (ap (λ fs. shows_fault_at fs place) same ∙ was.lasts) was));
  }
