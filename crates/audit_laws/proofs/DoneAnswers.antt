-- What was done was answered as done, and what was answered so was done, in the tick of the answer.
use Rattle.std.proofs.Common.{◌≡◌, ℕ, zero, suc, ◌≤◌, ◌<◌, ◌==◌, ◌&&◌, Bool, true, false, List, [], ◌∷◌, Option, Some, None, slice_get, inl}
use Rattle.std.proofs.Common.{inr, refl, sym, ◌∙◌, ap, arith}
use Rattle.std.specs.List.{AllByRecursion}
use Rattle.std.proofs.lemmas.Bool.Decides.{leb_tells}
use Rattle.tick_units.specs.declared.task.Task.TheVariants.{Desk}
use Rattle.site_types.specs.declared.retained.Retained.{Retained}
use Rattle.site_types.specs.declared.site.Site.{Site}
use Rattle.site_types.specs.Done.{Done}
use Rattle.panel_rules.specs.Moments.{Moment, Began, Happened, Turned, Kept, later, present, tick_of, up_to}
use Rattle.panel_rules.specs.Operations.{Answered, Operations, Reply, Request, Busy, Denied, Waiting, Already, Store, WasDone, after_desk, after_keep}
use Rattle.panel_rules.specs.Operations.{after_reply, after_request, answer_all, desk_reply, do_all, done_in, keep_reply, operations, requests}
use Rattle.panel_rules.specs.Operations.{requests_in}
use Rattle.panel_rules.proofs.Bools.{parts}
use Rattle.panel_rules.proofs.Counting.{each_at, each_filtered, each_to}
use Rattle.panel_rules.proofs.Turns.{tick_rises}
use Rattle.panel_laws.proofs.AnswerLaws.{eq_is}
use Rattle.audit_laws.specs.DoneTold.{IsAmongDone}

-- an answer that tells it
pub record IsAnswered (answers : List Answered) (d : Done) : Type 0 where
  pub place : ℕ
  pub answer : Answered
  pub is : slice_get answers place ≡ Some answer
  pub reply : answer.reply ≡ WasDone
  pub same : d ≡ done_in answer.tick answer.request

abbrev pub WasDoneThen : List Done → Answered → Type 0
WasDoneThen done a = a.reply ≡ WasDone → IsAmongDone (done_in a.tick a.request) done

pub record Agree (so_far : Operations) : Type 0 where
  pub answered : AllByRecursion (IsAnswered so_far.answers) so_far.done
  pub done : AllByRecursion (WasDoneThen so_far.done) so_far.answers

-- one more answer, and one more that was done
answered_more : (a : Answered) (answers : List Answered) (d : Done) → IsAnswered answers d → IsAnswered (a ∷ answers) d
answered_more a answers d h = record { place = suc h.place; answer = h.answer; is = h.is; reply = h.reply; same = h.same }

all_answered_more : (a : Answered) (answers : List Answered) (done : List Done) → AllByRecursion (IsAnswered answers) done
    → AllByRecursion (IsAnswered (a ∷ answers)) done
all_answered_more a answers done all = each_to (IsAnswered answers) (IsAnswered (a ∷ answers)) done (answered_more a answers) all

done_more : (d : Done) (done : List Done) (a : Answered) → WasDoneThen done a → WasDoneThen (d ∷ done) a
done_more d done a h e = let g = h e in record { place = suc g.place; is = g.is }

all_done_more : (d : Done) (done : List Done) (answers : List Answered) → AllByRecursion (WasDoneThen done) answers
    → AllByRecursion (WasDoneThen (d ∷ done)) answers
all_done_more d done answers all = each_to (WasDoneThen done) (WasDoneThen (d ∷ done)) answers (done_more d done) all

-- an answer that isn't `done` adds nothing to what was done
told_else : (a : Answered) (so_far : Operations) → ((e : a.reply ≡ WasDone) → ⊥) → Agree so_far
    → Agree (record so_far { answers = a ∷ so_far.answers })
told_else a so_far other h = record {
  answered = all_answered_more a so_far.answers so_far.done h.answered;
  done = ((λ e. absurd (other e)), h.done);
}

told_done : (a : Answered) (waiting : List Request) (answers : List Answered) (done : List Done) → a.reply ≡ WasDone
    → AllByRecursion (IsAnswered answers) done → AllByRecursion (WasDoneThen done) answers
    → AllByRecursion (IsAnswered (a ∷ answers)) (done_in a.tick a.request ∷ done)
    × AllByRecursion (WasDoneThen (done_in a.tick a.request ∷ done)) (a ∷ answers)
told_done a waiting answers done is all each = (
  (record { place = 0; answer = a; is = refl; reply = is; same = refl }, all_answered_more a answers done all),
  ((λ e. record { place = 0; is = refl }), all_done_more (done_in a.tick a.request) done answers each),
)

reply_agrees : (r : Request) (so_far : Operations) (reply : Option Reply) → Agree so_far → Agree (after_reply r so_far reply)
reply_agrees r so_far None h = record { answered = h.answered; done = h.done }
reply_agrees r so_far (Some Busy) h = told_else _ so_far (λ e. cc) h
reply_agrees r so_far (Some (Denied needs has)) h = told_else _ so_far (λ e. cc) h
reply_agrees r so_far (Some Waiting) h = told_else _ so_far (λ e. cc) h
reply_agrees r so_far (Some Already) h = told_else _ so_far (λ e. cc) h
reply_agrees r so_far (Some Store) h = told_else _ so_far (λ e. cc) h
reply_agrees r so_far (Some WasDone) h =
    let g = told_done (record { request = r; tick = r.tick; reply = WasDone }) so_far.waiting so_far.answers so_far.done refl h.answered h.done in
    record { answered = g.0; done = g.1 }

desk_agrees : (site : Site) (kept : Retained) (taken : List Request) (so_far : Operations) → Agree so_far
    → Agree (after_desk site kept taken so_far)
desk_agrees site kept [] so_far h = h
desk_agrees site kept (r ∷ taken) so_far h =
    desk_agrees site kept taken (after_request site kept so_far r) (reply_agrees r so_far (desk_reply site kept r so_far) h)

module _ (tick : ℕ) where
  stored : (waiting : List Request) (answers : List Answered) (done : List Done) → AllByRecursion (IsAnswered answers) done
      → AllByRecursion (WasDoneThen done) answers
      → AllByRecursion (IsAnswered (answer_all tick false waiting answers)) (do_all tick waiting done)
      × AllByRecursion (WasDoneThen (do_all tick waiting done)) (answer_all tick false waiting answers)
  stored [] answers done all each = (all, each)
  stored (r ∷ waiting) answers done all each =
      let a : Answered = record { request = r; tick = tick; reply = WasDone } in
      let g = told_done (record { request = r; tick = tick; reply = WasDone }) waiting answers done refl all each in
      stored waiting (a ∷ answers) (done_in tick r ∷ done) g.0 g.1

  not_stored : (waiting : List Request) (answers : List Answered) (done : List Done) → AllByRecursion (IsAnswered answers) done
      → AllByRecursion (WasDoneThen done) answers
      → AllByRecursion (IsAnswered (answer_all tick true waiting answers)) done
      × AllByRecursion (WasDoneThen done) (answer_all tick true waiting answers)
  not_stored [] answers done all each = (all, each)
  not_stored (r ∷ waiting) answers done all each =
      let a : Answered = record { request = r; tick = tick; reply = Store } in
      not_stored waiting (a ∷ answers) done (all_answered_more a answers done all) ((λ e. absurd cc), each)

  keep_agrees : (failed : Bool) (so_far : Operations) → Agree so_far → Agree (after_keep tick failed so_far)
  keep_agrees true so_far h =
      let g = not_stored so_far.waiting so_far.answers so_far.done h.answered h.done in record { answered = g.0; done = g.1 }
  keep_agrees false so_far h =
      let g = stored so_far.waiting so_far.answers so_far.done h.answered h.done in record { answered = g.0; done = g.1 }

module _ (site : Site) (kept : Retained) where
  pub agree : (m : List Moment) → Agree (operations site kept m)
  agree [] = record { answered = tt; done = tt }
  agree (Began ∷ before) = let h = agree before in record { answered = h.answered; done = h.done }
  agree (Happened event ∷ before) = let h = agree before in record { answered = h.answered; done = h.done }
  agree (Turned panel Desk ∷ before) =
      desk_agrees site kept (requests_in panel (tick_of before) (requests site before)) (operations site kept before) (agree before)
  agree (Turned panel task ∷ before) = let h = agree before in record { answered = h.answered; done = h.done }
  agree (Kept failed ∷ before) = keep_agrees (tick_of before) failed (operations site kept before) (agree before)

  -- what was done was answered
  pub done_answered : (m : List Moment) (d : Done) → IsAmongDone d (operations site kept m).done → IsAnswered (operations site kept m).answers d
  done_answered m d h = each_at (IsAnswered (operations site kept m).answers) (operations site kept m).done h.place d (agree m).answered h.is

  -- what was answered so was done
  pub answered_done : (m : List Moment) (place : ℕ) (a : Answered) → slice_get (operations site kept m).answers place ≡ Some a → a.reply ≡ WasDone
      → IsAmongDone (done_in a.tick a.request) (operations site kept m).done
  answered_done m place a is reply =
      each_at (WasDoneThen (operations site kept m).done) (operations site kept m).answers place a (agree m).done is reply

-- ---- an answer stands in its own tick

-- an answer that is there before, or is given now
data IsOld (tick : ℕ) (before : List Answered) (a : Answered) : Type 0 where
  was : (place : ℕ) → slice_get before place ≡ Some a → IsOld tick before a
  now : a.tick ≡ tick → IsOld tick before a

abbrev AreOld : ℕ → List Answered → List Answered → Type 0
AreOld tick before after = (place : ℕ) (a : Answered) → slice_get after place ≡ Some a → IsOld tick before a

same_answers : (tick : ℕ) (before : List Answered) → AreOld tick before before
same_answers tick before place a is = was place is

one_more : (tick : ℕ) (before after : List Answered) (x : Answered) → x.tick ≡ tick → AreOld tick before after → AreOld tick before (x ∷ after)
one_more tick before after x at h zero a is = let same : x ≡ a = cc in now (sym (ap (λ (y : Answered). y.tick) same) ∙ at)
one_more tick before after x at h (suc place) a is = h place a is

reply_old : (tick : ℕ) (before : List Answered) (r : Request) (so_far : Operations) (reply : Option Reply) → r.tick ≡ tick
    → AreOld tick before so_far.answers → AreOld tick before (after_reply r so_far reply).answers
reply_old tick before r so_far None at h = h
reply_old tick before r so_far (Some reply) at h = one_more tick before so_far.answers (record { request = r; tick = r.tick; reply = reply }) at h

desk_old : (site : Site) (kept : Retained) (tick : ℕ) (before : List Answered) (taken : List Request) (so_far : Operations)
    → AllByRecursion (λ (r : Request). r.tick ≡ tick) taken → AreOld tick before so_far.answers
    → AreOld tick before (after_desk site kept taken so_far).answers
desk_old site kept tick before [] so_far all h = h
desk_old site kept tick before (r ∷ taken) so_far all h =
    desk_old site kept tick before taken (after_request site kept so_far r) all.1
    (reply_old tick before r so_far (desk_reply site kept r so_far) all.0 h)

keep_old : (tick : ℕ) (failed : Bool) (before : List Answered) (waiting : List Request) (answers : List Answered)
    → AreOld tick before answers → AreOld tick before (answer_all tick failed waiting answers)
keep_old tick failed before [] answers h = h
keep_old tick failed before (r ∷ waiting) answers h =
    keep_old tick failed before waiting (record { request = r; tick = tick; reply = keep_reply failed } ∷ answers)
    (one_more tick before answers (record { request = r; tick = tick; reply = keep_reply failed }) refl h)

pub record StandsIn (answers : List Answered) (a : Answered) : Type 0 where
  pub place : ℕ
  pub is : slice_get answers place ≡ Some a

module _ (site : Site) (kept : Retained) where
  next_old : (moment : Moment) (before : List Moment)
      → AreOld (tick_of before) (operations site kept before).answers (operations site kept (moment ∷ before)).answers
  next_old Began before = same_answers _ _
  next_old (Happened event) before = same_answers _ _
  next_old (Turned panel Desk) before =
      desk_old site kept (tick_of before) (operations site kept before).answers (requests_in panel (tick_of before) (requests site before))
      (operations site kept before)
      (each_filtered (λ (r : Request). r.tick ≡ tick_of before) (λ (r : Request). (r.panel == panel) && (r.tick == tick_of before))
      (requests site before) (λ k r is t. eq_is r.tick (tick_of before) (parts (r.panel == panel) (r.tick == tick_of before) t).1))
      (same_answers _ _)
  next_old (Turned panel task) before = same_answers _ _
  next_old (Kept failed) before =
      keep_old (tick_of before) failed (operations site kept before).answers (operations site kept before).waiting
      (operations site kept before).answers (same_answers _ _)

  -- each answer is there at the end of its tick
  pub there_then : (m : List Moment) (place : ℕ) (a : Answered) → slice_get (operations site kept m).answers place ≡ Some a
      → StandsIn (operations site kept (up_to a.tick m)).answers a
  there_then [] place a is = cc
  there_then (moment ∷ before) place a is =
      elim (leb_tells (tick_of (moment ∷ before)) a.tick) [
        | inl h ↦ rw h.0 (record { place = place; is = is })
        | inr h ↦ rw h.0 (earlier moment is h.1 (next_old moment before place a is) (λ old at. there_then before old a at))
      ]
    where
      earlier : (moment : Moment) → slice_get (operations site kept (moment ∷ before)).answers place ≡ Some a → a.tick < tick_of (moment ∷ before)
          → IsOld (tick_of before) (operations site kept before).answers a
          → ((old : ℕ) → slice_get (operations site kept before).answers old ≡ Some a → StandsIn (operations site kept (up_to a.tick before)).answers a)
          → StandsIn (operations site kept (up_to a.tick before)).answers a
      earlier moment is late (was old at) ih = ih old at
      earlier Began is late (now e) ih = ih place is
      earlier (Happened event) is late (now e) ih = ih place is
      earlier (Turned panel task) is late (now e) ih = absurd (omega (arith, late, e))
      earlier (Kept failed) is late (now e) ih = absurd (omega (arith, late, e))

  -- no answer is of a later tick
  pub answered_in_time : (m : List Moment) (place : ℕ) (a : Answered) → slice_get (operations site kept m).answers place ≡ Some a
      → a.tick ≤ tick_of m
  answered_in_time [] place a is = cc
  answered_in_time (moment ∷ before) place a is = by (next_old moment before place a is) (λ old at. answered_in_time before old a at)
    where
      goes_on : tick_of before ≤ tick_of (moment ∷ before)
      goes_on = tick_rises before (moment ∷ before) (later moment before present)

      by : IsOld (tick_of before) (operations site kept before).answers a
          → ((old : ℕ) → slice_get (operations site kept before).answers old ≡ Some a → a.tick ≤ tick_of before)
          → a.tick ≤ tick_of (moment ∷ before)
      by (was old at) ih = let in_time = ih old at in let l = goes_on in omega (arith, in_time, l)
      by (now e) ih = let l = goes_on in omega (arith, e, l)
