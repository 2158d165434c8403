-- Nothing of what was answered and done is taken back.
use Rattle.std.proofs.Common.{◌≡◌, ℕ, List, [], ◌∷◌, ◌++◌, Option, Some, None, Bool, true, false, refl, ◌∙◌, ap}
use Rattle.tick_units.specs.declared.task.Task.TheVariants.{Desk}
use Rattle.site_types.specs.declared.retained.Retained.{Retained}
use Rattle.site_types.specs.declared.site.Site.{Site}
use Rattle.site_types.specs.Done.{Done}
use Rattle.panel_rules.specs.Moments.{Moment, Began, Happened, Turned, Kept, tick_of, IsPast, present, later}
use Rattle.panel_rules.specs.Operations.{Request, Reply, Busy, Denied, Waiting, Already, Store, WasDone, Answered}
use Rattle.panel_rules.specs.Operations.{Operations, requests_in, requests, done_in, after_reply, desk_reply}
use Rattle.panel_rules.specs.Operations.{after_request, after_desk, keep_reply, answer_all, do_all, after_keep}
use Rattle.panel_rules.specs.Operations.{operations}
use Rattle.panel_laws.specs.OperationLaws.{Extends, AnswersStay}

pub itself : {X : Type 0} (xs : List X) → Extends xs xs
itself xs = record { newer = []; is = refl }

pub one_more : {X : Type 0} (older whole : List X) (x : X) → Extends older whole → Extends older (x ∷ whole)
one_more older whole x h = record { newer = x ∷ h.newer; is = ap (λ xs. x ∷ xs) h.is }

pub extends_on : {X : Type 0} (first second third : List X) → Extends first second → Extends second third → Extends first third
extends_on first second third h g = record { newer = g.newer ++ h.newer; is = g.is ∙ ap (λ xs. g.newer ++ xs) h.is ∙ join g.newer h.newer first }
  where
    join : {X : Type 0} (xs ys zs : List X) → xs ++ (ys ++ zs) ≡ (xs ++ ys) ++ zs
    join [] ys zs = refl
    join (x ∷ xs) ys zs = ap (λ ws. x ∷ ws) (join xs ys zs)

-- both lists of some operations go on from those of others
record GoesOn (before after : Operations) : Type 0 where
  answers : Extends before.answers after.answers
  done : Extends before.done after.done

same_operations : (so_far : Operations) → GoesOn so_far so_far
same_operations so_far = record { answers = itself so_far.answers; done = itself so_far.done }

goes_on : (first second third : Operations) → GoesOn first second → GoesOn second third → GoesOn first third
goes_on first second third h g = record {
  answers = extends_on first.answers second.answers third.answers h.answers g.answers;
  done =
      extends_on first.done second.done third.done h.done g.done;
}

reply_goes_on : (r : Request) (so_far : Operations) (reply : Option Reply) → GoesOn so_far (after_reply r so_far reply)
reply_goes_on r so_far None = record { answers = itself so_far.answers; done = itself so_far.done }
reply_goes_on r so_far (Some Busy) = record { answers = one_more so_far.answers so_far.answers _ (itself so_far.answers); done = itself so_far.done }
reply_goes_on r so_far (Some (Denied needs has)) = record {
  answers = one_more so_far.answers so_far.answers _ (itself so_far.answers);
  done =
      itself so_far.done;
}
reply_goes_on r so_far (Some Waiting) = record {
  answers = one_more so_far.answers so_far.answers _ (itself so_far.answers);
  done =
      itself so_far.done;
}
reply_goes_on r so_far (Some Already) = record {
  answers = one_more so_far.answers so_far.answers _ (itself so_far.answers);
  done =
      itself so_far.done;
}
reply_goes_on r so_far (Some Store) = record { answers = one_more so_far.answers so_far.answers _ (itself so_far.answers); done = itself so_far.done }
reply_goes_on r so_far (Some WasDone) = record {
  answers = one_more so_far.answers so_far.answers _ (itself so_far.answers);
  done =
      one_more so_far.done so_far.done _ (itself so_far.done);
}

desk_goes_on : (site : Site) (kept : Retained) (taken : List Request) (so_far : Operations) → GoesOn so_far (after_desk site kept taken so_far)
desk_goes_on site kept [] so_far = same_operations so_far
desk_goes_on site kept (r ∷ taken) so_far =
    goes_on so_far (after_request site kept so_far r) (after_desk site kept taken (after_request site kept so_far r))
    (reply_goes_on r so_far (desk_reply site kept r so_far)) (desk_goes_on site kept taken (after_request site kept so_far r))

all_answered : (tick : ℕ) (failed : Bool) (waiting : List Request) (answers : List Answered)
    → Extends answers (answer_all tick failed waiting answers)
all_answered tick failed [] answers = itself answers
all_answered tick failed (r ∷ waiting) answers =
    let x : Answered = record { request = r; tick = tick; reply = keep_reply failed } in
    extends_on answers (x ∷ answers) (answer_all tick failed waiting (x ∷ answers)) (one_more answers answers x (itself answers))
    (all_answered tick failed waiting (x ∷ answers))

all_done : (tick : ℕ) (waiting : List Request) (done : List Done) → Extends done (do_all tick waiting done)
all_done tick [] done = itself done
all_done tick (r ∷ waiting) done =
    extends_on done (done_in tick r ∷ done) (do_all tick waiting (done_in tick r ∷ done)) (one_more done done (done_in tick r) (itself done))
    (all_done tick waiting (done_in tick r ∷ done))

keep_goes_on : (tick : ℕ) (failed : Bool) (so_far : Operations) → GoesOn so_far (after_keep tick failed so_far)
keep_goes_on tick true so_far = record { answers = all_answered tick true so_far.waiting so_far.answers; done = itself so_far.done }
keep_goes_on tick false so_far =
    record { answers = all_answered tick false so_far.waiting so_far.answers; done = all_done tick so_far.waiting so_far.done }

next : (site : Site) (kept : Retained) (moment : Moment) (before : List Moment)
    → GoesOn (operations site kept before) (operations site kept (moment ∷ before))
next site kept Began before = same_operations (operations site kept before)
next site kept (Happened event) before = same_operations (operations site kept before)
next site kept (Turned panel Desk) before =
    desk_goes_on site kept (requests_in panel (tick_of before) (requests site before)) (operations site kept before)
next site kept (Turned panel task) before = same_operations (operations site kept before)
next site kept (Kept failed) before = keep_goes_on (tick_of before) failed (operations site kept before)

all_goes_on : (site : Site) (kept : Retained) (past moments : List Moment) → IsPast past moments
    → GoesOn (operations site kept past) (operations site kept moments)
all_goes_on site kept past moments present = same_operations (operations site kept moments)
all_goes_on site kept past moments (later moment before h) =
    goes_on (operations site kept past) (operations site kept before) (operations site kept (moment ∷ before)) (all_goes_on site kept past before h)
    (next site kept moment before)

pub answers_stay : AnswersStay
answers_stay site kept past moments h = let g = all_goes_on site kept past moments h in (g.answers, g.done)
