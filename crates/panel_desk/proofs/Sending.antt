-- What a reply is written as.
use Rattle.std.proofs.Common.{◌≡◌, ◌∙◌, ◌++◌, ◌+◌, ◌-◌, ◌<◌, ℕ, Bool, List, length, append_assoc, Option, Result, Ok, Err, sym, ap, subst, arith, get_or}
use Rattle.std.specs.Prelude.{OnErr, OnOk}
use Rattle.std.specs.Result.{IsErr}
use Rattle.panel_edges.proofs.Growing.{grows_more}
use Rattle.site_run.specs.Acting.{TellsTick}
use Rattle.std.proofs.lemmas.List.FromFn.{get_or-map-range_with_len, length-map-range_with_len}
use Rattle.desk_answers.specs.AnswerHeads.{answer_head}
use Rattle.desk_answers.specs.ProfileTables.{table_text}
use Rattle.desk_answers.specs.declared.content.Content.TheVariants.{Json, Text}
use Rattle.desk_faces.specs.FaceObjects.{face_object}
use Rattle.desk_requests.specs.declared.status.Status.TheVariants.{Done}
use Rattle.desk_runs.specs.Ticks.{at_rest}
use Rattle.face_text.specs.declared.face.Face.{Face}
use Rattle.panel_desk.specs.Acting.{IsAtHand, SaysServed, TellsReply}
use Rattle.panel_desk.specs.Replies.{last_text, reply_bytes}
use Rattle.panel_desk.specs.Serving.{SentBy}
use Rattle.panel_desk.specs.declared.reply.Reply.{Reply}
use Rattle.panel_desk.specs.declared.reply.Reply.TheVariants.{Face as FaceOf, Profile, Tick as TickOf}
use Rattle.panel_desk.specs.declared.served.Served.{Served}
use Rattle.panel_desk.specs.declared.served.Served.TheVariants.{Answered, Stopped, Ended, ReadFault, WriteFault}
use Rattle.panel_edges.specs.Contents.{Grows, GrowsByFront}
use Rattle.panel_edges.specs.declared.failed.Failed.{Failed}
use Rattle.panel_rules.specs.Moments.{TickBlock, moments}
use Rattle.panel_rules.specs.Timeline.{face_of}
use Rattle.site_run.specs.Records.{Progress}
use Rattle.site_run.specs.Stands.{Stands}
use Rattle.site_run.specs.declared.run.Run.{Run}
use Rattle.site_types.specs.declared.retained.Retained.{Retained}
use Rattle.site_types.specs.declared.site.Site.{Site}

-- a reply was sent so
pub sent : (site : Site) (kept : Retained) (ticks : List TickBlock) (reply : Reply) (old new : Option (List ℕ)) (written : Result (Unit {0}) Failed) (served : Served)
    → SaysServed reply written served → OnOk written (Grows old new (reply_bytes site kept ticks reply))
    → OnErr written (GrowsByFront old new (reply_bytes site kept ticks reply)) → SentBy site kept ticks reply old new served
sent site kept ticks reply old new (Ok done) (Answered status) says ok err = (says.0, says.1, ok)
sent site kept ticks reply old new (Ok done) Stopped says ok err = (says, ok)
sent site kept ticks reply old new (Ok done) Ended says ok err = absurd says
sent site kept ticks reply old new (Ok done) ReadFault says ok err = absurd says
sent site kept ticks reply old new (Ok done) WriteFault says ok err = absurd says
sent site kept ticks reply old new (Err failed) served says ok err = subst (SentBy site kept ticks reply old new) (sym says) err

-- a face that was written is the reply
pub face_told : (Wrote : List ℕ → Type 0) (run : Run) (panel : ℕ) (shown : List Face) (other : Face) (there : Site) (tick : ℕ)
    → ((site : Site) (kept : Retained) (p : Progress) → Stands site kept p run → there ≡ site) → shown ≡ run.shown.items → tick ≡ run.ticks
    → Wrote (answer_head Done Json ++ face_object there (get_or shown (panel - 1) other) tick) → TellsReply Wrote (FaceOf panel) run
face_told Wrote run panel shown other there tick same is count wrote site kept ticks stands member =
    let low = member.0 in
    let high = member.1 in
    let face =
    ap (λ (fs : List Face). get_or fs (panel - 1) other) (is ∙ stands.shown)
    ∙ get_or-map-range_with_len (λ p. face_of site kept p (moments ticks)) 1 site.panels (panel - 1) panel other (omega (arith, low, high)) (omega (arith, low)) in
    subst Wrote
    (ap (λ s. answer_head Done Json ++ face_object s (get_or shown (panel - 1) other) tick) (same site kept (at_rest ticks) stands)
    ∙ ap (λ f. answer_head Done Json ++ face_object site f tick) face
    ∙ ap (λ n. answer_head Done Json ++ face_object site (face_of site kept panel (moments ticks)) n) (count ∙ stands.count)) wrote

-- the place of a panel's face is there
pub face_there : (site : Site) (kept : Retained) (ticks : List TickBlock) (run : Run) (reply : Reply) (panel : ℕ) (shown : List Face) → Stands site kept (at_rest ticks) run
    → IsAtHand site kept ticks reply run → reply ≡ FaceOf panel → shown ≡ run.shown.items → panel - 1 < length shown
face_there site kept ticks run reply panel shown stands at_hand is same =
    let member = subst (λ r. IsAtHand site kept ticks r run) is at_hand in
    let low = member.0 in
    let high = member.1 in
    let long =
    ap (λ (fs : List Face). length fs) (same ∙ stands.shown)
    ∙ length-map-range_with_len (λ p. face_of site kept p (moments ticks)) 1 site.panels in
    omega (arith, low, high, long)

-- the profile's table of the site's format is the reply
pub table_told : (Wrote : List ℕ → Type 0) (run : Run) (there : Site) (format : ℕ) → ((site : Site) (kept : Retained) (p : Progress) → Stands site kept p run → there ≡ site)
    → format ≡ there.format → Wrote (answer_head Done Json ++ table_text format) → TellsReply Wrote Profile run
table_told Wrote run there format same is wrote site kept ticks stands at_hand =
    subst (λ n. Wrote (answer_head Done Json ++ table_text n)) (is ∙ ap (λ (s : Site). s.format) (same site kept (at_rest ticks) stands)) wrote

-- ---- the text of a tick, behind its head

module _ (old mid new : Option (List ℕ)) (run : Run) (head : List ℕ) (is : head ≡ answer_head Done Text) where
  pub tick_written : Grows old mid head → TellsTick (Grows mid new) run → TellsReply (Grows old new) TickOf run
  tick_written first tells site kept ticks stands (tick, before, same, shown) =
      let told = tells site kept tick before (subst (λ ts. Stands site kept (at_rest ts) run) same stands) shown in
      subst (λ ts. Grows old new (answer_head Done Text ++ last_text site kept ts)) (sym same)
      (grows_more old mid new (answer_head Done Text) _ (subst (Grows old mid) is first) told)

  pub tick_broken : Grows old mid head → TellsTick (GrowsByFront mid new) run → TellsReply (GrowsByFront old new) TickOf run
  tick_broken first tells site kept ticks stands (tick, before, same, shown) =
      let told = tells site kept tick before (subst (λ ts. Stands site kept (at_rest ts) run) same stands) shown in
      subst (λ ts. GrowsByFront old new (answer_head Done Text ++ last_text site kept ts)) (sym same) (
        answer_head Done Text ++ told.0,
        told.1,
        ap (λ xs. answer_head Done Text ++ xs) told.2 ∙ sym (append_assoc (answer_head Done Text) told.0 told.1),
        grows_more old mid new (answer_head Done Text) told.0 (subst (Grows old mid) is first) told.3,
      )

  pub head_broken : GrowsByFront old new head → TellsReply (GrowsByFront old new) TickOf run
  head_broken (front, rest, parts, grows) site kept ticks stands at_hand = (
    front,
    rest ++ last_text site kept ticks,
    ap (λ xs. xs ++ last_text site kept ticks) (sym is ∙ parts) ∙ append_assoc front rest (last_text site kept ticks),
    grows,
  )

pub of_err : {T E : Type 0} {P : Type 0} (r : Result T E) → IsErr r → P → OnErr r P
of_err (Ok x) is p = absurd cc
of_err (Err e) is p = p
