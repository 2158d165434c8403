-- What the answers of operations say: one that was denied needed level 2 to 4 and had less, and each that
-- wasn't busy was among the first of its panel and tick.
use Rattle.std.proofs.Common.{◌≡◌, ℕ, ◌≤◌, ◌<◌, ◌⊎◌, inl, inr, Bool, true, false, List, [], ◌∷◌, Option, Some, None, if◌then◌else◌, refl, sym, ◌∙◌, ap, subst, arith}
use Rattle.std.specs.Prelude.{nat_le, nat_lt, option_map, slice_index_or}
use Rattle.std.specs.List.{AllByRecursion}
use Rattle.std.proofs.lemmas.Bool.Decides.{leb_tells}
use Rattle.tick_units.specs.declared.task.Task.TheVariants.{Desk}
use Rattle.site_types.specs.declared.event.Event.TheVariants.{Op, Point, Cable, Supply, Link, Confirmed}
use Rattle.site_types.specs.declared.operation.Operation.{Operation}
use Rattle.site_types.specs.declared.operation.Operation.TheVariants.{Mute, Override, Silence, Resound, Reset, Cancel, Disable, Enable, Test, Untest, Delays, Clear}
use Rattle.site_types.specs.declared.retained.Retained.{Retained}
use Rattle.site_types.specs.declared.site.Site.{Site}
use Rattle.site_types.specs.Done.{Setting, value_set}
use Rattle.site_types.specs.Limits.{most_operations}
use Rattle.access_levels.specs.Levels.{holds, level_in, level_of, needed_by}
use Rattle.face_text.specs.declared.op_answer.OpAnswer.{OpAnswer}
use Rattle.face_text.specs.declared.reply.Reply.{Reply as TextReply}
use Rattle.face_text.specs.declared.reply.Reply.TheVariants.{Done as DoneReply, Denied as DeniedReply, Waiting as WaitingText, Already as AlreadyText, Store as StoreReply}
use Rattle.face_text.specs.Timelines.{IsReply}
use Rattle.panel_rules.specs.Moments.{Moment, Began, Happened, Turned, Kept, tick_of}
use Rattle.panel_rules.specs.Operations.{Request, Reply, Busy, Denied, Waiting, Already, Store, WasDone, Answered}
use Rattle.panel_rules.specs.Operations.{Operations, requests_in, requests, setting_asked, is_unsettled, stands_so}
use Rattle.panel_rules.specs.Operations.{setting_reply, desk_reply, after_reply, after_request, after_desk}
use Rattle.panel_rules.specs.Operations.{keep_reply, answer_all, operations}
use Rattle.panel_rules.specs.Timeline.{is_busy, told_answer, told_reply}
use Rattle.panel_rules.proofs.Counting.{each_at, each_filtered, each_more}
use Rattle.panel_rules.proofs.Floors.{lt_from}

-- a denied operation needed level 2 to 4 and had less
abbrev pub IsGiven : Reply → Type 0
IsGiven Busy = Unit {0}
IsGiven (Denied needs has) = (2 ≤ needs) × (needs ≤ 4) × (has < needs)
IsGiven Waiting = Unit {0}
IsGiven Already = Unit {0}
IsGiven Store = Unit {0}
IsGiven WasDone = Unit {0}

-- ---- how answers are told

-- an answer that is told by its number
pub record IsTold (a : Answered) : Type 0 where
  pub op : OpAnswer
  pub is : told_answer a ≡ Some op
  pub number : op.number ≡ a.request.number
  pub free : is_busy a.reply ≡ false
  pub given : IsGiven a.reply → IsReply op.reply

pub is_told_or_busy : (a : Answered) → ((told_answer a ≡ None) × (is_busy a.reply ≡ true)) ⊎ IsTold a
is_told_or_busy a = go a.reply refl
  where
    told_as : (reply : Reply) (text : TextReply) → a.reply ≡ reply → told_reply reply ≡ Some text → is_busy reply ≡ false
        → (IsGiven reply → IsReply text) → IsTold a
    told_as reply text e told free given =
        record {
          op = record { number = a.request.number; reply = text };
          is = ap (λ (r : Reply). option_map (λ (x : TextReply). the_op x) (told_reply r)) e ∙ ap (λ (o : Option TextReply). option_map (λ (x : TextReply). the_op x) o) told;
          number = refl;
          free = ap is_busy e ∙ free;
          given = λ g. given (subst IsGiven e g);
        }
      where
        the_op : TextReply → OpAnswer
        the_op x = record { number = a.request.number; reply = x }

    go : (reply : Reply) → a.reply ≡ reply → ((told_answer a ≡ None) × (is_busy a.reply ≡ true)) ⊎ IsTold a
    go Busy e = inl (ap (λ (r : Reply). option_map (λ (x : TextReply). as_op x) (told_reply r)) e, ap is_busy e)
      where
        as_op : TextReply → OpAnswer
        as_op x = record { number = a.request.number; reply = x }
    go (Denied needs has) e = inr (told_as (Denied needs has) (DeniedReply needs has) e refl refl (λ g. g))
    go Waiting e = inr (told_as Waiting WaitingText e refl refl (λ g. g))
    go Already e = inr (told_as Already AlreadyText e refl refl (λ g. g))
    go Store e = inr (told_as Store StoreReply e refl refl (λ g. g))
    go WasDone e = inr (told_as WasDone DoneReply e refl refl (λ g. g))

-- ---- levels

pub needed_few : (operation : Operation) → needed_by operation ≤ 4
needed_few Mute = omega arith
needed_few Override = omega arith
needed_few Silence = omega arith
needed_few Resound = omega arith
needed_few Reset = omega arith
needed_few (Cancel zone) = omega arith
needed_few (Disable item) = omega arith
needed_few (Enable item) = omega arith
needed_few (Delays on) = omega arith
needed_few (Test zone) = omega arith
needed_few (Untest zone) = omega arith
needed_few Clear = omega arith

level_some : (a b c : Bool) → 1 ≤ (if a then 4 else (if b then 3 else (if c then 2 else 1)))
level_some true b c = omega arith
level_some false true c = omega arith
level_some false false true = omega arith
level_some false false false = omega arith

level_in_least : (lists : List (List (List ℕ))) (digest : List ℕ) → 1 ≤ level_in lists digest
level_in_least lists digest =
    level_some (holds (slice_index_or lists 2 []) digest) (holds (slice_index_or lists 1 []) digest) (holds (slice_index_or lists 0 []) digest)

level_least : (site : Site) (code : Option (List ℕ)) → 1 ≤ level_of site code
level_least site None = omega arith
level_least site (Some code) = level_in_least site.codes _

abbrev HasLevel : Request → Type 0
HasLevel r = 1 ≤ r.level

levels : (site : Site) (moments : List Moment) → AllByRecursion HasLevel (requests site moments)
levels site [] = tt
levels site (Began ∷ before) = levels site before
levels site (Happened (Op panel code operation) ∷ before) =
    each_more HasLevel (requests site before) _ (levels site before) (level_least site (option_map (λ label. label.bytes) code))
levels site (Happened (Point point state) ∷ before) = levels site before
levels site (Happened (Cable panel line piece state) ∷ before) = levels site before
levels site (Happened (Supply panel kind bad) ∷ before) = levels site before
levels site (Happened (Link link up) ∷ before) = levels site before
levels site (Happened (Confirmed output) ∷ before) = levels site before
levels site (Turned panel task ∷ before) = levels site before
levels site (Kept failed ∷ before) = levels site before

-- ---- answers

-- a reply is as it has to be, and one that isn't busy is to one of the first operations of its panel and tick
pub record Fits (r : Request) (reply : Reply) : Type 0 where
  pub given : IsGiven reply
  pub early : is_busy reply ≡ false → r.earlier < 4

abbrev FitsOption : Request → Option Reply → Type 0
FitsOption r None = r.earlier < 4
FitsOption r (Some reply) = Fits r reply

early_reply : (r : Request) (reply : Reply) → IsGiven reply → r.earlier < 4 → Fits r reply
early_reply r reply given l = record { given = given; early = λ e. l }

module _ (site : Site) (kept : Retained) (r : Request) (so_far : Operations) (level : HasLevel r) where
  by_setting : (o : Option Setting) → r.earlier < 4 → FitsOption r (setting_reply site kept r so_far o)
  by_setting None l = early_reply r WasDone tt l
  by_setting (Some setting) l = by_rows (is_unsettled setting r.tick so_far) (stands_so site kept setting r.tick (value_set r.operation) so_far.done)
    where
      by_rows : (b c : Bool) → FitsOption r (if b then Some Waiting else (if c then Some Already else None))
      by_rows true c = early_reply r Waiting tt l
      by_rows false true = early_reply r Already tt l
      by_rows false false = l

  by_row : (busy denied : Bool) → nat_le most_operations r.earlier ≡ busy → nat_lt r.level (needed_by r.operation) ≡ denied →
      FitsOption r
      (if busy then Some Busy else (if denied then Some (Denied (needed_by r.operation) r.level) else setting_reply site kept r so_far
      (setting_asked r)))
  by_row true denied b d = record { given = tt; early = λ e. absurd cc }
  by_row false true b d =
      let least = level in
      let less = lt_from r.level (needed_by r.operation) d in
      early_reply r (Denied (needed_by r.operation) r.level) (omega (arith, least, less), needed_few r.operation, less) (few r.earlier b)
    where
      few : (n : ℕ) → nat_le 4 n ≡ false → n < 4
      few n e = elim (leb_tells 4 n) [ inl h ↦ (let x : true ≡ false = sym h.0 ∙ e in absurd cc) | inr h ↦ h.1 ]
  by_row false false b d = by_setting (setting_asked r) (few r.earlier b)
    where
      few : (n : ℕ) → nat_le 4 n ≡ false → n < 4
      few n e = elim (leb_tells 4 n) [ inl h ↦ (let x : true ≡ false = sym h.0 ∙ e in absurd cc) | inr h ↦ h.1 ]

  desk_fits : FitsOption r (desk_reply site kept r so_far)
  desk_fits = by_row (nat_le most_operations r.earlier) (nat_lt r.level (needed_by r.operation)) refl refl

abbrev pub IsEarly : Request → Type 0
IsEarly r = r.earlier < 4

abbrev pub IsFit : Answered → Type 0
IsFit a = Fits a.request a.reply

pub record AreFit (so_far : Operations) : Type 0 where
  pub answers : AllByRecursion IsFit so_far.answers
  pub waiting : AllByRecursion IsEarly so_far.waiting

reply_fits : (r : Request) (so_far : Operations) (reply : Option Reply) → FitsOption r reply → AreFit so_far → AreFit (after_reply r so_far reply)
reply_fits r so_far None f h = record { answers = h.answers; waiting = each_more IsEarly so_far.waiting r h.waiting f }
reply_fits r so_far (Some reply) f h = record { answers = (f, h.answers); waiting = h.waiting }

all_desk : (site : Site) (kept : Retained) (taken : List Request) (so_far : Operations) → AllByRecursion HasLevel taken → AreFit so_far
    → AreFit (after_desk site kept taken so_far)
all_desk site kept [] so_far all h = h
all_desk site kept (r ∷ taken) so_far all h =
    all_desk site kept taken (after_request site kept so_far r) all.1
    (reply_fits r so_far (desk_reply site kept r so_far) (desk_fits site kept r so_far all.0) h)

kept_fits : (r : Request) (failed : Bool) → r.earlier < 4 → Fits r (keep_reply failed)
kept_fits r true l = early_reply r Store tt l
kept_fits r false l = early_reply r WasDone tt l

all_kept : (tick : ℕ) (failed : Bool) (waiting : List Request) (answers : List Answered) → AllByRecursion IsEarly waiting
    → AllByRecursion IsFit answers → AllByRecursion IsFit (answer_all tick failed waiting answers)
all_kept tick failed [] answers all h = h
all_kept tick failed (r ∷ waiting) answers all h =
    all_kept tick failed waiting (record { request = r; tick = tick; reply = keep_reply failed } ∷ answers) all.1 (kept_fits r failed all.0, h)

pub answers_fit : (site : Site) (kept : Retained) (moments : List Moment) → AreFit (operations site kept moments)
answers_fit site kept [] = record { answers = tt; waiting = tt }
answers_fit site kept (Began ∷ before) = let h = answers_fit site kept before in record { answers = h.answers; waiting = h.waiting }
answers_fit site kept (Happened event ∷ before) = let h = answers_fit site kept before in record { answers = h.answers; waiting = h.waiting }
answers_fit site kept (Turned panel Desk ∷ before) =
    let h =
    all_desk site kept (requests_in panel (tick_of before) (requests site before)) (operations site kept before)
    (each_filtered HasLevel _ (requests site before) (λ k r is t. each_at HasLevel (requests site before) k r (levels site before) is))
    (answers_fit site kept before) in
    record { answers = h.answers; waiting = h.waiting }
answers_fit site kept (Turned panel task ∷ before) = let h = answers_fit site kept before in record { answers = h.answers; waiting = h.waiting }
answers_fit site kept (Kept failed ∷ before) =
    let h = answers_fit site kept before in
    record {
      answers =
          all_kept (tick_of before) failed (operations site kept before).waiting (operations site kept before).answers h.waiting h.answers;
      waiting =
          tt;
    }
