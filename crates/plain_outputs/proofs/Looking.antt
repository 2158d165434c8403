-- What was seen of a history of one moment more.
use Rattle.std.proofs.Common.{◌≡◌, ◌<◌, ◌≤◌, ◌+◌, ◌-◌, ℕ, zero, suc, Bool, true, false, List, [], ◌∷◌, ◌++◌, length}
use Rattle.std.proofs.Common.{get_or, take, reverse, Option, Some, None, if◌then◌else◌, inl, inr, refl, sym, ◌∙◌, ap}
use Rattle.std.proofs.Common.{subst, arith}
use Rattle.std.specs.Prelude.{slice_get, IfSome}
use Rattle.std.proofs.Math.Seq.{take-append_seam}
use Rattle.std.proofs.lemmas.List.{length-reverse, reverse-append, take-append-le}
use Rattle.tick_units.specs.declared.task.Task.{Task}
use Rattle.site_types.specs.declared.site.Site.{Site}
use Rattle.panel_rules.specs.Latest.{made_latest}
use Rattle.panel_rules.specs.Markers.{Facts}
use Rattle.panel_rules.specs.Moments.{Moment as MomentOf, Began as BeganOf, Happened as HappenedOf, Turned as TurnedOf, Kept as KeptOf, tick_of}
use Rattle.panel_rules.proofs.Turns.{turn_tells}
use Rattle.plain_outputs.specs.declared.seen.Seen.{Seen}
use Rattle.plain_outputs.specs.Drives.{AreSeen, AreSeenBack, IsLatest, IsLatestAt, IsSeen, before_latest, is_beginning, is_turn_of}
use Rattle.plain_history.specs.Histories.{moment_of}

split_at : (xs : List Seen) (n : ℕ) (last : Seen) → length xs ≡ suc n → last ≡ get_or xs n last → xs ≡ take n xs ++ last ∷ []
split_at [] n last long is = absurd (omega (arith, long))
split_at (x ∷ []) zero last long is = ap (λ (y : Seen). y ∷ []) (sym is)
split_at (x ∷ y ∷ xs) zero last long is = absurd (omega (arith, long))
split_at (x ∷ xs) (suc n) last long is = let shorter : length xs ≡ suc n = omega arith in
    ap (λ (ys : List Seen). x ∷ ys) (split_at xs n last shorter is)

-- a list ends with its last element
pub ends_with : (xs : List Seen) (last : Seen) → 1 ≤ length xs → last ≡ get_or xs (length xs - 1) last → xs ≡ take (length xs - 1) xs ++ last ∷ []
ends_with xs last some is = split_at xs (length xs - 1) last (omega (arith, some)) is

-- a turn that is looked for is one of that panel and task
pub turn_is : (panel : ℕ) (task : Task) (moment : MomentOf) → is_turn_of panel task moment ≡ true → moment ≡ TurnedOf panel task
turn_is panel task BeganOf h = cc
turn_is panel task (HappenedOf event) h = cc
turn_is panel task (TurnedOf other_panel other) h = elim (turn_tells panel task other_panel other) [
  | inl that ↦ (let p = that.panel_is in let t = that.task_is in cc)
  | inr not_that ↦ cc
]
turn_is panel task (KeptOf failed) h = cc

-- what the latest turn made, by whether the newest moment is one
pub made_more : {X : Type 0} (none : X) (panel : ℕ) (task : Task) (makes : List MomentOf → X) (moment : MomentOf) (past : List MomentOf) →
    made_latest none panel task makes (moment ∷ past) ≡ (if is_turn_of panel task moment then makes past else made_latest none panel task makes past)
made_more none panel task makes BeganOf past = refl
made_more none panel task makes (HappenedOf event) past = refl
made_more none panel task makes (TurnedOf other_panel other) past = refl
made_more none panel task makes (KeptOf failed) past = refl

pub made_now : {X : Type 0} (none : X) (panel : ℕ) (task : Task) (makes : List MomentOf → X) (moment : MomentOf) (past : List MomentOf)
    → is_turn_of panel task moment ≡ true →
    made_latest none panel task makes (moment ∷ past) ≡ makes past
made_now none panel task makes moment past h =
    made_more none panel task makes moment past ∙ ap (λ b. if b then makes past else made_latest none panel task makes past) h

pub made_before : {X : Type 0} (none : X) (panel : ℕ) (task : Task) (makes : List MomentOf → X) (moment : MomentOf) (past : List MomentOf)
    → is_turn_of panel task moment ≡ false →
    made_latest none panel task makes (moment ∷ past) ≡ made_latest none panel task makes past
made_before none panel task makes moment past h =
    made_more none panel task makes moment past ∙ ap (λ b. if b then makes past else made_latest none panel task makes past) h

-- what a turn made, from what had befallen before it
pub made_none : {X : Type 0} (none : X) (panel : ℕ) (task : Task) (makes : List MomentOf → X) (history : List MomentOf)
    → before_latest panel task history ≡ None → made_latest none panel task makes history ≡ none
made_none none panel task makes [] h = refl
made_none none panel task makes (moment ∷ past) h = go (is_turn_of panel task moment) refl (made_none none panel task makes past)
  where
    go : (b : Bool) → is_turn_of panel task moment ≡ b → (before_latest panel task past ≡ None → made_latest none panel task makes past ≡ none)
        → made_latest none panel task makes (moment ∷ past) ≡ none
    go true e more = let now = made_now None panel task (λ before. Some before) moment past e in cc
    go false e more =
        made_before none panel task makes moment past e ∙ more (sym (made_before None panel task (λ before. Some before) moment past e) ∙ h)

pub made_some : {X : Type 0} (none : X) (panel : ℕ) (task : Task) (makes : List MomentOf → X) (history before : List MomentOf)
    → before_latest panel task history ≡ Some before → made_latest none panel task makes history ≡ makes before
made_some none panel task makes [] before h = cc
made_some none panel task makes (moment ∷ past) before h = go (is_turn_of panel task moment) refl (made_some none panel task makes past before)
  where
    go : (b : Bool) → is_turn_of panel task moment ≡ b
        → (before_latest panel task past ≡ Some before → made_latest none panel task makes past ≡ makes before)
        → made_latest none panel task makes (moment ∷ past) ≡ makes before
    go true e more = let now = made_now None panel task (λ before. Some before) moment past e in let same : past ≡ before =
        cc in made_now none panel task makes moment past e ∙ ap makes same
    go false e more =
        made_before none panel task makes moment past e ∙ more (sym (made_before None panel task (λ before. Some before) moment past e) ∙ h)

module _ (site : Site) (facts : ℕ → List MomentOf → Facts) where
  -- the newest moment, and what had befallen before it
  pub record HasLast (earlier : List Seen) (last : Seen) (history : List MomentOf) : Type 0 where
    pub moment : MomentOf
    pub past : List MomentOf
    pub is : history ≡ moment ∷ past
    pub seen : IsSeen site facts moment past last
    pub before : AreSeen site facts earlier past

  last_back : (earlier back : List Seen) (last : Seen) (history : List MomentOf) → reverse earlier ≡ back
      → AreSeenBack site facts (last ∷ back) history → HasLast earlier last history
  last_back earlier back last [] same are = absurd are
  last_back earlier back last (moment ∷ past) same are =
      record {
        moment = moment;
        past = past;
        is = refl;
        seen = are.0;
        before =
            subst (λ (seen : List Seen). AreSeenBack site facts seen past) (sym same) are.1;
      }

  pub last_of : (xs earlier : List Seen) (last : Seen) → xs ≡ earlier ++ last ∷ [] → (history : List MomentOf) → AreSeen site facts xs history
      → HasLast earlier last history
  last_of xs earlier last is history are =
      last_back earlier (reverse earlier) last history refl
      (subst (λ (seen : List Seen). AreSeenBack site facts seen history) (ap reverse is ∙ reverse-append earlier (last ∷ [])) are)

  pub seen_more : (earlier : List Seen) (last : Seen) (moment : MomentOf) (past : List MomentOf) → IsSeen site facts moment past last
      → AreSeen site facts earlier past → AreSeen site facts (earlier ++ last ∷ []) (moment ∷ past)
  seen_more earlier last moment past seen before =
      subst (λ (xs : List Seen). AreSeenBack site facts xs (moment ∷ past)) (sym (reverse-append earlier (last ∷ []))) (seen, before)

  pub turn_now : (panel : ℕ) (task : Task) (xs earlier : List Seen) (last : Seen) → xs ≡ earlier ++ last ∷ []
      → is_turn_of panel task (moment_of last.moment) ≡ true →
      (history : List MomentOf) → AreSeen site facts xs history → IsLatestAt site facts panel task xs history (length earlier)
  turn_now panel task xs earlier last is turns history are =
      let h = last_of xs earlier last is history are in
      let that : is_turn_of panel task h.moment ≡ true = ap (is_turn_of panel task) (sym h.seen.is) ∙ turns in
      record {
        before = h.past;
        latest = ap (before_latest panel task) h.is ∙ made_now None panel task (λ before. Some before) h.moment h.past that;
        earlier =
            subst (λ (seen : List Seen). AreSeen site facts seen h.past) (sym (ap (take (length earlier)) is ∙ take-append_seam earlier (last ∷ [])))
            h.before;
        turn = last;
        found = ap (λ (seen : List Seen). slice_get seen (length earlier)) is ∙ get_end earlier last;
        is_seen = subst (λ (moment : MomentOf). IsSeen site facts moment h.past last) (turn_is panel task h.moment that) h.seen;
      }
    where
      get_end : (front : List Seen) (x : Seen) → slice_get (front ++ x ∷ []) (length front) ≡ Some x
      get_end [] x = refl
      get_end (y ∷ front) x = get_end front x

  pub turn_before : (panel : ℕ) (task : Task) (xs earlier : List Seen) (last : Seen) → xs ≡ earlier ++ last ∷ []
      → is_turn_of panel task (moment_of last.moment) ≡ false →
      (result : Option ℕ) → IfSome result (λ place. place < length earlier)
      → ((past : List MomentOf) → AreSeen site facts earlier past → IsLatest site facts panel task earlier past result) →
      (history : List MomentOf) → AreSeen site facts xs history → IsLatest site facts panel task xs history result
  turn_before panel task xs earlier last is turns result within more history are =
      let h = last_of xs earlier last is history are in
      let other : is_turn_of panel task h.moment ≡ false = ap (is_turn_of panel task) (sym h.seen.is) ∙ turns in
      let same : before_latest panel task history ≡ before_latest panel task h.past =
      ap (before_latest panel task) h.is ∙ made_before None panel task (λ before. Some before) h.moment h.past other in
      go result within h.past same (more h.past h.before)
    where
      get_front : (front back : List Seen) (place : ℕ) (x : Seen) → slice_get front place ≡ Some x → slice_get (front ++ back) place ≡ Some x
      get_front [] back place x h = cc
      get_front (y ∷ front) back zero x h = h
      get_front (y ∷ front) back (suc place) x h = get_front front back place x h

      take_within : (front back : List Seen) (n : ℕ) → n < length front → take n (front ++ back) ≡ take n front
      take_within front back n h = take-append-le n front back (omega arith)

      go : (found : Option ℕ) → IfSome found (λ place. place < length earlier) → (past : List MomentOf)
          → before_latest panel task history ≡ before_latest panel task past →
          IsLatest site facts panel task earlier past found → IsLatest site facts panel task xs history found
      go None within past same was = same ∙ was
      go (Some place) within past same was =
          record {
            before = was.before;
            latest = same ∙ was.latest;
            earlier =
                subst (λ (seen : List Seen). AreSeen site facts seen was.before)
                (sym (ap (take place) is ∙ take_within earlier (last ∷ []) place within)) was.earlier;
            turn = was.turn;
            found = ap (λ (seen : List Seen). slice_get seen place) is ∙ get_front earlier (last ∷ []) place was.turn was.found;
            is_seen = was.is_seen;
          }

  few_back : (back : List Seen) (history : List MomentOf) → AreSeenBack site facts back history → tick_of history ≤ length back
  few_back [] [] are = omega arith
  few_back [] (moment ∷ past) are = absurd are
  few_back (seen ∷ back) [] are = absurd are
  few_back (seen ∷ back) (BeganOf ∷ past) are = let few = few_back back past are.1 in omega (arith, few)
  few_back (seen ∷ back) (HappenedOf event ∷ past) are = let few = few_back back past are.1 in omega (arith, few)
  few_back (seen ∷ back) (TurnedOf panel task ∷ past) are = let few = few_back back past are.1 in omega (arith, few)
  few_back (seen ∷ back) (KeptOf failed ∷ past) are = let few = few_back back past are.1 in omega (arith, few)

  -- no more ticks have begun than there are moments
  pub few_ticks : (xs : List Seen) (history : List MomentOf) → AreSeen site facts xs history → tick_of history ≤ length xs
  few_ticks xs history are = let few = few_back (reverse xs) history are in let same = length-reverse xs in omega (arith, few, same)

  begun : (moment : MomentOf) (past : List MomentOf) → is_beginning moment ≡ true → tick_of (moment ∷ past) ≡ tick_of past + 1
  begun BeganOf past h = refl
  begun (HappenedOf event) past h = cc
  begun (TurnedOf panel task) past h = cc
  begun (KeptOf failed) past h = cc

  not_begun : (moment : MomentOf) (past : List MomentOf) → is_beginning moment ≡ false → tick_of (moment ∷ past) ≡ tick_of past
  not_begun BeganOf past h = cc
  not_begun (HappenedOf event) past h = refl
  not_begun (TurnedOf panel task) past h = refl
  not_begun (KeptOf failed) past h = refl

  -- the tick after a newest moment that begins one, and after another
  pub tick_begun : (xs earlier : List Seen) (last : Seen) → xs ≡ earlier ++ last ∷ [] → is_beginning (moment_of last.moment) ≡ true
      → (history : List MomentOf) → AreSeen site facts xs history → last.tick.0 + 1 ≡ tick_of history
  tick_begun xs earlier last is begins history are =
      let h = last_of xs earlier last is history are in
      ap (λ (tick : ℕ). tick + 1) h.seen.tick ∙ sym (ap tick_of h.is ∙ begun h.moment h.past (ap is_beginning (sym h.seen.is) ∙ begins))

  pub tick_same : (xs earlier : List Seen) (last : Seen) → xs ≡ earlier ++ last ∷ [] → is_beginning (moment_of last.moment) ≡ false
      → (history : List MomentOf) → AreSeen site facts xs history → last.tick.0 ≡ tick_of history
  tick_same xs earlier last is begins history are =
      let h = last_of xs earlier last is history are in
      h.seen.tick ∙ sym (ap tick_of h.is ∙ not_begun h.moment h.past (ap is_beginning (sym h.seen.is) ∙ begins))
