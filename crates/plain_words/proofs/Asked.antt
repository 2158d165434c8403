-- The answers of a panel after one more moment.
use Rattle.std.proofs.Common.{◌≡◌, ◌∙◌, ◌≤◌, ◌==◌, ◌&&◌, ℕ, Bool, true, List, [], ◌∷◌, ◌++◌, Option, ap, arith, length, min, nat_le, refl, slice_get, sym, take}
use Rattle.std.proofs.lemmas.List.{take_all}
use Rattle.tick_units.specs.Lane.{LaneState, turn_count, with_put}
use Rattle.tick_units.specs.declared.task.Task.TheVariants.{Poll}
use Rattle.site_types.specs.declared.answer.Answer.{Answer}
use Rattle.site_types.specs.declared.event.Event.TheVariants.{Point, Cable}
use Rattle.site_types.specs.declared.piece_state.PieceState.{PieceState}
use Rattle.site_types.specs.declared.point.Point.{Point as PointPlan}
use Rattle.site_types.specs.declared.point_state.PointState.{PointState}
use Rattle.site_types.specs.declared.site.Site.{Site}
use Rattle.loop_poller.specs.Asked.{asked_in}
use Rattle.loop_poller.specs.Calls.{Reported, Cabled, told_cable, told_point}
use Rattle.loop_poller.specs.Stands.{StandsFor}
use Rattle.panel_rules.specs.Moments.{Moment, Happened, Turned, tick_of}
use Rattle.panel_rules.specs.Answers.{answers, asked}
use Rattle.panel_rules.proofs.AnswersTell.{eq_true}
use Rattle.plain_words.specs.declared.asking.Asking.{Asking}
use Rattle.plain_words.specs.Askings.{StandsForAsking}
use Rattle.panel_rules.specs.Reports.{is_on_panel, reports}
use Rattle.panel_rules.proofs.Reports.{asked_told, is_line}

-- what lies in a lane that was empty, and what a turn of its taker moves
pub record WasAsked (xs : List Answer) (lane after : LaneState Answer) : Type 0 where
  pub empty : lane ≡ record { items = []; put = 0; taken = 0; quota = 32; capacity = 32 }
  pub put : after ≡ with_put lane xs
  pub few : length xs ≤ 32

few_taken : (xs : List Answer) → length xs ≤ 32 → take (min 32 (length xs)) xs ≡ xs
few_taken xs few = take_all (min 32 (length xs)) xs (omega arith)

pub all_moved : (xs : List Answer) (lane after : LaneState Answer) (moved : List Answer) → WasAsked xs lane after
    → moved ≡ take (turn_count after) after.items → moved ≡ xs
all_moved xs lane after moved was is =
    let now : after ≡ with_put (record { items = []; put = 0; taken = 0; quota = 32; capacity = 32 }) xs =
    was.put ∙ ap (λ l. with_put l xs) was.empty in
    is ∙ ap (λ (l : LaneState Answer). take (turn_count l) l.items) now ∙ few_taken xs was.few

module _ (site : Site) (panel : ℕ) (history : List Moment) (asking after : Asking) (s : StandsForAsking site panel history asking) where
  pub is_known : 1 ≤ site.format
  is_known = s.told.asks.valid.forms.format.0

  pub after_poll : (tick : ℕ) → after.panel ≡ asking.panel → after.poller ≡ asking.poller → after.decided ≡ asking.decided → after.held ≡ asking.held
      → tick_of history ≡ tick → after.answers.items ≡ asking.answers.items
      ++ asked_in site panel (told_point (reports site panel history)) (told_cable (reports site panel history)) tick
      → StandsForAsking site panel (Turned panel Poll ∷ history) after
  after_poll tick same_panel same_poller same_decided same_held at items =
      let put : after.answers.items ≡ answers site panel history ++ asked site panel history =
      items
      ∙ ap (λ t. asking.answers.items ++ asked_in site panel (told_point (reports site panel history)) (told_cable (reports site panel history)) t)
      (sym at)
      ∙ ap (λ xs. asking.answers.items ++ xs) (asked_told site panel history is_known)
      ∙ ap (λ xs. xs ++ asked site panel history) s.all in
      record {
        own_panel = same_panel ∙ s.own_panel;
        told = rw same_poller s.told;
        all = rw (eq_true panel panel refl) put;
        decided = same_decided ∙ s.decided;
        taken = same_held ∙ s.taken;
      }

  pub after_point : (point : ℕ) (state : PointState) (found : Option PointPlan) (own : Bool) → after.panel ≡ asking.panel
      → after.answers ≡ asking.answers → after.decided ≡ asking.decided → after.held ≡ asking.held → found ≡ slice_get site.points point
      → own ≡ is_on_panel asking.panel found → own ≡ true → StandsFor site panel (Reported point state ∷ reports site panel history) after.poller
      → StandsForAsking site panel (Happened (Point point state) ∷ history) after
  after_point point state found own same_panel same_answers same_decided same_held found_is own_is so told =
      let at : is_on_panel panel (slice_get site.points point) ≡ true = rw (← s.own_panel, ← found_is) (sym own_is ∙ so) in
      record {
        own_panel = same_panel ∙ s.own_panel;
        told = rw at told;
        all = rw same_answers s.all;
        decided = same_decided ∙ s.decided;
        taken = same_held ∙ s.taken;
      }

  pub after_piece : (other line piece : ℕ) (state : PieceState) → after.panel ≡ asking.panel → after.answers ≡ asking.answers
      → after.decided ≡ asking.decided → after.held ≡ asking.held → other ≡ asking.panel → 1 ≤ line → line ≤ 4
      → StandsFor site panel (Cabled line piece state ∷ reports site panel history) after.poller
      → StandsForAsking site panel (Happened (Cable other line piece state) ∷ history) after
  after_piece other line piece state same_panel same_answers same_decided same_held here low high told =
      let at : (other == panel) ≡ true = eq_true other panel (here ∙ s.own_panel) in
      let on : (nat_le 1 line && nat_le line 4) ≡ true = is_line line low high in
      record {
        own_panel = same_panel ∙ s.own_panel;
        told = rw (at, on) told;
        all = rw same_answers s.all;
        decided = same_decided ∙ s.decided;
        taken = same_held ∙ s.taken;
      }
