-- What the answers of a panel tell, and that each asking is answered.
use Rattle.std.proofs.Common.{◌≡◌, ℕ, ◌+◌, ◌-◌, ◌*◌, ◌/◌, ◌%◌, ◌≤◌, ◌<◌, ◌==◌, List, [], ◌∷◌, ◌++◌, length, Option}
use Rattle.std.proofs.Common.{Some, slice_get, get_or, option_map, inl, inr, Bool, true, false, refl, sym, ◌∙◌, ap}
use Rattle.std.proofs.Common.{subst, arith}
use mathlib.Core.Path.{fun_ext}
use Rattle.loop_poller.proofs.Places.{address_at, answer_at, asked_in_places, line_at, places}
use Rattle.std.specs.List.{position, range_with_len}
use Rattle.std.proofs.lemmas.Bool.{eqb-true}
use Rattle.std.proofs.lemmas.Bool.Decides.{eqb_tells}
use Rattle.std.proofs.lemmas.Option.{slice_get-get_or}
use Rattle.std.proofs.lemmas.List.Quantifiers.{position-Some}
use Rattle.tick_units.specs.declared.task.Task.{Task}
use Rattle.tick_units.specs.declared.task.Task.TheVariants.{Poll}
use Rattle.site_types.specs.declared.site.Site.{Site}
use Rattle.site_types.specs.declared.answer.Answer.{Answer}
use Rattle.site_types.specs.declared.point.Point.{Point}
use Rattle.site_types.specs.declared.loop_plan.LoopPlan.{LoopPlan}
use Rattle.site_types.specs.declared.piece_state.PieceState.{PieceState}
use Rattle.site_types.specs.Profile.{round_of}
use Rattle.panel_rules.specs.Moments.{Moment, Began, Happened, Turned, Kept, tick_of, has_turned, IsPanel, IsPanelTask, IsRun, IsPast, present, later, up_to}
use Rattle.panel_rules.specs.States.{state_of, piece_of}
use Rattle.loop_poller.specs.Asked.{is_asked, answer_of, point_at, is_reached_on, heard_of}
use Rattle.site_types.specs.Things.{loop_of}
use Rattle.panel_rules.specs.Reached.{is_point_reached}
use Rattle.panel_rules.specs.Answers.{answers, asked}
use Rattle.panel_rules.specs.Due.{reached_at}
use Rattle.panel_rules.proofs.SiteLayout.{PointLies}
use Rattle.panel_rules.proofs.Bools.{parts}
use Rattle.panel_rules.proofs.Places.{get_either, get_behind, get_front, IsFound, found_in, range_get}
use Rattle.panel_rules.proofs.Asked.{asked_from}
use Rattle.panel_rules.proofs.Turns.{turn_tells, past_on, owed_turn}
use Rattle.panel_rules.proofs.Stays.{ByEvents, state_stays}

-- the turn of a seat in a tick
pub record HasTurn (panel : ℕ) (task : Task) (moments : List Moment) (tick : ℕ) : Type 0 where
  pub before : List Moment
  pub turn : IsPast (Turned panel task ∷ before) moments
  pub at : tick_of before ≡ tick

longer : (panel : ℕ) (task : Task) (moment : Moment) (moments : List Moment) (tick : ℕ) → HasTurn panel task moments tick
    → HasTurn panel task (moment ∷ moments) tick
longer panel task moment moments tick h = record { before = h.before; turn = later moment moments h.turn; at = h.at }

same_turn : (a b : ℕ) (t u : Task) (before : List Moment) → a ≡ b → t ≡ u → IsPast (Turned b u ∷ before) (Turned a t ∷ before)
same_turn a b t u before p q = rw (p, q) present

owed_few : (turned : Bool) → owed_turn turned ≤ 1
owed_few true = omega arith
owed_few false = omega arith

-- each seat has its turn in each tick that is over for it
pub turn_in : (panels panel : ℕ) (task : Task) (moments : List Moment) (tick : ℕ) → IsPanel panels panel → IsPanelTask task → IsRun panels moments
    → 1 ≤ tick → tick + owed_turn (has_turned panel task moments) ≤ tick_of moments → HasTurn panel task moments tick
turn_in panels panel task [] tick p t run one l = absurd (omega (arith, one, l))
turn_in panels panel task (Began ∷ before) tick p t run one l =
    longer panel task Began before tick
    (turn_in panels panel task before tick p t run.0 one (rw (run.1.each panel task p t) (omega (arith, l))))
turn_in panels panel task (Happened event ∷ before) tick p t run one l =
    longer panel task (Happened event) before tick (turn_in panels panel task before tick p t run.0 one l)
turn_in panels panel task (Turned other_panel other ∷ before) tick p t run one l =
    elim (turn_tells panel task other_panel other) [
      | inl h ↦
          (let l' = rw h.is at l in
          elim (eqb_tells tick (tick_of before)) [
            | inl e ↦ record { before = before; turn = same_turn other_panel panel other task before h.panel_is h.task_is; at = sym e.1 }
            | inr e ↦
                longer panel task (Turned other_panel other) before tick
                (turn_in panels panel task before tick p t run.0 one (omega (arith, owed_few (has_turned panel task before), l', e.1)))
          ])
      | inr h ↦
          (let l' = rw h at l in longer panel task (Turned other_panel other) before tick (turn_in panels panel task before tick p t run.0 one l'))
    ]
turn_in panels panel task (Kept failed ∷ before) tick p t run one l =
    longer panel task (Kept failed) before tick (turn_in panels panel task before tick p t run.0 one l)

-- an answer stays at its place
answers_next : (site : Site) (panel : ℕ) (moment : Moment) (before : List Moment) (k : ℕ) (a : Answer)
    → slice_get (answers site panel before) k ≡ Some a → slice_get (answers site panel (moment ∷ before)) k ≡ Some a
answers_next site panel Began before k a h = h
answers_next site panel (Happened event) before k a h = h
answers_next site panel (Turned other Poll) before k a h =
    elim (eqb_tells other panel) [
      | inl t ↦ rw t.0 (get_front (answers site panel before) (asked site panel before) k a h)
      | inr t ↦ rw t.0 h
    ]
answers_next site panel (Turned other task) before k a h = h
answers_next site panel (Kept failed) before k a h = h

pub answers_front : (site : Site) (panel : ℕ) (past moments : List Moment) (k : ℕ) (a : Answer) → IsPast past moments
    → slice_get (answers site panel past) k ≡ Some a → slice_get (answers site panel moments) k ≡ Some a
answers_front site panel past moments k a present h = h
answers_front site panel past moments k a (later moment before p) h =
    answers_next site panel moment before k a (answers_front site panel past before k a p h)

-- where a search in a list ends
pub record StandsAt {X : Type 0} (test : X → Bool) (xs : List X) (place : ℕ) : Type 0 where
  pub item : X
  pub is : slice_get xs place ≡ Some item
  pub passes : test item ≡ true

pub position_got : {X : Type 0} (test : X → Bool) (xs : List X) (place : ℕ) → position test xs ≡ Some place → StandsAt test xs place
position_got test [] place h = cc
position_got test (x ∷ xs) place h =
    let p = position-Some test (x ∷ xs) place x h in
    record { item = get_or (x ∷ xs) place x; is = slice_get-get_or (x ∷ xs) place x p.0; passes = p.1 }

-- where a point of a panel is
pub record IsPlaced (site : Site) (panel line address point : ℕ) : Type 0 where
  pub plan : Point
  pub is : slice_get site.points point ≡ Some plan
  pub panel_is : plan.panel ≡ panel
  pub line_is : plan.line ≡ line
  pub address_is : plan.address ≡ address

pub placed : (site : Site) (panel line address point : ℕ) → point_at site panel line address ≡ Some point → IsPlaced site panel line address point
placed site panel line address point h =
    let g = position_got _ site.points point h in
    let a = parts _ _ g.passes in
    let b = parts _ _ a.1 in
    record { plan = g.item; is = g.is; panel_is = eqb-true _ _ a.0; line_is = eqb-true _ _ b.0; address_is = eqb-true _ _ b.1 }

reached_same : (plan : Option LoopPlan) (pieces others : ℕ → PieceState) (address : ℕ) → ((piece : ℕ) → pieces piece ≡ others piece)
    → is_reached_on plan pieces address ≡ is_reached_on plan others address
reached_same plan pieces others address same = ap (λ cable. is_reached_on plan cable address) (fun_ext same)

-- an answer tells what its point was at in the tick of its stamp
pub record Tells (site : Site) (panel : ℕ) (moments : List Moment) (a : Answer) : Type 0 where
  pub plan : Point
  pub is : slice_get site.points a.point ≡ Some plan
  pub of_panel : plan.panel ≡ panel
  pub asked : is_asked site.format plan.address a.stamp.0 ≡ true
  pub heard : a.heard ≡ heard_of (state_of a.point (up_to a.stamp.0 moments)) (reached_at site a.point (up_to a.stamp.0 moments))

state_by_events : (point : ℕ) → ByEvents (λ before. state_of point before)
state_by_events point = record { began = λ before. refl; turned = λ panel task before. refl; kept = λ failed before. refl }

piece_by_events : (panel line piece : ℕ) → ByEvents (λ before. piece_of panel line piece before)
piece_by_events panel line piece = record { began = λ before. refl; turned = λ other task before. refl; kept = λ failed before. refl }

pub eq_true : (a b : ℕ) → a ≡ b → (a == b) ≡ true
eq_true a b e = elim (eqb_tells a b) [ inl h ↦ h.0 | inr h ↦ absurd (h.1 e) ]

-- what a turn of Poll puts, tells
tells_asked : (site : Site) (panels panel : ℕ) (moments before : List Moment) (place point : ℕ) → IsRun panels moments
    → IsPast (Turned panel Poll ∷ before) moments → point_at site panel (line_at place) (address_at site.format (tick_of before) place) ≡ Some point
    → Tells site panel moments (answer_of site panel (λ p. state_of p before) (λ line piece. piece_of panel line piece before) (tick_of before)
    (line_at place) (address_at site.format (tick_of before) place) point)
tells_asked site panels panel moments before place point run turn h =
    let g = placed site panel (line_at place) (address_at site.format (tick_of before) place) point h in
    let line = line_at place in
    let address = address_at site.format (tick_of before) place in
    let after = up_to (tick_of before) moments in
    let state : state_of point after ≡ state_of point before =
    state_stays (λ b. state_of point b) panels (Turned panel Poll ∷ before) moments (state_by_events point) turn run refl in
    let pieces : (piece : ℕ) → piece_of panel line piece after ≡ piece_of panel line piece before =
    λ piece. state_stays (λ b. piece_of panel line piece b) panels (Turned panel Poll ∷ before) moments (piece_by_events panel line piece) turn
    run refl in
    let reached : is_reached_on (loop_of site panel line) (λ piece. piece_of panel line piece after) address ≡ is_reached_on (loop_of site panel line)
    (λ piece. piece_of panel line piece before) address =
    reached_same (loop_of site panel line) (λ piece. piece_of panel line piece after) (λ piece. piece_of panel line piece before) address pieces
    in
    let there : reached_at site point after ≡ is_reached_on (loop_of site panel line) (λ piece. piece_of panel line piece after) address =
    ap (λ o. is_point_reached site o (λ p l k. piece_of p l k after)) g.is ∙ placed_reached site after g.plan panel line address g.panel_is
    g.line_is g.address_is in
    record {
      plan = g.plan;
      is = g.is;
      of_panel = g.panel_is;
      asked = eq_true _ _ (sym (ap (λ a. (a - 1) / 8) g.address_is ∙ group place (tick_of before % round_of site.format)));
      heard = ap (λ s. heard_of s (is_reached_on (loop_of site panel line) (λ piece. piece_of panel line piece before) address)) (sym state) ∙ ap
          (λ r. heard_of (state_of point after) r) (sym (there ∙ reached));
    }
  where
    group : (place phase : ℕ) → (8 * phase + place % 8 + 1 - 1) / 8 ≡ phase
    group place phase = omega arith

    placed_reached : (site : Site) (after : List Moment) (plan : Point) (panel line address : ℕ) → plan.panel ≡ panel → plan.line ≡ line
        → plan.address ≡ address → is_reached_on (loop_of site plan.panel plan.line) (λ piece. piece_of plan.panel plan.line piece after) plan.address
        ≡ is_reached_on (loop_of site panel line) (λ piece. piece_of panel line piece after) address
    placed_reached site after plan panel line address p l a = rw (p, l, a) refl

-- each answer tells what its point was at
pub told_by : (site : Site) (panels panel : ℕ) (moments past : List Moment) (k : ℕ) (a : Answer) → IsRun panels moments → IsPast past moments
    → slice_get (answers site panel past) k ≡ Some a → Tells site panel moments a
told_by site panels panel moments [] k a run h e = cc
told_by site panels panel moments (Began ∷ before) k a run h e =
    told_by site panels panel moments before k a run (past_on before (Began ∷ before) moments (later Began before present) h) e
told_by site panels panel moments (Happened event ∷ before) k a run h e =
    told_by site panels panel moments before k a run (past_on before (Happened event ∷ before) moments (later (Happened event) before present) h) e
told_by site panels panel moments (Turned other Poll ∷ before) k a run h e =
    let ih =
    told_by site panels panel moments before k a run
    (past_on before (Turned other Poll ∷ before) moments (later (Turned other Poll) before present) h) in
    elim (eqb_tells other panel) [
      | inl t ↦
          (let e' = rw t.0 at e in
          elim (get_either (answers site panel before) (asked site panel before) k a e') [
            | inl g ↦ ih g
            | inr g ↦
                (let from =
                asked_from site panel (λ p. state_of p before) (λ line piece. piece_of panel line piece before) (tick_of before) g.place a g.is in
                let turn : IsPast (Turned panel Poll ∷ before) moments = subst (λ p. IsPast (Turned p Poll ∷ before) moments) t.1 h in
                subst (Tells site panel moments) (sym from.is)
                (tells_asked site panels panel moments before from.place from.point run turn from.stands))
          ])
      | inr t ↦ (let e' = rw t.0 at e in ih e')
    ]
told_by site panels panel moments (Turned other task ∷ before) k a run h e =
    told_by site panels panel moments before k a run (past_on before (Turned other task ∷ before) moments (later (Turned other task) before present)
    h) e
told_by site panels panel moments (Kept failed ∷ before) k a run h e =
    told_by site panels panel moments before k a run (past_on before (Kept failed ∷ before) moments (later (Kept failed) before present) h) e

asked_finds : (site : Site) (panel : ℕ) (before : List Moment) (place point : ℕ) → 1 ≤ site.format → place < 32
    → point_at site panel (line_at place) (address_at site.format (tick_of before) place) ≡ Some point
    → IsFound (asked site panel before) (answer_of site panel (λ p. state_of p before) (λ line piece. piece_of panel line piece before)
    (tick_of before) (line_at place) (address_at site.format (tick_of before) place) point)
unfolding places
asked_finds site panel before place point known few h =
    subst (λ xs. IsFound xs (answer_of site panel (λ p. state_of p before) (λ line piece. piece_of panel line piece before) (tick_of before)
    (line_at place) (address_at site.format (tick_of before) place) point))
    (sym (asked_in_places site panel (λ p. state_of p before) (λ line piece. piece_of panel line piece before) (tick_of before) known))
    (found_in (answer_at site panel (λ p. state_of p before) (λ line piece. piece_of panel line piece before) (tick_of before)) (range_with_len 0 32)
    place place _
    (range_get 0 32 place few ∙ ap Some (omega arith))
    (ap (option_map (answer_of site panel (λ p. state_of p before) (λ line piece. piece_of panel line piece before) (tick_of before) (line_at place)
    (address_at site.format (tick_of before) place))) h))

-- an answer of a point with a stamp is there
pub record IsAnswered (xs : List Answer) (point tick : ℕ) : Type 0 where
  pub place : ℕ
  pub answer : Answer
  pub is : slice_get xs place ≡ Some answer
  pub point_is : answer.point ≡ point
  pub stamp_is : answer.stamp.0 ≡ tick

own_answers : (site : Site) (panel : ℕ) (before : List Moment) → answers site panel (Turned panel Poll ∷ before) ≡ answers site panel before
    ++ asked site panel before
own_answers site panel before = rw (eq_true panel panel refl) refl

-- each asking of a point is answered
pub polled : (site : Site) (panels panel : ℕ) (moments : List Moment) (point : ℕ) (plan : Point) (tick : ℕ) → PointLies site point plan
    → plan.panel ≡ panel → HasTurn panel Poll moments tick → is_asked site.format plan.address tick ≡ true
    → IsAnswered (answers site panel moments) point tick
polled site panels panel moments point plan tick lies of_panel turn asks =
    let before = turn.before in
    let place = 8 * (plan.line - 1) + (plan.address - 1) % 8 in
    let line : line_at place ≡ plan.line = omega (arith, lies.line.0) in
    let phase : tick_of before % round_of site.format ≡ (plan.address - 1) / 8 = ap (λ t. t % round_of site.format) turn.at ∙ eqb-true _ _ asks in
    let address : address_at site.format (tick_of before) place ≡ plan.address =
    ap (λ p. 8 * p + place % 8 + 1) phase ∙ whole plan.line plan.address lies.address.0 in
    let stands : point_at site panel (line_at place) (address_at site.format (tick_of before) place) ≡ Some point =
    ap (λ l. point_at site panel l (address_at site.format (tick_of before) place)) line ∙ ap (λ a. point_at site panel plan.line a) address ∙ ap
    (λ p. point_at site p plan.line plan.address) (sym of_panel) ∙ lies.alone in
    let found = asked_finds site panel before place point (omega (arith, lies.address.0, lies.address.1)) (omega (arith, lies.line.0, lies.line.1))
    stands in
    let there = get_behind (answers site panel before) (asked site panel before) found.place ∙ found.is in
    let at = found.place + length (answers site panel before) in
    let own = ap (λ xs. slice_get xs at) (own_answers site panel before) ∙ there in
    record {
      place = at;
      answer = answer_of site panel (λ p. state_of p before) (λ line piece. piece_of panel line piece before) (tick_of before) (line_at place)
          (address_at site.format (tick_of before) place) point;
      is = answers_front site panel (Turned panel Poll ∷ before) moments _ _ turn.turn own;
      point_is = refl;
      stamp_is = turn.at;
    }
  where
    whole : (line address : ℕ) → 1 ≤ address → 8 * ((address - 1) / 8) + (8 * (line - 1) + (address - 1) % 8) % 8 + 1 ≡ address
    whole line address one = omega arith
