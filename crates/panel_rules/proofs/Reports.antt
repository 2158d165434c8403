-- What a panel's poller is told is what befell: its answers are those of the history.
use mathlib.Core.Path.{fun_ext}
use Rattle.std.proofs.Common.{◌≡◌, ℕ, zero, suc, ◌+◌, ◌<◌, ◌≤◌, ◌==◌, ◌&&◌, List, [], ◌∷◌, Option, Some, None}
use Rattle.std.proofs.Common.{slice_get, option_map, nat_le, inl, inr, Bool, true, false, if◌then◌else◌, arith, refl}
use Rattle.std.proofs.Common.{sym, ◌∙◌, ap}
use Rattle.std.proofs.lemmas.Bool.Decides.{eqb_tells, nat_tests}
use Rattle.std.specs.List.{cons_option, filter_map, range_with_len}
use Rattle.site_types.specs.declared.event.Event.{Event}
use Rattle.site_types.specs.declared.event.Event.TheVariants.{Point, Cable}
use Rattle.site_types.specs.declared.piece_state.PieceState.{PieceState}
use Rattle.site_types.specs.declared.point_state.PointState.{PointState}
use Rattle.site_types.specs.declared.site.Site.{Site}
use Rattle.isolators.specs.Reach.{Cable as CableOf}
use Rattle.loop_poller.specs.Asked.{asked_in, answer_of, point_at}
use Rattle.loop_poller.specs.Calls.{Call, Reported, Cabled, told_point, told_cable}
use Rattle.loop_poller.proofs.Places.{address_at, answer_at, asked_in_places, line_at, places}
use Rattle.panel_rules.specs.Answers.{asked}
use Rattle.panel_rules.specs.Moments.{Moment, Began, Happened, Turned, Kept, tick_of}
use Rattle.panel_rules.specs.Reports.{and_report, is_on_panel, is_own_loop, reports}
use Rattle.panel_rules.specs.States.{told_point as point_after, told_piece, state_of, piece_of}
use Rattle.panel_rules.proofs.AnswersTell.{eq_true, placed}

-- of a point of the panel
event_told : (site : Site) (panel point : ℕ) (event : Event) (calls : List Call) (was : PointState)
    → is_on_panel panel (slice_get site.points point) ≡ true → told_point calls point ≡ was
    → told_point (and_report site panel event calls) point ≡ point_after point event was
event_told site panel point (Point other state) calls was at e =
    elim (eqb_tells other point) [
      | inl h ↦
          (let there : is_on_panel panel (slice_get site.points other) ≡ true = ap (λ p. is_on_panel panel (slice_get site.points p)) h.1 ∙ at in
          rw (there, h.0) refl)
      | inr h ↦ other_point (is_on_panel panel (slice_get site.points other)) h.0
    ]
  where
    other_point : (b : Bool) → (other == point) ≡ false
        → told_point (if b then Reported other state ∷ calls else calls) point ≡ (if other == point then state else was)
    other_point true h = rw h e
    other_point false h = rw h e
event_told site panel point (Cable other line piece state) calls was at e =
    elim (is_own_loop panel other line) as (λ b. told_point (if b then Cabled line piece state ∷ calls else calls) point ≡ was) [
      | true ↦ e
      | false ↦
          e
    ]
event_told site panel point event calls was at e = e

state_told : (site : Site) (panel point : ℕ) (before : List Moment) → is_on_panel panel (slice_get site.points point) ≡ true
    → told_point (reports site panel before) point ≡ state_of point before
state_told site panel point [] at = refl
state_told site panel point (Began ∷ before) at = state_told site panel point before at
state_told site panel point (Happened event ∷ before) at =
    event_told site panel point event (reports site panel before) (state_of point before) at (state_told site panel point before at)
state_told site panel point (Turned other task ∷ before) at = state_told site panel point before at
state_told site panel point (Kept failed ∷ before) at = state_told site panel point before at

-- a loop that a panel may have
pub is_line : (line : ℕ) → 1 ≤ line → line ≤ 4 → (nat_le 1 line && nat_le line 4) ≡ true
is_line line low high = grind (arith, nat_tests)

-- of a piece of its cables
event_cabled : (site : Site) (panel line piece : ℕ) (event : Event) (calls : List Call) (was : PieceState) → (nat_le 1 line && nat_le line 4) ≡ true
    → told_cable calls line piece ≡ was → told_cable (and_report site panel event calls) line piece ≡ told_piece panel line piece event was
event_cabled site panel line piece (Point other state) calls was on e =
    elim (is_on_panel panel (slice_get site.points other)) as (λ b. told_cable (if b then Reported other state ∷ calls else calls) line piece ≡ was)
    [ true ↦ e | false ↦ e ]
event_cabled site panel line piece (Cable other other_line other_piece state) calls was on e =
    elim (eqb_tells other panel) [
      | inl p ↦
          elim (eqb_tells other_line line) [
            | inl l ↦
                (let there : (nat_le 1 other_line && nat_le other_line 4) ≡ true = ap (λ n. nat_le 1 n && nat_le n 4) l.1 ∙ on in
                elim (eqb_tells other_piece piece) [
                  | inl k ↦ (let back : (piece == other_piece) ≡ true = eq_true piece other_piece (sym k.1) in rw (p.0, there, l.0, k.0, back) refl)
                  | inr k ↦ (let back : (piece == other_piece) ≡ false = not_same piece other_piece (λ q. k.1 (sym q)) in
                      rw (p.0, there, l.0, k.0, back) e)
                ])
            | inr l ↦ rw (p.0, l.0) (elsewhere (nat_le 1 other_line && nat_le other_line 4) l.0)
          ]
      | inr p ↦ rw p.0 e
    ]
  where
    not_same : (a b : ℕ) → (a ≡ b → ⊥) → (a == b) ≡ false
    not_same a b n = elim (eqb_tells a b) [ inl h ↦ absurd (n h.1) | inr h ↦ h.0 ]

    elsewhere : (b : Bool) → (other_line == line) ≡ false → told_cable (if b then Cabled other_line other_piece state ∷ calls else calls) line piece
        ≡ was
    elsewhere true h = rw h e
    elsewhere false h = e
event_cabled site panel line piece event calls was on e = e

pub cable_told : (site : Site) (panel line piece : ℕ) (before : List Moment) → (nat_le 1 line && nat_le line 4) ≡ true
    → told_cable (reports site panel before) line piece ≡ piece_of panel line piece before
cable_told site panel line piece [] on = refl
cable_told site panel line piece (Began ∷ before) on = cable_told site panel line piece before on
cable_told site panel line piece (Happened event ∷ before) on =
    event_cabled site panel line piece event (reports site panel before) (piece_of panel line piece before) on
    (cable_told site panel line piece before on)
cable_told site panel line piece (Turned other task ∷ before) on = cable_told site panel line piece before on
cable_told site panel line piece (Kept failed ∷ before) on = cable_told site panel line piece before on

-- what a panel is asked depends on its own points and loops alone
same_answers : {X : Type 0} (f g : ℕ → Option X) (first n : ℕ) → ((x : ℕ) → x < first + n → f x ≡ g x)
    → filter_map f (range_with_len first n) ≡ filter_map g (range_with_len first n)
same_answers f g first zero same = refl
same_answers f g first (suc n) same =
    let here : f first ≡ g first = same first (omega arith) in
    rw here (ap (cons_option (g first)) (same_answers f g (first + 1) n (λ x within. same x (omega arith))))

answer_same : (site : Site) (panel : ℕ) (points others : ℕ → PointState) (cables others_cables : ℕ → CableOf) (tick line address : ℕ) (o : Option ℕ)
    → ((point : ℕ) → is_on_panel panel (slice_get site.points point) ≡ true → points point ≡ others point) → cables line ≡ others_cables line
    → point_at site panel line address ≡ o
    → option_map (answer_of site panel points cables tick line address) o ≡ option_map (answer_of site panel others others_cables tick line address) o
answer_same site panel points others cables others_cables tick line address None same cable e = refl
answer_same site panel points others cables others_cables tick line address (Some point) same cable e =
    let p = placed site panel line address point e in
    let at : is_on_panel panel (slice_get site.points point) ≡ true = ap (is_on_panel panel) p.is ∙ eq_true p.plan.panel panel p.panel_is in
    ap (λ state. Some (answer_of site panel (λ _. state) cables tick line address point)) (same point at)
    ∙ ap (λ own. Some (answer_of site panel others (λ _. own) tick line address point)) cable

own_things : (site : Site) (panel : ℕ) (points others : ℕ → PointState) (cables others_cables : ℕ → CableOf) (tick : ℕ) → 1 ≤ site.format
    → ((point : ℕ) → is_on_panel panel (slice_get site.points point) ≡ true → points point ≡ others point)
    → ((line : ℕ) → 1 ≤ line → line ≤ 4 → cables line ≡ others_cables line)
    → asked_in site panel points cables tick ≡ asked_in site panel others others_cables tick
unfolding places
own_things site panel points others cables others_cables tick known same cable =
    asked_in_places site panel points cables tick known
    ∙ same_answers (answer_at site panel points cables tick) (answer_at site panel others others_cables tick) 0 32
    (λ place within. answer_same site panel points others cables others_cables tick (line_at place) (address_at site.format tick place)
    (point_at site panel (line_at place) (address_at site.format tick place)) same (cable (line_at place) (omega arith) (omega arith)) refl)
    ∙ sym (asked_in_places site panel others others_cables tick known)

-- a poller that was told of its panel puts the panel's answers
pub asked_told : (site : Site) (panel : ℕ) (before : List Moment) → 1 ≤ site.format
    → asked_in site panel (told_point (reports site panel before)) (told_cable (reports site panel before)) (tick_of before) ≡ asked site panel before
asked_told site panel before known =
    own_things site panel (told_point (reports site panel before)) (λ point. state_of point before) (told_cable (reports site panel before))
    (λ line piece. piece_of panel line piece before) (tick_of before) known
    (λ point at. state_told site panel point before at)
    (λ line low high. fun_ext (λ piece. cable_told site panel line piece before (is_line line low high)))
