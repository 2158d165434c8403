-- What a line of a valid site has.
use Rattle.std.proofs.Common.{◌≡◌, ℕ, zero, suc, subst, ◌+◌, ◌-◌, ◌<◌, ◌≤◌, ◌==◌, ◌&&◌, List, [], ◌∷◌, length, get_or}
use Rattle.std.proofs.Common.{Option, Some, None, Bool, true, false, slice_get, slice_index_or, slice_set, refl, sym}
use Rattle.std.proofs.Common.{◌∙◌, ap, arith, inl, inr}
use Rattle.std.specs.List.{position}
use Rattle.std.proofs.lemmas.Bool.{and_from, and_parts, cases_eq, cases_lt, eq-eqb, eqb-true, ne_eqb}
use Rattle.std.proofs.lemmas.Grind.{common_steps, get_or-set_at}
use Rattle.std.proofs.lemmas.List.{get_or-set_other, length-set}
use Rattle.std.proofs.lemmas.List.Quantifiers.{position-Some}
use Rattle.std.proofs.lemmas.Option.{slice_get-get_or, slice_get_within}
use Rattle.site_types.specs.declared.loop_plan.LoopPlan.{LoopPlan}
use Rattle.site_types.specs.declared.point.Point.{Point}
use Rattle.site_types.specs.declared.site.Site.{Site}
use Rattle.site_types.specs.Valid.{HasAddress, IsValid, loop_key}
use Rattle.site_types.proofs.ValidSites.{loop_of_point}
use Rattle.loop_poller.specs.Asked.{answer_from, answer_of, asked_on, is_asked, point_at}
use Rattle.site_types.specs.Things.{loop_of}
use Rattle.loop_poller.specs.Cables.{CableStands}
use Rattle.site_types.specs.declared.piece_state.PieceState.{PieceState}
use Rattle.isolators.specs.Reach.{Cable, sound_cable, with_piece}
use Rattle.isolators.specs.declared.loop_line.LoopLine.{LoopLine}
use Rattle.site_types.specs.declared.point_state.PointState.{PointState}
use Rattle.site_types.specs.Profile.{last_address_of}
use Rattle.std.specs.Prelude.{if◌then◌else◌, is_some, option_map}
use Rattle.loop_poller.proofs.Windows.{none_found}
use Rattle.loop_poller.specs.declared.polled_line.PolledLine.{PolledLine}
use Rattle.loop_poller.specs.Calls.{Call, Cabled, told_cable}
use Rattle.loop_poller.specs.Points.{ArePoints, KnowsPoints}
use Rattle.loop_poller.specs.Stands.{IsOnLoop, LineStands}
use Rattle.loop_poller.proofs.Positions.{found_at, none_passes}

-- the test of point_at
abbrev pub is_at : ℕ → ℕ → ℕ → Point → Bool
is_at panel line address p = (p.panel == panel) && ((p.line == line) && (p.address == address))

pub record IsAt (panel line address : ℕ) (p : Point) : Type 0 where
  pub panel_is : p.panel ≡ panel
  pub line_is : p.line ≡ line
  pub address_is : p.address ≡ address

pub at_from : (panel line address : ℕ) (p : Point) → is_at panel line address p ≡ true → IsAt panel line address p
at_from panel line address p h =
    let a = and_parts (p.panel == panel) ((p.line == line) && (p.address == address)) h in
    let b = and_parts (p.line == line) (p.address == address) a.1 in
    record { panel_is = eqb-true p.panel panel a.0; line_is = eqb-true p.line line b.0; address_is = eqb-true p.address address b.1 }

-- the place of a point, and what stands there
pub record HasPointAt (site : Site) (panel line address place : ℕ) : Type 0 where
  pub point : Point
  pub within : place < length site.points
  pub is : slice_get site.points place ≡ Some point
  pub at : IsAt panel line address point

-- any point serves where a list of points isn't empty
some_point : (points : List Point) (place : ℕ) → place < length points → Point
some_point [] place h = absurd (omega arith)
some_point (p ∷ points) place h = p

place_within : (panel line address : ℕ) (points : List Point) (place : ℕ) → position (is_at panel line address) points ≡ Some place
    → place < length points
place_within panel line address [] place h = absurd cc
place_within panel line address (p ∷ points) place h = (position-Some (is_at panel line address) (p ∷ points) place p h).0

pub point_there : (site : Site) (panel line address place : ℕ) → point_at site panel line address ≡ Some place
    → HasPointAt site panel line address place
point_there site panel line address place h =
    let within = place_within panel line address site.points place h in
    let d = some_point site.points place within in
    let found = position-Some (is_at panel line address) site.points place d h in
    record {
      point = get_or site.points place d;
      within = within;
      is = slice_get-get_or site.points place d within;
      at = at_from panel line address (get_or site.points place d) found.1;
    }

found_plan : (site : Site) (panel line address : ℕ) (o : Option LoopPlan) → IsValid site → loop_of site panel line ≡ o
    → HasAddress site panel line address → IsOnLoop o address
found_plan site panel line address None valid e has = tt
found_plan site panel line address (Some plan) valid e has =
    let found = found_at (λ (l : LoopPlan). (l.panel == panel) && (l.line == line)) site.loops plan e in
    let keys = and_parts (plan.panel == panel) (plan.line == line) found.passes in
    let same_panel : plan.panel ≡ has.plan.panel = eqb-true plan.panel panel keys.0 ∙ sym has.at_panel in
    let same_line : plan.line ≡ has.plan.line = eqb-true plan.line line keys.1 ∙ sym has.at_line in
    let key : loop_key plan ≡ loop_key has.plan = cc in
    let place : found.place ≡ has.place = valid.twins.loops found.place has.place plan has.plan found.is has.is key in
    let same : plan ≡ has.plan = (let e2 : slice_get site.loops has.place ≡ Some plan = ap (slice_get site.loops) (sym place) ∙ found.is in let i =
    has.is in cc) in
    let last : plan.last ≡ has.plan.last = ap (λ (l : LoopPlan). l.last) same in
    omega (arith, has.within)

-- the address of a point is one of its loop
pub on_loop : (site : Site) (panel line address place : ℕ) → IsValid site → point_at site panel line address ≡ Some place
    → IsOnLoop (loop_of site panel line) address
on_loop site panel line address place valid h =
    let there = point_there site panel line address place h in
    let has : HasAddress site panel line address =
    rw (there.at.panel_is, there.at.line_is, there.at.address_is) at (loop_of_point site valid place there.point there.is) in
    found_plan site panel line address (loop_of site panel line) valid refl has

-- the points of a loop are points of the site
pub knows_points : (site : Site) (panel line : ℕ) (points : List (Option ℕ)) → ArePoints site panel line points
    → KnowsPoints points (length site.points)
knows_points site panel line points are place point h =
    elim (cases_lt place (length points)) [
      | inl within ↦ (let size = are.size in
          let back : place + 1 - 1 ≡ place = omega arith in
          let at : point_at site panel line (place + 1) ≡ Some point =
          sym (are.each (place + 1) (omega arith) (omega arith)) ∙ ap (λ k. slice_index_or points k None) back ∙ h in
          (point_there site panel line (place + 1) point at).within)
      | inr past ↦ (let none : slice_index_or points place None ≡ None = grind (arith, common_steps) in absurd cc)
    ]

pub set_at : {X : Type 0} (xs : List X) (i k : ℕ) (y x : X) → slice_get (slice_set xs i y) k ≡ Some x → i < length xs → k ≡ i → y ≡ x
set_at xs i k y x h within same =
    let long : length (slice_set xs i y) ≡ length xs = length-set xs i y in
    let a = slice_get-get_or (slice_set xs i y) k x (omega arith) in
    let b = get_or-set_at xs i k y x same within in
    cc

pub set_past : {X : Type 0} (xs : List X) (i k : ℕ) (y x : X) → slice_get (slice_set xs i y) k ≡ Some x → (k ≡ i → ⊥) → slice_get xs k ≡ Some x
set_past xs i k y x h other =
    let long : length (slice_set xs i y) ≡ length xs = length-set xs i y in
    let within = slice_get_within (slice_set xs i y) k x h in
    let a = slice_get-get_or (slice_set xs i y) k x (omega arith) in
    let b = get_or-set_other xs i k y x other in
    let d = slice_get-get_or xs k x (omega arith) in
    cc

-- the lines of a panel after a report on a piece of one
pub told_lines : (site : Site) (panel : ℕ) (calls : List Call) (lines : List PolledLine) (line piece : ℕ) (state : PieceState) (polled new :
    PolledLine) →
    ((place : ℕ) (l : PolledLine) → slice_get lines place ≡ Some l → LineStands site panel (place + 1) (told_cable calls (place + 1)) l) →
    1 ≤ line → slice_get lines (line - 1) ≡ Some polled →
    (LineStands site panel line (told_cable calls line) polled → LineStands site panel line (with_piece (told_cable calls line) piece state) new) →
    (place : ℕ) (l : PolledLine) → slice_get (slice_set lines (line - 1) new) place ≡ Some l
    → LineStands site panel (place + 1) (told_cable (Cabled line piece state ∷ calls) (place + 1)) l
told_lines site panel calls lines line piece state polled new each first is told place l h =
    let within = slice_get_within lines (line - 1) polled is in
    elim (cases_eq place (line - 1)) [
      | inl same ↦ (let at : place + 1 ≡ line = omega arith in
          let from : (line - 1) + 1 ≡ line = omega arith in
          let e : new ≡ l = set_at lines (line - 1) place new l h within same in
          let test : (line == place + 1) ≡ true = eq-eqb line (place + 1) (sym at) in
          let before : LineStands site panel line (told_cable calls line) polled = rw from at (each (line - 1) polled is) in
          rw (test, at, ← e) (told before))
      | inr other ↦ (let test : (line == place + 1) ≡ false = ne_eqb line (place + 1) (λ e. other (omega arith)) in
          rw test (each place l (set_past lines (line - 1) place new l h other)))
    ]

-- the four lines of a panel at the start
pub four_lines : (site : Site) (panel : ℕ) (a b c d : PolledLine) →
    LineStands site panel 1 sound_cable a → LineStands site panel 2 sound_cable b → LineStands site panel 3 sound_cable c
    → LineStands site panel 4 sound_cable d →
    (place : ℕ) (l : PolledLine) → slice_get (a ∷ b ∷ c ∷ d ∷ []) place ≡ Some l → LineStands site panel (place + 1) (told_cable [] (place + 1)) l
four_lines site panel a b c d p q r s zero l h = let e : a ≡ l = cc in subst (λ (x : PolledLine). LineStands site panel 1 sound_cable x) e p
four_lines site panel a b c d p q r s (suc zero) l h = let e : b ≡ l = cc in subst (λ (x : PolledLine). LineStands site panel 2 sound_cable x) e q
four_lines site panel a b c d p q r s (suc (suc zero)) l h = let e : c ≡ l =
    cc in subst (λ (x : PolledLine). LineStands site panel 3 sound_cable x) e r
four_lines site panel a b c d p q r s (suc (suc (suc zero))) l h = let e : d ≡ l =
    cc in subst (λ (x : PolledLine). LineStands site panel 4 sound_cable x) e s
four_lines site panel a b c d p q r s (suc (suc (suc (suc place)))) l h = absurd cc

no_plan : (site : Site) (panel line address : ℕ) → loop_of site panel line ≡ None → HasAddress site panel line address → ⊥
no_plan site panel line address none has =
    let fails = none_passes (λ (l : LoopPlan). (l.panel == panel) && (l.line == line)) site.loops has.place has.plan none has.is in
    let passes =
    and_from (has.plan.panel == panel) (has.plan.line == line) (eq-eqb has.plan.panel panel has.at_panel) (eq-eqb has.plan.line line has.at_line)
    in
    let no : true ≡ false = sym passes ∙ fails in
    cc

-- a loop that isn't there has no points
pub no_points : (site : Site) (panel line address : ℕ) → IsValid site → loop_of site panel line ≡ None → (o : Option ℕ)
    → point_at site panel line address ≡ o → o ≡ None
no_points site panel line address valid none None h = refl
no_points site panel line address valid none (Some place) h =
    let there = point_there site panel line address place h in
    let has : HasAddress site panel line address =
    rw (there.at.panel_is, there.at.line_is, there.at.address_is) at (loop_of_point site valid place there.point there.is) in
    absurd (no_plan site panel line address none has)

no_loop : (o : Option LoopPlan) (cable : Cable) (kept : Option LoopLine) → CableStands o cable kept → is_some kept ≡ false → o ≡ None
no_loop None cable kept stands none = refl
no_loop (Some plan) cable None stands none = absurd stands
no_loop (Some plan) cable (Some line) stands none = cc

no_answer : {X : Type 0} (asked : Bool) (answer : ℕ → X) (o : Option ℕ) → o ≡ None → (if asked then option_map answer o else None) ≡ None
no_answer true answer o none = ap (option_map answer) none
no_answer false answer o none = refl

-- nor is anything asked on it
pub nothing_asked : (site : Site) (panel line : ℕ) (points : ℕ → PointState) (cables : ℕ → Cable) (tick : ℕ) (polled : PolledLine) → IsValid site
    → LineStands site panel line (cables line) polled → is_some polled.cable ≡ false →
    asked_on site panel points cables tick line ≡ []
nothing_asked site panel line points cables tick polled valid stands none =
    let absent = no_loop (loop_of site panel line) (cables line) polled.cable stands.cable_stands none in
    none_found (answer_from site panel points cables tick line) 1 (last_address_of site.format) (λ address low high.
    no_answer (is_asked site.format address tick) (answer_of site panel points cables tick line address) (point_at site panel line address)
    (no_points site panel line address valid absent (point_at site panel line address) refl))
