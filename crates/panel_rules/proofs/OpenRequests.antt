-- Those that are asked for are answered, wait, or are still open: Desk has yet to have its turn in their tick.
use Rattle.std.proofs.Common.{◌≡◌, ℕ, ◌+◌, ◌≤◌, List, [], ◌∷◌, inl, inr, Bool, true, false, not, if◌then◌else◌, ◌==◌, ◌&&◌, refl, sym, ◌∙◌, subst, arith}
use Rattle.std.specs.Prelude.{option_map}
use Rattle.access_levels.specs.Levels.{level_of}
use Rattle.std.proofs.lemmas.Bool.Decides.{eqb_tells}
use Rattle.tick_units.specs.declared.task.Task.TheVariants.{Desk}
use Rattle.site_types.specs.declared.event.Event.TheVariants.{Op, Point, Cable, Supply, Link, Confirmed}
use Rattle.site_types.specs.declared.retained.Retained.{Retained}
use Rattle.site_types.specs.declared.site.Site.{Site}
use Rattle.panel_rules.specs.Moments.{Moment, Began, Happened, Turned, Kept, tick_of, has_turned, IsRun}
use Rattle.panel_rules.specs.Operations.{Request, requests_in, request_of, requests, operations}
use Rattle.panel_rules.proofs.Counting.{one, count, count-append, count-filter, count-sum, count-none, each_to}
use Rattle.panel_rules.proofs.Answering.{times, times_desk, times_keep, requests_by}

-- a request of this tick whose panel's Desk has not had its turn in it
abbrev pub is_open : (Request → Bool) → List Moment → Request → Bool
is_open test moments r = test r && ((r.tick == tick_of moments) && not (has_turned r.panel Desk moments))

pub eq_swap : (a b : ℕ) → (a == b) ≡ (b == a)
eq_swap a b =
    elim (eqb_tells a b) [
      | inl h ↦ h.0 ∙ sym (elim (eqb_tells b a) [ inl g ↦ g.0 | inr g ↦ absurd (g.1 (sym h.1)) ])
      | inr h ↦ h.0 ∙ sym (elim (eqb_tells b a) [ inl g ↦ absurd (h.1 (sym g.1)) | inr g ↦ g.0 ])
    ]

later_false : (b c : Bool) (t u : ℕ) → t ≤ u → (b && ((t == u + 1) && c)) ≡ false
later_false true c t u l = elim (eqb_tells t (u + 1)) [ inl h ↦ (let e = h.1 in absurd (omega (arith, e, l))) | inr h ↦ rw h.0 refl ]
later_false false c t u l = refl

-- when a tick begins, none is open
none_open : (site : Site) (test : Request → Bool) (before : List Moment) → count (is_open test (Began ∷ before)) (requests site before) ≡ 0
none_open site test before =
    count-none (is_open test (Began ∷ before)) (requests site before)
    (each_to _ _ (requests site before) (λ r h. later_false (test r) (not (has_turned r.panel Desk (Began ∷ before))) r.tick (tick_of before) h)
    (requests_by site before))

-- a turn of Desk takes those of its panel
takes : (b t turned same other : Bool) → other ≡ same → (same ≡ true → turned ≡ false)
    → one (b && (t && not (if same then true else turned))) + one ((other && t) && b) ≡ one (b && (t && not turned))
takes true true true true true e f = absurd (let x = f refl in cc)
takes true true false true true e f = refl
takes true false turned true true e f = refl
takes false true turned true true e f = refl
takes false false turned true true e f = refl
takes b t turned true false e f = cc
takes b t turned false true e f = cc
takes true true true false false e f = refl
takes true true false false false e f = refl
takes true false turned false false e f = refl
takes false t turned false false e f = refl

pub desk_takes : (site : Site) (test : Request → Bool) (panel : ℕ) (before : List Moment) → has_turned panel Desk before ≡ false
    → count (is_open test (Turned panel Desk ∷ before)) (requests site before) + count test
    (requests_in panel (tick_of before) (requests site before)) ≡ count (is_open test before) (requests site before)
desk_takes site test panel before yet =
    let filtered = count-filter test (λ (r : Request). (r.panel == panel) && (r.tick == tick_of before)) (requests site before) in
    let sum = count-sum (is_open test (Turned panel Desk ∷ before)) (λ (r : Request). ((r.panel == panel) && (r.tick == tick_of before)) && test r)
    (is_open test before) (requests site before) each in
    omega (arith, filtered, sum)
  where
    each : (r : Request) → one (is_open test (Turned panel Desk ∷ before) r) + one (((r.panel == panel) && (r.tick == tick_of before)) && test r)
        ≡ one (is_open test before r)
    each r =
        takes (test r) (r.tick == tick_of before) (has_turned r.panel Desk before) (panel == r.panel) (r.panel == panel) (eq_swap r.panel panel)
        (λ same.
        subst (λ p. has_turned p Desk before ≡ false)
        (elim (eqb_tells panel r.panel) [ inl h ↦ h.1 | inr h ↦ (let e = h.0 in absurd (let x = sym same ∙ e in cc)) ]) yet)

one_less : (b c : Bool) → one (b && c) ≤ one b
one_less true true = omega arith
one_less true false = omega arith
one_less false c = omega arith

module _ (site : Site) (kept : Retained) (test : Request → Bool) where
  -- none is answered more often than it was asked for
  pub answered_few : (moments : List Moment) → IsRun site.panels moments
      → times test (operations site kept moments) + count (is_open test moments) (requests site moments) ≤ count test (requests site moments)
  answered_few [] run = omega arith
  answered_few (Began ∷ before) run = let ih = answered_few before run.0 in let z = none_open site test before in omega (arith, ih, z)
  answered_few (Happened (Op panel code operation) ∷ before) run =
      let ih = answered_few before run.0 in
      let r = request_of (tick_of before) panel (level_of site (option_map (λ label. label.bytes) code)) operation (requests site before) in
      let a = count-append test (requests site before) (r ∷ []) in
      let o = count-append (is_open test before) (requests site before) (r ∷ []) in
      let l = one_less (test r) ((r.tick == tick_of before) && not (has_turned r.panel Desk before)) in
      omega (arith, ih, a, o, l)
  answered_few (Happened (Point point state) ∷ before) run = answered_few before run.0
  answered_few (Happened (Cable panel line piece state) ∷ before) run = answered_few before run.0
  answered_few (Happened (Supply panel kind bad) ∷ before) run = answered_few before run.0
  answered_few (Happened (Link link up) ∷ before) run = answered_few before run.0
  answered_few (Happened (Confirmed output) ∷ before) run = answered_few before run.0
  answered_few (Turned panel Desk ∷ before) run =
      let ih = answered_few before run.0 in
      let t = times_desk test site kept (requests_in panel (tick_of before) (requests site before)) (operations site kept before) in
      let o = desk_takes site test panel before run.1 in
      omega (arith, ih, t, o)
  answered_few (Turned panel task ∷ before) run = answered_few before run.0
  answered_few (Kept failed ∷ before) run =
      let ih = answered_few before run.0 in
      let t = times_keep test (tick_of before) failed (operations site kept before) in
      omega (arith, ih, t)
