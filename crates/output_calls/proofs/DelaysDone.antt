-- What the operations that were done in a tick tell the delays of a panel.
use Rattle.std.proofs.Common.{◌≡◌, ◌≢◌, ◌≤◌, ◌<◌, ◌==◌, ◌&&◌, ◌||◌, ◌⊎◌, not, ℕ, Bool, true, false, List}
use Rattle.std.proofs.Common.{[], ◌∷◌, if◌then◌else◌, inl, inr, refl, sym, ◌∙◌, ap}
use Rattle.std.proofs.Common.{arith}
use Rattle.std.specs.Prelude.{nat_le, nat_lt}
use Rattle.std.proofs.lemmas.Bool.Decides.{eqb_tells}
use Rattle.site_types.specs.declared.item.Item.TheVariants.{Point, Zone, Output as OutputItem}
use Rattle.site_types.specs.declared.operation.Operation.{Operation}
use Rattle.site_types.specs.declared.operation.Operation.TheVariants.{Mute, Override, Silence, Resound, Reset, Cancel}
use Rattle.site_types.specs.declared.operation.Operation.TheVariants.{Disable, Enable, Test, Untest, Delays, Clear}
use Rattle.site_types.specs.declared.retained.Retained.{Retained}
use Rattle.site_types.specs.declared.site.Site.{Site}
use Rattle.site_types.specs.Done.{Done, DelaysOff, Setting, in_force, is_on, is_override, is_setting}
use Rattle.site_types.specs.Done.{operation_setting, override_done_in, value_set}
use Rattle.site_types.proofs.Done.{in_force-then, in_force-yet, lt_true, override-yet}
use Rattle.output_delays.specs.Runs.{Call, are_active}
use Rattle.output_delays.specs.Runs.{overrides_of, request_ticks}
use Rattle.output_delays.specs.Overrides.{is_any_in}
use Rattle.panel_rules.proofs.AnswersTell.{eq_true}
use Rattle.panel_rules.proofs.Bools.{both, either, either_left, either_right, parts}
use Rattle.panel_rules.proofs.Floors.{le_from, le_to}
use Rattle.output_calls.specs.DelayCalls.{and_delaying}
use Rattle.output_calls.specs.DoneCalls.{and_done_in}
use Rattle.output_calls.proofs.DoneNow.{GoesByEarlier, and_yes}

-- it leaves requests as they were
pub requests_stay : (number panel tick : ℕ) (ds : List Done) (calls : List Call)
    → request_ticks number (and_done_in (and_delaying tick) panel tick ds calls) ≡ request_ticks number calls
requests_stay number panel tick [] calls = refl
requests_stay number panel tick (d ∷ ds) calls =
    go ((d.panel == panel) && (d.tick == tick)) (and_done_in (and_delaying tick) panel tick ds calls) ∙ requests_stay number panel tick ds calls
  where
    one : (operation : Operation) (calls : List Call) → request_ticks number (and_delaying tick operation calls) ≡ request_ticks number calls
    one Mute calls = refl
    one Override calls = refl
    one Silence calls = refl
    one Resound calls = refl
    one Reset calls = refl
    one (Cancel zone) calls = refl
    one (Disable item) calls = refl
    one (Enable item) calls = refl
    one (Test zone) calls = refl
    one (Untest zone) calls = refl
    one (Delays active) calls = refl
    one Clear calls = refl

    go : (b : Bool) (calls : List Call)
        → request_ticks number (if b then and_delaying tick d.operation calls else calls) ≡ request_ticks number calls
    go true calls = one d.operation calls
    go false calls = refl

-- a setting goes by the operations of earlier ticks
pub setting_goes : (site : Site) (kept : Retained) (setting : Setting)
    → GoesByEarlier (in_force site kept setting) (λ d before. if is_on setting d then value_set d.operation else before)
setting_goes site kept setting =
    record { at_first = λ x y. refl; yet = λ x d ds by. in_force-yet site kept setting x d ds by; past = λ x d ds less. in_force-then site kept setting x d ds less }

-- so does whether an override was done
pub override_goes : (panel first : ℕ)
    → GoesByEarlier (override_done_in panel first) (λ d before. (d.panel == panel && is_override d.operation && nat_le first d.tick) || before)
override_goes panel first = record {
  at_first = λ x y. refl;
  yet = λ x d ds by. override-yet panel first x d ds by;
  past = λ x d ds less. ap (λ b. b || override_done_in panel first x ds)
      (ap (λ b. d.panel == panel && is_override d.operation && nat_le first d.tick && b) (lt_true d.tick x less)
      ∙ and_yes (d.panel == panel && is_override d.operation && nat_le first d.tick));
}

-- an operation switches the delays of its own panel
pub switched : (panel tick : ℕ) (first v : Bool) (d : Done) (calls : List Call) → are_active first calls ≡ not v
    → are_active first (if d.panel == panel then and_delaying tick d.operation calls else calls)
    ≡ not (if is_on (DelaysOff panel) d then value_set d.operation else v)
switched panel tick first v d calls h = go (eqb_tells d.panel panel)
  where
    twice : (b : Bool) → b ≡ not (not b)
    twice true = refl
    twice false = refl

    own : (q : ℕ) (operation : Operation) → panel ≡ q
        → are_active first (and_delaying tick operation calls)
        ≡ not (if is_setting (DelaysOff panel) (operation_setting q operation) then value_set operation else v)
    own q Mute same = h
    own q Override same = h
    own q Silence same = h
    own q Resound same = h
    own q Reset same = h
    own q (Cancel zone) same = h
    own q (Disable (Point point)) same = h
    own q (Disable (Zone zone)) same = h
    own q (Disable (OutputItem output)) same = h
    own q (Enable (Point point)) same = h
    own q (Enable (Zone zone)) same = h
    own q (Enable (OutputItem output)) same = h
    own q (Test zone) same = h
    own q (Untest zone) same = h
    own q (Delays active) same = twice active ∙ sym (ap (λ b. not (if b then not active else v)) (eq_true panel q same))
    own q Clear same = h

    other : (q : ℕ) (operation : Operation) → (panel == q) ≡ false
        → are_active first calls ≡ not (if is_setting (DelaysOff panel) (operation_setting q operation) then value_set operation else v)
    other q Mute apart = h
    other q Override apart = h
    other q Silence apart = h
    other q Resound apart = h
    other q Reset apart = h
    other q (Cancel zone) apart = h
    other q (Disable (Point point)) apart = h
    other q (Disable (Zone zone)) apart = h
    other q (Disable (OutputItem output)) apart = h
    other q (Enable (Point point)) apart = h
    other q (Enable (Zone zone)) apart = h
    other q (Enable (OutputItem output)) apart = h
    other q (Test zone) apart = h
    other q (Untest zone) apart = h
    other q (Delays active) apart = h ∙ sym (ap (λ b. not (if b then not active else v)) apart)
    other q Clear apart = h

    turned_round : d.panel ≢ panel → (panel == d.panel) ≡ false
    turned_round apart = elim (eqb_tells panel d.panel) [ inl t ↦ absurd (apart (sym t.1)) | inr t ↦ t.0 ]

    go : (((d.panel == panel) ≡ true) × (d.panel ≡ panel)) ⊎ (((d.panel == panel) ≡ false) × (d.panel ≢ panel))
        → are_active first (if d.panel == panel then and_delaying tick d.operation calls else calls)
        ≡ not (if is_on (DelaysOff panel) d then value_set d.operation else v)
    go (inl t) = ap (λ b. are_active first (if b then and_delaying tick d.operation calls else calls)) t.0 ∙ own d.panel d.operation (sym t.1)
    go (inr t) =
        ap (λ b. are_active first (if b then and_delaying tick d.operation calls else calls)) t.0 ∙ other d.panel d.operation (turned_round t.1)

-- an override of the own panel is one more
pub overridden : (panel first tick now : ℕ) (v : Bool) (d : Done) (calls : List Call) → tick < now → d.tick ≡ tick
    → is_any_in first now (overrides_of calls) ≡ v
    → is_any_in first now (overrides_of (if d.panel == panel then and_delaying tick d.operation calls else calls))
    ≡ ((d.panel == panel && is_override d.operation && nat_le first d.tick) || v)
overridden panel first tick now v d calls early is h = go (d.panel == panel)
  where
    one : (operation : Operation) → is_any_in first now (overrides_of (and_delaying tick operation calls))
        ≡ ((is_override operation && nat_le first d.tick) || v)
    one Override =
        ap (λ b. (nat_le first tick && b) || is_any_in first now (overrides_of calls)) (lt_true tick now early)
        ∙ ap (λ b. b || is_any_in first now (overrides_of calls)) (and_yes (nat_le first tick) ∙ ap (nat_le first) (sym is))
        ∙ ap (λ b. nat_le first d.tick || b) h
    one other = h

    go : (b : Bool) → is_any_in first now (overrides_of (if b then and_delaying tick d.operation calls else calls))
        ≡ ((b && is_override d.operation && nat_le first d.tick) || v)
    go true = one d.operation
    go false = h

pub none_at_start : (panel first : ℕ) (ds : List Done) → false ≡ override_done_in panel first 0 ds
none_at_start panel first [] = refl
none_at_start panel first (d ∷ ds) = none_at_start panel first ds ∙ sym (override-yet panel first 0 d ds (omega arith))

-- an override after a tick is one after each earlier tick
pub override_earlier : (panel x a b : ℕ) → a ≤ b → (ds : List Done) → override_done_in panel b x ds ≡ true → override_done_in panel a x ds ≡ true
override_earlier panel x a b less [] h = h
override_earlier panel x a b less (d ∷ ds) h =
    elim (either (d.panel == panel && is_override d.operation && nat_le b d.tick && nat_lt d.tick x) (override_done_in panel b x ds) h) [
      | inl t ↦
          (let p = parts (d.panel == panel && is_override d.operation && nat_le b d.tick) (nat_lt d.tick x) t in
          let q = parts (d.panel == panel && is_override d.operation) (nat_le b d.tick) p.0 in
          let later = le_from b d.tick q.1 in
          either_left _ _ (both _ _ (both _ _ q.0 (le_to a d.tick (omega (arith, less, later)))) p.1))
      | inr t ↦ either_right _ _ (override_earlier panel x a b less ds t)
    ]
