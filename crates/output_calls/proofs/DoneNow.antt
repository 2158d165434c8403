-- What the operations of one more tick make of what was told before, where the latest stands first.
use Rattle.std.proofs.Common.{◌≡◌, ◌≤◌, ◌<◌, ◌+◌, ◌==◌, ◌&&◌, ℕ, Bool, true, false, List, [], ◌∷◌, map, if◌then◌else◌}
use Rattle.std.proofs.Common.{inl, inr, refl, sym, ◌∙◌, ap, subst, arith}
use Rattle.std.specs.List.{AllByRecursion}
use Rattle.std.proofs.lemmas.Bool.Decides.{eqb_tells}
use Rattle.site_types.specs.declared.operation.Operation.{Operation}
use Rattle.site_types.specs.Done.{Done}
use Rattle.site_types.proofs.Done.{lt_tells}
use Rattle.panel_rules.proofs.Counting.{each_to}
use Rattle.output_calls.specs.DoneCalls.{IsLatestFirst, and_done_in}

pub and_yes : (b : Bool) → (b && true) ≡ b
and_yes true = refl
and_yes false = refl

pub and_no : (b : Bool) → (b && false) ≡ false
and_no true = refl
and_no false = refl

-- a value at a tick goes by the operations of earlier ticks
pub record GoesByEarlier {V : Type 0} (value : ℕ → List Done → V) (after : Done → V → V) : Type 0 where
  pub at_first : (x y : ℕ) → value x [] ≡ value y []
  pub yet : (x : ℕ) (d : Done) (ds : List Done) → x ≤ d.tick → value x (d ∷ ds) ≡ value x ds
  pub past : (x : ℕ) (d : Done) (ds : List Done) → d.tick < x → value x (d ∷ ds) ≡ after d (value x ds)

module _ {C : Type 0} (adds : Operation → List C → List C) (panel tick : ℕ) where
  now_at : (d : Done) (ds : List Done) (calls : List C) → d.tick ≡ tick
      → and_done_in adds panel tick (d ∷ ds) calls
      ≡ (if d.panel == panel then adds d.operation (and_done_in adds panel tick ds calls) else and_done_in adds panel tick ds calls)
  now_at d ds calls is =
      ap (λ b. if b then adds d.operation (and_done_in adds panel tick ds calls) else and_done_in adds panel tick ds calls)
      (ap (λ b. (d.panel == panel) && b) same ∙ and_yes (d.panel == panel))
    where
      same : (d.tick == tick) ≡ true
      same = elim (eqb_tells d.tick tick) [ inl t ↦ t.0 | inr t ↦ absurd (t.1 is) ]

  pub now_not : (d : Done) (ds : List Done) (calls : List C) → (d.tick == tick) ≡ false
      → and_done_in adds panel tick (d ∷ ds) calls ≡ and_done_in adds panel tick ds calls
  now_not d ds calls apart =
      ap (λ b. if b then adds d.operation (and_done_in adds panel tick ds calls) else and_done_in adds panel tick ds calls)
      (ap (λ b. (d.panel == panel) && b) apart ∙ and_no (d.panel == panel))

  none_now : (ds : List Done) (calls : List C) → AllByRecursion (λ x. x < tick) (map (λ (d : Done). d.tick) ds)
      → and_done_in adds panel tick ds calls ≡ calls
  none_now [] calls early = refl
  none_now (d ∷ ds) calls early = now_not d ds calls apart ∙ none_now ds calls early.1
    where
      apart : (d.tick == tick) ≡ false
      apart = elim (eqb_tells d.tick tick) [ inl t ↦ (let is = t.1 in let less = early.0 in absurd (omega (arith, is, less))) | inr t ↦ t.0 ]

  module _ {V : Type 0} (value : ℕ → List Done → V) (after : Done → V → V) (goes : GoesByEarlier value after) where
    same_value : (ds : List Done) → AllByRecursion (λ x. x < tick) (map (λ (d : Done). d.tick) ds) → value (tick + 1) ds ≡ value tick ds
    same_value [] early = goes.at_first (tick + 1) tick
    same_value (d ∷ ds) early =
        goes.past (tick + 1) d ds (let less = early.0 in omega (arith, less)) ∙ ap (after d) (same_value ds early.1)
        ∙ sym (goes.past tick d ds early.0)

    -- where each operation of the tick makes of calls and value what agrees, all of them do
    pub one_tick_more : (Agree : List C → V → Type 0)
        → ((d : Done) (calls : List C) (v : V) → d.tick ≡ tick → Agree calls v
        → Agree (if d.panel == panel then adds d.operation calls else calls) (after d v)) →
        (ds : List Done) (calls : List C) → IsLatestFirst ds → Agree calls (value tick ds)
        → Agree (and_done_in adds panel tick ds calls) (value (tick + 1) ds)
    one_tick_more Agree each [] calls falls h = subst (Agree calls) (goes.at_first tick (tick + 1)) h
    one_tick_more Agree each (d ∷ ds) calls falls h =
        elim (eqb_tells d.tick tick) [
          | inl t ↦
              (let is = t.1 in
              subst (λ (made : List C). Agree made (value (tick + 1) (d ∷ ds))) (sym (now_at d ds calls is))
              (subst (Agree (if d.panel == panel then adds d.operation (and_done_in adds panel tick ds calls) else and_done_in adds panel tick ds calls))
              (sym (goes.past (tick + 1) d ds (omega (arith, is))))
              (each d (and_done_in adds panel tick ds calls) (value (tick + 1) ds) is
              (one_tick_more Agree each ds calls falls.1 (subst (Agree calls) (goes.yet tick d ds (omega (arith, is))) h)))))
          | inr t ↦
              elim (lt_tells d.tick tick) [
                | inl early ↦
                    (let less = early.1 in
                    let all : AllByRecursion (λ x. x < tick) (map (λ (e : Done). e.tick) (d ∷ ds)) =
                    (less, each_to (λ x. x ≤ d.tick) (λ x. x < tick) (map (λ (e : Done). e.tick) ds) (λ x by. omega (arith, by, less)) falls.0) in
                    subst (λ (made : List C). Agree made (value (tick + 1) (d ∷ ds))) (sym (none_now (d ∷ ds) calls all))
                    (subst (Agree calls) (sym (same_value (d ∷ ds) all)) h))
                | inr late ↦
                    (let by = late.1 in
                    let apart = t.1 in
                    subst (λ (made : List C). Agree made (value (tick + 1) (d ∷ ds))) (sym (now_not d ds calls t.0))
                    (subst (Agree (and_done_in adds panel tick ds calls)) (sym (goes.yet (tick + 1) d ds (omega (arith, by, apart))))
                    (one_tick_more Agree each ds calls falls.1 (subst (Agree calls) (goes.yet tick d ds by) h))))
              ]
        ]
