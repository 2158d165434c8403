-- What compares as equal is equal, and the other way round: fault sets and what the buzzer sounds.
use denote.Enum.Bare.{sameb}
use Rattle.std.proofs.Common.{◌≡◌, ◌∙◌, ◌&&◌, ◌==◌, ℕ, Bool, true, nat_eq, refl, sym, ap}
use Rattle.std.specs.Cmp.Lexicographic.{pointwise}
use Rattle.std.proofs.lemmas.Bool.{eq-eqb, eqb-true}
use Rattle.site_types.specs.contracts.buzzer.Buzzer.{the_type}
use Rattle.site_types.specs.declared.buzzer.Buzzer.{Buzzer}
use Rattle.site_types.specs.declared.buzzer.Buzzer.TheVariants.{Off, Fault, Fire}
use Rattle.site_types.specs.declared.fault_set.FaultSet.{FaultSet}
use Rattle.site_types.specs.declared.point_set.PointSet.{PointSet}
use Rattle.coincidence_rules.proofs.Lists.{and_both, both_and}
use Rattle.panel_conditions.proofs.Unchanged.{same_sets, sets_same}

pub same_number : (a b : ℕ) (told : Bool) → told ≡ (a == b) → told ≡ true → a ≡ b
same_number a b told is e = eqb-true a b (sym is ∙ e)

sound : (a b : Buzzer) → sameb the_type a b ≡ true → a ≡ b
sound Off Off e = refl
sound Fault Fault e = refl
sound Fire Fire e = refl
sound Off Fault e = cc
sound Off Fire e = cc
sound Fault Off e = cc
sound Fault Fire e = cc
sound Fire Off e = cc
sound Fire Fault e = cc

pub same_buzzer : (a b : Buzzer) (told : Bool) → told ≡ sameb the_type a b → told ≡ true → a ≡ b
same_buzzer a b told is e = sound a b (sym is ∙ e)

abbrev made : PointSet → ℕ → ℕ → ℕ → ℕ → ℕ → ℕ → FaultSet
made missing broken shorted supply silent links unconfirmed =
    record { missing = missing; broken = broken; shorted = shorted; supply = supply; silent = silent; links = links; unconfirmed = unconfirmed }

abbrev all_same : FaultSet → FaultSet → Bool
all_same a b =
    pointwise (pointwise nat_eq) a.missing.loops b.missing.loops
    && ((a.broken == b.broken)
    && ((a.shorted == b.shorted)
    && ((a.supply == b.supply)
    && ((a.silent == b.silent) && ((a.links == b.links) && (a.unconfirmed == b.unconfirmed))))))

faults_from : (a b : FaultSet) → a.missing ≡ b.missing → a.broken ≡ b.broken → a.shorted ≡ b.shorted → a.supply ≡ b.supply → a.silent ≡ b.silent
    → a.links ≡ b.links → a.unconfirmed ≡ b.unconfirmed → a ≡ b
faults_from a b missing broken shorted supply silent links unconfirmed =
    let h : made a.missing a.broken a.shorted a.supply a.silent a.links a.unconfirmed
    ≡ made b.missing b.broken b.shorted b.supply b.silent b.links b.unconfirmed =
    rw (missing, broken, shorted, supply, silent, links, unconfirmed) refl in
    h

pub same_faults : (a b : FaultSet) → all_same a b ≡ true → a ≡ b
same_faults a b e =
    let missing = and_both _ _ e in
    let broken = and_both _ _ missing.1 in
    let shorted = and_both _ _ broken.1 in
    let supply = and_both _ _ shorted.1 in
    let silent = and_both _ _ supply.1 in
    let links = and_both _ _ silent.1 in
    faults_from a b (same_sets a.missing b.missing _ refl missing.0) (eqb-true a.broken b.broken broken.0) (eqb-true a.shorted b.shorted shorted.0)
    (eqb-true a.supply b.supply supply.0) (eqb-true a.silent b.silent silent.0) (eqb-true a.links b.links links.0)
    (eqb-true a.unconfirmed b.unconfirmed links.1)

-- a fault set compares as equal to itself
pub faults_same : (a b : FaultSet) → a ≡ b → all_same a b ≡ true
faults_same a b e =
    both_and _ _ (sets_same a.missing b.missing (ap (λ f. f.missing) e))
    (both_and _ _ (eq-eqb a.broken b.broken (ap (λ f. f.broken) e))
    (both_and _ _ (eq-eqb a.shorted b.shorted (ap (λ f. f.shorted) e))
    (both_and _ _ (eq-eqb a.supply b.supply (ap (λ f. f.supply) e))
    (both_and _ _ (eq-eqb a.silent b.silent (ap (λ f. f.silent) e))
    (both_and _ _ (eq-eqb a.links b.links (ap (λ f. f.links) e)) (eq-eqb a.unconfirmed b.unconfirmed (ap (λ f. f.unconfirmed) e)))))))
