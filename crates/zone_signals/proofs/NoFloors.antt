-- A span has no floor where the last one lies before it.
use Rattle.std.proofs.Common.{◌≡◌, ℕ, ◌≤◌, ◌<◌, ◌&&◌, not, max, Bool, true, false, List, [], ◌∷◌, refl, ◌∙◌, ap, arith, if◌then◌else◌}
use Rattle.std.specs.Prelude.{nat_le, nat_lt}
use Rattle.std.proofs.lemmas.Bool.Decides.{nat_tests}
use Rattle.site_types.specs.declared.site.Site.{Site}
use Rattle.site_types.specs.Done.{Done, cancelled_before, cancels, floor_before, latest_before, moves_floor}
use Rattle.panel_rules.specs.Due.{NoCancelling, NoFloor, none_in}
use Rattle.panel_rules.proofs.Bools.{both}
use Rattle.panel_rules.proofs.Floors.{none_since}

outside : (first last tick rest : ℕ) (on : Bool) → (if on && nat_lt tick last then max tick rest else rest) < first
    → (not (on && (nat_le first tick && nat_lt tick last)) ≡ true) × (rest < first)
outside first last tick rest false less = (refl, less)
outside first last tick rest true less = go (nat_lt tick last) refl less
  where
    go : (b : Bool) → nat_lt tick last ≡ b → (if b then max tick rest else rest) < first → (not (nat_le first tick && nat_lt tick last) ≡ true) × (rest < first)
    go false e less' = (ap (λ x. not (nat_le first tick && x)) e ∙ none (nat_le first tick), less')
      where
        none : (b : Bool) → not (b && false) ≡ true
        none true = refl
        none false = refl
    go true e less' =
        let late : nat_le first tick ≡ false = grind (arith, nat_tests, less') in
        (ap (λ x. not (x && nat_lt tick last)) late, omega (arith, less'))

pub none_to : (test : Done → Bool) (first last : ℕ) (done : List Done) → latest_before test last done < first → none_in test first last done ≡ true
none_to test first last [] less = refl
none_to test first last (d ∷ ds) less =
    let p = outside first last d.tick (latest_before test last ds) (test d) less in
    both _ _ p.0 (none_to test first last ds p.1)

pub floor_clear : (site : Site) (done : List Done) (zone first last : ℕ) → floor_before site zone last done < first → NoFloor site done zone first last
floor_clear site done zone first last less = none_to (moves_floor site zone) first last done less

pub floor_past : (site : Site) (done : List Done) (zone first last before : ℕ) → 1 ≤ first → before ≤ last → NoFloor site done zone first last
    → floor_before site zone before done < first
floor_past site done zone first last before one by none = none_since (moves_floor site zone) first last before done one by none

pub cancelling_clear : (done : List Done) (zone first last : ℕ) → cancelled_before zone last done < first → NoCancelling done zone first last
cancelling_clear done zone first last less = none_to (cancels zone) first last done less

pub cancelling_past : (done : List Done) (zone first last : ℕ) → 1 ≤ first → NoCancelling done zone first last → cancelled_before zone last done < first
cancelling_past done zone first last one none = none_since (cancels zone) first last last done one (omega arith) none
