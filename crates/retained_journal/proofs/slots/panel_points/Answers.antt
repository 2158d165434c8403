use Rattle.std.proofs.Common.{◌≡◌, ◌+◌, ◌*◌, ℕ, Bool, List, [], ◌∷◌, ap, sym, add-zero, ◌∙◌, refl}
use Rattle.site_types.specs.declared.point_set.PointSet.{PointSet}
use Rattle.retained_journal.specs.Slots.{loop_at, panel_points}
use Rattle.retained_journal.proofs.slots.panel_points.Goals as goal

four : (wide : Bool) (at panel : ℕ) (file a b c d : List ℕ) → a ≡ loop_at wide at (4 * panel) file → b ≡ loop_at wide at (4 * panel + 1) file
    → c ≡ loop_at wide at (4 * panel + 2) file
    → d ≡ loop_at wide at (4 * panel + 3) file → ◌≡◌ {A = PointSet} (record { loops = a ∷ b ∷ c ∷ d ∷ [] }) (panel_points wide at panel file)
unfolding panel_points
four wide at panel file a b c d first second third fourth =
    let e : loop_at wide at (4 * panel) file ≡ loop_at wide at (4 * panel + 0) file =
    ap (λ (k : ℕ). loop_at wide at k file) (sym (add-zero (4 * panel))) in
    rw (first ∙ e, second, third, fourth) refl

pub returns : goal.returns
returns c =
    four c.args.wide c.args.at c.args.panel c.args.bytes.now _ _ _ _ c.read_loop.ensures c.read_loop-2.ensures c.read_loop-3.ensures
    c.read_loop-4.ensures
