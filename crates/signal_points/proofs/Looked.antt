-- The points are looked at one after another.
use Rattle.std.proofs.Common.{◌≡◌, ◌≢◌, inl, inr, ℕ, ◌+◌, ◌≤◌, ◌<◌, Bool, List, length, get_or, sym, ◌∙◌, ap, subst, arith}
use Rattle.std.proofs.Math.ListN.{set, length-set}
use Rattle.std.proofs.lemmas.Bool.Decides.{leb_tells}
use Rattle.std.proofs.lemmas.List.{get_or-set_same, get_or-set_other}
use Rattle.std.proofs.lemmas.Option.{get_or_from_slice_get, slice_get-get_or}
use Rattle.point_runs.specs.declared.point_run.PointRun.{PointRun}
use Rattle.point_runs.specs.Runs.{run_after}
use Rattle.signal_points.specs.Looks.{AreRunsAfter}

-- the runs of so many points were looked at, the others weren't yet
pub record AreLooked (round tick : ℕ) (holds : ℕ → Bool) (start runs : List PointRun) (count : ℕ) : Type 0 where
  pub size : length runs ≡ length start
  pub each : (point : ℕ) (other : PointRun) → point < count → get_or runs point other ≡ run_after round tick (holds point) (get_or start point other)
  pub others : (point : ℕ) (other : PointRun) → count ≤ point → get_or runs point other ≡ get_or start point other

-- an element doesn't depend on the value that is read past the end
one_element : (runs : List PointRun) (point : ℕ) (one other : PointRun) → point < length runs → get_or runs point other ≡ get_or runs point one
one_element runs point one other l = get_or_from_slice_get runs point (get_or runs point one) other (slice_get-get_or runs point one l)

module _ (round tick : ℕ) (holds : ℕ → Bool) (start runs : List PointRun) (count : ℕ) (are : AreLooked round tick holds start runs count)
    (within : count < length start) where
  inside : count < length runs
  inside = let size = are.size in omega (arith, within, size)

  module _ (run one : PointRun) (held : Bool) (is : held ≡ holds count) (after : run ≡ run_after round tick held (get_or runs count one)) where
    here : (other : PointRun) → get_or (set runs count run) count other ≡ run_after round tick (holds count) (get_or start count other)
    here other =
        get_or-set_same runs count run other inside ∙ after ∙ ap (λ b. run_after round tick b (get_or runs count one)) is
        ∙ ap (run_after round tick (holds count)) (sym (one_element runs count one other inside) ∙ are.others count other (omega arith))

    each_looked : (point : ℕ) (other : PointRun) → point < count + 1
        → get_or (set runs count run) point other ≡ run_after round tick (holds point) (get_or start point other)
    each_looked point other l =
        elim (leb_tells count point) [
          | inl h ↦
              (let k = h.1 in
              let e : count ≡ point = omega (arith, k, l) in
              subst (λ p. get_or (set runs count run) p other ≡ run_after round tick (holds p) (get_or start p other)) e (here other))
          | inr h ↦
              (let k = h.1 in
              let off : point ≢ count = omega (arith, k) in
              get_or-set_other runs count point run other off ∙ are.each point other k)
        ]

    stays : (point : ℕ) (other : PointRun) → count + 1 ≤ point → get_or (set runs count run) point other ≡ get_or start point other
    stays point other l =
        let off : point ≢ count = omega (arith, l) in
        get_or-set_other runs count point run other off ∙ are.others point other (omega (arith, l))

    pub looked_more : AreLooked round tick holds start (set runs count run) (count + 1)
    looked_more = record { size = length-set runs count run ∙ are.size; each = each_looked; others = stays }

pub looked_all : (round tick : ℕ) (holds : ℕ → Bool) (start runs : List PointRun) (count : ℕ) → length start ≤ count
    → AreLooked round tick holds start runs count → AreRunsAfter round tick holds start runs
looked_all round tick holds start runs count ended are = record {
  size = are.size;
  each = λ point other l. are.each point other (omega (arith, l, ended));
}
