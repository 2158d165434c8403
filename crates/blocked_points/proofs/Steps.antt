-- What a tick and an operation make of what is kept.
use Rattle.std.proofs.Common.{◌≡◌, ℕ, ◌+◌, ◌≤◌, ◌<◌, Bool, false, List, [], ◌∷◌, ◌++◌, take, length, get_or, Some, slice_get, inl, inr, refl, ◌∙◌, subst, arith, length-append}
use Rattle.std.proofs.Math.ListN.{get_or-append}
use Rattle.std.proofs.Math.Seq.{get_or-append_seam}
use Rattle.std.proofs.lemmas.Bool.{cases_lt}
use Rattle.site_types.specs.declared.retained.Retained.{Retained}
use Rattle.site_types.specs.declared.site.Site.{Site}
use Rattle.blocked_points.specs.declared.blocked_points.BlockedPoints.{BlockedPoints}
use Rattle.blocked_points.specs.declared.blocked_settings.BlockedSettings.{BlockedSettings}
use Rattle.blocked_points.specs.declared.done_operation.DoneOperation.{DoneOperation}
use Rattle.blocked_points.specs.Blocks.{AreBlockFlags}
use Rattle.blocked_points.specs.BlocksStand.{BlocksStand}
use Rattle.blocked_points.specs.Operations.{done_newest_first}
use Rattle.blocked_points.specs.Stands.{StandsFor}
use Rattle.blocked_points.proofs.Counted.{earlier_on, later_on}

pub flags_none : (value : ℕ → Bool) → AreBlockFlags 0 value []
flags_none value = record { size = refl; each = λ place less. absurd (omega (arith, less)) }

-- one more flag
pub flags_more : (n : ℕ) (value : ℕ → Bool) (flags : List Bool) (flag : Bool) → flag ≡ value n → AreBlockFlags n value flags
    → AreBlockFlags (n + 1) value (flags ++ flag ∷ [])
flags_more n value flags flag is are = record {
  size = (let size = are.size in omega (arith, size, length-append flags (flag ∷ [])));
  each = λ place less.
      elim (cases_lt place n) [
        | inl before ↦
            (let size = are.size in
            get_or-append flags (flag ∷ []) false place (omega (arith, size, before)) ∙ are.each place before)
        | inr after ↦
            (let here : n ≡ place = omega (arith, less, after) in
            subst (λ k. get_or (flags ++ flag ∷ []) k false ≡ value k) here
            (subst (λ k. get_or (flags ++ flag ∷ []) k false ≡ value n) are.size (get_or-append_seam flags flag [] false ∙ is)))
      ];
}

-- the tick goes on
pub goes_on : (site : Site) (kept : Retained) (operations : List DoneOperation) (tick now end : ℕ) (old : BlockedPoints) (settings : BlockedSettings)
    → StandsFor site kept operations tick old → tick ≤ now → old.in_force ≤ end → end ≤ length operations
    → ((place : ℕ) (d : DoneOperation) → old.in_force ≤ place → place < end → slice_get operations place ≡ Some d → d.tick.0 < now)
    → ((d : DoneOperation) → slice_get operations end ≡ Some d → now ≤ d.tick.0)
    → BlocksStand site kept (done_newest_first (take end operations)) settings
    → StandsFor site kept operations now (record { settings = settings; in_force = end })
goes_on site kept operations tick now end old settings stands up from within earlier later blocks = record {
  in_order = stands.in_order;
  within = within;
  earlier = earlier_on operations old.in_force end tick now up stands.earlier earlier;
  later = later_on operations end now stands.in_order later;
  settings = blocks;
}

-- no operation comes into force
pub stays : (site : Site) (kept : Retained) (operations : List DoneOperation) (tick now end : ℕ) (old : BlockedPoints)
    → StandsFor site kept operations tick old → tick ≤ now → end ≤ old.in_force → (old.in_force ≤ length operations → old.in_force ≤ end)
    → ((d : DoneOperation) → slice_get operations end ≡ Some d → now ≤ d.tick.0) → StandsFor site kept operations now old
stays site kept operations tick now end old stands up none from later =
    let same : end ≡ old.in_force = (let f = from stands.within in omega (arith, none, f)) in
    goes_on site kept operations tick now old.in_force old old.settings stands up (omega arith) stands.within
    (λ place d low high at. absurd (omega (arith, low, high)))
    (subst (λ n. (d : DoneOperation) → slice_get operations n ≡ Some d → now ≤ d.tick.0) same later) stands.settings
