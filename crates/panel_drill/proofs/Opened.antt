-- A journal that is opened on an empty disk is a new one.
use Rattle.std.proofs.Common.{◌≡◌, ℕ, Bool, inl, inr, List, [], ◌∷◌}
use Rattle.site_types.specs.declared.retained.Retained.{Retained}
use Rattle.site_types.specs.Changes.{nothing_retained}
use Rattle.retained_journal.specs.Outcomes.{IsKeptIn}

-- it keeps nothing
pub keeps_nothing : (wide : Bool) (digest : List ℕ) (state : Retained) (file : List ℕ) → file ≡ [] → IsKeptIn wide digest state file
    → state ≡ nothing_retained
keeps_nothing wide digest state (x ∷ file) none kept = absurd (cc)
keeps_nothing wide digest state [] none (inl opens) = absurd (cc)
keeps_nothing wide digest state [] none (inr (empty, nothing)) = nothing
