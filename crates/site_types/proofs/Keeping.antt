-- What is kept of each setting, and what changes it.
use Rattle.std.specs.Prelude.{◌≡◌, ℕ, List, Option}
use Rattle.site_types.specs.declared.change.Change.{Change}
use Rattle.site_types.specs.declared.retained.Retained.{Retained}
use Rattle.site_types.specs.declared.site.Site.{Site}
use Rattle.site_types.specs.Changes.{operation_change}
use Rattle.site_types.specs.Done.{Done, IsSetting, Setting, at_opening, in_force}

-- each setting is kept with the value that is in force at x, after what was done since a site was opened
abbrev pub KeepsInForce : Site → Retained → List Done → ℕ → Retained → Type 0
KeepsInForce site opened done x kept = (setting : Setting) → IsSetting setting → at_opening site kept setting ≡ in_force site opened setting x done

abbrev pub change_of : Site → Done → Option Change
change_of site d = operation_change site d.panel d.operation
