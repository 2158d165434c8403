-- Which outputs of a panel are sounders, by their numbers.
use Rattle.std.specs.Prelude.{ℕ, Bool}
use Rattle.site_types.specs.declared.site.Site.{Site}
use Rattle.site_types.specs.Things.{numbered_output}
use Rattle.panel_rules.specs.Outputs.{is_sounder_kind, on_output}

-- a panel has an output with this number, and it is a sounder
abbrev pub is_numbered_sounder : Site → ℕ → ℕ → Bool
is_numbered_sounder site panel number = on_output (λ o. is_sounder_kind o.kind) (numbered_output site panel number)
