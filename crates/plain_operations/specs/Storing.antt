-- Changes that can be made of what is retained.
use Rattle.std.specs.Prelude.{◌≡◌, ℕ, List}
use Rattle.std.specs.List.{cons_option}
use Rattle.site_types.specs.declared.change.Change.{Change}
use Rattle.site_types.specs.declared.change.Change.TheVariants.{Delays, Clear}
use Rattle.site_types.specs.declared.operation.Operation.{Operation}
use Rattle.site_types.specs.declared.retained.Retained.{Retained}
use Rattle.site_types.specs.declared.site.Site.{Site}
use Rattle.site_types.specs.Changes.{CanApply, changed_by, operation_change}

-- what a change names has a place; any panel has delays and a counter that can be asked to change
abbrev pub HasPlace : Change → Type 0
HasPlace (Delays panel off) = Unit {0}
HasPlace (Clear panel) = Unit {0}
HasPlace change = CanApply change

-- the change that an operation of a panel makes is made, if it makes one, before any further ones
abbrev pub MakesChange : Site → ℕ → Operation → Retained → Retained → Type 0
MakesChange site panel operation earlier later =
    (rest : List Change)
    → changed_by (cons_option (operation_change site panel operation) rest) earlier ≡ changed_by rest later
