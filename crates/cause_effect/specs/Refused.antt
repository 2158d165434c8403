-- What a refusal says.
use Rattle.site_types.specs.declared.site.Site.{Site}
use Rattle.cause_effect.specs.Cycles.{IsCycle}
use Rattle.cause_effect.specs.declared.refusal.PlanRefusal.{PlanRefusal}
use Rattle.cause_effect.specs.declared.refusal.PlanRefusal.TheVariants.{Cycle, NoMemory}

-- a cycle is the one that the walk finds; want of memory is tied to nothing
abbrev pub IsRefusal : Site → PlanRefusal → Type 0
IsRefusal site (Cycle markers) = IsCycle site markers
IsRefusal site NoMemory = Unit {0}
