-- What each call of a keeper in memory does besides its work: it is counted, and fails where it is listed.
use Rattle.std.specs.Prelude.{◌≡◌, ◌↔◌, Result, Err}
use Rattle.panel_edges.specs.Faults.{IsListed, counted}
use Rattle.service_keepers.specs.Keeping.{HasKeepCause}
use Rattle.service_keepers.specs.declared.keep_fault.KeepFault.{KeepFault}
use Rattle.service_keepers.specs.declared.keep_fault.KeepFault.TheVariants.{Failed}
use Rattle.service_keepers.specs.declared.memory_keeper.MemoryKeeper.{MemoryKeeper}

pub record HasCounted {T : Type 0} (old new : MemoryKeeper) (result : Result T KeepFault) : Type 0 where
  pub cause : HasKeepCause old.faults new.faults result
  pub fails : (result ≡ Err Failed) ↔ IsListed old.fails.items old.calls
  pub calls : new.calls ≡ counted old.calls
  pub list : new.fails.items ≡ old.fails.items
