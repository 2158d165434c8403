-- A store in memory is steady.
use Rattle.std.proofs.Common.{refl}
use Rattle.sqlite.specs.Steps.{over_memory}
use Rattle.sqlite.proofs.Callers.{memory_is_clean}
use Rattle.register_sqlite.specs.Stored.{IsSteady}

pub memory_is_steady : IsSteady over_memory
memory_is_steady held = (memory_is_clean held, refl, refl)
