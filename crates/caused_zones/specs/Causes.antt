-- What is kept of a zone that is caused.
use Rattle.std.specs.Prelude.{ℕ, Bool, true, false, if◌then◌else◌}
use Rattle.caused_zones.specs.declared.cause.Cause.{Cause}

abbrev pub no_cause : Cause
no_cause = record { stands = false; until = 0 }

-- nothing that was given up to a tick causes it any more
abbrev pub cause_ended : ℕ → Cause → Cause
cause_ended at cause = if cause.stands then record { stands = false; until = at } else cause

abbrev pub cause_given : Cause → Cause
cause_given cause = record { stands = true; until = cause.until }

-- what is kept of a zone: it is caused where it was or something causes it now
abbrev pub cause_with : Bool → Cause → Cause
cause_with given cause = if given then cause_given cause else cause

-- the last tick by now at which it was caused, 0 where there is none
abbrev pub last_caused : ℕ → Cause → ℕ
last_caused now cause = if cause.stands then now else cause.until
