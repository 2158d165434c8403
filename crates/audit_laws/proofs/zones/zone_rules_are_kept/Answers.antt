use Rattle.audit_laws.proofs.AlikeZones.{zones_alike}
use Rattle.audit_laws.proofs.ZonesJudged.{zone_rules_kept}
use Rattle.audit_laws.proofs.zones.zone_rules_are_kept.Goals as goal

pub returns-clause-alike : goal.returns-clause-alike
returns-clause-alike c = zones_alike

pub returns-clause-kept : goal.returns-clause-kept
returns-clause-kept c = zone_rules_kept
