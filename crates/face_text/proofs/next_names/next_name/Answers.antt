use Rattle.face_text.proofs.NextNames.{other_zones_alike, outputs_alike, points_alike, zones_alike}
use Rattle.face_text.proofs.next_names.next_name.Goals as goal

pub next_output-requires : goal.next_output-requires
next_output-requires c = outputs_alike c.args.passed.now c.args.site.now c.args.panel c.args.number c.args.group c.in-Unconfirmed.is c.requires

pub next_zone-requires : goal.next_zone-requires
next_zone-requires c = zones_alike c.args.passed.now c.args.site.now c.args.panel c.args.number c.args.group c.in-ZonesOff.is c.requires

pub next_point-requires : goal.next_point-requires
next_point-requires c = points_alike c.args.passed.now c.args.site.now c.args.panel c.in-Missing.line c.args.number c.args.group c.in-Missing.is c.requires

pub next_zone-requires-in-Zones : goal.next_zone-requires-in-Zones
next_zone-requires-in-Zones c = other_zones_alike c.args.passed.now c.args.site.now c.args.panel c.in-Zones.other c.args.number c.args.group c.in-Zones.is c.requires
