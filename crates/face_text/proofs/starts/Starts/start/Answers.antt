use Rattle.std.proofs.Common.{◌≡◌, ◌==◌, false, refl, subst, sym, take}
use Rattle.std.specs.List.{list_any}
use Rattle.site_types.specs.declared.output.Output.{Output}
use Rattle.site_types.specs.declared.zone.Zone.{Zone}
use Rattle.face_text.proofs.NextNames.{behind_other_zones, behind_outputs, behind_points, behind_zones, is_on}
use Rattle.face_text.proofs.starts.Starts.start.Goals as goal

pub returns-in-Missing : goal.returns-in-Missing
returns-in-Missing c site passed =
    behind_points c.start_on.result site c.args.panel c.args.group c.in-Missing.line site.points c.in-Missing.is refl
    (subst (λ n. list_any (is_on c.args.panel c.in-Missing.line) (take n site.points) ≡ false) (sym c.start_on.ensures)
    (passed.points c.args.panel c.in-Missing.line))

pub returns-in-Unconfirmed : goal.returns-in-Unconfirmed
returns-in-Unconfirmed c site passed =
    behind_outputs c.start_of.result site c.args.panel c.args.group site.outputs c.in-Unconfirmed.is refl
    (subst (λ n. list_any (λ (output : Output). output.panel == c.args.panel) (take n site.outputs) ≡ false) (sym c.start_of.ensures)
    (passed.outputs c.args.panel))

pub returns-in-ZonesOff : goal.returns-in-ZonesOff
returns-in-ZonesOff c site passed =
    behind_zones c.start_of-in-ZonesOff.result site c.args.panel c.args.group site.zones c.in-ZonesOff.is refl
    (subst (λ n. list_any (λ (zone : Zone). zone.panel == c.args.panel) (take n site.zones) ≡ false) (sym c.start_of-in-ZonesOff.ensures)
    (passed.zones c.args.panel))

pub returns-in-Zones : goal.returns-in-Zones
returns-in-Zones c site passed =
    behind_other_zones c.start_of-in-Zones.result site c.args.panel c.args.group c.in-Zones.other site.zones c.in-Zones.is refl
    (subst (λ n. list_any (λ (zone : Zone). zone.panel == c.in-Zones.other) (take n site.zones) ≡ false) (sym c.start_of-in-Zones.ensures)
    (passed.zones c.in-Zones.other))
