-- What was read of the body of a visit.
use Rattle.std.specs.Prelude.{option_map}
use Rattle.service_keepers.specs.Rows.{visit_row}
use Rattle.desk_bodies.specs.Bodies.{VisitSaid}
use Rattle.desk_bodies.specs.declared.visit_body.VisitBody.{VisitBody}

abbrev pub visit_view : VisitBody → VisitSaid
visit_view body =
    record {
      code = option_map (λ label. label.bytes) body.code;
      visit = visit_row body.visit;
      points = body.points.items;
    }
