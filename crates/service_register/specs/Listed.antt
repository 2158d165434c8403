-- A point of the register's list, a label being its bytes.
use Rattle.service_register.specs.Points.{PointRow}
use Rattle.service_register.specs.declared.listed_point.ListedPoint.{ListedPoint}

abbrev pub listed_row : ListedPoint → PointRow
listed_row point = record { name = point.name.bytes; zone = point.zone.bytes }
