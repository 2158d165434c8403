use Rattle.std.proofs.Common.{◌≡◌, ◌-◌}
use Rattle.site_types.specs.Fields.{field}
use Rattle.line_fields.proofs.fields.field.Given as goal

-- the field lies so much nearer
abbrev pub invariant-loop-passed : goal.invariant-loop-passed
invariant-loop-passed l = field (l.place - l._passed) l.rest ≡ field l.place l.text
