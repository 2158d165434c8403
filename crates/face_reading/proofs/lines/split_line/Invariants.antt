use Rattle.std.proofs.Common.{◌≡◌, take}
use Rattle.face_reading.specs.Reading.{line_ends}
use Rattle.face_reading.proofs.lines.split_line.Given as goal

-- no line end so far
abbrev pub invariant-loop-place : goal.invariant-loop-place
invariant-loop-place l = line_ends (take l.place l.text) ≡ 0
