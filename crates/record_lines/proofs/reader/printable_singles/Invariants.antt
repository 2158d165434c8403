use Rattle.std.proofs.Common.{◌≡◌, true, take}
use Rattle.std.specs.List.{list_all}
use Rattle.record_lines.specs.Lines.{is_printable}
use Rattle.record_lines.proofs.reader.printable_singles.Given as goal

-- all bytes so far are printable
abbrev pub invariant-loop-place : goal.invariant-loop-place
invariant-loop-place l = list_all is_printable (take l.place l.text) ≡ true
