use Rattle.std.proofs.Common.{◌≡◌, ◌+◌, true, drop, length, take}
use Rattle.std.specs.List.{list_all}
use Rattle.record_lines.specs.Lines.{is_printable}
use Rattle.record_lines.proofs.reader.printable_eights.Given as goal

-- all bytes so far are printable, and the rest is behind them
abbrev pub invariant-loop-rest : goal.invariant-loop-rest
invariant-loop-rest l = record {
  printable : list_all is_printable (take l.count l.text) ≡ true;
  behind : l.rest ≡ drop l.count l.text;
  whole : l.count + length l.rest ≡ length l.text;
}

abbrev pub decreases-loop-rest : goal.decreases-loop-rest
decreases-loop-rest l = length l.rest
