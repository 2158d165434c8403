use Rattle.std.proofs.Common.{length}
use Rattle.whole_records.proofs.SoFar.{IsReadTo}
use Rattle.whole_records.proofs.reading.read_record.Given as goal

-- the lines before the bytes that are left were read
abbrev pub invariant-loop-left : goal.invariant-loop-left
invariant-loop-left l = IsReadTo l.site l.fn.bytes l.left l.reader l.lines.items

abbrev pub decreases-loop-left : goal.decreases-loop-left
decreases-loop-left l = length l.left
