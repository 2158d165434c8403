use Rattle.std.proofs.Common.{◌≤◌, ◌-◌, ◌+◌, length}
use Rattle.panel_edges.specs.Limits.{most_file_bytes}
use Rattle.panel_edges.proofs.file_shelf.FileShelf.read_file.Given as goal

abbrev pub invariant-loop-buffer : goal.invariant-loop-buffer
invariant-loop-buffer g l = length l.bytes.items ≤ most_file_bytes + 1

abbrev pub decreases-loop-buffer : goal.decreases-loop-buffer
decreases-loop-buffer g l = most_file_bytes + 1 - length l.bytes.items
