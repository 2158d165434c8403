use Rattle.std.proofs.Common.{◌≡◌, drop}
use Rattle.panel_edges.specs.DiskLogs.{calls_of, cut_by, cut_from}
use Rattle.panel_edges.proofs.cutting.cut_file.Given as goal

abbrev pub invariant-loop-place : goal.invariant-loop-place
invariant-loop-place l =
    cut_from l.whole.items l.torn.items (calls_of (drop l.place l.log) l.rest) (drop l.place l.kept) ≡ cut_by l.start (calls_of l.log l.log_bytes)
    l.kept
