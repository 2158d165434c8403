use Rattle.std.proofs.Common.{◌≡◌, length}
use Rattle.panel_audit.proofs.RowsBelow.{TellsRowsBelow}
use Rattle.panel_audit.proofs.rows.fill_rows.Given as goal

-- the zones before a place are told
abbrev pub invariant-loop-place : goal.invariant-loop-place
invariant-loop-place l = (length l.rows ≡ length l.initial.rows) × TellsRowsBelow l.site l.least l.place l.rows
