use Rattle.std.proofs.Common.{◌≡◌, length}
use Rattle.panel_audit.specs.Places.{AreWritten}
use Rattle.panel_audit.specs.Scans.{TellsBaseless}
use Rattle.panel_audit.proofs.baseless.mark_baseless.Given as goal

-- the marks before a place were written
abbrev pub invariant-loop-place : goal.invariant-loop-place
invariant-loop-place l = (length l.marks ≡ length l.initial.marks) × AreWritten (TellsBaseless l.site l.faces l.heard) l.place l.marks
