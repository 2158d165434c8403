use Rattle.std.proofs.Common.{◌≡◌, length}
use Rattle.panel_audit.specs.Places.{AreWritten}
use Rattle.panel_audit.specs.Scans.{TellsDark}
use Rattle.panel_audit.proofs.dark.mark_dark.Given as goal

-- the marks before a place were written
abbrev pub invariant-loop-place : goal.invariant-loop-place
invariant-loop-place l = (length l.marks ≡ length l.initial.marks) × AreWritten (TellsDark l.site l.dues l.excused l.faces) l.place l.marks
