use Rattle.std.proofs.Common.{◌≡◌, length}
use Rattle.panel_audit.specs.Places.{AreWritten}
use Rattle.panel_audit.specs.Scans.{MarksUncaused}
use Rattle.panel_audit.proofs.uncaused.mark_uncaused.Given as goal

-- the marks before a place were written
abbrev pub invariant-loop-place : goal.invariant-loop-place
invariant-loop-place l = (length l.marks ≡ length l.initial.marks)
    × AreWritten (MarksUncaused l.site l.zones l.causes l.joined l.panel l.shown) l.place l.marks
