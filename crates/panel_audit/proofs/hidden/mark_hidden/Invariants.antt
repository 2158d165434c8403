use Rattle.std.proofs.Common.{◌≡◌, length}
use Rattle.panel_audit.specs.Places.{AreWritten, IsLeftAt}
use Rattle.panel_audit.proofs.hidden.mark_hidden.Given as goal

-- the marks before a place were written
abbrev pub invariant-loop-place : goal.invariant-loop-place
invariant-loop-place l = (length l.marks ≡ length l.initial.marks) × AreWritten (IsLeftAt l.zones l.due l.shown) l.place l.marks
