use Rattle.std.proofs.Common.{◌≡◌, List, [], length}
use Rattle.panel_rules.specs.Moments.{TickBlock}
use Rattle.audit_rules.specs.Breaches.{kept_by_text}
use Rattle.panel_audit.specs.Judging.{JudgeStands}
use Rattle.panel_audit.specs.Scanning.{ScanStands}
use Rattle.panel_audit.specs.Ticks.{IsCase}
use Rattle.panel_audit.proofs.TickByTick.{IsJudgedTo}
use Rattle.panel_audit.proofs.judging.judge_ticks.Given as goal

-- the ticks before a place were judged, and none breaks a rule
abbrev pub invariant-loop-place : goal.invariant-loop-place
invariant-loop-place l = (length l.judge.rows.items ≡ length l.case.site.now.zones)
    × ((ticks : List TickBlock) → IsCase l.case.site.now l.case.timeline.now l.case.done.now l.told l.unfounded ticks
    → JudgeStands l.case.site.now (kept_by_text l.case.site.now ticks l.case.timeline.now) l.case.timeline.now l.case.done.now [] l.initial.judge
    → ScanStands l.case.site.now l.initial.scan → IsJudgedTo l.case.site.now l.case.timeline.now l.case.done.now ticks l.place l.judge l.scan)
