use Rattle.panel_audit.specs.Scans.{HeardSolved}
use Rattle.panel_audit.proofs.OutputCauses.{HeardBelow}
use Rattle.panel_audit.proofs.baseless.hear_each.Given as goal

-- the panels before a place have heard
abbrev pub invariant-loop-place : goal.invariant-loop-place
invariant-loop-place l = HeardSolved l.site l.initial.heard → HeardBelow l.site l.causes l.joined l.faces l.place l.heard
