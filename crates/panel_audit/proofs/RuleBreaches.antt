-- The first breach of one rule after a tick, and the first one up to a tick.
use Rattle.std.specs.Prelude.{◌≡◌, ℕ, ◌≤◌, List, Option}
use Rattle.site_types.specs.declared.site.Site.{Site}
use Rattle.face_text.specs.declared.timeline.Timeline.{Timeline}
use Rattle.panel_rules.specs.Moments.{TickBlock}
use Rattle.audit_rules.specs.declared.audit_rule.AuditRule.{AuditRule}
use Rattle.audit_rules.specs.Breaches.{Breach, BreaksRule}
use Rattle.panel_audit.specs.Firsts.{IsFirstOf}

module _ (site : Site) (ticks : List TickBlock) (timeline : Timeline) where
  -- a rule is broken after a tick
  pub record BreaksAt (rule : AuditRule) (tick : ℕ) (breach : Breach) : Type 0 where
    pub rule_is : breach.rule ≡ rule
    pub tick_is : breach.tick ≡ tick
    pub breaks : BreaksRule site ticks timeline breach.rule breach

  abbrev pub FirstOfRule : AuditRule → ℕ → Option Breach → Type 0
  FirstOfRule rule tick = IsFirstOf (BreaksAt rule tick)

  -- after a tick up to this one
  pub record BreaksBy (tick : ℕ) (breach : Breach) : Type 0 where
    pub begins : 1 ≤ breach.tick
    pub by : breach.tick ≤ tick
    pub breaks : BreaksRule site ticks timeline breach.rule breach

  abbrev pub FirstByTick : ℕ → Option Breach → Type 0
  FirstByTick tick = IsFirstOf (BreaksBy tick)
