use Rattle.std.proofs.Common.{sym, ◌∙◌, ap}
use Rattle.panel_rules.specs.States.{told_link}
use Rattle.joined_panels.specs.Links.{is_link_up}
use Rattle.joined_panels.proofs.EventsTaken.{never, told_more}
use Rattle.joined_panels.proofs.links.Links.take_events.Goals as goal
use Rattle.joined_panels.proofs.links.Links.take_events.Goals.{then-read, else-read}

pub loop-event-preserved : goal.loop-event-preserved
loop-event-preserved c =
    told_more c.args.events.now c.loop-event.event-index c.event-item.result c.loop-event.told c.read.result c.if-read.told c.args.self.now c.loop-event.self
    c.read.new.self c.loop-event-test.true c.loop-event.invariant c.read.ensures.panels
    (λ link a b. c.read.ensures.up link a b ∙ ap (λ event. told_link link event (is_link_up c.loop-event.self link)) c.event-item.is) c.read.ensures.silent
    (λ h. elim c.if-read.branch [
      | then-read w ↦ absurd (never c.if-read.told w.told-is h)
      | else-read w ↦ (sym w.told-is ∙ h, w.if-read.false)
    ])
