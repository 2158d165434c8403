use Rattle.std.proofs.Common.{◌∙◌, ◌∷◌, ◌||◌, ap, sym}
use Rattle.panel_rules.specs.Moments.{tick_of}
use Rattle.panel_rules.specs.Timeline.{failed_now}
use Rattle.plain_history.specs.Histories.{history, moment_of}
use Rattle.plain_panel.proofs.Tellers.{began_told, other_told}
use Rattle.panel_bridges.proofs.ClosedSteps.{failed_kept}
use Rattle.plain_panel.proofs.telling.Telling.step.Goals as goal

pub returns-in_ok-close-in-Began : goal.returns-in_ok-close-in-Began
returns-in_ok-close-in-Began c =
    began_told c.args.coming.now.site.now c.args.coming.now.kept.now (moment_of c.args.coming.now.moment.now) (history c.args.coming.now.before.now) c.advance.new.self c.advance.result
    (ap moment_of c.in-Began.is) c.advance.ensures.stands c.advance.ensures.ticks c.advance.ensures.failed
    (ap (λ v. v.items) c.advance.ensures.steps ∙ c.in_ok-close-in-Began.ensures.steps)
    (ap (λ v. v.items) c.advance.ensures.faces ∙ c.in_ok-close-in-Began.ensures.faces)

pub returns-in-Happened : goal.returns-in-Happened
returns-in-Happened c =
    let is = ap moment_of c.in-Happened.is in
    other_told c.args.coming.now.site.now c.args.coming.now.kept.now (moment_of c.args.coming.now.moment.now) (history c.args.coming.now.before.now) c.args.self.now
    c.advance-in-Happened.new.self c.advance-in-Happened.result c.requires.stands (ap (λ m. tick_of (m ∷ history c.args.coming.now.before.now)) is)
    c.advance-in-Happened.ensures.stands c.advance-in-Happened.ensures.ticks
    (c.advance-in-Happened.ensures.failed ∙ c.requires.stands.failed ∙ sym
    (ap (λ m. failed_now c.args.coming.now.site.now c.args.coming.now.kept.now (m ∷ history c.args.coming.now.before.now)) is))
    (ap (λ v. v.items) c.advance-in-Happened.ensures.steps)
    (ap (λ v. v.items) c.advance-in-Happened.ensures.faces)

pub returns-in-Turned : goal.returns-in-Turned
returns-in-Turned c =
    let is = ap moment_of c.in-Turned.is in
    other_told c.args.coming.now.site.now c.args.coming.now.kept.now (moment_of c.args.coming.now.moment.now) (history c.args.coming.now.before.now) c.args.self.now c.advance-in-Turned.new.self
    c.advance-in-Turned.result c.requires.stands (ap (λ m. tick_of (m ∷ history c.args.coming.now.before.now)) is) c.advance-in-Turned.ensures.stands
    c.advance-in-Turned.ensures.ticks
    (c.advance-in-Turned.ensures.failed ∙ c.requires.stands.failed ∙ sym
    (ap (λ m. failed_now c.args.coming.now.site.now c.args.coming.now.kept.now (m ∷ history c.args.coming.now.before.now)) is))
    (ap (λ v. v.items) c.advance-in-Turned.ensures.steps)
    (ap (λ v. v.items) c.advance-in-Turned.ensures.faces)

pub returns-in-Kept : goal.returns-in-Kept
returns-in-Kept c =
    let is = ap moment_of c.in-Kept.is in
    other_told c.args.coming.now.site.now c.args.coming.now.kept.now (moment_of c.args.coming.now.moment.now) (history c.args.coming.now.before.now) c.args.self.now c.advance-in-Kept.new.self
    c.advance-in-Kept.result c.requires.stands (ap (λ m. tick_of (m ∷ history c.args.coming.now.before.now)) is) c.advance-in-Kept.ensures.stands
    c.advance-in-Kept.ensures.ticks
    (c.advance-in-Kept.ensures.failed
    ∙ c.either-self.ensures
    ∙ ap (λ b. c.in-Kept.failed || b) c.requires.stands.failed
    ∙ sym (failed_kept c.args.coming.now.site.now c.args.coming.now.kept.now c.in-Kept.failed (history c.args.coming.now.before.now))
    ∙ sym (ap (λ m. failed_now c.args.coming.now.site.now c.args.coming.now.kept.now (m ∷ history c.args.coming.now.before.now)) is))
    (ap (λ v. v.items) c.advance-in-Kept.ensures.steps)
    (ap (λ v. v.items) c.advance-in-Kept.ensures.faces)
