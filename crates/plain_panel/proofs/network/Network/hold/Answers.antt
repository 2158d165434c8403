use Rattle.std.proofs.Common.{◌∙◌, ◌≤◌, ◌∷◌, List, ℕ, ap, arith, sym}
use Rattle.tick_units.specs.declared.task.Task.TheVariants.{Hold}
use Rattle.site_types.specs.declared.answer.Answer.{Answer}
use Rattle.panel_conditions.specs.declared.outside.Outside.{Outside}
use Rattle.panel_conditions.specs.Answered.{answered_faults, answered_word}
use Rattle.panel_conditions.specs.Words.{has_fault}
use Rattle.panel_rules.specs.Moments.{Turned, tick_of}
use Rattle.panel_rules.specs.Zones.{held_answers}
use Rattle.panel_rules.proofs.FaultsTold.{faults_told}
use Rattle.plain_history.specs.Histories.{all_done, history}
use Rattle.plain_panel.specs.Network.{outside_told}
use Rattle.plain_panel.proofs.network.Network.hold.Goals as goal

pub returns-then-panel-self-clause-stands : goal.returns-then-panel-self-clause-stands
returns-then-panel-self-clause-stands c stands tick answers_there unconfirmed_there =
    let site = c.args.settings.now.site.now in
    let kept = c.args.settings.now.kept.now in
    let done = all_done c.args.settings.now.done.now in
    let before = history c.args.before.now in
    let panel = c.args.panel in
    let first : 1 ≤ panel = omega arith in
    let last : panel ≤ site.panels = omega (arith, stands.size) in
    let answers = answers_there (first, last) in
    let unconfirmed = unconfirmed_there (first, last) in
    let held = held_answers site panel (Turned panel Hold ∷ before) in
    let outside = c.outside-outside.ensures kept done stands tick ∙ ap (outside_told site panel before) unconfirmed in
    let faults =
    c.answered_faults-faults.ensures
    ∙ ap (λ (xs : List Answer). answered_faults site kept panel done xs c.args.now.0 c.outside-outside.result) answers
    ∙ ap (λ (t : ℕ). answered_faults site kept panel done held t c.outside-outside.result) tick
    ∙ ap (λ (o : Outside). answered_faults site kept panel done held (tick_of before) o) outside in
    let fault = c.has_fault-fault.ensures ∙ ap has_fault faults ∙ sym (faults_told site kept done panel (Turned panel Hold) before) in
    let word =
    c.answered_word-word.ensures
    ∙ ap (λ (xs : List Answer). answered_word site kept panel done xs c.args.now.0 c.has_fault-fault.result) answers
    ∙ ap (λ (t : ℕ). answered_word site kept panel done held t c.has_fault-fault.result) tick
    ∙ ap (answered_word site kept panel done held (tick_of before)) fault in
    c.show.ensures.stands site kept done before stands tick faults word
