use Rattle.std.proofs.Common.{◌≡◌, ◌||◌, sym, ap, ◌∙◌, arith}
use Rattle.marker_table.specs.Equations.{values_of}
use Rattle.cause_effect.specs.Users.{uses_word}
use Rattle.site_types.specs.Bits.{any_below}
use Rattle.cause_effect.proofs.Marking.{below_none, facts_mark, panel_more, uses_panel}
use Rattle.cause_effect.proofs.users.Users.marks_of.Goals as goal

pub loop-panel-init : goal.loop-panel-init
loop-panel-init c m = c.none-marks.ensures m ∙ sym (below_none (uses_panel c.args.self.now.sets c.args.before.now c.args.after.now m))

pub loop-panel-preserved : goal.loop-panel-preserved
loop-panel-preserved c m =
    panel_more c.args.self.now.sets c.args.before.now c.args.after.now m c.loop-panel.panel _ _ _
    (c.loop-panel.invariant m) (c.mark_word.ensures m) (c.mark_word-in-loop-panel.ensures m)

pub returns : goal.returns
returns c site order valid is users =
    let last = c.loop-panel-test.false in
    let most = c.loop-panel.auto.panel-end in
    let whole : c.loop-panel.panel ≡ 8 = omega (arith, last, most) in
    let sets = c.args.self.now.sets in
    let before = c.args.before.now in
    let after = c.args.after.now in
    facts_mark site valid order is sets before after (values_of c.mark_word-2.new.marks) users
    (λ k. c.mark_word-2.ensures k ∙
    ap (λ b. b || uses_word sets 768 before.faults after.faults k)
    (c.loop-panel.invariant k ∙ ap (λ n. any_below n (uses_panel sets before after k)) whole))
