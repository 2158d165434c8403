use Rattle.std.proofs.Common.{◌-◌, ◌≤◌, subst, arith}
use Rattle.site_types.specs.declared.word.Word.{Word}
use Rattle.panel_links.proofs.Silences.{none_silent}
use Rattle.panel_links.proofs.ring.Ring.silent.Goals as goal

pub returns-then-self-panel : goal.returns-then-self-panel
returns-then-self-panel c panels calls stands =
    let panel = c.args.panel in
    let size = stands.size in
    let earliest = c.saturating_sub.ensures in
    let late = c.if-self-panel.true in
    none_silent panels panel calls c.args.now.0 c.args.limit (λ of first last. (
    let old = c.args.self.now.none_older panel of c.requires (first, omega (arith, last, size)) in
    let word = stands.words panel of c.requires (first, omega (arith, last, size)) in
    subst (λ (w : Word). c.args.now.0 - c.args.limit ≤ w.stamp.0) word (omega (arith, old, late, earliest))))
