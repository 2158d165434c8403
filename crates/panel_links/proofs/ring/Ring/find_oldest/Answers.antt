use Rattle.std.proofs.Common.{◌≡◌, ◌≤◌, inl, inr, sym, subst, arith}
use Rattle.std.proofs.lemmas.Bool.{cases_eq}
use Rattle.site_types.specs.declared.word.Word.{Word}
use Rattle.panel_links.specs.Stands.{kept_in}
use Rattle.panel_links.proofs.Silences.{oldest_set}
use Rattle.panel_links.proofs.ring.Ring.find_oldest.Goals as goal

pub loop-of-init : goal.loop-of-init
loop-of-init c o ho early =
    let only : 1 ≡ o = omega (arith, ho.0, early) in
    subst (λ p. c.kept-oldest.result.stamp.0 ≤ (kept_in c.args.self.now c.args.panel p).stamp.0) only
    (subst (λ (w : Word). c.kept-oldest.result.stamp.0 ≤ w.stamp.0) c.kept-oldest.ensures (omega arith))

pub loop-of-preserved : goal.loop-of-preserved
loop-of-preserved c o ho early =
    let least = c.min-oldest.ensures in
    elim (cases_eq o c.loop-of.of) [
      | inl same ↦
          subst (λ p. c.min-oldest.result ≤ (kept_in c.args.self.now c.args.panel p).stamp.0) (sym same)
          (subst (λ (w : Word). c.min-oldest.result ≤ w.stamp.0) c.kept.ensures (omega (arith, least)))
      | inr apart ↦ (let before = c.loop-of.invariant o ho (omega (arith, early, apart)) in omega (arith, before, least))
    ]

pub invariant_of-self-clause-none_older : goal.invariant_of-self-clause-none_older
invariant_of-self-clause-none_older c =
    oldest_set c.args.self.now.panels c.args.self.now.words c.args.self.now.oldest c.args.panel c.loop-of.oldest (omega arith)
    (omega (arith, c.args.self.now.few, c.requires.1)) c.requires.0 (λ from hf. c.loop-of.invariant from hf (omega (arith, hf.1, c.loop-of-test.false)))
    c.args.self.now.none_older
