use Rattle.std.proofs.Common.{◌≡◌, ◌∙◌, ◌+◌, ◌-◌, ◌&&◌, ℕ, nat_lt, inl, inr, sym, ap, subst, arith}
use Rattle.std.proofs.lemmas.Bool.{and_left}
use Rattle.std.proofs.lemmas.Bool.Decides.{leb_tells}
use Rattle.site_types.specs.declared.word.Word.{Word}
use Rattle.site_types.proofs.Masks.{mask_from_bits}
use Rattle.panel_links.specs.Kept.{kept_word}
use Rattle.panel_links.specs.Stands.{is_silent, kept_in}
use Rattle.panel_links.proofs.Growing.{HasFlags, begun, has_eight, has_no_other, one_more_flag}
use Rattle.panel_links.proofs.ring.Ring.silent_by_word.Goals as goal

pub loop-of-init : goal.loop-of-init
loop-of-init c = begun (λ q. nat_lt c.args.limit (c.args.now.0 - (kept_in c.args.self.now c.args.panel q).stamp.0)) c.args.self.now.panels

pub loop-of-preserved : goal.loop-of-preserved
loop-of-preserved c =
    let l = c.loop-of in
    let ring = c.args.self.now in
    let limit = c.args.limit in
    let now = c.args.now.0 in
    one_more_flag (λ q. nat_lt limit (now - (kept_in ring c.args.panel q).stamp.0)) ring.panels l.of l.silent
    (nat_lt limit c.saturating_sub.result) (omega arith) l.invariant
    (ap (nat_lt limit) (c.saturating_sub.ensures ∙ ap (λ (w : Word). now - w.stamp.0) c.kept.ensures))

pub returns : goal.returns
returns c panels calls stands =
    let l = c.loop-of in
    let ring = c.args.self.now in
    let panel = c.args.panel in
    let limit = c.args.limit in
    let now = c.args.now.0 in
    let size = stands.size in
    let flag = λ (q : ℕ). nat_lt limit (now - (kept_in ring panel q).stamp.0) in
    let first = l.invariant.first in
    let ended : l.of ≡ 1 = omega (arith, first) in
    let has : HasFlags flag ring.panels 1 l.silent = subst (λ from. HasFlags flag ring.panels from l.silent) ended l.invariant in
    let late = λ (of : ℕ). nat_lt limit (now - (kept_word panels of panel calls).stamp.0) in
    mask_from_bits 8 l.silent (λ k. is_silent panels panel calls now limit (k + 1)) (has_eight flag ring.panels l.silent ring.few has)
    (λ k small. elim (leb_tells (k + 1) panels) [
      | inl t ↦
          (let within = t.1 in
          has.known k (omega (arith, within, size))
          ∙ ap (λ (w : Word). nat_lt limit (now - w.stamp.0))
          (stands.words panel (k + 1) c.requires (omega arith, omega (arith, within, size)))
          ∙ ap (λ b. b && late (k + 1)) (sym t.0))
      | inr t ↦
          (let beyond = t.1 in
          has_no_other flag ring.panels l.silent k has (omega (arith, beyond, size)) ∙ sym (and_left _ (late (k + 1)) t.0))
    ])
