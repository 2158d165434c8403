use Rattle.std.proofs.Common.{◌≡◌, ◌∙◌, ◌-◌, ◌<◌, ◌≤◌, ◌==◌, if◌then◌else◌, ap, sym, arith}
use Rattle.std.proofs.lemmas.Bool.{and_right, ne_eqb}
use Rattle.std.specs.Prelude.{not}
use Rattle.site_types.specs.Bits.{has_bit}
use Rattle.panel_links.specs.Words.{left_of, right_of}
use Rattle.panel_links.specs.Stands.{HasPanel, is_up_in, kept_in}
use Rattle.panel_links.proofs.Newest.{has_zones_equal, has_zones_then}
use Rattle.panel_links.proofs.Turns.{InRing, left_in, turned}
use Rattle.panel_links.proofs.ring.Ring.telling_turn.Goals as goal

pub returns-clause-stands : goal.returns-clause-stands
returns-clause-stands c panels calls stands =
    let before = c.args.self.now in
    let mid = c.renew_oldest.new.self in
    let after = c.take_newest.new.self in
    let panel = c.args.panel in
    let p0 = stands.size in
    let p1 = c.renew_oldest.ensures.panels ∙ c.keep.ensures.panels in
    let l1 = c.renew_oldest.ensures.links ∙ c.keep.ensures.links in
    let p2 = c.take_newest.ensures.panels in
    let alone = c.if-self-eq1.false in
    let several : 1 < panels = (let some = c.requires.0 in let last = c.requires.1 in omega (arith, alone, some, last, p0, p1)) in
    let within : InRing panels panel = (c.requires.0, omega (arith, c.requires.1)) in
    let left : c.left_of-left.result ≡ left_of panels panel = c.left_of-left.ensures ∙ ap (λ n. left_of n panel) (p1 ∙ p0) in
    let right : c.right_of-right.result ≡ right_of panels panel = c.right_of-right.ensures ∙ ap (λ n. right_of n panel) (p1 ∙ p0) in
    let here = left_in panels panel several within.0 within.1 in
    let eight : panels ≤ 8 = (let few = before.few in omega arith) in
    record {
      size = p2 ∙ p1 ∙ p0;
      words = λ a o ha ho.
          turned panels c.args.now.0 panel c.args.own calls (kept_in before) (kept_in mid) (kept_in after) several within
          c.over-before.result c.over-after.result (is_up_in mid (left_of panels panel)) (is_up_in mid panel)
          (λ x y hx hy. stands.words x y (hx.0, omega (arith, hx.1)) (hy.0, omega (arith, hy.1)))
          (λ x y hx hy. c.renew_oldest.ensures.words x y ∙ c.keep.ensures.words x y (hx.0, omega (arith, hx.1)) (hy.0, omega (arith, hy.1)))
          (λ x y hx hy. rw (p1, p0) at (c.take_newest.ensures.words x y (hx.0, omega (arith, hx.1)) (hy.0, omega (arith, hy.1))))
          (c.over-before.ensures ∙ ap (λ l. if is_up_in mid l then l else panel) left)
          (c.over-after.ensures ∙ ap (λ r. if is_up_in mid panel then r else panel) right)
          (ap (λ down. not (has_bit down (left_of panels panel - 1))) l1
          ∙ stands.links (left_of panels panel) here.0 (omega (arith, here.1)))
          (ap (λ down. not (has_bit down (panel - 1))) l1
          ∙ stands.links panel within.0 (omega (arith, within.1)))
          a o (ha.0, omega (arith, ha.1)) (ho.0, omega (arith, ho.1));
      links =
          λ link low high. ap (λ down. not (has_bit down (link - 1)))
          (c.take_newest.ensures.links ∙ l1) ∙ stands.links link low high;
    }

pub returns-clause-zones : goal.returns-clause-zones
returns-clause-zones c none of ho apart =
    let panel = c.args.panel in
    let before = kept_in c.args.self.now in
    let p1 = c.renew_oldest.ensures.panels ∙ c.keep.ensures.panels in
    has_zones_then (c.take_newest.ensures.zones.0 none of (ho.0, omega (arith, ho.1, p1)) apart)
    (has_zones_equal (c.renew_oldest.ensures.words panel of ∙ c.keep.ensures.words panel of c.requires ho
    ∙ ap (λ b. if b then c.args.own else before panel of) (and_right (panel == panel) (of == panel) (ne_eqb of panel apart))))

pub returns-clause-same : goal.returns-clause-same
returns-clause-same c keeps =
    let panel = c.args.panel in
    let before = kept_in c.args.self.now in
    let p1 = c.renew_oldest.ensures.panels ∙ c.keep.ensures.panels in
    c.take_newest.ensures.zones.1 (λ of hm apart. (
    let ho : HasPanel c.args.self.now of = (hm.0, omega (arith, hm.1, p1)) in
    has_zones_then (keeps of ho apart)
    (has_zones_equal (sym (c.renew_oldest.ensures.words panel of ∙ c.keep.ensures.words panel of c.requires ho
    ∙ ap (λ b. if b then c.args.own else before panel of) (and_right (panel == panel) (of == panel) (ne_eqb of panel apart)))))))
