use Rattle.std.proofs.Common.{◌≡◌, ◌∙◌, ◌+◌, ◌-◌, ◌*◌, ◌/◌, ◌≤◌, ◌==◌, ◌&&◌, ℕ, false, if◌then◌else◌, refl, sym, ap, arith}
use Rattle.std.proofs.lemmas.Bool.{or_parts}
use Rattle.panel_links.specs.Changes.{KeepsZones}
use Rattle.panel_links.specs.Kept.{newest}
use Rattle.panel_links.specs.Stands.{kept_in}
use Rattle.panel_links.proofs.Newest.{in_group, not_both, one_more, same_zones, stays_down, were_same, word_same}
use Rattle.panel_links.proofs.Turns.{InRing}
use Rattle.panel_links.proofs.ring.Ring.take_newest.Goals as goal
use Rattle.panel_links.proofs.ring.Ring.take_newest.Goals.{then-take_newer, else-take_newer}

pub loop-of-preserved : goal.loop-of-preserved
loop-of-preserved c =
    let at = c.args.at in
    let left = c.args.left in
    let right = c.args.right in
    let of = c.loop-of.of in
    let panels = c.args.self.now.panels in
    let first = 4 * c.group.result + 1 in
    let was = c.loop-of.invariant in
    let same = was.panels in
    let start = kept_in c.args.self.now in
    let before = kept_in c.loop-of.self in
    let after = kept_in c.take_newer.new.self in
    let word = newest (newest (before at of) (before left of)) (before right of) in
    let begun : first ≤ of = omega arith in
    let put : (a o : ℕ) → InRing panels a → InRing panels o → after a o ≡ (if (a == at) && (o == of) then word else before a o) =
    λ a o ha ho. c.take_newer.ensures.words a o (ha.0, omega (arith, ha.1, same)) (ho.0, omega (arith, ho.1, same)) in
    let here = c.requires.at in
    let keeps = KeepsZones c.args.self.now at c.take_newer.new.self in
    let now = c.take_newer.ensures.panels ∙ was.panels in
    let known = same_zones panels at left right first of start before after word begun was.words put in
    let earlier : keeps → c.loop-of.differ ≡ false =
    λ are. was.same (λ p hp apart. were_same panels at left right first of start before after word begun was.words put p here hp (are p hp apart)) in
    record {
      panels = now;
      links = c.take_newer.ensures.links ∙ was.links;
      words = one_more panels at left right first of start before after word begun was.words put here c.requires.left c.requires.right refl;
      zones = elim c.if-take_newer.branch [
        | then-take_newer w ↦ λ none p hp apart. (
            let parts = or_parts c.loop-of.differ w.is_another-differ.result (sym w.differ-is ∙ none) in
            known p here hp
            (λ same. absurd (not_both w.is_another-differ.result parts.1
            (w.is_another-differ.ensures.1 (omega (arith, hp.1, now, same), λ e. apart (same ∙ e)))))
            (was.zones parts.0 p hp apart))
        | else-take_newer w ↦ λ none p hp apart.
            known p here hp (λ same. c.take_newer.ensures.zones.0 w.if-take_newer.false) (was.zones (sym w.differ-is ∙ none) p hp apart)
      ];
      same = elim c.if-take_newer.branch [
        | then-take_newer w ↦ λ are.
            w.differ-is ∙ stays_down c.loop-of.differ w.is_another-differ.result (earlier are) (λ raises. (
            let other = w.is_another-differ.ensures.0 raises in
            let there : InRing panels of = (omega (arith, begun), omega (arith, other.0, now)) in
            not_both c.take_newer.result (c.take_newer.ensures.zones.1
            (word_same panels at left right first of start before after word begun was.words put here there (are of there other.1))) w.if-take_newer.true))
        | else-take_newer w ↦ λ are. w.differ-is ∙ earlier are
      ];
    }

pub returns-clause-words : goal.returns-clause-words
returns-clause-words c a o ha ho =
    let start = kept_in c.args.self.now in
    let best = newest (newest (start a o) (start c.args.left o)) (start c.args.right o) in
    let group = c.group.result in
    let ended = c.loop-of-test.false in
    let last = c.loop-of.auto in
    c.loop-of.invariant.words a o ha ho
    ∙ ap (λ b. if (a == c.args.at) && b then best else start a o)
    (in_group group o c.loop-of.of ho.0 (omega (arith, ended, last)))
    ∙ ap (λ g. if (a == c.args.at) && (((o - 1) / 4) == g) then best else start a o) c.group.ensures
