use Rattle.std.proofs.Common.{◌≡◌, ◌∙◌, Some, slice_get, ap, arith, subst, sym}
use Rattle.std.specs.List.{position}
use Rattle.panel_rules.proofs.AnswersTell.{position_got}
use Rattle.field_states.specs.Lines.{cable_after}
use Rattle.field_states.proofs.Reaching.{by_loop, from_one, got_item, is_loop, no_loop}
use Rattle.field_states.proofs.field_states.FieldStates.reaches.Goals as goal

pub returns-in-None : goal.returns-in-None
returns-in-None c before place valid at stands =
    no_loop c.args.site.now valid before place c.args.point.now at
    (ap (position (is_loop c.args.point.now.panel c.args.point.now.line)) (sym c.as_slice.ensures) ∙ sym c.place_of.ensures ∙ c.in-None.is)

pub returns-then-point-gt0 : goal.returns-then-point-gt0
returns-then-point-gt0 c before place valid at stands =
    let site = c.args.site.now in
    let point = c.args.point.now in
    let k = c.in-Some.place in
    let cable = c.in-Some-get.cable.now in
    let found : position (is_loop point.panel point.line) site.loops ≡ Some k =
    ap (position (is_loop point.panel point.line)) (sym c.as_slice.ensures) ∙ sym c.place_of.ensures ∙ c.in-Some.is in
    let got = position_got (is_loop point.panel point.line) site.loops k found in
    let lookup = c.in-Some-get.ensures.lookup in
    let line_at : slice_get c.args.self.now.lines.items k ≡ Some cable =
    subst (λ xs. slice_get xs k ≡ Some cable) c.deref.ensures.value (got_item c.deref.result.now k cable lookup.3.0 lookup.1) in
    by_loop site valid before place point at k got.item c.reach.result found got.is
    (λ within. c.reach.ensures got.item (cable_after got.item before) (stands.lines.each k got.item cable got.is line_at) within)

pub returns-else-point-gt0 : goal.returns-else-point-gt0
returns-else-point-gt0 c before place valid at stands =
    let one = from_one c.args.site.now valid before place c.args.point.now at in
    let none = c.if-point-gt0.false in
    absurd (omega (arith, one, none))
