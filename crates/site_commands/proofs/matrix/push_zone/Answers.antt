use Rattle.std.proofs.Common.{◌++◌, ap, ◌∙◌}
use Rattle.marker_table.specs.Equations.{values_of}
use Rattle.cause_effect.proofs.Orders.{order_is_free}
use Rattle.site_commands.proofs.Matrices.{line_made}
use Rattle.site_commands.proofs.matrix.push_zone.Goals as goal

pub returns : goal.returns
returns c values solves =
    let site = c.args.site.now in
    line_made site c.args.zone.now c.released_alone.result (values_of c.solve.new.values) values c.as_slice.result.now c.args.text.now.items
    c.extend_from_slice.new.self.items c.push_names.new.text.items
    c.extend_from_slice-2.new.self.items (order_is_free site c.args.plan.now.order c.requires.plan.order) c.released_alone.ensures c.as_slice.ensures
    (c.solve.ensures site c.requires.plan) solves
    (c.in_ok-extend_from_slice.ensures.items ∙ ap (λ xs. c.args.text.now.items ++ xs) (c.as_bytes.ensures.value ∙ c.as_str.ensures.value))
    c.in_ok-push_names.ensures c.in_ok-extend_from_slice-2.ensures.items
