use Rattle.std.proofs.Common.{◌∙◌, ◌-◌, ◌^◌, if◌then◌else◌, nat_lt, ap}
use Rattle.panel_conditions.proofs.Drawn.{settled_drawn}
use Rattle.panel_conditions.proofs.zones.Zones.draw.Goals as goal

pub returns-clause-settled : goal.returns-clause-settled
returns-clause-settled c tick h le =
    settled_drawn tick c.args.now.0 c.args.self.now _ h (ap (λ w. w.items) c.draw_signs.ensures.rest.0) c.draw_signs.ensures.rest.1
    (c.draw_signs.ensures.signs tick h le)
    (c.changed_after-self.ensures ∙ ap (λ m. if nat_lt m.0 c.args.now.0 then 0 else 2 ^ 32 - 1) c.draw_signs.ensures.rest.1)
