use Rattle.std.proofs.Common.{◌<◌, ◌^◌, ◌∙◌, refl, arith}
use Rattle.panel_conditions.specs.declared.sign.Sign.TheVariants.{Alarm, Manual, Released, First}
use Rattle.panel_conditions.proofs.Drawn.{drawn_is, stays_drawn}
use Rattle.panel_conditions.proofs.zones.Zones.draw_signs.Goals as goal

pub returns-clause-signs : goal.returns-clause-signs
returns-clause-signs c tick h le =
    let zones = c.args.self.now in
    let now = c.args.now.0 in
    rw (
      c.drawn.ensures ∙ drawn_is tick now zones Alarm h le,
      c.drawn-2.ensures ∙ drawn_is tick now zones Manual h le,
      c.drawn-3.ensures ∙ drawn_is tick now zones Released h le,
      c.drawn-4.ensures ∙ drawn_is tick now zones First h le,
    ) refl

pub returns-then-look-eq0-clause-signs : goal.returns-then-look-eq0-clause-signs
returns-then-look-eq0-clause-signs c tick h le =
    let zones = c.args.self.now in
    let now = c.args.now.0 in
    let none = c.if-look-eq0.true in
    let alarm : zones.signs.alarm < 2 ^ 32 = omega arith in
    let manual : zones.signs.manual < 2 ^ 32 = omega arith in
    let released : zones.signs.released < 2 ^ 32 = omega arith in
    let first : zones.signs.first < 2 ^ 32 = omega arith in
    rw (
      stays_drawn tick now zones Alarm alarm none h le,
      stays_drawn tick now zones Manual manual none h le,
      stays_drawn tick now zones Released released none h le,
      stays_drawn tick now zones First first none h le,
    ) refl
