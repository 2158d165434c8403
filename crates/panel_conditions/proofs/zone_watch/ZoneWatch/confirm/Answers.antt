use Rattle.std.proofs.Common.{refl}
use Rattle.panel_conditions.proofs.zone_watch.ZoneWatch.confirm.Goals as goal

pub returns : goal.returns
returns c bit finding at plain =
    rw (c.raise_if.ensures, c.raise_if-2.ensures, c.raise_if-3.ensures, at, plain.confirmed, plain.counted, plain.released, plain.manual) refl
