use Rattle.std.proofs.Common.{inl, inr, arith}
use Rattle.joined_panels.proofs.WaysKnown.{window_stays}
use Rattle.joined_panels.proofs.way.Way.latest_window.Goals as goal
use Rattle.joined_panels.proofs.way.Way.latest_window.Goals.{else-self-via-then-self+else-saturating_sub-spread, else-self-via-else-self}

pub returns-else-self : goal.returns-else-self
returns-else-self c was_up known knows after late =
    elim c.else-self.branch [
      | else-self-via-then-self+else-saturating_sub-spread w ↦
          (let past = knows.past in window_stays was_up c.args.spread known c.args.self.now knows c.args.now c.requires late after
          (inr (w.if-self.true, omega (arith, past, after))))
      | else-self-via-else-self w ↦
          window_stays was_up c.args.spread known c.args.self.now knows c.args.now c.requires late after (inl w.if-self.false)
    ]
