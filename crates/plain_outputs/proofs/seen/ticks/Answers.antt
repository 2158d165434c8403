use Rattle.std.proofs.Common.{◌≡◌, ◌≤◌, ◌+◌, ◌∙◌, length, sym, arith}
use Rattle.panel_rules.specs.Moments.{tick_of}
use Rattle.plain_outputs.proofs.Looking.{ends_with, few_ticks, tick_begun, tick_same}
use Rattle.plain_outputs.proofs.seen.ticks.Goals as goal
use Rattle.plain_outputs.proofs.seen.ticks.Goals.{else-is_beginning-via-then-is_beginning+else-last-most, else-is_beginning-via-else-is_beginning}

pub returns-else-is_beginning : goal.returns-else-is_beginning
returns-else-is_beginning c site facts history are =
    let ends = ends_with c.args.seen.now c.last-item.result c.in-len1-up.len_at_least c.last-item.is in
    elim c.else-is_beginning.branch [
      | else-is_beginning-via-then-is_beginning+else-last-most w ↦ (
          let more : c.last-item.result.tick.0 + 1 ≡ tick_of history =
          tick_begun site facts c.args.seen.now _ c.last-item.result ends (sym c.is_beginning.ensures ∙ w.if-is_beginning.true) history are in
          let few : tick_of history ≤ length c.args.seen.now = few_ticks site facts c.args.seen.now history are in
          let far : length c.args.seen.now ≤ c.last-item.result.tick.0 = w.if-last-most.false in
          absurd (omega (arith, more, few, far)))
      | else-is_beginning-via-else-is_beginning w ↦
          tick_same site facts c.args.seen.now _ c.last-item.result ends (sym c.is_beginning.ensures ∙ w.if-is_beginning.false) history are
    ]
