use Rattle.std.proofs.Common.{◌≡◌, ◌+◌, ◌-◌, arith, length, get_or}
use Rattle.std.proofs.lemmas.Option.{slice_get-get_or}
use Rattle.loop_poller.specs.Calls.{told_cable}
use Rattle.loop_poller.proofs.BlockGroups.{blocks_kept}
use Rattle.loop_poller.proofs.Faults.{flag_after}
use Rattle.loop_poller.proofs.Lines.{told_lines}
use Rattle.loop_poller.proofs.poller.Poller.set_piece.Goals as goal

pub returns : goal.returns
returns c site panel calls stands =
    let line = c.args.line in
    let size : 4 ≡ length c.args.self.now.lines = omega arith in
    let is = slice_get-get_or c.args.self.now.lines (line - 1) c.index-self-line.result (omega arith) in
    let from : (line - 1) + 1 ≡ line = omega arith in
    let at = rw from at (stands.asks.lines (line - 1) (get_or c.args.self.now.lines (line - 1) c.index-self-line.result) is) in
    let status = c.status-status.ensures site panel line _ (c.set_piece.ensures.stands site panel line (told_cable calls line) at) in
    record {
      asks = record {
        valid = stands.asks.valid;
        format = stands.asks.format;
        lines =
            told_lines site panel calls c.args.self.now.lines line c.args.piece c.args.state
            (get_or c.args.self.now.lines (line - 1) c.index-self-line.result) _ stands.asks.lines c.requires.0 is
            (c.set_piece.ensures.stands site panel line (told_cable calls line));
        blocks =
            blocks_kept c.args.self.now.lines c.args.self.now.blocks.items (line - 1)
            (get_or c.args.self.now.lines (line - 1) c.index-self-line.result) c.set_piece.new.self is c.set_piece.ensures.groups stands.asks.blocks;
        states = record { size = stands.asks.states.size; each = stands.asks.states.each };
      };
      faults = record {
        broken =
            flag_after site panel (λ s. s.broken) calls line c.args.piece c.args.state c.status-status.result _ _ c.requires.0 c.requires.1 (omega arith)
            status stands.faults.broken c.with_bit_8-self.ensures.this c.with_bit_8-self.ensures.others;
        shorted =
            flag_after site panel (λ s. s.shorted) calls line c.args.piece c.args.state c.status-status.result _ _ c.requires.0 c.requires.1 (omega arith)
            status stands.faults.shorted c.with_bit_8-self-2.ensures.this c.with_bit_8-self-2.ensures.others;
      };
    }
