use Rattle.isolators.proofs.loop_line.LoopLine.look.Goals as goal

pub returns : goal.returns
returns c plan cable h =
    let shorts = c.shorted_sections-self.ensures plan cable h in
    record {
      cables = record { last = h.last; begins = h.begins; pieces = h.pieces };
      shorts = shorts;
      ahead = c.pieces_ahead-self.ensures plan cable (record { last = h.last; begins = h.begins; pieces = h.pieces }) shorts;
      behind = c.pieces_behind-self.ensures plan cable (record { last = h.last; begins = h.begins; pieces = h.pieces }) shorts;
      status = c.faults-self.ensures plan cable (record { last = h.last; begins = h.begins; pieces = h.pieces });
    }
