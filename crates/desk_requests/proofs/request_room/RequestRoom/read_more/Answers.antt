use Rattle.std.proofs.Common.{◌∙◌, ◌+◌, ◌++◌, ap, length, sym, take}
use Rattle.desk_requests.proofs.ReadPieces.{written_over}
use Rattle.desk_requests.proofs.request_room.RequestRoom.read_more.Goals as goal

pub returns-clause-gains : goal.returns-clause-gains
returns-clause-gains g c =
    let old = c.args.self.now in
    let count = c.in_ok-count.count in
    let fills = c.in_ok-count.ensures.fills in
    let lent = c.deref_mut.ensures.value in
    record {
      piece = fills.piece;
      counted = fills.counted;
      behind =
          ap (take (old.filled + count)) (written_over c.read_behind.new.bytes old.bytes.items old.bytes.len (c.read_behind.auto.bytes ∙ ap length lent) (sym old.bytes.ok.0))
          ∙ fills.behind ∙ ap (λ xs. take old.filled xs ++ fills.piece) lent;
      taken = fills.taken;
      ends = fills.ends;
    }
