use Rattle.std.proofs.Common.{◌≤◌, arith, length, take, refl}
use Rattle.std.proofs.lemmas.List.{length-take-le}
use Rattle.desk_requests.proofs.ReadPieces.{room_filled}
use Rattle.desk_requests.proofs.filling.read_behind.Goals as goal

pub returns-clause-fills : goal.returns-clause-fills
returns-clause-fills g c =
    let bytes = c.args.bytes.now in
    let filled = c.args.filled in
    let count = c.in_ok-count.count in
    let fits : count ≤ length c.read.new.into = c.in_ok-count.ensures.bound in
    let room = c.requires.room in
    let within = c.requires.within in
    let inside : filled ≤ length bytes = omega (arith, room, within) in
    record {
      piece = take count c.read.new.into;
      counted = length-take-le count c.read.new.into fits;
      behind = room_filled bytes bytes c.read.new.into _ filled count inside fits refl;
      taken = c.in_ok-count.ensures.bytes;
      ends = c.in_ok-count.ensures.ends;
    }
