use Rattle.std.proofs.Common.{◌≤◌, refl, arith}
use Rattle.coincidence.proofs.Marked.{later_on, marked_anew, put_in}
use Rattle.coincidence.proofs.Watched.{mark_small}
use Rattle.coincidence.proofs.decide.Decide.mark_going_on.Goals as goal

pub set-requires : goal.set-requires
set-requires c =
    let q = c.requires.can in
    mark_small q.stands c.args.answer.now.point (q.may.own 0 c.args.answer.now refl)

pub returns : goal.returns
returns c =
    let old = c.args.self.now in
    let answer = c.args.answer.now in
    let later = c.max.ensures in
    let from : old.since.0 ≤ c.max.result = omega (arith, later) in
    let stamp : answer.stamp.0 ≤ c.max.result = omega (arith, later) in
    record {
      points = refl;
      zones = refl;
      reset = refl;
      stands = λ site kept panel done taken h. marked_anew h c.set.new.self (record { 0 = c.max.result })
          (put_in c.set.new.self answer.point c.max.result h.going_on c.set.ensures from
          (λ point zone there zone_there. later_on answer.stamp.0 c.max.result old.reset point zone stamp
          (c.is_steady.ensures c.if-not-is_steady.false point zone there zone_there)));
    }
