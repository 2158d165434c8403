use Rattle.panel_node.proofs.AllTurns.{all_turned, front_then, fronts_then, may_keep, may_turn_own}
use Rattle.panel_node.proofs.node.Node.turns.Goals as goal

pub own_turns-requires : goal.own_turns-requires
own_turns-requires g c = may_turn_own c.args.journal.now c.args.self.now c.requires.may

pub keep-requires-clause-may : goal.keep-requires-clause-may
keep-requires-clause-may g c = let may = c.requires.may in may_keep c.own_turns.ensures.turns may.stands may.keeps may.run may.few may.tried

pub returns-clause-turns : goal.returns-clause-turns
returns-clause-turns g c site panel kept history h keeps run few =
    let keep = c.keep in
    all_turned c.own_turns.ensures.turns h keeps run few keep.result keep.new.journal keep.new.self keep.ensures.kept

pub returns-clause-cut : goal.returns-clause-cut
returns-clause-cut g c honest room site panel kept history file h keeps run few left =
    let keep = c.keep in
    front_then c.own_turns.ensures.turns h keeps run few keep.result keep.new.journal keep.new.self keep.ensures.kept keep.ensures.leaves.same.digest file
    (keep.ensures.leaves.left honest room file left)

pub returns-clause-moments : goal.returns-clause-moments
returns-clause-moments g c honest site panel kept history h keeps run few room =
    let keep = c.keep in
    fronts_then c.own_turns.ensures.turns h keeps run few keep.result keep.new.journal keep.new.self keep.ensures.kept g.D.Disk.moment g.D.Disk.left_since
    c.args.disk.now keep.new.disk (keep.ensures.moments honest) room
