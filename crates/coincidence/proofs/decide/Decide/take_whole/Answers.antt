use Rattle.coincidence.proofs.ChangedBlocks.{all_first, all_taken, can_rest, put_first}
use Rattle.coincidence.proofs.ZoneMasks.{known_plain}
use Rattle.coincidence.proofs.decide.Decide.take_whole.Goals as goal

pub told_block-requires : goal.told_block-requires
told_block-requires c =
    let can = c.requires.can.may in
    known_plain c.args.self.now c.args.block.now.firsts c.args.zones.now c.requires.zones can.site can.kept can.panel can.done can.taken can.stands

pub take_eights-requires : goal.take_eights-requires
take_eights-requires c =
    let h = c.take_first-found.ensures in
    can_rest c.args.self.now c.args.block.now c.take_first-found.new.self c.take_first-found.result h c.args.findings.now c.put_run.new.self
    c.requires.can
    (put_first c.args.self.now c.args.block.now c.take_first-found.new.self c.take_first-found.result h c.args.zones.now c.told_block.result c.requires.zones
    c.told_block.ensures c.args.findings.now c.put_run.new.self c.put_run.ensures)

pub returns : goal.returns
returns c =
    let h = c.take_first-found.ensures in
    all_taken c.args.self.now c.args.block.now c.take_first-found.new.self c.take_first-found.result h c.take_eights.new.self c.args.findings.now
    c.put_run.new.self c.take_eights.new.findings
    (put_first c.args.self.now c.args.block.now c.take_first-found.new.self c.take_first-found.result h c.args.zones.now c.told_block.result c.requires.zones
    c.told_block.ensures c.args.findings.now c.put_run.new.self c.put_run.ensures)
    c.take_eights.ensures

pub returns-then-found-eq32 : goal.returns-then-found-eq32
returns-then-found-eq32 c =
    let h = c.take_first-found.ensures in
    all_first c.args.self.now c.args.block.now c.take_first-found.new.self c.take_first-found.result h c.args.findings.now c.put_run.new.self
    (put_first c.args.self.now c.args.block.now c.take_first-found.new.self c.take_first-found.result h c.args.zones.now c.told_block.result c.requires.zones
    c.told_block.ensures c.args.findings.now c.put_run.new.self c.put_run.ensures)
    c.if-found-eq32.true
