use Rattle.face_reading.proofs.ReadSteps.{end_is_read, end_is_refused, first_is_opening, first_not_opening, first_unended, has_place, no_more_ends, not_an_entry, not_taken, one_more}
use Rattle.face_reading.proofs.reading.read_faces.Goals as goal

pub returns-in_default-clause-bad : goal.returns-in_default-clause-bad
returns-in_default-clause-bad c = first_unended c.args.site.now c.requires c.args.text.now c.in_default.ensures.none

pub returns-then-not-is_opening-clause-bad : goal.returns-then-not-is_opening-clause-bad
returns-then-not-is_opening-clause-bad c =
    first_not_opening c.args.site.now c.requires c.args.text.now c.in-Some.line.now c.in-Some.rest.now c.is_opening.result c.in-Some.ensures.parted
    c.is_opening.ensures c.if-not-is_opening.true

pub loop-line-init : goal.loop-line-init
loop-line-init c =
    let p =
    first_is_opening c.args.site.now c.args.text.now c.in-Some.line.now c.in-Some.rest.now c.in_ok-told.told c.is_opening.result
    c.in-Some.ensures.parted c.is_opening.ensures c.if-not-is_opening.false
    c.in_ok-told.ensures in
    record { read = p.0; room = p.1 }

pub returns-in_default-read_entry-clause-bad : goal.returns-in_default-read_entry-clause-bad
returns-in_default-read_entry-clause-bad c =
    not_an_entry c.args.site.now c.requires c.args.text.now c.loop-line.rest.now c.in-Some-split_line.line.now c.in-Some-split_line.behind.now
    c.loop-line.told c.loop-line.count c.loop-line.invariant.read
    c.in-Some-split_line.ensures.parted c.in_default-read_entry.ensures

pub returns-in-End-clause-ok : goal.returns-in-End-clause-ok
returns-in-End-clause-ok c =
    end_is_read c.args.site.now c.requires c.args.text.now c.loop-line.rest.now c.in-Some-split_line.line.now c.in-Some-split_line.behind.now
    c.loop-line.told c.loop-line.count c.in-Some-read_entry.entry
    c.in-End.last c.end_with.result c.loop-line.invariant.read c.in-Some-split_line.ensures.parted c.in-Some-read_entry.ensures c.in-End.is
    c.end_with.ensures

pub returns-in-End-clause-bad : goal.returns-in-End-clause-bad
returns-in-End-clause-bad c =
    end_is_refused c.args.site.now c.requires c.args.text.now c.loop-line.rest.now c.in-Some-split_line.line.now c.in-Some-split_line.behind.now
    c.loop-line.told c.loop-line.count c.in-Some-read_entry.entry
    c.in-End.last c.end_with.result c.loop-line.invariant.read c.in-Some-split_line.ensures.parted c.in-Some-read_entry.ensures c.in-End.is
    c.end_with.ensures

pub take-requires : goal.take-requires
take-requires c =
    has_place c.args.site.now c.requires c.args.text.now c.loop-line.rest.now c.in-Some-split_line.line.now c.loop-line.told c.loop-line.count
    c.in-Some-read_entry.entry c.loop-line.invariant.read
    c.in-Some-read_entry.ensures

pub returns-then-not-branch : goal.returns-then-not-branch
returns-then-not-branch c =
    record {
      ok = tt;
      bad =
          not_taken c.args.site.now c.requires c.args.text.now c.loop-line.rest.now c.in-Some-split_line.line.now c.in-Some-split_line.behind.now
          c.loop-line.told c.take.new.self c.loop-line.count
          c.in-Some-read_entry.entry c.in_ok-take.field-0 c.loop-line.invariant.read c.in-Some-split_line.ensures.parted c.in-Some-read_entry.ensures
          c.in_default-entry.not-End c.in_ok-take.ensures
          c.if-not-branch.true;
    }

pub loop-line-preserved : goal.loop-line-preserved
loop-line-preserved c =
    let p =
    one_more c.args.site.now c.args.text.now c.loop-line.rest.now c.in-Some-split_line.line.now c.in-Some-split_line.behind.now c.loop-line.told
    c.take.new.self c.loop-line.count c.in-Some-read_entry.entry
    c.in_ok-take.field-0 c.loop-line.invariant.read c.loop-line.invariant.room c.in-Some-split_line.ensures.parted c.in-Some-read_entry.ensures
    c.in_ok-take.ensures c.if-not-branch.false in
    record { read = p.0; room = p.1 }

pub returns-clause-bad : goal.returns-clause-bad
returns-clause-bad c =
    no_more_ends c.args.site.now c.requires c.args.text.now c.loop-line.rest.now c.loop-line.told c.loop-line.count c.loop-line.invariant.read
    c.in_default-split_line.ensures.none
