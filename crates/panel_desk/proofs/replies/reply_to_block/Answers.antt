use Rattle.std.proofs.Common.{◌≡◌, ◌∙◌, refl, sym, subst, ap}
use Rattle.desk_runs.specs.Ticks.{is_next}
use Rattle.desk_ticks.specs.Blocks.{verdict_of}
use Rattle.panel_desk.specs.Replies.{other_tick}
use Rattle.panel_desk.proofs.Replied.{block_run, may_run, other_block, refused_block}
use Rattle.site_run.specs.Outside.{disks_of}
use Rattle.site_types.specs.Valid.{IsValid}
use Rattle.panel_desk.proofs.replies.reply_to_block.Goals as goal

pub tick_of_block-requires-clause-valid : goal.tick_of_block-requires-clause-valid
tick_of_block-requires-clause-valid g c =
    let r = c.requires.may.1 in
    subst IsValid (sym (c.site.ensures r.site r.kept _ r.stands)) r.stands.valid

pub tick_of_block-requires-clause-room : goal.tick_of_block-requires-clause-room
tick_of_block-requires-clause-room g c = c.requires.may.1.short

pub returns-in-Err-clause-replies : goal.returns-in-Err-clause-replies
returns-in-Err-clause-replies g c site kept ticks stands room =
    let body = c.args.body.now in
    let disks = disks_of g.D.Disk.honest g.D.Disk.images g.D.Disk.moment g.D.Disk.left_since c.args.disk.now c.args.disk.now in
    let same = c.site.ensures site kept _ stands in
    let verdict = ap (λ s. verdict_of s body) (sym same) ∙ sym c.tick_of_block.ensures ∙ c.in-Err.is in
    refused_block site kept ticks body disks c.args.run.now c.in-Err.refusal c.refused_line.result refl stands verdict c.refused_line.ensures

pub run_block-requires-clause-may : goal.run_block-requires-clause-may
run_block-requires-clause-may g c =
    let r = c.requires.may.1 in
    let body = c.args.body.now in
    let verdict = ap (λ s. verdict_of s body) (sym (c.site.ensures r.site r.kept _ r.stands)) ∙ sym c.tick_of_block.ensures ∙ c.in-Ok.is in
    let next = ap (λ n. is_next c.in-Ok.found n) (sym c.ticks.ensures) ∙ sym c.is_next.ensures ∙ c.if-is_next.true in
    record {
      site = r.site;
      kept = r.kept;
      ticks = r.ticks;
      with = may_run r.site r.kept r.ticks body (disks_of g.D.Disk.honest g.D.Disk.images g.D.Disk.moment g.D.Disk.left_since c.args.disk.now c.args.disk.now)
          c.args.run.now c.in-Ok.found r.stands r.room r.short verdict next;
    }

pub returns-then-is_next-clause-replies : goal.returns-then-is_next-clause-replies
returns-then-is_next-clause-replies g c site kept ticks stands room =
    let r = c.requires.may.1 in
    let body = c.args.body.now in
    let disks = disks_of g.D.Disk.honest g.D.Disk.images g.D.Disk.moment g.D.Disk.left_since c.args.disk.now c.run_block.new.disk in
    let verdict = ap (λ s. verdict_of s body) (sym (c.site.ensures site kept _ stands)) ∙ sym c.tick_of_block.ensures ∙ c.in-Ok.is in
    let next = ap (λ n. is_next c.in-Ok.found n) (sym c.ticks.ensures) ∙ sym c.is_next.ensures ∙ c.if-is_next.true in
    let may = may_run site kept ticks body disks c.args.run.now c.in-Ok.found stands room r.short verdict next in
    block_run site kept ticks body disks c.args.run.now c.run_block.new.run c.in-Ok.found verdict may.next
    (c.run_block.ensures.runs site kept ticks may)

pub returns-else-is_next-clause-replies : goal.returns-else-is_next-clause-replies
returns-else-is_next-clause-replies g c site kept ticks stands room =
    let body = c.args.body.now in
    let disks = disks_of g.D.Disk.honest g.D.Disk.images g.D.Disk.moment g.D.Disk.left_since c.args.disk.now c.args.disk.now in
    let verdict = ap (λ s. verdict_of s body) (sym (c.site.ensures site kept _ stands)) ∙ sym c.tick_of_block.ensures ∙ c.in-Ok.is in
    let other = ap (λ n. is_next c.in-Ok.found n) (sym c.ticks.ensures) ∙ sym c.is_next.ensures ∙ c.if-is_next.false in
    other_block site kept ticks body disks c.args.run.now c.in-Ok.found c.other_tick.result refl stands verdict other
    (c.other_tick.ensures ∙ ap (λ n. other_tick n c.in-Ok.found) c.ticks-else-is_next.ensures)
