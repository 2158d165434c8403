use Rattle.std.proofs.Common.{◌∙◌, refl, subst, sym}
use Rattle.node_desk.specs.Replies.{HasReplied}
use Rattle.node_desk.specs.declared.reply.Reply.TheVariants as reply
use Rattle.node_inputs.specs.Inputs.{IsOwnInput}
use Rattle.node_inputs.specs.declared.input.NodeInput.TheVariants.{Nothing, BadFrame, BadBlock, TooLong}
use Rattle.panel_frames.specs.Grammar.{IsFrame}
use Rattle.site_run.specs.Outside.{disks_of}
use Rattle.site_types.specs.Valid.{IsPanel, IsValid}
use Rattle.node_desk.proofs.Came.{came_block, came_so}
use Rattle.node_desk.proofs.Replying.{replied_frame, replied_nothing}
use Rattle.node_desk.proofs.node_run.NodeRun.reply_to.Goals as goal

pub read_input-requires-clause-site : goal.read_input-requires-clause-site
read_input-requires-clause-site g c =
    let r = c.requires.may in
    subst IsValid (sym (c.site.ensures r.site r.panel r.kept r.history r.runs.node)) r.runs.node.valid

pub read_input-requires-clause-panel : goal.read_input-requires-clause-panel
read_input-requires-clause-panel g c =
    let r = c.requires.may in
    subst (λ p. IsPanel c.site.result.now p) (sym r.runs.own)
    (subst (λ s. IsPanel s r.panel) (sym (c.site.ensures r.site r.panel r.kept r.history r.runs.node)) r.runs.member)

pub receive-requires : goal.receive-requires
receive-requires g c =
    let r = c.requires.may in
    let framed = subst (IsOwnInput c.site.result.now c.args.self.now.panel) c.in-Framed.is c.read_input.ensures.grammar in
    record {
      site = r.site;
      panel = r.panel;
      kept = r.kept;
      history = r.history;
      stands = r.runs.node;
      framed =
          subst (λ p. IsFrame r.site p c.in-Framed.frame) r.runs.own
          (subst (λ s. IsFrame s c.args.self.now.panel c.in-Framed.frame) (c.site.ensures r.site r.panel r.kept r.history r.runs.node) framed);
    }

pub reply_to_block-requires-clause-may : goal.reply_to_block-requires-clause-may
reply_to_block-requires-clause-may g c =
    let r = c.requires.may in
    let old = c.args.self.now in
    let bytes = c.args.bytes.now in
    let is = came_so r.site c.site.result.now old.node.digest c.digest.result.now r.panel old.panel bytes c.read_input.result
    (c.site.ensures r.site r.panel r.kept r.history r.runs.node) c.digest.ensures r.runs.own c.read_input.ensures.came in
    let block = came_block r.site old.node.digest r.panel bytes c.in-Block.found (sym is ∙ c.in-Block.is) in
    record { may = r; accepted = block.0; short = block.1 }

pub returns-in-Nothing-clause-replies : goal.returns-in-Nothing-clause-replies
returns-in-Nothing-clause-replies g c site panel kept history ticks h room =
    let old = c.args.self.now in
    let bytes = c.args.bytes.now in
    let disks = disks_of g.D.Disk.honest g.D.Disk.images g.D.Disk.moment g.D.Disk.left_since c.args.disk.now c.args.disk.now in
    let is = sym c.in-Nothing.is
    ∙ came_so site c.site.result.now old.node.digest c.digest.result.now panel old.panel bytes c.read_input.result (c.site.ensures site panel kept history h.node)
    c.digest.ensures h.own c.read_input.ensures.came in
    subst (λ came. HasReplied site panel kept old.node.digest history ticks bytes came disks old reply.Frame old) is
    (replied_nothing site panel kept old.node.digest history ticks bytes disks old h Nothing reply.Frame refl refl tt refl)

pub returns-in-Framed-clause-replies : goal.returns-in-Framed-clause-replies
returns-in-Framed-clause-replies g c site panel kept history ticks h room =
    let old = c.args.self.now in
    let bytes = c.args.bytes.now in
    let disks = disks_of g.D.Disk.honest g.D.Disk.images g.D.Disk.moment g.D.Disk.left_since c.args.disk.now c.args.disk.now in
    let is = sym c.in-Framed.is
    ∙ came_so site c.site.result.now old.node.digest c.digest.result.now panel old.panel bytes c.read_input.result (c.site.ensures site panel kept history h.node)
    c.digest.ensures h.own c.read_input.ensures.came in
    let run = record old { node = c.receive.new.self } in
    subst (λ came. HasReplied site panel kept old.node.digest history ticks bytes came disks old reply.Frame run) is
    (replied_frame site panel kept old.node.digest history ticks bytes disks old h c.in-Framed.frame run refl c.receive.ensures.takes refl refl refl refl refl)

pub returns-in-BadFrame-clause-replies : goal.returns-in-BadFrame-clause-replies
returns-in-BadFrame-clause-replies g c site panel kept history ticks h room =
    let old = c.args.self.now in
    let bytes = c.args.bytes.now in
    let disks = disks_of g.D.Disk.honest g.D.Disk.images g.D.Disk.moment g.D.Disk.left_since c.args.disk.now c.args.disk.now in
    let is = sym c.in-BadFrame.is
    ∙ came_so site c.site.result.now old.node.digest c.digest.result.now panel old.panel bytes c.read_input.result (c.site.ensures site panel kept history h.node)
    c.digest.ensures h.own c.read_input.ensures.came in
    subst (λ came. HasReplied site panel kept old.node.digest history ticks bytes came disks old (reply.BadFrame c.in-BadFrame.refusal) old) is
    (replied_nothing site panel kept old.node.digest history ticks bytes disks old h (BadFrame c.in-BadFrame.refusal) (reply.BadFrame c.in-BadFrame.refusal) refl refl tt refl)

pub returns-in-Block-clause-replies : goal.returns-in-Block-clause-replies
returns-in-Block-clause-replies g c site panel kept history ticks h room =
    let old = c.args.self.now in
    let bytes = c.args.bytes.now in
    let disks = disks_of g.D.Disk.honest g.D.Disk.images g.D.Disk.moment g.D.Disk.left_since c.args.disk.now c.reply_to_block.new.disk in
    let came = came_so site c.site.result.now old.node.digest c.digest.result.now panel old.panel bytes c.read_input.result
    (c.site.ensures site panel kept history h.node) c.digest.ensures h.own c.read_input.ensures.came in
    let block = came_block site old.node.digest panel bytes c.in-Block.found (sym came ∙ c.in-Block.is) in
    subst
    (λ came. HasReplied site panel kept old.node.digest history ticks bytes came disks old c.reply_to_block.result c.reply_to_block.new.self)
    (sym c.in-Block.is ∙ came) (c.reply_to_block.ensures.replies site panel kept history ticks h room block.0)

pub returns-in-BadBlock-clause-replies : goal.returns-in-BadBlock-clause-replies
returns-in-BadBlock-clause-replies g c site panel kept history ticks h room =
    let old = c.args.self.now in
    let bytes = c.args.bytes.now in
    let disks = disks_of g.D.Disk.honest g.D.Disk.images g.D.Disk.moment g.D.Disk.left_since c.args.disk.now c.args.disk.now in
    let is = sym c.in-BadBlock.is
    ∙ came_so site c.site.result.now old.node.digest c.digest.result.now panel old.panel bytes c.read_input.result (c.site.ensures site panel kept history h.node)
    c.digest.ensures h.own c.read_input.ensures.came in
    subst (λ came. HasReplied site panel kept old.node.digest history ticks bytes came disks old (reply.BadBlock c.in-BadBlock.refusal) old) is
    (replied_nothing site panel kept old.node.digest history ticks bytes disks old h (BadBlock c.in-BadBlock.refusal) (reply.BadBlock c.in-BadBlock.refusal) refl refl tt refl)

pub returns-in-TooLong-clause-replies : goal.returns-in-TooLong-clause-replies
returns-in-TooLong-clause-replies g c site panel kept history ticks h room =
    let old = c.args.self.now in
    let bytes = c.args.bytes.now in
    let disks = disks_of g.D.Disk.honest g.D.Disk.images g.D.Disk.moment g.D.Disk.left_since c.args.disk.now c.args.disk.now in
    let is = sym c.in-TooLong.is
    ∙ came_so site c.site.result.now old.node.digest c.digest.result.now panel old.panel bytes c.read_input.result (c.site.ensures site panel kept history h.node)
    c.digest.ensures h.own c.read_input.ensures.came in
    subst (λ came. HasReplied site panel kept old.node.digest history ticks bytes came disks old reply.TooLong old) is
    (replied_nothing site panel kept old.node.digest history ticks bytes disks old h TooLong reply.TooLong refl refl tt refl)
