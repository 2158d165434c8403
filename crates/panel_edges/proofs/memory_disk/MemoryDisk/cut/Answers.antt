use Rattle.std.proofs.Common.{◌≡◌, ◌∙◌, ap, sym, subst, take, min}
use Rattle.panel_edges.specs.DiskLogs.{cut_by, left_after}
use Rattle.panel_edges.specs.MemoryDisks.{log_of}
use Rattle.panel_edges.proofs.Logging.{cut_front, cut_since}
use Rattle.panel_edges.proofs.memory_disk.MemoryDisk.cut.Goals as goal

is_cut : (c : goal.In-Ok) → c.in-Ok.file.items ≡ cut_by c.args.self.now.start.items (take c.args.calls (log_of c.args.self.now)) c.args.kept.now
is_cut c =
    cut_front _ _ _ _ _ _ c.args.calls c.min.result c.args.kept.now _ c.deref-2.ensures.value c.deref.ensures.value c.deref-3.ensures.value
    (c.min.ensures ∙ ap (min c.args.calls) (c.len.ensures ∙ sym c.deref.ensures.len))
    c.in-Ok.ensures

pub returns-in-Ok-clause-file : goal.returns-in-Ok-clause-file
returns-in-Ok-clause-file c = is_cut c

pub returns-in-Ok-clause-image : goal.returns-in-Ok-clause-image
returns-in-Ok-clause-image c t le within =
    let disk = c.args.self.now in
    subst (left_after disk.start.items (log_of disk) t) (sym (is_cut c))
    (cut_since disk.start.items (log_of disk) c.args.calls c.args.kept.now t le within)
