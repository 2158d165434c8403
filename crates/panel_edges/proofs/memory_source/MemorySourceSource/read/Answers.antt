use Rattle.std.proofs.Common.{◌≡◌, ◌<◌, ◌∙◌, ap, length, min, sym, subst, take, drop}
use Rattle.panel_edges.proofs.Shrinking.{has_taken}
use Rattle.panel_edges.proofs.memory_source.MemorySourceSource.read.Goals as goal

pub returns-clause-taken : goal.returns-clause-taken
returns-clause-taken c =
    let source = c.args.self.now in
    let count = c.copy_from-count.result in
    let told = c.copy_from-count.ensures in
    let same : length c.copy_from-count.new.into ≡ length c.args.into.now = c.copy_from-count.auto.into in
    let there = c.deref-2.ensures.value in
    has_taken source.bytes.items c.copy_from-count.new.into source.at count (subst (λ n. 0 < n) (sym same) c.requires)
    (told.count ∙ ap (λ n. min n (length (drop source.at c.deref-2.result.now))) (sym same)
    ∙ ap (λ xs. min (length c.copy_from-count.new.into) (length (drop source.at xs))) there)
    (told.copied ∙ ap (λ xs. take count (drop source.at xs)) there)
