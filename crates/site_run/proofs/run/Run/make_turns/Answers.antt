use Rattle.std.proofs.Common.{◌∙◌, ◌∷◌, ap, arith, sym, subst, length}
use Rattle.retained_journal.specs.declared.journal.Journal.{Journal}
use Rattle.panel_core.specs.Keeping.{has_failed}
use Rattle.site_run.specs.declared.run.Run.{Run}
use Rattle.site_run.specs.Outside.{disks_of, stored_old}
use Rattle.site_run.specs.Records.{ticked}
use Rattle.site_run.specs.Stands.{Stores}
use Rattle.site_run.proofs.Stood.{failed_few, has_faces_next, has_faces_turned, makes}
use Rattle.site_run.proofs.TickCuts.{stores_tick}
use Rattle.site_run.proofs.run.Run.make_turns.Goals as goal

pub with_failure-self-requires : goal.with_failure-self-requires
with_failure-self-requires g c =
    let r = c.requires.may in
    let few = failed_few r.site r.kept r.p c.args.self.now r.stands in
    let same = ap (λ (run : Run). run.store_failures) c.turn_all-store.ensures.turns.rest in
    omega (arith, few, same)

pub show_next-requires : goal.show_next-requires
show_next-requires g c =
    let may = has_faces_turned c.args.self.now c.turn_all-store.new.self c.turn_all-store.result c.requires.may c.turn_all-store.ensures.turns in
    record { shows = may.shows; room = may.room; alike = may.alike; passed = may.passed }

pub returns-clause-makes : goal.returns-clause-makes
returns-clause-makes g c site kept p h short =
    let turns = c.turn_all-store.ensures.turns in
    let shown = c.show_next.ensures in
    let disks = disks_of g.D.Disk.honest g.D.Disk.images g.D.Disk.moment g.D.Disk.left_since c.args.disk.now c.turn_all-store.new.disk in
    makes site kept c.turn_all-store.result c.args.self.now c.turn_all-store.new.self c.show_next.new.self turns
    (record {
      system = ap (λ (run : Run). run.system) shown.rest;
      journal = ap (λ (run : Run). run.journal) shown.rest;
      shut = ap (λ (run : Run). run.is_open) shown.rest;
      canonical = ap (λ (run : Run). run.canonical) shown.rest;
      ticks = ap (λ (run : Run). run.ticks) shown.rest;
      failed = ap (λ (run : Run). run.store_failures) shown.rest ∙ c.with_failure-self.ensures;
      before = shown.before;
      alike = shown.alike;
      starts = ap (λ (run : Run). run.starts) shown.rest;
    })
    (λ before stands run marked room last.
    shown.shows site kept before stands run marked (ap (λ (r : Run). length r.next.items) turns.rest ∙ room)
    (ap (λ (r : Run). r.shown.items) turns.rest ∙ last))
    disks
    (λ ticks block stands.
    let failed = has_failed c.turn_all-store.result in
    subst
    (λ (journal : Journal). Stores site kept {kind = disks.kind} (stored_old disks c.args.self.now) (record { disk = disks.new; journal = journal })
    ticks (ticked failed block ∷ ticks))
    (sym (ap (λ (run : Run). run.journal) shown.rest))
    (stores_tick disks site kept ticks block c.args.self.now c.turn_all-store.new.self c.turn_all-store.result stands
    c.turn_all-store.ensures.leaves c.turn_all-store.ensures.disk.digest c.turn_all-store.ensures.disk.early turns.tried))
    p h c.requires.may.open_is short

pub returns-clause-faces : goal.returns-clause-faces
returns-clause-faces g c =
    let may = has_faces_turned c.args.self.now c.turn_all-store.new.self c.turn_all-store.result c.requires.may c.turn_all-store.ensures.turns in
    has_faces_next _ c.show_next.new.self (record { shows = may.shows; room = may.room; alike = may.alike; passed = may.passed }) c.show_next.ensures
