use Rattle.std.proofs.Common.{ap, arith, ◌≡◌, ◌≢◌, subst, sym, ◌∙◌}
use Rattle.std.specs.Prelude.{IfSome, Some}
use Rattle.retained_journal.specs.declared.open_refusal.OpenRefusal.TheVariants.{DiskFault}
use Rattle.retained_journal.specs.Opening.{change_out_of_form}
use Rattle.retained_journal.proofs.Openings.{begun_at, replay_open, replay_refused, replay_shut}
use Rattle.retained_journal.proofs.Refused.{handed_on}
use Rattle.retained_journal.proofs.SeenFiles.{both_told}
use Rattle.std.proofs.lemmas.Option.{IfSome_then}
use Rattle.retained_journal.specs.Places.{slot_place}
use Rattle.retained_journal.specs.declared.replay.Replay.{Replay}
use Rattle.retained_journal.specs.Slots.{IsKeepable}
use Rattle.retained_journal.proofs.Keeping.{keeps_slot, small_counters}
use Rattle.retained_journal.proofs.journal.read_counted.Goals as goal

pub returns-in_err-read_cells-clause-err : goal.returns-in_err-read_cells-clause-err
returns-in_err-read_cells-clause-err g c =
    let is = subst (λ at. c.begin_replay-replay.result ≡ begun_at c.args.wide at c.args.front.now) c.slot_place.ensures c.begin_replay-replay.ensures
    in
    handed_on c.from_residual.result (λ e. e ≡ c.in_err-read_cells.field-0.0) (λ e. e ≢ DiskFault
    → IfSome (g.D.Disk.seen c.args.disk.now) (λ file. change_out_of_form c.args.wide file ≡ Some e)) c.from_residual.ensures.1
    (λ e same no_fault. both_told (g.D.Disk.seen c.args.disk.now) c.requires.told (c.in_err-read_cells.ensures.err (λ fault. no_fault (same ∙ fault)))
    (λ file told refuses. subst (λ r. change_out_of_form c.args.wide file ≡ Some r) (sym same)
    (replay_refused c.args.wide c.args.front.now file c.args.second told.0 c.requires.second c.begin_replay-replay.result is c.if-front-eq1.true
    c.in_err-read_cells.field-0.0 refuses)))

pub returns-in_ok-read_cells-clause-ok : goal.returns-in_ok-read_cells-clause-ok
returns-in_ok-read_cells-clause-ok g c =
    let is = subst (λ at. c.begin_replay-replay.result ≡ begun_at c.args.wide at c.args.front.now) c.slot_place.ensures c.begin_replay-replay.ensures
    in
    both_told (g.D.Disk.seen c.args.disk.now) c.requires.told c.in_ok-read_cells.ensures.ok
    (λ file told ends. replay_open c.args.wide c.args.front.now file c.args.second told.0 c.requires.second c.begin_replay-replay.result is
    c.if-front-eq1.true c.read_cells.new.self ends)

pub returns-else-front-eq1-clause-ok : goal.returns-else-front-eq1-clause-ok
returns-else-front-eq1-clause-ok g c =
    let is = subst (λ at. c.begin_replay-replay.result ≡ begun_at c.args.wide at c.args.front.now) c.slot_place.ensures c.begin_replay-replay.ensures
    in
    IfSome_then (g.D.Disk.seen c.args.disk.now) c.requires.told
    (λ file told. replay_shut c.args.wide c.args.front.now file c.args.second told.0 c.requires.second c.begin_replay-replay.result is
    c.if-front-eq1.false)

pub read_cells-requires-clause-keeps : goal.read_cells-requires-clause-keeps
read_cells-requires-clause-keeps g c =
    let is = subst (λ at. c.begin_replay-replay.result ≡ begun_at c.args.wide at c.args.front.now) c.slot_place.ensures c.begin_replay-replay.ensures
    in
    let at = slot_place c.args.second in
    subst (λ (r : Replay). IsKeepable r.wide r.kept) (sym is)
    (keeps_slot c.args.wide at c.args.front.now c.fits-front (small_counters at c.args.front.now c.requires.counters))

pub returns-else-front-eq1-clause-keeps : goal.returns-else-front-eq1-clause-keeps
returns-else-front-eq1-clause-keeps g c =
    let is = subst (λ at. c.begin_replay-replay.result ≡ begun_at c.args.wide at c.args.front.now) c.slot_place.ensures c.begin_replay-replay.ensures
    in
    let at = slot_place c.args.second in
    let number = ap (λ (r : Replay). r.number) is in
    let cells = ap (λ (r : Replay). r.cells) is in (
      subst (λ (r : Replay). IsKeepable c.args.wide r.kept) (sym is)
          (keeps_slot c.args.wide at c.args.front.now c.fits-front (small_counters at c.args.front.now c.requires.counters)),
      omega (arith, cells),
      omega (arith, number, c.requires.number),
    )
