use Rattle.std.proofs.Common.{◌∙◌, refl, sym}
use Rattle.panel_core.specs.Keeping.{has_failed}
use Rattle.panel_core.proofs.DeskTurns.{can_keep}
use Rattle.panel_core.proofs.KeepTurns.{answers_by, keeps_by, kept_nothing, made_nothing, torn_by}
use Rattle.panel_core.proofs.Marked.{keep_marks}
use Rattle.panel_core.proofs.system.System.keep_nothing.Goals as goal

pub keep-requires : goal.keep-requires
keep-requires g c =
    let m = c.requires.may in
    rw c.has_failed.ensures (can_keep m.site m.kept m.before c.args.self.now m.stands _ m.run)

pub returns-clause-kept : goal.returns-clause-kept
returns-clause-kept g c site kept before h keeps run few =
    let store = c.idle_turn-store.result in
    let old = c.args.journal.now in
    let new = c.idle_turn-store.new.journal in
    let made = made_nothing site kept before c.args.self.now h run.0 few c.requires.all c.idle_turn-store.ensures in
    let now = keeps_by site kept before old new store keeps.keeps made.answers in
    record {
      stands =
          kept_nothing site kept before c.args.self.now h run.0 c.requires.all store old new c.keep.new.self c.idle_turn-store.ensures.answers keeps.keeps now
          run (rw (sym c.has_failed.ensures) (c.keep.ensures site kept before));
      keeps = record {
        keeps = now;
        wide = made.leaves.same.wide ∙ keeps.wide;
        torn = torn_by site kept before old new store keeps.torn made.answers;
      };
      answers = answers_by site kept before old new store made.answers;
    }

pub returns-clause-marks : goal.returns-clause-marks
returns-clause-marks g c site kept before h keeps run few marked =
    keep_marks site kept before (has_failed c.idle_turn-store.result) refl (record { rest = refl; unmarked = λ other e. e; same = λ other from to e. refl })
    (λ e. refl) h (returns-clause-kept g c site kept before h keeps run few).stands marked

pub returns-clause-moments : goal.returns-clause-moments
returns-clause-moments g c honest site kept before h keeps run few room =
    (made_nothing site kept before c.args.self.now h run few c.requires.all c.idle_turn-store.ensures).moments honest room

pub returns-clause-leaves : goal.returns-clause-leaves
returns-clause-leaves g c = c.idle_turn-store.ensures.leaves
