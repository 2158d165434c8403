use Rattle.std.proofs.Common.{◌≡◌, ◌≢◌, ℕ, subst, sym, ap, ◌∙◌}
use Rattle.std.specs.Prelude.{IfSome, Some, None}
use Rattle.retained_journal.specs.declared.open_refusal.OpenRefusal.TheVariants.{DiskFault}
use Rattle.retained_journal.specs.Journals.{IsReplayOf}
use Rattle.retained_journal.specs.Opening.{change_out_of_form, front_refusal, refusal_of}
use Rattle.retained_journal.proofs.FrontAgreement.{front_same}
use Rattle.retained_journal.proofs.Openings.{front_passes, front_refuses, passes_none, passes_some, read_so}
use Rattle.retained_journal.proofs.Refused.{handed_on}
use Rattle.retained_journal.proofs.SeenFiles.{both_told, three_told}
use Rattle.retained_journal.proofs.journal.read_journal.Goals as goal

pub returns-in_err-check_front-clause-err : goal.returns-in_err-check_front-clause-err
returns-in_err-check_front-clause-err g c =
    let front = c.in_ok-front.front in
    let seen = g.D.Disk.seen c.args.disk.now in
    handed_on c.from_residual-in_err-check_front.result (λ e. e ≡ c.in_err-check_front.field-0.0) (λ e. e ≢ DiskFault
    → IfSome seen (λ file. refusal_of c.args.wide c.args.digest file ≡ Some e)) c.from_residual-in_err-check_front.ensures.1
    (λ e same no_fault. both_told seen c.requires c.in_ok-front.ensures.ok
    (λ file len agrees. subst (λ r. refusal_of c.args.wide c.args.digest file ≡ Some r) (sym same)
    (front_refuses c.args.wide c.args.digest file c.in_err-check_front.field-0.0
    (ap (λ (n : ℕ). front_refusal c.args.digest n file) (sym len) ∙ sym (front_same front file agrees c.args.digest c.args.len) ∙ passes_some
    (front_refusal c.args.digest c.args.len front) c.in_err-check_front.field-0.0 c.in_err-check_front.ensures))))

pub returns-in_err-replay-clause-err : goal.returns-in_err-replay-clause-err
returns-in_err-replay-clause-err g c =
    let front = c.in_ok-front.front in
    let seen = g.D.Disk.seen c.args.disk.now in
    let passed = passes_none (front_refusal c.args.digest c.args.len front) c.in_ok-check_front.ensures in
    handed_on c.from_residual-in_err-replay.result (λ e. e ≡ c.in_err-replay.field-0.0) (λ e. e ≢ DiskFault
    → IfSome seen (λ file. refusal_of c.args.wide c.args.digest file ≡ Some e)) c.from_residual-in_err-replay.ensures.1
    (λ e same no_fault. three_told seen c.requires c.in_ok-front.ensures.ok
    (subst (λ s. IfSome s (λ file. change_out_of_form c.args.wide file ≡ Some c.in_err-replay.field-0.0)) c.in_ok-front.ensures.seen
    (c.in_err-replay.ensures.err (λ fault. no_fault (same ∙ fault))))
    (λ file len agrees found. subst (λ r. refusal_of c.args.wide c.args.digest file ≡ Some r) (sym same)
    (front_passes c.args.wide c.args.digest file (Some c.in_err-replay.field-0.0)
    (ap (λ (n : ℕ). front_refusal c.args.digest n file) (sym len) ∙ sym (front_same front file agrees c.args.digest c.args.len) ∙ passed) found)))

pub returns-clause-ok : goal.returns-clause-ok
returns-clause-ok g c =
    let front = c.in_ok-front.front in
    let seen = g.D.Disk.seen c.args.disk.now in
    let passed = passes_none (front_refusal c.args.digest c.args.len front) c.in_ok-check_front.ensures in
    three_told seen c.requires c.in_ok-front.ensures.ok
    (subst (λ s. IfSome s (λ file. (change_out_of_form c.args.wide file ≡ None) × IsReplayOf c.args.wide file c.in_ok-replay.replay))
    c.in_ok-front.ensures.seen c.in_ok-replay.ensures.ok)
    (λ file len agrees read. (
      front_passes c.args.wide c.args.digest file None
          (ap (λ (n : ℕ). front_refusal c.args.digest n file) (sym len) ∙ sym (front_same front file agrees c.args.digest c.args.len) ∙ passed)
          read.0,
      read_so c.args.wide front file c.is_second-second.result agrees c.is_second-second.ensures c.args.digest c.in_ok-replay.replay c.of_front.result
          c.of_front.ensures read.1,
    ))
