use Rattle.std.proofs.Common.{◌≡◌, ◌≢◌, ◌+◌, ◌<◌, ◌++◌, ℕ, List, [], ◌∷◌, length, get_or, sym, subst, take}
use Rattle.std.proofs.lemmas.List.{take_all, take_more}
use Rattle.operation_desk.specs.declared.done_operation.DoneOperation.{DoneOperation}
use Rattle.output_drive.specs.declared.drive.Drive.{Drive}
use Rattle.output_drive.specs.Changes.{TakesOperation}
use Rattle.output_drive.proofs.DoneTaken.{HasTaken, begun, taken_none, taken_other, taken_own}
use Rattle.output_drive.proofs.drive.Drive.begin.Goals as goal
use Rattle.output_drive.proofs.drive.Drive.begin.Goals.{then-one-panel, else-one-panel}

module _ (panel tick : ℕ) (old mid drive : Drive) (done : List DoneOperation) (i : ℕ) (d : DoneOperation) (within : i < length done)
    (h : HasTaken panel tick old (take i done) mid) where
  -- one operation more, of the panel and of another
  own_next : (get_or done i d).panel ≡ panel → TakesOperation mid (get_or done i d).operation tick drive → HasTaken panel tick old (take (i + 1) done) drive
  own_next own takes =
      subst (λ xs. HasTaken panel tick old xs drive) (sym (take_more done i d within))
      (taken_own panel tick old mid drive (take i done) (get_or done i d) h own takes)

  other_next : (get_or done i d).panel ≢ panel → drive ≡ mid → HasTaken panel tick old (take (i + 1) done) drive
  other_next apart same =
      subst (λ xs. HasTaken panel tick old xs drive) (sym (take_more done i d within))
      (subst (HasTaken panel tick old (take i done ++ get_or done i d ∷ [])) (sym same)
      (taken_other panel tick old mid mid (take i done) (get_or done i d) h apart))

pub loop-one-init : goal.loop-one-init
loop-one-init c = taken_none c.args.panel c.args.at.0 c.args.self.now

pub loop-one-preserved : goal.loop-one-preserved
loop-one-preserved c =
    let i = c.loop-one.one-index in
    let done = c.args.done.now in
    let old = c.args.self.now in
    let mid = c.loop-one.self in
    elim c.if-one-panel.branch [
      | then-one-panel w ↦
          subst (HasTaken c.args.panel c.args.at.0 old (take (i + 1) done)) (sym w.self-is)
          (own_next c.args.panel c.args.at.0 old mid w.apply.new.self done i _ c.loop-one-test.true c.loop-one.invariant w.if-one-panel.true w.apply.ensures)
      | else-one-panel w ↦
          other_next c.args.panel c.args.at.0 old mid c.if-one-panel.self done i _ c.loop-one-test.true c.loop-one.invariant w.if-one-panel.false w.self-is
    ]

pub returns : goal.returns
returns c =
    begun c.args.panel c.args.at.0 c.args.self.now c.loop-one.self c.args.done.now
    (subst (λ xs. HasTaken c.args.panel c.args.at.0 c.args.self.now xs c.loop-one.self) (take_all c.loop-one.one-index c.args.done.now c.loop-one-test.false)
    c.loop-one.invariant)
