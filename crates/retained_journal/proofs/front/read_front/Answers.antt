use Rattle.std.proofs.Common.{◌≡◌, ◌++◌, ℕ, take, drop, replicate, subst}
use Rattle.retained_journal.proofs.Reading.{padded}
use Rattle.retained_journal.proofs.SeenFiles.{both_told}
use Rattle.retained_journal.specs.Places.{front_bytes}
use Rattle.retained_journal.proofs.front.read_front.Goals as goal

pub returns-clause-ok : goal.returns-clause-ok
returns-clause-ok g c =
    both_told (g.D.Disk.seen c.args.disk.now) c.requires c.in_ok-read_beginning.ensures.ok
    (λ file len read. padded c.args.len file c.read_beginning.new.into len
    (subst (λ (n : ℕ). c.read_beginning.new.into ≡ take n file ++ drop n (replicate front_bytes 0)) c.min.ensures read))
