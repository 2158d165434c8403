use Rattle.access_levels.proofs.Opened.{level_of_code}
use Rattle.access_levels.proofs.levels.level_of.Goals as goal

pub returns-clause-greatest : goal.returns-clause-greatest
returns-clause-greatest c =
    rw (c.in-Some.is, c.level_in.ensures, c.digest-digest.ensures, c.as_bytes.ensures.value) (level_of_code c.args.site.now c.in-Some.code.now)
