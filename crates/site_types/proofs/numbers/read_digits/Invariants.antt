use Rattle.site_types.proofs.Digits.{IsRead}
use Rattle.site_types.proofs.numbers.read_digits.Given as goal

abbrev pub invariant-loop-byte : goal.invariant-loop-byte
invariant-loop-byte l = IsRead l.text l.number l.byte-index
