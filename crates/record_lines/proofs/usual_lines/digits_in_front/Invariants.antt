use Rattle.std.proofs.Common.{◌≡◌, ◌≤◌, ◌-◌, true, take}
use Rattle.site_types.specs.Numbers.{all_digits, value_after}
use Rattle.record_lines.proofs.UsualLines.{nines}
use Rattle.record_lines.proofs.usual_lines.digits_in_front.Given as goal

abbrev pub decreases-loop-place : goal.decreases-loop-place
decreases-loop-place l = l.room - l.place

-- the digits so far spell the value
abbrev pub invariant-loop-place : goal.invariant-loop-place
invariant-loop-place l = record {
  digits : all_digits (take l.place l.text) ≡ true;
  spells : value_after 0 (take l.place l.text) ≡ l.value;
  small : l.value ≤ nines l.place;
}
