use Rattle.std.proofs.Common.{◌≡◌, ◌≢◌, ◌≤◌, ◌-◌, min}
use Rattle.face_text.specs.Changes.{numbers_text}
use Rattle.face_text.specs.Holding.{Moves}
use Rattle.face_text.specs.NextNames.{AreNamedBehind}
use Rattle.face_text.specs.Slots.{last_of, shows}
use Rattle.face_text.proofs.face_pair.FacePair.push_numbers.Given as goal

-- the lines of the numbers before the next one that changed were put, and the names of those that come stand behind
-- what is passed
abbrev pub invariant-loop-next : goal.invariant-loop-next
invariant-loop-next g l =
    record {
      within : (1 ≤ l.next) × (l.next ≤ 193);
      text :
          Moves l.initial.held l.held (g.K.Stream.written l.initial.out) (g.K.Stream.written l.out)
          (numbers_text l.self.site.now l.self.before.now l.self.after.now l.group (min (l.next - 1) (last_of l.group)));
      changed : l.next ≤ last_of l.group → shows l.self.before.now l.group l.next ≢ shows l.self.after.now l.group l.next;
      passed : AreNamedBehind l.passed l.self.site.now l.self.after.now.panel l.group l.next;
      counted : g.K.Stream.write_faults l.initial.out ≤ g.K.Stream.write_faults l.out;
      left : g.K.Stream.left l.out ≡ g.K.Stream.left l.initial.out;
      reads : g.K.Stream.read_faults l.out ≡ g.K.Stream.read_faults l.initial.out;
    }

abbrev pub decreases-loop-next : goal.decreases-loop-next
decreases-loop-next g l = 193 - l.next
