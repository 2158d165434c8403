use Rattle.std.proofs.Common.{◌≡◌, ◌∙◌, ◌-◌, ◌==◌, List, length, ap, arith, slice_index_or, slice_set, if◌then◌else◌}
use Rattle.tick_units.specs.declared.tick.Tick.{Tick}
use Rattle.kept_words.specs.Stands.{word_stored}
use Rattle.kept_words.proofs.Frames.{frame_taken, kept_after_frame, tick_set}
use Rattle.kept_words.proofs.kept_words.KeptWords.receive.Goals as goal

pub returns : goal.returns
returns c panels panel arrivals stands =
    let frame = c.args.frame.now in
    let q1 = c.take.ensures.panel in
    let q2 = c.take-2.ensures.panel in
    let q3 = c.take-3.ensures.panel in
    record {
      size = c.take-4.ensures.panels ∙ c.take-3.ensures.panels ∙ c.take-2.ensures.panels ∙ c.take.ensures.panels ∙ stands.size;
      own = c.take-4.ensures.panel ∙ q3 ∙ q2 ∙ q1 ∙ stands.own;
      words = λ source first last.
          frame_taken panel source first frame (word_stored c.args.self.now source) (word_stored c.take.new.self source)
          (word_stored c.take-2.new.self source) (word_stored c.take-3.new.self source) (word_stored c.take-4.new.self source)
          (rw stands.own at (c.take.ensures.words source first last))
          (rw (q1, stands.own) at (c.take-2.ensures.words source first last))
          (rw (q2, q1, stands.own) at (c.take-3.ensures.words source first last))
          (rw (q3, q2, q1, stands.own) at (c.take-4.ensures.words source first last))
          ∙ ap (kept_after_frame panel source frame) (stands.words source first last);
      came = λ sender first last.
          let as_before : c.take-4.new.self.came ≡ c.args.self.now.came =
          c.take-4.ensures.came ∙ c.take-3.ensures.came ∙ c.take-2.ensures.came ∙ c.take.ensures.came in
          let long : length c.args.self.now.came ≡ 8 = omega arith in
          ap (λ (ts : List Tick). (slice_index_or (slice_set ts (frame.from - 1) c.args.now) (sender - 1) (record { 0 = 0 })).0) as_before
          ∙ tick_set c.args.self.now.came frame.from sender c.args.now (record { 0 = 0 }) long c.requires.sender.0 c.requires.sender.1 first
          ∙ ap (λ n. if frame.from == sender then c.args.now.0 else n) (stands.came sender first last);
    }
