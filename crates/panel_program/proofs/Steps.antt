-- What a reader's answer makes of a run.
use Rattle.std.proofs.Common.{◌≡◌, ◌∙◌, ◌-◌, ◌*◌, ◌^◌, ◌<◌, ◌≤◌, ◌++◌, ℕ, false, List, [], ◌∷◌, length, take, drop, take-append-drop, Option, Some, None}
use Rattle.std.proofs.Common.{Bool, Result, Ok, Err, refl, sym, ap, subst, arith, lit<, length-append}
use Rattle.panel_edges.specs.Limits.{most_record_bytes}
use Rattle.site_types.specs.declared.retained.Retained.{Retained}
use Rattle.site_types.specs.declared.site.Site.{Site}
use Rattle.panel_edges.specs.declared.failed.Failed.{Failed}
use Rattle.panel_rules.specs.Moments.{TickBlock}
use Rattle.record_lines.specs.Belongs.{StepBelongs}
use Rattle.record_lines.specs.Judged.{line_view}
use Rattle.record_lines.specs.Lines.{ends_with, reading_of}
use Rattle.record_lines.specs.Stands.{StandsFor as ReadsFor, Answers, Feeds, Tells, Uses}
use Rattle.record_lines.specs.declared.fed.Fed.{Fed}
use Rattle.record_lines.specs.declared.line.Line.{Line}
use Rattle.record_lines.specs.declared.line.Line.TheVariants.{Tick, Event as EventLine, Order, End}
use Rattle.record_lines.specs.declared.reader.LineReader.{LineReader}
use Rattle.record_lines.specs.declared.step.Step.{Step}
use Rattle.record_lines.specs.declared.step.Step.TheVariants.{Need, Line as LineStep, Refused as RefusedStep}
use Rattle.site_run.specs.declared.run.Run.{Run}
use Rattle.panel_program.specs.declared.run_end.RunEnd.{RunEnd}
use Rattle.panel_program.specs.declared.run_end.RunEnd.TheVariants.{Ended, Refused, TooManyBytes, ReadFault}
use Rattle.site_run.specs.Records.{Progress, after_line, closed, moments_in, progress_of, recorded}
use Rattle.run_text.specs.Failures.{as_recorded}
use Rattle.record_readings.specs.OneLine.{EndsOneLine}
use Rattle.panel_program.specs.Ahead.{AreTicksOf}
use Rattle.site_run.specs.Stands.{AreFew, HasRun, IsNext, Stands, Writes}
use Rattle.panel_program.specs.Taking.{AreWithin, BreaksOff, GoesOn, IsAt, IsGoing, IsSmall, MayStep, Takes}
use Rattle.panel_program.specs.Taking.{TakesStep}
use Rattle.site_run.proofs.Numbers.{counted, few_lines, next_of}
use Rattle.site_run.proofs.Progresses.{line_moments, progress_length, progress_more, recorded_length, recorded_line}
use Rattle.site_run.specs.Outside.{DiskKind, Outside}
use Rattle.site_run.proofs.Cuts.{writes_same}
use Rattle.record_readings.proofs.LineEnds.{one_line}
use Rattle.site_run.proofs.Stood.{has_run}

-- ---- what may come

next_view : (line : Line) (n : ℕ) → IsNext (line_view line) n → IsNext line n
next_view (Tick tick) n h = h
next_view (EventLine event) n h = h
next_view (Order seats) n h = h
next_view End n h = h

-- before the end an answer tells what its bytes brought
pub told_now : (site : Site) (before piece : List ℕ) (fed : Fed) (reader : LineReader) → Feeds site before piece fed reader
    → (reading_of site before).ending ≡ None →
    Tells (reading_of site before) (reading_of site (before ++ take fed.used piece)) fed.step × Uses site before piece fed.used fed.step
told_now site before piece fed reader feeds going = subst (Answers site before piece fed) going feeds.answers

take_few : (used : ℕ) (piece : List ℕ) → length (take used piece) ≤ length piece
take_few used piece = let e = ap (λ (xs : List ℕ). length xs) (take-append-drop used piece) in
    let sum = length-append (take used piece) (drop used piece) in
    omega (arith, e, sum)

module _ (site : Site) (kept : Retained) (before piece : List ℕ) (p : Progress) (run : Run) (used : ℕ) (stands : Stands site kept p run) (made :
    recorded p ≡ progress_of site (reading_of site before).lines) (small : IsSmall site before p) (within : AreWithin (before ++ piece)) where
  -- a line more brings few
  small_more : (failed : Bool) (line : Line) → (reading_of site (before ++ take used piece)).lines ≡ (reading_of site before).lines ++ line_view line ∷ []
      → IsSmall site (before ++ take used piece) (after_line site failed p (line_view line))
  small_more failed line e =
      let more = line_moments site failed p (line_view line) stands.valid.forms.panels.1 stands.ordered in
      let count = ap (λ (ls : List Line). length ls) e ∙ length-append (reading_of site before).lines (line_view line ∷ []) in
      omega (arith, more, small, count)

  few_now : (q : Progress) → IsSmall site (before ++ take used piece) q → AreFew (moments_in q)
  few_now q h =
      let lines = few_lines site (before ++ take used piece) in
      let front = length-append before (take used piece) in
      let whole = length-append before piece in
      let part = take_few used piece in
      let top : 66 * most_record_bytes < 2 ^ 64 - 1 = lit< tt in
      omega (arith, h, lines, front, whole, part, within, top)

  may_step_by : (step : Step) → Tells (reading_of site before) (reading_of site (before ++ take used piece)) step → StepBelongs site step → MayStep site p step
  may_step_by Need tells belongs = tt
  may_step_by (LineStep line) tells belongs =
      let lines = (reading_of site before).lines in
      let after = before ++ take used piece in
      let count : length (closed false p) ≡ length (closed false (progress_of site lines)) =
      sym (recorded_length p) ∙ ap (λ q. length (closed false q)) made in
      record {
        belongs = belongs;
        next =
            subst (IsNext line) (sym (count ∙ progress_length site lines))
            (next_view line _ (next_of lines (reading_of site after).lines (line_view line) tells.0 (counted site after).numbered));
        short = few_now (after_line site false p (line_view line)) (small_more false line tells.0);
      }
  may_step_by (RefusedStep refusal) tells belongs = tt

pub may_step : (site : Site) (kept : Retained) (before piece : List ℕ) (p : Progress) (fed : Fed) (reader new_reader : LineReader) (run : Run)
    → IsAt site kept before p reader run → AreWithin (before ++ piece) → Feeds site before piece fed new_reader → StepBelongs site fed.step
    → MayStep site p fed.step
may_step site kept before piece p fed reader new_reader run is_at within feeds belongs =
    may_step_by site kept before piece p run fed.used is_at.stands is_at.made is_at.small within fed.step
    (told_now site before piece fed new_reader feeds is_at.going).0 belongs

used_by : (site : Site) (before piece : List ℕ) (used : ℕ) (step : Step) → 0 < length piece → Uses site before piece used step
    → (0 < used) × (used ≤ length piece)
used_by site before piece used Need some uses = (omega (arith, uses, some), omega (arith, uses))
used_by site before piece used (LineStep line) some uses = let last = uses.1.last in let within = uses.1.within in
    (omega (arith, last), omega (arith, last, within))
used_by site before piece used (RefusedStep refusal) some uses = let last = uses.1.last in let within = uses.1.within in
    (omega (arith, last), omega (arith, last, within))

-- something of a piece was used
pub used_some : (site : Site) (before piece : List ℕ) (fed : Fed) (new_reader : LineReader) → IsGoing site before
    → Feeds site before piece fed new_reader → 0 < length piece → (0 < fed.used) × (fed.used ≤ length piece)
used_some site before piece fed new_reader going feeds some =
    used_by site before piece fed.used fed.step some (told_now site before piece fed new_reader feeds going).1

-- ---- what was taken

abbrev pub NextBy : {kind : DiskKind} → Site → Retained → Progress → List ℕ → List ℕ → ℕ → Outside kind → Outside kind → LineReader → Run
    → Result (Option RunEnd) Failed → Type 0
NextBy site kept p before piece used old new reader run (Ok end) = GoesOn site kept p (before ++ take used piece) old new reader run end
NextBy site kept p before piece used old new reader run (Err failed) = BreaksOff site kept p before piece old new run

-- nothing was written of ticks
same_text : {kind : DiskKind} (site : Site) (kept : Retained) (ticks : List TickBlock) (old new : Outside kind) → new ≡ old → Writes site kept old new ticks ticks
same_text {kind} site kept ticks old new same =
    writes_same site kept old new ticks (ap (λ (o : Outside kind). o.written) same) (ap (λ (o : Outside kind). o.stored.disk) same)
    (ap (λ (o : Outside kind). o.stored.journal) same)

module _ {kind : DiskKind} (site : Site) (kept : Retained) (before piece : List ℕ) (p : Progress) (used : ℕ) (old new : Outside kind) (reader new_reader :
    LineReader) (run new_run : Run) (h : IsAt site kept before p reader run) (within : AreWithin (before ++ piece)) (reads :
    ReadsFor site (before ++ take used piece) new_reader) where
  abbrev after : List ℕ
  after = before ++ take used piece

  abbrev lines : List Line
  lines = (reading_of site before).lines

  abbrev more : List Line
  more = (reading_of site after).lines

  made_after : (failed : Bool) (line : Line) → more ≡ lines ++ line_view line ∷ []
      → recorded (after_line site failed p (line_view line)) ≡ progress_of site more
  made_after failed line e =
      recorded_line site failed p (line_view line)
      ∙ ap (λ q. after_line site false q (line_view line)) h.made
      ∙ sym (ap (progress_of site) e ∙ progress_more site lines (line_view line))

  ticks_after : (failed : Bool) (line : Line) → more ≡ lines ++ line_view line ∷ []
      → AreTicksOf site after (after_line site failed p (line_view line)).run
  ticks_after failed line e = ap (λ (q : Progress). q.run) (made_after failed line e)

  made_still : more ≡ lines → recorded p ≡ progress_of site more
  made_still e = h.made ∙ ap (progress_of site) (sym e)

  small_still : more ≡ lines → IsSmall site after p
  small_still e = let small = h.small in let count = ap (λ (ls : List Line). length ls) e in omega (arith, small, count)

  next_line_by : (line : Line) (result : Result (Option RunEnd) Failed) → EndsOneLine (take used piece) → more ≡ lines ++ line_view line ∷ []
      → (reading_of site after).ending ≡ ends_with line → Takes site kept p line old new new_run result
      → NextBy site kept p before piece used old new new_reader new_run result
  next_line_by line (Ok None) one e ending t =
      let acts = t.1 in
      record {
        p' = after_line site acts.failed p (line_view line);
        is_at = record {
          reads = reads;
          going = ending ∙ t.0;
          made = made_after acts.failed line e;
          small = small_more site kept before piece p run used h.stands h.made h.small within acts.failed line e;
          stands = acts.stands;
        };
        wrote = acts.wrote;
      }
  next_line_by line (Ok (Some Ended)) one e ending t =
      let ends = t.1 in
      record {
        ticks = closed ends.failed p;
        ended = ending ∙ ap ends_with t.0;
        of = ap (λ l. as_recorded (after_line site ends.failed p (line_view l)).run) (sym t.0) ∙ ticks_after ends.failed line e;
        ran = ends.ran;
        wrote = ends.wrote;
      }
  next_line_by line (Ok (Some (Refused refusal))) one e ending t = absurd t
  next_line_by line (Ok (Some TooManyBytes)) one e ending t = absurd t
  next_line_by line (Ok (Some ReadFault)) one e ending t = absurd t
  next_line_by line (Err failed) one e ending t =
      record {
        front = take used piece;
        rest = drop used piece;
        ticks = (after_line site t.failed p (line_view line)).run;
        is = sym (take-append-drop used piece);
        of = ticks_after t.failed line e;
        ran = t.ran;
        broke = t.broke;
        closed = record {
          front = before;
          last = take used piece;
          is = refl;
          line = one;
          ran = ap as_recorded t.first ∙ ap (λ (q : Progress). q.run) h.made;
        };
      }

  next_by : (step : Step) (result : Result (Option RunEnd) Failed) → Tells (reading_of site before) (reading_of site after) step
      → Uses site before piece used step → TakesStep site kept p step old new run new_run result → NextBy site kept p before piece used old new new_reader new_run result
  next_by Need result tells uses t =
      subst (NextBy site kept p before piece used old new new_reader new_run) (sym t.0) (record {
        p' = p;
        is_at = record {
          reads = reads;
          going = tells.1;
          made = made_still tells.0;
          small = small_still tells.0;
          stands = subst (Stands site kept p) (sym t.2) h.stands;
        };
        wrote = same_text site kept p.run old new t.1;
      })
  next_by (LineStep line) result tells uses t =
      next_line_by line result (one_line site before piece used uses.0 (line_view line) h.going uses.1 tells.0) tells.0 tells.1 t
  next_by (RefusedStep refusal) result tells uses t =
      subst (NextBy site kept p before piece used old new new_reader new_run) (sym t.0) (record {
        ticks = p.run;
        ended = tells.1;
        of = ap (λ (q : Progress). q.run) (made_still tells.0);
        ran = subst (HasRun site kept p.run) (sym t.2) (has_run site kept p.run p.block run h.stands);
        wrote = same_text site kept p.run old new t.1;
      })

-- the answer to a piece was taken, by what the reader of the run's site and the run answered
pub fed_next : {kind : DiskKind} (site there : Site) (kept : Retained) (before piece : List ℕ) (p : Progress) (fed : Fed) (old new : Outside kind) (reader new_reader :
    LineReader) (run new_run : Run) (result : Result (Option RunEnd) Failed) → IsAt site kept before p reader run → AreWithin (before ++ piece)
    → there ≡ site → ((bytes : List ℕ) → ReadsFor there bytes reader → Feeds there bytes piece fed new_reader) → StepBelongs there fed.step
    → (MayStep site p fed.step → TakesStep site kept p fed.step old new run new_run result)
    → NextBy site kept p before piece fed.used old new new_reader new_run result
fed_next site there kept before piece p fed old new reader new_reader run new_run result h within same feeds belongs takes =
    let fed_so =
    subst (λ s. Feeds s before piece fed new_reader) same (feeds before (subst (λ s. ReadsFor s before reader) (sym same) h.reads)) in
    let may = may_step site kept before piece p fed reader new_reader run h within fed_so (subst (λ s. StepBelongs s fed.step) same belongs) in
    let now = told_now site before piece fed new_reader fed_so h.going in
    next_by site kept before piece p fed.used old new reader new_reader run new_run h within fed_so.stands fed.step result
    now.0 now.1 (takes may)
