-- A record that is read piece by piece.
use Rattle.std.proofs.Common.{◌≡◌, ◌∙◌, ◌+◌, ◌<◌, ◌≤◌, ◌↔◌, ◌++◌, ℕ, List, [], length, Option, Some, None, refl, sym, ap, subst, arith}
use Rattle.std.proofs.Common.{append_assoc, length-append, IfSome}
use Rattle.panel_edges.specs.Contents.{Consumes}
use Rattle.panel_edges.specs.Limits.{most_record_bytes}
use Rattle.site_types.specs.declared.retained.Retained.{Retained}
use Rattle.site_types.specs.declared.site.Site.{Site}
use Rattle.record_lines.specs.Lines.{reading_of}
use Rattle.record_lines.specs.declared.reader.LineReader.{LineReader}
use Rattle.record_lines.specs.declared.refusal.Refusal.{Refusal}
use Rattle.record_lines.specs.declared.why.Why.TheVariants.{Truncated}
use Rattle.site_run.specs.declared.run.Run.{Run}
use Rattle.panel_program.specs.declared.run_end.RunEnd.{RunEnd}
use Rattle.panel_program.specs.declared.run_end.RunEnd.TheVariants.{Ended, Refused, TooManyBytes, ReadFault}
use Rattle.record_lines.specs.Stands.{StandsFor as ReadsFor}
use Rattle.site_run.specs.Records.{Progress, at_beginning}
use Rattle.panel_program.specs.Ahead.{AreTicksOf, ReadsAhead, piece_bytes}
use Rattle.site_run.specs.Stands.{HasRun, Stands}
use Rattle.panel_program.specs.Taking.{AreWithin, BreaksOff, EndsAt, EndsIn, GoesOnAt, IsAt, MayPiece}
use Rattle.panel_program.specs.Runs.{EndsRun, ReadsTo, ReadsUntil}
use Rattle.panel_program.proofs.Ends.{ends_whole, truncated_whole, limit_whole}
use Rattle.panel_program.proofs.Pieces.{SoFar, writes_more, writes_part}
use Rattle.site_run.proofs.Stood.{has_run}
use Rattle.site_run.specs.Outside.{DiskKind, Outside}
use Rattle.site_run.proofs.Cuts.{writes_same}

-- a source that told what was left tells what is left
told : (rest xs : List ℕ) (left new : Option (List ℕ)) → left ≡ Some rest → Consumes left new xs → (more : List ℕ) × (new ≡ Some more)
    × (rest ≡ xs ++ more)
told rest xs left new e h = go new (subst (λ o. Consumes o new xs) e h)
  where
    go : (o : Option (List ℕ)) → Consumes (Some rest) o xs → (more : List ℕ) × (o ≡ Some more) × (rest ≡ xs ++ more)
    go None h = absurd h
    go (Some more) h = (more, refl, h)

-- nothing was read ahead
none_ahead : (rest : List ℕ) (left : Option (List ℕ)) → left ≡ Some rest → ReadsAhead rest left
none_ahead rest left is = record { ahead = []; unread = rest; is = refl; few = omega arith; left_is = is }

-- a reader and a run at the beginning
pub begins_at : (site : Site) (kept : Retained) (reader : LineReader) (run : Run) → ReadsFor site [] reader → Stands site kept at_beginning run
    → IsAt site kept [] at_beginning reader run
begins_at site kept reader run reads stands =
    record { reads = reads; going = refl; made = refl; small = omega arith; stands = stands }

-- so many bytes were taken, whatever they were
pub record IsReading (read : ℕ) (reader : LineReader) (run : Run) : Type 0 where
  pub site : Site
  pub kept : Retained
  pub bytes : List ℕ
  pub p : Progress
  pub is_at : IsAt site kept bytes p reader run
  pub count : read ≡ length bytes

pub still_within : (read : ℕ) (piece : List ℕ) (reader : LineReader) (run : Run) (r : IsReading read reader run) → read + length piece ≤ most_record_bytes
    → AreWithin (r.bytes ++ piece)
still_within read piece reader run r few =
    let count = r.count in
    let sum = length-append r.bytes piece in
    omega (arith, few, count, sum)

-- a piece of a record may be taken
pub may_piece : (read : ℕ) (piece : List ℕ) (reader : LineReader) (run : Run) → IsReading read reader run → read + length piece ≤ most_record_bytes
    → MayPiece piece reader run
may_piece read piece reader run r few =
    record {
      at = record { site = r.site; kept = r.kept; bytes = r.bytes; p = r.p; is_at = r.is_at };
      within = still_within read piece reader run r few;
    }

-- and then it was
pub reads_on : (read read' : ℕ) (piece : List ℕ) (reader reader' : LineReader) (run run' : Run) {kind : DiskKind} (old new : Outside kind) (r : IsReading read reader run)
    → read' ≡ read + length piece → GoesOnAt r.site r.kept r.p (r.bytes ++ piece) old new reader' run' → IsReading read' reader' run'
reads_on read read' piece reader reader' run run' old new r more g =
    let count = r.count in
    let sum = length-append r.bytes piece in
    record { site = r.site; kept = r.kept; bytes = r.bytes ++ piece; p = g.p'; is_at = g.is_at; count = omega (arith, more, count, sum) }

-- no read failed in an end at the bytes
no_fault : {X : Type 0} (site : Site) (bytes : List ℕ) (end : RunEnd) → EndsAt site bytes end → end ≡ ReadFault → X
no_fault site bytes Ended h e = absurd cc
no_fault site bytes (Refused refusal) h e = absurd cc
no_fault site bytes TooManyBytes h e = absurd h
no_fault site bytes ReadFault h e = absurd h

module _ {kind : DiskKind} (site : Site) (kept : Retained) where
  -- nothing was read yet
  pub so_far_none : (left : Option (List ℕ)) (out : Outside kind) (reader : LineReader) (run : Run) → IsAt site kept [] at_beginning reader run
      → IfSome left (λ bytes. SoFar site kept bytes left out out reader run 0)
  so_far_none None out reader run h = tt
  so_far_none (Some bytes) out reader run h =
      record {
        consumed = [];
        rest = bytes;
        now = at_beginning;
        whole = refl;
        left_is = refl;
        count = refl;
        is_at = h;
        wrote = writes_same site kept out out [] refl refl refl;
      }

  module _ (bytes : List ℕ) (left : Option (List ℕ)) (old mid : Outside kind) (reader : LineReader) (run : Run) (read : ℕ) (s :
      SoFar site kept bytes left old mid reader run read) where
    ran : HasRun site kept s.now.run run
    ran = has_run site kept s.now.run s.now.block run s.is_at.stands

    of : AreTicksOf site s.consumed s.now.run
    of = ap (λ (p : Progress). p.run) s.is_at.made

    -- a read failed
    pub fault_ends : (left' : Option (List ℕ)) → left' ≡ left → ReadsTo site kept bytes left' old mid run ReadFault
    fault_ends left' same =
        record {
          consumed = s.consumed;
          rest = s.rest;
          ticks = s.now.run;
          whole = s.whole;
          ahead = none_ahead s.rest left' (same ∙ s.left_is);
          unread = λ e. (same ∙ s.left_is);
          ended = s.is_at.going;
          of = of;
          ran = ran;
          wrote = s.wrote;
        }

    -- the input ended
    pub input_ends : (refusal : Refusal) (n : ℕ) (piece : List ℕ) (left' : Option (List ℕ)) → Consumes left left' piece → length piece ≤ piece_bytes
        → read < most_record_bytes → IfSome left (λ xs. (n ≡ 0) ↔ (xs ≡ [])) → n ≡ 0
        → refusal ≡ record { line = (reading_of site s.consumed).number; why = Truncated }
        → ReadsTo site kept bytes left' old mid run (Refused refusal)
    input_ends refusal n piece left' consumes short few ends none is =
        let count = s.count in
        let more = told s.rest piece left left' s.left_is consumes in
        let empty : s.rest ≡ [] = (subst (λ o. IfSome o (λ xs. (n ≡ 0) ↔ (xs ≡ []))) s.left_is ends).0 none in
        record {
          consumed = s.consumed;
          rest = s.rest;
          ticks = s.now.run;
          whole = s.whole;
          ahead = record { ahead = piece; unread = more.0; is = more.2; few = short; left_is = more.1 };
          unread = λ e. absurd cc;
          ended =
              subst (λ r. EndsRun site bytes s.consumed (Refused r)) (sym is)
              (truncated_whole site bytes s.consumed s.rest (reading_of site s.consumed).number s.whole empty (omega (arith, few, count)) s.is_at.going
              refl);
          of = of;
          ran = ran;
          wrote = s.wrote;
        }

    -- as many bytes were read as a record may have
    pub limit_ends : read ≡ most_record_bytes → ReadsTo site kept bytes left old mid run TooManyBytes
    limit_ends full =
        record {
          consumed = s.consumed;
          rest = s.rest;
          ticks = s.now.run;
          whole = s.whole;
          ahead = none_ahead s.rest left s.left_is;
          unread = λ e. absurd cc;
          ended = limit_whole site bytes s.consumed s.rest s.whole (sym s.count ∙ full) s.is_at.going;
          of = of;
          ran = ran;
          wrote = s.wrote;
        }

    -- a piece that was read stays within what may be read
    pub piece_within : (piece : List ℕ) → read + length piece ≤ most_record_bytes → AreWithin (s.consumed ++ piece)
    piece_within piece few = let count = s.count in let sum = length-append s.consumed piece in omega (arith, few, count, sum)

    -- the run ended in a piece
    pub piece_ends : (piece : List ℕ) (left' : Option (List ℕ)) (new : Outside kind) (new_run : Run) (end : RunEnd) → Consumes left left' piece
        → length piece ≤ piece_bytes → read + length piece ≤ most_record_bytes → EndsIn site kept s.now s.consumed piece end mid new new_run
        → ReadsTo site kept bytes left' old new new_run end
    piece_ends piece left' new new_run end consumes short few g =
        let more = told s.rest piece left left' s.left_is consumes in
        let count = s.count in
        let front_length = length-append g.front g.rest in
        let piece_length = ap (λ (xs : List ℕ). length xs) g.is in
        let all_length = length-append s.consumed g.front in
        let whole : bytes ≡ (s.consumed ++ g.front) ++ (g.rest ++ more.0) =
        s.whole ∙ ap (λ xs. s.consumed ++ xs) (more.2 ∙ ap (λ xs. xs ++ more.0) g.is ∙ append_assoc g.front g.rest more.0) ∙ sym
        (append_assoc s.consumed g.front (g.rest ++ more.0))
        in
        record {
          consumed = s.consumed ++ g.front;
          rest = g.rest ++ more.0;
          ticks = g.has.ticks;
          whole = whole;
          ahead = record { ahead = g.rest; unread = more.0; is = refl; few = omega (arith, short, front_length, piece_length); left_is = more.1 };
          unread = no_fault site (s.consumed ++ g.front) end g.has.ended;
          ended =
              ends_whole site bytes (s.consumed ++ g.front) (g.rest ++ more.0) whole (omega (arith, few, count, front_length, piece_length, all_length))
              end g.has.ended;
          of = g.has.of;
          ran = g.has.ran;
          wrote = writes_more site kept old mid new [] s.now.run g.has.ticks s.wrote g.has.wrote;
        }

    -- a write failed in a piece
    pub piece_breaks : (piece : List ℕ) (left' : Option (List ℕ)) (new : Outside kind) (new_run : Run) → Consumes left left' piece
        → length piece ≤ piece_bytes → read + length piece ≤ most_record_bytes → BreaksOff site kept s.now s.consumed piece mid new new_run
        → ReadsUntil site kept bytes left' old new new_run
    unfolding writes_part
    piece_breaks piece left' new new_run consumes short few b =
        let more = told s.rest piece left left' s.left_is consumes in
        let count = s.count in
        let front_length = length-append b.front b.rest in
        let piece_length = ap (λ (xs : List ℕ). length xs) b.is in
        let all_length = length-append s.consumed b.front in
        record {
          consumed = s.consumed ++ b.front;
          rest = b.rest ++ more.0;
          ticks = b.ticks;
          whole =
              s.whole ∙ ap (λ xs. s.consumed ++ xs) (more.2 ∙ ap (λ xs. xs ++ more.0) b.is ∙ append_assoc b.front b.rest more.0) ∙ sym
              (append_assoc s.consumed b.front (b.rest ++ more.0));
          ahead = record { ahead = b.rest; unread = more.0; is = refl; few = omega (arith, short, front_length, piece_length); left_is = more.1 };
          few = omega (arith, few, count, front_length, piece_length, all_length);
          of = b.of;
          ran = b.ran;
          broke = writes_part site kept old mid new [] s.now.run b.ticks s.wrote b.broke;
          closed = b.closed;
        }

    -- a whole piece was taken
    pub piece_more : (piece : List ℕ) (left' : Option (List ℕ)) (new : Outside kind) (new_reader : LineReader) (new_run : Run) (read' : ℕ) → Consumes left left' piece
        → read' ≡ read + length piece → GoesOnAt site kept s.now (s.consumed ++ piece) mid new new_reader new_run
        → SoFar site kept bytes left' old new new_reader new_run read'
    piece_more piece left' new new_reader new_run read' consumes sum g =
        let more = told s.rest piece left left' s.left_is consumes in
        let count = s.count in
        let all_length = length-append s.consumed piece in
        record {
          consumed = s.consumed ++ piece;
          rest = more.0;
          now = g.p';
          whole = s.whole ∙ ap (λ xs. s.consumed ++ xs) more.2 ∙ sym (append_assoc s.consumed piece more.0);
          left_is = more.1;
          count = omega (arith, sum, count, all_length);
          is_at = g.is_at;
          wrote = writes_more site kept old mid new [] s.now.run g.p'.run s.wrote g.wrote;
        }
