-- What a run has read and written so far.
use Rattle.std.proofs.Common.{◌≡◌, ◌∙◌, ◌++◌, ℕ, List, [], length, take, drop, take-append-drop, Option, Some, refl, sym, ap, subst}
use Rattle.std.proofs.Common.{append_assoc, append-nil}
use Rattle.site_types.specs.declared.retained.Retained.{Retained}
use Rattle.site_types.specs.declared.site.Site.{Site}
use Rattle.record_lines.specs.declared.reader.LineReader.{LineReader}
use Rattle.panel_rules.specs.Moments.{TickBlock}
use Rattle.site_run.specs.declared.run.Run.{Run}
use Rattle.panel_program.specs.declared.run_end.RunEnd.{RunEnd}
use Rattle.panel_edges.proofs.Growing.{split_more}
use Rattle.site_run.specs.Records.{Progress}
use Rattle.panel_program.specs.Ahead.{AreTicksOf, EndWithClosing}
use Rattle.site_run.specs.Stands.{Writes, WritesPart}
use Rattle.panel_program.specs.Taking.{AreWithin, BreaksOff, EndsIn, GoesOnAt, HasEnded, IsAt, MayPiece}
use Rattle.run_text.specs.SoFar.{text_so_far}
use Rattle.site_run.specs.Outside.{DiskKind, Outside}
use Rattle.site_run.proofs.Cuts.{stores_more, writes_same}
use Rattle.site_run.proofs.Written.{advances_more}

module _ {kind : DiskKind} (site : Site) (kept : Retained) where
  pub writes_more : (a b c : Outside kind) (x y z : List TickBlock) → Writes site kept a b x y → Writes site kept b c y z → Writes site kept a c x z
  writes_more a b c x y z g h = record {
    text = advances_more a.written b.written c.written (text_so_far site kept x) (text_so_far site kept y) (text_so_far site kept z) g.text h.text;
    stores = stores_more site kept a.stored b.stored c.stored x y z g.stores h.stores;
  }

  unfoldable pub writes_part : (a b c : Outside kind) (x y z : List TickBlock) → Writes site kept a b x y → WritesPart site kept b c y z
      → WritesPart site kept a c x z
  writes_part a b c x y z g h = record {
    last = h.last;
    whole = h.whole;
    is = h.is;
    mid = h.mid;
    grew = advances_more a.written b.written h.mid (text_so_far site kept x) (text_so_far site kept y) (text_so_far site kept h.whole) g.text h.grew;
    broke = h.broke;
    stores = stores_more site kept a.stored b.stored c.stored x y z g.stores h.stores;
  }

  -- a front of a piece was taken
  pub record Taking (p : Progress) (before piece rest : List ℕ) (old new : Outside kind) (reader : LineReader) (run : Run) : Type 0 where
    pub front : List ℕ
    pub now : Progress
    pub is : piece ≡ front ++ rest
    pub is_at : IsAt site kept (before ++ front) now reader run
    pub wrote : Writes site kept old new p.run now.run

  -- a front of all bytes was read and taken
  pub record SoFar (bytes : List ℕ) (left : Option (List ℕ)) (old new : Outside kind) (reader : LineReader) (run : Run) (read : ℕ) : Type 0 where
    pub consumed : List ℕ
    pub rest : List ℕ
    pub now : Progress
    pub whole : bytes ≡ consumed ++ rest
    pub left_is : left ≡ Some rest
    pub count : read ≡ length consumed
    pub is_at : IsAt site kept consumed now reader run
    pub wrote : Writes site kept old new [] now.run

  -- ---- a piece

  pub taking_none : (p : Progress) (before piece : List ℕ) (out : Outside kind) (reader : LineReader) (run : Run) → IsAt site kept before p reader run
      → Taking p before piece piece out out reader run
  taking_none p before piece out reader run h =
      record {
        front = [];
        now = p;
        is = refl;
        is_at = subst (λ xs. IsAt site kept xs p reader run) (sym (append-nil before)) h;
        wrote = writes_same site kept out out p.run refl refl refl;
      }

  module _ (p : Progress) (before piece rest : List ℕ) (old mid new : Outside kind) (reader : LineReader) (run : Run) (t :
      Taking p before piece rest old mid reader run) where
    -- what is left of the piece is within what may be read
    pub rest_within : AreWithin (before ++ piece) → AreWithin ((before ++ t.front) ++ rest)
    rest_within within = subst AreWithin (ap (λ xs. before ++ xs) t.is ∙ sym (append_assoc before t.front rest)) within

    -- the next line of it was taken
    pub taking_more : (used : ℕ) (back : List ℕ) (new_reader : LineReader) (new_run : Run) → back ≡ drop used rest
        → GoesOnAt site kept t.now ((before ++ t.front) ++ take used rest) mid new new_reader new_run
        → Taking p before piece back old new new_reader new_run
    taking_more used back new_reader new_run behind g =
        let whole = append_assoc before t.front (take used rest) in
        record {
          front = t.front ++ take used rest;
          now = g.p';
          is = split_more piece t.front rest back used t.is behind;
          is_at = subst (λ xs. IsAt site kept xs g.p' new_reader new_run) whole g.is_at;
          wrote = writes_more old mid new p.run t.now.run g.p'.run t.wrote g.wrote;
        }

    -- the run ended in it
    pub taking_ends : (used : ℕ) (end : RunEnd) (new_run : Run) → HasEnded site kept t.now ((before ++ t.front) ++ take used rest) end mid new new_run
        → EndsIn site kept p before piece end old new new_run
    taking_ends used end new_run g =
        let whole = append_assoc before t.front (take used rest) in
        record {
          front = t.front ++ take used rest;
          rest = drop used rest;
          is = split_more piece t.front rest (drop used rest) used t.is refl;
          has = subst (λ xs. HasEnded site kept p xs end old new new_run) whole (record {
            ticks = g.ticks;
            ended = g.ended;
            of = g.of;
            ran = g.ran;
            wrote = writes_more old mid new p.run t.now.run g.ticks t.wrote g.wrote;
          });
        }

    -- a write failed in it
    pub taking_breaks : (new_run : Run) → BreaksOff site kept t.now (before ++ t.front) rest mid new new_run → BreaksOff site kept p before piece old new new_run
    unfolding writes_part
    taking_breaks new_run b =
        let whole = append_assoc before t.front b.front in
        record {
          front = t.front ++ b.front;
          rest = b.rest;
          ticks = b.ticks;
          is = t.is ∙ ap (λ xs. t.front ++ xs) b.is ∙ sym (append_assoc t.front b.front b.rest);
          of = subst (λ xs. AreTicksOf site xs b.ticks) whole b.of;
          ran = b.ran;
          broke = writes_part old mid new p.run t.now.run b.ticks t.wrote b.broke;
          closed = subst (λ xs. EndWithClosing site xs b.broke.whole) whole b.closed;
        }

  -- the whole piece was taken
  pub taking_whole : (p : Progress) (before piece rest : List ℕ) (old new : Outside kind) (reader : LineReader) (run : Run)
      → Taking p before piece rest old new reader run → rest ≡ [] → GoesOnAt site kept p (before ++ piece) old new reader run
  taking_whole p before piece rest old new reader run t none =
      let same : t.front ≡ piece = sym (t.is ∙ ap (λ xs. t.front ++ xs) none ∙ append-nil t.front) in
      record {
        p' = t.now;
        is_at = subst (λ xs. IsAt site kept (before ++ xs) t.now reader run) same t.is_at;
        wrote = t.wrote;
      }

-- what is left of a piece may be taken behind its front
pub may_rest : {kind : DiskKind} (rest back : List ℕ) (used : ℕ) (old new : Outside kind) (reader reader' : LineReader) (run run' : Run) (r : MayPiece rest reader run)
    → back ≡ drop used rest → GoesOnAt r.at.site r.at.kept r.at.p (r.at.bytes ++ take used rest) old new reader' run' → MayPiece back reader' run'
may_rest rest back used old new reader reader' run run' r is g =
    let whole : (r.at.bytes ++ take used rest) ++ back ≡ r.at.bytes ++ rest =
    append_assoc r.at.bytes (take used rest) back
    ∙ ap (λ xs. r.at.bytes ++ xs) (ap (λ xs. take used rest ++ xs) is ∙ take-append-drop used rest)
    in
    record {
      at = record { site = r.at.site; kept = r.at.kept; bytes = r.at.bytes ++ take used rest; p = g.p'; is_at = g.is_at };
      within = subst AreWithin (sym whole) r.within;
    }
