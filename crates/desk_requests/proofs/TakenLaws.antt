-- What is taken of a connection where reading stops.
use Rattle.std.proofs.Common.{◌≡◌, ◌<◌, ◌≤◌, ◌+◌, ◌∙◌, ℕ, List, ◌++◌, Option, refl, inl, inr, ap, sym, subst, arith, length, drop, length-append, append-nil}
use Rattle.httparse.specs.Grammar.{HasNoRequest, MayBecomeRequest, print_request}
use Rattle.panel_edges.specs.Contents.{Consumes}
use Rattle.panel_edges.proofs.Shrinking.{consumes_more, consumes_same}
use Rattle.desk_requests.specs.Heads.{IsHeadBegun}
use Rattle.desk_requests.specs.Looks.{IsWhole}
use Rattle.desk_requests.specs.Rooms.{GainsBytes, read_into}
use Rattle.desk_requests.specs.Taking.{MeansTaken, HasWhole, LacksBody, ReadsOneRequest, TakesMore}
use Rattle.desk_requests.specs.declared.asking.Asking.{Asking}
use Rattle.desk_requests.specs.declared.request_room.RequestRoom.{RequestRoom}
use Rattle.desk_requests.specs.declared.status.Status.{Status}
use Rattle.desk_requests.specs.declared.status.Status.TheVariants.{BadRequest}
use Rattle.desk_requests.specs.declared.taken.Taken.{Taken}
use Rattle.desk_requests.specs.declared.taken.Taken.TheVariants.{Asked, Refused, Ended, ReadFault}
use Rattle.desk_requests.proofs.HeadLaws.{begins_more, none_in_full}
use Rattle.desk_requests.proofs.ReadPieces.{ReadsOn, all_read, all_read_as, all_read_behind, no_bytes, read_nothing, reads_more, reads_same}

-- ---- the body

-- what stands behind a head, in bytes
pub rest_length : (panels at : ℕ) (asks : Asking) (before piece : List ℕ) → IsWhole panels before at asks
    → length (before ++ piece) ≡ at + length (drop at before ++ piece)
rest_length panels at asks before piece whole =
    let long = ap length whole.begins.reads.1 ∙ length-append (print_request whole.head) (drop at before) in
    let all = length-append before piece in
    let rest = length-append (drop at before) piece in
    let ends = whole.ends in
    omega (arith, long, all, rest, ends)

lacks_behind : (panels at : ℕ) (asks : Asking) (before piece : List ℕ) → IsWhole panels before at asks → length (before ++ piece) < at + asks.length
    → LacksBody panels (before ++ piece)
lacks_behind panels at asks before piece whole short =
    let long = rest_length panels at asks before piece whole in
    record {
      asks = asks;
      head = whole.head;
      rest = drop at before ++ piece;
      begins = begins_more before whole.head (drop at before) piece whole.begins;
      judged = whole.judged;
      missing = omega (arith, long, short);
    }

lacks : (panels at : ℕ) (asks : Asking) (before piece bytes : List ℕ) → IsWhole panels before at asks → bytes ≡ before ++ piece
    → length bytes < at + asks.length → LacksBody panels bytes
lacks panels at asks before piece bytes whole behind short =
    subst (LacksBody panels) (sym behind)
    (lacks_behind panels at asks before piece whole (subst (λ xs. length xs < at + asks.length) behind short))

-- the input ended within the body
pub body_ended : (panels at : ℕ) (asks : Asking) (left mid rest : Option (List ℕ)) (before : List ℕ) (old new : RequestRoom) (count : ℕ)
    → IsWhole panels before at asks → ReadsOn left mid before (read_into old) → length (read_into old) < at + asks.length → GainsBytes old new mid rest count
    → count ≡ 0 → TakesMore panels left rest before (read_into new) Ended
body_ended panels at asks left mid rest before old new count whole reads short gains none =
    let on = reads_more left mid rest before old new count reads gains in
    let same = read_nothing old new mid rest count gains none in
    let piece : reads.piece ++ gains.piece ≡ reads.piece =
    ap (λ xs. reads.piece ++ xs) (no_bytes gains.piece (gains.counted ∙ none)) ∙ append-nil reads.piece in
    record {
      piece = on.piece;
      behind = on.behind;
      consumed = on.consumed;
      answered = inr (lacks panels at asks before on.piece (read_into new) whole on.behind (subst (λ xs. length xs < at + asks.length) (sym same) short));
      ended = λ is. all_read_as left reads.piece on.piece piece (all_read left mid reads.piece count none reads.consumed gains.ends);
    }

-- a read failed within the body
pub body_broken : (panels at : ℕ) (asks : Asking) (left mid rest : Option (List ℕ)) (before : List ℕ) (old new : RequestRoom)
    → IsWhole panels before at asks → ReadsOn left mid before (read_into old) → length (read_into old) < at + asks.length → read_into new ≡ read_into old
    → rest ≡ mid → TakesMore panels left rest before (read_into new) ReadFault
body_broken panels at asks left mid rest before old new whole reads short same kept =
    let on = reads_same left mid rest before old new reads same kept in
    record {
      piece = on.piece;
      behind = on.behind;
      consumed = on.consumed;
      answered = inr (lacks panels at asks before on.piece (read_into new) whole on.behind (subst (λ xs. length xs < at + asks.length) (sym same) short));
      ended = λ is. cc;
    }

holds_behind : (panels at : ℕ) (asks : Asking) (before piece : List ℕ) → IsWhole panels before at asks → at + asks.length ≤ length (before ++ piece)
    → HasWhole panels (before ++ piece) (record { route = asks.route; head = at; body = asks.length })
holds_behind panels at asks before piece whole long =
    let rest = rest_length panels at asks before piece whole in
    record {
      head = whole.head;
      rest = drop at before ++ piece;
      begins = begins_more before whole.head (drop at before) piece whole.begins;
      judged = whole.judged;
      behind = whole.ends;
      whole = omega (arith, rest, long);
    }

-- the body is there
pub body_whole : (panels at : ℕ) (asks : Asking) (left rest : Option (List ℕ)) (before : List ℕ) (room : RequestRoom) → IsWhole panels before at asks
    → ReadsOn left rest before (read_into room) → at + asks.length ≤ length (read_into room)
    → TakesMore panels left rest before (read_into room) (Asked (record { route = asks.route; head = at; body = asks.length }))
body_whole panels at asks left rest before room whole reads long = record {
  piece = reads.piece;
  behind = reads.behind;
  consumed = reads.consumed;
  answered =
      subst (λ xs. HasWhole panels xs (record { route = asks.route; head = at; body = asks.length })) (sym reads.behind)
      (holds_behind panels at asks before reads.piece whole (subst (λ xs. at + asks.length ≤ length xs) reads.behind long));
  ended = λ is. cc;
}

-- ---- the head

-- what was taken behind bytes that were read before
pub takes_behind : (panels : ℕ) (left mid rest : Option (List ℕ)) (before bytes : List ℕ) (taken : Taken) → Consumes left mid before
    → TakesMore panels mid rest before bytes taken → ReadsOneRequest panels left rest bytes taken
takes_behind panels left mid rest before bytes taken consumed more = record {
  consumed = subst (Consumes left rest) (sym more.behind) (consumes_more left mid rest before more.piece consumed more.consumed);
  answered = more.answered;
  ended = λ is. all_read_behind left mid before more.piece bytes more.behind consumed (more.ended is);
}

-- the bytes are refused
pub head_refused : (panels : ℕ) (left rest : Option (List ℕ)) (bytes : List ℕ) (status : Status) → Consumes left rest bytes → MeansTaken panels bytes (Refused status)
    → ReadsOneRequest panels left rest bytes (Refused status)
head_refused panels left rest bytes status consumed answered = record { consumed = consumed; answered = answered; ended = λ is. cc }

-- as many bytes came as a head may have, and none is there
pub head_too_long : (panels : ℕ) (left rest : Option (List ℕ)) (bytes : List ℕ) → Consumes left rest bytes → HasNoRequest bytes → 8192 ≤ length bytes
    → ReadsOneRequest panels left rest bytes (Refused BadRequest)
head_too_long panels left rest bytes consumed none full =
    head_refused panels left rest bytes BadRequest consumed (inl (refl, none_in_full bytes none full))

-- the input ended within the head
pub head_ended : (panels : ℕ) (left mid rest : Option (List ℕ)) (old new : RequestRoom) (count : ℕ) → Consumes left mid (read_into old)
    → HasNoRequest (read_into old) → MayBecomeRequest (read_into old) → length (read_into old) < 8192 → GainsBytes old new mid rest count → count ≡ 0
    → ReadsOneRequest panels left rest (read_into new) Ended
head_ended panels left mid rest old new count consumed without may room gains none =
    let same = read_nothing old new mid rest count gains none in
    record {
      consumed = subst (Consumes left rest) (sym gains.behind) (consumes_more left mid rest (read_into old) gains.piece consumed gains.taken);
      answered = inl (subst IsHeadBegun (sym same) (record { not_whole = without; may_become = may; has_room = room }));
      ended = λ is. all_read_as left (read_into old) (read_into new) same (all_read left mid (read_into old) count none consumed gains.ends);
    }

-- a read failed within the head
pub head_broken : (panels : ℕ) (left mid rest : Option (List ℕ)) (old new : RequestRoom) → Consumes left mid (read_into old)
    → HasNoRequest (read_into old) → MayBecomeRequest (read_into old) → length (read_into old) < 8192 → read_into new ≡ read_into old → rest ≡ mid
    → ReadsOneRequest panels left rest (read_into new) ReadFault
head_broken panels left mid rest old new consumed without may room same kept = record {
  consumed = subst (Consumes left rest) (sym same) (consumes_same left mid rest (read_into old) kept consumed);
  answered = inl (subst IsHeadBegun (sym same) (record { not_whole = without; may_become = may; has_room = room }));
  ended = λ is. cc;
}
