-- When bytes begin with a head, and when they never will.
use Rattle.std.proofs.Common.{◌≡◌, ◌<◌, ◌≤◌, ◌∙◌, ℕ, List, ◌++◌, Result, length, take, drop, map, ap, sym, arith, length-append}
use Rattle.std.proofs.Math.Seq.{take-append_seam}
use Rattle.std.proofs.lemmas.List.{length-map, take-append-drop, take-append-le}
use Rattle.httparse.specs.Borrowed.{AreFields, header_parts}
use Rattle.httparse.specs.Grammar.{Field, HasNoRequest, ReadsRequest, RequestHead, print_request}
use Rattle.httparse.specs.Spans.{RequestOverflows, name_and_value}
use Rattle.httparse.specs.declared.borrowed.Header.{Header}
use Rattle.httparse.proofs.GrammarLemmas.{ReadsRequest-append, request_unique}
use Rattle.desk_requests.specs.Asked.{head_asks, asked_by}
use Rattle.desk_requests.specs.Heads.{BeginsWith, IsNoHead}
use Rattle.desk_requests.specs.declared.asking.Asking.{Asking}
use Rattle.desk_requests.specs.declared.status.Status.{Status}

-- bytes that come behind a head come behind its rest
pub begins_more : (bytes : List ℕ) (head : RequestHead) (rest more : List ℕ) → BeginsWith bytes head rest → BeginsWith (bytes ++ more) head (rest ++ more)
begins_more bytes head rest more begins = record {
  reads = ReadsRequest-append bytes head rest more begins.reads;
  few = begins.few;
  short = begins.short;
}

-- as many bytes as a head may have hold none
pub none_in_full : (bytes : List ℕ) → HasNoRequest bytes → 8192 ≤ length bytes → IsNoHead bytes
none_in_full bytes none full more head rest begins =
    let print = print_request head in
    let n = length print in
    let within : n ≤ length bytes = omega (arith, full, begins.short) in
    let front : take n bytes ≡ print =
    sym (take-append-le n bytes more within) ∙ ap (take n) begins.reads.1 ∙ take-append_seam print rest in
    none head (drop n bytes) (begins.reads.0, sym (take-append-drop n bytes) ∙ ap (λ xs. xs ++ drop n bytes) front)

-- the library says that each head has too many fields
pub none_in_room : (bytes : List ℕ) → RequestOverflows 32 bytes → IsNoHead bytes
none_in_room bytes over more head rest begins =
    let many = over more head rest begins.reads in
    let few = begins.few in
    omega (arith, many, few)

-- the bytes begin with a head that has too many fields
pub none_with_many : (bytes : List ℕ) (head : RequestHead) (rest : List ℕ) → ReadsRequest bytes head rest → 32 < length head.fields → IsNoHead bytes
none_with_many bytes head rest reads many more other behind begins =
    let same = request_unique (bytes ++ more) head other (rest ++ more) behind (ReadsRequest-append bytes head rest more reads) begins.reads in
    let count : length head.fields ≡ length other.fields = ap (λ (h : RequestHead). length h.fields) same.0 in
    let few = begins.few in
    omega (arith, many, few, count)

-- what a head asks for, by the parts of it that were read
pub asked_as : (panels : ℕ) (head : RequestHead) (headers : List Header) (method target : List ℕ) (asks : Result Asking Status) → AreFields headers head.fields
    → method ≡ head.method → target ≡ head.target → asks ≡ head_asks panels method target (map header_parts headers) → asked_by panels head ≡ asks
asked_as panels head headers method target asks fields by at is =
    sym (is ∙ ap (λ xs. head_asks panels method target xs) fields ∙ ap (λ m. head_asks panels m target (map name_and_value head.fields)) by
    ∙ ap (λ t. head_asks panels head.method t (map name_and_value head.fields)) at)

-- as many fields as were read
pub field_count : (headers : List Header) (fields : List Field) → AreFields headers fields → length fields ≡ length headers
field_count headers fields same =
    sym (length-map fields name_and_value) ∙ ap length (sym same) ∙ length-map headers header_parts

-- a head that was read among the first bytes of a connection
pub begins_short : (bytes : List ℕ) (at count : ℕ) (head : RequestHead) → length bytes ≤ 8192 → ReadsRequest bytes head (drop at bytes)
    → length head.fields ≡ count → count ≤ 32 → BeginsWith bytes head (drop at bytes)
begins_short bytes at count head most reads same few =
    let long = ap length reads.1 ∙ length-append (print_request head) (drop at bytes) in
    record { reads = reads; few = omega (arith, same, few); short = omega (arith, long, most) }
