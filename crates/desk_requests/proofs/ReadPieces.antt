-- What pieces that were read one after another come to.
use Rattle.std.proofs.Common.{◌≡◌, ◌≤◌, ◌+◌, ◌∙◌, ℕ, List, [], ◌∷◌, ◌++◌, Option, Some, None, length, take, drop, refl, ap, sym, subst, arith, append_assoc, append-nil, length-append}
use Rattle.std.specs.Prelude.{◌↔◌, IfSome}
use Rattle.std.proofs.Math.Seq.{take-append-add, take-append_seam}
use Rattle.std.proofs.lemmas.List.{length-take-le, take-append-le}
use Rattle.panel_edges.specs.Contents.{Consumes}
use Rattle.panel_edges.proofs.Shrinking.{consumes_more, consumes_none, consumes_same}
use Rattle.desk_requests.specs.Rooms.{GainsBytes, read_into}
use Rattle.desk_requests.specs.declared.request_room.RequestRoom.{RequestRoom}

-- what stands in a room behind a read into its free part
pub room_filled : (xs ys into behind : List ℕ) (filled count : ℕ) → filled ≤ length xs → count ≤ length into → ys ≡ xs
    → take (filled + count) (take filled ys ++ (into ++ behind)) ≡ take filled xs ++ take count into
room_filled xs ys into behind filled count within fits same =
    let front = take filled ys in
    let long : length front ≡ filled = length-take-le filled ys (subst (λ zs. filled ≤ length zs) (sym same) within) in
    let plain : take (length front + count) (front ++ (into ++ behind)) ≡ front ++ take count (into ++ behind) = take-append-add front (into ++ behind) count in
    let started : take (filled + count) (front ++ (into ++ behind)) ≡ front ++ take count (into ++ behind) =
    subst (λ n. take (n + count) (front ++ (into ++ behind)) ≡ front ++ take count (into ++ behind)) long plain in
    started ∙ ap (λ zs. front ++ zs) (take-append-le count into behind fits) ∙ ap (λ zs. take filled zs ++ take count into) same

-- bytes were read behind others
pub record ReadsOn (left rest : Option (List ℕ)) (before bytes : List ℕ) : Type 0 where
  pub piece : List ℕ
  pub behind : bytes ≡ before ++ piece
  pub consumed : Consumes left rest piece

pub reads_none : (left : Option (List ℕ)) (bytes : List ℕ) → ReadsOn left left bytes bytes
reads_none left bytes = record { piece = []; behind = sym (append-nil bytes); consumed = consumes_none left }

-- one more read
abbrev pub reads_more : (left mid rest : Option (List ℕ)) (before : List ℕ) (old new : RequestRoom) (count : ℕ) → ReadsOn left mid before (read_into old)
    → GainsBytes old new mid rest count → ReadsOn left rest before (read_into new)
reads_more left mid rest before old new count reads gains = record {
  piece = reads.piece ++ gains.piece;
  behind = gains.behind ∙ ap (λ xs. xs ++ gains.piece) reads.behind ∙ append_assoc before reads.piece gains.piece;
  consumed = consumes_more left mid rest reads.piece gains.piece reads.consumed gains.taken;
}

-- a failed read
abbrev pub reads_same : (left mid rest : Option (List ℕ)) (before : List ℕ) (old new : RequestRoom) → ReadsOn left mid before (read_into old)
    → read_into new ≡ read_into old → rest ≡ mid → ReadsOn left rest before (read_into new)
reads_same left mid rest before old new reads bytes same = record {
  piece = reads.piece;
  behind = bytes ∙ reads.behind;
  consumed = consumes_same left mid rest reads.piece same reads.consumed;
}

-- a read lengthens what was read by its count
pub read_longer : (old new : RequestRoom) (left rest : Option (List ℕ)) (count : ℕ) → GainsBytes old new left rest count
    → length (read_into new) ≡ length (read_into old) + count
read_longer old new left rest count gains =
    ap length gains.behind ∙ length-append (read_into old) gains.piece ∙ ap (λ n. length (read_into old) + n) gains.counted

pub no_bytes : (xs : List ℕ) → length xs ≡ 0 → xs ≡ []
no_bytes [] none = refl
no_bytes (x ∷ xs) none = absurd (omega (arith, none))

-- a read that brought nothing changed nothing
pub read_nothing : (old new : RequestRoom) (left rest : Option (List ℕ)) (count : ℕ) → GainsBytes old new left rest count → count ≡ 0
    → read_into new ≡ read_into old
read_nothing old new left rest count gains none =
    gains.behind ∙ ap (λ xs. read_into old ++ xs) (no_bytes gains.piece (gains.counted ∙ none)) ∙ append-nil (read_into old)

-- where the input is told, it was read to its end
pub all_read : (left mid : Option (List ℕ)) (bytes : List ℕ) (count : ℕ) → count ≡ 0 → Consumes left mid bytes
    → IfSome mid (λ more. (count ≡ 0) ↔ (more ≡ [])) → IfSome left (λ all. all ≡ bytes)
all_read None mid bytes count none consumes ends = tt
all_read (Some all) None bytes count none consumes ends = absurd consumes
all_read (Some all) (Some more) bytes count none consumes ends = consumes ∙ ap (λ xs. bytes ++ xs) (ends.0 none) ∙ append-nil bytes

-- and so over all that was read before
pub all_read_behind : (left mid : Option (List ℕ)) (before piece bytes : List ℕ) → bytes ≡ before ++ piece → Consumes left mid before
    → IfSome mid (λ all. all ≡ piece) → IfSome left (λ all. all ≡ bytes)
all_read_behind None mid before piece bytes behind consumes ended = tt
all_read_behind (Some all) None before piece bytes behind consumes ended = absurd consumes
all_read_behind (Some all) (Some more) before piece bytes behind consumes ended = consumes ∙ ap (λ xs. before ++ xs) ended ∙ sym behind

pub all_read_as : (left : Option (List ℕ)) (bytes same : List ℕ) → same ≡ bytes → IfSome left (λ all. all ≡ bytes) → IfSome left (λ all. all ≡ same)
all_read_as None bytes same e ended = tt
all_read_as (Some all) bytes same e ended = ended ∙ sym e

-- a vector whose elements were written holds what was written
pub written_over : (ws items : List ℕ) (len : ℕ) → length ws ≡ length items → length items ≡ len → take len (ws ++ drop (length ws) items) ≡ ws
written_over ws items len same size =
    subst (λ (n : ℕ). take n (ws ++ drop (length ws) items) ≡ ws) (same ∙ size) (take-append_seam ws (drop (length ws) items))
