-- What a disk in memory tells, by its first bytes and the log of its calls.
use Rattle.std.specs.Prelude.{◌≡◌, ℕ, ◌+◌, ◌≤◌, List, [], ◌∷◌, length, take, drop, slice_index, if◌then◌else◌, ◌==◌}
use Rattle.panel_edges.specs.Overwritten.{overwritten}
use Rattle.panel_edges.specs.Disks.{Torn}
use Rattle.panel_edges.specs.Crashes.{After}
use Rattle.panel_edges.specs.declared.disk_call.DiskCall.{DiskCall}
use Rattle.panel_edges.specs.declared.disk_call.DiskCall.TheVariants.{Wrote, Synced}

-- A call that a log holds: a write at a place, of these bytes, of which the file took so many at the front
-- (all but where the write failed), or a sync that succeeded.
pub data Call : Type 0 where
  Write : (at : ℕ) → (bytes : List ℕ) → (kept : ℕ) → Call
  Sync : Call

-- the calls of a log, whose written bytes stand in one list, one write after the other
abbrev pub calls_of : List DiskCall → List ℕ → List Call
calls_of [] store = []
calls_of (Wrote at count kept ∷ log) store =
    Write at (take count store) kept ∷ calls_of log (drop count store)
calls_of (Synced ∷ log) store = Sync ∷ calls_of log store

-- how many bytes the writes of a log handed over
abbrev pub bytes_in : List DiskCall → ℕ
bytes_in [] = 0
bytes_in (Wrote at count kept ∷ log) = count + bytes_in log
bytes_in (Synced ∷ log) = bytes_in log

-- what a read gives after these calls
abbrev pub content : List ℕ → List Call → List ℕ
content old [] = old
content old (Write at bytes kept ∷ calls) = content (overwritten at (take kept bytes) old) calls
content old (Sync ∷ calls) = content old calls

-- what a crash may leave after these calls, from what it might leave before them and what a read gave
abbrev pub may_leave : (List ℕ → Type 0) → List ℕ → List Call → List ℕ → Type 0
may_leave images old [] c = images c
may_leave images old (Write at bytes kept ∷ calls) c =
    may_leave (After (Torn at (length bytes)) images) (overwritten at (take kept bytes) old) calls c
may_leave images old (Sync ∷ calls) c = may_leave (λ file. file ≡ old) old calls c

-- what a crash may leave of a disk that began with these bytes
abbrev pub left_by : List ℕ → List Call → List ℕ → Type 0
left_by start calls c = may_leave (λ file. file ≡ start) start calls c

-- what a crash may have left after some number of these calls, from one on
abbrev pub left_after : List ℕ → List Call → ℕ → List ℕ → Type 0
left_after start calls t c = (k : ℕ) × (t ≤ k) × (k ≤ length calls) × left_by start (take k calls) c

-- the file with the first so many of these bytes written over it, and the file itself for none of them
abbrev pub front_written : ℕ → List ℕ → ℕ → List ℕ → List ℕ
front_written at bytes kept old = if kept == 0 then old else overwritten at (take kept bytes) old

-- The file that a cut leaves after these calls, where each write since the last sync left its first so many
-- bytes, by a list with a number for each call (0 where there is none). Before it stand what a read gave and
-- the file as cut so far.
abbrev pub cut_from : List ℕ → List ℕ → List Call → List ℕ → List ℕ
cut_from old torn [] kept = torn
cut_from old torn (Write at bytes whole ∷ calls) kept =
    cut_from (overwritten at (take whole bytes) old) (front_written at bytes (slice_index kept 0) torn) calls
    (drop 1 kept)
cut_from old torn (Sync ∷ calls) kept = cut_from old old calls (drop 1 kept)

-- the file that a cut leaves of a disk that began with these bytes
abbrev pub cut_by : List ℕ → List Call → List ℕ → List ℕ
cut_by start calls kept = cut_from start start calls kept

-- One call of a log was done again, to a file as it reads and to the same file as cut, where a write leaves so
-- many of its first bytes: the calls behind it make of both what they made with it before.
abbrev pub DoesAgain : DiskCall → ℕ → List ℕ → List ℕ → List ℕ → List ℕ → List ℕ → List ℕ → Type 0
DoesAgain call left bytes behind whole torn whole_after torn_after =
    (log : List DiskCall) (kept : List ℕ) → slice_index kept 0 ≡ left
    → cut_from whole torn (calls_of (call ∷ log) bytes) kept
    ≡ cut_from whole_after torn_after (calls_of log behind) (drop 1 kept)
