-- Whether bytes begin with the head of a request, in the grammar of the library that reads it.
use Rattle.std.specs.Prelude.{◌<◌, ◌≤◌, ℕ, List, ◌++◌, length}
use Rattle.httparse.specs.Grammar.{HasNoRequest, MayBecomeRequest, ReadsRequest, RequestHead, print_request}

-- the bytes begin with this head, which has at most 32 fields and 8,192 bytes, and the rest stands behind it
pub record BeginsWith (bytes : List ℕ) (head : RequestHead) (rest : List ℕ) : Type 0 where
  pub reads : ReadsRequest bytes head rest
  pub few : length head.fields ≤ 32
  pub short : length (print_request head) ≤ 8192

-- whatever comes behind them, the bytes begin with no such head
abbrev pub IsNoHead : List ℕ → Type 0
IsNoHead bytes =
    (more : List ℕ) (head : RequestHead) (rest : List ℕ) → BeginsWith (bytes ++ more) head rest → ⊥

-- the bytes begin with no head, some that come behind them may make one, as far as the library tells, and
-- there is room for them
pub record IsHeadBegun (bytes : List ℕ) : Type 0 where
  pub not_whole : HasNoRequest bytes
  pub may_become : MayBecomeRequest bytes
  pub has_room : length bytes < 8192
