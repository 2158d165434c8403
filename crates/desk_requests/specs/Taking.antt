-- What is answered to what was read of a connection.
use Rattle.std.specs.Prelude.{◌≡◌, ◌<◌, ◌≤◌, ◌⊎◌, ℕ, List, ◌++◌, take, drop, length, Option, Result, Ok, Err, IfSome}
use Rattle.httparse.specs.Grammar.{RequestHead, print_request}
use Rattle.panel_edges.specs.Contents.{Consumes}
use Rattle.panel_edges.specs.Faults.{Rose}
use Rattle.desk_requests.specs.Asked.{asked_by}
use Rattle.desk_requests.specs.Heads.{BeginsWith, IsHeadBegun, IsNoHead}
use Rattle.desk_requests.specs.declared.asking.Asking.{Asking}
use Rattle.desk_requests.specs.declared.status.Status.{Status}
use Rattle.desk_requests.specs.declared.status.Status.TheVariants.{BadRequest}
use Rattle.desk_requests.specs.declared.taken.Request.{Request}
use Rattle.desk_requests.specs.declared.taken.Taken.{Taken}
use Rattle.desk_requests.specs.declared.taken.Taken.TheVariants.{Asked, Refused, Ended, ReadFault}

-- the bytes begin with a head that asks for this, or is refused so
pub record HasHead (panels : ℕ) (bytes : List ℕ) (asks : Result Asking Status) : Type 0 where
  pub head : RequestHead
  pub rest : List ℕ
  pub begins : BeginsWith bytes head rest
  pub judged : asked_by panels head ≡ asks

-- the bytes hold this request: a head that asks for it, and the whole body that it announces
pub record HasWhole (panels : ℕ) (bytes : List ℕ) (request : Request) : Type 0 where
  pub head : RequestHead
  pub rest : List ℕ
  pub begins : BeginsWith bytes head rest
  pub judged : asked_by panels head ≡ Ok (record { route = request.route; length = request.body })
  pub behind : request.head ≡ length (print_request head)
  pub whole : request.body ≤ length rest

-- the body of a request among the bytes that were read
abbrev pub body_of : Request → List ℕ → List ℕ
body_of request bytes = take request.body (drop request.head bytes)

-- a head is refused: there is none and can be none, or it asks for what is not had
abbrev pub IsRefused : ℕ → List ℕ → Status → Type 0
IsRefused panels bytes status = ((status ≡ BadRequest) × IsNoHead bytes) ⊎ HasHead panels bytes (Err status)

-- the head is whole and accepted, and a part of the body that it announces is missing
pub record LacksBody (panels : ℕ) (bytes : List ℕ) : Type 0 where
  pub asks : Asking
  pub head : RequestHead
  pub rest : List ℕ
  pub begins : BeginsWith bytes head rest
  pub judged : asked_by panels head ≡ Ok asks
  pub missing : length rest < asks.length

-- more is needed to decide
abbrev pub NeedsMore : ℕ → List ℕ → Type 0
NeedsMore panels bytes = IsHeadBegun bytes ⊎ LacksBody panels bytes

-- the answer to these bytes
abbrev pub MeansTaken : ℕ → List ℕ → Taken → Type 0
MeansTaken panels bytes (Asked request) = HasWhole panels bytes request
MeansTaken panels bytes (Refused status) = IsRefused panels bytes status
MeansTaken panels bytes Ended = NeedsMore panels bytes
MeansTaken panels bytes ReadFault = NeedsMore panels bytes

-- a request was taken from what was left: these bytes were read and are answered so, and where it says that the
-- input ended, they are all that was left
pub record ReadsOneRequest (panels : ℕ) (left rest : Option (List ℕ)) (bytes : List ℕ) (taken : Taken) : Type 0 where
  pub consumed : Consumes left rest bytes
  pub answered : MeansTaken panels bytes taken
  pub ended : taken ≡ Ended → IfSome left (λ all. all ≡ bytes)

-- the count of faults never falls, and a read fault has raised it
pub record HasReadCause (before after : ℕ) (taken : Taken) : Type 0 where
  pub later : before ≤ after
  pub failed : taken ≡ ReadFault → Rose before after

-- more bytes were read of what was left, behind some that were read before: all of them together are answered so, and
-- where the answer says that the input ended, the new ones are all that was left
pub record TakesMore (panels : ℕ) (left rest : Option (List ℕ)) (before bytes : List ℕ) (taken : Taken) : Type 0 where
  pub piece : List ℕ
  pub behind : bytes ≡ before ++ piece
  pub consumed : Consumes left rest piece
  pub answered : MeansTaken panels bytes taken
  pub ended : taken ≡ Ended → IfSome left (λ all. all ≡ piece)
