-- What one look at the bytes of a head tells.
use Rattle.std.specs.Prelude.{◌≡◌, ◌≤◌, ℕ, List, drop, length, Ok}
use Rattle.httparse.specs.Grammar.{HasNoRequest, MayBecomeRequest, RequestHead, print_request}
use Rattle.desk_requests.specs.Asked.{asked_by}
use Rattle.desk_requests.specs.Heads.{BeginsWith}
use Rattle.desk_requests.specs.Taking.{IsRefused}
use Rattle.desk_requests.specs.declared.asking.Asking.{Asking}
use Rattle.desk_requests.specs.declared.looking.Looked.{Looked}
use Rattle.desk_requests.specs.declared.looking.Looked.TheVariants.{Whole, Refused, Begun}

-- the bytes begin with a head of so many bytes that asks for this
pub record IsWhole (panels : ℕ) (bytes : List ℕ) (at : ℕ) (asks : Asking) : Type 0 where
  pub head : RequestHead
  pub begins : BeginsWith bytes head (drop at bytes)
  pub ends : at ≡ length (print_request head)
  pub judged : asked_by panels head ≡ Ok asks
  pub short : asks.length ≤ 65536

abbrev pub Looks : ℕ → List ℕ → Looked → Type 0
Looks panels bytes (Whole at asks) = IsWhole panels bytes at asks
Looks panels bytes (Refused status) = IsRefused panels bytes status
Looks panels bytes Begun = HasNoRequest bytes × MayBecomeRequest bytes
