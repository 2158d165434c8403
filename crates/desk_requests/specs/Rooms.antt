-- The room into which requests are read.
use Rattle.std.specs.Prelude.{◌≡◌, ◌↔◌, ◌+◌, ℕ, List, [], ◌++◌, length, take, Option, IfSome}
use Rattle.panel_edges.specs.Contents.{Consumes}
use Rattle.desk_requests.specs.declared.request_room.RequestRoom.{RequestRoom}

-- what was read into the room since it was cleared
abbrev pub read_into : RequestRoom → List ℕ
read_into room = take room.filled room.bytes.items

-- a read brought a piece of so many bytes, none only at the end of the input
pub record GainsBytes (old new : RequestRoom) (left rest : Option (List ℕ)) (count : ℕ) : Type 0 where
  pub piece : List ℕ
  pub counted : length piece ≡ count
  pub behind : read_into new ≡ read_into old ++ piece
  pub taken : Consumes left rest piece
  pub ends : IfSome left (λ bytes. (count ≡ 0) ↔ (bytes ≡ []))

-- a read brought a piece of so many bytes behind those that were filled before, none only at the end of the input
pub record FillsBehind (old new : List ℕ) (filled : ℕ) (left rest : Option (List ℕ)) (count : ℕ) : Type 0 where
  pub piece : List ℕ
  pub counted : length piece ≡ count
  pub behind : take (filled + count) new ≡ take filled old ++ piece
  pub taken : Consumes left rest piece
  pub ends : IfSome left (λ bytes. (count ≡ 0) ↔ (bytes ≡ []))
