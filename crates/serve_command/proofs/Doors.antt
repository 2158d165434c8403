-- Whether one of some connections was a stop, with one more.
use Rattle.std.proofs.Common.{◌≡◌, ◌∙◌, ◌++◌, ◌||◌, Bool, true, false, List, [], ◌∷◌, refl, ap}
use Rattle.std.specs.List.{list_any}
use Rattle.std.proofs.lemmas.List.Folds.{list_any-append}
use Rattle.desk_doors.specs.Doors.{ToldConn}
use Rattle.serve_command.specs.Doors.{ServedConn, has_stop, is_stop}

abbrev pub given_of : ServedConn → ToldConn
given_of conn = conn.given

abbrev pub back_of : ServedConn → ToldConn
back_of conn = conn.back

pub stops_more : (conns : List ServedConn) (conn : ServedConn) → has_stop conns ≡ false → has_stop (conns ++ conn ∷ []) ≡ is_stop conn.served
stops_more conns conn none =
    list_any-append (λ (c : ServedConn). is_stop c.served) conns (conn ∷ [])
    ∙ ap (λ b. b || list_any (λ (c : ServedConn). is_stop c.served) (conn ∷ [])) none ∙ last (is_stop conn.served)
  where
    last : (b : Bool) → (false || (b || false)) ≡ b
    last true = refl
    last false = refl
