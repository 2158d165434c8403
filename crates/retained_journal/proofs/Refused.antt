-- An error that is handed on.
use Rattle.std.specs.Prelude.{Result, Ok, Err, IfErr, IsErrAnd}

pub handed_on : {T E : Type 0} (r : Result T E) (G P : E → Type 0) → IsErrAnd r G → ((e : E) → G e → P e) → IfErr r P
handed_on (Ok x) G P h f = tt
handed_on (Err e) G P h f = f e h
