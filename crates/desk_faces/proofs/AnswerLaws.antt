-- Laws of an answer that is under way.
use Rattle.std.proofs.Common.{◌≡◌, ◌≤◌, ◌++◌, ℕ, Bool, true, false, List, [], Result, Ok, Err, arith, sym, subst, append_assoc}
use Rattle.std.specs.Prelude.{OnErr, OnOk, is_err}
use Rattle.panel_edges.specs.Contents.{Grows, GrowsByFront}
use Rattle.panel_edges.specs.Faults.{HasCause, Rose}
use Rattle.panel_edges.proofs.Counting.{rose_since}
use Rattle.panel_edges.proofs.Growing.{front_longer, front_more, grows_more}
use Rattle.face_text.specs.Holding.{Moves, Puts}
use Rattle.face_text.proofs.Holding.{broke_more, moves_more, moves_none}
use Rattle.desk_faces.specs.Outlets.{AddsText, EndsAnswer, Outlet, IsTold, WritesText}
use Rattle.desk_faces.specs.declared.answer_writer.AnswerWriter.{AnswerWriter}

not_both : {P : Type 0} (b : Bool) → b ≡ true → b ≡ false → P
not_both true is isnt = cc
not_both false is isnt = cc

-- an answer of which nothing is written
pub stands_none : (begun : Outlet) (answer : AnswerWriter) → answer.failed ≡ false → answer.held ≡ [] → IsTold begun begun answer []
stands_none begun answer going empty = record {
  going = λ h. subst (λ held. Moves [] held begun.bytes begun.bytes []) (sym empty) (moves_none [] begun.bytes);
  stopped = λ failed. not_both answer.failed failed going;
  later = omega arith;
}

-- a text that is not written any more
pub adds_stopped : (reached : Outlet) (answer : AnswerWriter) (text : List ℕ) → answer.failed ≡ true → AddsText reached answer reached answer text
adds_stopped reached answer text failed = record {
  adds = λ begun told stands. record {
    going = λ h. not_both answer.failed failed h;
    stopped = λ h. (let before = stands.stopped h in (front_longer begun.bytes reached.bytes told text before.0, before.1));
    later = stands.later;
  };
}

put_ok : (begun from upto : Outlet) (answer longer : AnswerWriter) (told text : List ℕ) → answer.failed ≡ false → longer.failed ≡ false
    → Moves answer.held longer.held from.bytes upto.bytes text → from.faults ≤ upto.faults → IsTold begun from answer told → IsTold begun upto longer (told ++ text)
put_ok begun from upto answer longer told text goes going moves later stands = record {
  going = λ h. moves_more [] answer.held longer.held begun.bytes from.bytes upto.bytes told text (stands.going goes) moves;
  stopped = λ h. not_both longer.failed h going;
  later = (let first = stands.later in omega (arith, first, later));
}

put_err : (begun from upto : Outlet) (answer longer : AnswerWriter) (told text : List ℕ) → answer.failed ≡ false → longer.failed ≡ true
    → GrowsByFront from.bytes upto.bytes (answer.held ++ text) → from.faults ≤ upto.faults → Rose from.faults upto.faults
    → IsTold begun from answer told → IsTold begun upto longer (told ++ text)
put_err begun from upto answer longer told text goes broken front later rose stands = record {
  going = λ h. not_both longer.failed broken h;
  stopped = λ h. (
    broke_more [] answer.held begun.bytes from.bytes upto.bytes told text (stands.going goes) front,
    rose_since begun.faults from.faults upto.faults stands.later rose,
  );
  later = (let first = stands.later in omega (arith, first, later));
}

-- a text that is put behind what is held
pub adds_put : {T E : Type 0} (from upto : Outlet) (answer longer : AnswerWriter) (text : List ℕ) (r : Result T E) → answer.failed ≡ false
    → longer.failed ≡ is_err r → Puts answer.held longer.held from.bytes upto.bytes text r → HasCause from.faults upto.faults r → AddsText from answer upto longer text
adds_put from upto answer longer text (Ok done) goes is puts cause = record {
  adds = λ begun told stands. put_ok begun from upto answer longer told text goes is puts.ok cause.later stands;
}
adds_put from upto answer longer text (Err e) goes is puts cause = record {
  adds = λ begun told stands. put_err begun from upto answer longer told text goes is puts.err cause.later cause.failed stands;
}

-- two texts, one behind the other
pub adds_then : {a b c : Outlet} {x y z : AnswerWriter} {first second : List ℕ} → AddsText a x b y first → AddsText b y c z second → AddsText a x c z (first ++ second)
adds_then {a} {b} {c} {x} {y} {z} {first} {second} one two = record {
  adds = λ begun told stands.
      subst (λ text. IsTold begun c z text) (append_assoc told first second) (two.adds begun (told ++ first) (one.adds begun told stands));
}

-- an answer that was begun, was told a text and is finished
pub writes_all : {T E : Type 0} {begun from upto : Outlet} {new answer : AnswerWriter} {text : List ℕ} {r : Result T E} → IsTold begun begun new []
    → AddsText begun new from answer text → EndsAnswer from answer upto r → WritesText begun upto text r
writes_all {begun} {from} {upto} {new} {answer} {text} {r} stands adds finishes = finishes.writes begun text (adds.adds begun [] stands)

pub adds_as : {a b : Outlet} {x y : AnswerWriter} (first second : List ℕ) → first ≡ second → AddsText a x b y first → AddsText a x b y second
adds_as {a} {b} {x} {y} first second same adds = subst (AddsText a x b y) same adds

-- ---- the end of an answer

-- a write failed before
pub ends_stopped : {T E : Type 0} (reached : Outlet) (writer : AnswerWriter) (e : E) → writer.failed ≡ true → EndsAnswer {T = T} reached writer reached (Err e)
ends_stopped reached writer e failed = record {
  writes = λ begun told stands. (
      let broken = stands.stopped failed in
      record { ok = tt; err = broken.0; cause = record { later = stands.later; failed = broken.1 } }
      );
}

end_ok : {T E : Type 0} (begun from upto : Outlet) (writer : AnswerWriter) (told : List ℕ) (done : T) → Moves [] writer.held begun.bytes from.bytes told
    → Grows from.bytes upto.bytes writer.held → begun.faults ≤ upto.faults → WritesText {E = E} begun upto told (Ok done)
end_ok begun from upto writer told done moves grows later = record {
  ok =
      subst (λ (xs : List ℕ). Grows begun.bytes upto.bytes xs) (sym moves.1)
      (grows_more begun.bytes from.bytes upto.bytes moves.0 writer.held moves.2 grows);
  err = tt;
  cause = record { later = later; failed = tt };
}

end_err : {T E : Type 0} (begun from upto : Outlet) (writer : AnswerWriter) (told : List ℕ) (e : E) → Moves [] writer.held begun.bytes from.bytes told
    → GrowsByFront from.bytes upto.bytes writer.held → begun.faults ≤ upto.faults → Rose begun.faults upto.faults → WritesText {T = T} begun upto told (Err e)
end_err begun from upto writer told e moves front later rose = record {
  ok = tt;
  err =
      subst (λ (xs : List ℕ). GrowsByFront begun.bytes upto.bytes xs) (sym moves.1)
      (front_more begun.bytes from.bytes upto.bytes moves.0 writer.held moves.2 front);
  cause = record { later = later; failed = rose };
}

-- what was held is written, or a front of it
pub ends_flushed : {T E : Type 0} (from upto : Outlet) (writer : AnswerWriter) (r : Result T E) → writer.failed ≡ false
    → OnOk r (Grows from.bytes upto.bytes writer.held) → OnErr r (GrowsByFront from.bytes upto.bytes writer.held) → HasCause from.faults upto.faults r
    → EndsAnswer from writer upto r
ends_flushed from upto writer (Ok done) goes ok err cause = record {
  writes = λ begun told stands. (
      let first = stands.later in
      let second = cause.later in
      end_ok begun from upto writer told done (stands.going goes) ok (omega (arith, first, second))
      );
}
ends_flushed from upto writer (Err e) goes ok err cause = record {
  writes = λ begun told stands. (
      let first = stands.later in
      let second = cause.later in
      end_err begun from upto writer told e (stands.going goes) err (omega (arith, first, second))
      (rose_since begun.faults from.faults upto.faults stands.later cause.failed)
      );
}
