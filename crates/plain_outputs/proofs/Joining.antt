-- Tests joined as a turn of Drive joins them.
use Rattle.std.proofs.Common.{◌≡◌, ◌&&◌, not, Bool, true, false, refl, sym, ◌∙◌, ap}

pub where_true : (test other x : Bool) → test ≡ true → x ≡ other → x ≡ (test && other)
where_true true other x h is = is
where_true false other x h is = cc

all_pass : (asked off quiet may : Bool) → asked ≡ true → off ≡ false → quiet ≡ false → may ≡ ((asked && not off) && (not quiet && may))
all_pass true false false may p q r = refl
all_pass true false true may p q r = cc
all_pass true true quiet may p q r = cc
all_pass false off quiet may p q r = cc

pub goes_if : (asked off quiet may : Bool) (asked_is off_is quiet_is may_is : Bool) → asked ≡ asked_is → off ≡ off_is → quiet ≡ quiet_is
    → may ≡ may_is → asked ≡ true → off ≡ false → quiet ≡ false →
    may ≡ ((asked_is && not off_is) && (not quiet_is && may_is))
goes_if asked off quiet may asked_is off_is quiet_is may_is a o q m yes_asked not_off not_quiet =
    m ∙ all_pass asked_is off_is quiet_is may_is (sym a ∙ yes_asked) (sym o ∙ not_off) (sym q ∙ not_quiet)

is_quiet_then : (asked off quiet may : Bool) → asked ≡ true → off ≡ false → quiet ≡ true → false ≡ ((asked && not off) && (not quiet && may))
is_quiet_then true false true may p q r = refl
is_quiet_then true false false may p q r = cc
is_quiet_then true true quiet may p q r = cc
is_quiet_then false off quiet may p q r = cc

pub stays_if : (asked off quiet : Bool) (asked_is off_is quiet_is may_is : Bool) → asked ≡ asked_is → off ≡ off_is → quiet ≡ quiet_is → asked ≡ true
    → off ≡ false → quiet ≡ true →
    not quiet ≡ ((asked_is && not off_is) && (not quiet_is && may_is))
stays_if asked off quiet asked_is off_is quiet_is may_is a o q yes_asked not_off is_quiet =
    ap not is_quiet ∙ is_quiet_then asked_is off_is quiet_is may_is (sym a ∙ yes_asked) (sym o ∙ not_off) (sym q ∙ is_quiet)
