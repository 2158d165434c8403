-- A history of one moment more.
use Rattle.std.proofs.Common.{◌≡◌, ◌<◌, ◌+◌, ℕ, List, [], ◌∷◌, ◌++◌, add-one, ap, arith, get_or, length, take, refl}
use Rattle.std.proofs.Math.Seq.{take-suc}
use Rattle.std.proofs.lemmas.List.{take_all}
use Rattle.site_types.specs.Done.{Done as DoneOf}
use Rattle.panel_rules.specs.Moments.{Moment as MomentOf}
use Rattle.plain_history.specs.declared.done.Done.{Done}
use Rattle.plain_history.specs.declared.moment.Moment.{Moment}
use Rattle.plain_history.specs.Histories.{all_done, and_done, and_moments, done_of, history, moment_of}

pub and_moments-append : (front back : List Moment) (before : List MomentOf)
    → and_moments (front ++ back) before ≡ and_moments back (and_moments front before)
and_moments-append [] back before = refl
and_moments-append (moment ∷ moments) back before = and_moments-append moments back (moment_of moment ∷ before)

pub history_more : (moments : List Moment) (moment : Moment) → history (moments ++ moment ∷ []) ≡ moment_of moment ∷ history moments
history_more moments moment = and_moments-append moments (moment ∷ []) []

pub and_done-append : (front back : List Done) (before : List DoneOf) → and_done (front ++ back) before ≡ and_done back (and_done front before)
and_done-append [] back before = refl
and_done-append (done ∷ later) back before = and_done-append later back (done_of done ∷ before)

pub all_done_more : (done : List Done) (last : Done) → all_done (done ++ last ∷ []) ≡ done_of last ∷ all_done done
all_done_more done last = and_done-append done (last ∷ []) []

-- the operations done up to one place more
pub all_done_upto : (done : List Done) (place : ℕ) (d : Done) → place < length done → all_done (take (place + 1) done) ≡ done_of (get_or done place d)
    ∷ all_done (take place done)
all_done_upto done place d within = rw (add-one, take-suc done place d within) (all_done_more (take place done) (get_or done place d))

pub all_done_all : (done : List Done) → all_done (take (length done) done) ≡ all_done done
all_done_all done = ap all_done (take_all (length done) done (omega arith))
