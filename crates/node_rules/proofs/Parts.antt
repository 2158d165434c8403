-- Parts of histories.
use Rattle.std.proofs.Common.{◌≡◌, ◌∙◌, ◌≤◌, ◌<◌, ℕ, suc, List, [], ◌∷◌, length, nat_le, refl, arith, inl, inr}
use Rattle.std.proofs.lemmas.Bool.{le-leb, cases_Bool, leb-true}
use Rattle.panel_rules.specs.Moments.{Moment}
use Rattle.node_rules.specs.Histories.{Befell, FrameCame, IsPartOf, NodeMoment, longer, befallen, part_until, whole}
use Rattle.node_rules.specs.NodeLaws.{TurnsGoByWhatCame}

-- a part has no more moments
pub part_short : (part history : List NodeMoment) → IsPartOf part history → length (befallen part) ≤ length (befallen history)
part_short part history whole = omega arith
part_short part history (longer (Befell moment) before h) = let ih = part_short part before h in omega (arith, ih)
part_short part history (longer (FrameCame frame) before h) = part_short part before h

-- with all of its moments it is the whole
pub part_whole : (history : List NodeMoment) → part_until (length (befallen history)) history ≡ history
part_whole [] = refl
part_whole (moment ∷ before) = rw (le-leb (length (befallen (moment ∷ before))) (length (befallen (moment ∷ before))) (omega arith)) refl

-- one moment more is cut off
pub cut_off : (moment : NodeMoment) (before : List NodeMoment) (count : ℕ) → count < length (befallen (moment ∷ before))
    → part_until count (moment ∷ before) ≡ part_until count before
cut_off moment before count more =
    elim (cases_Bool (nat_le (length (befallen (moment ∷ before))) count)) [
      | inl is ↦ absurd (let l = leb-true (length (befallen (moment ∷ before))) count is in omega (arith, l, more))
      | inr isnt ↦ rw isnt refl
    ]

pub cut_back : (before : List NodeMoment) (moment : Moment) (history : List NodeMoment) → IsPartOf (Befell moment ∷ before) history
    → part_until (length (befallen before)) history ≡ before
cut_back before moment history whole = cut_off (Befell moment) before (length (befallen before)) (omega arith) ∙ part_whole before
cut_back before moment history (longer later rest h) =
    let short = part_short (Befell moment ∷ before) rest h in
    cut_off later rest (length (befallen before)) (further later rest before short) ∙ cut_back before moment rest h
  where
    further : (later : NodeMoment) (rest before : List NodeMoment) → suc (length (befallen before)) ≤ length (befallen rest)
        → length (befallen before) < length (befallen (later ∷ rest))
    further (Befell m) rest before short = omega (arith, short)
    further (FrameCame f) rest before short = omega (arith, short)

pub turns_by_what_came : TurnsGoByWhatCame
turns_by_what_came history before moment part = cut_back before moment history part
