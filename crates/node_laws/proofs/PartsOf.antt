-- Parts of histories, and what befell by then.
use Rattle.std.proofs.Common.{◌≡◌, ◌∙◌, ◌⊎◌, ◌≤◌, ◌<◌, ℕ, suc, List, [], ◌∷◌, length, inl, inr, refl, sym, arith}
use Rattle.panel_rules.specs.Moments.{Moment, IsPast, later, present}
use Rattle.node_rules.specs.Histories.{Befell, FrameCame, IsPartOf, NodeMoment, befallen, longer, part_until, whole}
use Rattle.node_rules.proofs.Parts.{cut_off, part_short}

-- up to a moment before a part ends, a history has what the part has
pub cut_alike : (before : List NodeMoment) (moment : Moment) (history : List NodeMoment) → IsPartOf (Befell moment ∷ before) history
    → (count : ℕ) → count ≤ length (befallen before) → part_until count history ≡ part_until count before
cut_alike before moment history whole count few = cut_off (Befell moment) before count (omega (arith, few))
cut_alike before moment history (longer newer rest h) count few =
    let short = part_short (Befell moment ∷ before) rest h in
    cut_off newer rest count (further newer rest short) ∙ cut_alike before moment rest h count few
  where
    further : (newer : NodeMoment) (rest : List NodeMoment) → suc (length (befallen before)) ≤ length (befallen rest)
        → count < length (befallen (newer ∷ rest))
    further (Befell m) rest short = omega (arith, short, few)
    further (FrameCame f) rest short = omega (arith, short, few)

-- what befell in a part befell in the past of the whole
pub part_past : (part history : List NodeMoment) → IsPartOf part history → IsPast (befallen part) (befallen history)
part_past part history whole = present
part_past part history (longer (Befell moment) before h) = later moment (befallen before) (part_past part before h)
part_past part history (longer (FrameCame frame) before h) = part_past part before h

-- a part without its newest moment is one
pub part_tail : (moment : NodeMoment) (before history : List NodeMoment) → IsPartOf (moment ∷ before) history → IsPartOf before history
part_tail moment before history whole = longer moment before whole
part_tail moment before history (longer newer rest h) = longer newer rest (part_tail moment before rest h)

-- each history has the empty part
pub none_of : (history : List NodeMoment) → IsPartOf [] history
none_of [] = whole
none_of (moment ∷ before) = longer moment before (none_of before)

-- the part of a history that ended when a moment befell
pub record EndsAt (moment : Moment) (before : List Moment) (history : List NodeMoment) : Type 0 where
  pub part : List NodeMoment
  pub is : befallen part ≡ before
  pub then : IsPartOf (Befell moment ∷ part) history

-- a past is the present one, or that of what was before
either : (past : List Moment) (moment : Moment) (before : List Moment) → IsPast past (moment ∷ before) → (past ≡ moment ∷ before) ⊎ IsPast past before
either past moment before present = inl refl
either past moment before (later m b h) = inr h

pub ends_at : (moment : Moment) (before : List Moment) (history : List NodeMoment) → IsPast (moment ∷ before) (befallen history)
    → EndsAt moment before history
ends_at moment before [] past = absurd (nothing (moment ∷ before) [] past refl refl)
  where
    nothing : (one other : List Moment) → IsPast one other → one ≡ moment ∷ before → other ≡ [] → ⊥
    nothing one other present e f = cc
    nothing one other (later m b h) e f = cc
ends_at moment before (Befell m ∷ rest) past =
    elim (either (moment ∷ before) m (befallen rest) past) [
      | inl e ↦ (let same : moment ≡ m = cc in let tail : before ≡ befallen rest = cc in here same tail)
      | inr h ↦ (let g = ends_at moment before rest h in record { part = g.part; is = g.is; then = longer (Befell m) rest g.then })
    ]
  where
    here : moment ≡ m → before ≡ befallen rest → EndsAt moment before (Befell m ∷ rest)
    here same tail = rw same (record { part = rest; is = sym tail; then = whole })
ends_at moment before (FrameCame frame ∷ rest) past =
    let g = ends_at moment before rest past in record { part = g.part; is = g.is; then = longer (FrameCame frame) rest g.then }
