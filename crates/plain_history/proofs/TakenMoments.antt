-- The histories that the first moments of a list are.
use Rattle.std.proofs.Common.{◌≡◌, ◌≤◌, ◌<◌, ◌+◌, ◌∙◌, ℕ, List, ◌∷◌, length, take, get_or, sym, ap, subst}
use Rattle.std.proofs.lemmas.List.{take_all, take_more}
use Rattle.panel_rules.specs.Moments.{Moment as MomentOf}
use Rattle.plain_history.specs.declared.moment.Moment.{Moment}
use Rattle.plain_history.specs.Histories.{history, moment_of}
use Rattle.plain_history.proofs.Histories.{history_more}

-- one moment more
pub history_next : (P : List MomentOf → Type 0) (moments : List Moment) (k : ℕ) (moment : Moment) → k < length moments
    → moment ≡ get_or moments k moment → P (moment_of moment ∷ history (take k moments)) → P (history (take (k + 1) moments))
history_next P moments k moment l e p =
    subst P
    (ap (λ m. moment_of m ∷ history (take k moments)) e ∙ sym
    (ap history (take_more moments k moment l) ∙ history_more (take k moments) (get_or moments k moment))) p

-- all of them
pub history_all : (P : List MomentOf → Type 0) (moments : List Moment) (k : ℕ) → length moments ≤ k → P (history (take k moments))
    → P (history moments)
history_all P moments k l p = subst (λ ms. P (history ms)) (take_all k moments l) p
