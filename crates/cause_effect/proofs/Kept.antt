-- What depends on no fact that changed keeps its value.
use Rattle.std.proofs.Common.{◌≡◌, ℕ, zero, suc, Bool, true, false, List, Option, Some, None, length, refl}
use Rattle.std.specs.Prelude.{slice_get}
use Rattle.std.specs.List.{list_any}
use Rattle.site_types.specs.declared.site.Site.{Site}
use Rattle.site_types.specs.declared.marker.Marker.{Marker}
use Rattle.site_types.specs.declared.term.Term.{Term}
use Rattle.site_types.specs.declared.term.Term.TheVariants.{Zone as ZoneTerm, Manual as ManualTerm, Fault as FaultTerm, Marker as MarkerTerm}
use Rattle.marker_table.specs.declared.facts.Facts.{Facts}
use Rattle.marker_table.specs.Equations.{holds, makes_true}
use Rattle.cause_effect.specs.Changes.{differ, is_changed, has_changed, DependsOnChanged, directly, through}
use Rattle.cause_effect.specs.Cycles.{is_marker, terms_of}
use Rattle.cause_effect.proofs.Depths.{solved, the_values}
use Rattle.cause_effect.proofs.Truths.{met_same, any_at, equal_number}

pub not_true : (b : Bool) → (b ≡ true → ⊥) → b ≡ false
not_true true h = absurd (h refl)
not_true false h = refl

differ_none : (a b : Bool) → differ a b ≡ false → a ≡ b
differ_none true true e = refl
differ_none true false e = cc
differ_none false true e = cc
differ_none false false e = refl

pub differ_self : (a : Bool) → differ a a ≡ false
differ_self true = refl
differ_self false = refl

-- where no item passes, none at a place does
none_at : {X : Type 0} (p : X → Bool) (xs : List X) (k : ℕ) (x : X) → slice_get xs k ≡ Some x → list_any p xs ≡ false → p x ≡ false
none_at p xs k x at none = not_true (p x) (λ h. let some = any_at p xs k x at h in cc (some, none))

holds_kept : (site : Site) (before after : Facts) (v w : ℕ → Bool) (term : Term) → is_changed site before after term ≡ false →
    ((other : ℕ) → is_marker other term ≡ true → v other ≡ w other) → holds site before v term ≡ holds site after w term
holds_kept site before after v w (ZoneTerm place) e same = differ_none _ _ e
holds_kept site before after v w (ManualTerm place) e same = differ_none _ _ e
holds_kept site before after v w (FaultTerm panel) e same = differ_none _ _ e
holds_kept site before after v w (MarkerTerm other) e same = same other (equal_number other)

makes_kept : (site : Site) (before after : Facts) (v w : ℕ → Bool) (marker : Option Marker)
    → list_any (is_changed site before after) (terms_of marker) ≡ false →
    ((other : ℕ) → list_any (is_marker other) (terms_of marker) ≡ true → v other ≡ w other)
    → makes_true site before v marker ≡ makes_true site after w marker
makes_kept site before after v w None none same = refl
makes_kept site before after v w (Some marker) none same =
    met_same marker.combine (holds site before v) (holds site after w) marker.terms
    (λ k term at. holds_kept site before after v w term (none_at (is_changed site before after) marker.terms k term at none)
    (λ other is. same other (any_at (is_marker other) marker.terms k term at is)))

solved_kept : (site : Site) (before after : Facts) (depth m : ℕ) → (DependsOnChanged site before after m → ⊥)
    → solved depth site before m ≡ solved depth site after m
solved_kept site before after zero m free = refl
solved_kept site before after (suc depth) m free =
    makes_kept site before after (solved depth site before) (solved depth site after) (slice_get site.markers m)
    (not_true (has_changed site before after m) (λ h. free (directly m h)))
    (λ other term. solved_kept site before after depth other (λ d. free (through m other term d)))

pub value_kept : (site : Site) (before after : Facts) (m : ℕ) → (DependsOnChanged site before after m → ⊥)
    → the_values site before m ≡ the_values site after m
value_kept site before after m free = solved_kept site before after (suc (length site.markers)) m free
