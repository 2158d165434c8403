-- What an operation of the last tick makes of a mark.
use Rattle.std.proofs.Common.{◌≡◌, ℕ, ◌≤◌, ◌&&◌, ◌||◌, Bool, true, false, List, ◌∷◌, refl, sym, ◌∙◌, ap, arith}
use Rattle.std.specs.Prelude.{nat_le}
use Rattle.site_types.specs.declared.retained.Retained.{Retained}
use Rattle.site_types.specs.declared.site.Site.{Site}
use Rattle.site_types.specs.Done.{Done}
use Rattle.panel_rules.specs.Moments.{Moment, tick_of}
use Rattle.panel_rules.proofs.Floors.{le_to}
use Rattle.caused_zones.specs.declared.point_mark.PointMark.{PointMark}
use Rattle.caused_zones.specs.Stands.{MarkStands}
use Rattle.caused_zones.specs.Undoing.{mark_unless, undoes_at, was_undone}

never : (x : Bool) → x ≡ true → x ≡ false → ⊥
never true p q = absurd cc
never false p q = absurd cc

pub mark_undone : (site : Site) (kept : Retained) (done taken : List Done) (before : List Moment) (point : ℕ) (mark : PointMark) (d : Done)
    → d.tick ≡ tick_of before → MarkStands site kept done taken before point mark
    → MarkStands site kept done (d ∷ taken) before point (mark_unless (undoes_at site point d) mark)
mark_undone site kept done taken before point mark d at stands = go (undoes_at site point d) refl
  where
    same : (first : ℕ) → undoes_at site point d ≡ false
        → was_undone (undoes_at site point) first (d ∷ taken) ≡ was_undone (undoes_at site point) first taken
    same first e = ap (λ b. (b && nat_le first d.tick) || was_undone (undoes_at site point) first taken) e

    undone : (first : ℕ) → undoes_at site point d ≡ true → first ≤ tick_of before → was_undone (undoes_at site point) first (d ∷ taken) ≡ true
    undone first e l =
        ap (λ b. (b && nat_le first d.tick) || was_undone (undoes_at site point) first taken) e
        ∙ ap (λ b. b || was_undone (undoes_at site point) first taken) (le_to first d.tick (omega (arith, l, at)))

    go : (b : Bool) → undoes_at site point d ≡ b → MarkStands site kept done (d ∷ taken) before point (mark_unless b mark)
    go true e = record {
      last = λ some. absurd (omega (arith, some));
      last_lasts = λ some. absurd (omega (arith, some));
      latest = λ t c lasts. absurd (never (was_undone (undoes_at site point) t (d ∷ taken)) (undone t e c.past) lasts);
      run = λ some. absurd (omega (arith, some));
      run_lasts = λ some. absurd (omega (arith, some));
      earliest = λ some. absurd (omega (arith, some));
    }
    go false e = record {
      last = stands.last;
      last_lasts = λ some. same mark.last e ∙ stands.last_lasts some;
      latest = λ t c lasts. stands.latest t c (sym (same t e) ∙ lasts);
      run = stands.run;
      run_lasts = λ some. same mark.first e ∙ stands.run_lasts some;
      earliest = λ some first c lasts. stands.earliest some first c (sym (same first e) ∙ lasts);
    }
