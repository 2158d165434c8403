-- The lines of the matrix and of a cycle, name by name.
use Rattle.std.proofs.Common.{◌≡◌, ◌<◌, ◌+◌, ℕ, suc, Bool, false, List, [], ◌∷◌, ◌++◌, Option, Some, None, length}
use Rattle.std.proofs.Common.{take, get_or, refl, sym, ap, subst, ◌∙◌, arith, append_assoc, append-nil, if◌then◌else◌}
use Rattle.std.specs.Prelude.{slice_get, codes}
use Rattle.std.proofs.lemmas.List.{take_more}
use Rattle.std.proofs.lemmas.Option.{get_or_from_slice_get, slice_get_within}
use Rattle.site_types.specs.declared.site.Site.{Site}
use Rattle.site_types.specs.declared.zone.Zone.{Zone}
use Rattle.site_types.specs.declared.output.Output.{Output}
use Rattle.marker_table.specs.declared.facts.Facts.{Facts}
use Rattle.cause_effect.specs.Cycles.{HasNoCycle}
use Rattle.cause_effect.specs.Solutions.{IsSolution}
use Rattle.cause_effect.proofs.Depths.{the_values, the_values_solve, same_solution}
use Rattle.site_commands.specs.Cycles.{name_of_marker, names_of_markers}
use Rattle.site_commands.specs.Matrix.{released_alone, names_asked, line_of_zone, lines_of_zones, IsMatrix}

-- ---- names behind names

names_behind : (values : ℕ → Bool) (xs ys : List Output) → names_asked values (xs ++ ys) ≡ names_asked values xs ++ names_asked values ys
names_behind values [] ys = refl
names_behind values (x ∷ xs) ys =
    ap (λ rest. (if values x.marker then codes " " ++ x.name.bytes else []) ++ rest) (names_behind values xs ys) ∙
    sym (append_assoc (if values x.marker then codes " " ++ x.name.bytes else []) (names_asked values xs) (names_asked values ys))

-- the name of the next output
pub names_next : (values : ℕ → Bool) (outputs : List Output) (k : ℕ) (output : Output) → slice_get outputs k ≡ Some output →
    names_asked values (take (k + 1) outputs) ≡ names_asked values (take k outputs)
    ++ (if values output.marker then codes " " ++ output.name.bytes else [])
names_next values outputs k output at =
    ap (names_asked values) (take_more outputs k output (slice_get_within outputs k output at)) ∙
    (names_behind values (take k outputs) (get_or outputs k output ∷ []) ∙
    ap (λ rest. names_asked values (take k outputs) ++ rest)
    (append-nil (if values (get_or outputs k output).marker then codes " " ++ (get_or outputs k output).name.bytes else []) ∙
    ap (λ (o : Output). if values o.marker then codes " " ++ o.name.bytes else []) (get_or_from_slice_get outputs k output output at)))

pub names_same : (v w : ℕ → Bool) (outputs : List Output) → ((m : ℕ) → v m ≡ w m) → names_asked v outputs ≡ names_asked w outputs
names_same v w [] same = refl
names_same v w (output ∷ rest) same =
    ap (λ b. (if b then codes " " ++ output.name.bytes else []) ++ names_asked v rest) (same output.marker) ∙
    ap (λ names. (if w output.marker then codes " " ++ output.name.bytes else []) ++ names) (names_same v w rest same)

markers_behind : (site : Site) (xs ys : List ℕ) → names_of_markers site (xs ++ ys) ≡ names_of_markers site xs ++ names_of_markers site ys
markers_behind site [] ys = refl
markers_behind site (x ∷ xs) ys =
    ap (λ rest. name_of_marker (slice_get site.markers x) ++ rest) (markers_behind site xs ys) ∙
    sym (append_assoc (name_of_marker (slice_get site.markers x)) (names_of_markers site xs) (names_of_markers site ys))

-- the name of the next marker of a cycle
pub markers_next : (site : Site) (markers : List ℕ) (k : ℕ) → k < length markers →
    names_of_markers site (take (k + 1) markers) ≡ names_of_markers site (take k markers)
    ++ name_of_marker (slice_get site.markers (get_or markers k 0))
markers_next site markers k less =
    ap (names_of_markers site) (take_more markers k 0 less) ∙
    (markers_behind site (take k markers) (get_or markers k 0 ∷ []) ∙
    ap (λ rest. names_of_markers site (take k markers) ++ rest) (append-nil (name_of_marker (slice_get site.markers (get_or markers k 0)))))

-- ---- lines

-- the values of the markers where the zone at a place is released alone
abbrev pub values_for : Site → Option Zone → ℕ → Bool
values_for site None m = false
values_for site (Some zone) m = the_values site (released_alone zone) m

abbrev pub values_at : Site → ℕ → ℕ → Bool
values_at site k = values_for site (slice_get site.zones k)

pub line_next : (site : Site) (values : ℕ → ℕ → Bool) (k : ℕ) → lines_of_zones site values (k + 1) ≡ lines_of_zones site values k
    ++ line_of_zone site (values k) (slice_get site.zones k)
unfolding lines_of_zones
line_next site values k = ap (lines_of_zones site values) (next k)
  where
    next : (n : ℕ) → n + 1 ≡ suc n
    next n = omega arith

pub no_lines : (site : Site) (values : ℕ → ℕ → Bool) → lines_of_zones site values 0 ≡ []
unfolding lines_of_zones
no_lines site values = refl

pub is_matrix : (site : Site) (k : ℕ) (text : List ℕ) → HasNoCycle site → k ≡ length site.zones → text ≡ lines_of_zones site (values_at site) k
    → IsMatrix site text
is_matrix site k text free whole e = record {
  values = values_at site;
  solved = λ place zone at. solved place zone at;
  lines = e ∙ ap (lines_of_zones site (values_at site)) whole;
}
  where
    solved : (place : ℕ) (zone : Zone) → slice_get site.zones place ≡ Some zone → IsSolution site (released_alone zone) (values_at site place)
    solved place zone at = rw at (the_values_solve site (released_alone zone) free)

-- the line of a zone, put together piece by piece
pub line_made : (site : Site) (zone : Zone) (facts : Facts) (v w : ℕ → Bool) (outputs : List Output) (old a b d : List ℕ) → HasNoCycle site
    → facts ≡ released_alone zone → outputs ≡ site.outputs →
    IsSolution site facts v → IsSolution site (released_alone zone) w → a ≡ old ++ zone.name.bytes → b ≡ a ++ names_asked v outputs
    → d ≡ b ++ codes "\n" → d ≡ old ++ line_of_zone site w (Some zone)
line_made site zone facts v w outputs old a b d free is listed sv sw e f g =
    let names : names_asked v outputs ≡ names_asked w site.outputs =
    ap (names_asked v) listed ∙ names_same v w site.outputs
    (same_solution site (released_alone zone) v w free (subst (λ (x : Facts). IsSolution site x v) is sv) sw) in
    g ∙ (ap (λ xs. xs ++ codes "\n") (f ∙ (ap (λ xs. xs ++ names_asked v outputs) e ∙ ap (λ xs. (old ++ zone.name.bytes) ++ xs) names)) ∙
    together old zone.name.bytes (names_asked w site.outputs) (codes "\n"))
  where
    together : (p q r s : List ℕ) → ((p ++ q) ++ r) ++ s ≡ p ++ ((q ++ r) ++ s)
    together p q r s = ap (λ xs. xs ++ s) (append_assoc p q r) ∙ append_assoc p (q ++ r) s

-- one line more
pub line_more : (site : Site) (k : ℕ) (zone : Zone) (old more : List ℕ) → slice_get site.zones k ≡ Some zone
    → old ≡ lines_of_zones site (values_at site) k →
    more ≡ old ++ line_of_zone site (the_values site (released_alone zone)) (Some zone) → more ≡ lines_of_zones site (values_at site) (k + 1)
line_more site k zone old more at e f =
    f ∙ (ap (λ xs. xs ++ line_of_zone site (the_values site (released_alone zone)) (Some zone)) e ∙
    (ap (λ xs. lines_of_zones site (values_at site) k ++ xs) (ap (λ (o : Option Zone). line_of_zone site (values_for site o) o) (sym at)) ∙ sym
    (line_next site (values_at site) k)))
