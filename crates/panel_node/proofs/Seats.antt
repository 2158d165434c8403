-- The turns of all seats of a site in canonical order, of which a panel by itself makes its own and Keep's.
use Rattle.std.proofs.Common.{◌≡◌, ◌≢◌, ◌∙◌, ◌<◌, ◌++◌, ℕ, zero, suc, Bool, false, List, [], ◌∷◌, inl, inr, refl, sym, ap, subst, arith, append_assoc}
use Rattle.std.specs.List.{AllByRecursion}
use Rattle.std.proofs.lemmas.Bool.Decides.{eqb_tells}
use Rattle.tick_units.specs.declared.seat.Seat.{Seat}
use Rattle.tick_units.specs.declared.task.Task.TheVariants.{Keep}
use Rattle.tick_units.specs.Orders.{canonical_seats, keep_seat, panel_seats, seats_of_panels}
use Rattle.site_types.specs.declared.retained.Retained.{Retained}
use Rattle.site_types.specs.declared.site.Site.{Site}
use Rattle.node_rules.specs.Histories.{Befell, NodeMoment, befallen}
use Rattle.panel_core.specs.Changes.{AreOfPanels}
use Rattle.panel_core.proofs.Orders.{before_turns, turn_is, turns_tick}
use Rattle.panel_rules.specs.Moments.{Kept, IsPanel, IsRun, and_turns, tick_of, turn_of}
use Rattle.panel_node.specs.declared.node.Node.{Node}
use Rattle.panel_node.specs.Seats.{and_seats}
use Rattle.panel_node.specs.Stands.{NodeStandsFor}
use Rattle.panel_node.proofs.Next.{stands_elsewhere}

-- ---- turns in a history

-- what befell with them
pub befallen_seats : (failed : Bool) (seats : List Seat) (history : List NodeMoment) → befallen (and_seats failed seats history) ≡ and_turns failed seats (befallen history)
befallen_seats failed [] history = refl
befallen_seats failed (seat ∷ seats) history = befallen_seats failed seats (Befell (turn_of failed seat.panel seat.task) ∷ history)

pub seats_append : (failed : Bool) (xs ys : List Seat) (history : List NodeMoment) → and_seats failed (xs ++ ys) history ≡ and_seats failed ys (and_seats failed xs history)
seats_append failed [] ys history = refl
seats_append failed (x ∷ xs) ys history = seats_append failed xs ys (Befell (turn_of failed x.panel x.task) ∷ history)

-- those of panels are the same, whether Keep failed or not
pub same_seats : (failed other : Bool) (seats : List Seat) (history : List NodeMoment) → AreOfPanels seats → and_seats failed seats history ≡ and_seats other seats history
same_seats failed other [] history all = refl
same_seats failed other (seat ∷ seats) history all =
    ap (λ m. and_seats failed seats (Befell m ∷ history)) (turn_is failed seat.panel seat.task all.0 ∙ sym (turn_is other seat.panel seat.task all.0))
    ∙ same_seats failed other seats (Befell (turn_of other seat.panel seat.task) ∷ history) all.1

-- ---- the seats of a site by a panel

abbrev IsElsewhere : ℕ → Seat → Type 0
IsElsewhere panel seat = (seat.panel ≢ panel) × (seat.task ≢ Keep)

abbrev pub AreElsewhere : ℕ → List Seat → Type 0
AreElsewhere panel seats = AllByRecursion (IsElsewhere panel) seats

elsewhere_both : (panel : ℕ) (xs ys : List Seat) → AreElsewhere panel xs → AreElsewhere panel ys → AreElsewhere panel (xs ++ ys)
elsewhere_both panel [] ys all more = more
elsewhere_both panel (x ∷ xs) ys all more = (all.0, elsewhere_both panel xs ys all.1 more)

elsewhere_seats : (panel other : ℕ) → other ≢ panel → AreElsewhere panel (panel_seats other)
elsewhere_seats panel other apart =
    ((apart, λ e. cc), ((apart, λ e. cc), ((apart, λ e. cc), ((apart, λ e. cc), ((apart, λ e. cc), ((apart, λ e. cc), ((apart, λ e. cc), ((apart, λ e. cc), tt))))))))

below_seats : (panel count : ℕ) → count < panel → AreElsewhere panel (seats_of_panels count)
below_seats panel zero less = tt
below_seats panel (suc count) less =
    elsewhere_both panel (seats_of_panels count) (panel_seats (suc count)) (below_seats panel count (omega (arith, less)))
    (elsewhere_seats panel (suc count) (λ same. absurd (omega (arith, same, less))))

pub record IsParted (panel : ℕ) (seats : List Seat) : Type 0 where
  pub earlier : List Seat
  pub later : List Seat
  pub is : seats ≡ earlier ++ (panel_seats panel ++ later)
  pub elsewhere_earlier : AreElsewhere panel earlier
  pub elsewhere_later : AreElsewhere panel later

append_none : (xs : List Seat) → xs ≡ xs ++ []
append_none [] = refl
append_none (x ∷ xs) = ap (λ ys. x ∷ ys) (append_none xs)

pub parted : (panel count : ℕ) → IsPanel count panel → IsParted panel (seats_of_panels count)
parted panel zero p = absurd (omega (arith, p.0, p.1))
parted panel (suc count) p = elim (eqb_tells panel (suc count)) [
  | inl t ↦ record {
    earlier = seats_of_panels count;
    later = [];
    is =
        ap (λ q. seats_of_panels count ++ panel_seats q) (sym t.1)
        ∙ ap (λ xs. seats_of_panels count ++ xs) (append_none (panel_seats panel));
    elsewhere_earlier = below_seats panel count (let same = t.1 in omega (arith, same));
    elsewhere_later = tt;
  }
  | inr t ↦ (
      let before = parted panel count (p.0, (let apart = t.1 in omega (arith, p.1, apart))) in
      record {
        earlier = before.earlier;
        later = before.later ++ panel_seats (suc count);
        is =
            ap (λ xs. xs ++ panel_seats (suc count)) before.is
            ∙ append_assoc before.earlier (panel_seats panel ++ before.later) (panel_seats (suc count))
            ∙ ap (λ xs. before.earlier ++ xs) (append_assoc (panel_seats panel) before.later (panel_seats (suc count)));
        elsewhere_earlier = before.elsewhere_earlier;
        elsewhere_later =
            elsewhere_both panel before.later (panel_seats (suc count)) before.elsewhere_later
            (elsewhere_seats panel (suc count) (λ same. t.1 (sym same)));
      })
]

-- ---- turns of the other panels

of_panels : (panel : ℕ) (seats : List Seat) → AreElsewhere panel seats → AreOfPanels seats
of_panels panel [] all = tt
of_panels panel (seat ∷ seats) all = (all.0.1, of_panels panel seats all.1)

panels_both : (xs ys : List Seat) → AreOfPanels xs → AreOfPanels ys → AreOfPanels (xs ++ ys)
panels_both [] ys all more = more
panels_both (x ∷ xs) ys all more = (all.0, panels_both xs ys all.1 more)

panels_own : (panel : ℕ) → AreOfPanels (panel_seats panel)
panels_own panel = (λ e. cc, (λ e. cc, (λ e. cc, (λ e. cc, (λ e. cc, (λ e. cc, (λ e. cc, (λ e. cc, tt))))))))

-- they change nothing
pub stands_others : (site : Site) (panel : ℕ) (kept : Retained) (node : Node) (seats : List Seat) (history : List NodeMoment) → AreElsewhere panel seats
    → NodeStandsFor site panel kept history node → NodeStandsFor site panel kept (and_seats false seats history) node
stands_others site panel kept node [] history all h = h
stands_others site panel kept node (seat ∷ seats) history all h =
    stands_others site panel kept node seats (Befell (turn_of false seat.panel seat.task) ∷ history) all.1
    (subst (λ m. NodeStandsFor site panel kept (Befell m ∷ history) node) (sym (turn_is false seat.panel seat.task all.0.1))
    (stands_elsewhere site panel kept history node h seat.panel seat.task all.0.0))

-- ---- the turns of a tick

module _ (site : Site) (panel : ℕ) (kept : Retained) (history : List NodeMoment) (member : IsPanel site.panels panel) where
  abbrev pub seats : List Seat
  seats = seats_of_panels site.panels

  abbrev pub parts : IsParted panel seats
  parts = parted panel site.panels member

  -- a history with the turns of the panels before it, and with those of all panels
  abbrev pub at_own : List NodeMoment
  at_own = and_seats false parts.earlier history

  abbrev pub at_keep : List NodeMoment
  at_keep = and_seats false seats history

  pub all_panels : AreOfPanels seats
  all_panels =
      subst AreOfPanels (sym parts.is)
      (panels_both parts.earlier (panel_seats panel ++ parts.later) (of_panels panel parts.earlier parts.elsewhere_earlier)
      (panels_both (panel_seats panel) parts.later (panels_own panel) (of_panels panel parts.later parts.elsewhere_later)))

  pub keep_is : at_keep ≡ and_seats false parts.later (and_seats false (panel_seats panel) at_own)
  keep_is =
      ap (λ xs. and_seats false xs history) parts.is
      ∙ seats_append false parts.earlier (panel_seats panel ++ parts.later) history
      ∙ seats_append false (panel_seats panel) parts.later at_own

  -- with all of the tick
  pub all_is : (failed : Bool) → Befell (Kept failed) ∷ at_keep ≡ and_seats failed (canonical_seats site.panels) history
  all_is failed =
      ap (λ h. Befell (Kept failed) ∷ h) (same_seats false failed seats history all_panels)
      ∙ sym (seats_append failed seats (keep_seat ∷ []) history)

  pub keep_befallen : befallen at_keep ≡ and_turns false seats (befallen history)
  keep_befallen = befallen_seats false seats history

  pub all_befallen : (failed : Bool) → and_turns failed (canonical_seats site.panels) (befallen history) ≡ Kept failed ∷ befallen at_keep
  all_befallen failed = sym (befallen_seats failed (canonical_seats site.panels) history) ∙ sym (ap befallen (all_is failed))

  module _ (run : IsRun site.panels (and_turns false (canonical_seats site.panels) (befallen history))) where
    pub keep_run : IsRun site.panels (Kept false ∷ befallen at_keep)
    keep_run = subst (IsRun site.panels) (all_befallen false) run

    pub own_run : IsRun site.panels (and_turns false (panel_seats panel) (befallen at_own))
    own_run =
        subst (IsRun site.panels) (befallen_seats false (panel_seats panel) at_own)
        (rest (and_seats false (panel_seats panel) at_own) (subst (λ h. IsRun site.panels (befallen h)) keep_is keep_run.0))
      where
        rest : (h : List NodeMoment) → IsRun site.panels (befallen (and_seats false parts.later h)) → IsRun site.panels (befallen h)
        rest h r = before_turns site.panels false parts.later (befallen h) (subst (IsRun site.panels) (befallen_seats false parts.later h) r)

  pub own_tick : tick_of (befallen at_own) ≡ tick_of (befallen history)
  own_tick = ap tick_of (befallen_seats false parts.earlier history) ∙ turns_tick false parts.earlier (befallen history)

  pub keep_tick : tick_of (befallen at_keep) ≡ tick_of (befallen history)
  keep_tick = ap tick_of keep_befallen ∙ turns_tick false seats (befallen history)

  -- a panel that had its own turns stands for those of all
  pub stands_at_keep : (node : Node) → NodeStandsFor site panel kept (and_seats false (panel_seats panel) at_own) node → NodeStandsFor site panel kept at_keep node
  stands_at_keep node h =
      subst (λ x. NodeStandsFor site panel kept x node) (sym keep_is)
      (stands_others site panel kept node parts.later (and_seats false (panel_seats panel) at_own) parts.elsewhere_later h)
