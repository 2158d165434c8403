-- A turn of Desk: its panel's operations of the tick, one after another.
use Rattle.std.proofs.Common.{◌≡◌, ℕ, ◌+◌, ◌==◌, ◌&&◌, Bool, true, false, List, [], ◌∷◌, ◌++◌, Option, Some, None}
use Rattle.std.proofs.Common.{if◌then◌else◌, inl, inr, refl, sym, ◌∙◌, ap, subst, arith}
use Rattle.std.specs.Prelude.{nat_le, nat_lt}
use Rattle.std.specs.List.{AllByRecursion}
use Rattle.std.proofs.lemmas.Bool.Decides.{leb_tells}
use Rattle.std.proofs.lemmas.List.Sums.{fold-append}
use Rattle.site_types.specs.declared.retained.Retained.{Retained}
use Rattle.site_types.specs.declared.site.Site.{Site}
use Rattle.site_types.specs.Done.{Setting, in_force, is_on, value_set}
use Rattle.access_levels.specs.Levels.{needed_by}
use Rattle.site_types.specs.Limits.{most_operations}
use Rattle.site_types.proofs.Done.{lt_tells}
use Rattle.panel_rules.specs.Operations.{Answered, Operations, Reply, Request, Busy, Denied, Waiting, Already}
use Rattle.panel_rules.specs.Operations.{Store, WasDone}
use Rattle.panel_rules.specs.Operations.{after_desk, after_reply, after_request, desk_reply, setting_asked}
use Rattle.panel_rules.specs.Operations.{setting_reply}
use Rattle.panel_rules.specs.Operations.{done_in, is_unsettled, stands_so}
use Rattle.panel_rules.specs.Timeline.{answer_in, busy_count, is_busy}
use Rattle.panel_rules.proofs.Answering.{times_desk}
use Rattle.panel_rules.proofs.Counting.{count, one}
use Rattle.panel_rules.proofs.AnswersTell.{eq_true}
use Rattle.panel_laws.proofs.AnswerLaws.{IsAsked}
use Rattle.operation_desk.specs.Stands.{given_in, told_in}
use Rattle.operation_desk.proofs.Bounds.{AreFewAsked, CanGoOn, can_go_back, none_yet}
use Rattle.operation_desk.proofs.Given.{busy_more, told_same}

-- ---- a reply is busy exactly where four came earlier

busy_by_setting : (site : Site) (kept : Retained) (r : Request) (so_far : Operations) (o : Option Setting)
    → (reply : Reply) → setting_reply site kept r so_far o ≡ Some reply → is_busy reply ≡ false
busy_by_setting site kept r so_far None reply e = let s : WasDone ≡ reply = cc in subst (λ (x : Reply). is_busy x ≡ false) s refl
busy_by_setting site kept r so_far (Some setting) reply e =
    rows (is_unsettled setting r.tick so_far) (stands_so site kept setting r.tick (value_set r.operation) so_far.done) e
  where
    rows : (a b : Bool) → (if a then Some Waiting else (if b then Some Already else None)) ≡ Some reply → is_busy reply ≡ false
    rows true b e = let s : Waiting ≡ reply = cc in subst (λ (x : Reply). is_busy x ≡ false) s refl
    rows false true e = let s : Already ≡ reply = cc in subst (λ (x : Reply). is_busy x ≡ false) s refl
    rows false false e = cc

reply_busy : (site : Site) (kept : Retained) (r : Request) (so_far : Operations) (reply : Reply) → desk_reply site kept r so_far ≡ Some reply
    → is_busy reply ≡ nat_le most_operations r.earlier
reply_busy site kept r so_far reply e = go (nat_le most_operations r.earlier) (nat_lt r.level (needed_by r.operation)) e
  where
    go : (a b : Bool)
        → (if a then Some Busy else (if b then Some (Denied (needed_by r.operation) r.level) else setting_reply site kept r so_far (setting_asked r)))
        ≡ Some reply → is_busy reply ≡ a
    go true b e = let s : Busy ≡ reply = cc in subst (λ (x : Reply). is_busy x ≡ true) s refl
    go false true e = let s : Denied (needed_by r.operation) r.level ≡ reply = cc in subst (λ (x : Reply). is_busy x ≡ false) s refl
    go false false e = busy_by_setting site kept r so_far (setting_asked r) reply e

is_busy_then : (site : Site) (kept : Retained) (r : Request) (so_far : Operations) → nat_le most_operations r.earlier ≡ true
    → desk_reply site kept r so_far ≡ Some Busy
is_busy_then site kept r so_far e = rw e refl

-- ---- the settings in force stay

pub in_force_desk : (site : Site) (kept : Retained) (setting : Setting) (tick : ℕ) (taken : List Request) (so_far : Operations)
    → AllByRecursion (λ (r : Request). r.tick ≡ tick) taken
    → in_force site kept setting tick (after_desk site kept taken so_far).done ≡ in_force site kept setting tick so_far.done
in_force_desk site kept setting tick [] so_far all = refl
in_force_desk site kept setting tick (r ∷ taken) so_far all =
    in_force_desk site kept setting tick taken (after_request site kept so_far r) all.1 ∙ by_reply (desk_reply site kept r so_far)
  where
    not_yet : (b : Bool) → (b && nat_lt r.tick tick) ≡ false
    not_yet b =
        elim (lt_tells r.tick tick) [
          | inl h ↦ (let l = h.1 in let e = all.0 in absurd (omega (arith, l, e)))
          | inr h ↦ ap (λ x. b && x) h.0 ∙ shut b
        ]
      where
        shut : (b : Bool) → (b && false) ≡ false
        shut true = refl
        shut false = refl

    by_reply : (o : Option Reply) → in_force site kept setting tick (after_reply r so_far o).done ≡ in_force site kept setting tick so_far.done
    by_reply None = refl
    by_reply (Some Busy) = refl
    by_reply (Some (Denied needs has)) = refl
    by_reply (Some Waiting) = refl
    by_reply (Some Already) = refl
    by_reply (Some Store) = refl
    by_reply (Some WasDone) = rw (not_yet (is_on setting (done_in r.tick r))) refl

-- ---- one operation more, of those that a turn takes

module _ (site : Site) (kept : Retained) (asked : List Request) (tick : ℕ) (few : AreFewAsked asked tick) (start : Operations) where
  -- those of a turn: asked for in the tick, and each may be taken
  pub record AreTaken (mine : List Request) : Type 0 where
    pub from : AllByRecursion (IsAsked asked) mine
    pub now : AllByRecursion (λ (r : Request). r.tick ≡ tick) mine
    pub on : CanGoOn asked tick (after_desk site kept mine start)

  -- what the next one finds
  pub record IsNext (taken : List Request) (r : Request) : Type 0 where
    pub from : IsAsked asked r
    pub now : r.tick ≡ tick
    pub unanswered : answer_in site kept tick (after_desk site kept taken start).answers r ≡ None
    pub on : CanGoOn asked tick (after_request site kept (after_desk site kept taken start) r)

  pub all_behind : {X : Type 0} (P : X → Type 0) (xs ys : List X) → AllByRecursion P (xs ++ ys) → AllByRecursion P ys
  all_behind P [] ys all = all
  all_behind P (x ∷ xs) ys all = all_behind P xs ys all.1

  pub next : (mine taken rest : List Request) (r : Request) → mine ≡ taken ++ r ∷ rest → AreTaken mine → IsNext taken r
  next mine taken rest r whole h =
      let from = all_behind (IsAsked asked) taken (r ∷ rest) (subst (AllByRecursion (IsAsked asked)) whole h.from) in
      let now = all_behind (λ (x : Request). x.tick ≡ tick) taken (r ∷ rest) (subst (AllByRecursion (λ (x : Request). x.tick ≡ tick)) whole h.now) in
      let split : after_desk site kept mine start ≡ after_desk site kept rest (after_request site kept (after_desk site kept taken start) r) =
      ap (λ xs. after_desk site kept xs start) whole ∙ fold-append (after_request site kept) start taken (r ∷ rest) in
      let on = can_go_back asked tick site kept rest (after_request site kept (after_desk site kept taken start) r) (subst (CanGoOn asked tick) split h.on)
      in
      let once = on.once r.number in
      let more = times_desk (λ (x : Request). x.number == r.number) site kept (r ∷ []) (after_desk site kept taken start) in
      let here : count (λ (x : Request). x.number == r.number) (r ∷ []) ≡ 1 = rw (eq_true r.number r.number refl) refl in
      let before = can_go_back asked tick site kept (r ∷ []) (after_desk site kept taken start) on in
      record {
        from = from.0;
        now = now.0;
        unanswered =
            none_yet site kept asked tick few (after_desk site kept taken start) before r (omega (arith, once, more, here));
        on = on;
      }

  -- how many find a panel busy
  busy_step : (panel : ℕ) (taken : List Request) (r : Request) → IsNext taken r
      → busy_count panel (given_in site kept tick (after_request site kept (after_desk site kept taken start) r).answers asked)
      ≡ one ((r.panel == panel) && nat_le most_operations r.earlier)
      + busy_count panel (given_in site kept tick (after_desk site kept taken start).answers asked)
  busy_step panel taken r n = go (desk_reply site kept r (after_desk site kept taken start)) refl
    where
      so_far : Operations
      so_far = after_desk site kept taken start

      none_is_late : desk_reply site kept r so_far ≡ None → nat_le most_operations r.earlier ≡ false
      none_is_late e = elim (leb_tells most_operations r.earlier) [
        | inl h ↦ (let x = sym (is_busy_then site kept r so_far h.0) ∙ e in absurd cc)
        | inr h ↦ h.0
      ]

      shut : (b : Bool) → one (b && false) ≡ 0
      shut true = refl
      shut false = refl

      go : (o : Option Reply) → desk_reply site kept r so_far ≡ o
          → busy_count panel (given_in site kept tick (after_reply r so_far o).answers asked)
          ≡ one ((r.panel == panel) && nat_le most_operations r.earlier) + busy_count panel (given_in site kept tick so_far.answers asked)
      go None e =
          let z = ap (λ b. one ((r.panel == panel) && b)) (none_is_late e) ∙ shut (r.panel == panel) in
          omega (arith, z)
      go (Some reply) e =
          let a : Answered = record { request = r; tick = r.tick; reply = reply } in
          let m = busy_more site kept tick so_far.answers a asked n.from.place few.numbered n.from.is n.now n.unanswered panel in
          m ∙ ap (λ b. one ((r.panel == panel) && b) + busy_count panel (given_in site kept tick so_far.answers asked))
          (reply_busy site kept r so_far reply e)

  pub busy_all : (panel : ℕ) (mine taken rest : List Request) → mine ≡ taken ++ rest → AreTaken mine
      → busy_count panel (given_in site kept tick (after_desk site kept rest (after_desk site kept taken start)).answers asked)
      ≡ count (λ (r : Request). (r.panel == panel) && nat_le most_operations r.earlier) rest
      + busy_count panel (given_in site kept tick (after_desk site kept taken start).answers asked)
  busy_all panel mine taken [] whole h = omega arith
  busy_all panel mine taken (r ∷ rest) whole h =
      let n = next mine taken rest r whole h in
      let step = busy_step panel taken r n in
      let on_from : after_desk site kept (taken ++ r ∷ []) start ≡ after_request site kept (after_desk site kept taken start) r =
      fold-append (after_request site kept) start taken (r ∷ []) in
      let ih = busy_all panel mine (taken ++ r ∷ []) rest (whole ∙ join taken r rest) h in
      let ih' =
      subst
      (λ (o : Operations). busy_count panel (given_in site kept tick (after_desk site kept rest o).answers asked)
      ≡ count (λ (x : Request). (x.panel == panel) && nat_le most_operations x.earlier) rest + busy_count panel (given_in site kept tick o.answers asked))
      on_from ih in
      omega (arith, step, ih')
    where
      join : (xs : List Request) (x : Request) (ys : List Request) → xs ++ x ∷ ys ≡ (xs ++ x ∷ []) ++ ys
      join [] x ys = refl
      join (y ∷ xs) x ys = ap (λ zs. y ∷ zs) (join xs x ys)

  -- those that find it busy change nothing else
  pub late_same : (mine taken rest : List Request) → mine ≡ taken ++ rest → AreTaken mine
      → AllByRecursion (λ (r : Request). nat_le most_operations r.earlier ≡ true) rest
      → (let before : Operations = after_desk site kept taken start in let after : Operations = after_desk site kept rest before in
      (after.waiting ≡ before.waiting) × (after.done ≡ before.done)
      × (told_in site kept tick after.answers asked ≡ told_in site kept tick before.answers asked))
  late_same mine taken [] whole h late = (refl, refl, refl)
  late_same mine taken (r ∷ rest) whole h late =
      let n = next mine taken rest r whole h in
      let so_far : Operations = after_desk site kept taken start in
      let a : Answered = record { request = r; tick = r.tick; reply = Busy } in
      let reply = is_busy_then site kept r so_far late.0 in
      let step : after_request site kept so_far r ≡ record so_far { answers = a ∷ so_far.answers } = ap (after_reply r so_far) reply in
      let told = told_same site kept tick so_far.answers a asked n.from.place few.numbered n.from.is n.now n.unanswered refl in
      let on_from : after_desk site kept (taken ++ r ∷ []) start ≡ after_request site kept so_far r =
      fold-append (after_request site kept) start taken (r ∷ []) in
      let ih = late_same mine (taken ++ r ∷ []) rest (whole ∙ join taken r rest) h late.1 in
      let ih' =
      subst
      (λ (o : Operations). ((after_desk site kept rest o).waiting ≡ o.waiting) × ((after_desk site kept rest o).done ≡ o.done)
      × (told_in site kept tick (after_desk site kept rest o).answers asked ≡ told_in site kept tick o.answers asked)) on_from ih in (
        ih'.0 ∙ ap (λ (o : Operations). o.waiting) step,
        ih'.1 ∙ ap (λ (o : Operations). o.done) step,
        ih'.2 ∙ ap (λ (o : Operations). told_in site kept tick o.answers asked) step ∙ told,
      )
    where
      join : (xs : List Request) (x : Request) (ys : List Request) → xs ++ x ∷ ys ≡ (xs ++ x ∷ []) ++ ys
      join [] x ys = refl
      join (y ∷ xs) x ys = ap (λ zs. y ∷ zs) (join xs x ys)
