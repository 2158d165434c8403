-- What a turn of Desk takes of the operations that the desk has.
use Rattle.std.proofs.Common.{◌≡◌, ◌≢◌, ℕ, zero, suc, ◌+◌, ◌<◌, ◌==◌, ◌&&◌, Bool, true, false, not, List, [], ◌∷◌}
use Rattle.std.proofs.Common.{◌++◌, length, map, take, drop, get_or, Some, slice_get, if◌then◌else◌, inl, inr, refl}
use Rattle.std.proofs.Common.{sym, ◌∙◌, ap, subst, arith}
use Rattle.std.specs.Prelude.{filter, nat_lt}
use Rattle.std.specs.List.{AllByRecursion}
use Rattle.std.proofs.lemmas.Bool.Decides.{eqb_tells}
use Rattle.std.proofs.lemmas.List.{map-append}
use Rattle.std.proofs.lemmas.List.Elements.{filter-append}
use Rattle.std.proofs.lemmas.Option.{slice_get-get_or}
use Rattle.std.proofs.lemmas.List.Sums.{fold-append}
use Rattle.tick_units.specs.declared.task.Task.TheVariants.{Desk as DeskTask}
use Rattle.site_types.specs.declared.retained.Retained.{Retained}
use Rattle.site_types.specs.declared.site.Site.{Site}
use Rattle.site_types.specs.Changes.{IsPanelNumber}
use Rattle.site_types.specs.Limits.{most_operations}
use Rattle.panel_rules.specs.Moments.{Moment, Turned, IsRun, tick_of}
use Rattle.panel_rules.specs.Operations.{Operations, Request as RequestOf, after_desk, after_request, operations}
use Rattle.panel_rules.specs.Operations.{requests, requests_in}
use Rattle.panel_rules.proofs.Bools.{parts}
use Rattle.panel_rules.proofs.Counting.{each_at, each_filtered}
use Rattle.panel_rules.proofs.Floors.{lt_from}
use Rattle.panel_laws.proofs.AnswerLaws.{IsAsked, eq_is}
use Rattle.operation_desk.specs.declared.desk.Desk.{Desk}
use Rattle.operation_desk.specs.declared.request.Request.{Request}
use Rattle.operation_desk.specs.Changes.{HasSameRest, TakesRequest, firsts_of}
use Rattle.operation_desk.specs.Requests.{is_early, request_from, requests_from}
use Rattle.operation_desk.specs.Stands.{DesksFor, MayRule, MayTakeTurn, TellsOutcomes}
use Rattle.operation_desk.proofs.Bounds.{can_go_on, few_of_run, few_told, few_waiting}
use Rattle.operation_desk.proofs.Places.{taken_next}
use Rattle.operation_desk.proofs.Mine.{counted, early_mine, firsts_first, is_first}
use Rattle.operation_desk.proofs.Turning.{AreTaken, IsNext, in_force_desk, next}

-- ---- one place further

module _ (panel : ℕ) (asked : List Request) (n : ℕ) (request : Request) (is : slice_get asked n ≡ Some request) where
  firsts_next : firsts_of panel (take (n + 1) asked)
      ≡ firsts_of panel (take n asked) ++ (if request.panel == panel then request_from request ∷ [] else [])
  firsts_next =
      ap (λ xs. firsts_of panel xs) (taken_next asked n request is)
      ∙ ap (filter (λ (r : RequestOf). r.panel == panel)) (map-append request_from (take n asked) (request ∷ []))
      ∙ filter-append (λ (r : RequestOf). r.panel == panel) (requests_from (take n asked)) (requests_from (request ∷ []))

  pub own_more : request.panel ≡ panel → firsts_of panel (take (n + 1) asked) ≡ firsts_of panel (take n asked) ++ request_from request ∷ []
  own_more own =
      firsts_next ∙ ap (λ b. firsts_of panel (take n asked) ++ (if b then request_from request ∷ [] else []))
      (elim (eqb_tells request.panel panel) [ inl h ↦ h.0 | inr h ↦ absurd (h.1 own) ])

  pub own_same : request.panel ≢ panel → firsts_of panel (take (n + 1) asked) ≡ firsts_of panel (take n asked)
  own_same other =
      firsts_next
      ∙ not_there (request.panel == panel) (elim (eqb_tells request.panel panel) [ inl h ↦ absurd (other h.1) | inr h ↦ h.0 ])
      (firsts_of panel (take n asked))
    where
      not_there : (b : Bool) → b ≡ false → (xs : List RequestOf) → xs ++ (if b then request_from request ∷ [] else []) ≡ xs
      not_there b e [] = rw e refl
      not_there b e (x ∷ xs) = ap (λ ys. x ∷ ys) (not_there b e xs)

-- ---- all of a turn

module _ (site : Site) (kept settings : Retained) (panel : ℕ) (before : List Moment) (desk : Desk) (h : DesksFor site kept before desk) (m :
    MayTakeTurn site kept settings panel before) where
  abbrev all : List RequestOf
  all = requests site before

  abbrev tick : ℕ
  tick = tick_of before

  abbrev pub mine : List RequestOf
  mine = requests_in panel tick all

  abbrev pub lates : List RequestOf
  lates = filter (λ r. not (is_first r)) mine

  -- those that the desk has are the first of the panel, the others find it busy
  pub mine_is : mine ≡ firsts_of panel desk.asked.items ++ lates
  mine_is =
      firsts_first 0 mine (counted panel tick site before)
      ∙ ap (λ xs. xs ++ lates)
      (sym (ap (filter (λ (r : RequestOf). r.panel == panel)) h.asked ∙ early_mine panel tick all))

  run_then : IsRun site.panels (Turned panel DeskTask ∷ before)
  run_then = m.run

  pub taken : AreTaken site kept all tick (few_of_run site before tick) (operations site kept before) mine
  taken = record {
    from = each_filtered (IsAsked all) (λ (r : RequestOf). (r.panel == panel) && (r.tick == tick)) all (λ k r is t. record { place = k; is = is });
    now =
        each_filtered (λ (r : RequestOf). r.tick ≡ tick) (λ (r : RequestOf). (r.panel == panel) && (r.tick == tick)) all
        (λ k r is t. eq_is r.tick tick (parts (r.panel == panel) (r.tick == tick) t).1);
    on = can_go_on site kept (Turned panel DeskTask ∷ before) m.valid m.run m.of;
  }

  split_at : {X : Type 0} (xs : List X) (k : ℕ) (x : X) → slice_get xs k ≡ Some x → xs ≡ take k xs ++ x ∷ drop (k + 1) xs
  split_at [] k x e = cc
  split_at (y ∷ xs) zero x e = let s : y ≡ x = cc in ap (λ z. z ∷ xs) s
  split_at (y ∷ xs) (suc k) x e =
      let further : suc (k + 1) ≡ suc k + 1 = omega arith in
      ap (λ ys. y ∷ ys) (split_at xs k x e) ∙ ap (λ i. take (suc k) (y ∷ xs) ++ x ∷ drop i (y ∷ xs)) further

  -- the one at a place of the desk
  module _ (n : ℕ) (request : Request) (is : slice_get desk.asked.items n ≡ Some request) (own : request.panel ≡ panel) where
    same_panel : (request.panel == panel) ≡ true
    same_panel = elim (eqb_tells request.panel panel) [ inl t ↦ t.0 | inr t ↦ absurd (t.1 own) ]

    whole : mine ≡ firsts_of panel (take n desk.asked.items)
        ++ request_from request ∷ (firsts_of panel (drop (n + 1) desk.asked.items) ++ lates)
    whole =
        mine_is
        ∙ ap (λ xs. firsts_of panel xs ++ lates) (split_at desk.asked.items n request is)
        ∙ ap (λ xs. filter (λ (r : RequestOf). r.panel == panel) xs ++ lates)
        (map-append request_from (take n desk.asked.items) (request ∷ drop (n + 1) desk.asked.items))
        ∙ ap (λ xs. xs ++ lates)
        (filter-append (λ (r : RequestOf). r.panel == panel) (requests_from (take n desk.asked.items))
        (requests_from (request ∷ drop (n + 1) desk.asked.items))
        ∙ ap (λ b. firsts_of panel (take n desk.asked.items)
        ++ (if b then request_from request ∷ firsts_of panel (drop (n + 1) desk.asked.items) else firsts_of panel (drop (n + 1) desk.asked.items)))
        same_panel)
        ∙ join (firsts_of panel (take n desk.asked.items)) (request_from request ∷ firsts_of panel (drop (n + 1) desk.asked.items)) lates
      where
        join : {X : Type 0} (xs ys zs : List X) → (xs ++ ys) ++ zs ≡ xs ++ (ys ++ zs)
        join [] ys zs = refl
        join (x ∷ xs) ys zs = ap (λ ws. x ∷ ws) (join xs ys zs)

    abbrev so_far : Operations
    so_far = after_desk site kept (firsts_of panel (take n desk.asked.items)) (operations site kept before)

    next_is : IsNext site kept all tick (few_of_run site before tick) (operations site kept before) (firsts_of panel (take n desk.asked.items)) (request_from request)
    next_is =
        next site kept all tick (few_of_run site before tick) (operations site kept before) mine (firsts_of panel (take n desk.asked.items))
        (firsts_of panel (drop (n + 1) desk.asked.items) ++ lates) (request_from request) whole taken

    is_among : {X : Type 0} (xs : List X) (k : ℕ) (f : Request → X) (ys : List Request) → xs ≡ map f ys → slice_get ys k ≡ Some request
        → slice_get xs k ≡ Some (f request)
    is_among xs k f ys e at = ap (λ zs. slice_get zs k) e ∙ mapped ys k at
      where
        mapped : (ys : List Request) (k : ℕ) → slice_get ys k ≡ Some request → slice_get (map f ys) k ≡ Some (f request)
        mapped [] k at = cc
        mapped (y ∷ ys) zero at = let s : y ≡ request = cc in ap (λ z. Some (f z)) s
        mapped (y ∷ ys) (suc k) at = mapped ys k at

    early : is_early tick (request_from request) ≡ true
    early =
        each_at (λ (r : RequestOf). is_early tick r ≡ true) (filter (is_early tick) all) n (request_from request)
        (each_filtered (λ (r : RequestOf). is_early tick r ≡ true) (is_early tick) all (λ k r e t. t))
        (is_among (filter (is_early tick) all) n request_from desk.asked.items (sym h.asked) is)

    firsts_now : AllByRecursion (λ (r : RequestOf). r.tick ≡ tick) (firsts_of panel (take n desk.asked.items))
    firsts_now = front (firsts_of panel (take n desk.asked.items))
        (request_from request ∷ (firsts_of panel (drop (n + 1) desk.asked.items) ++ lates))
        (subst (AllByRecursion (λ (r : RequestOf). r.tick ≡ tick)) whole taken.now)
      where
        front : (xs ys : List RequestOf) → AllByRecursion (λ (r : RequestOf). r.tick ≡ tick) (xs ++ ys)
            → AllByRecursion (λ (r : RequestOf). r.tick ≡ tick) xs
        front [] ys a = tt
        front (x ∷ xs) ys a = (a.0, front xs ys a.1)

    panel_few : IsPanelNumber request.panel
    panel_few =
        let p = m.member in
        let few = m.valid.forms.panels.1 in
        (omega (arith, p.0, own), omega (arith, p.1, own, few))

    pub may_take : MayRule site kept settings all tick so_far request
    may_take = record {
      numbered = (few_of_run site before tick).numbered;
      place = next_is.from.place;
      is = next_is.from.is;
      now = next_is.now;
      early = lt_from request.earlier most_operations (parts (request.tick.0 == tick) (nat_lt request.earlier most_operations) early).1;
      panel = panel_few;
      in_force = λ setting known. m.in_force setting known ∙ sym (in_force_desk site kept setting tick (firsts_of panel (take n desk.asked.items)) (operations site kept before) firsts_now);
      unanswered = next_is.unanswered;
      few_told =
          few_told site kept all tick (few_of_run site before tick) (after_request site kept so_far (request_from request)) next_is.on;
      few_wait =
          few_waiting site kept all tick (few_of_run site before tick) (after_request site kept so_far (request_from request)) next_is.on;
    }

-- what a loop reads at a place
pub read_at : (asked now items : List Request) (n : ℕ) (d : Request) → items ≡ now → now ≡ asked → n < length asked
    → slice_get asked n ≡ Some (get_or items n d)
read_at asked now items n d e f within =
    let same : items ≡ asked = e ∙ f in
    ap (λ xs. slice_get xs n) (sym same) ∙ slice_get-get_or items n d (subst (λ (xs : List Request). n < length xs) (sym same) within)

-- ---- what a call made of the desk

pub rest_then : (first second third : Desk) → HasSameRest first second → HasSameRest second third → HasSameRest first third
rest_then first second third h g = record {
  tick = g.tick ∙ h.tick;
  number = g.number ∙ h.number;
  counts = g.counts ∙ h.counts;
  asked = g.asked ∙ h.asked;
  busy = g.busy ∙ h.busy;
  failed = g.failed ∙ h.failed;
}

module _ (site : Site) (kept settings : Retained) (panel : ℕ) (before : List Moment) (desk : Desk) (h : DesksFor site kept before desk) (m :
    MayTakeTurn site kept settings panel before) (n : ℕ) (request : Request) (is : slice_get desk.asked.items n ≡ Some request) where
  abbrev after_so_many : ℕ → Operations
  after_so_many k = after_desk site kept (firsts_of panel (take k desk.asked.items)) (operations site kept before)

  -- one place further, where the operation is the panel's and where it isn't
  pub took_more : (old new : Desk) → (request.panel ≡ panel → TakesRequest site settings request old new) → (request.panel ≢ panel → new ≡ old)
      → TellsOutcomes site kept (requests site before) (tick_of before) (after_so_many n) old
      → TellsOutcomes site kept (requests site before) (tick_of before) (after_so_many (n + 1)) new
  took_more old new own other told =
      elim (eqb_tells request.panel panel) [
        | inl t ↦
            (let more =
            ap (λ xs. after_desk site kept xs (operations site kept before)) (own_more panel desk.asked.items n request is t.1)
            ∙ fold-append (after_request site kept) (operations site kept before) (firsts_of panel (take n desk.asked.items)) (request_from request ∷ [])
            in
            subst (λ (o : Operations). TellsOutcomes site kept (requests site before) (tick_of before) o new) (sym more)
            (own t.1 kept (requests site before) (tick_of before) (after_so_many n) told
            (may_take site kept settings panel before desk h m n request is t.1)))
        | inr t ↦
            (let same = ap (λ xs. after_desk site kept xs (operations site kept before)) (own_same panel desk.asked.items n request is t.1) in
            subst (λ (o : Operations). TellsOutcomes site kept (requests site before) (tick_of before) o new) (sym same)
            (subst (λ (d : Desk). TellsOutcomes site kept (requests site before) (tick_of before) (after_so_many n) d) (sym (other t.1)) told))
      ]
