-- What each call of a bench leaves it with.
use Rattle.std.proofs.Common.{◌≡◌, ◌⊎◌, inl, inr, ℕ, zero, suc, ◌+◌, ◌<◌, ◌≤◌, List, [], ◌∷◌, ◌++◌, length, drop}
use Rattle.std.proofs.Common.{Some, slice_get, refl, sym, ◌∙◌, ap, subst, arith, append_assoc, take-append-drop}
use Rattle.std.proofs.Common.{length-drop}
use Rattle.std.proofs.lemmas.List.{take_all}
use Rattle.std.proofs.lemmas.Option.{same_Some, slice_get_within}
use Rattle.tick_units.specs.Lane.{LaneState, with_put, after_turn, turn_count}
use Rattle.site_types.specs.declared.site.Site.{Site}
use Rattle.site_types.specs.declared.answer.Answer.{Answer}
use Rattle.site_types.specs.declared.operation.Operation.{Operation}
use Rattle.site_types.specs.declared.retained.Retained.{Retained}
use Rattle.site_types.specs.Done.{Done, Setting, AreBy}
use Rattle.site_types.specs.Valid.{IsValid}
use Rattle.site_types.proofs.Done.{by_later}
use Rattle.coincidence_rules.specs.InOrder.{AreInOrder}
use Rattle.coincidence_rules.specs.declared.finding.Finding.{Finding}
use Rattle.coincidence_rules.proofs.Lists.{get_left}
use Rattle.coincidence.specs.declared.decide.Decide.{Decide}
use Rattle.coincidence.specs.Premises.{IsOwn, MayTake, MayApply}
use Rattle.coincidence_rules.specs.Applied.{NoneIn}
use Rattle.coincidence.specs.Stands.{DecidesFor, CanTake, CanApply, taken_by}
use Rattle.part_trials.specs.Bench.{IsUpTo, IsReady, MayPut, MayDo}

get_push : {X : Type 0} (xs : List X) (x : X) (k : ℕ) (y : X) → slice_get (xs ++ x ∷ []) k ≡ Some y
    → (slice_get xs k ≡ Some y) ⊎ ((k ≡ length xs) × (x ≡ y))
get_push [] x zero y h = inr (refl, same_Some x y h)
get_push [] x (suc k) y h = absurd (cc)
get_push (z ∷ xs) x zero y h = inl h
get_push (z ∷ xs) x (suc k) y h = elim (get_push xs x k y h) [ inl a ↦ inl a | inr b ↦ inr (ap suc b.0, b.1) ]

-- an answer later than all of a list
abbrev IsLater : ℕ → ℕ → Answer → Type 0
IsLater stamp point a = (stamp < a.stamp.0) ⊎ ((a.stamp.0 ≡ stamp) × (point < a.point))

not_before : (stamp point : ℕ) (b a : Answer) → IsUpTo stamp point b → IsLater stamp point a → b.stamp.0 ≤ a.stamp.0
not_before stamp point b a (inl x) (inl y) = omega (arith, x, y)
not_before stamp point b a (inl x) (inr y) = omega (arith, x, y.0)
not_before stamp point b a (inr x) (inl y) = omega (arith, x.0, y)
not_before stamp point b a (inr x) (inr y) = omega (arith, x.0, y.0)

not_again : (stamp point : ℕ) (b a : Answer) → IsUpTo stamp point b → IsLater stamp point a → b.point ≡ a.point → b.stamp.0 ≡ a.stamp.0 → ⊥
not_again stamp point b a (inl x) (inl y) p s = absurd (omega (arith, x, y, s))
not_again stamp point b a (inl x) (inr y) p s = absurd (omega (arith, x, y.0, s))
not_again stamp point b a (inr x) (inl y) p s = absurd (omega (arith, x.0, y, s))
not_again stamp point b a (inr x) (inr y) p s = absurd (omega (arith, x.1, y.1, p))

up_to_later : (stamp point : ℕ) (b a : Answer) → IsUpTo stamp point b → IsLater stamp point a → IsUpTo a.stamp.0 a.point b
up_to_later stamp point b a (inl x) (inl y) = inl (omega (arith, x, y))
up_to_later stamp point b a (inl x) (inr y) = inl (omega (arith, x, y.0))
up_to_later stamp point b a (inr x) (inl y) = inl (omega (arith, x.0, y))
up_to_later stamp point b a (inr x) (inr y) = inr (omega (arith, x.0, y.0), omega (arith, x.1, y.1))

module _ (xs : List Answer) (a : Answer) (stamp point : ℕ) (last : (k : ℕ) (b : Answer) → slice_get xs k ≡ Some b → IsUpTo stamp point b) (later :
    IsLater stamp point a) where
  rising : AreInOrder xs → (i j : ℕ) (b c : Answer) → i ≤ j → (slice_get xs i ≡ Some b) ⊎ ((i ≡ length xs) × (a ≡ b))
      → (slice_get xs j ≡ Some c) ⊎ ((j ≡ length xs) × (a ≡ c)) → b.stamp.0 ≤ c.stamp.0
  rising o i j b c le (inl f) (inl g) = o.rising i j b c le f g
  rising o i j b c le (inl f) (inr g) = subst (λ (x : Answer). b.stamp.0 ≤ x.stamp.0) g.1 (not_before stamp point b a (last i b f) later)
  rising o i j b c le (inr f) (inl g) = absurd (omega (arith, le, f.0, slice_get_within xs j c g))
  rising o i j b c le (inr f) (inr g) = (let same : b ≡ c = sym f.1 ∙ g.1 in subst (λ (x : Answer). b.stamp.0 ≤ x.stamp.0) same (omega arith))

  once : AreInOrder xs → (i j : ℕ) (b c : Answer) → (slice_get xs i ≡ Some b) ⊎ ((i ≡ length xs) × (a ≡ b))
      → (slice_get xs j ≡ Some c) ⊎ ((j ≡ length xs) × (a ≡ c)) → b.point ≡ c.point → b.stamp.0 ≡ c.stamp.0 → i ≡ j
  once o i j b c (inl f) (inl g) p s = o.once i j b c f g p s
  once o i j b c (inl f) (inr g) p s =
      absurd (not_again stamp point b a (last i b f) later (p ∙ sym (ap (λ (x : Answer). x.point) g.1))
      (s ∙ sym (ap (λ (x : Answer). x.stamp.0) g.1)))
  once o i j b c (inr f) (inl g) p s =
      absurd (not_again stamp point c a (last j c g) later (sym p ∙ sym (ap (λ (x : Answer). x.point) f.1))
      (sym s ∙ sym (ap (λ (x : Answer). x.stamp.0) f.1)))
  once o i j b c (inr f) (inr g) p s = f.0 ∙ sym g.0

  in_order_more : AreInOrder xs → AreInOrder (xs ++ a ∷ [])
  in_order_more o = record {
    rising = λ i j b c le f g. rising o i j b c le (get_push xs a i b f) (get_push xs a j c g);
    once = λ i j b c f g p s. once o i j b c (get_push xs a i b f) (get_push xs a j c g) p s;
  }

  last_more : (k : ℕ) (b : Answer) → slice_get (xs ++ a ∷ []) k ≡ Some b → IsUpTo a.stamp.0 a.point b
  last_more k b f = elim (get_push xs a k b f) [
    | inl g ↦ up_to_later stamp point b a (last k b g) later
    | inr g ↦ subst (IsUpTo a.stamp.0 a.point) g.1 (inr (refl, omega arith))
  ]

-- after an answer was put
pub put_more : (site : Site) (panel : ℕ) (decide : Decide) (answers : LaneState Answer) (findings : LaneState Finding) (stamp point at : ℕ) (a :
    Answer) → IsReady site panel decide answers findings stamp point at → MayPut site panel answers stamp point at a
    → IsReady site panel decide (with_put answers (a ∷ [])) findings a.stamp.0 a.point at
put_more site panel decide answers findings stamp point at a h may =
    let joined : (h.taken ++ answers.items) ++ a ∷ [] ≡ h.taken ++ (answers.items ++ a ∷ []) = rw append_assoc refl in
    record {
      valid = h.valid;
      kept = h.kept;
      done = h.done;
      taken = h.taken;
      stands = h.stands;
      may =
          record {
            own = λ k b is. own k b (get_push answers.items a k b is);
            order = subst AreInOrder joined (in_order_more (h.taken ++ answers.items) a stamp point h.last may.later h.may.order);
            since = λ k b is. since k b (get_push answers.items a k b is);
          };
      last =
          λ k b is. last_more (h.taken ++ answers.items) a stamp point h.last may.later k b (subst (λ xs. slice_get xs k ≡ Some b) (sym joined) is);
      by = h.by;
      lanes = h.lanes;
      few = grown answers.items may.few;
    }
  where
    own : (k : ℕ) (b : Answer) → (slice_get answers.items k ≡ Some b) ⊎ ((k ≡ length answers.items) × (a ≡ b)) → IsOwn site panel b.point
    own k b (inl g) = h.may.own k b g
    own k b (inr g) = subst (λ (x : Answer). IsOwn site panel x.point) g.1 may.own

    since : (k : ℕ) (b : Answer) → (slice_get answers.items k ≡ Some b) ⊎ ((k ≡ length answers.items) × (a ≡ b)) → AreBy b.stamp.0 h.done
    since k b (inl g) = h.may.since k b g
    since k b (inr g) = subst (λ (x : Answer). AreBy x.stamp.0 h.done) g.1 (by_later at a.stamp.0 h.done may.since h.by)

    longer : (xs : List Answer) → length (xs ++ a ∷ []) ≡ length xs + 1
    longer [] = refl
    longer (x ∷ xs) = (let e = longer xs in omega (arith, e))

    grown : (xs : List Answer) → length xs < 32 → length (xs ++ a ∷ []) ≤ 32
    grown xs l = (let e = longer xs in omega (arith, e, l))

-- what lies before Decide may be taken, and all of it is taken
taken_all : (site : Site) (panel : ℕ) (decide : Decide) (answers : LaneState Answer) (findings : LaneState Finding) (stamp point at : ℕ)
    → IsReady site panel decide answers findings stamp point at → taken_by answers ≡ answers.items
taken_all site panel decide answers findings stamp point at h =
    (let few = h.few in let quota = h.lanes.0 in take_all (turn_count answers) answers.items (omega (arith, few, quota)))

pub may_take : (site : Site) (panel : ℕ) (decide : Decide) (answers : LaneState Answer) (findings : LaneState Finding) (stamp point at : ℕ) (h :
    IsReady site panel decide answers findings stamp point at) → MayTake site panel h.done h.taken (taken_by answers)
may_take site panel decide answers findings stamp point at h =
    subst (MayTake site panel h.done h.taken) (sym (taken_all site panel decide answers findings stamp point at h)) h.may

pub can_take : (site : Site) (panel : ℕ) (decide : Decide) (answers : LaneState Answer) (findings : LaneState Finding) (stamp point at : ℕ)
    → IsReady site panel decide answers findings stamp point at → CanTake decide (taken_by answers)
can_take site panel decide answers findings stamp point at h =
    let may = may_take site panel decide answers findings stamp point at h in
    record { site = site; kept = h.kept; panel = panel; done = h.done; taken = h.taken; stands = h.stands; may = may }

-- after a turn
pub turned : (site : Site) (panel : ℕ) (decide after : Decide) (answers answers' : LaneState Answer) (findings findings' : LaneState Finding)
    (stamp point at : ℕ) (h : IsReady site panel decide answers findings stamp point at) → answers' ≡ after_turn answers
    → (findings'.quota ≡ findings.quota) × (findings'.capacity ≡ findings.capacity)
    → DecidesFor site h.kept panel h.done (h.taken ++ taken_by answers) after → IsReady site panel after answers' findings' stamp point at
turned site panel decide after answers answers' findings findings' stamp point at h a f stands =
    subst (λ (l : LaneState Answer). IsReady site panel after l findings' stamp point at) (sym a)
    (record {
      valid = h.valid;
      kept = h.kept;
      done = h.done;
      taken = h.taken ++ taken_by answers;
      stands = stands;
      may =
          record {
            own = λ k b is. absurd (nothing k b is);
            order = subst AreInOrder (sym all) h.may.order;
            since = λ k b is. absurd (nothing k b is);
          };
      last = λ k b is. h.last k b (subst (λ xs. slice_get xs k ≡ Some b) all is);
      by = h.by;
      lanes = (h.lanes.0, h.lanes.1, f.0 ∙ h.lanes.2, f.1 ∙ h.lanes.3);
      few = omega (arith, left);
    })
  where
    left : length (drop (turn_count answers) answers.items) ≡ 0
    left = (let few = h.few in let quota = h.lanes.0 in let e = length-drop (turn_count answers) answers.items in omega (arith, few, quota, e))

    nothing : (k : ℕ) (b : Answer) → slice_get (drop (turn_count answers) answers.items) k ≡ Some b → ⊥
    nothing k b is = (let within = slice_get_within (drop (turn_count answers) answers.items) k b is in absurd (omega (arith, within, left)))

    all : (h.taken ++ taken_by answers) ++ drop (turn_count answers) answers.items ≡ h.taken ++ answers.items
    all = append_assoc h.taken (taken_by answers) (drop (turn_count answers) answers.items) ∙ ap (λ xs. h.taken ++ xs) (take-append-drop (turn_count answers) answers.items)

none_in : (tick at : ℕ) (setting : Setting) (done : List Done) → AreBy at done → at < tick → NoneIn tick setting done
none_in tick at setting [] by later = tt
none_in tick at setting (d ∷ ds) by later = (λ on same. omega (arith, by.0, later, same), none_in tick at setting ds by.1 later)

-- an operation may be applied
pub may_apply : (site : Site) (panel : ℕ) (decide : Decide) (answers : LaneState Answer) (findings : LaneState Finding) (stamp point at :
    ℕ) (operation : Operation) (tick : ℕ) (h : IsReady site panel decide answers findings stamp point at)
    → MayDo site panel answers stamp at operation tick → MayApply site panel h.done h.taken operation tick
may_apply site panel decide answers findings stamp point at operation tick h may =
    record {
      own = may.own;
      next = record {
        from_one = (let later = may.later in omega (arith, later));
        since = by_later at tick h.done (let later = may.later in omega (arith, later)) h.by;
        once = λ setting on. none_in tick at setting h.done h.by may.later;
      };
      late = λ k b is. late b (h.last k b (get_left h.taken answers.items k b is));
    }
  where
    late : (b : Answer) → IsUpTo stamp point b → b.stamp.0 ≤ tick
    late b (inl x) = (let since = may.since in omega (arith, x, since))
    late b (inr x) = (let since = may.since in omega (arith, x.0, since))

pub can_apply : (site : Site) (panel : ℕ) (decide : Decide) (answers : LaneState Answer) (findings : LaneState Finding) (stamp point at :
    ℕ) (operation : Operation) (tick : ℕ) → IsReady site panel decide answers findings stamp point at
    → MayDo site panel answers stamp at operation tick → CanApply decide operation tick
can_apply site panel decide answers findings stamp point at operation tick h may =
    let may_now = may_apply site panel decide answers findings stamp point at operation tick h may in
    record { site = site; kept = h.kept; panel = panel; done = h.done; taken = h.taken; stands = h.stands; may = may_now }

-- after an operation
pub applied : (site : Site) (panel : ℕ) (decide after : Decide) (answers : LaneState Answer) (findings : LaneState Finding) (stamp point at :
    ℕ) (operation : Operation) (tick : ℕ) (h : IsReady site panel decide answers findings stamp point at)
    → MayDo site panel answers stamp at operation tick
    → DecidesFor site h.kept panel (record { tick = tick; panel = panel; operation = operation } ∷ h.done) h.taken after
    → IsReady site panel after answers findings stamp point tick
applied site panel decide after answers findings stamp point at operation tick h may stands =
    record {
      valid = h.valid;
      kept = h.kept;
      done = record { tick = tick; panel = panel; operation = operation } ∷ h.done;
      taken = h.taken;
      stands = stands;
      may =
          record {
            own = h.may.own;
            order = h.may.order;
            since = λ k b is. absurd (nothing k b is);
          };
      last = h.last;
      by = (omega arith, by_later at tick h.done (let later = may.later in omega (arith, later)) h.by);
      lanes = h.lanes;
      few = h.few;
    }
  where
    nothing : (k : ℕ) (b : Answer) → slice_get answers.items k ≡ Some b → ⊥
    nothing k b is = (let within = slice_get_within answers.items k b is in let none = may.none in absurd (omega (arith, within, none)))

-- before the first answer
pub begun : (site : Site) (kept : Retained) (panel : ℕ) (decide : Decide) (answers : LaneState Answer) (findings : LaneState Finding) → IsValid site
    → DecidesFor site kept panel [] [] decide → answers ≡ record { items = []; put = 0; taken = 0; quota = 32; capacity = 64 }
    → findings ≡ record { items = []; put = 0; taken = 0; quota = 32; capacity = 64 } → IsReady site panel decide answers findings 0 0 0
begun site kept panel decide answers findings valid stands a f =
    subst (λ (l : LaneState Answer). IsReady site panel decide l findings 0 0 0) (sym a)
    (record {
      valid = valid;
      kept = kept;
      done = [];
      taken = [];
      stands = stands;
      may = record { own = λ k b is. absurd (cc); order = record { rising = λ i j b c le h g. absurd (cc); once = λ i j b c h g p s. absurd (cc) }; since = λ k b is. tt };
      last = λ k b is. absurd (cc);
      by = tt;
      lanes = (refl, refl, ap (λ (l : LaneState Finding). l.quota) f, ap (λ (l : LaneState Finding). l.capacity) f);
      few = omega arith;
    })
