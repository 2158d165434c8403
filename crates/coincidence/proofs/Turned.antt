-- Answers are taken one list after another.
use Rattle.std.proofs.Common.{◌≡◌, ℕ, suc, ◌+◌, ◌≤◌, List, [], ◌∷◌, ◌++◌, length, refl, sym, ◌∙◌, ap, subst, arith, append_assoc, append-nil, length-append}
use Rattle.tick_units.specs.Lane.{HasRoom, LaneState, with_put}
use Rattle.site_types.specs.declared.site.Site.{Site}
use Rattle.site_types.specs.declared.answer.Answer.{Answer}
use Rattle.site_types.specs.declared.retained.Retained.{Retained}
use Rattle.site_types.specs.Done.{Done}
use Rattle.coincidence_rules.specs.declared.finding.Finding.{Finding}
use Rattle.coincidence_rules.specs.Findings.{finding_of, findings_after}
use Rattle.coincidence_rules.specs.InOrder.{AreInOrder}
use Rattle.coincidence_rules.proofs.Lists.{get_left, get_right}
use Rattle.coincidence.specs.declared.decide.Decide.{Decide}
use Rattle.coincidence.specs.Changes.{FindsNext, PutsFindings, TakesAnswers}
use Rattle.coincidence.specs.Stands.{CanTake, DecidesFor, StandsWith}
use Rattle.coincidence.specs.Premises.{MayTake}

in_order_front : (front behind : List Answer) → AreInOrder (front ++ behind) → AreInOrder front
in_order_front front behind o = record {
  rising = λ i j a b le f g. o.rising i j a b le (get_left front behind i a f) (get_left front behind j b g);
  once = λ i j a b f g p s. o.once i j a b (get_left front behind i a f) (get_left front behind j b g) p s;
}

-- answers that may be taken may be taken in two parts
module _ {site : Site} {panel : ℕ} {done : List Done} {taken : List Answer} (xs ys : List Answer) (may : MayTake site panel done taken (xs ++ ys)) where
  ordered : AreInOrder ((taken ++ xs) ++ ys)
  ordered = subst AreInOrder (sym (append_assoc taken xs ys)) may.order

  pub may_front : MayTake site panel done taken xs
  may_front = record {
    own = λ k a at. may.own k a (get_left xs ys k a at);
    order = in_order_front (taken ++ xs) ys ordered;
    since = λ k a at. may.since k a (get_left xs ys k a at);
  }

  pub may_behind : MayTake site panel done (taken ++ xs) ys
  may_behind = record {
    own = λ k a at. may.own (length xs + k) a (get_right xs ys k a at);
    order = ordered;
    since = λ k a at. may.since (length xs + k) a (get_right xs ys k a at);
  }

-- the findings of two lists
pub findings_both : (site : Site) (kept : Retained) (panel : ℕ) (done : List Done) (before xs ys : List Answer)
    → findings_after site kept panel done before (xs ++ ys)
    ≡ findings_after site kept panel done before xs ++ findings_after site kept panel done (before ++ xs) ys
findings_both site kept panel done before [] ys = ap (λ b. findings_after site kept panel done b ys) (sym (append-nil before))
findings_both site kept panel done before (x ∷ xs) ys =
    ap (λ fs. finding_of site kept panel done before x ∷ fs)
    (findings_both site kept panel done (before ++ x ∷ []) xs ys
    ∙ ap (λ b. findings_after site kept panel done (before ++ x ∷ []) xs ++ findings_after site kept panel done b ys) (append_assoc before (x ∷ []) xs))

length_findings : (site : Site) (kept : Retained) (panel : ℕ) (done : List Done) (before xs : List Answer)
    → length (findings_after site kept panel done before xs) ≡ length xs
length_findings site kept panel done before [] = refl
length_findings site kept panel done before (x ∷ xs) = ap suc (length_findings site kept panel done (before ++ x ∷ []) xs)

same_lane : (l : LaneState Finding) (a b : List Finding) (p q : ℕ) → a ≡ b → p ≡ q
    → ◌≡◌ {A = LaneState Finding} (record { items = a; put = p; taken = l.taken; quota = l.quota; capacity = l.capacity })
    (record { items = b; put = q; taken = l.taken; quota = l.quota; capacity = l.capacity })
same_lane l a b p q e h = cc

pub put_both : (l : LaneState Finding) (xs ys : List Finding) → with_put (with_put l xs) ys ≡ with_put l (xs ++ ys)
put_both l xs ys =
    let sum = length-append xs ys in
    same_lane l _ _ _ _ (append_assoc l.items xs ys) (omega (arith, sum))

pub put_none : (l : LaneState Finding) → l ≡ with_put l []
put_none l = same_lane l _ _ _ _ (sym (append-nil l.items)) (omega arith)

-- nothing is taken, and then one list behind another
pub takes_none : (decide : Decide) → TakesAnswers decide [] decide
takes_none decide site kept panel done taken stands may = subst (λ xs. DecidesFor site kept panel done xs decide) (sym (append-nil taken)) stands

pub puts_none : (decide : Decide) (l : LaneState Finding) → PutsFindings decide [] l l
puts_none decide l site kept panel done taken stands may = put_none l

pub takes_both : (a b c : Decide) (xs ys : List Answer) → TakesAnswers a xs b → TakesAnswers b ys c → TakesAnswers a (xs ++ ys) c
takes_both a b c xs ys first second site kept panel done taken stands may =
    subst (λ zs. DecidesFor site kept panel done zs c) (append_assoc taken xs ys)
    (second site kept panel done (taken ++ xs) (first site kept panel done taken stands (may_front xs ys may)) (may_behind xs ys may))

pub puts_both : (a b : Decide) (xs ys : List Answer) (l m n : LaneState Finding) → TakesAnswers a xs b → PutsFindings a xs l m → PutsFindings b ys m n
    → PutsFindings a (xs ++ ys) l n
puts_both a b xs ys l m n takes first second site kept panel done taken stands may =
    let front = may_front xs ys may in
    second site kept panel done (taken ++ xs) (takes site kept panel done taken stands front) (may_behind xs ys may)
    ∙ ap (λ lane. with_put lane (findings_after site kept panel done (taken ++ xs) ys)) (first site kept panel done taken stands front)
    ∙ put_both l (findings_after site kept panel done taken xs) (findings_after site kept panel done (taken ++ xs) ys)
    ∙ ap (with_put l) (sym (findings_both site kept panel done taken xs ys))

pub puts_one : (decide : Decide) (x : Answer) (finding : Finding) (l m : LaneState Finding) → FindsNext decide x finding → m ≡ with_put l (finding ∷ [])
    → PutsFindings decide (x ∷ []) l m
puts_one decide x finding l m finds put site kept panel done taken stands may =
    put ∙ ap (λ f. with_put l (f ∷ [])) (finds site kept panel done taken stands may)

-- what may be done with a part by all that it stands for
pub still_can : {decide : Decide} {One Other : Site → Retained → ℕ → List Done → List Answer → Type 0} → StandsWith decide One
    → ((site : Site) (kept : Retained) (panel : ℕ) (done : List Done) (taken : List Answer) → One site kept panel done taken
    → Other site kept panel done taken) → StandsWith decide Other
still_can can follows = record {
  site = can.site;
  kept = can.kept;
  panel = can.panel;
  done = can.done;
  taken = can.taken;
  stands = can.stands;
  may = follows can.site can.kept can.panel can.done can.taken can.may;
}

-- the second list may be taken behind the first
pub can_front : (a : Decide) (xs ys : List Answer) → CanTake a (xs ++ ys) → CanTake a xs
can_front a xs ys can = still_can can (λ site kept panel done taken. may_front xs ys)

pub can_behind : (a b : Decide) (xs ys : List Answer) → TakesAnswers a xs b → CanTake a (xs ++ ys) → CanTake b ys
can_behind a b xs ys takes can = record {
  site = can.site;
  kept = can.kept;
  panel = can.panel;
  done = can.done;
  taken = can.taken ++ xs;
  stands = takes can.site can.kept can.panel can.done can.taken can.stands (may_front xs ys can.may);
  may = may_behind xs ys can.may;
}

-- there is room behind the findings of some answers
pub room_behind : (decide : Decide) (xs : List Answer) (l m : LaneState Finding) (all more : ℕ) → CanTake decide xs → PutsFindings decide xs l m
    → HasRoom l all → length xs + more ≤ all → HasRoom m more
room_behind decide xs l m all more can puts room fits =
    let found = findings_after can.site can.kept can.panel can.done can.taken xs in
    let is = puts can.site can.kept can.panel can.done can.taken can.stands can.may in
    let count = length_findings can.site can.kept can.panel can.done can.taken xs in
    let size = ap (λ (o : LaneState Finding). length o.items) is ∙ length-append l.items found in
    let put = ap (λ (o : LaneState Finding). o.put) is in
    let capacity = ap (λ (o : LaneState Finding). o.capacity) is in
    let items = room.0 in
    let ever = room.1 in
    (omega (arith, count, size, capacity, items, fits), omega (arith, count, put, ever, fits))

-- there is room for findings that are held back, where they are among those of some answers
pub held_behind : (decide : Decide) (xs : List Answer) (l m : LaneState Finding) (held : List Finding) (all : ℕ) → CanTake decide xs
    → PutsFindings decide xs l (with_put m held) → HasRoom l all → length xs ≤ all → HasRoom m (length held)
held_behind decide xs l m held all can puts room fits =
    let found = findings_after can.site can.kept can.panel can.done can.taken xs in
    let is = puts can.site can.kept can.panel can.done can.taken can.stands can.may in
    let count = length_findings can.site can.kept can.panel can.done can.taken xs in
    let size = sym (length-append m.items held) ∙ ap (λ (o : LaneState Finding). length o.items) is ∙ length-append l.items found in
    let put = ap (λ (o : LaneState Finding). o.put) is in
    let capacity = ap (λ (o : LaneState Finding). o.capacity) is in
    let items = room.0 in
    let ever = room.1 in
    (omega (arith, count, size, capacity, items, fits), omega (arith, count, put, ever, fits))

-- a part of the answers is taken next, behind those before it
module _ (old now : Decide) (all before part more behind : List Answer) (is_more : more ≡ before ++ part) (parts : all ≡ more ++ behind) where
  can_more : CanTake old all → CanTake old (before ++ part)
  can_more can = can_front old (before ++ part) behind (subst (CanTake old) (parts ∙ ap (λ xs. xs ++ behind) is_more) can)

  pub can_next : CanTake old all → TakesAnswers old before now → CanTake now part
  can_next can takes = can_behind old now before part takes (can_more can)

  pub room_next : (l m : LaneState Finding) (room : ℕ) → CanTake old all → PutsFindings old before l m → HasRoom l room → length all ≤ room
      → HasRoom m (length part)
  room_next l m room can puts has fits =
      let sum = ap length parts ∙ length-append more behind in
      let both = ap length is_more ∙ length-append before part in
      room_behind old before l m room (length part) (can_front old before part (can_more can)) puts has (omega (arith, sum, both, fits))

  -- and for findings that are held back
  pub room_held : (l m : LaneState Finding) (held : List Finding) (room : ℕ) → CanTake old all → PutsFindings old before l (with_put m held)
      → HasRoom l room → length all ≤ room → HasRoom m (length held)
  room_held l m held room can puts has fits =
      let sum = ap length parts ∙ length-append more behind in
      let both = ap length is_more ∙ length-append before part in
      held_behind old before l m held room (can_front old before part (can_more can)) puts has (omega (arith, sum, both, fits))

  pub takes_next : (next : Decide) → TakesAnswers old before now → TakesAnswers now part next → TakesAnswers old more next
  takes_next next first second = subst (λ xs. TakesAnswers old xs next) (sym is_more) (takes_both old now next before part first second)

  pub puts_next : (l m n : LaneState Finding) → TakesAnswers old before now → PutsFindings old before l m → PutsFindings now part m n
      → PutsFindings old more l n
  puts_next l m n takes first second = subst (λ xs. PutsFindings old xs l n) (sym is_more) (puts_both old now before part l m n takes first second)
