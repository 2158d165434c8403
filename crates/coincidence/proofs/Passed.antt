-- Answers of a run that leave all that is kept as it is are passed over, and their findings are plain.
use Rattle.std.proofs.Common.{◌≡◌, ◌≢◌, ℕ, zero, suc, ◌+◌, ◌-◌, ◌<◌, ◌≤◌, ◌∷◌, ◌++◌, ◌^◌, [], inl, inr, Bool, List, length, map, min, true, false, refl, sym, ◌∙◌, ap, subst, arith}
use Rattle.std.proofs.lemmas.List.FromFn.{map-range_with_len_more}
use Rattle.std.specs.List.{range_with_len}
use Rattle.tick_units.specs.Lane.{HasRoom, LaneState, with_put}
use Rattle.site_types.specs.declared.answer.Answer.{Answer}
use Rattle.coincidence_rules.specs.declared.finding.Finding.{Finding}
use Rattle.answer_lanes.specs.declared.answer_group.AnswerGroup.{AnswerGroup}
use Rattle.answer_lanes.specs.declared.finding_group.FindingGroup.{FindingGroup}
use Rattle.answer_lanes.specs.declared.run.Run.{Run}
use Rattle.answer_lanes.specs.Points.{answer_at, finding_at}
use Rattle.answer_lanes.specs.Runs.{items_of}
use Rattle.coincidence.specs.declared.decide.Decide.{Decide}
use Rattle.answer_lanes.proofs.MaskBits.{set_below}
use Rattle.answer_lanes.proofs.Moving.{length_run}
use Rattle.site_types.specs.Bits.{has_bit}
use Rattle.site_types.proofs.Done.{lt_tells}
use Rattle.site_types.proofs.Masks.{has_bit-zero}
use Rattle.coincidence.specs.Changes.{FindsNext, KeepsOthers, PutsFindings, TakesAnswers, TakesAnswerRun}
use Rattle.coincidence.specs.Stands.{CanTake}
use Rattle.coincidence.specs.GoingOn.{ConfirmsAgain, telling_of}
use Rattle.coincidence.specs.Resting.{IsFoundAt, IsPlainAt, IsWithinEight, LeavesPoint, TellsChanging}
use Rattle.coincidence.proofs.Resting.{finds_at_rest, takes_one_at_rest, tells_none_at_rest}
use Rattle.coincidence.proofs.RunItems.{all_before, before, behind, none_before, one_more, parts_at}
use Rattle.coincidence.proofs.Turned.{can_next, put_both, put_none, puts_both, puts_none, puts_one, room_held, takes_both, takes_none}

module _ (old now : Decide) (run : Run AnswerGroup) (lane held : LaneState Finding) (first : FindingGroup) (begun : ℕ) where
  -- what is told of the answers before a place, from where the run of findings began
  abbrev pub told : ℕ → List Finding
  told place = map (finding_at first) (range_with_len begun (place - begun))

  -- all before a place are taken, and their findings put or held back
  pub record AreDone (place : ℕ) : Type 0 where
    pub taken : TakesAnswers old (before run place) now
    pub put : PutsFindings old (before run place) lane (with_put held (told place))

  -- an answer at a place leaves all that is kept as it is, and what is told of it there is its finding
  abbrev pub IsStill : ℕ → Type 0
  IsStill place =
      TakesAnswers now (answer_at run.first place ∷ []) now × FindsNext now (answer_at run.first place) (finding_at first place)

  told_more : (place : ℕ) → begun ≤ place → told (place + 1) ≡ told place ++ finding_at first place ∷ []
  told_more place from =
      let count : place + 1 - begun ≡ place - begun + 1 = omega (arith, from) in
      let at : begun + (place - begun) ≡ place = omega (arith, from) in
      ap (λ n. map (finding_at first) (range_with_len begun n)) count
      ∙ map-range_with_len_more (finding_at first) begun (place - begun) place at

  pass_one : (place : ℕ) → run.taken ≤ place → begun ≤ place → IsStill place → AreDone place → AreDone (place + 1)
  pass_one place from since still h =
      let item = answer_at run.first place in
      let found = finding_at first place in
      let more = one_more run place item from refl in
      let next : with_put held (told (place + 1)) ≡ with_put (with_put held (told place)) (found ∷ []) =
      ap (with_put held) (told_more place since) ∙ sym (put_both held (told place) (found ∷ [])) in
      record {
        taken = subst (λ xs. TakesAnswers old xs now) (sym more)
            (takes_both old now now (before run place) (item ∷ []) h.taken still.0);
        put = subst (λ xs. PutsFindings old xs lane (with_put held (told (place + 1)))) (sym more)
            (puts_both old now (before run place) (item ∷ []) lane (with_put held (told place)) (with_put held (told (place + 1))) h.taken h.put
            (puts_one now item found (with_put held (told place)) (with_put held (told (place + 1))) still.1 next));
      }

  pub pass : (count from to : ℕ) → to ≡ from + count → run.taken ≤ from → begun ≤ from → ((k : ℕ) → from ≤ k → k < to → IsStill k)
      → AreDone from → AreDone to
  pass zero from to is least since stills h =
      let same : from ≡ to = omega (arith, is) in
      subst AreDone same h
  pass (suc count) from to is least since stills h =
      pass count (from + 1) to (omega (arith, is)) (omega (arith, least)) (omega (arith, since))
      (λ k le less. stills k (omega (arith, le)) less) (pass_one from least since (stills from (omega arith) (omega (arith, is))) h)

  -- one of a point that it leaves as it is, where what is told of it is plain
  pub still_at : (place : ℕ) → LeavesPoint now (answer_at run.first place) → IsPlainAt place run.first first → IsStill place
  still_at place leaves_point plain =
      let item = answer_at run.first place in
      (takes_one_at_rest now item leaves_point, subst (FindsNext now item) (sym plain) (finds_at_rest now item leaves_point))

-- an answer of another point leaves a point as it is
leaves_after : (old decide : Decide) (place : ℕ) (answer : Answer) → KeepsOthers place old decide → answer.point ≢ place → LeavesPoint old answer
    → LeavesPoint decide answer
leaves_after old decide place answer keeps apart leaves_point watch there = leaves_point watch (sym (keeps answer.point apart) ∙ there)

-- the finding of an answer of a group is of its place
found_at : (decide : Decide) (answers : AnswerGroup) (place : ℕ) (item : Answer) (finding : Finding) → item ≡ answer_at answers place
    → CanTake decide (item ∷ []) → FindsNext decide item finding → IsFoundAt place answers finding
found_at decide answers place item finding is can finds =
    let found = finds can.site can.kept can.panel can.done can.taken can.stands can.may in
    record {
      stamp = ap (λ f. f.stamp) found ∙ ap (λ a. a.stamp) is;
      point = ap (λ f. f.point) found ∙ ap (λ a. a.point) is;
    }

-- the answers before a place are done, and the bits tell which of those from there on may change what is kept
pub record Passes (old now : Decide) (run : Run AnswerGroup) (lane held : LaneState Finding) (found : Run FindingGroup) (changing : ℕ) : Type 0 where
  pub taken : TakesAnswers old (before run (found.taken + found.count)) now
  pub put : PutsFindings old (before run (found.taken + found.count)) lane (with_put held (items_of finding_at found))
  pub least : run.taken ≤ found.taken + found.count
  pub most : found.taken + found.count ≤ run.taken + run.count
  pub left : (k : ℕ) → found.taken + found.count ≤ run.taken + k → k < run.count → has_bit changing k ≡ false
      → LeavesPoint now (answer_at run.first (run.taken + k))
  pub behind_those : (k : ℕ) → has_bit changing k ≡ true → found.taken + found.count ≤ run.taken + k
  pub within : (k : ℕ) → has_bit changing k ≡ true → k < run.count
  pub plain : (k : ℕ) → found.taken + found.count ≤ k → IsPlainAt k run.first found.first

pub begun : (old : Decide) (run : Run AnswerGroup) (lane : LaneState Finding) (first : FindingGroup) (changing : ℕ)
    → ((k : ℕ) → IsPlainAt k run.first first) → TellsChanging old run changing
    → Passes old old run lane lane (record { first = first; taken = run.taken; count = 0 }) changing
begun old run lane first changing plain tells =
    let here : run.taken ≡ run.taken + 0 = omega arith in
    let none = sym (none_before run) ∙ ap (before run) here in
    record {
      taken = subst (λ xs. TakesAnswers old xs old) none (takes_none old);
      put = subst (λ xs. PutsFindings old xs lane (with_put lane [])) none (subst (PutsFindings old [] lane) (put_none lane) (puts_none old lane));
      least = omega arith;
      most = omega arith;
      left = λ k le in_run clear. tells.left k in_run clear;
      behind_those = λ k set_bit. omega arith;
      within = tells.within;
      plain = λ k le. plain k;
    }

module _ {old now : Decide} {run : Run AnswerGroup} {lane held : LaneState Finding} {found : Run FindingGroup} {changing : ℕ}
    (h : Passes old now run lane held found changing) where
  done_here : AreDone old now run lane held found.first found.taken (found.taken + found.count)
  done_here =
      let count : found.count ≡ found.taken + found.count - found.taken = omega arith in
      record {
        taken = h.taken;
        put = subst (λ n. PutsFindings old (before run (found.taken + found.count)) lane (with_put held (map (finding_at found.first) (range_with_len found.taken n))))
            count h.put;
      }

  on_to : (place : ℕ) → found.taken + found.count ≤ place → place ≤ run.taken + run.count
      → ((k : ℕ) → run.taken + k < place → found.taken + found.count ≤ run.taken + k → has_bit changing k ≡ false)
      → AreDone old now run lane held found.first found.taken place
  on_to place from to clear =
      let least = h.least in
      pass old now run lane held found.first found.taken (place - (found.taken + found.count)) (found.taken + found.count) place (omega (arith, from)) h.least
      (omega arith)
      (λ k le less.
      let at : run.taken + (k - run.taken) ≡ k = omega (arith, least, le) in
      still_at old now run lane held found.first found.taken k
      (subst (λ n. LeavesPoint now (answer_at run.first n)) at
      (h.left (k - run.taken) (omega (arith, least, le)) (omega (arith, least, le, less, to)) (clear (k - run.taken) (omega (arith, at, less)) (omega (arith, at, le)))))
      (h.plain k le))
      done_here

  ended : changing ≡ 0 → AreDone old now run lane held found.first found.taken (run.taken + run.count)
  ended none = on_to (run.taken + run.count) h.most (omega arith) (λ k less le. ap (λ m. has_bit m k) none ∙ has_bit-zero k)

  -- where no bit is left all answers of the run are done
  pub all_taken : changing ≡ 0 → TakesAnswers old (items_of answer_at run) now
  all_taken none = subst (λ xs. TakesAnswers old xs now) (all_before run (run.taken + run.count) refl) (ended none).taken

  pub all_found : changing ≡ 0
      → PutsFindings old (items_of answer_at run) lane (with_put held (told old now run lane held found.first found.taken (run.taken + run.count)))
  all_found none =
      let kept = told old now run lane held found.first found.taken (run.taken + run.count) in
      subst (λ xs. PutsFindings old xs lane (with_put held kept)) (all_before run (run.taken + run.count) refl) (ended none).put

  module _ (bit : ℕ) (set_bit : has_bit changing bit ≡ true) (lowest : (k : ℕ) → k < bit → has_bit changing k ≡ false) where
    reached : AreDone old now run lane held found.first found.taken (run.taken + bit)
    reached =
        let in_run = h.within bit set_bit in
        on_to (run.taken + bit) (h.behind_those bit set_bit) (omega (arith, in_run)) (λ k less le. lowest k (omega (arith, less)))

    pub place_is : found.taken + (run.taken + bit - found.taken) ≡ run.taken + bit
    place_is = let from = h.behind_those bit set_bit in omega (arith, from)

    parts : items_of answer_at run ≡ before run (run.taken + bit + 1) ++ behind run (run.taken + bit)
    parts = let in_run = h.within bit set_bit in parts_at run (run.taken + bit) (omega arith) (omega (arith, in_run))

    -- there is room for the findings that are held back, the answer there may be taken, and its finding is of its place
    module _ (can : CanTake old (items_of answer_at run)) where
      pub room_reached : HasRoom lane run.count → HasRoom held (length (told old now run lane held found.first found.taken (run.taken + bit)))
      room_reached room =
          let place = run.taken + bit in
          let count = length_run answer_at run in
          room_held old now (items_of answer_at run) (before run place) (answer_at run.first place ∷ []) (before run (place + 1)) (behind run place)
          (one_more run place (answer_at run.first place) (omega arith) refl) parts lane held
          (told old now run lane held found.first found.taken place) run.count can reached.put room (omega (arith, count))

      module _ (item : Answer) (is : item ≡ answer_at run.first (run.taken + bit)) where
        pub can_reached : CanTake now (item ∷ [])
        can_reached =
            let place = run.taken + bit in
            can_next old now (items_of answer_at run) (before run place) (item ∷ []) (before run (place + 1)) (behind run place)
            (one_more run place item (omega arith) is) parts can reached.taken

        pub found_reached : (finding : Finding) → FindsNext now item finding
            → IsFoundAt (found.taken + (run.taken + bit - found.taken)) run.first finding
        found_reached finding finds =
            subst (λ n. IsFoundAt n run.first finding) (sym place_is)
            (found_at now run.first (run.taken + bit) item finding is can_reached finds)

    pub passed : IsWithinEight run → (item : Answer) → item ≡ answer_at run.first (run.taken + bit) → (next : Decide) → TakesAnswers now (item ∷ []) next
        → KeepsOthers item.point now next → (finding : Finding) → FindsNext now item finding → (more : Run FindingGroup) (lane_then : LaneState Finding)
        → with_put lane_then (items_of finding_at more) ≡ with_put held (told old now run lane held found.first found.taken (run.taken + bit) ++ finding ∷ [])
        → more.taken + more.count ≡ run.taken + bit + 1
        → ((k : ℕ) → run.taken + bit < k → IsPlainAt k run.first found.first → IsPlainAt k run.first more.first)
        → (rest : ℕ) → rest < 2 ^ 8 → has_bit rest bit ≡ false → ((k : ℕ) → k < 8 → k ≢ bit → has_bit rest k ≡ has_bit changing k)
        → Passes old next run lane lane_then more rest
    passed eight item is next takes keeps finding finds more lane_then puts at plains rest fits this others =
        let place = run.taken + bit in
        let least = h.least in
        let in_run = h.within bit set_bit in
        let from = h.behind_those bit set_bit in
        let places = eight.places in
        let done = reached in
        let one = one_more run place item (omega arith) is in
        let kept = told old now run lane held found.first found.taken place in
        let taken : TakesAnswers old (before run (place + 1)) next =
        subst (λ xs. TakesAnswers old xs next) (sym one) (takes_both old now next (before run place) (item ∷ []) done.taken takes) in
        let put : PutsFindings old (before run (place + 1)) lane (with_put lane_then (items_of finding_at more)) =
        subst (λ xs. PutsFindings old xs lane (with_put lane_then (items_of finding_at more))) (sym one)
        (puts_both old now (before run place) (item ∷ []) lane (with_put held kept) (with_put lane_then (items_of finding_at more)) done.taken done.put
        (puts_one now item finding (with_put held kept) (with_put lane_then (items_of finding_at more)) finds
        (puts ∙ sym (put_both held kept (finding ∷ []))))) in
        record {
          taken = subst (λ n. TakesAnswers old (before run n) next) (sym at) taken;
          put = subst (λ n. PutsFindings old (before run n) lane (with_put lane_then (items_of finding_at more))) (sym at) put;
          least = omega (arith, at);
          most = omega (arith, at, in_run);
          left = λ k le small clear.
              leaves_after now next item.point (answer_at run.first (run.taken + k)) keeps (apart eight item is k (omega (arith, at, le)) small)
              (h.left k (omega (arith, at, le, from)) small (sym (others k (omega (arith, places, small)) (λ e. omega (arith, e, at, le))) ∙ clear));
          behind_those = λ k has.
              let was = still rest fits this others k has in
              let low = not_below k was.1 in
              let other = was.0 in
              omega (arith, at, low, other);
          within = λ k has. h.within k (still rest fits this others k has).1;
          plain = λ k le. plains k (omega (arith, at, le)) (h.plain k (omega (arith, at, le, from)));
        }
      where
        apart : IsWithinEight run → (item : Answer) → item ≡ answer_at run.first (run.taken + bit) → (k : ℕ) → bit < k → k < run.count
            → (answer_at run.first (run.taken + k)).point ≢ item.point
        apart eight item is k above small same =
            let places = eight.places in
            let points = eight.points in
            let here : item.point ≡ min (run.first.point + (run.taken + bit)) 65535 = ap (λ a. a.point) is in
            let both : min (run.first.point + (run.taken + k)) 65535 ≡ min (run.first.point + (run.taken + bit)) 65535 = same ∙ here in
            omega (arith, both, above, small, places, points)

        not_below : (k : ℕ) → has_bit changing k ≡ true → bit ≤ k
        not_below k has = elim (lt_tells k bit) [
          | inl less ↦ absurd (let no = lowest k less.1 in cc)
          | inr above ↦ above.1
        ]

        still : (rest : ℕ) → rest < 2 ^ 8 → has_bit rest bit ≡ false → ((k : ℕ) → k < 8 → k ≢ bit → has_bit rest k ≡ has_bit changing k) → (k : ℕ)
            → has_bit rest k ≡ true → (k ≢ bit) × (has_bit changing k ≡ true)
        still rest fits this others k has =
            let other : k ≢ bit = λ e. (let is = ap (has_bit rest) e in cc) in
            (other, sym (others k (set_below rest k fits has) other) ∙ has)

-- a run of which no answer changes anything is taken as it is, and all its findings are plain
pub still_run : (old : Decide) (run : Run AnswerGroup) (lane after : LaneState Finding) (first : FindingGroup) (changing : ℕ)
    → ((k : ℕ) → IsPlainAt k run.first first) → TellsChanging old run changing → changing ≡ 0
    → after ≡ with_put lane (map (finding_at first) (range_with_len run.taken run.count))
    → TakesAnswerRun old run lane old after
still_run old run lane after first changing plain tells none put =
    let h = begun old run lane first changing plain tells in
    let count : run.count ≡ run.taken + run.count - run.taken = omega arith in
    record {
      taken = all_taken h none;
      put = subst (PutsFindings old (items_of answer_at run) lane)
          (sym (put ∙ ap (λ n. with_put lane (map (finding_at first) (range_with_len run.taken n))) count)) (all_found h none);
    }

-- of a part of a run of which each answer changes nothing or goes on the findings are told in one step, after those before it
pub going_part : (old : Decide) (run : Run AnswerGroup) (lane held after : LaneState Finding) (first : FindingGroup) (changing place end zones : ℕ)
    → ((k : ℕ) → finding_at first k ≡ telling_of zones (answer_at run.first k)) → TellsChanging old run changing
    → run.taken ≤ place → place ≤ end → end ≤ run.taken + run.count
    → ((k : ℕ) → place ≤ run.taken + k → run.taken + k < end → has_bit changing k ≡ true → ConfirmsAgain old (answer_at run.first (run.taken + k)) zones)
    → TakesAnswers old (before run place) old → PutsFindings old (before run place) lane held
    → after ≡ with_put held (map (finding_at first) (range_with_len place (end - place)))
    → TakesAnswers old (before run end) old × PutsFindings old (before run end) lane after
going_part old run lane held after first changing place end zones told_is tells least fits most again takes puts put =
    let none : place - place ≡ 0 = omega arith in
    let nothing : [] ≡ told old old run lane held first place place = ap (λ n. map (finding_at first) (range_with_len place n)) (sym none) in
    let begins : AreDone old old run lane held first place place = record {
      taken = takes;
      put = subst (PutsFindings old (before run place) lane) (put_none held ∙ ap (with_put held) nothing) puts;
    } in
    let done = pass old old run lane held first place (end - place) place end (omega (arith, fits)) least (omega arith)
    (λ k le less.
    let at : run.taken + (k - run.taken) ≡ k = omega (arith, least, le) in
    subst (IsStill old old run lane held first place) at
    (by (k - run.taken) (omega (arith, least, le, less, most)) (omega (arith, at, le)) (omega (arith, at, less)) (has_bit changing (k - run.taken)) refl)) begins in
    (done.taken, subst (PutsFindings old (before run end) lane) (sym put) done.put)
  where
    by : (k : ℕ) → k < run.count → place ≤ run.taken + k → run.taken + k < end → (b : Bool) → has_bit changing k ≡ b
        → IsStill old old run lane held first place (run.taken + k)
    by k small from to true is =
        let item = answer_at run.first (run.taken + k) in
        let one = again k from to is in
        (one.taken, subst (FindsNext old item) (sym (told_is (run.taken + k))) one.found)
    by k small from to false is =
        let item = answer_at run.first (run.taken + k) in
        let leaves_point = tells.left k small is in
        (takes_one_at_rest old item leaves_point, subst (FindsNext old item) (sym (told_is (run.taken + k))) (tells_none_at_rest old item leaves_point zones))
