-- A new file is an image of the journal that is opened with it, and that journal is read from it.
use Rattle.std.proofs.Common.{inl, inr, ◌≡◌, ◌≢◌, ◌⊎◌, ◌+◌, ◌^◌, ◌<◌, ◌≤◌, ◌==◌, ℕ, zero, suc, Bool, true, false, List, [], ◌∷◌, slice_index, refl, sym, ap, ◌∙◌, subst, arith}
use Rattle.std.specs.Prelude.{Option, Some, None, if◌then◌else◌, ◌||◌, not, nat_le, MatchBool}
use Rattle.std.proofs.lemmas.Bool.Decides.{leb_tells}
use Rattle.site_types.specs.Changes.{AreCounters, nothing_retained}
use Rattle.site_types.specs.declared.retained.Retained.{Retained}
use Rattle.retained_journal.specs.declared.journal.Journal.{Journal}
use Rattle.std.proofs.lemmas.List.{get_or-replicate, get_or_past}
use Rattle.std.proofs.Common.{get_or, replicate}
use Rattle.site_types.specs.Done.{no_points}
use Rattle.site_types.specs.Limits.{greatest_count}
use Rattle.site_types.specs.declared.point_set.PointSet.{PointSet}
use Rattle.retained_journal.specs.declared.log_gate.LogGate.TheVariants.{Shut, Open}
use Rattle.retained_journal.specs.Places.{log_gate, slot_place}
use Rattle.retained_journal.specs.Slots.{AreNarrow, FitHalves, FitLoops, HasNarrowLoops, IsKeepable, counters_at, slot_number}
use Rattle.retained_journal.specs.Opening.{chosen_place, counted, is_open, is_second, kept_in}
use Rattle.retained_journal.specs.Images.{HasLog, HoldsCopy, IsBehind, IsImage, IsSound, MayCount, OpensToKept, chosen_of, other_of}
use Rattle.retained_journal.specs.Journals.{IsNewJournal, IsOpenedOn, is_next_open, IsReadFrom}
use Rattle.retained_journal.specs.NewFiles.{BecomesNew, IsNewFile}
use Rattle.retained_journal.proofs.NewFiles.{log_is_shut, new_counted, new_opens, new_second, slot_b_is_shut}
use Rattle.retained_journal.proofs.Replaying.{cells-none}
use Rattle.panel_edges.specs.Disks.{Becomes}

-- nothing can be kept
pub keeps_nothing : (wide : Bool) → IsKeepable wide nothing_retained
keeps_nothing wide = record { fits = fits; narrow = narrow wide; small = small }
  where
    zeros : (k d : ℕ) → d < 2 ^ 96 → get_or (0 ∷ 0 ∷ []) k d < 2 ^ 96
    zeros zero d h = omega arith
    zeros (suc zero) d h = omega arith
    zeros (suc (suc k)) d h = h

    halves : (l : ℕ) → FitHalves (get_or (replicate 4 (replicate 2 0)) l [])
    halves zero k less = zeros k 0 (omega arith)
    halves (suc zero) k less = zeros k 0 (omega arith)
    halves (suc (suc zero)) k less = zeros k 0 (omega arith)
    halves (suc (suc (suc zero))) k less = zeros k 0 (omega arith)
    halves (suc (suc (suc (suc l)))) k less = omega arith

    narrow_halves : (b : Bool) (l : ℕ) → AreNarrow b (get_or (replicate 4 (replicate 2 0)) l [])
    narrow_halves true l = tt
    narrow_halves false zero = refl
    narrow_halves false (suc zero) = refl
    narrow_halves false (suc (suc zero)) = refl
    narrow_halves false (suc (suc (suc zero))) = refl
    narrow_halves false (suc (suc (suc (suc l)))) = refl

    fits : (panel : ℕ) → panel < 8 → FitLoops (get_or nothing_retained.points panel no_points).loops
    fits panel less =
        subst (λ (s : PointSet). FitLoops s.loops) (sym (get_or-replicate 8 panel (record { loops = replicate 4 (replicate 2 0) }) no_points less))
        (λ line few. halves line)

    narrow : (b : Bool) (panel : ℕ) → panel < 8 → HasNarrowLoops b (get_or nothing_retained.points panel no_points).loops
    narrow b panel less =
        subst (λ (s : PointSet). HasNarrowLoops b s.loops)
        (sym (get_or-replicate 8 panel (record { loops = replicate 4 (replicate 2 0) }) no_points less)) (λ line few. narrow_halves b line)

    small : AreCounters nothing_retained.counters
    small k = go (leb_tells 8 k)
      where
        go : ((nat_le 8 k ≡ true) × (8 ≤ k)) ⊎ ((nat_le 8 k ≡ false) × (k < 8)) → slice_index (replicate 8 0) k ≤ greatest_count
        go (inl past) = let e = get_or_past {X = ℕ} (replicate 8 0) k 0 past.1 in omega (arith, e)
        go (inr within') = let e = get_or-replicate {A = ℕ} 8 k 0 0 within'.1 in omega (arith, e)

pub sound_new : (wide : Bool) (digest : List ℕ) (j : Journal) → IsNewJournal wide digest j → IsSound j
sound_new wide digest j new = record {
  few = let e = new.cells in omega (arith, e);
  keeps = let w = new.same_wide in let k = new.kept in rw (w, k) (keeps_nothing wide);
  bound = let e = new.number in omega (arith, e);
  untorn = λ whole. absurd (let t = new.torn in cc);
}

-- a new file opens to what a new journal keeps
pub new_opens_kept : (wide : Bool) (digest file : List ℕ) (j : Journal) → IsNewJournal wide digest j → IsNewFile digest nothing_retained file
    → OpensToKept j file × (counted file ≡ j.cells)
new_opens_kept wide digest file j new is =
    let keeps = keeps_nothing wide in
    let w = new.same_wide in
    let d = new.same_digest in
    let k = new.kept in (
      rw (w, d, k) (new_opens digest nothing_retained file is wide keeps.narrow keeps.small),
      new_counted digest nothing_retained file is ∙ sym new.cells,
    )

-- a new file is an image of a new journal
pub new_image : (wide : Bool) (digest file : List ℕ) (j : Journal) → IsNewJournal wide digest j → IsNewFile digest nothing_retained file
    → IsKeepable wide nothing_retained → IsImage j file
new_image wide digest file j new is keeps = record {
  size = let s = is.size in omega (arith, s);
  mark = is.mark;
  site = is.digest_kept ∙ sym new.same_digest;
  log = subst (λ log. HasLog log j.cells file) (sym new.log) (zero_shut _ (log_is_shut digest nothing_retained file is), new.cells);
  gate = subst (λ (b : Bool). slice_index file (slot_place b) ≡ 1) (sym new.second) is.slot_open;
  number = let s = new.second in let n = is.number in let c = new.cells in let m = new.number in rw (s, c, m, n) refl;
  small =
      subst (λ (b : Bool). AreCounters (counters_at (slot_place b) file)) (sym new.second)
      (subst (λ (s : Retained). AreCounters s.counters) (sym (is.holds wide keeps.narrow)) keeps.small);
  counts = λ i less. absurd (let c = new.cells in omega (arith, c, less));
  form = λ i less. absurd (let c = new.cells in omega (arith, c, less));
  state = let s = new.second in let c = new.cells in let n = cells-none file in let h = is.holds wide keeps.narrow in let k = new.kept in let w =
      new.same_wide in rw (s, c, w, n, h, k) refl;
  next = λ may free. absurd (subst MayCount new.log may);
  other = other_shut j.slot_may_be_open new.slot;
}
  where
    zero_shut : (n : ℕ) → n ≡ 0 → n ≢ 1
    zero_shut n z o = omega (arith, z, o)

    other_shut : (b : Bool) → b ≡ false
        → MatchBool b (IsBehind j.second (slot_number (other_of j) file) (slot_number (chosen_of j) file) ⊎ ((j.moving ≡ true) × HoldsCopy j file))
        (slice_index file (other_of j) ≢ 1)
    other_shut true f = absurd (cc)
    other_shut false f =
        subst (λ (s : Bool). slice_index file (slot_place (not s)) ≢ 1) (sym new.second)
        (zero_shut _ (slot_b_is_shut digest nothing_retained file is))

-- a new journal is read from a new file
pub new_read : (wide : Bool) (digest file : List ℕ) (j : Journal) → IsNewJournal wide digest j → IsNewFile digest nothing_retained file
    → IsReadFrom wide digest file j
new_read wide digest file j new is = record {
  same_wide = new.same_wide;
  same_digest = new.same_digest;
  kept = new.kept ∙ sym kept';
  attempt = new.attempt;
  tried = new.tried;
  number = new.number ∙ sym number';
  second = new.second ∙ sym second';
  cells = new.cells ∙ sym cells';
  log = new.log ∙ ap (λ (n : ℕ). if n == 1 then Open else Shut) (sym shut);
  slot = new.slot ∙ sym slot';
  next = new.next ∙ sym next';
  moving = new.moving;
  torn = new.torn ∙ sym torn';
}
  where
    shut : slice_index file log_gate ≡ 0
    shut = log_is_shut digest nothing_retained file is

    second' : is_second file ≡ false
    second' = new_second digest nothing_retained file is

    cells' : counted file ≡ 0
    cells' = new_counted digest nothing_retained file is

    kept' : kept_in wide file ≡ nothing_retained
    kept' = let none = cells-none file in let holds = is.holds wide (keeps_nothing wide).narrow in rw (cells', none, second') holds

    number' : slot_number (chosen_place file) file + counted file ≡ 1
    number' = let n = is.number in rw (cells', second', n) refl

    slot' : is_open (slot_place (not (is_second file))) file ≡ false
    slot' = let b = slot_b_is_shut digest nothing_retained file is in rw (second', b) refl

    next' : is_next_open file ≡ false
    next' = rw shut refl

    torn' : (not (is_open log_gate file) || is_next_open file) ≡ true
    torn' = rw shut refl

-- so a journal is read from the new file that an empty one became
pub opened_new : (wide : Bool) (digest : List ℕ) (j : Journal) (old new : Option (List ℕ)) → IsNewJournal wide digest j
    → Becomes (BecomesNew digest nothing_retained) old new → Becomes (IsOpenedOn wide digest j) old new
opened_new wide digest j None new is became = tt
opened_new wide digest j (Some old) None is became = absurd became
opened_new wide digest j (Some old) (Some new) is became = record {
  made = λ empty. (became.made, is);
  stays = λ some. absurd (let e = became.empty in omega (arith, e, some));
  read = new_read wide digest new j is became.made;
}
