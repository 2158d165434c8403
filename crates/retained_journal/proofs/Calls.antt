-- How one call, a write with its sync, takes a journal on.
use Rattle.std.proofs.Common.{inl, zero, suc, [], ◌∷◌, replicate, ◌≡◌, ◌+◌, ◌*◌, ◌^◌, ◌<◌, ◌≤◌, ℕ, Bool, true, false, List, length, slice_index, refl, sym, ap, ◌∙◌, subst, arith}
use Rattle.panel_edges.specs.Crashes.{After, Elapses, Follows, LeavesOnly, Only, Stays}
use Rattle.panel_edges.specs.Disks.{Becomes, Holds, Torn}
use Rattle.panel_edges.proofs.Moments.{one_call, stays, then_more, weaker}
use Rattle.retained_journal.specs.declared.journal.Journal.{Journal}
use Rattle.retained_journal.specs.declared.log_gate.LogGate.TheVariants.{Shut, Ready, Open}
use Rattle.retained_journal.specs.Images.{HasRoom, HasZeros, IsImage, IsSound, KeepsAll, LeavesInTurn, MayLeave, OpensToKeptOrAttempt, OpensToKeptOrWith, SameFront, Stands}
use Rattle.retained_journal.specs.Images.{after_append, after_move}
use Rattle.std.specs.Prelude.{Option, Some, None, IfSome, Result, Ok, Err, OnOk, OnErr}
use Rattle.site_types.specs.declared.change.Change.{Change}
use Rattle.retained_journal.specs.Batches.{IsBatch}
use Rattle.retained_journal.proofs.Images.{opens_image, whole_counts}
use Rattle.std.proofs.lemmas.List.{get_or-replicate}
use Rattle.retained_journal.specs.Opening.{counted}
use Rattle.retained_journal.specs.Places.{cell_place, whole_bytes}
use Rattle.retained_journal.specs.Places.{bytes_of_cell, front_bytes, most_cells}
use Rattle.retained_journal.proofs.Keeping.{keeps-batch}
use Rattle.retained_journal.proofs.Torn.{Spares, torn_holds, torn_keeps}

module _ {D : Type 0} (honest : D → Type 0) (images : D → List ℕ → Type 0) where
  -- a write that spares what an image needs leaves images
  pub still_stands : (j : Journal) (old new : D) (at n : ℕ) → Stands honest images old j → Spares j at n → (honest new → honest old)
      → (honest old → Follows (Torn at n) (images old) (images new)) → Stands honest images new j
  still_stands j old new at n stands spares back crash = record {
    sound = stands.sound;
    each = λ h c now'. let was = crash (back h) c now' in torn_keeps j was.0 c at n (stands.each (back h) was.0 was.1) was.2 spares stands.sound.few;
  }

  -- a write that succeeded leaves images of the journal after it
  pub then_stands : (j k : Journal) (old new : D) (at : ℕ) (bytes : List ℕ) → Stands honest images old j → Spares j at (length bytes) → IsSound k
      → (honest new → honest old) → (honest old → Follows (Holds at bytes) (images old) (images new))
      → ((d c : List ℕ) → honest old → images old d → IsImage j c → Holds at bytes d c → IsImage k c) → Stands honest images new k
  then_stands j k old new at bytes stands spares sound back holds step = record {
    sound = sound;
    each = λ h c now'.
        let was = holds (back h) c now' in
        step was.0 c (back h) was.1 (torn_keeps j was.0 c at (length bytes) (stands.each (back h) was.0 was.1) (torn_holds at bytes was.0 c was.2)
        spares stands.sound.few) was.2;
  }

  -- what each image of a journal has, each image of another has
  pub other_stands : (j k : Journal) (disk : D) → Stands honest images disk j → IsSound k
      → ((c : List ℕ) → honest disk → images disk c → IsImage j c → IsImage k c) → Stands honest images disk k
  other_stands j k disk stands sound step = record { sound = sound; each = λ h c now'. step c h now' (stands.each h c now') }

  -- where no step is left out, as many cells of what a read gives count as are known
  pub counts_read : (j : Journal) (disk : D) (seen : Option (List ℕ)) → Stands honest images disk j → honest disk
      → (file : List ℕ) × (seen ≡ Some file) × images disk file
      → j.log ≡ Open → j.cell_may_be_open ≡ false → j.moving ≡ false → IfSome seen (λ file. counted file ≡ j.cells)
  counts_read j disk seen stands h read open' sure still =
      subst (λ s. IfSome s (λ file. counted file ≡ j.cells)) (sym read.1)
      (whole_counts j read.0 stands.sound (stands.each h read.0 read.2) open' sure still).1

  module _ (moment : D → ℕ) (left_since : D → ℕ → List ℕ → Type 0) (only_now : (disk : D) (c : List ℕ) → honest disk → left_since disk (moment disk) c
      → images disk c) where
    -- no call at all
    pub no_moment : (j : Journal) (disk : D) → Stands honest images disk j → honest disk → HasRoom j
        → LeavesOnly moment left_since disk disk (OpensToKeptOrAttempt j)
    no_moment j disk stands h room =
        stays moment left_since disk (OpensToKeptOrAttempt j) (λ c left. opens_image j c stands.sound (stands.each h c (only_now disk c h left)) room)

    -- no call at all leaves nothing new
    pub nothing_new : (disk : D) → honest disk → LeavesOnly moment left_since disk disk (images disk)
    nothing_new disk h = stays moment left_since disk (images disk) (λ c left. only_now disk c h left)

    -- at each moment of the call a crash leaves what is kept, or that with the batch last attempted
    pub its_moments : (j : Journal) (old new : D) (at n : ℕ) → Stands honest images old j → Spares j at n → honest old → HasRoom j
        → Elapses (moment old) (moment new) (left_since old) (left_since new) (After (Torn at n) (images old))
        → LeavesOnly moment left_since old new (OpensToKeptOrAttempt j)
    its_moments j old new at n stands spares h room time =
        one_call moment left_since old new (OpensToKeptOrAttempt j) (After (Torn at n) (images old))
        (λ c left. opens_image j c stands.sound (stands.each h c (only_now old c h left)) room)
        time
        (λ c after. opens_image j c stands.sound (torn_keeps j after.0 c at n (stands.each h after.0 after.1) after.2 spares stands.sound.few) room)

    -- the same behind an earlier part of a call
    pub then_moments : (j : Journal) (old mid new : D) (at n : ℕ) → (HasRoom j → LeavesOnly moment left_since old mid (OpensToKeptOrAttempt j))
        → Stands honest images mid j → Spares j at n → honest mid → HasRoom j
        → Elapses (moment mid) (moment new) (left_since mid) (left_since new) (After (Torn at n) (images mid))
        → LeavesOnly moment left_since old new (OpensToKeptOrAttempt j)
    then_moments j old mid new at n first stands spares h room time =
        then_more moment left_since old mid new (OpensToKeptOrAttempt j) (first room) (its_moments j mid new at n stands spares h room time)

    -- the moments of a write that doesn't end with a sync
    pub write_moments : (j : Journal) (old new : D) (at n : ℕ) → Stands honest images old j → Spares j at n → honest old → HasRoom j
        → (honest old → Follows (Torn at n) (images old) (images new))
        → Elapses (moment old) (moment new) (left_since old) (left_since new) (images new)
        → LeavesOnly moment left_since old new (OpensToKeptOrAttempt j)
    write_moments j old new at n stands spares h room crash time =
        one_call moment left_since old new (OpensToKeptOrAttempt j) (images new)
        (λ c left. opens_image j c stands.sound (stands.each h c (only_now old c h left)) room)
        time
        (λ c here. let was = crash h c here in
        opens_image j c stands.sound (torn_keeps j was.0 c at n (stands.each h was.0 was.1) was.2 spares stands.sound.few) room)

-- one part that leaves nothing new after another
pub still_nothing_new : {D : Type 0} (moment : D → ℕ) (left_since : D → ℕ → List ℕ → Type 0) (images : D → List ℕ → Type 0) (old mid new : D)
    → Stays (images old) (images mid)
    → LeavesOnly moment left_since old mid (images old) → LeavesOnly moment left_since mid new (images mid)
    → LeavesOnly moment left_since old new (images old)
still_nothing_new moment left_since images old mid new crash first second =
    then_more moment left_since old mid new (images old) first (weaker moment left_since mid new (images mid) (images old) crash second)

pub same_batch : (j k : Journal) → k.attempt ≡ j.attempt → k.attempt.items ≡ j.attempt.items
same_batch j k same = rw same

-- a journal that was mended and then began a batch
module _ (j mended begun : Journal) (same : KeepsAll j mended) (is : begun ≡ record mended { torn = true; attempt = begun.attempt }) where
  pub begun_number : begun.number ≡ j.number
  begun_number = ap (λ (k : Journal). k.number) is ∙ same.same_number

  -- what it leaves with its attempt is what was kept with that batch
  pub with_attempt : (batch : List Change) → begun.attempt.items ≡ batch → (file : List ℕ) → OpensToKeptOrAttempt begun file
      → OpensToKeptOrWith j batch file
  with_attempt batch attempt file h =
      let wide = ap (λ (k : Journal). k.wide) is ∙ same.same_wide in
      let digest = ap (λ (k : Journal). k.digest) is ∙ same.same_digest in
      let kept = ap (λ (k : Journal). k.kept) is ∙ same.same_kept in
      rw (← wide, ← digest, ← kept, ← attempt) h

  -- a call that mended and then attempted the batch has two parts
  pub attempted_in_turn : {D : Type 0} (moment : D → ℕ) (left_since : D → ℕ → List ℕ → Type 0) (old mid new : D) (batch : List Change) (after : Journal)
      → begun.attempt.items ≡ batch → after.attempt ≡ begun.attempt → LeavesOnly moment left_since old mid (MayLeave j)
      → LeavesOnly moment left_since mid new (OpensToKeptOrAttempt begun)
      → (after.attempt.items ≡ batch) × LeavesInTurn moment left_since old new (MayLeave j) (OpensToKeptOrWith j batch)
  attempted_in_turn moment left_since old mid new batch after attempt kept first second = (
    same_batch begun after kept ∙ attempt,
    record {
      between = mid;
      first = first;
      second = weaker moment left_since mid new (OpensToKeptOrAttempt begun) (OpensToKeptOrWith j batch) (with_attempt batch attempt) second;
    },
  )

-- ---- a journal with one field set is sound

module _ (j : Journal) (s : IsSound j) where
  pub sound_slot : (b : Bool) → IsSound (record j { slot_may_be_open = b })
  sound_slot b = record { few = s.few; keeps = s.keeps; bound = s.bound; untorn = s.untorn }

  pub sound_shut : IsSound (record j { cell_may_be_open = false })
  sound_shut = record { few = s.few; keeps = s.keeps; bound = s.bound; untorn = λ whole. ((s.untorn whole).0, refl, (s.untorn whole).2) }

  pub sound_unsure : j.torn ≡ true → IsSound (record j { cell_may_be_open = true })
  sound_unsure torn = record { few = s.few; keeps = s.keeps; bound = s.bound; untorn = λ whole. absurd (cc) }

  pub sound_log : IsSound (record j { log = Open })
  sound_log = record { few = s.few; keeps = s.keeps; bound = s.bound; untorn = λ whole. (refl, (s.untorn whole).1, (s.untorn whole).2) }

  pub sound_begun : j.torn ≡ true → IsSound (record j { moving = true })
  sound_begun torn = record { few = s.few; keeps = s.keeps; bound = s.bound; untorn = λ whole. absurd (cc) }

  -- all cells are zero
  pub sound_ready : j.log ≡ Shut → IsSound (record j { log = Ready; cell_may_be_open = false })
  sound_ready shut = record { few = s.few; keeps = s.keeps; bound = s.bound; untorn = λ whole. absurd (let o = (s.untorn whole).0 in cc) }

  -- the state went to the other slot
  pub sound_moved : j.torn ≡ true → j.number + 1 ≤ 2 ^ 63 + most_cells + 2 * j.tried
      → IsSound (after_move j)
  sound_moved torn bound = record { few = omega arith; keeps = s.keeps; bound = bound; untorn = λ whole. absurd (cc) }

  -- the batch was appended
  pub sound_appended : j.torn ≡ true → j.number + 1 ≤ 2 ^ 63 + most_cells + 2 * j.tried → j.cells < most_cells → IsBatch j.wide j.attempt.items
      → IsSound (after_append j)
  sound_appended torn bound free batch =
      record {
        few = omega (arith, free);
        keeps = keeps-batch j.wide j.attempt.items j.kept batch.keeps s.keeps;
        bound = bound;
        untorn =
            λ whole. absurd (cc);
      }

-- the front stays where cells are written
pub front_stays : (at : ℕ) (bytes old new : List ℕ) → front_bytes ≤ at → Holds at bytes old new → SameFront old new
front_stays at bytes old new past holds =
    record { no_shorter = let s = holds.size in omega (arith, s); same_bytes = λ i front less. holds.same i less (inl (omega (arith, front, past))) }

torn_front : (at n : ℕ) (old new : List ℕ) → front_bytes ≤ at → Torn at n old new → SameFront old new
torn_front at n old new past torn =
    record { no_shorter = torn.no_shorter; same_bytes = λ i front less. torn.same i less (inl (omega (arith, front, past))) }

pub fronts : (old mid new : Option (List ℕ)) → Becomes SameFront old mid → Becomes SameFront mid new → Becomes SameFront old new
fronts None mid new one two = tt
fronts (Some old) None new one two = absurd one
fronts (Some old) (Some mid) None one two = absurd two
fronts (Some old) (Some mid) (Some new) one two = record {
  no_shorter = let a = one.no_shorter in let b = two.no_shorter in omega (arith, a, b);
  same_bytes = λ i front less. two.same_bytes i front (let a = one.no_shorter in omega (arith, a, less)) ∙ one.same_bytes i front less;
}

pub becomes_front : (at : ℕ) (bytes : List ℕ) (old new : Option (List ℕ)) → front_bytes ≤ at → Becomes (Holds at bytes) old new → Becomes SameFront old new
becomes_front at bytes None new past became = tt
becomes_front at bytes (Some old) None past became = absurd became
becomes_front at bytes (Some old) (Some new) past became = front_stays at bytes old new past became

-- the same of a write that failed
pub torn_becomes_front : (at n : ℕ) (old new : Option (List ℕ)) → front_bytes ≤ at → Becomes (Torn at n) old new → Becomes SameFront old new
torn_becomes_front at n None new past became = tt
torn_becomes_front at n (Some old) None past became = absurd became
torn_becomes_front at n (Some old) (Some new) past became = torn_front at n old new past became

-- nothing was written
pub front_kept : (old new : Option (List ℕ)) → new ≡ old → Becomes SameFront old new
front_kept old new same = subst (Becomes SameFront old) (sym same) (go old)
  where
    go : (seen : Option (List ℕ)) → Becomes SameFront seen seen
    go None = tt
    go (Some file) = record { no_shorter = omega arith; same_bytes = λ i front less. refl }

-- a write with its sync behind the front, whatever it answered
pub either_front : {E : Type 0} (r : Result (Unit {0}) E) (at : ℕ) (bytes : List ℕ) (old new : Option (List ℕ)) → front_bytes ≤ at
    → OnOk r (Becomes (Holds at bytes) old new) → OnErr r (Becomes (Torn at (length bytes)) old new) → Becomes SameFront old new
either_front (Ok u) at bytes old new past ok err = becomes_front at bytes old new past ok
either_front (Err e) at bytes old new past ok err = torn_becomes_front at (length bytes) old new past err

zeros_long : length {A = ℕ} (replicate bytes_of_cell 0) ≡ bytes_of_cell
zeros_long = refl

-- one cell more was made zero
pub zeros_more : (cells : ℕ) (seen new : Option (List ℕ)) (file : List ℕ) → seen ≡ Some file → IfSome seen (HasZeros cells)
    → Becomes (Holds (cell_place cells) (replicate bytes_of_cell 0)) seen new → IfSome new (HasZeros (cells + 1))
zeros_more cells None new file is had became = absurd (cc)
zeros_more cells (Some old) None file is had became = absurd became
zeros_more cells (Some old) (Some new) file is had became =
    λ some. (gate cells had became, let s = became.size in let r = zeros_long in omega (arith, s, r))
  where
    gate : (k : ℕ) → HasZeros k old → Holds (cell_place k) (replicate bytes_of_cell 0) old new → slice_index new (cell_place 0) ≡ 0
    gate zero h holds = holds.inside 0 (omega (arith, zeros_long)) ∙ get_or-replicate bytes_of_cell 0 0 0 (omega arith)
    gate (suc k) h holds = let had' = h (omega arith) in holds.same (cell_place 0) (let l = had'.1 in omega (arith, l)) (inl (omega arith)) ∙ had'.0

-- all cells are zero, and the file is whole
pub all_zero : (seen new : Option (List ℕ)) (file : List ℕ) → seen ≡ Some file → IfSome seen (HasZeros most_cells)
    → Becomes (Holds (cell_place most_cells) (0 ∷ [])) seen new → IfSome new (λ f. (slice_index f (cell_place 0) ≡ 0) × (whole_bytes ≤ length f))
all_zero None new file is had became = absurd (cc)
all_zero (Some old) None file is had became = absurd became
all_zero (Some old) (Some new) file is had became =
    let zeros = had (omega arith) in
    (became.same (cell_place 0) (let l = zeros.1 in omega (arith, l)) (inl (omega arith)) ∙ zeros.0, let s = became.size in omega (arith, s))

-- what is said of the only file that a crash may leave is said of each image
pub only_so : (new : Option (List ℕ)) (file : List ℕ) (images : List ℕ → Type 0) (P : List ℕ → Type 0) → new ≡ Some file → IfSome new P
    → IfSome new (λ f. Only f images) → (c : List ℕ) → images c → P c
only_so None file images P is p only c now' = absurd (cc)
only_so (Some f) file images P is p only c now' = subst P (sym (only c now')) p
