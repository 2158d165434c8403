-- Laws of the log of a disk in memory. They stand here since its meaning as a disk cites them.
use Rattle.std.specs.Prelude.{◌≡◌, ℕ, ◌+◌, ◌-◌, ◌<◌, ◌≤◌, List, [], ◌∷◌, ◌++◌, length, take, drop, replicate, max}
use Rattle.std.specs.Prelude.{slice_index, refl, Bool, true, false, if◌then◌else◌, ◌==◌}
use Rattle.std.proofs.Common.{sym, ◌∙◌, ap, subst, inl, inr, ⊎_elim, arith, length-append, length-take, length-drop}
use Rattle.std.proofs.Common.{append_assoc, take_all}
use Rattle.std.proofs.lemmas.List.{length-replicate, get_or-append_right, get_or_append_left, get_or-take}
use Rattle.std.proofs.lemmas.List.{get_or-drop, take-append-le, drop-append-le}
use Rattle.std.proofs.lemmas.Bool.Decides.{leb_tells}
use Rattle.panel_edges.specs.Overwritten.{overwritten}
use Rattle.panel_edges.specs.Disks.{Torn, Holds}
use Rattle.panel_edges.specs.Crashes.{After, Elapses, Follows, Only, Stays}
use Rattle.panel_edges.specs.DiskLogs.{Call, Write, Sync, calls_of, bytes_in, content, may_leave, left_by, left_after}
use Rattle.panel_edges.specs.DiskLogs.{front_written, cut_from}
use Rattle.panel_edges.specs.declared.disk_call.DiskCall.{DiskCall}
use Rattle.panel_edges.specs.declared.disk_call.DiskCall.TheVariants.{Wrote, Synced}

-- ---- a write

pub length-overwritten : (at : ℕ) (bytes old : List ℕ)
    → length (overwritten at bytes old) ≡ max (length old) (at + length bytes)
length-overwritten at bytes old =
    let tail = drop (at + length bytes) old in
    let zeros : List ℕ = replicate (at - length old) 0 in
    omega (
      arith,
      length-append (take at old) (zeros ++ (bytes ++ tail)),
      length-append zeros (bytes ++ tail),
      length-append bytes tail,
      length-take at old,
      length-drop (at + length bytes) old,
      length-replicate {A = ℕ} (at - length old) 0,
    )

-- in the range, before it and behind it
pub overwritten_inside : (at : ℕ) (bytes old : List ℕ) (i : ℕ) → i < length bytes
    → slice_index (overwritten at bytes old) (at + i) ≡ slice_index bytes i
overwritten_inside at bytes old i within =
    let tail = drop (at + length bytes) old in
    let zeros : List ℕ = replicate (at - length old) 0 in
    let front : length (take at old) + length zeros ≡ at =
    omega (arith, length-take at old, length-replicate {A = ℕ} (at - length old) 0) in
    ap (λ (xs : List ℕ). slice_index xs (at + i)) (sym (append_assoc (take at old) zeros (bytes ++ tail)))
    ∙ get_or-append_right (take at old ++ zeros) (bytes ++ tail) at (at + i) 0
    (length-append (take at old) zeros ∙ front) (omega arith)
    ∙ ap (slice_index (bytes ++ tail)) (omega arith)
    ∙ get_or_append_left bytes tail 0 i within

pub overwritten_before : (at : ℕ) (bytes old : List ℕ) (i : ℕ) → i < length old → i < at
    → slice_index (overwritten at bytes old) i ≡ slice_index old i
overwritten_before at bytes old i within before =
    get_or_append_left (take at old) _ 0 i (omega (arith, length-take at old)) ∙ get_or-take at old i 0 before

pub overwritten_behind : (at : ℕ) (bytes old : List ℕ) (i : ℕ) → i < length old → at + length bytes ≤ i
    → slice_index (overwritten at bytes old) i ≡ slice_index old i
overwritten_behind at bytes old i within behind =
    let tail = drop (at + length bytes) old in
    let zeros : List ℕ = replicate (at - length old) 0 in
    let front : length ((take at old ++ zeros) ++ bytes) ≡ at + length bytes =
    omega (
      arith,
      length-append (take at old ++ zeros) bytes,
      length-append (take at old) zeros,
      length-take at old,
      length-replicate {A = ℕ} (at - length old) 0,
    ) in
    ap (λ (xs : List ℕ). slice_index xs i)
    (sym (append_assoc (take at old) zeros (bytes ++ tail)) ∙ sym
    (append_assoc (take at old ++ zeros) bytes tail))
    ∙ get_or-append_right ((take at old ++ zeros) ++ bytes) tail (at + length bytes) i 0 front behind
    ∙ get_or-drop (at + length bytes) old (i - (at + length bytes)) 0
    ∙ ap (slice_index old) (omega arith)

pub overwritten_holds : (at : ℕ) (bytes old : List ℕ) → Holds at bytes old (overwritten at bytes old)
overwritten_holds at bytes old = record {
  size = length-overwritten at bytes old;
  inside = overwritten_inside at bytes old;
  same =
      λ i within outside. ⊎_elim (overwritten_before at bytes old i within)
      (overwritten_behind at bytes old i within) outside;
}

pub torn_same : (at n : ℕ) (c : List ℕ) → Torn at n c c
torn_same at n c = record {
  no_shorter = omega arith;
  no_longer = omega arith;
  same =
      λ i within outside. refl;
}

-- a front of the bytes is a torn write of them all
pub overwritten_torn : (at n : ℕ) (bytes old : List ℕ) → length bytes ≤ n
    → Torn at n old (overwritten at bytes old)
overwritten_torn at n bytes old few =
    let h = overwritten_holds at bytes old in
    record {
      no_shorter = omega (arith, h.size);
      no_longer = omega (arith, h.size, few);
      same =
          λ i within outside.
          h.same i within (⊎_elim (λ before. inl before) (λ behind. inr (omega (arith, behind, few)))
          outside);
    }

pub front_torn : (at : ℕ) (bytes : List ℕ) (kept : ℕ) (old : List ℕ)
    → Torn at (length bytes) old (overwritten at (take kept bytes) old)
front_torn at bytes kept old =
    overwritten_torn at (length bytes) (take kept bytes) old (omega (arith, length-take kept bytes))

pub front_written_torn : (at : ℕ) (bytes : List ℕ) (kept : ℕ) (old : List ℕ)
    → Torn at (length bytes) old (front_written at bytes kept old)
front_written_torn at bytes kept old = go (kept == 0)
  where
    go : (b : Bool) → Torn at (length bytes) old (if b then old else overwritten at (take kept bytes) old)
    go true = torn_same at (length bytes) old
    go false = front_torn at bytes kept old

-- ---- a log that grows

pub calls-push_write : (log : List DiskCall) (store : List ℕ) (at count kept : ℕ) (bytes : List ℕ)
    → length store ≡ bytes_in log → length bytes ≡ count
    → calls_of (log ++ Wrote at count kept ∷ []) (store ++ bytes) ≡ calls_of log store ++ Write at bytes kept
    ∷ []
calls-push_write [] [] at count kept bytes tight long =
    ap (λ (xs : List ℕ). Write at xs kept ∷ []) (take_all count bytes (omega (arith, long)))
calls-push_write [] (x ∷ store) at count kept bytes tight long = cc
calls-push_write (Wrote at' n k ∷ log) store at count kept bytes tight long =
    let fits : n ≤ length store = omega (arith, tight) in
    let ih =
    calls-push_write log (drop n store) at count kept bytes (omega (arith, tight, length-drop n store))
    long in
    rw (take-append-le n store bytes fits, drop-append-le n store bytes fits)
    (ap (λ cs. Write at' (take n store) k ∷ cs) ih)
calls-push_write (Synced ∷ log) store at count kept bytes tight long =
    ap (λ cs. Sync ∷ cs) (calls-push_write log store at count kept bytes tight long)

pub calls-push_sync : (log : List DiskCall) (store : List ℕ)
    → calls_of (log ++ Synced ∷ []) store ≡ calls_of log store ++ Sync ∷ []
calls-push_sync [] store = refl
calls-push_sync (Wrote at n k ∷ log) store =
    ap (λ cs. Write at (take n store) k ∷ cs) (calls-push_sync log (drop n store))
calls-push_sync (Synced ∷ log) store = ap (λ cs. Sync ∷ cs) (calls-push_sync log store)

pub bytes_in-push : (log : List DiskCall) (at count kept : ℕ)
    → bytes_in (log ++ Wrote at count kept ∷ []) ≡ bytes_in log + count
bytes_in-push [] at count kept = omega arith
bytes_in-push (Wrote at' n k ∷ log) at count kept = omega (arith, bytes_in-push log at count kept)
bytes_in-push (Synced ∷ log) at count kept = bytes_in-push log at count kept

pub bytes_in-push_sync : (log : List DiskCall) → bytes_in (log ++ Synced ∷ []) ≡ bytes_in log
bytes_in-push_sync [] = refl
bytes_in-push_sync (Wrote at n k ∷ log) = ap (λ m. n + m) (bytes_in-push_sync log)
bytes_in-push_sync (Synced ∷ log) = bytes_in-push_sync log

-- ---- what a read gives

-- a crash may leave what a read gives after some calls, where it might leave what a read gave before them
pub content_left : (images : List ℕ → Type 0) (old : List ℕ) (calls : List Call) → images old
    → may_leave images old calls (content old calls)
content_left images old [] h = h
content_left images old (Write at bytes kept ∷ calls) h =
    content_left (After (Torn at (length bytes)) images) (overwritten at (take kept bytes) old) calls
    (old, h, front_torn at bytes kept old)
content_left images old (Sync ∷ calls) h = content_left (λ file. file ≡ old) old calls refl

pub content-write : (old : List ℕ) (calls : List Call) (at : ℕ) (bytes : List ℕ) (kept : ℕ)
    → content old (calls ++ Write at bytes kept ∷ []) ≡ overwritten at (take kept bytes) (content old calls)
content-write old [] at bytes kept = refl
content-write old (Write at' bytes' k ∷ calls) at bytes kept =
    content-write (overwritten at' (take k bytes') old) calls at bytes kept
content-write old (Sync ∷ calls) at bytes kept = content-write old calls at bytes kept

pub content-sync : (old : List ℕ) (calls : List Call) → content old (calls ++ Sync ∷ []) ≡ content old calls
content-sync old [] = refl
content-sync old (Write at bytes kept ∷ calls) = content-sync (overwritten at (take kept bytes) old) calls
content-sync old (Sync ∷ calls) = content-sync old calls

-- ---- what a crash may leave

pub left-write : (images : List ℕ → Type 0) (old : List ℕ) (calls : List Call) (at : ℕ) (bytes : List ℕ)
    (kept : ℕ) (c : List ℕ) → may_leave images old (calls ++ Write at bytes kept ∷ []) c
    → After (Torn at (length bytes)) (may_leave images old calls) c
left-write images old [] at bytes kept c h = h
left-write images old (Write at' bytes' k ∷ calls) at bytes kept c h =
    left-write (After (Torn at' (length bytes')) images) (overwritten at' (take k bytes') old) calls at bytes
    kept c h
left-write images old (Sync ∷ calls) at bytes kept c h =
    left-write (λ file. file ≡ old) old calls at bytes kept c h

pub left-sync : (images : List ℕ → Type 0) (old : List ℕ) (calls : List Call) (c : List ℕ)
    → may_leave images old (calls ++ Sync ∷ []) c → c ≡ content old calls
left-sync images old [] c h = h
left-sync images old (Write at bytes kept ∷ calls) c h =
    left-sync (After (Torn at (length bytes)) images) (overwritten at (take kept bytes) old) calls c h
left-sync images old (Sync ∷ calls) c h = left-sync (λ file. file ≡ old) old calls c h

-- a cut leaves an image
pub cut_left : (images : List ℕ → Type 0) (old torn : List ℕ) (calls : List Call) (kept : List ℕ)
    → images torn → may_leave images old calls (cut_from old torn calls kept)
cut_left images old torn [] kept h = h
cut_left images old torn (Write at bytes whole ∷ calls) kept h =
    cut_left (After (Torn at (length bytes)) images) (overwritten at (take whole bytes) old)
    (front_written at bytes (slice_index kept 0) torn) calls (drop 1 kept)
    (torn, h, front_written_torn at bytes (slice_index kept 0) torn)
cut_left images old torn (Sync ∷ calls) kept h =
    cut_left (λ file. file ≡ old) old old calls (drop 1 kept) refl

-- one call more
pub elapses_more : (start : List ℕ) (calls : List Call) (call : Call)
    → Elapses (length calls) (length (calls ++ call ∷ [])) (left_after start calls)
    (left_after start (calls ++ call ∷ [])) (left_by start (calls ++ call ∷ []))
elapses_more start calls call = record {
  later = omega (arith, length-append calls (call ∷ []));
  nothing_else = λ t c le left. elim (leb_tells left.0 (length calls)) [
    | inl within ↦
        inl (
          left.0,
          left.1,
          within.1,
          subst (λ xs. left_by start xs c) (take-append-le left.0 calls (call ∷ []) within.1) left.3,
        )
    | inr past ↦
        inr
        (subst (λ xs. left_by start xs c)
        (take_all left.0 (calls ++ call ∷ []) (omega (arith, past.1, length-append calls (call ∷ []))))
        left.3)
  ];
  keeps =
      λ t c le left. (
        left.0,
        left.1,
        omega (arith, left.2, length-append calls (call ∷ [])),
        subst (λ xs. left_by start xs c) (sym (take-append-le left.0 calls (call ∷ []) left.2)) left.3,
      );
}

-- no call more
pub elapses_none : (start : List ℕ) (calls : List Call)
    → Elapses (length calls) (length calls) (left_after start calls) (left_after start calls)
    (left_by start calls)
elapses_none start calls = record {
  later = omega arith;
  nothing_else = λ t c le left. inl left;
  keeps =
      λ t c le left. left;
}

-- ---- the laws of a disk

-- since now there is no other
pub none_since : (start : List ℕ) (calls : List Call) (c : List ℕ) → left_after start calls (length calls) c
    → left_by start calls c
none_since start calls c left = subst (λ xs. left_by start xs c) (take_all left.0 calls left.1) left.3

pub now_counts : (start : List ℕ) (calls : List Call) (t : ℕ) (c : List ℕ) → t ≤ length calls
    → left_by start calls c → left_after start calls t c
now_counts start calls t c le left = (
  length calls,
  le,
  omega arith,
  subst (λ xs. left_by start xs c) (sym (take_all (length calls) calls (omega arith))) left,
)

pub image_now : (start bytes : List ℕ) (calls : List Call) → bytes ≡ content start calls
    → left_by start calls bytes
image_now start bytes calls e =
    subst (left_by start calls) (sym e) (content_left (λ file. file ≡ start) start calls refl)

-- a disk whose log has one call more, by the values that a caller has
module _ (start start' : List ℕ) (calls calls' : List Call) (call : Call) (same : start' ≡ start) (more :
    calls' ≡ calls ++ call ∷ []) where
  pub time_more : Elapses (length calls) (length calls') (left_after start calls) (left_after start' calls')
      (left_by start' calls')
  time_more = rw (same, more) (elapses_more start calls call)

module _ (start start' : List ℕ) (calls calls' : List Call) (same : start' ≡ start) where
  pub write_follows : (at : ℕ) (bytes : List ℕ) (kept : ℕ) → calls' ≡ calls ++ Write at bytes kept ∷ []
      → Follows (Torn at (length bytes)) (left_by start calls) (left_by start' calls')
  write_follows at bytes kept more c left =
      left-write (λ f. f ≡ start) start calls at bytes kept c
      (subst (λ xs. left_by start xs c) more (subst (λ s. left_by s calls' c) same left))

  pub sync_only : (file : List ℕ) → file ≡ content start calls → calls' ≡ calls ++ Sync ∷ []
      → Only file (left_by start' calls')
  sync_only file whole more c left =
      left-sync (λ f. f ≡ start) start calls c
      (subst (λ xs. left_by start xs c) more (subst (λ s. left_by s calls' c) same left)) ∙ sym whole

  pub sync_stays : calls' ≡ calls ++ Sync ∷ [] → Stays (left_by start calls) (left_by start' calls')
  sync_stays more c left =
      subst (left_by start calls) (sym (sync_only (content start calls) refl more c left))
      (content_left (λ f. f ≡ start) start calls refl)

  -- nothing was logged
  pub same_stays : calls' ≡ calls → Stays (left_by start calls) (left_by start' calls')
  same_stays kept c left = subst (λ xs. left_by start xs c) kept (subst (λ s. left_by s calls' c) same left)

  pub same_follows : (at n : ℕ) → calls' ≡ calls
      → Follows (Torn at n) (left_by start calls) (left_by start' calls')
  same_follows at n kept c left = (c, same_stays kept c left, torn_same at n c)

  pub same_time : calls' ≡ calls
      → Elapses (length calls) (length calls') (left_after start calls) (left_after start' calls')
      (left_by start' calls')
  same_time kept = rw (same, kept) (elapses_none start calls)
