-- How a call of a disk in memory changes its log.
use Rattle.std.proofs.Common.{◌≡◌, ℕ, zero, suc, min, ◌+◌, ◌≤◌, List, [], ◌∷◌, ◌++◌, length, take, drop, refl, subst, inl, inr, take_all, arith, length-append, ap, sym, ◌∙◌}
use Rattle.panel_edges.specs.DiskLogs.{Call, Write, Sync, calls_of, bytes_in, content, cut_by, left_by, left_after}
use Rattle.panel_edges.specs.DiskLaws.{calls-push_write, calls-push_sync, bytes_in-push, bytes_in-push_sync, content-write, content-sync, cut_left}
use Rattle.std.proofs.lemmas.Bool.Decides.{leb_tells}
use Rattle.panel_edges.specs.Overwritten.{overwritten}
use Rattle.panel_edges.specs.declared.disk_call.DiskCall.{DiskCall}
use Rattle.panel_edges.specs.declared.disk_call.DiskCall.TheVariants.{Wrote, Synced}

-- a write is pushed, and its bytes come behind those of the writes before
module _ (log log' : List DiskCall) (store store' : List ℕ) (at count kept : ℕ) (piece : List ℕ) (pushed : log' ≡ log ++ Wrote at count kept ∷ [])
    (behind : store' ≡ store ++ piece) (long : length piece ≡ count) where
  pub write_logged : length store ≡ bytes_in log → calls_of log' store' ≡ calls_of log store ++ Write at piece kept ∷ []
  write_logged tight = rw (pushed, behind) (calls-push_write log store at count kept piece tight long)

  pub write_tight : length store ≡ bytes_in log → length store' ≡ bytes_in log'
  write_tight tight =
      rw (pushed, behind, bytes_in-push log at count kept) (length-append store piece ∙ ap (λ n. n + length piece) tight ∙ ap (λ n. bytes_in log + n)
      long)

  pub write_whole : (start bytes bytes' : List ℕ) → length store ≡ bytes_in log → bytes ≡ content start (calls_of log store)
      → bytes' ≡ overwritten at (take kept piece) bytes → bytes' ≡ content start (calls_of log' store')
  write_whole start bytes bytes' tight whole over =
      over ∙ ap (overwritten at (take kept piece)) whole ∙ sym (content-write start (calls_of log store) at piece kept) ∙ ap (content start)
      (sym (write_logged tight))

-- a sync is pushed
module _ (log log' : List DiskCall) (store : List ℕ) (pushed : log' ≡ log ++ Synced ∷ []) where
  pub sync_logged : calls_of log' store ≡ calls_of log store ++ Sync ∷ []
  sync_logged = rw pushed (calls-push_sync log store)

  pub sync_tight : length store ≡ bytes_in log → length store ≡ bytes_in log'
  sync_tight tight = rw (pushed, bytes_in-push_sync log) tight

  pub sync_whole : (start bytes : List ℕ) → bytes ≡ content start (calls_of log store) → bytes ≡ content start (calls_of log' store)
  sync_whole start bytes whole = whole ∙ sym (content-sync start (calls_of log store)) ∙ ap (content start) (sym sync_logged)

-- the calls of the front of a log
pub calls-take : (n : ℕ) (log : List DiskCall) (store : List ℕ) → calls_of (take n log) store ≡ take n (calls_of log store)
calls-take zero log store = refl
calls-take (suc n) [] store = refl
calls-take (suc n) (Wrote at count kept ∷ log) store = ap (λ calls. Write at (take count store) kept ∷ calls) (calls-take n log (drop count store))
calls-take (suc n) (Synced ∷ log) store = ap (λ calls. Sync ∷ calls) (calls-take n log store)

-- what a cut after some calls leaves may have been left since each moment up to then
pub cut_since : (start : List ℕ) (calls : List Call) (n : ℕ) (kept : List ℕ) (t : ℕ) → t ≤ n → t ≤ length calls
    → left_after start calls t (cut_by start (take n calls) kept)
cut_since start calls n kept t le within =
    let image : left_by start (take n calls) (cut_by start (take n calls) kept) =
    cut_left (λ file. file ≡ start) start start (take n calls) kept refl in
    elim (leb_tells n (length calls)) [
      | inl few ↦ (n, le, few.1, image)
      | inr many ↦ (
        length calls,
        within,
        omega arith,
        subst (λ xs. left_by start xs (cut_by start (take n calls) kept))
            (take_all n calls (omega (arith, many.1)) ∙ sym (take_all (length calls) calls (omega arith))) image,
      )
    ]

take_min : {A : Type 0} (n : ℕ) (xs : List A) → take (min n (length xs)) xs ≡ take n xs
take_min n xs = elim (leb_tells n (length xs)) [
  | inl few ↦ ap (λ k. take k xs) (omega (arith, few.1))
  | inr many ↦ take_all (min n (length xs)) xs (omega (arith, many.1)) ∙ sym (take_all n xs (omega (arith, many.1)))
]

-- the cut after some calls, by what a caller reads of the disk
pub cut_front : (start start' : List ℕ) (log log' : List DiskCall) (store store' : List ℕ) (n m : ℕ) (kept file : List ℕ)
    → start' ≡ start → log' ≡ log → store' ≡ store → m ≡ min n (length log') → file ≡ cut_by start' (calls_of (take m log') store') kept
    → file ≡ cut_by start (take n (calls_of log store)) kept
cut_front start start' log log' store store' n m kept file same_start same_log same_store least e =
    let front : calls_of (take m log') store' ≡ take n (calls_of log store) =
    ap (λ k. calls_of (take k log') store') least ∙ ap (λ xs. calls_of xs store') (take_min n log') ∙ calls-take n log' store' ∙ ap
    (λ xs. take n (calls_of xs store')) same_log ∙ ap (λ xs. take n (calls_of log xs)) same_store
    in e ∙ ap (λ xs. cut_by xs (calls_of (take m log') store') kept) same_start ∙ ap (λ calls. cut_by start calls kept) front
