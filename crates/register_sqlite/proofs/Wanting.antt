-- Over a store that never fails, a text that is as it should be is refused for want of memory alone.
use Rattle.std.proofs.Common.{◌≡◌, inl, inr, ℕ, ◌≤◌, true, false, List, [], length, None, Ok, Err, Option, Result, sym, ap, subst, subst₂, ◌∙◌, append-nil, arith, IsTrue}
use Rattle.std.specs.Prelude.{◌||◌, nat_le}
use Rattle.std.proofs.lemmas.Bool.{leb-true}
use Rattle.sqlite_value.specs.Order.{Row}
use Rattle.sqlite_trees.specs.declared.error.StoreError.{StoreError}
use Rattle.sqlite_trees.specs.declared.error.StoreError.TheVariants.{OutOfMemory, Io, Corrupt, Full, Broken, Unstorable}
use Rattle.sqlite_schema.specs.declared.command.Command.{Command}
use Rattle.sqlite_schema.specs.declared.schema.Schema.{Schema}
use Rattle.sqlite_resolve.specs.declared.compiled.Compiled.{Compiled}
use Rattle.sqlite_resolve.specs.declared.error.CompileError.{CompileError}
use Rattle.sqlite.specs.Clock.{timed}
use Rattle.sqlite.specs.Does.{Does}
use Rattle.sqlite.specs.Effect.{RefusesToRead, is_query}
use Rattle.sqlite.specs.Given.{IsPlain}
use Rattle.sqlite.specs.Held.{Held, state}
use Rattle.sqlite.specs.Store.{Ghosts}
use Rattle.register_sqlite.specs.Stored.{ComesAfter, IsSteady}
use Rattle.sqlite.specs.Listing.{IsSourceOf, reads_listing, understood}
use Rattle.sqlite.specs.State.{Executes, ExecutesIn, Fails, FailsToQuery, FailsToShow, HasCause, IsMisplaced, IsNotRun, RunsCommand, State, is_pragma, mode_of, shows_rows, text_of}
use Rattle.sqlite.specs.declared.error.Error.{Error}
use Rattle.sqlite.specs.declared.error.Error.TheVariants.{SqliteFailure}
use Rattle.sqlite.specs.declared.error.ErrorCode.TheVariants as code
use Rattle.sqlite.proofs.Callers.{command_of, statement_of}

-- the text is one statement with so many parameters
abbrev pub IsWhole : List ℕ → ℕ → Result Compiled CompileError → Type 0
IsWhole sql count (Ok c) = (nat_le (length sql) c.tail ≡ true) × (count ≡ length c.names) × (c.formats ≡ [])
IsWhole sql count (Err e) = ⊥

-- a call over a store that never fails
pub record IsSteadily (old new : State) : Type 0 where
  pub was_open : IsTrue old.is_open
  pub opened : IsTrue new.is_open
  pub none : old.faults ≡ 0
  pub none_now : new.faults ≡ 0
  pub limit : new.step_limit ≡ old.step_limit

pub steadily : {S : Type 0} (store : Ghosts S) → IsSteady store → (a b : Held S) → ComesAfter (state store a) (state store b) → IsSteadily (state store a) (state store b)
steadily store steady a b follows =
    record { was_open = (steady a).1; opened = (steady b).1; none = (steady a).2; none_now = (steady b).2; limit = follows.1 }

module _ (old new : State) (it : IsSteadily old new) where
  pub fails : (big : Type 0) → (¬ big) → (e : Error) → Fails old new big e → e ≡ SqliteFailure code.OutOfMemory
  fails big small e h = by_cause h.0 h.1 h.2
    where
      by_cause : (cause : StoreError) → e ≡ Rattle.sqlite.specs.State.store_error cause → HasCause old new big cause → e ≡ SqliteFailure code.OutOfMemory
      by_cause OutOfMemory named has = named
      by_cause Io named has = absurd (omega (arith, has, it.none, it.none_now))
      by_cause Corrupt named has = absurd (omega (arith, has, it.none, it.none_now))
      by_cause Full named has = absurd (omega (arith, has, it.none, it.none_now))
      by_cause Broken named has = absurd (let clash : true ≡ false = sym it.was_open ∙ has in cc)
      by_cause Unstorable named has = absurd (small has)

  not_run : (sql : List ℕ) (params : Row) (found : Result Compiled CompileError) → understood old.now.schema sql ≡ found → IsWhole sql (length params) found
      → (e : Error) → IsNotRun old new sql params e → e ≡ SqliteFailure code.OutOfMemory
  unfolding IsNotRun
  not_run sql params (Err fault) known whole e h = absurd whole
  not_run sql params (Ok c) known whole e (inl (inl (fault, refused, named), same)) = absurd (let clash = sym known ∙ refused in cc)
  not_run sql params (Ok c) known whole e (inl (inr (other, is, inl (cut, named)), same)) =
      let alike : c ≡ other = (let both = sym known ∙ is in cc) in absurd (cut (subst (λ k. length sql ≤ k.tail) alike (leb-true (length sql) c.tail whole.0)))
  not_run sql params (Ok c) known whole e (inl (inr (other, is, inr (inl (wrong, named))), same)) =
      let alike : c ≡ other = (let both = sym known ∙ is in cc) in absurd (wrong (subst (λ k. length params ≡ length k.names) alike whole.1))
  not_run sql params (Ok c) known whole e (inl (inr (other, is, inr (inr (clock, named))), same)) =
      let alike : c ≡ other = (let both = sym known ∙ is in cc) in absurd (clock (subst (λ k. k.formats ≡ []) alike whole.2))
  not_run sql params found known whole e (inr stopped) = fails ⊥ (λ never. never) e stopped

  module _ (sql : List ℕ) (params : Row) (schema : Schema) (has : old.now.schema ≡ schema) (command : Command) (is : command_of (understood schema sql) ≡ command)
      (plain : IsPlain (understood schema sql)) (whole : IsWhole sql (length params) (understood schema sql)) (Refuses : Error → Type 0)
      (memory : Refuses (SqliteFailure code.OutOfMemory)) where
    known_not_run : (e : Error) → IsNotRun old new sql params e → Refuses e
    known_not_run e h =
        subst Refuses (sym (not_run sql params (understood schema sql) (ap (λ s. understood s sql) has) whole e h)) memory

    -- a text that writes
    pub executes : (is_query command || (is_pragma command || false)) ≡ false → ((e : Error) → ¬ IsMisplaced old command e)
        → ((e : Error) → Does old.step_limit (mode_of old) params old.now (statement_of sql (understood schema sql)) None command (Err (Option.Some e)) → Refuses e)
        → (¬ Does old.step_limit (mode_of old) params old.now (statement_of sql (understood schema sql)) None command (Err None))
        → (e : Error) → Executes sql params old new (Err e) → Refuses e
    unfolding ExecutesIn
    executes quiet placed refused small e (inl h) = known_not_run e h
    executes quiet placed refused small e (inr h) =
        let known : Ok h.0 ≡ understood schema sql = sym h.1.is ∙ ap (λ s. understood s sql) has in
        let bare = subst IsPlain (sym known) plain in
        let same : h.0.command ≡ command = ap command_of known ∙ is in
        let writes : shows_rows false h.0 ≡ false = rw (bare.0, same) quiet in
        let ran : RunsCommand old new sql h.0 (timed params h.0.formats h.1.now) (Err e) = rw writes at h.2 in
        by_command h.0 same bare.0 (ap (statement_of sql) known) (rw (bare.1, append-nil params) at ran)
      where
        by_command : (c : Compiled) → c.command ≡ command → c.returning ≡ None → text_of sql c ≡ statement_of sql (understood schema sql) → RunsCommand old new sql c params (Err e) → Refuses e
        by_command c same none_shown text (inl (inl misplaced, kept)) = absurd (placed e (subst (λ k. IsMisplaced old k e) same misplaced))
        by_command c same none_shown text (inl (inr (may, done), kept)) = refused e (rw (same, none_shown, text) at done)
        by_command c same none_shown text (inr stopped) =
            subst Refuses (sym (fails _ (λ big. small (rw (same, none_shown, text) at big)) e stopped)) memory

    -- a text that reads
    pub queries : reads_listing schema sql ≡ false → ((e : Error) → RefusesToRead old.step_limit command old.now params e → Refuses e)
        → (e : Error) → FailsToQuery sql params old new e → Refuses e
    unfolding FailsToQuery
    queries unlisted refused e (inl h) = known_not_run e h
    queries unlisted refused e (inr h) =
        let known : Ok h.0 ≡ understood schema sql = sym h.1.is ∙ ap (λ s. understood s sql) has in
        let bare = subst IsPlain (sym known) plain in
        let it = rw (bare.0, bare.1, append-nil params) at h.2 in
        let db : it.0 ≡ old.now = subst (λ b. IsSourceOf b old.now it.0) (ap (λ s. reads_listing s sql) has ∙ unlisted) it.1 in
        let same : h.0.command ≡ command = ap command_of known ∙ is in
        refused e (subst₂ (λ k d. RefusesToRead old.step_limit k d params e) same db it.2)
