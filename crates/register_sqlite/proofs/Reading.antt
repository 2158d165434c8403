-- Over a register in a store that never fails, a text that reads is refused for want of memory alone.
use Rattle.std.proofs.Common.{◌≡◌, inl, inr, ℕ, pos, true, false, List, [], ◌∷◌, codes, None, Option, refl, sym, ap, ◌∙◌}
use Rattle.std.specs.Prelude.{IsSome}
use Rattle.sqlite_value.specs.declared.value.Value.TheVariants.{Int, Text}
use Rattle.sqlite_schema.specs.declared.command.Command.TheVariants.{Select}
use Rattle.sqlite_typing.specs.Types.{accepts_program}
use Rattle.sqlite.specs.Effect.{RefusesToRead}
use Rattle.sqlite.specs.State.{FailsToQuery, State}
use Rattle.sqlite.specs.declared.error.Error.{Error}
use Rattle.sqlite.specs.declared.error.Error.TheVariants.{SqliteFailure}
use Rattle.sqlite.specs.declared.error.ErrorCode.TheVariants.{OutOfMemory}
use Rattle.register_sqlite.specs.Schema.{register_schema}
use Rattle.register_sqlite.specs.Stored.{IsRegister}
use Rattle.register_sqlite.specs.Texts.{number_params, point_params, select_tests_text, select_visit_text}
use Rattle.register_sqlite.proofs.Understood.{select_tests_command, select_tests_plain, select_tests_unlisted, select_tests_whole, tests_query}
use Rattle.register_sqlite.proofs.Understood.{select_visit_command, select_visit_plain, select_visit_unlisted, select_visit_whole, visit_query}
use Rattle.register_sqlite.proofs.Wanting.{IsSteadily, queries}

accepts_number : (number : ℕ) → accepts_program register_schema [] visit_query (Int (pos number) ∷ []) ≡ true
accepts_number number = refl

accepts_point : (point : List ℕ) → accepts_program register_schema [] tests_query (Text point ∷ []) ≡ true
accepts_point point = refl

never_some : (limit : Option ℕ) → limit ≡ None → ¬ IsSome limit
never_some None is some = absurd (let e = some in cc)
never_some (Option.Some n) is some = absurd cc

module _ (old new : State) (it : IsSteadily old new) (register : IsRegister old) where
  abbrev IsWant : Error → Type 0
  IsWant e = e ≡ SqliteFailure OutOfMemory

  pub select_visit_wants : (number : ℕ) (e : Error) → FailsToQuery select_visit_text (number_params number) old new e → IsWant e
  select_visit_wants number e h =
      queries old new it select_visit_text (number_params number) register_schema register.schema _ select_visit_command select_visit_plain
      select_visit_whole IsWant refl select_visit_unlisted refused e h
    where
      refused : (e : Error) → RefusesToRead old.step_limit (Select (record { lets = []; body = visit_query }) (codes "day" ∷ codes "engineer" ∷ [])) old.now (number_params number) e → IsWant e
      refused e (inl untyped) = absurd (let clash : true ≡ false = sym (ap (λ s. accepts_program s [] visit_query (number_params number)) register.schema ∙ accepts_number number) ∙ untyped.1 in cc)
      refused e (inr (inl (named, inl grouped))) = absurd grouped
      refused e (inr (inl (named, inr folded))) = absurd folded.4
      refused e (inr (inr (named, some))) = absurd (never_some old.step_limit register.unlimited some)

  pub select_tests_wants : (point : List ℕ) (e : Error) → FailsToQuery select_tests_text (point_params point) old new e → IsWant e
  select_tests_wants point e h =
      queries old new it select_tests_text (point_params point) register_schema register.schema _ select_tests_command select_tests_plain
      select_tests_whole IsWant refl select_tests_unlisted refused e h
    where
      refused : (e : Error) → RefusesToRead old.step_limit (Select (record { lets = []; body = tests_query }) (codes "visit" ∷ [])) old.now (point_params point) e → IsWant e
      refused e (inl untyped) = absurd (let clash : true ≡ false = sym (ap (λ s. accepts_program s [] tests_query (point_params point)) register.schema ∙ accepts_point point) ∙ untyped.1 in cc)
      refused e (inr (inl (named, inl grouped))) = absurd grouped
      refused e (inr (inl (named, inr folded))) = absurd folded.4
      refused e (inr (inr (named, some))) = absurd (never_some old.step_limit register.unlimited some)
