-- What Desk makes of an operation: it tells an answer that changes nothing, does it at once, or accepts it for Keep.
use Rattle.std.proofs.Common.{◌≡◌, List, Option, Some, None, Bool, true, false, if◌then◌else◌, refl}
use Rattle.std.specs.Prelude.{nat_le, nat_lt}
use Rattle.site_types.specs.declared.retained.Retained.{Retained}
use Rattle.site_types.specs.declared.site.Site.{Site}
use Rattle.site_types.specs.Done.{Done, Setting, value_set}
use Rattle.site_types.specs.Limits.{most_operations}
use Rattle.access_levels.specs.Levels.{needed_by}
use Rattle.panel_rules.specs.Operations.{Request, Reply, Busy, Denied, Waiting, Already, WasDone, Operations, setting_asked, is_unsettled, stands_so, setting_reply, desk_reply, and_done}
use Rattle.panel_laws.specs.OtherDeadlines.{is_by_desk}

pub data Outcome (r : Request) : Option Reply → Type 0 where
  told : (reply : Reply) → is_by_desk reply ≡ true → ((done : List Done) → and_done r reply done ≡ done) → Outcome r (Some reply)
  at_once : setting_asked r ≡ None → Outcome r (Some WasDone)
  goes_on : (setting : Setting) → setting_asked r ≡ Some setting → Outcome r None

module _ (site : Site) (kept : Retained) (r : Request) (so_far : Operations) where
  by_value : (setting : Setting) → setting_asked r ≡ Some setting → (b : Bool) → Outcome r (if b then Some Already else None)
  by_value setting e true = told Already refl (λ done. refl)
  by_value setting e false = goes_on setting e

  by_waiting : (setting : Setting) → setting_asked r ≡ Some setting → (b c : Bool)
      → Outcome r (if b then Some Waiting else (if c then Some Already else None))
  by_waiting setting e true c = told Waiting refl (λ done. refl)
  by_waiting setting e false c = by_value setting e c

  by_setting : (o : Option Setting) → setting_asked r ≡ o → Outcome r (setting_reply site kept r so_far o)
  by_setting None e = at_once e
  by_setting (Some setting) e =
      by_waiting setting e (is_unsettled setting r.tick so_far) (stands_so site kept setting r.tick (value_set r.operation) so_far.done)

  by_row : (busy denied : Bool)
      → Outcome r
      (if busy then Some Busy else (if denied then Some (Denied (needed_by r.operation) r.level) else setting_reply site kept r so_far
      (setting_asked r)))
  by_row true denied = told Busy refl (λ done. refl)
  by_row false true = told (Denied (needed_by r.operation) r.level) refl (λ done. refl)
  by_row false false = by_setting (setting_asked r) refl

  pub outcome : Outcome r (desk_reply site kept r so_far)
  outcome = by_row (nat_le most_operations r.earlier) (nat_lt r.level (needed_by r.operation))
