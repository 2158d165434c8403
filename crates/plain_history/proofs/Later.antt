-- What one more operation done changes.
use Rattle.std.proofs.Common.{◌≡◌, ◌+◌, ◌<◌, ◌==◌, ◌&&◌, ◌||◌, ℕ, Bool, List, Option, get_or, if◌then◌else◌, length, max, nat_le, nat_lt, take}
use Rattle.site_types.specs.declared.retained.Retained.{Retained}
use Rattle.site_types.specs.declared.site.Site.{Site}
use Rattle.site_types.specs.Done.{Done as DoneOf, Setting, in_force, is_on, is_override, latest_before, override_done_in, silence_before, silence_then, value_set}
use Rattle.plain_history.specs.declared.done.Done.{Done}
use Rattle.plain_history.specs.Histories.{all_done, done_of}
use Rattle.plain_history.proofs.Histories.{all_done_upto}

module _ (done : List Done) (place : ℕ) (d : Done) (within : place < length done) where
  pub in_force_more : (site : Site) (kept : Retained) (setting : Setting) (x : ℕ) (before after : Bool)
      → before ≡ in_force site kept setting x (all_done (take place done))
      → after ≡ (if is_on setting (done_of (get_or done place d))
      && nat_lt (get_or done place d).tick.0 x then value_set (get_or done place d).operation else before)
      → after ≡ in_force site kept setting x (all_done (take (place + 1) done))
  in_force_more site kept setting x before after was is = rw (all_done_upto done place d within, ← was) is

  pub latest_more : (test : DoneOf → Bool) (x before after : ℕ) → before ≡ latest_before test x (all_done (take place done))
      → after ≡ (if test (done_of (get_or done place d)) && nat_lt (get_or done place d).tick.0 x then max (get_or done place d).tick.0 before else
      before) → after ≡ latest_before test x (all_done (take (place + 1) done))
  latest_more test x before after was is = rw (all_done_upto done place d within, ← was) is

  pub override_more : (panel first x : ℕ) (before after : Bool) → before ≡ override_done_in panel first x (all_done (take place done))
      → after
      ≡ (((get_or done place d).panel == panel && is_override (get_or done place d).operation && nat_le first (get_or done place d).tick.0
      && nat_lt (get_or done place d).tick.0 x) || before) → after ≡ override_done_in panel first x (all_done (take (place + 1) done))
  override_more panel first x before after was is = rw (all_done_upto done place d within, ← was) is

  pub silence_more : (panel x : ℕ) (before after : Option ℕ) → before ≡ silence_before panel x (all_done (take place done))
      → after ≡ (if (get_or done place d).panel == panel && nat_lt (get_or done place d).tick.0 x then silence_then (get_or done place d).operation
      (get_or done place d).tick.0 before else before) → after ≡ silence_before panel x (all_done (take (place + 1) done))
  silence_more panel x before after was is = rw (all_done_upto done place d within, ← was) is
