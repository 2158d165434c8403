use Rattle.std.proofs.Common.{◌≡◌, List, [], length}
use Rattle.site_types.specs.declared.retained.Retained.{Retained}
use Rattle.site_types.specs.Done.{Done}
use Rattle.plain_words.specs.Enterings.{AllEnter}
use Rattle.plain_words.proofs.entering_panels.all_new.Given as goal

abbrev pub invariant-loop-place : goal.invariant-loop-place
invariant-loop-place l = record {
  all : (kept : Retained) (done : List Done) → AllEnter l.site kept done [] 1 l.panels.items;
  count : length l.panels.items ≡ l.place;
}
