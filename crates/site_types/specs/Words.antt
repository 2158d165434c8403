-- What tells of nothing: a panel's word and its faults at the start.
use Rattle.std.specs.Prelude.{false}
use Rattle.site_types.specs.declared.fault_set.FaultSet.{FaultSet}
use Rattle.site_types.specs.declared.word.Word.{Word}
use Rattle.site_types.specs.Bits.{no_set}

-- the word of a panel of which nothing was heard
abbrev pub empty_word : Word
empty_word = record {
  stamp = record { 0 = 0 };
  alarm = 0;
  manual = 0;
  released = 0;
  first = 0;
  fault =
      false;
}

-- no fault is shown
abbrev pub no_faults : FaultSet
no_faults = record {
  missing = no_set;
  broken = 0;
  shorted = 0;
  supply = 0;
  silent = 0;
  links =
      0;
  unconfirmed = 0;
}
