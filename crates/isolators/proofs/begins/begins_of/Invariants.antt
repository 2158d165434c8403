use Rattle.std.proofs.Common.{◌≡◌, ◌<◌, ℕ, slice_index, length}
use Rattle.site_types.specs.Sections.{section_of, section_of_piece}
use Rattle.isolators.proofs.begins.begins_of.Given as goal

abbrev pub invariant-loop-piece : goal.invariant-loop-piece
invariant-loop-piece l = record {
  size : length l.begins ≡ 256;
  known : (piece : ℕ) → piece < l.piece → slice_index l.begins piece ≡ section_of_piece l.isolators piece;
  place : l.place ≡ section_of l.isolators l.piece;
}
