use Rattle.std.proofs.Common.{◌≡◌, ◌-◌, ◌<◌, ◌≤◌, ℕ, false, length, slice_index_or}
use Rattle.kept_words.specs.Stands.{word_stored}
use Rattle.kept_facts.proofs.facts.facts_kept.Given as goal

abbrev pub invariant-loop-source : goal.invariant-loop-source
invariant-loop-source l = record {
  zones_wide : length l.zones ≡ 8;
  manual_wide : length l.manual ≡ 8;
  faulty_wide : length l.faulty ≡ 8;
  zones : (q : ℕ) → 1 ≤ q → q < l.source → slice_index_or l.zones (q - 1) 0 ≡ (word_stored l.words q).released;
  manual : (q : ℕ) → 1 ≤ q → q < l.source → slice_index_or l.manual (q - 1) 0 ≡ (word_stored l.words q).manual;
  faulty : (q : ℕ) → 1 ≤ q → q < l.source → slice_index_or l.faulty (q - 1) false ≡ (word_stored l.words q).fault;
  no_zones : (q : ℕ) → 1 ≤ q → l.source ≤ q → q ≤ 8 → slice_index_or l.zones (q - 1) 0 ≡ 0;
  no_manual : (q : ℕ) → 1 ≤ q → l.source ≤ q → q ≤ 8 → slice_index_or l.manual (q - 1) 0 ≡ 0;
  no_faulty : (q : ℕ) → 1 ≤ q → l.source ≤ q → q ≤ 8 → slice_index_or l.faulty (q - 1) false ≡ false;
}
