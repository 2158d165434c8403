-- How many fields a line has, and a test of each.
use Rattle.std.specs.Prelude.{◌+◌, ◌==◌, ◌&&◌, ℕ, zero, suc, Bool, true, List}
use Rattle.std.specs.List.{count_by}
use Rattle.site_types.specs.Fields.{after_space, before_space}

abbrev pub space_count : List ℕ → ℕ
space_count text = count_by (λ byte. byte == 32) text

-- one more than spaces
abbrev pub field_count : List ℕ → ℕ
field_count text = space_count text + 1

-- the next fields pass a test
abbrev pub each_field : (List ℕ → Bool) → ℕ → List ℕ → Bool
each_field test zero text = true
each_field test (suc more) text = test (before_space text) && each_field test more (after_space text)
