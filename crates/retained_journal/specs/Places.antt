-- Where the parts of a journal file stand.
use Rattle.std.specs.Prelude.{ℕ, ◌+◌, ◌*◌, Bool, List, [], ◌∷◌, if◌then◌else◌}

-- a file without cells has this many bytes
abbrev pub front_bytes : ℕ
front_bytes = 2048

-- a slot has this many bytes
abbrev pub bytes_of_slot : ℕ
bytes_of_slot = 906

-- where the parts of a slot begin behind its first byte: the disabled points of the loops, zones and outputs,
-- whether delays are off, the counters, the points above address 96, and the zones in test
abbrev pub points_place : ℕ
points_place = 9

abbrev pub zones_place : ℕ
zones_place = 393

abbrev pub outputs_place : ℕ
outputs_place = 425

abbrev pub delays_place : ℕ
delays_place = 457

abbrev pub counters_place : ℕ
counters_place = 458

abbrev pub wide_points_place : ℕ
wide_points_place = 490

abbrev pub tests_place : ℕ
tests_place = 874

-- a cell has this many bytes
abbrev pub bytes_of_cell : ℕ
bytes_of_cell = 592

-- a whole file has this many bytes: the front, 64 cells, and one byte behind the last cell
abbrev pub whole_bytes : ℕ
whole_bytes = 39937

-- the eight bytes `FPANEL01` with which each file begins
abbrev pub file_mark : List ℕ
file_mark = 70 ∷ 80 ∷ 65 ∷ 78 ∷ 69 ∷ 76 ∷ 48 ∷ 49 ∷ []

-- where the digest of the site stands
abbrev pub digest_place : ℕ
digest_place = 8

-- where the log gate stands, which opens the cells
abbrev pub log_gate : ℕ
log_gate = 40

-- where slot A begins, and the first byte behind it
abbrev pub first_slot : ℕ
first_slot = 64

abbrev pub first_slot_end : ℕ
first_slot_end = 970

-- where slot B begins
abbrev pub second_slot : ℕ
second_slot = 1024

-- where a slot begins: slot A, or the second, slot B
abbrev pub slot_place : Bool → ℕ
slot_place second = if second then second_slot else first_slot

-- where a cell begins, from cell 0 on
abbrev pub cell_place : ℕ → ℕ
cell_place cell = front_bytes + bytes_of_cell * cell

-- how many cells there are
abbrev pub most_cells : ℕ
most_cells = 64

-- how many changes a cell holds at most
abbrev pub most_changes : ℕ
most_changes = 72
