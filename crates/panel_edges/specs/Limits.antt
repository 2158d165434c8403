-- The limits of what is read and written, in bytes.
use Rattle.std.specs.Prelude.{ℕ, ◌^◌}

-- one file that a shelf hands out
abbrev pub most_file_bytes : ℕ
most_file_bytes = 1048576

-- one record
abbrev pub most_record_bytes : ℕ
most_record_bytes = 2 ^ 40

-- a disk
abbrev pub most_disk_bytes : ℕ
most_disk_bytes = 65536
