-- The line that tells how the program is called.
use Rattle.std.specs.Prelude.{ℕ, List, codes}

-- the usage of the whole program
unfoldable pub usage_line : List ℕ
usage_line =
    codes "usage: panel check SITE, run SITE JOURNAL, matrix SITE, drill SEED TICKS, serve SITE JOURNAL PORT COUNT, move OLD NEW JOURNAL TARGET, audit SITE RECORD TEXT, node SITE JOURNAL PANEL PORT COUNT, import SITE FILE REGISTER\n"
