-- The line that is printed of words that no tool has.
use Rattle.std.specs.Prelude.{ℕ, List, codes}

abbrev pub usage : List ℕ
usage = codes "usage\n"
