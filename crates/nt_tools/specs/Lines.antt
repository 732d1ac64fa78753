-- The lines that several tools print.
use Rattle.std.specs.Prelude.{ℕ, List, ◌++◌, codes}
use Rattle.std.specs.Fmt.{decimal}

-- how many items and bytes a log has
abbrev pub summary : ℕ → ℕ → List ℕ
summary items bytes = codes "items " ++ (decimal items ++ (codes " bytes " ++ (decimal bytes ++ codes "\n")))

-- of more bytes than a tool reads
abbrev pub too_long : List ℕ
too_long = codes "fault TooLong at 1099511627776\n"
