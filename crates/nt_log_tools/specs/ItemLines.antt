-- The line of an item of a log with its place.
use Rattle.std.specs.Prelude.{ℕ, List, ◌++◌, codes}
use Rattle.std.specs.List.{flat_map}
use Rattle.std.specs.Fmt.{decimal}
use Rattle.wpilog_read.specs.declared.item_at.ItemAt.{ItemAt}
use Rattle.nt_lines.specs.ItemLines.{item_line}

-- the line of an item with its place
abbrev pub placed_line : ItemAt → List ℕ
placed_line x = codes "@" ++ (decimal x.at ++ (codes " " ++ (item_line x.item ++ codes "\n")))

-- the lines of items, one after another
abbrev pub placed_lines : List ItemAt → List ℕ
placed_lines xs = flat_map placed_line xs
