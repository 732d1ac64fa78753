-- What the words after the program's name ask for.
use Rattle.std.specs.Prelude.{ℕ, ◌^◌, nat_lt, nat_le, List, [], ◌∷◌, codes, length, Option, None, Some, option_map, if◌then◌else◌}
use Rattle.std.specs.Option.{option_and_then}
use Rattle.std.specs.Str.{bytes_eq, all_ascii_digits}
use Rattle.std.specs.Str.Parse.{digits_value}
use Rattle.nt_log_tools.specs.declared.command.LogTool.{LogTool}
use Rattle.nt_log_tools.specs.declared.command.LogTool.TheVariants.{Check, Show}
use Rattle.nt_cli.specs.declared.words.Tool.{Tool}
use Rattle.nt_cli.specs.declared.words.Tool.TheVariants.{Log, Desk, Gen}

-- ---- numbers

-- the number that a word of one decimal digit or more writes, below 2^64
abbrev pub number : List ℕ → Option ℕ
number word =
    if all_ascii_digits word then
    (if nat_lt 0 (length word) then
    (if nat_lt (digits_value 10 word) (2 ^ 64) then Some (digits_value 10 word) else None)
    else None)
    else None

-- the most values of a log that is made
abbrev pub most_values : ℕ
most_values = 100_000_000

-- the number of values that a word writes
abbrev pub value_count : List ℕ → Option ℕ
value_count word = option_and_then (λ n. if nat_le n most_values then Some n else None) (number word)

-- ---- tools

-- a tool that reads the log in a file
abbrev pub log_tool : List ℕ → Option LogTool
log_tool command =
    if bytes_eq command (codes "check") then Some Check
    else if bytes_eq command (codes "show") then Some Show
    else None

-- the tool that makes a log of so many values of a seed
abbrev pub gen_tool : List ℕ → List ℕ → Option Tool
gen_tool seed count = option_and_then (λ s. option_map (λ n. Gen s n) (value_count count)) (number seed)

-- the tool of the words `check FILE`, `show FILE`, `desk` and `gen SEED N OUTFILE`; all other words have none
abbrev pub tool_of : List (List ℕ) → Option Tool
tool_of (command ∷ []) = if bytes_eq command (codes "desk") then Some Desk else None
tool_of (command ∷ file ∷ []) = option_map (λ tool. Log tool) (log_tool command)
tool_of (command ∷ seed ∷ count ∷ outfile ∷ []) =
    if bytes_eq command (codes "gen") then gen_tool seed count else None
tool_of words = None

-- ---- files

-- the file that a tool reads: FILE. The desk reads standard input
abbrev pub file_of : List (List ℕ) → Option (List ℕ)
file_of (command ∷ file ∷ []) = Some file
file_of words = None

-- the file that a tool writes: OUTFILE
abbrev pub outfile_of : List (List ℕ) → Option (List ℕ)
outfile_of (command ∷ seed ∷ count ∷ outfile ∷ []) = Some outfile
outfile_of words = None
