-- The client's name in the target of a request (NetworkTables 4.1, "WebSocket Connection").
use Rattle.std.specs.Prelude.{ℕ, Bool, not, ◌==◌, List, length, drop, nat_eq, nat_lt, codes, Result, Ok, Err, if◌then◌else◌}
use Rattle.std.specs.List.{before_first, starts_with}
use Rattle.std.specs.Str.{is_utf8}
use Rattle.percent_encoding.specs.Percent.{percent_decode}
use Rattle.nt_topics.specs.declared.path.PathFault.{PathFault}
use Rattle.nt_topics.specs.declared.path.PathFault.TheVariants.{NotNt, NotText, Empty, TooLong}

-- what of a target stands before its query, which begins with the first `?` (63) (RFC 3986, section
-- 3.4)
abbrev pub before_query : List ℕ → List ℕ
before_query target = before_first (λ b. b == 63) target

-- the target asks for `/nt/` and a name
abbrev pub is_nt : List ℕ → Bool
is_nt target = starts_with nat_eq (before_query target) (codes "/nt/")

-- a client's name of 1 to 256 bytes of UTF-8
abbrev pub client_name : List ℕ → Result (List ℕ) PathFault
client_name bytes =
    if not (is_utf8 bytes) then Err NotText
    else (if length bytes == 0 then Err Empty
    else (if nat_lt 256 (length bytes) then Err TooLong
    else Ok bytes))

-- the client's name, or why there is none: what follows `/nt/`, percent-decoded
abbrev pub path_name : List ℕ → Result (List ℕ) PathFault
path_name target =
    if is_nt target then client_name (percent_decode (drop 4 (before_query target))) else Err NotNt
