-- Where topics are looked up by name.
use Rattle.std.specs.Prelude.{◌≡◌, ◌⊎◌, ℕ, ℤ, List, [], option_map, unwrap_or}
use Rattle.std.specs.List.{Contains}
use Rattle.std.specs.BTreeMap.{get_by_text}
use Rattle.nt_client.specs.declared.names.Names.{Names}
use Rattle.nt_client.specs.Sorted.{Rise}

abbrev pub itself : ℤ → ℤ
itself id = id

-- the ids that are noted under a name
abbrev pub ids_at : Names → List ℕ → List ℤ
ids_at names name = unwrap_or (option_map (λ v. v.items) (get_by_text names.ids name)) []

-- under each name they rise
abbrev pub AreInOrder : Names → Type 0
AreInOrder names = (name : List ℕ) → Rise itself (ids_at names name)

-- this id is noted under this name
abbrev pub IsNoted : Names → List ℕ → ℤ → Type 0
IsNoted names name id = Contains (ids_at names name) id

-- what is noted stays so
abbrev pub StaysNoted : Names → Names → Type 0
StaysNoted names names-2 = (name : List ℕ) (id : ℤ) → IsNoted names name id → IsNoted names-2 name id

-- but for this id under this name
abbrev pub OthersStayNoted : List ℕ → ℤ → Names → Names → Type 0
OthersStayNoted name id names names-2 =
    (n : List ℕ) (k : ℤ) → IsNoted names n k → ((n ≡ name) × (k ≡ id)) ⊎ IsNoted names-2 n k
