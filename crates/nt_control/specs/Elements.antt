-- A text frame: a JSON array whose elements are messages, each with a method and params
-- ("Text Data Frames").
use Rattle.std.specs.Prelude.{◌≡◌, ℕ, List, [], ◌∷◌, false, Option, Some, None, option_map, option_and_then, is_none, count_by, codes, if◌then◌else◌}
use Rattle.std.specs.List.{filter_map}
use Rattle.std.specs.Str.{is_utf8}
use Rattle.serde_json.specs.Data.{Data, string, object, Items, no_items, item, Members, no_members, member}
use Rattle.serde_json.specs.Read.{read}
use Rattle.serde_json.specs.Find.{get, as_array, as_object, as_str}
use Rattle.serde_json.specs.Written.{has_float}

-- ---- read

-- the tree of the text, where it is one: UTF-8 that is JSON
abbrev pub tree_in : List ℕ → Option Data
tree_in text = if is_utf8 text then read text else None

-- the items of an array
abbrev pub listed : Items → List Data
listed no_items = []
listed (item d ds) = d ∷ listed ds

-- the elements of a frame, where its tree is an array
abbrev pub elements_of : Option Data → Option (List Data)
elements_of tree = option_map listed (option_and_then as_array tree)

-- two values, where both are there
abbrev pub both : {A B : Type 0} → Option A → Option B → Option (A × B)
both (Some a) (Some b) = Some (a, b)
both (Some a) None = None
both None b = None

-- the method and the params of an element, where it has a text and an object at these keys
abbrev pub call_of : Data → Option (List ℕ × Members)
call_of d =
    both
    (option_and_then as_str (get (codes "method") d))
    (option_and_then as_object (get (codes "params") d))

-- what the elements say, by the message that each of them is: nothing, where there are no elements
abbrev pub said : {M : Type 0} → (Data → Option M) → Option (List Data) → List M
said message None = []
said message (Some ds) = filter_map message ds

-- how many elements are no message. A frame without elements counts as one
abbrev pub passed_over : {M : Type 0} → (Data → Option M) → Option (List Data) → ℕ
passed_over message None = 1
passed_over message (Some ds) = count_by (λ d. is_none (message d)) ds

-- ---- written

-- the element of a method with these params
abbrev pub element : List ℕ → Members → Data
element method params =
    object
    (member (codes "method") (string method)
    (member (codes "params") (object params) no_members))

-- d is the element that says the message m: it is written so, holds no float, and is read as m
pub record Says {M : Type 0} (written : M → Data) (message : Data → Option M) (d : Data) (m : M)
    : Type 0 where
  pub is : d ≡ written m
  pub whole : has_float d ≡ false
  pub read : message d ≡ Some m
