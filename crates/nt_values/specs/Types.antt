-- The data types of NetworkTables 4.1 ("Supported Data Types"), their numbers, and the lengths of their payloads in a
-- data log (WPILOG 1.0, "Data Types").
use Rattle.std.specs.Prelude.{ℕ, ◌+◌, ◌-◌, ◌*◌, ◌^◌, min, List, [], ◌∷◌, length, sum_by, codes, unwrap_or}
use Rattle.std.specs.Str.{bytes_eq}
use Rattle.std.specs.Map.{lookup}
use Rattle.nt_values.specs.declared.value.Value.{Value}
use Rattle.nt_values.specs.declared.value.Value.TheVariants as values

-- the data types that have a number of their own, by their type strings
abbrev pub numbers : List (List ℕ × ℕ)
numbers = (codes "boolean", 0) ∷ (codes "double", 1) ∷ (codes "int", 2) ∷ (codes "float", 3)
    ∷ (codes "string", 4) ∷ (codes "json", 4) ∷ (codes "raw", 5)
    ∷ (codes "boolean[]", 16) ∷ (codes "double[]", 17) ∷ (codes "int[]", 18) ∷ (codes "float[]", 19)
    ∷ (codes "string[]", 20) ∷ []

-- the number of a type string: any other type is sent as `raw`
abbrev pub number_of : List ℕ → ℕ
number_of typ = unwrap_or (lookup (bytes_eq typ) numbers) 5

-- the number of a value's own type
abbrev pub value_number : Value → ℕ
value_number (values.Bool truth) = 0
value_number (values.Double bits) = 1
value_number (values.Int number) = 2
value_number (values.Float bits) = 3
value_number (values.Text text) = 4
value_number (values.Bytes bytes) = 5
value_number (values.Bools list) = 16
value_number (values.Doubles list) = 17
value_number (values.Ints list) = 18
value_number (values.Floats list) = 19
value_number (values.Texts list) = 20

-- the payload of a list of texts: a count of four bytes, and each text after its length of four bytes
abbrev pub texts_len : List (List ℕ) → ℕ
texts_len texts = 4 + sum_by (λ text. 4 + length text) texts

-- the length of a value's payload
abbrev pub payload_len : Value → ℕ
payload_len (values.Bool truth) = 1
payload_len (values.Double bits) = 8
payload_len (values.Int number) = 8
payload_len (values.Float bits) = 4
payload_len (values.Text text) = length text
payload_len (values.Bytes bytes) = length bytes
payload_len (values.Bools list) = length list
payload_len (values.Doubles list) = 8 * length list
payload_len (values.Ints list) = 8 * length list
payload_len (values.Floats list) = 4 * length list
payload_len (values.Texts list) = texts_len list

-- the size of a value: the length of its payload, or the greatest number of 64 bits where the length passes it
abbrev pub size_of : Value → ℕ
size_of value = min (payload_len value) (2 ^ 64 - 1)
