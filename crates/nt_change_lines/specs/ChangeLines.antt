-- The line of a change of a topic, without its line feed.
use Rattle.std.specs.Prelude.{ℕ, ℤ, List, ◌++◌, codes}
use Rattle.std.specs.Fmt.{decimal, signed_decimal}
use Rattle.serde_json.specs.Written.{compact_text}
use Rattle.nt_values.specs.declared.value.Value.{Value}
use Rattle.nt_values.specs.declared.value.Value.TheVariants as values
use Rattle.nt_rules.specs.declared.topic.Change.{Change}
use Rattle.nt_rules.specs.declared.topic.Change.TheVariants.{Started, Changed, Props, Ended}
use Rattle.wpilog_write.specs.declared.item.LogValue.{LogValue}
use Rattle.wpilog_write.specs.declared.item.LogValue.TheVariants.{Boolean, Int64, Float, Double, Bytes, Booleans, Int64s, Floats, Doubles, Strings}
use Rattle.nt_lines.specs.ItemLines.{field, value_text}

-- the value of a log that a topic's value is: a text is its bytes
abbrev pub logged : Value → LogValue
logged (values.Bool b) = Boolean b
logged (values.Double bits) = Double bits
logged (values.Int n) = Int64 n
logged (values.Float bits) = Float bits
logged (values.Text text) = Bytes text
logged (values.Bytes bytes) = Bytes bytes
logged (values.Bools list) = Booleans list
logged (values.Doubles list) = Doubles list
logged (values.Ints list) = Int64s list
logged (values.Floats list) = Floats list
logged (values.Texts texts) = Strings texts

-- what begins each line: the sign, the topic's id and its name
abbrev pub head : List ℕ → ℤ → List ℕ → List ℕ
head sign id name = sign ++ (codes " " ++ (signed_decimal id ++ (codes " " ++ field name)))

-- the line of a change; properties and updates stand as their compact text
abbrev pub change_line : Change → List ℕ
change_line (Started id name typ props) =
    head (codes "+") id name ++ (codes " " ++ (field typ ++ (codes " " ++ field (compact_text props))))
change_line (Changed id name time value) =
    head (codes "=") id name ++ (codes " " ++ (decimal time ++ (codes " " ++ value_text (logged value))))
change_line (Props id name update) = head (codes "~") id name ++ (codes " " ++ field (compact_text update))
change_line (Ended id name) = head (codes "-") id name
