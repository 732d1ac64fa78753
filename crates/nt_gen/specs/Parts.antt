-- The parts of the log that `gen` writes.
use Rattle.std.specs.Prelude.{ℕ, List, ◌∷◌, pos}
use Rattle.wpilog_write.specs.declared.item.LogItem.TheVariants.{Value}
use Rattle.wpilog_write.specs.declared.item.LogValue.TheVariants.{Int64}
use Rattle.wpilog_write.specs.Written.{record_of, log_text}
use Rattle.nt_gen.specs.Generated.{start, values, finish}

-- the log up to the last of so many values
unfoldable pub begun : ℕ → ℕ → List ℕ
begun seed count = log_text (start ∷ values seed count)

-- the record of a value
unfoldable pub value_record : ℕ → ℕ → List ℕ
value_record time word = record_of (Value time 1 (Int64 (pos word)))

-- the last record, behind so many values
unfoldable pub last_record : ℕ → List ℕ
last_record count = record_of (finish count)
