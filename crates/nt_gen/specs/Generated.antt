-- The log of given values that `gen` writes, and what it then prints.
use Rattle.std.specs.Prelude.{ℕ, ◌+◌, List, [], ◌∷◌, ◌++◌, codes, length, pos}
use Rattle.rand_core.specs.Pcg32Seed.{pcg32_seed}
use Rattle.rand_core.specs.Steps.{first_words}
use Rattle.rand_pcg.specs.Lcg.{Lcg}
use Rattle.rand_pcg.specs.Pcg.{pcg32, pcg32_of_seed}
use Rattle.wpilog_write.specs.declared.item.LogItem.{LogItem}
use Rattle.wpilog_write.specs.declared.item.LogItem.TheVariants.{Start, Value, Finish}
use Rattle.wpilog_write.specs.declared.item.LogValue.TheVariants.{Int64}
use Rattle.wpilog_write.specs.Written.{log_text}
use Rattle.nt_tools.specs.Reply.{Reply}
use Rattle.nt_tools.specs.Lines.{summary}

-- the generator of a seed: `Pcg32`, as `seed_from_u64` makes it
abbrev pub generator : ℕ → Lcg
generator seed = pcg32_of_seed (pcg32_seed 16 seed)

-- its first words
abbrev pub words : ℕ → ℕ → List ℕ
words seed count = first_words pcg32 count (generator seed)

-- ---- the items

-- entry 1, `gen`, begins
abbrev pub start : LogItem
start = Start 0 1 (codes "gen") (codes "int64") []

-- it takes each word as a value, at this time and those that follow it
abbrev pub values_from : ℕ → List ℕ → List LogItem
values_from time [] = []
values_from time (word ∷ words) = Value time 1 (Int64 (pos word)) ∷ values_from (time + 1) words

-- the values, from time 1 on
abbrev pub values : ℕ → ℕ → List LogItem
values seed count = values_from 1 (words seed count)

-- and ends
abbrev pub finish : ℕ → LogItem
finish count = Finish (count + 1) 1

-- the items of the log of so many values of a seed
abbrev pub gen_items : ℕ → ℕ → List LogItem
gen_items seed count = (start ∷ values seed count) ++ (finish count ∷ [])

-- ---- the log

unfoldable pub generated : ℕ → ℕ → List ℕ
generated seed count = log_text (gen_items seed count)

-- what is printed: how many items and bytes it has
abbrev pub gen_reply : ℕ → ℕ → Reply
gen_reply seed count = record {
  status = 0;
  text = summary (length (gen_items seed count)) (length (generated seed count));
}
