-- What the memory forms are seen as.
use Rattle.std.specs.Prelude.{ℕ, List}

-- a source in memory: the bytes left, the numbers of the calls that fail, and how many calls there
-- were and how many of them failed
pub record MemRead : Type 0 where
  pub left : List ℕ
  pub fails : List ℕ
  pub calls : ℕ
  pub faults : ℕ

-- a sink in memory: the bytes taken, how many more find room without a growth, the numbers of the
-- calls that fail, and how many calls there were and how many of them failed
pub record MemWrite : Type 0 where
  pub taken : List ℕ
  pub room : ℕ
  pub fails : List ℕ
  pub calls : ℕ
  pub faults : ℕ

-- a stream in memory: its source and its sink
pub record MemBoth : Type 0 where
  pub reads : MemRead
  pub writes : MemWrite
