-- Counts of faults, and what an answer says of them.
use Rattle.std.specs.Prelude.{◌≡◌, ℕ, ◌+◌, ◌-◌, ◌^◌, ◌<◌, ◌≤◌, min, List, length, None, Result, is_err, OnErr, IfOk, if◌then◌else◌}
use Rattle.std.specs.declared.option.Option.{Option}

-- a count after one more, which stands still at its type's end
abbrev pub next_count : ℕ → ℕ
next_count n = min (n + 1) (2 ^ 64 - 1)

-- a count rose, or stands at its end
abbrev pub Rose : ℕ → ℕ → Type 0
Rose before now = next_count before ≤ now

-- a count at its end stays there
abbrev pub StaysAtEnd : ℕ → ℕ → Type 0
StaysAtEnd before now = 2 ^ 64 - 1 ≤ before → now ≡ before

-- a count of the calls that failed, after one more call, which answered so
abbrev pub faults_after : {T E : Type 0} → Result T E → ℕ → ℕ
faults_after result before = if is_err result then next_count before else before

-- a failure comes only where the count rose, and no count falls
pub record HasCause {T E : Type 0} (before now : ℕ) (result : Result T E) : Type 0 where
  pub later : before ≤ now
  pub failed : OnErr result (Rose before now)

-- the same, and an answer of 0 to a piece that is not empty counts as a failure
pub record HasCauseOfWrite {E : Type 0} (before now : ℕ) (piece : List ℕ) (result : Result ℕ E) : Type 0 where
  pub later : before ≤ now
  pub failed : OnErr result (Rose before now)
  pub silent : IfOk result (λ n. n ≡ 0 → 0 < length piece → Rose before now)

-- what no call of a trait changes: in an object that is both a source and a sink, the bytes and the
-- count of faults of the other trait
pub record Aside : Type 0 where
  pub bytes : Option (List ℕ)
  pub faults : ℕ

-- of an object that has one of the two traits alone
abbrev pub empty_aside : Aside
empty_aside = record { bytes = None; faults = 0 }

-- a later state of an object, of one of whose traits this is the count of faults and the rest: the count hasn't fallen, it
-- stays at its end, and the rest is as before
pub record IsLater {S : Type 0} (count : S → ℕ) (rest : S → Aside) (before now : S) : Type 0 where
  pub later : count before ≤ count now
  pub end : StaysAtEnd (count before) (count now)
  pub aside : rest now ≡ rest before
