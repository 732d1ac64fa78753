-- What a recorder is seen as.
use Rattle.nt_record.specs.declared.recorder.RecState.{RecState}

-- whether it writes, and its sink
pub record Recording (S : Type 0) : Type 0 where
  pub state : RecState
  pub sink : S
