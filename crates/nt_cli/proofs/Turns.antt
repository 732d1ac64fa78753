-- What the loop over a desk's turns keeps.
use Rattle.std.proofs.Common.{ℕ, ◌+◌, ◌≤◌, List}
use Rattle.std.specs.declared.option.Option.{Option}
use Rattle.nt_rules.specs.history.Step.{ServerState}
use Rattle.nt_tools.specs.Input.{most_bytes}
use Rattle.nt_tools.specs.LineReading.{Ahead}
use Rattle.nt_cli.specs.DeskRun.{beginning, GoesOn}
use Rattle.nt_cli.specs.Desk.{Decoding, IsDecoding}

pub record Runs (before now out_before out_now : Option (List ℕ)) (server : ServerState) (ahead : Ahead) (number : ℕ) :
    Type 0 where
  pub goes_on : (decode : Decoding) → IsDecoding decode → GoesOn (beginning decode) before now out_before out_now server
      ahead number
  pub small : number + ahead.room ≤ most_bytes + 1
