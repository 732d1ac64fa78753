use Rattle.std.proofs.Common.{◌≢◌, ◌<◌, ℕ, List, [], ◌∷◌, length, get_or, ◌∙◌, rules, arith}
use Rattle.nt_cli.proofs.Numbers.{number-parsed}
use Rattle.nt_cli.proofs.words.number.Goals as goal
use Rattle.nt_cli.proofs.words.number.Goals.{in_default-via-then-as_bytes-lt1, in_default-via-else-as_bytes-lt1+in_default-1}

-- an empty word has no sign
plain-empty : (word : List ℕ) → length word < 1 → get_or word 0 0 ≢ 43
plain-empty [] few sign = omega (arith, sign)
plain-empty (b ∷ word) few sign = omega (arith, few)

pub returns-in_default : goal.returns-in_default
returns-in_default c =
    let plain : get_or c.args.word.now 0 0 ≢ 43 = elim c.in_default.branch [
      | in_default-via-then-as_bytes-lt1 w ↦
          let few : length c.args.word.now < 1 = search rules in
          plain-empty c.args.word.now few
      | in_default-via-else-as_bytes-lt1+in_default-1 w ↦ search rules
    ] in
    c.ok.ensures.value ∙ number-parsed c.args.word.now c.parse.result c.parse.ensures.value.0 plain
