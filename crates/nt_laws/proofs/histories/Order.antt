-- Histories in the order in which they are told, the newest entry last.
use Rattle.std.proofs.Common.{◌≡◌, List, [], ◌∷◌, ◌++◌, length}
use Rattle.std.proofs.lemmas.List.{reverse-append, reverse-reverse, length-reverse}
use Rattle.nt_rules.specs.declared.act.Entry.{Entry}
use Rattle.nt_rules.specs.history.Order.{past_of}

-- an entry told last is the newest
pub past-told : (told : List Entry) (e : Entry) → past_of (told ++ e ∷ []) ≡ e ∷ past_of told
past-told told e = reverse-append told (e ∷ [])

-- entries told after others are newer than those
pub past-append : (told more : List Entry) → past_of (told ++ more) ≡ past_of more ++ past_of told
past-append told more = reverse-append told more

-- the history of a history in the other order is what was told
pub told-again : (told : List Entry) → past_of (past_of told) ≡ told
told-again told = reverse-reverse told

-- as many entries
pub length-past : (told : List Entry) → length (past_of told) ≡ length told
length-past told = length-reverse told
