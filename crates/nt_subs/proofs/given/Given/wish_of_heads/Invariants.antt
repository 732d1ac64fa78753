use Rattle.std.proofs.Common.{◌≡◌}
use Rattle.nt_subs.specs.Wishes.{greater}
use Rattle.nt_subs.proofs.Heads.{least_of, heads_in}
use Rattle.nt_subs.proofs.given.Given.wish_of_heads.Given as goal

-- what was found of some lengths, and what the others say, is what all say
abbrev pub invariant-loop-length : goal.invariant-loop-length
invariant-loop-length l = (l.least ≡ least_of l.name)
    × (greater l.greatest (heads_in (least_of l.name) l.name l.length-iterator)
    ≡ heads_in (least_of l.name) l.name l.self.by_length.entries)
