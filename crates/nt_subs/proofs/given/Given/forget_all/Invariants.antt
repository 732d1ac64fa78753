use Rattle.std.proofs.Common.{◌≡◌, ◌-◌, ℕ, List, take}
use Rattle.nt_subs.specs.declared.wish.Wanted.{Wanted}
use Rattle.nt_subs.specs.Index.{count, said, times_in}
use Rattle.nt_subs.proofs.given.Given.forget_all.Given as goal

-- the names so far are given once less
abbrev pub invariant-loop-name : goal.invariant-loop-name
invariant-loop-name l = (w : Wanted) (n : List ℕ) → count w (said l.self n)
    ≡ count w (said l.fn.self n) - times_in w n l.wish (take l.name-index l.names)
