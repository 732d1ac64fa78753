use Rattle.std.proofs.Common.{◌≤◌, ◌<◌, ℕ, ℤ, length, get_or}
use Rattle.nt_client.specs.Names.{ids_at}
use Rattle.nt_client.specs.Kept.{IsCalledNowhere}
use Rattle.nt_client.proofs.topics.Topics.place_of_name.Given as goal

-- of the ids from here on no topic has the name
abbrev pub invariant-loop-left : goal.invariant-loop-left
invariant-loop-left l = record {
  within : l.left ≤ length (ids_at l.self.names l.name);
  nowhere : (k : ℕ) (d : ℤ) → l.left ≤ k → k < length (ids_at l.self.names l.name)
      → IsCalledNowhere (get_or (ids_at l.self.names l.name) k d) l.name l.self.held.items;
}

abbrev pub decreases-loop-left : goal.decreases-loop-left
decreases-loop-left l = l.left
