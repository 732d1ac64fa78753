use Rattle.std.proofs.Common.{◌<◌, ◌-◌, ℕ, ℤ, pos, List, length, get_or, arith, rules}
use Rattle.nt_client.specs.Names.{ids_at}
use Rattle.nt_client.specs.Kept.{IsCalledAt}
use Rattle.nt_client.proofs.Calling.{any-default, called-last, called-none}
use Rattle.nt_client.proofs.topics.Topics.place_of_name.Goals as goal

pub returns-in-Some : goal.returns-in-Some
returns-in-Some c =
    let left : ℕ = c.loop-left.left - 1 in
    let ids : List ℤ = ids_at c.args.self.now.names c.args.name.now in
    let some : 0 < c.loop-left.left = c.loop-left-test.true in
    let within : left < length ids = let le = c.loop-left.invariant.within in omega arith in
    let id : ℤ = get_or ids left (pos 0) in
    let at : IsCalledAt id c.args.name.now c.args.self.now.held.items c.in-Some.at = search rules in
    called-last c.args.self.now.names c.args.name.now c.args.self.now.held.items left c.in-Some.at id c.requires.noted
    (c.requires.in_order c.args.name.now) within (any-default ids left (pos 0) id within)
    (λ k d more less. c.loop-left.invariant.nowhere k d (omega arith) less) at

pub returns : goal.returns
returns c =
    called-none c.args.self.now.names c.args.name.now c.args.self.now.held.items c.requires.noted
    (λ k d within. c.loop-left.invariant.nowhere k d (omega arith) within)
