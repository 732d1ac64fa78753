use Rattle.std.proofs.Common.{◌≡◌, ◌+◌, ◌++◌, ◌∷◌, [], rules}
use Rattle.std.specs.Prelude.{insert, vec_len}
use Rattle.nt_client.specs.declared.undo.Undo.TheVariants.{Added}
use Rattle.nt_client.proofs.Back.{leads-same, leads-added}
use Rattle.nt_client.proofs.undo.add.Goals as goal

pub returns-in_err-insert-clause-leads : goal.returns-in_err-insert-clause-leads
returns-in_err-insert-clause-leads c =
    let items : c.insert.new.self.items ≡ c.args.held.now.items = search rules in
    let len : vec_len c.insert.new.self ≡ vec_len c.args.held.now = search rules in
    leads-same c.args.held.now c.insert.new.self c.args.log.now.items c.reserve.new.self.items
    c.in_ok-reserve.ensures.items items len c.in_err-insert.ensures.capacity

pub returns-clause-leads : goal.returns-clause-leads
returns-clause-leads c =
    let noted : c.push_reserved.new.self.items ≡ c.args.log.now.items ++ Added c.args.at ∷ [] = search rules in
    let items : c.insert.new.self.items ≡ insert c.args.held.now.items c.args.at c.args.topic = search rules in
    let len : vec_len c.insert.new.self ≡ vec_len c.args.held.now + 1 = search rules in
    leads-added c.args.held.now c.insert.new.self c.args.log.now.items c.push_reserved.new.self.items c.args.at
    c.args.topic noted items c.requires len c.in_ok-insert.ensures.capacity
