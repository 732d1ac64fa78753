use Rattle.std.proofs.Common.{◌≡◌, ◌∙◌, true, false, refl, sym, ap, to_z, of_z, w64}
use Rattle.std.proofs.lemmas.Int.{to_z-of_z}
use Rattle.nt_subs.specs.Subscriptions.{has_uid, without_sub}
use Rattle.nt_rules.specs.history.State.{subs_at}
use Rattle.nt_server.specs.Connections.{number_at}
use Rattle.nt_server.proofs.inner.Inner.unsubscribe.Goals as goal

pub returns-then-not-remove-clause-outcome : goal.returns-then-not-remove-clause-outcome
returns-then-not-remove-clause-outcome c =
    let opens = c.args.self.now.connections.opens in
    let uid : to_z w64 (of_z w64 c.args.uid) ≡ c.args.uid = to_z-of_z w64 c.args.uid c.ranges.uid in
    let had : false ≡ has_uid c.args.uid (subs_at opens (number_at opens c.args.i)) =
    c.if-not-remove.ensures.found
    ∙ ap (λ u. has_uid u c.in_ok-subs.subs) uid
    ∙ ap (has_uid c.args.uid) (c.in_ok-subs.ensures ∙ c.subs.ensures) in
    rw (sym had) refl

pub returns-then-not-remove-clause-state : goal.returns-then-not-remove-clause-state
returns-then-not-remove-clause-state c =
    let opens = c.args.self.now.connections.opens in
    let uid : to_z w64 (of_z w64 c.args.uid) ≡ c.args.uid = to_z-of_z w64 c.args.uid c.ranges.uid in
    let had : false ≡ has_uid c.args.uid (subs_at opens (number_at opens c.args.i)) =
    c.if-not-remove.ensures.found
    ∙ ap (λ u. has_uid u c.in_ok-subs.subs) uid
    ∙ ap (has_uid c.args.uid) (c.in_ok-subs.ensures ∙ c.subs.ensures) in
    rw (sym had) refl

pub returns-clause-outcome : goal.returns-clause-outcome
returns-clause-outcome c =
    let opens = c.args.self.now.connections.opens in
    let uid : to_z w64 (of_z w64 c.args.uid) ≡ c.args.uid = to_z-of_z w64 c.args.uid c.ranges.uid in
    let had : true ≡ has_uid c.args.uid (subs_at opens (number_at opens c.args.i)) =
    c.if-not-remove.ensures.found
    ∙ ap (λ u. has_uid u c.in_ok-subs.subs) uid
    ∙ ap (has_uid c.args.uid) (c.in_ok-subs.ensures ∙ c.subs.ensures) in
    rw (sym had) c.resubscribe.ensures.outcome

pub returns-clause-state : goal.returns-clause-state
returns-clause-state c =
    let opens = c.args.self.now.connections.opens in
    let uid : to_z w64 (of_z w64 c.args.uid) ≡ c.args.uid = to_z-of_z w64 c.args.uid c.ranges.uid in
    let had : true ≡ has_uid c.args.uid (subs_at opens (number_at opens c.args.i)) =
    c.if-not-remove.ensures.found
    ∙ ap (λ u. has_uid u c.in_ok-subs.subs) uid
    ∙ ap (has_uid c.args.uid) (c.in_ok-subs.ensures ∙ c.subs.ensures) in
    let left : c.remove.new.self ≡ without_sub c.args.uid (subs_at opens (number_at opens c.args.i)) =
    c.if-not-remove.ensures.subs
    ∙ ap (λ u. without_sub u c.in_ok-subs.subs) uid
    ∙ ap (without_sub c.args.uid) (c.in_ok-subs.ensures ∙ c.subs.ensures) in
    rw (sym had, sym left) c.resubscribe.ensures.state
