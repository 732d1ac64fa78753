use Rattle.std.proofs.Common.{w64, to_z, of_z, ◌≡◌, rules}
use Rattle.std.proofs.lemmas.Int.{to_z-of_z}
use Rattle.nt_world.proofs.Calls.{call-counts, call-refused}
use Rattle.nt_world.proofs.step.ClientAct.call.Goals as goal

pub returns-in-Unpublish-clause-ok : goal.returns-in-Unpublish-clause-ok
returns-in-Unpublish-clause-ok c =
    let key : to_z w64 (of_z w64 c.in-Unpublish.uid) ≡ c.in-Unpublish.uid = search (rules, to_z-of_z) in
    rw c.in-Unpublish.is (rw key at c.unpublish.ensures.ok)

pub returns-in-Unpublish-clause-counts : goal.returns-in-Unpublish-clause-counts
returns-in-Unpublish-clause-counts c =
    let key : to_z w64 (of_z w64 c.in-Unpublish.uid) ≡ c.in-Unpublish.uid = search (rules, to_z-of_z) in
    rw c.in-Unpublish.is (rw key at (call-counts c.unpublish.result _ c.unpublish.ensures.refused))

pub returns-in-Unpublish-clause-refused : goal.returns-in-Unpublish-clause-refused
returns-in-Unpublish-clause-refused c =
    let key : to_z w64 (of_z w64 c.in-Unpublish.uid) ≡ c.in-Unpublish.uid = search (rules, to_z-of_z) in
    rw c.in-Unpublish.is (rw key at
    (call-refused c.unpublish.result _ c.unpublish.ensures.refused c.unpublish.ensures.memory))

pub returns-in_ok-copy-in-Put-clause-ok : goal.returns-in_ok-copy-in-Put-clause-ok
returns-in_ok-copy-in-Put-clause-ok c =
    let key : to_z w64 (of_z w64 c.in-Put.uid) ≡ c.in-Put.uid = search (rules, to_z-of_z) in
    rw (c.in-Put.is, ← c.in_ok-copy-in-Put.ensures) (rw key at c.set.ensures.ok)

pub returns-in_ok-copy-in-Put-clause-counts : goal.returns-in_ok-copy-in-Put-clause-counts
returns-in_ok-copy-in-Put-clause-counts c =
    let key : to_z w64 (of_z w64 c.in-Put.uid) ≡ c.in-Put.uid = search (rules, to_z-of_z) in
    rw (c.in-Put.is, ← c.in_ok-copy-in-Put.ensures) (rw key at (call-counts c.set.result _ c.set.ensures.refused))

pub returns-in_ok-copy-in-Put-clause-refused : goal.returns-in_ok-copy-in-Put-clause-refused
returns-in_ok-copy-in-Put-clause-refused c =
    let key : to_z w64 (of_z w64 c.in-Put.uid) ≡ c.in-Put.uid = search (rules, to_z-of_z) in
    rw (c.in-Put.is, ← c.in_ok-copy-in-Put.ensures) (rw key at
    (call-refused c.set.result _ c.set.ensures.refused c.set.ensures.memory))

pub returns-in-Unsubscribe-clause-ok : goal.returns-in-Unsubscribe-clause-ok
returns-in-Unsubscribe-clause-ok c =
    let key : to_z w64 (of_z w64 c.in-Unsubscribe.uid) ≡ c.in-Unsubscribe.uid = search (rules, to_z-of_z) in
    rw c.in-Unsubscribe.is (rw key at c.unsubscribe.ensures.ok)

pub returns-in-Unsubscribe-clause-counts : goal.returns-in-Unsubscribe-clause-counts
returns-in-Unsubscribe-clause-counts c =
    let key : to_z w64 (of_z w64 c.in-Unsubscribe.uid) ≡ c.in-Unsubscribe.uid = search (rules, to_z-of_z) in
    rw c.in-Unsubscribe.is (rw key at (call-counts c.unsubscribe.result _ c.unsubscribe.ensures.refused))

pub returns-in-Unsubscribe-clause-refused : goal.returns-in-Unsubscribe-clause-refused
returns-in-Unsubscribe-clause-refused c =
    let key : to_z w64 (of_z w64 c.in-Unsubscribe.uid) ≡ c.in-Unsubscribe.uid = search (rules, to_z-of_z) in
    rw c.in-Unsubscribe.is (rw key at
    (call-refused c.unsubscribe.result _ c.unsubscribe.ensures.refused c.unsubscribe.ensures.memory))
