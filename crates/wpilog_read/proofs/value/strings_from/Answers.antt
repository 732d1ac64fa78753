use Rattle.std.proofs.Common.{◌≡◌, ◌++◌, ◌∷◌, [], rules}
use Rattle.wpilog_read.proofs.Loops.{strings-begin, strings-next, strings-fail, strings-left, strings-done}
use Rattle.wpilog_read.proofs.value.strings_from.Goals as goal

pub loop-init : goal.loop-init
loop-init c = rw c.new-texts.ensures.items (strings-begin c.in_ok-count.count c.in_ok-count.after.now)

pub returns-in_err-text : goal.returns-in_err-text
returns-in_err-text c = search (rules, strings-fail)

pub loop-preserved : goal.loop-preserved
loop-preserved c =
    let pushed : c.push.new.self.items ≡ c.loop.texts.items ++ c.in_ok-text.text.now ∷ [] = search rules in
    strings-next c.loop.texts.items _ c.in_ok-count.count c.loop.counter c.in_ok-count.after.now c.loop.rest.now
    (c.in_ok-text.text.now, c.in_ok-text.after.now) c.loop-test.true c.loop.invariant c.in_ok-text.ensures pushed

pub returns-in_err-refuse_if : goal.returns-in_err-refuse_if
returns-in_err-refuse_if c = search (rules, strings-left)

pub returns : goal.returns
returns c = search (rules, strings-done)
