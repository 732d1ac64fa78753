use Rattle.std.proofs.Common.{◌≡◌, ℕ, List, length, take, ◌∙◌, ap, Err, Option, Some, None, subst}
use Rattle.std.specs.List.{position}
use Rattle.nt_tools.specs.declared.line.LineFault.{LineFault}
use Rattle.nt_tools.specs.declared.line.LineFault.TheVariants.{TooLong}
use Rattle.nt_tools.specs.LineReading.{is_feed, Gathers, feed_gathered}
use Rattle.nt_tools.proofs.LineReads.{feeds, gathers-feed, gathers-all, too_long-feed, too_long-all, passed_on}
use Rattle.nt_tools.proofs.line.LineReader.gather.Goals as goal
use Rattle.nt_tools.proofs.line.LineReader.gather.Goals.{then-is_empty, else-is_empty}

pub returns-in_err-extend-in-Some-clause-too_long :
    goal.returns-in_err-extend-in-Some-clause-too_long
returns-in_err-extend-in-Some-clause-too_long c = λ is.
    let within = c.within-within.ensures.bytes in
    let found : position is_feed (take c.args.self.now.room c.args.self.now.bytes) ≡ Some c.in-Some.count =
    rw (← within, ← c.line_feed.ensures) c.in-Some.is in
    let same = passed_on _ _ _ c.from_residual.ensures.1 is in
    let long = c.in_err-extend-in-Some.ensures.too_long (ap (λ (e : LineFault). Err e) same) in
    too_long-feed _ _ _ _ _ (feeds _ _ _ found) c.in_err-extend-in-Some.ensures.err (rw within at long)

pub returns-in_err-extend-in-None-clause-too_long :
    goal.returns-in_err-extend-in-None-clause-too_long
returns-in_err-extend-in-None-clause-too_long c = λ is.
    let within = c.within-within.ensures.bytes in
    let none : position is_feed (take c.args.self.now.room c.args.self.now.bytes) ≡ None =
    rw (← within, ← c.line_feed.ensures) c.in-None.is in
    let same = passed_on _ _ _ c.from_residual-in_err-extend-in-None.ensures.1 is in
    let long = c.in_err-extend-in-None.ensures.too_long (ap (λ (e : LineFault). Err e) same) in
    too_long-all _ _ _ _ none c.in_err-extend-in-None.ensures.err (rw within at long)

pub returns-in_ok-extend-in-Some-clause-gathers : goal.returns-in_ok-extend-in-Some-clause-gathers
returns-in_ok-extend-in-Some-clause-gathers c =
    let within = c.within-within.ensures.bytes in
    let found : position is_feed (take c.args.self.now.room c.args.self.now.bytes) ≡ Some c.in-Some.count =
    rw (← within, ← c.line_feed.ensures) c.in-Some.is in
    rw c.give.ensures (gathers-feed _ _ _ _ _ (feeds _ _ _ found) (rw within at c.in_ok-extend-in-Some.ensures.ok))

pub returns-after-is_empty-clause-gathers : goal.returns-after-is_empty-clause-gathers
returns-after-is_empty-clause-gathers c =
    let within = c.within-within.ensures.bytes in
    let none : position is_feed (take c.args.self.now.room c.args.self.now.bytes) ≡ None =
    rw (← within, ← c.line_feed.ensures) c.in-None.is in
    let gathered = gathers-all _ _ _ _ none (rw within at c.in_ok-extend-in-None.ensures.ok) in
    elim c.if-is_empty.branch [
      | then-is_empty w ↦ rw (w.result-is, c.give-in-None.ensures, within) gathered
      | else-is_empty w ↦ rw (w.result-is, c.give-in-None.ensures, within) gathered
    ]
