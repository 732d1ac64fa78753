use Rattle.std.proofs.Common.{arith, ◌≤◌, List, ℕ, length, drop, sym, ap, ◌∙◌, subst}
use Rattle.nt_tools.proofs.LineFeeds.{part-advanced}
use Rattle.nt_tools.proofs.piece.Piece.advance.Goals as goal

pub returns : goal.returns
returns c =
    let place = c.self.inside in
    part-advanced place.buf.items place.at place.end c.args.count c.self.invariant.0
    (omega (arith, c.self.invariant.1, c.self.invariant.2))
    (subst (λ (l : List ℕ). c.args.count ≤ length l) (sym c.self.view_is) c.requires)
    ∙ ap (drop c.args.count) c.self.view_is
