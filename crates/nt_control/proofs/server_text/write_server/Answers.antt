use Rattle.std.proofs.Common.{◌-◌, ◌^◌, min, Some, ap, ◌∙◌}
use Rattle.nt_control.specs.Elements.{elements_of, said, passed_over}
use Rattle.nt_control.specs.Frame.{told_in, untold_in}
use Rattle.nt_control.specs.Server.{server_message}
use Rattle.nt_control.proofs.Depths.{depth-server_tree}
use Rattle.nt_control.proofs.server_text.write_server.Goals as goal

pub returns-clause-tree : goal.returns-clause-tree
returns-clause-tree c =
    λ flat. c.in_ok-text.ensures.back (rw c.in_ok-tree.ensures.tree (depth-server_tree _ flat))
    ∙ ap Some c.in_ok-tree.ensures.tree

pub returns-clause-back : goal.returns-clause-back
unfolding told_in
returns-clause-back c =
    λ flat. ap (λ t. said server_message (elements_of t))
    (c.in_ok-text.ensures.back (rw c.in_ok-tree.ensures.tree (depth-server_tree _ flat)))
    ∙ c.in_ok-tree.ensures.back

pub returns-clause-none_ignored : goal.returns-clause-none_ignored
unfolding untold_in
returns-clause-none_ignored c =
    λ flat. ap (λ t. min (passed_over server_message (elements_of t)) (2 ^ 32 - 1))
    (c.in_ok-text.ensures.back (rw c.in_ok-tree.ensures.tree (depth-server_tree _ flat)))
    ∙ ap (λ n. min n (2 ^ 32 - 1)) c.in_ok-tree.ensures.none_passed
