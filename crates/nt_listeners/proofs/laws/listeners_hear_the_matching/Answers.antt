use Rattle.nt_listeners.proofs.Matched.{heard-matching}
use Rattle.nt_listeners.proofs.laws.listeners_hear_the_matching.Goals as goal

pub returns : goal.returns
returns g c = heard-matching g.L.Listener.heard g.L.Listener.refusals g.L.Listener.may_answer
