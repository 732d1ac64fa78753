use Rattle.std.proofs.lemmas.Result.{on_ok_weaker}
use Rattle.nt_world.proofs.Clients.{went-up}
use Rattle.nt_world.proofs.peer.Peer.up.Goals as goal

pub returns : goal.returns
returns c = on_ok_weaker c.say_frame.result
    (λ said. λ decode is_decoding past h.
    went-up decode c.args.worker past c.args.self.now c.self.inside.client c.self.inside.conn c.self.inside.up.items
    c.self.inside.down.items c.pop_front.new.self.items c.in-Some.conn c.in-Some-pop_front.frame _ _ c.self.view_is
    c.in-Some.is c.in-Some-pop_front.ensures.items (said decode is_decoding past h)) c.say_frame.ensures
