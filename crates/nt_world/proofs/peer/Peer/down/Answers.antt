use Rattle.nt_world.specs.Frames.{told_by}
use Rattle.nt_world.proofs.Clients.{says-decoded, came-down}
use Rattle.nt_world.proofs.peer.Peer.down.Goals as goal
use Rattle.nt_world.proofs.peer.Peer.down.Goals.{in-Text-2, in-Binary-2}

pub returns-in_ok-take : goal.returns-in_ok-take
returns-in_ok-take c = λ decode is_decoding.
    let says = says-decoded decode is_decoding c.in-Some.frame in
    let taken = c.in_ok-take.ensures.held (told_by decode c.in-Some.frame) says.0 says.1 in
    let done = came-down decode c.args.self.now c.self.inside.client c.take.new.self c.self.inside.conn
    c.self.inside.up.items c.self.inside.down.items c.pop_front.new.self.items c.in-Some.frame c.self.view_is
    c.in-Some.ensures.items taken in
    elim c.match-frame-2.branch [ in-Text-2 w ↦ cc | in-Binary-2 w ↦ cc ]
