use Rattle.nt_frames.proofs.Matches.{array_at-of}
use Rattle.nt_frames.proofs.read.list_of.Goals as goal

pub returns : goal.returns
returns g c =
    array_at-of g.T.Element.stands (λ x. x.0) (λ x. x.1.now) g.T.Element.number c.in_ok-count.count c.args.bytes.now
    c.in_ok-count.rest.now c.elements_of.result c.in_ok-count.ensures.reads c.elements_of.ensures
