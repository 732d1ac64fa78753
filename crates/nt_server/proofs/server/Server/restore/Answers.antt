use Rattle.nt_laws.proofs.topics.LowTopics.{low-restored}
use Rattle.nt_server.proofs.Stepping.{represents-over}
use Rattle.nt_server.proofs.server.Server.restore.Goals as goal

pub over-requires : goal.over-requires
over-requires c =
    rw (c.in_ok-restored.ensures.topics, c.in_ok-restored.ensures.next)
    (low-restored c.args.saved.items c.requires.few)

pub returns : goal.returns
returns c =
    represents-over c.args.permits c.args.saved.items c.in_ok-restored.field-0.topics c.in_ok-restored.field-0.next
    c.over.result c.requires c.in_ok-restored.ensures.trees c.over.ensures c.in_ok-restored.ensures.topics
    c.in_ok-restored.ensures.next
