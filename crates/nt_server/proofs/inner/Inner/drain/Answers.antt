use Rattle.std.proofs.Common.{◌∙◌}
use Rattle.nt_rules.specs.history.State.{serves}
use Rattle.nt_server.proofs.MetaWishes.{known-batch, kept-drained}
use Rattle.nt_server.proofs.inner.Inner.drain.Goals as goal

pub returns-clause-out : goal.returns-clause-out
returns-clause-out c =
    let i = c.args.self.now in
    c.in_ok-out.ensures.out
    ∙ known-batch i.metas i.connections.opens i.table.topics (serves i.connections.opens c.args.worker c.args.conn)
    c.args.conn c.args.moment c.args.budget c.known.result.now c.known.ensures c.requires.kept.metas

pub returns-clause-kept : goal.returns-clause-kept
returns-clause-kept c =
    let i = c.args.self.now in
    record {
      ids = c.requires.kept.ids;
      metas =
          kept-drained i.metas i.table.topics i.connections c.drain.new.self c.args.conn c.args.budget
          (serves i.connections.opens c.args.worker c.args.conn) c.in_ok-out.ensures.connections c.requires.kept.metas;
    }
