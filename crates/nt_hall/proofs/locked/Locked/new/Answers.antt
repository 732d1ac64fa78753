use Rattle.std.proofs.Common.{ap, sym, ◌∙◌}
use Rattle.nt_rules.specs.history.Order.{origin_in}
use Rattle.nt_laws.proofs.histories.Origins.{origin_is}
use Rattle.nt_hall.proofs.Closing.{begins-standing}
use Rattle.nt_hall.proofs.locked.Locked.new.Goals as goal

pub invariant_of-result : goal.invariant_of-result
invariant_of-result g c =
    record {
      count_is = c.requires.journal.0;
      stands = λ _.
          begins-standing c.args.server c.of-first_server.result.value (g.J.Journal.told c.args.journal)
          c.of-first_server.ensures c.requires.server c.requires.journal.1;
      recorded = λ _. sym c.of-first_recorder.ensures;
    }

pub returns-clause-start : goal.returns-clause-start
returns-clause-start g c =
    λ start stands. ap origin_in c.of-first_server.ensures ∙ origin_is c.args.server start stands
