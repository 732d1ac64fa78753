use Rattle.std.proofs.Common.{refl, ◌∙◌, arith}
use Rattle.nt_serve.proofs.Turning.{whole-start, whole-more, rounds-end, rounds-cut}
use Rattle.nt_serve.proofs.rounds.serve_rounds.Goals as goal

pub loop-init : goal.loop-init
loop-init g c = record { lock = refl; whole = whole-start _ c.args.conn; later = omega arith }

pub turn-requires : goal.turn-requires
turn-requires g c = record { own = c.loop.invariant.lock ∙ c.requires.own }

pub loop-preserved : goal.loop-preserved
loop-preserved g c =
    record {
      lock = c.in-Ok-None.ensures.own ∙ c.loop.invariant.lock;
      whole = whole-more _ _ _ c.args.conn c.in-Ok-None.field-0 c.in-Ok-None.field-0-is c.loop.invariant.whole
          c.in-Ok-None.ensures.round;
      later = omega (arith, c.loop.invariant.later, c.in-Ok-None.ensures.later);
    }

pub returns-in-Ok-Some-clause-rounds : goal.returns-in-Ok-Some-clause-rounds
returns-in-Ok-Some-clause-rounds g c =
    rounds-end _ _ _ c.args.conn c.in-Ok-Some.field-0 c.in-Ok-Some.end c.in-Ok-Some.field-0-is
    c.loop.invariant.whole c.in-Ok-Some.ensures.round

pub returns-in-Err-clause-rounds : goal.returns-in-Err-clause-rounds
returns-in-Err-clause-rounds g c =
    rounds-cut _ _ _ c.args.conn c.in-Err.cut c.end_of.result c.end_of.ensures c.loop.invariant.whole
    c.in-Err.ensures.cut
