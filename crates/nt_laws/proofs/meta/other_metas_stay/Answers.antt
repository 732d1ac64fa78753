use Rattle.nt_laws.proofs.histories.OtherMetas.{entry-stays, named-stays, act-stays}
use Rattle.nt_laws.proofs.meta.other_metas_stay.Goals as goal

pub returns : goal.returns
returns c =
    record {
      entry = entry-stays;
      named = named-stays;
      act = λ server start past worker now a represents. act-stays server start past represents worker now a;
    }
