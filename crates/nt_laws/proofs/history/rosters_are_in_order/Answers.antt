use Rattle.nt_laws.proofs.metas.RosterOrder.{roster-is, roster-in-order, roster-values}
use Rattle.nt_laws.proofs.metas.SameRows.{rows-kept}
use Rattle.nt_laws.proofs.topics.TopicOrder.{topics-apart}
use Rattle.nt_laws.proofs.history.rosters_are_in_order.Goals as goal

pub returns : goal.returns
returns c = record {
  topics = topics-apart;
  roster = roster-is;
  order = roster-in-order;
  values = roster-values;
  rows = rows-kept;
}
