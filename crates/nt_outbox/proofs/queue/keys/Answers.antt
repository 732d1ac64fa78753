use Rattle.std.proofs.Common.{rules}
use Rattle.nt_outbox.proofs.Owed.{all-owed}
use Rattle.nt_outbox.proofs.queue.keys.Goals as goal

pub loop-id-init : goal.loop-id-init
loop-id-init c =
    let all = all-owed c.args.owing.now c.args.marks.now c.requires.rising c.requires.owing in record {
      ends = rw c.new-keys.ensures.items all.ends;
      replies = rw c.new-replies.ensures.items all.replies;
      announces = rw c.new-announces.ensures.items all.announces;
      values = rw c.new-values.ensures.items all.values;
      newest = rw c.new-newest.ensures.items all.newest;
    }
