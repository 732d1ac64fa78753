use Rattle.std.proofs.Common.{◌∙◌}
use Rattle.nt_frames.proofs.Written.{frames-more, spelled-more, read-back}
use Rattle.nt_frames.proofs.write.write_frame.Goals as goal

pub loop-message-preserved : goal.loop-message-preserved
loop-message-preserved c = record {
  written = frames-more c.args.messages.now c.loop-message.out.items c.put_message.new.out.items
      c.loop-message.message-index
      c.message-item.result c.loop-message-test.true c.message-item.is c.loop-message.invariant.written
      c.in_ok-put_message.ensures.ok;
  spelled = spelled-more c.args.messages.now c.loop-message.message-index c.message-item.result c.loop-message-test.true
      c.message-item.is c.loop-message.invariant.spelled c.in_ok-put_message.ensures.spelled;
}

pub returns-clause-read_back : goal.returns-clause-read_back
returns-clause-read_back c = λ most range.
    read-back most c.loop-message.message-index c.args.messages.now c.of_vec.result c.loop-message-test.false
    (c.of_vec.ensures ∙ c.loop-message.invariant.written) c.loop-message.invariant.spelled range
