use Rattle.std.proofs.Common.{ℕ, List, Option}
use Rattle.nt_frames.specs.declared.message.ValueMsg.{ValueMsg}
use Rattle.nt_frames.specs.declared.message.FrameFault.{FrameFault}
use Rattle.nt_frames.specs.Frames.{Means}
use Rattle.nt_rules.specs.Limits.{most_value}
use Rattle.nt_cli.specs.Desk.{Decoding, IsDecoding}
use Rattle.nt_cli.proofs.Endings.{ends-desk, replies-follow}
use Rattle.nt_cli.proofs.desk.desk.Goals as goal

-- what all bytes mean gives a decoding
a-decoding : ((most : ℕ) (bytes : List ℕ) → (ms : List ValueMsg) × (fault : Option FrameFault)
    × Means most bytes ms fault) → (decode : Decoding) × IsDecoding decode
a-decoding some = (λ bytes. (some most_value bytes).0, λ bytes. ((some most_value bytes).1, (some most_value bytes).2))

pub returns-clause-ends : goal.returns-clause-ends
returns-clause-ends g c =
    let d = a-decoding c.frames_have_a_meaning.ensures in ends-desk d.0 _ _ _ _ d.1 _
    (c.answer_all.ensures.ends d.0 d.1)

pub returns-clause-exact : goal.returns-clause-exact
returns-clause-exact g c = λ bytes reply known replies. replies-follow _ _ _ _ _ bytes reply replies
    c.answer_all.ensures.ends known

pub returns-clause-read : goal.returns-clause-read
returns-clause-read g c = λ is. let d = a-decoding c.frames_have_a_meaning.ensures in c.answer_all.ensures.read d.0 d.1
    is
