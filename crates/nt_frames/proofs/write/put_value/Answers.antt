use Rattle.std.proofs.Common.{refl}
use Rattle.std.proofs.lemmas.Result.{on_ok_weaker}
use Rattle.nt_frames.proofs.Written.{own-single}
use Rattle.nt_frames.proofs.write.put_value.Goals as goal

pub returns-in-Bool-clause-wire : goal.returns-in-Bool-clause-wire
returns-in-Bool-clause-wire c = rw c.in-Bool.is (on_ok_weaker c.put.result (own-single 0 _ refl) c.put.ensures.stands)

pub returns-in-Double-clause-wire : goal.returns-in-Double-clause-wire
returns-in-Double-clause-wire c = rw c.in-Double.is
    (on_ok_weaker c.put-in-Double.result (own-single 1 _ refl) c.put-in-Double.ensures.stands)

pub returns-in-Int-clause-wire : goal.returns-in-Int-clause-wire
returns-in-Int-clause-wire c = rw c.in-Int.is
    (on_ok_weaker c.put-in-Int.result (own-single 2 _ refl) c.put-in-Int.ensures.stands)

pub returns-in-Float-clause-wire : goal.returns-in-Float-clause-wire
returns-in-Float-clause-wire c = rw c.in-Float.is
    (on_ok_weaker c.put-in-Float.result (own-single 3 _ refl) c.put-in-Float.ensures.stands)

pub returns-in-Text-clause-wire : goal.returns-in-Text-clause-wire
returns-in-Text-clause-wire c = rw c.in-Text.is
    (on_ok_weaker c.put-in-Text.result (own-single 4 _ refl) c.put-in-Text.ensures.stands)

pub returns-in-Bytes-clause-wire : goal.returns-in-Bytes-clause-wire
returns-in-Bytes-clause-wire c = rw c.in-Bytes.is
    (on_ok_weaker c.put-in-Bytes.result (own-single 5 _ refl) c.put-in-Bytes.ensures.stands)
