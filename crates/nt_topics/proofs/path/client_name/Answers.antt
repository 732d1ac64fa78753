use Rattle.std.proofs.Common.{◌≡◌, ◌<◌, ◌≤◌, length, Err, ap, subst, ◌∙◌}
use Rattle.nt_topics.proofs.PathLemmas.{not_text, empty, too_long, fits}
use Rattle.nt_topics.proofs.path.client_name.Goals as goal

pub returns-in_default-clause-err : goal.returns-in_default-clause-err
returns-in_default-clause-err c = λ h. not_text c.args.bytes.now c.in_default.ensures.cases.0

pub returns-in-Ok-of-clause-ok : goal.returns-in-Ok-of-clause-ok
returns-in-Ok-of-clause-ok c =
    let is : c.in-Ok-of.name ≡ c.args.bytes.now = c.in-Ok-of.ensures.ok ∙ c.in-Ok.ensures.cases.0 in
    let some = subst (λ n. 0 < length n) is c.in-Ok-of.ensures.within.0 in
    let few = subst (λ n. length n ≤ 256) is c.in-Ok-of.ensures.within.1 in
    rw is (fits c.args.bytes.now c.in-Ok.ensures.cases.1 some few)

pub returns-in-Err-Empty-clause-err : goal.returns-in-Err-Empty-clause-err
returns-in-Err-Empty-clause-err c =
    let none = c.in-Err-Empty.ensures.empty (ap Err c.in-Err-Empty.field-0-is) in
    λ h. empty c.args.bytes.now c.in-Ok.ensures.cases.1
    (subst (λ n. length n ≡ 0) c.in-Ok.ensures.cases.0 none)

pub returns-in-Err-TooLong-clause-err : goal.returns-in-Err-TooLong-clause-err
returns-in-Err-TooLong-clause-err c =
    let many = c.in-Err-TooLong.ensures.too_long (ap Err c.in-Err-TooLong.field-0-is) in
    λ h. too_long c.args.bytes.now c.in-Ok.ensures.cases.1
    (subst (λ n. 256 < length n) c.in-Ok.ensures.cases.0 many)
