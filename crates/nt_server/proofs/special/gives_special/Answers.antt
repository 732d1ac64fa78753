use Rattle.std.proofs.Common.{sym}
use Rattle.nt_server.specs.MetaWishes.{gives_special}
use Rattle.nt_server.proofs.Lists.{any_here, any_later}
use Rattle.nt_server.proofs.special.gives_special.Goals as goal

pub returns-then-names_special : goal.returns-then-names_special
returns-then-names_special c =
    any_here gives_special c.args.subs.now c.loop-i.i _ c.at-uid.ensures
    (sym c.if-names_special.ensures) c.loop-i.invariant

pub loop-i-preserved : goal.loop-i-preserved
loop-i-preserved c =
    any_later gives_special c.args.subs.now c.loop-i.i _ c.at-uid.ensures
    (sym c.if-names_special.ensures) c.loop-i.invariant
