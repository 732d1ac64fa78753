use Rattle.std.proofs.Common.{refl, arith, take}
use Rattle.std.specs.Prelude.{All}
use Rattle.std.proofs.lemmas.List.Elements.{All-take, All-from_get_or}
use Rattle.nt_msgpack.specs.Atoms.{IsByte, value_of}
use Rattle.nt_frames.proofs.Ranges.{spelled-fits}
use Rattle.nt_frames.proofs.read.atom_of.Goals as goal

pub slice_bounds-result-count : goal.slice_bounds-result-count
slice_bounds-result-count c =
    let h = (c.in-Got.ensures.got (value_of c.in-Got.atom) c.in-Got.used).0 refl in omega (arith, h.1)

pub slice_bounds-result-start : goal.slice_bounds-result-start
slice_bounds-result-start c =
    let h = (c.in-Got.ensures.got (value_of c.in-Got.atom) c.in-Got.used).0 refl in omega (arith, h.1)

pub returns-in-Got-clause-fits : goal.returns-in-Got-clause-fits
returns-in-Got-clause-fits c =
    let h = (c.in-Got.ensures.got (value_of c.in-Got.atom) c.in-Got.used).0 refl in
    let bytes : All IsByte c.args.bytes.now =
    All-from_get_or IsByte c.args.bytes.now 0 (λ i l. let b = c.type_inv.bytes i in omega (arith, b)) in
    spelled-fits (value_of c.in-Got.atom) (take c.in-Got.used c.args.bytes.now)
    (All-take IsByte c.in-Got.used c.args.bytes.now bytes) h.2
