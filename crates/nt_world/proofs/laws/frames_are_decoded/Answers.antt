use Rattle.nt_world.proofs.laws.frames_are_decoded.Goals as goal

pub returns : goal.returns
returns c =
    let meaning = c.frames_have_a_meaning.ensures in
    (λ most bytes. (meaning most bytes).0, λ most bytes. ((meaning most bytes).1, (meaning most bytes).2))
