use Rattle.std.proofs.Common.{◌≡◌, ◌+◌, length, false, Ok, refl, ap, ◌∙◌, arith, rules}
use Rattle.std.proofs.lemmas.List.{length-append}
use Rattle.wpilog_read.specs.Reading.{header_at}
use Rattle.wpilog_read.specs.Run.{begun}
use Rattle.wpilog_read.proofs.Offsets.{header-parts, goes, header-opens}
use Rattle.wpilog_read.proofs.reader.LogReader.open.Goals as goal

pub pass-requires : goal.pass-requires
pass-requires c =
    let read = rw c.rest.ensures at c.in_ok-extra.ensures in
    let t = header-parts c.args.self.now.rest c.in_ok-extra.extra.now c.in_ok-extra.after.now read in
    let len : length c.args.self.now.rest ≡ length t.0 + length c.in_ok-extra.after.now =
    ap length t.1 ∙ length-append t.0 c.in_ok-extra.after.now in
    omega (arith, len)

pub returns-clause-ok : goal.returns-clause-ok
returns-clause-ok c =
    let read = rw c.rest.ensures at c.in_ok-extra.ensures in
    let t = header-parts c.args.self.now.rest c.in_ok-extra.extra.now c.in_ok-extra.after.now read in
    let g = goes c.args.self.now c.pass.new.self t.0 c.in_ok-extra.after.now (length c.in_ok-extra.after.now) t.1 refl
    c.pass.ensures in
    let closed : begun c.args.self.now ≡ false = search rules in
    let copied : header_at c.args.self.now.rest ≡ Ok (c.in_ok-extra-2.extra, c.in_ok-extra.after.now) =
    rw c.in_ok-extra-2.ensures read in
    header-opens c.args.self.now _ c.in_ok-extra-2.extra c.in_ok-extra.after.now closed copied
    (c.self-2.view_is ∙ g.is)
