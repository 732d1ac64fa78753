use Rattle.std.proofs.Common.{◌≡◌, ◌≢◌, ◌++◌, ap, sym, ◌∙◌, List, ℕ, None, Some, bytes_eq}
use Rattle.std.proofs.lemmas.Bool.Decides.{Decides-eqb}
use Rattle.std.proofs.lemmas.Slice.Eq.{strip_prefix_is}
use Rattle.nt_meta.proofs.Names.{joined-rest, joined-none}
use Rattle.nt_meta.proofs.find.is_joined.Goals as goal

pub returns-in-Some : goal.returns-in-Some
returns-in-Some c =
    let whole : c.as_bytes.result.now ≡ c.as_bytes-2.result.now ++ c.in-Some.rest.now =
    strip_prefix_is Decides-eqb c.as_bytes.result.now c.as_bytes-2.result.now
    (Some c.in-Some.rest) c.in-Some.ensures.cases in
    let name : c.args.name.now ≡ c.args.prefix.now ++ c.in-Some.rest.now =
    sym c.as_bytes.ensures.value ∙ whole ∙ ap (λ z. z ++ c.in-Some.rest.now) c.as_bytes-2.ensures.value in
    c.eq.ensures ∙ ap (λ z. bytes_eq c.in-Some.rest.now z) c.as_bytes-in-Some.ensures.value
    ∙ joined-rest c.args.prefix.now c.args.key.now c.args.name.now c.in-Some.rest.now name

pub returns-in-None : goal.returns-in-None
returns-in-None c =
    let none : (rest : List ℕ) → c.as_bytes.result.now ≢ c.as_bytes-2.result.now ++ rest =
    strip_prefix_is Decides-eqb c.as_bytes.result.now c.as_bytes-2.result.now None c.in-None.ensures.cases in
    joined-none c.args.prefix.now c.args.key.now c.args.name.now
    (λ rest e. none rest (c.as_bytes.ensures.value ∙ e
    ∙ ap (λ z. z ++ rest) (sym c.as_bytes-2.ensures.value)))
