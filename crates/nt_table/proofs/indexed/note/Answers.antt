use Rattle.std.proofs.Common.{◌≡◌, ◌+◌, ◌==◌, ℕ, ℤ, List, OnOk, Some, None, cond, nat_eq, refl, sym, ◌∙◌, ap, subst, rules}
use Rattle.std.specs.List.{position}
use Rattle.std.specs.Str.{bytes_eq}
use Rattle.std.specs.HashMap.{get, get_by_text}
use Rattle.nt_table.specs.Index.{one, id_named, id_of, id_in, count_in}
use Rattle.nt_rules.specs.topics.Topics.{is_named}
use Rattle.nt_rules.proofs.Positions.{any-position}
use Rattle.nt_rules.proofs.Calls.{on-ok-2}
use Rattle.nt_table.proofs.Numbers.{is_key}
use Rattle.nt_table.proofs.Steps.{nowhere-said, said-named, published-joined, published-begun}
use Rattle.nt_table.proofs.indexed.note.Goals as goal

pub returns-in-Some : goal.returns-in-Some
returns-in-Some c = λ typ props.
    let at : Some c.in-Some.i ≡ position (is_named c.args.name.now) c.args.topics.now =
    sym c.in-Some.is ∙ c.requires.found in
    let fresh =
    nowhere-said c.args.index.now c.args.topics.now c.args.next c.requires.indexed c.args.publisher.now.conn
    c.args.publisher.now.uid c.requires.fresh in
    on-ok-2 c.note.result
    (λ ids counts. published-joined c.args.index.now c.args.topics.now c.args.next c.requires.indexed c.note.new.self
    c.args.publisher.now c.index-topics-i.result.id ids (counts fresh) fresh c.args.name.now typ props
    (said-named c.args.index.now c.args.topics.now c.args.next c.requires.indexed c.args.name.now c.in-Some.i
    c.index-topics-i.result at c.index-topics-i.is)
    (any-position (is_named c.args.name.now) c.args.topics.now (Some c.in-Some.i) at) c.note.ensures.names)
    (subst
    (λ k. OnOk c.note.result
    ((d : ℕ) → (u : ℤ) → id_of c.note.new.self d u
    ≡ cond (is_key c.args.publisher.now.conn c.args.publisher.now.uid d u) (Some k) (id_of c.args.index.now d u)))
    (ap (λ t. t.id) (sym c.index-topics-i.is)) c.note.ensures.ids)
    c.note.ensures.counts

pub returns-in_ok-note_name-in-None : goal.returns-in_ok-note_name-in-None
returns-in_ok-note_name-in-None c = λ typ props.
    let at : None ≡ position (is_named c.args.name.now) c.args.topics.now = sym c.in-None.is ∙ c.requires.found in
    let fresh =
    nowhere-said c.args.index.now c.args.topics.now c.args.next c.requires.indexed c.args.publisher.now.conn
    c.args.publisher.now.uid c.requires.fresh in
    let conns : c.note_name.new.self.conns ≡ c.args.index.now.conns = c.in_ok-note_name-in-None.ensures.conns in
    let fresh-2 : id_of c.note_name.new.self c.args.publisher.now.conn c.args.publisher.now.uid ≡ None =
    ap (λ m. id_in (get nat_eq m c.args.publisher.now.conn) c.args.publisher.now.uid) conns ∙ fresh in
    let named : (n : List ℕ) → id_named c.note_name.new.self n
    ≡ cond (bytes_eq c.args.name.now n) (Some c.args.next) (id_named c.args.index.now n) =
    search rules in
    on-ok-2 c.note-in-None.result
    (λ ids counts. published-begun c.args.index.now c.args.topics.now c.args.next c.requires.indexed
    c.note-in-None.new.self
    c.args.publisher.now c.args.next
    (λ d u. ids d u ∙ ap
    (λ m. cond (is_key c.args.publisher.now.conn c.args.publisher.now.uid d u) (Some c.args.next)
    (id_in (get nat_eq m d) u)) conns)
    (λ d. counts fresh-2 d ∙ ap (λ m. count_in (get nat_eq m d) + one (c.args.publisher.now.conn == d)) conns)
    fresh c.args.name.now typ props refl
    (λ n. ap (λ m. get_by_text m n) c.note-in-None.ensures.names ∙ named n)
    (any-position (is_named c.args.name.now) c.args.topics.now None at))
    c.note-in-None.ensures.ids c.note-in-None.ensures.counts
