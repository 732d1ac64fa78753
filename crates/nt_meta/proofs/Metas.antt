-- Meta topics added one after another, and the bounds of their ids.
use Rattle.std.proofs.Common.{◌≡◌, ℕ, ◌+◌, ◌^◌, ◌<◌, ◌≤◌, Bool, true, false, List, [], ◌∷◌, ◌++◌, length, map, drop, get_or, Some, option_map, refl, ap, sym, ◌∙◌, subst, append_assoc, add-one, suc, drop-cons, arith, lit<, cond, IfSome}
use Rattle.std.specs.List.{find, All, AllByRecursion}
use Rattle.std.proofs.lemmas.List.Elements.{All-head, All-rest}
use Rattle.nt_rules.specs.Limits.{last_id}
use Rattle.nt_rules.specs.declared.roster.Roster.{Roster}
use Rattle.nt_rules.specs.declared.meta.MetaNow.{MetaNow}
use Rattle.nt_meta.specs.declared.topic.MetaTopic.{MetaTopic}
use Rattle.nt_meta.specs.declared.topic.MetaTopic.TheVariants.{TopicPub, TopicSub, ClientPub, ClientSub, Clients, ServerPub, ServerSub}
use Rattle.nt_rules.specs.meta.Meta.{IsNumbered, topic_pub, topic_sub, client_pub, client_sub, metas, named_in, is_named}
use Rattle.nt_meta.specs.Topics.{meta_of, number_of}

-- one more of what is made of each of some rows
pub added-next : {X Y : Type 0} (f : X → Y) (xs items : List X) (i : ℕ) (x : X) (out new whole : List Y)
    → items ≡ xs → i < length items → x ≡ get_or items i x → out ++ map f (drop i xs) ≡ whole
    → new ≡ out ++ f x ∷ [] → new ++ map f (drop (i + 1) xs) ≡ whole
added-next f xs items i x out new whole same l at before e =
    let first : drop i items ≡ x ∷ drop (i + 1) items =
    rw add-one (drop-cons items i x l ∙ ap (λ z. z ∷ drop (suc i) items) (sym at)) in
    let of_xs : drop i xs ≡ x ∷ drop (i + 1) xs = subst (λ z. drop i z ≡ x ∷ drop (i + 1) z) same first in
    ap (λ z. z ++ map f (drop (i + 1) xs)) e
    ∙ append_assoc out (f x ∷ []) (map f (drop (i + 1) xs))
    ∙ sym (ap (λ z. out ++ map f z) of_xs)
    ∙ before

-- ---- ids

-- the id is one of 32 bits
abbrev pub IsId : MetaNow → Type 0
IsId m = m.id < 2 ^ 32

ids-of-rows : {X : Type 0} (f : X → MetaNow) (P : X → Type 0) → ((x : X) → P x → IsId (f x)) → (xs : List X)
    → All P xs → (ys : List MetaNow) → AllByRecursion IsId ys → AllByRecursion IsId (map f xs ++ ys)
ids-of-rows f P small [] all ys h = h
ids-of-rows f P small (x ∷ xs) all ys h =
    (small x (All-head P x xs all), ids-of-rows f P small xs (All-rest P x xs (x ∷ xs) refl all) ys h)

ids-of-metas : (r : Roster) → IsNumbered r → AllByRecursion IsId (metas r)
ids-of-metas r n =
    ids-of-rows (topic_pub r) (λ t. t.id ≤ last_id)
    (λ t (h : t.id ≤ last_id). omega arith) r.topics n.topics _
    (ids-of-rows (topic_sub r) (λ t. t.id ≤ last_id)
    (λ t (h : t.id ≤ last_id). omega arith) r.topics n.topics _
    (ids-of-rows client_pub (λ c. c.conn ≤ last_id)
    (λ c (h : c.conn ≤ last_id). omega arith) r.conns n.conns _
    (ids-of-rows client_sub (λ c. c.conn ≤ last_id)
    (λ c (h : c.conn ≤ last_id). omega arith) r.conns n.conns _
    (lit< tt, (lit< tt, (lit< tt, tt))))))

found-id : (test : MetaNow → Bool) (ms : List MetaNow) → AllByRecursion IsId ms → IfSome (find test ms) IsId
found-id test [] all = tt
found-id test (m ∷ ms) all = by (test m) (found-id test ms all.1)
  where
    by : (b : Bool) → IfSome (find test ms) IsId → IfSome (cond b (Some m) (find test ms)) IsId
    by true rest = all.0
    by false rest = rest

number-is : (r : Roster) (t : MetaTopic) → (meta_of r t).id ≡ number_of t
number-is r (TopicPub life) = refl
number-is r (TopicSub life) = refl
number-is r (ClientPub conn) = refl
number-is r (ClientSub conn) = refl
number-is r Clients = refl
number-is r ServerPub = refl
number-is r ServerSub = refl

-- what was found by a name has an id of 32 bits
pub found-number : (r : Roster) (name : List ℕ) (t : MetaTopic) → IsNumbered r → Some (meta_of r t)
    ≡ named_in r name
    → number_of t < 2 ^ 32
found-number r name t n e =
    let small : IsId (meta_of r t) =
    subst (λ z. IfSome z IsId) (sym e) (found-id (is_named name) (metas r) (ids-of-metas r n)) in
    subst (λ z. z < 2 ^ 32) (number-is r t) small

pub found-is : (r : Roster) (name : List ℕ) (t : MetaTopic) → Some (meta_of r t) ≡ named_in r name
    → Some (number_of t) ≡ option_map (λ m. m.id) (named_in r name)
found-is r name t e = ap (λ z. Some z) (sym (number-is r t)) ∙ ap (option_map (λ (m : MetaNow). m.id)) e
