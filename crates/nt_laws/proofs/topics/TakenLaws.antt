-- Where values were taken: the changes of an entry do to the places what the entry does to the lives.
use Rattle.std.proofs.Common.{◌≡◌, ◌≤◌, ◌<◌, ◌+◌, ◌^◌, ◌&&◌, ◌||◌, ◌==◌, not, ℕ, ℤ, suc, pos, Bool, true, false, cond}
use Rattle.std.proofs.Common.{ltb, List, [], ◌∷◌, ◌++◌, Option, Some, None, map, filter, length, refl, sym, ◌∙◌, ap}
use Rattle.std.proofs.Common.{subst, arith, ◌⊎◌, inl, inr}
use Rattle.std.specs.Prelude.{is_some, option_map, IfSome}
use Rattle.std.specs.List.{AllByRecursion, cons_option, list_any, find, filter_map}
use Rattle.std.proofs.lemmas.Bool.Decides.{nat_tests}
use Rattle.serde_json.specs.Data.{Data}
use Rattle.nt_control.specs.declared.message.ClientMsg.TheVariants.{Publish, Unpublish, SetProps, Subscribe}
use Rattle.nt_control.specs.declared.message.ClientMsg.TheVariants.{Unsubscribe}
use Rattle.nt_subs.specs.Subscriptions.{Subs}
use Rattle.nt_topics.specs.Properties.{is_cached}
use Rattle.nt_values.specs.declared.value.Value.{Value}
use Rattle.nt_rules.specs.Limits.{last_id}
use Rattle.nt_rules.specs.declared.topic.Pub.{Pub}
use Rattle.nt_rules.specs.declared.topic.Saved.{Saved}
use Rattle.nt_rules.specs.declared.topic.Topic.{Topic}
use Rattle.nt_rules.specs.declared.topic.Change.{Change}
use Rattle.nt_rules.specs.declared.topic.Change.TheVariants.{Started, Props}
use Rattle.nt_rules.specs.declared.topic.Cause.TheVariants.{Older}
use Rattle.nt_rules.specs.topics.Puts.{Put, greatest, timed}
use Rattle.nt_rules.specs.topics.Topics.{has_conn, has_publisher, is_named, lives_on, outlives, put_cause, put_cause_at}
use Rattle.nt_rules.specs.topics.Topics.{without_publisher as topic_without_publisher, if_it_lives_on, with_update}
use Rattle.nt_rules.specs.topics.Topics.{with_props, with_put, with_value}
use Rattle.nt_rules.specs.topics.Changes.{if_found, put_change, end_of, update_change, drop_changes, ended}
use Rattle.nt_rules.specs.outbox.Calls.{id_of}
use Rattle.nt_rules.specs.declared.act.Msg.{Msg}
use Rattle.nt_rules.specs.declared.act.Msg.TheVariants as msg
use Rattle.nt_rules.specs.declared.taken.Taken.{Taken}
use Rattle.nt_rules.specs.history.Lives.{Life, topics, topic_of, is_living, at_living, or_ended, with_publishing, born}
use Rattle.nt_rules.specs.history.Lives.{without_publisher, without_conn, with_setting, with_a_put, closed_for, held_of}
use Rattle.nt_rules.specs.history.Lives.{restored_life, restored_put}
use Rattle.nt_rules.specs.history.Now.{said_cause, lives_after}
use Rattle.nt_rules.specs.history.Marks.{held_place}
use Rattle.nt_rules.specs.history.State.{with_taken, without_taken, if_id, taken_by, taken_after, changes_said}
use Rattle.nt_rules.specs.history.State.{holds_in, topics_said}
use Rattle.nt_laws.proofs.histories.Facts.{IsNumberedLives}
use Rattle.nt_laws.proofs.topics.TakenPuts.{held-put, held-older}
use Rattle.nt_laws.proofs.topics.TopicLaws.{counts-newer, refused-older}
use Rattle.nt_laws.proofs.topics.TopicOrder.{names-apart}
use Rattle.nt_laws.proofs.topics.OneName.{HasOneName}
use Rattle.nt_laws.proofs.topics.NamedAfter.{HaveDifferentNames, found-each, named-changed, holds-found}
use Rattle.nt_laws.proofs.topics.Turns.{held-none, held-uncached, setting-id, setting-over, setting-keeps}
use Rattle.nt_laws.proofs.topics.Turns.{setting-topic}

-- ---- the place of a life

-- where a held put was taken
abbrev taken_place : ℕ → Option Put → Option Taken
taken_place id None = None
taken_place id (Some p) = cond (ltb 0 p.place) (Some (record { topic = id; place = p.place })) None

held_place-is : (l : Life) → held_place l ≡ cond (is_living l) (taken_place l.id (held_of l)) None
held_place-is l = by (is_cached l.props) refl l.puts
  where
    by : (b : Bool) → is_cached l.props ≡ b → (ps : List Put)
        → held_place (record l { puts = ps })
        ≡ cond (is_living l) (taken_place l.id (held_of (record l { puts = ps }))) None
    by true e [] = rw e refl
    by true e (p ∷ ps) = rw e refl
    by false e [] = rw e refl
    by false e (p ∷ ps) = rw e refl

held-living : (l : Life) → is_living l ≡ true → held_place l ≡ taken_place l.id (held_of l)
held-living l e = held_place-is l ∙ ap (λ b. cond b (taken_place l.id (held_of l)) None) e

held-over : (l : Life) → is_living l ≡ false → held_place l ≡ None
held-over l e = held_place-is l ∙ ap (λ b. cond b (taken_place l.id (held_of l)) None) e

-- lives of one id that hold the same have the same place
same-held : (l m : Life) → m.id ≡ l.id → m.over ≡ l.over → held_of m ≡ held_of l → held_place m ≡ held_place l
same-held l m id over held =
    held_place-is m
    ∙ ap (λ n. cond (is_living m) (taken_place n (held_of m)) None) id
    ∙ ap (λ o. cond (is_living m) (taken_place l.id o) None) held
    ∙ ap (λ (o : Option ℕ). cond (not (is_some o)) (taken_place l.id (held_of l)) None) over
    ∙ sym (held_place-is l)

-- a restored value was taken at no entry
pub unplaced-restored : (id : ℕ) (s : Saved) → held_place (restored_life id s) ≡ None
unplaced-restored id s = held_place-is (restored_life id s) ∙ by (is_cached s.props) s.value
  where
    by : (b : Bool) (v : Option Value) → taken_place id (cond b (greatest (restored_put v)) None) ≡ None
    by true None = refl
    by true (Some v) = refl
    by false v = refl

-- the place names its life
abbrev IsOf : ℕ → Option Taken → Type 0
IsOf id None = Unit {0}
IsOf id (Some t) = t.topic ≡ id

held-of : (l : Life) → IsOf l.id (held_place l)
held-of l = subst (IsOf l.id) (sym (held_place-is l)) (by (is_living l) (held_of l))
  where
    by : (b : Bool) (o : Option Put) → IsOf l.id (cond b (taken_place l.id o) None)
    by false o = tt
    by true None = tt
    by true (Some p) = placed (ltb 0 p.place)
      where
        placed : (b : Bool) → IsOf l.id (cond b (Some (record { topic = l.id; place = p.place })) None)
        placed true = refl
        placed false = tt

-- the places of lives
abbrev places : List Life → List Taken
places lives = filter_map held_place lives

-- ---- places above an id

abbrev pub AreAbove : ℕ → List Taken → Type 0
AreAbove id [] = Unit {0}
AreAbove id (t ∷ ts) = (id < t.topic) × AreAbove id ts

above-cons : (id k : ℕ) (o : Option Taken) (ts : List Taken) → IsOf k o → id < k → AreAbove id ts
    → AreAbove id (cons_option o ts)
above-cons id k None ts e h a = a
above-cons id k (Some t) ts e h a = (omega arith, a)

pub above-held : (id k : ℕ) (lives : List Life) → id < k → IsNumberedLives k lives
    → AreAbove id (places lives)
above-held id k [] h n = tt
above-held id k (l ∷ lives) h n =
    let same : l.id ≡ k = n.0 in
    above-cons id l.id (held_place l) (places lives) (held-of l) (omega arith)
    (above-held id (suc k) lives (omega arith) n.1)

-- a place stands where its id is, and else before the first that is above
with-by : (id place : ℕ) (t : Taken) (ts : List Taken) (same before : Bool) → (t.topic == id) ≡ same
    → ltb id t.topic ≡ before
    → with_taken id place (t ∷ ts)
    ≡ cond same (record { topic = id; place = place } ∷ ts)
    (cond before (record { topic = id; place = place } ∷ t ∷ ts) (t ∷ with_taken id place ts))
with-by id place t ts same before e h = cc

-- the place of an id that is below all stands first
with-first : (id place : ℕ) (o : Option Taken) (ts : List Taken) → IsOf id o → AreAbove id ts
    → with_taken id place (cons_option o ts) ≡ record { topic = id; place = place } ∷ ts
with-first id place (Some t) ts e a =
    with-by id place t ts true (ltb id t.topic) (grind (arith, nat_tests)) refl
with-first id place None [] e a = refl
with-first id place None (t ∷ ts) e a =
    let less = a.0 in
    with-by id place t ts false true (grind (arith, nat_tests)) (grind (arith, nat_tests))

with-later : (id place : ℕ) (t : Taken) (ts : List Taken) → t.topic < id
    → with_taken id place (t ∷ ts) ≡ t ∷ with_taken id place ts
with-later id place t ts less =
    with-by id place t ts false false (grind (arith, nat_tests)) (grind (arith, nat_tests))

without-above : (id : ℕ) (ts : List Taken) → AreAbove id ts → without_taken id ts ≡ ts
without-above id [] a = refl
without-above id (t ∷ ts) a =
    let less = a.0 in
    let other : (t.topic == id) ≡ false = grind (arith, nat_tests) in
    ap (λ b. cond (not b) (t ∷ without_taken id ts) (without_taken id ts)) other
    ∙ ap (λ us. t ∷ us) (without-above id ts a.1)

without-first : (id : ℕ) (o : Option Taken) (ts : List Taken) → IsOf id o → AreAbove id ts
    → without_taken id (cons_option o ts) ≡ ts
without-first id None ts e a = without-above id ts a
without-first id (Some t) ts e a =
    let same : (t.topic == id) ≡ true = grind (arith, nat_tests) in
    ap (λ b. cond (not b) (t ∷ without_taken id ts) (without_taken id ts)) same ∙ without-above id ts a

without-later : (id : ℕ) (t : Taken) (ts : List Taken) → t.topic < id → without_taken id (t ∷ ts)
    ≡ t ∷ without_taken id ts
without-later id t ts less =
    let other : (t.topic == id) ≡ false = grind (arith, nat_tests) in
    ap (λ b. cond (not b) (t ∷ without_taken id ts) (without_taken id ts)) other

-- an id that a topic has is one that a change tells
id_of-is : (id : ℕ) → id ≤ last_id → id_of (pos id) ≡ Some id
id_of-is id h = let small : ltb id (2 ^ 32)
    ≡ true = grind (arith, nat_tests) in ap (λ b. cond b (Some id) None) small

-- ---- changes of one topic

-- what changes of a topic do: nothing to the places of those before it
abbrev IsLater : ℕ → List Topic → (Topic → List Change) → Type 0
IsLater place ts c =
    (t : Topic) (x : Taken) (xs : List Taken) → x.topic < t.id → t.id ≤ last_id
    → taken_after place ts (c t) (x ∷ xs) ≡ x ∷ taken_after place ts (c t) xs

-- the topic that is found is of a life from this id on
found-from : (test : Topic → Bool) (k : ℕ) (lives : List Life) (t : Topic) → IsNumberedLives k lives
    → find test (topics lives) ≡ Some t → (k ≤ t.id) × (t.id < k + length lives)
found-from test k [] t n e = absurd (cc)
found-from test k (l ∷ lives) t n e = by (λ h. found-from test (suc k) lives t n.1 h) (is_living l) e
  where
    same : l.id ≡ k
    same = n.0

    wider : (suc k ≤ t.id) × (t.id < suc k + length lives) → (k ≤ t.id) × (t.id < k + suc (length lives))
    wider h = let low = h.0 in let high = h.1 in (omega arith, omega arith)

    here : topic_of l ≡ t → (k ≤ t.id) × (t.id < k + suc (length lives))
    here e = let id : l.id ≡ t.id = ap (λ (t : Topic). t.id) e in (omega arith, omega arith)

    on : (find test (topics lives) ≡ Some t → (suc k ≤ t.id) × (t.id < suc k + length lives)) → (b : Bool)
        → cond b (Some (topic_of l)) (find test (topics lives)) ≡ Some t
        → (k ≤ t.id) × (t.id < k + suc (length lives))
    on more true e = here (let f : Some (topic_of l) ≡ Some t = e in cc)
    on more false e = wider (more e)

    by : (find test (topics lives) ≡ Some t → (suc k ≤ t.id) × (t.id < suc k + length lives)) → (b : Bool)
        → find test (cons_option (cond b (Some (topic_of l)) None) (topics lives)) ≡ Some t
        → (k ≤ t.id) × (t.id < k + suc (length lives))
    by more true e = on more (test (topic_of l)) e
    by more false e = wider (more e)

-- changes of a topic that is found further on leave the first place
found-later : (place : ℕ) (ts : List Topic) (c : Topic → List Change) (o : Option Topic) (x : Taken) (xs : List Taken)
    → IsLater place ts c
    → ((t : Topic) → o ≡ Some t → (x.topic < t.id) × (t.id ≤ last_id))
    → taken_after place ts (if_found c o) (x ∷ xs) ≡ x ∷ taken_after place ts (if_found c o) xs
found-later place ts c None x xs later h = refl
found-later place ts c (Some t) x xs later h = let both = h t refl in later t x xs both.0 both.1

-- a change of the first life that goes on and passes, and the changes that the first topic that does tells
pub taken-at : (test : Topic → Bool) (f : Life → Life) (place : ℕ) (ts : List Topic) (c : Topic → List Change)
    (P : Option Topic → Type 0)
    → IsLater place ts c
    → ((l : Life) (xs : List Taken) → is_living l ≡ true → P (Some (topic_of l)) → l.id ≤ last_id
    → AreAbove l.id xs
    → taken_after place ts (c (topic_of l)) (cons_option (held_place l) xs) ≡ cons_option (held_place (f l)) xs)
    → (k : ℕ) (lives : List Life) → IsNumberedLives k lives → k + length lives ≤ suc last_id
    → P (find test (topics lives))
    → places (at_living test f lives)
    ≡ taken_after place ts (if_found c (find test (topics lives))) (places lives)
taken-at test f place ts c P later same k [] n few h = refl
taken-at test f place ts c P later same k (l ∷ lives) n few h =
    by (λ h. taken-at test f place ts c P later same (suc k) lives n.1 (omega arith) h) (is_living l) refl h
  where
    xs : List Taken
    xs = places lives

    found : Option Topic
    found = find test (topics lives)

    after : List Taken
    after = places (at_living test f lives)

    id : l.id ≡ k
    id = n.0

    above : AreAbove l.id xs
    above = above-held l.id (suc k) lives (omega arith) n.1

    pass : (o : Option Taken) → IsOf l.id o
        → cons_option o (taken_after place ts (if_found c found) xs)
        ≡ taken_after place ts (if_found c found) (cons_option o xs)
    pass None e = refl
    pass (Some x) e =
        let topic : x.topic ≡ l.id = e in
        sym (found-later place ts c found x xs later
        (λ t is.
        let both = found-from test (suc k) lives t n.1 is in
        let low = both.0 in
        let high = both.1 in
        (omega arith, omega arith)))

    skip : after ≡ taken_after place ts (if_found c found) xs
        → cons_option (held_place l) after
        ≡ taken_after place ts (if_found c found) (cons_option (held_place l) xs)
    skip more = ap (λ ts. cons_option (held_place l) ts) more ∙ pass (held_place l) (held-of l)

    on : (P found → after ≡ taken_after place ts (if_found c found) xs) → is_living l ≡ true → (b : Bool)
        → P (cond b (Some (topic_of l)) found)
        → places (cond b (f l ∷ lives) (l ∷ at_living test f lives))
        ≡ taken_after place ts (if_found c (cond b (Some (topic_of l)) found)) (cons_option (held_place l) xs)
    on more living true h = sym (same l xs living h (omega arith) above)
    on more living false h = skip (more h)

    by : (P found → after ≡ taken_after place ts (if_found c found) xs) → (b : Bool) → is_living l ≡ b
        → P (find test (cons_option (cond b (Some (topic_of l)) None) (topics lives)))
        → places (cond (b && test (topic_of l)) (f l ∷ lives) (l ∷ at_living test f lives))
        ≡ taken_after place ts
        (if_found c (find test (cons_option (cond b (Some (topic_of l)) None) (topics lives))))
        (cons_option (held_place l) xs)
    by more true living h = on more living (test (topic_of l)) h
    by more false living h = skip (more h)

-- ---- what is told of a topic

untold-later : (place : ℕ) (ts : List Topic) → IsLater place ts (λ t. [])
untold-later place ts t x xs less small = refl

told-none : (o : Option Topic) → if_found (λ t. []) o ≡ []
told-none None = refl
told-none (Some t) = refl

-- what a change of an id that a topic has does
if_id-is : (id : ℕ) (f : ℕ → List Taken) (xs : List Taken) → id ≤ last_id → if_id (id_of (pos id)) f xs ≡ f id
if_id-is id f xs small = ap (λ o. if_id o f xs) (id_of-is id small)

put-is : (place time : ℕ) (value : Value) (ts : List Topic) (t : Topic) (xs : List Taken) → t.id ≤ last_id
    → taken_after place ts (put_change time value t) xs
    ≡ cond (holds_in ts t.name) (with_taken t.id place xs) xs
put-is place time value ts t xs small =
    if_id-is t.id (λ n. cond (holds_in ts t.name) (with_taken n place xs) xs) xs small

props-is : (place : ℕ) (u : Data) (ts : List Topic) (t : Topic) (xs : List Taken) → t.id ≤ last_id
    → taken_by place ts (Props (pos t.id) t.name u) xs ≡ cond (holds_in ts t.name) xs (without_taken t.id xs)
props-is place u ts t xs small =
    if_id-is t.id (λ n. cond (holds_in ts t.name) xs (without_taken n xs)) xs small

ended-is : (place : ℕ) (ts : List Topic) (t : Topic) (xs : List Taken) → t.id ≤ last_id
    → taken_by place ts (ended t) xs ≡ without_taken t.id xs
ended-is place ts t xs small = if_id-is t.id (λ n. without_taken n xs) xs small

put-later : (place time : ℕ) (value : Value) (ts : List Topic) → IsLater place ts (put_change time value)
put-later place time value ts t x xs less small =
    put-is place time value ts t (x ∷ xs) small ∙ by (holds_in ts t.name)
    ∙ sym (ap (λ ys. x ∷ ys) (put-is place time value ts t xs small))
  where
    by : (b : Bool) → cond b (with_taken t.id place (x ∷ xs)) (x ∷ xs) ≡ x ∷ cond b (with_taken t.id place xs) xs
    by true = with-later t.id place x xs less
    by false = refl

ended-later : (place : ℕ) (ts : List Topic) (t : Topic) (x : Taken) (xs : List Taken) → x.topic < t.id
    → t.id ≤ last_id
    → taken_by place ts (ended t) (x ∷ xs) ≡ x ∷ taken_by place ts (ended t) xs
ended-later place ts t x xs less small =
    ended-is place ts t (x ∷ xs) small ∙ without-later t.id x xs less
    ∙ sym (ap (λ ys. x ∷ ys) (ended-is place ts t xs small))

-- the end of what is left of a topic
end-later : (place : ℕ) (ts : List Topic) (g : Topic → Topic) → ((t : Topic) → (g t).id ≡ t.id)
    → IsLater place ts (λ t. end_of (g t))
end-later place ts g same t x xs less small = by (lives_on (g t))
  where
    id : (g t).id ≡ t.id
    id = same t

    by : (b : Bool) → taken_after place ts (cond b [] (ended (g t) ∷ [])) (x ∷ xs)
        ≡ x ∷ taken_after place ts (cond b [] (ended (g t) ∷ [])) xs
    by true = refl
    by false = ended-later place ts (g t) x xs (omega arith) (omega arith)

update-later : (place : ℕ) (u : Data) (ts : List Topic) → IsLater place ts (update_change u)
update-later place u ts t x xs less small =
    ap (taken_after place ts (end_of (with_update u t)))
    (props-is place u ts t (x ∷ xs) small ∙ by (holds_in ts t.name)
    ∙ sym (ap (λ ys. x ∷ ys) (props-is place u ts t xs small)))
    ∙ end-later place ts (with_update u) (λ t. refl) t x (taken_by place ts (Props (pos t.id) t.name u) xs) less small
  where
    by : (b : Bool) → cond b (x ∷ xs) (without_taken t.id (x ∷ xs)) ≡ x ∷ cond b xs (without_taken t.id xs)
    by true = refl
    by false = without-later t.id x xs less

ended-first : (place : ℕ) (ts : List Topic) (t : Topic) (o : Option Taken) (xs : List Taken) → t.id ≤ last_id
    → IsOf t.id o → AreAbove t.id xs
    → taken_by place ts (ended t) (cons_option o xs) ≡ xs
ended-first place ts t o xs small e above =
    ended-is place ts t (cons_option o xs) small ∙ without-first t.id o xs e above

-- a life that ends unless its topic lives on has a place no more where it ends
end-here : (place : ℕ) (ts : List Topic) (l m : Life) (xs : List Taken) → m.id ≡ l.id
    → held_place m ≡ held_place l → l.id ≤ last_id
    → AreAbove l.id xs
    → taken_after place ts (end_of (topic_of m)) (cons_option (held_place l) xs)
    ≡ cons_option (held_place (or_ended place m)) xs
end-here place ts l m xs id same small above = by (lives_on (topic_of m))
  where
    by : (b : Bool) → taken_after place ts (cond b [] (ended (topic_of m) ∷ [])) (cons_option (held_place l) xs)
        ≡ cons_option (held_place (cond b m (record m { over = Some place }))) xs
    by true = ap (λ o. cons_option o xs) (sym same)
    by false =
        ended-first place ts (topic_of m) (held_place l) xs (omega arith)
        (subst (λ n. IsOf n (held_place l)) (sym id) (held-of l)) (subst (λ n. AreAbove n xs) (sym id) above)
        ∙ sym (ap (λ o. cons_option o xs) (held-over (record m { over = Some place }) refl))

-- where a change of properties leaves a life, its place is kept where the value is still held
kept-place : (l m : Life) (xs : List Taken) → m.id ≡ l.id → m.over ≡ l.over
    → held_of m ≡ held_of l ⊎ held_of m ≡ None → AreAbove l.id xs
    → cond (is_some (option_map timed (held_of m))) (cons_option (held_place l) xs)
    (without_taken l.id (cons_option (held_place l) xs))
    ≡ cons_option (held_place m) xs
kept-place l m xs id over still above = by (held_of m) refl still
  where
    gone : held_of m ≡ None → held_place m ≡ None
    gone e =
        held_place-is m ∙ ap (λ o. cond (is_living m) (taken_place m.id o) None) e ∙ none (is_living m)
      where
        none : (b : Bool) → cond b (taken_place m.id None) None ≡ None
        none true = refl
        none false = refl

    by : (h : Option Put) → held_of m ≡ h → h ≡ held_of l ⊎ h ≡ None
        → cond (is_some (option_map timed h)) (cons_option (held_place l) xs)
        (without_taken l.id (cons_option (held_place l) xs))
        ≡ cons_option (held_place m) xs
    by None e still =
        without-first l.id (held_place l) xs (held-of l) above ∙ sym (ap (λ o. cons_option o xs) (gone e))
    by (Some p) e (inl same) = ap (λ o. cons_option o xs) (sym (same-held l m id over (e ∙ same)))
    by (Some p) e (inr none) = absurd (cc)

-- ---- what the topics after a message hold

-- an updated topic that lives on holds what the update leaves it
abbrev StillHeld : Data → List Topic → Topic → Type 0
StillHeld u ts t = lives_on (with_update u t) ≡ true → holds_in ts t.name ≡ is_some (with_update u t).value

held-updated : (name : List ℕ) (u : Data) (ts : List Topic) → HaveDifferentNames ts
    → IfSome (find (is_named name) ts) (StillHeld u (with_props ts name u))
held-updated name u ts apart = by (find (is_named name) ts) refl
  where
    by : (o : Option Topic) → find (is_named name) ts ≡ o → IfSome o (StillHeld u (with_props ts name u))
    by None e = tt
    by (Some t) e = λ lives.
        holds-found (with_props ts name u) t.name (with_update u t)
        (named-changed (is_named name) (λ t. if_it_lives_on (with_update u t)) ts t (with_update u t) apart e
        (ap (λ b. cond b (Some (with_update u t)) None) lives) refl)

-- the topic of a life that isn't cached holds no value
each-unheld : (lives : List Life)
    → AllByRecursion (λ (t : Topic). is_cached t.props ≡ false → t.value ≡ None) (topics lives)
each-unheld [] = tt
each-unheld (l ∷ lives) = by (is_living l) (each-unheld lives)
  where
    by : (b : Bool) → AllByRecursion (λ (t : Topic). is_cached t.props ≡ false → t.value ≡ None) (topics lives)
        → AllByRecursion (λ (t : Topic). is_cached t.props ≡ false → t.value ≡ None)
        (cons_option (cond b (Some (topic_of l)) None) (topics lives))
    by true more = (λ e. ap (option_map timed) (held-uncached l e), more)
    by false more = more

-- a topic holds a value after a put that counts where it is cached
held-after-put : (conn : ℕ) (uid : ℤ) (time : ℕ) (value : Value) (lives : List Life)
    → HaveDifferentNames (topics lives)
    → IfSome (find (has_publisher conn uid) (topics lives))
    (λ t. holds_in (with_put (topics lives) conn uid time value) t.name ≡ is_cached t.props)
held-after-put conn uid time value lives apart = by (find (has_publisher conn uid) ts) refl
  where
    ts : List Topic
    ts = topics lives

    holds : (t : Topic) → (is_cached t.props ≡ false → t.value ≡ None)
        → is_some (with_value time value t).value ≡ is_cached t.props
    holds t unheld = on (is_cached t.props) refl
      where
        on : (b : Bool) → is_cached t.props ≡ b
            → is_some (cond b (record t { value = Some (record { time = time; value = value }) }) t).value ≡ b
        on true e = refl
        on false e = ap is_some (unheld e)

    name : (t : Topic) (b : Bool)
        → (cond b (record t { value = Some (record { time = time; value = value }) }) t).name ≡ t.name
    name t true = refl
    name t false = refl

    by : (o : Option Topic) → find (has_publisher conn uid) ts ≡ o
        → IfSome o (λ t. holds_in (with_put ts conn uid time value) t.name ≡ is_cached t.props)
    by None e = tt
    by (Some t) e =
        holds-found (with_put ts conn uid time value) t.name (with_value time value t)
        (named-changed (has_publisher conn uid) (λ t. Some (with_value time value t)) ts t (with_value time value t)
        apart e refl (name t (is_cached t.props)))
        ∙ holds t
        (found-each (λ (t : Topic). is_cached t.props ≡ false → t.value ≡ None) (has_publisher conn uid) ts t
        (each-unheld lives) e)

-- ---- messages that count

module _ (place : ℕ) (lives : List Life) (numbered : IsNumberedLives 1 lives)
    (few : length lives ≤ last_id) where
  -- a put that counts is taken at its place, where its topic is cached
  pub taken-put-at : (conn : ℕ) (uid : ℤ) (time : ℕ) (value : Value) (ts : List Topic) → 1 ≤ place
      → put_cause (topics lives) conn uid time value ≡ None
      → IfSome (find (has_publisher conn uid) (topics lives)) (λ t. holds_in ts t.name ≡ is_cached t.props)
      → places
      (at_living (has_publisher conn uid)
      (with_a_put (record { place = place; time = time; value = value })) lives)
      ≡ taken_after place ts (if_found (put_change time value) (find (has_publisher conn uid) (topics lives)))
      (places lives)
  taken-put-at conn uid time value ts real e holds =
      taken-at (has_publisher conn uid) (with_a_put p) place ts (put_change time value)
      (λ o. (put_cause_at conn uid time value o ≡ None) × IfSome o (λ t. holds_in ts t.name ≡ is_cached t.props))
      (put-later place time value ts) same 1 lives numbered
      (omega arith) (e, holds)
    where
      p : Put
      p = record { place = place; time = time; value = value }

      same : (l : Life) (xs : List Taken) → is_living l ≡ true
          → (put_cause_at conn uid time value (Some (topic_of l)) ≡ None) × (holds_in ts l.name ≡ is_cached l.props)
          → l.id ≤ last_id → AreAbove l.id xs
          → taken_after place ts (put_change time value (topic_of l)) (cons_option (held_place l) xs)
          ≡ cons_option (held_place (with_a_put p l)) xs
      same l xs living counts small above =
          put-is place time value ts (topic_of l) (cons_option (held_place l) xs) small
          ∙ ap (λ b. cond b (with_taken l.id place (cons_option (held_place l) xs)) (cons_option (held_place l) xs))
          counts.1
          ∙ by (is_cached l.props) refl
        where
          now_held : held_of (with_a_put p l) ≡ cond (is_cached l.props) (Some p) None
          now_held = held-put p l (counts-newer conn uid time value (topic_of l) counts.0)

          by : (b : Bool) → is_cached l.props ≡ b
              → cond b (with_taken l.id place (cons_option (held_place l) xs)) (cons_option (held_place l) xs)
              ≡ cons_option (held_place (with_a_put p l)) xs
          by true c =
              let after : ltb 0 place ≡ true = grind (arith, nat_tests) in
              let held : held_place (with_a_put p l) ≡ Some (record { topic = l.id; place = place }) =
              held-living (with_a_put p l) living
              ∙ ap (λ o. taken_place l.id o) (now_held ∙ ap (λ b. cond b (Some p) None) c)
              ∙ ap (λ b. cond b (Some (record { topic = l.id; place = place })) None) after
              in
              with-first l.id place (held_place l) xs (held-of l) above
              ∙ sym (ap (λ o. cons_option o xs) held)
          by false c =
              ap (λ o. cons_option o xs)
              (sym (same-held l (with_a_put p l) refl refl
              (now_held ∙ ap (λ b. cond b (Some p) None) c ∙ sym (held-uncached l c))))

  -- one that is older isn't
  pub taken-older-at : (conn : ℕ) (uid : ℤ) (p : Put) → put_cause (topics lives) conn uid p.time p.value
      ≡ Some Older
      → places (at_living (has_publisher conn uid) (with_a_put p) lives)
      ≡ places lives
  taken-older-at conn uid p e =
      taken-at (has_publisher conn uid) (with_a_put p) place [] (λ t. [])
      (λ o. put_cause_at conn uid p.time p.value o ≡ Some Older) (untold-later place [])
      (λ l xs living older small above.
      let held = held-older p l (refused-older conn uid p.time p.value (topic_of l) older) in
      ap (λ o. cons_option o xs) (sym (same-held l (with_a_put p l) refl refl held)))
      1 lives numbered (omega arith) e
      ∙ ap (λ cs. taken_after place [] cs (places lives))
      (told-none (find (has_publisher conn uid) (topics lives)))

  -- a publish of a living topic takes no value
  taken-joined : (name : List ℕ) (p : Pub)
      → places (at_living (is_named name) (with_publishing place p) lives)
      ≡ places lives
  taken-joined name p =
      taken-at (is_named name) (with_publishing place p) place [] (λ t. []) (λ o. Unit {0}) (untold-later place [])
      (λ l xs living u small above.
      ap (λ o. cons_option o xs) (sym (same-held l (with_publishing place p l) refl refl refl)))
      1 lives numbered (omega arith) tt
      ∙ ap (λ cs. taken_after place [] cs (places lives))
      (told-none (find (is_named name) (topics lives)))

  taken-left : (conn : ℕ) (uid : ℤ) (ts : List Topic)
      → places (at_living (has_publisher conn uid) (λ l. or_ended place (without_publisher conn uid l)) lives)
      ≡ taken_after place ts
      (if_found (λ t. end_of (topic_without_publisher conn uid t))
      (find (has_publisher conn uid) (topics lives))) (places lives)
  taken-left conn uid ts =
      taken-at (has_publisher conn uid) (λ l. or_ended place (without_publisher conn uid l)) place ts
      (λ t. end_of (topic_without_publisher conn uid t)) (λ o. Unit {0})
      (end-later place ts (topic_without_publisher conn uid) (λ t. refl))
      (λ l xs living u small above.
      let left = without_publisher conn uid l in
      end-here place ts l left xs refl (same-held l left refl refl refl) small above)
      1 lives numbered (omega arith) tt

  -- a change of properties keeps the place of a topic that lives on where its value is still held
  taken-updated : (conn : ℕ) (name : List ℕ) (u : Data) (ts : List Topic)
      → IfSome (find (is_named name) (topics lives)) (StillHeld u ts)
      → places (at_living (is_named name) (λ l. or_ended place (with_setting place conn u l)) lives)
      ≡ taken_after place ts (if_found (update_change u) (find (is_named name) (topics lives)))
      (places lives)
  taken-updated conn name u ts holds =
      taken-at (is_named name) (λ l. or_ended place (with_setting place conn u l)) place ts (update_change u)
      (λ o. IfSome o (StillHeld u ts))
      (update-later place u ts) same 1 lives numbered (omega arith) holds
    where
      same : (l : Life) (xs : List Taken) → is_living l ≡ true → StillHeld u ts (topic_of l)
          → l.id ≤ last_id → AreAbove l.id xs
          → taken_after place ts (update_change u (topic_of l)) (cons_option (held_place l) xs)
          ≡ cons_option (held_place (or_ended place (with_setting place conn u l))) xs
      same l xs living still small above =
          ap (taken_after place ts (end_of (with_update u (topic_of l))))
          (props-is place u ts (topic_of l) old small)
          ∙ by (lives_on (with_update u (topic_of l))) refl
          ∙ ap (λ b. cons_option (held_place (cond b m (record m { over = Some place }))) xs)
          (sym (ap lives_on (setting-topic place conn u l)))
        where
          m : Life
          m = with_setting place conn u l

          old : List Taken
          old = cons_option (held_place l) xs

          id : m.id ≡ l.id
          id = setting-id place conn u l

          value-is : (with_update u (topic_of l)).value ≡ option_map timed (held_of m)
          value-is = ap (λ (t : Topic). t.value) (sym (setting-topic place conn u l))

          by : (b : Bool) → lives_on (with_update u (topic_of l)) ≡ b
              → taken_after place ts (cond b [] (ended (with_update u (topic_of l)) ∷ []))
              (cond (holds_in ts l.name) old (without_taken l.id old))
              ≡ cons_option (held_place (cond b m (record m { over = Some place }))) xs
          by true e =
              ap (λ b. cond b old (without_taken l.id old)) (still e ∙ ap is_some value-is)
              ∙ kept-place l m xs id (setting-over place conn u l) (setting-keeps place conn u l) above
          by false e =
              ended-is place ts (with_update u (topic_of l)) (cond (holds_in ts l.name) old (without_taken l.id old))
              small
              ∙ gone (holds_in ts l.name)
              ∙ sym (ap (λ o. cons_option o xs) (held-over (record m { over = Some place }) refl))
            where
              first : without_taken l.id old ≡ xs
              first = without-first l.id (held_place l) xs (held-of l) above

              gone : (b : Bool) → without_taken l.id (cond b old (without_taken l.id old)) ≡ xs
              gone true = first
              gone false = ap (without_taken l.id) first ∙ without-above l.id xs above

-- a life that begins has no value
taken-began : (l : Life) → held_place l ≡ None → (lives : List Life)
    → places (lives ++ l ∷ []) ≡ places lives
taken-began l e [] = ap (λ o. cons_option o []) e
taken-began l e (m ∷ lives) = ap (λ ts. cons_option (held_place m) ts) (taken-began l e lives)

-- a message that counts does to the lives what its changes do to the places
pub taken-said-are : (place : ℕ) (lives : List Life) (subs : Subs) (conn : ℕ) (m : Msg)
    → IsNumberedLives 1 lives → HasOneName lives
    → length lives ≤ last_id → 1 ≤ place → said_cause (topics lives) (length lives + 1) subs conn m ≡ None
    → places (lives_after place lives conn m)
    ≡ taken_after place (topics_said (topics lives) (length lives + 1) conn m)
    (changes_said (topics lives) (length lives + 1) conn m) (places lives)
taken-said-are place lives subs conn (msg.Control (Publish name uid typ props)) numbered named few real e =
    by (list_any (is_named name) (topics lives))
  where
    p : Pub
    p = record { conn = conn; uid = uid; typ = typ }

    new : Life
    new = born place (length lives + 1) name typ props p

    ts : List Topic
    ts = topics_said (topics lives) (length lives + 1) conn (msg.Control (Publish name uid typ props))

    unheld : held_place new ≡ None
    unheld = held_place-is new ∙ ap (λ o. taken_place new.id o) (held-none new refl)

    by : (b : Bool)
        → places (cond b (at_living (is_named name) (with_publishing place p) lives) (lives ++ new ∷ []))
        ≡ taken_after place ts (cond b [] (Started (pos (length lives + 1)) name typ props ∷ []))
        (places lives)
    by true = taken-joined place lives numbered few name p
    by false = taken-began new unheld lives
taken-said-are place lives subs conn (msg.Control (Unpublish uid)) numbered named few real e =
    taken-left place lives numbered few conn uid
    (topics_said (topics lives) (length lives + 1) conn (msg.Control (Unpublish uid)))
taken-said-are place lives subs conn (msg.Control (SetProps name update)) numbered named few real e =
    taken-updated place lives numbered few conn name update (with_props (topics lives) name update)
    (held-updated name update (topics lives) (names-apart lives named))
taken-said-are place lives subs conn (msg.Control (Subscribe uid sub)) numbered named few real e = refl
taken-said-are place lives subs conn (msg.Control (Unsubscribe uid)) numbered named few real e = refl
taken-said-are place lives subs conn (msg.Put v) numbered named few real e =
    taken-put-at place lives numbered few conn v.id v.time v.value
    (with_put (topics lives) conn v.id v.time v.value) real e
    (held-after-put conn v.id v.time v.value lives (names-apart lives named))

-- ---- the end of a connection

-- ends of topics that come later leave the first place
ends-later : (place : ℕ) (after : List Topic) (test : Topic → Bool) (k : ℕ) (lives : List Life) (x : Taken)
    (xs : List Taken)
    → IsNumberedLives k lives
    → x.topic < k → k + length lives ≤ suc last_id
    → taken_after place after (map ended (filter test (topics lives))) (x ∷ xs)
    ≡ x ∷ taken_after place after (map ended (filter test (topics lives))) xs
ends-later place after test k [] x xs n less few = refl
ends-later place after test k (l ∷ lives) x xs n less few =
    by (λ xs. ends-later place after test (suc k) lives x xs n.1 (omega arith) (omega arith)) (is_living l) xs
  where
    rest : List Change
    rest = map ended (filter test (topics lives))

    id : l.id ≡ k
    id = n.0

    on : ((xs : List Taken) → taken_after place after rest (x ∷ xs) ≡ x ∷ taken_after place after rest xs)
        → (b : Bool) (xs : List Taken)
        → taken_after place after
        (map ended (cond b (topic_of l ∷ filter test (topics lives)) (filter test (topics lives)))) (x ∷ xs)
        ≡ x ∷ taken_after place after
        (map ended (cond b (topic_of l ∷ filter test (topics lives)) (filter test (topics lives)))) xs
    on more true xs =
        ap (λ ts. taken_after place after rest ts)
        (ended-later place after (topic_of l) x xs (omega arith) (omega arith))
        ∙ more (taken_by place after (ended (topic_of l)) xs)
    on more false xs = more xs

    by : ((xs : List Taken) → taken_after place after rest (x ∷ xs) ≡ x ∷ taken_after place after rest xs)
        → (b : Bool) (xs : List Taken)
        → taken_after place after
        (map ended (filter test (cons_option (cond b (Some (topic_of l)) None) (topics lives)))) (x ∷ xs)
        ≡ x ∷ taken_after place after
        (map ended (filter test (cons_option (cond b (Some (topic_of l)) None) (topics lives)))) xs
    by more true xs = on more (test (topic_of l)) xs
    by more false xs = more xs

-- the topics that end with a connection have no place any more
pub taken-closed-are : (place conn k : ℕ) (after : List Topic) (lives : List Life) → IsNumberedLives k lives
    → k + length lives ≤ suc last_id
    → places (map (closed_for place conn) lives)
    ≡ taken_after place after (drop_changes (topics lives) conn) (places lives)
taken-closed-are place conn k after [] n few = refl
taken-closed-are place conn k after (l ∷ lives) n few =
    ap (λ ts. cons_option (held_place (closed_for place conn l)) ts)
    (taken-closed-are place conn (suc k) after lives n.1 (omega arith))
    ∙ by (is_living l) refl
  where
    xs : List Taken
    xs = places lives

    gone : Life
    gone = without_conn conn l

    rest : List Change
    rest = drop_changes (topics lives) conn

    id : l.id ≡ k
    id = n.0

    above : AreAbove l.id xs
    above = above-held l.id (suc k) lives (omega arith) n.1

    same : held_place gone ≡ held_place l
    same = same-held l gone refl refl refl

    pass : (o : Option Taken) → IsOf l.id o → cons_option o (taken_after place after rest xs)
        ≡ taken_after place after rest (cons_option o xs)
    pass None e = refl
    pass (Some x) e =
        let topic : x.topic ≡ l.id = e in
        sym (ends-later place after (λ t. not (outlives conn t)) (suc k) lives x xs n.1 (omega arith) (omega arith))

    stays : cons_option (held_place gone) (taken_after place after rest xs)
        ≡ taken_after place after rest (cons_option (held_place l) xs)
    stays = ap (λ o. cons_option o (taken_after place after rest xs)) same ∙ pass (held_place l) (held-of l)

    on : (has lives_on : Bool)
        → cons_option (held_place (cond has (cond lives_on gone (record gone { over = Some place })) gone))
        (taken_after place after rest xs)
        ≡ taken_after place after
        (map ended
        (cond (not (not has || lives_on)) (topic_of l ∷ filter (λ t. not (outlives conn t)) (topics lives))
        (filter (λ t. not (outlives conn t)) (topics lives)))) (cons_option (held_place l) xs)
    on true true = stays
    on true false =
        ap (λ o. cons_option o (taken_after place after rest xs))
        (held-over (record gone { over = Some place }) refl)
        ∙ sym (ap (λ ts. taken_after place after rest ts)
        (ended-first place after (topic_of l) (held_place l) xs (omega arith) (held-of l) above))
    on false lives_on = stays

    by : (b : Bool) → is_living l ≡ b
        → cons_option (held_place (cond (b && has_conn conn (topic_of l)) (or_ended place gone) gone))
        (taken_after place after rest xs)
        ≡ taken_after place after (drop_changes (cons_option (cond b (Some (topic_of l)) None) (topics lives)) conn)
        (cons_option (held_place l) xs)
    by true e = on (has_conn conn (topic_of l)) (lives_on (topic_of gone))
    by false e = stays
