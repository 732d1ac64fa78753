-- What is kept of client topics, before and after what happens to the lives at the next place.
use Rattle.std.proofs.Common.{◌≡◌, ◌<◌, ◌≤◌, ◌+◌, ◌^◌, ◌==◌, ◌&&◌, ℕ, ℤ, pos, Bool, true, false, cond, ltb, leb, List}
use Rattle.std.proofs.Common.{[], ◌∷◌, Option, Some, None, refl, sym, ◌∙◌, ap, subst, arith}
use Rattle.std.specs.Prelude.{option_map}
use Rattle.std.specs.List.{find}
use Rattle.std.proofs.lemmas.Bool.{and_parts}
use Rattle.std.proofs.lemmas.Bool.Decides.{nat_tests}
use Rattle.nt_values.specs.declared.value.Value.{Value}
use Rattle.nt_topics.specs.Properties.{is_cached}
use Rattle.nt_subs.specs.declared.wish.Wanted.{Wanted}
use Rattle.nt_rules.specs.Limits.{first_meta}
use Rattle.nt_rules.specs.declared.topic.Pub.{Pub}
use Rattle.nt_rules.specs.declared.topic.Topic.{Topic}
use Rattle.nt_rules.specs.declared.topic.Change.TheVariants as change
use Rattle.nt_rules.specs.declared.topic.Cause.TheVariants.{Older}
use Rattle.nt_rules.specs.topics.Puts.{Put}
use Rattle.nt_rules.specs.topics.Topics.{has_publisher, lives_on, put_cause, put_cause_at}
use Rattle.nt_rules.specs.topics.Changes.{if_found, put_change, put_changes, end_of, unpublish_changes}
use Rattle.nt_rules.specs.topics.Topics as table
use Rattle.nt_rules.specs.outbox.Marks.{Mark}
use Rattle.nt_rules.specs.outbox.Keys.{Key, is_in, end_key, next_value}
use Rattle.nt_rules.specs.outbox.Marks.{fresh, is_blank, noted_value, ended}
use Rattle.nt_rules.specs.outbox.Calls.{id_of}
use Rattle.nt_rules.specs.history.Lives.{Life, is_living, topic_of, topics, taken_since_turn, at_first, at_living}
use Rattle.nt_rules.specs.history.Lives.{or_ended}
use Rattle.nt_rules.specs.history.Lives.{with_a_put, without_publisher}
use Rattle.nt_rules.specs.history.Owed.{Account, life_at, place_by}
use Rattle.nt_rules.specs.history.Marks.{topic_mark, end_mark, waiting_put}
use Rattle.nt_laws.proofs.histories.Facts.{id-or_ended, AllBefore, before-since, IsNumberedLives, ArePlaced, IsPlaced}
use Rattle.nt_laws.proofs.histories.Facts.{placed-find}
use Rattle.nt_laws.proofs.topics.TakenPuts.{since-put, since-older}
use Rattle.nt_laws.proofs.topics.TopicLaws.{counts-newer, refused-older}
use Rattle.nt_laws.proofs.marks.MarksById.{keep_opt, or_fresh, kept_of, AreRising, blank-fresh}
use Rattle.nt_laws.proofs.outboxes.OutboxCalls.{Op, is_id, is_at, step_at, run_at, NoneAt, none-at, change_op}
use Rattle.nt_laws.proofs.outboxes.OutboxCalls.{change_ops}
use Rattle.nt_laws.proofs.marks.MarkLaws.{counts, Agree, IsUnheard, mark-same, end-same, mark-put, mark-ended}
use Rattle.nt_laws.proofs.topics.FoundLives.{rising-numbered, first-none, found-passes, found-at, life-first}
use Rattle.nt_laws.proofs.topics.FoundLives.{find-topics}

-- ---- what is kept of a client topic

-- the place of the wish that counts for a life, by that for cached topics and that for others
abbrev pub since_of : (Bool → List ℕ → ℕ) → Life → ℕ
since_of since l = since (is_cached l.props) l.name

abbrev pub client_mark : Account → ℕ → (List ℕ → Wanted) → (Bool → List ℕ → ℕ) → Life → Mark
client_mark a conn wish since l =
    cond (is_living l) (topic_mark a conn (wish l.name) (since_of since l) l) (end_mark a l)

-- what is found at an id
abbrev pub client_at : Account → ℕ → (List ℕ → Wanted) → (Bool → List ℕ → ℕ) → ℕ → List Life → Option Mark
client_at a conn wish since k lives = kept_of (client_mark a conn wish since) (life_at k lives)

-- the accounts before and after an entry that hands nothing, and the lives before it, at the place n
pub record Scene (n : ℕ) (a b : Account) (since : Bool → List ℕ → ℕ) (lives : List Life) : Type 0 where
  pub agree : Agree n a b
  pub numbered : IsNumberedLives 1 lives
  pub placed : ArePlaced n lives
  pub not_given : (k : Key) → k.place ≡ n + 1 → is_in a.given k ≡ false
  pub next_low : (id : ℕ) → next_value a.given id ≤ n + 1
  pub since_low : (cached : Bool) (name : List ℕ) → since cached name ≤ n
  pub unheard : (k : ℕ) → k < first_meta → life_at k lives ≡ None → IsUnheard k a

-- the wishes stay: where it counts the place since which it is that stays too
abbrev pub SameSince : (List ℕ → Wanted) → (Bool → List ℕ → ℕ) → (Bool → List ℕ → ℕ) → Type 0
SameSince wish since now =
    (cached : Bool) (name : List ℕ) → counts cached (wish name) ≡ true → now cached name ≡ since cached name

-- ---- steps

-- a mark that was kept, or the blank one
or-fresh-kept : (k : ℕ) (name : List ℕ) (m : Mark) → m.id ≡ k → m.name ≡ name → or_fresh k name (keep_opt m)
    ≡ m
or-fresh-kept k name m id same = by (is_blank m) refl
  where
    by : (b : Bool) → is_blank m ≡ b → or_fresh k name (cond b None (Some m)) ≡ m
    by true e =
        sym (blank-fresh m e ∙ ap (λ i. fresh i m.name) id ∙ ap (λ nm. fresh k nm) same)
    by false e = refl

-- a change at the mark's id
pub step-kept : (k : ℕ) (o : Op) (m : Mark) → is_at k o ≡ true → m.id ≡ k → m.name ≡ o.name
    → step_at k o (keep_opt m) ≡ keep_opt (o.f m)
step-kept k o m at id name =
    ap (λ b. cond b (keep_opt (o.f (or_fresh k o.name (keep_opt m)))) (keep_opt m)) at
    ∙ ap (λ x. keep_opt (o.f x)) (or-fresh-kept k o.name m id name)

-- the numbers of topics below the first meta topic are ids
pub number-id : (n k : ℕ) → k < first_meta → (n == k) ≡ true → is_id k (id_of (pos n)) ≡ true
number-id n k low e =
    let less : ltb n (2 ^ 32) ≡ true = grind (arith, nat_tests) in
    let back : (k == n) ≡ true = grind (arith, nat_tests) in
    ap (λ b. is_id k (cond b (Some n) None)) less ∙ back

pub other-id : (n k : ℕ) → (n == k) ≡ false → is_id k (id_of (pos n)) ≡ false
other-id n k e = by (ltb n (2 ^ 32))
  where
    by : (b : Bool) → is_id k (cond b (Some n) None) ≡ false
    by true = grind (arith, nat_tests)
    by false = refl

-- ---- what stays

-- a life with other publishers or puts, of which the same are taken
pub client-same : (n : ℕ) (a b : Account) (conn : ℕ) (wish : List ℕ → Wanted) (since now : Bool → List ℕ → ℕ)
    → Agree n a b → SameSince wish since now
    → (l : Life) → IsPlaced n l → (pubs : List Pub) (puts : List Put)
    → taken_since_turn (record l { pubs = pubs; puts = puts }) ≡ taken_since_turn l
    → client_mark b conn wish now (record l { pubs = pubs; puts = puts })
    ≡ client_mark a conn wish since l
client-same n a b conn wish since now agree same l placed pubs puts e = by (is_living l)
  where
    by : (living : Bool)
        → cond living
        (topic_mark b conn (wish l.name) (since_of now l)
        (record l { pubs = pubs; puts = puts })) (end_mark b (record l { pubs = pubs; puts = puts }))
        ≡ cond living (topic_mark a conn (wish l.name) (since_of since l) l) (end_mark a l)
    by true = mark-same n a b agree conn (wish l.name) (since_of since l) (since_of now l) l
        (same (is_cached l.props) l.name) placed.settings_rise pubs puts e
    by false = end-same a b agree.given_are l pubs l.props puts

-- a life to which nothing happened
pub kept-stays : (n : ℕ) (a b : Account) (conn : ℕ) (wish : List ℕ → Wanted) (since now : Bool → List ℕ → ℕ)
    (lives : List Life)
    → Scene n a b since lives → SameSince wish since now → (k : ℕ) (o : Option Life) → life_at k lives ≡ o
    → kept_of (client_mark a conn wish since) o ≡ kept_of (client_mark b conn wish now) o
kept-stays n a b conn wish since now lives scene same k None e = refl
kept-stays n a b conn wish since now lives scene same k (Some l) e =
    let placed : IsPlaced n l = placed-find (λ l. l.id == k) n lives l scene.placed e in
    ap keep_opt
    (sym (client-same n a b conn wish since now scene.agree same l placed l.pubs l.puts refl))

pub client-stays : (n : ℕ) (a b : Account) (conn : ℕ) (wish : List ℕ → Wanted) (since now : Bool → List ℕ → ℕ)
    (lives : List Life)
    → Scene n a b since lives → SameSince wish since now → (k : ℕ)
    → client_at a conn wish since k lives ≡ client_at b conn wish now k lives
client-stays n a b conn wish since now lives scene same k =
    kept-stays n a b conn wish since now lives scene same k (life_at k lives) refl

-- changes at the first life that passes: at other ids nothing happens
pub client-found : (n : ℕ) (a b : Account) (conn : ℕ) (wish : List ℕ → Wanted) (since now : Bool → List ℕ → ℕ)
    (lives : List Life)
    → Scene n a b since lives → SameSince wish since now → (k : ℕ)
    → (test : Life → Bool) (f : Life → Life) → ((l : Life) → (f l).id ≡ l.id) → (m : Life) → find test lives
    ≡ Some m → (ops : List Op)
    → ((m.id == k) ≡ false → NoneAt k ops)
    → ((m.id == k) ≡ true → run_at k ops (keep_opt (client_mark a conn wish since m))
    ≡ keep_opt (client_mark b conn wish now (f m)))
    → run_at k ops (client_at a conn wish since k lives) ≡ client_at b conn wish now k (at_first test f lives)
client-found n a b conn wish since now lives scene same k test f ids m found ops apart here =
    by (m.id == k) refl
    ∙ sym (ap (λ o. kept_of (client_mark b conn wish now) o) (life-first test f ids k lives m rising found))
  where
    rising : AreRising lives
    rising = rising-numbered 1 lives scene.numbered

    by : (t : Bool) → (m.id == k) ≡ t
        → run_at k ops (client_at a conn wish since k lives)
        ≡ kept_of (client_mark b conn wish now) (cond t (Some (f m)) (life_at k lives))
    by true e =
        let id : k ≡ m.id = grind (arith, nat_tests) in
        let at : life_at k lives ≡ Some m =
        ap (λ i. life_at i lives) id ∙ found-at test lives m rising found in
        ap (λ o. run_at k ops (kept_of (client_mark a conn wish since) o)) at ∙ here e
    by false e =
        none-at k ops (client_at a conn wish since k lives) (apart e)
        ∙ client-stays n a b conn wish since now lives scene same k

-- where none passes, nothing happens
pub client-none : (n : ℕ) (a b : Account) (conn : ℕ) (wish : List ℕ → Wanted) (since now : Bool → List ℕ → ℕ)
    (lives : List Life)
    → Scene n a b since lives → SameSince wish since now → (k : ℕ) (test : Life → Bool) (f : Life → Life)
    → find test lives ≡ None
    → client_at a conn wish since k lives ≡ client_at b conn wish now k (at_first test f lives)
client-none n a b conn wish since now lives scene same k test f none =
    client-stays n a b conn wish since now lives scene same k
    ∙ sym (ap (λ ls. client_at b conn wish now k ls) (first-none test f lives none))

-- the mark of a life that goes on
pub living-mark : (a : Account) (conn : ℕ) (wish : List ℕ → Wanted) (since : Bool → List ℕ → ℕ) (l : Life)
    → is_living l ≡ true
    → client_mark a conn wish since l ≡ topic_mark a conn (wish l.name) (since_of since l) l
living-mark a conn wish since l e =
    ap (λ b. cond b (topic_mark a conn (wish l.name) (since_of since l) l) (end_mark a l)) e

-- ---- puts

place-by-before : (n since : ℕ) (ps : List Put) → AllBefore (n + 1) ps → place_by since ps ≤ n + 1
place-by-before n since [] h = omega arith
place-by-before n since (p ∷ ps) h = by (leb p.place since) (place-by-before n since ps h.1)
  where
    by : (b : Bool) → place_by since ps ≤ n + 1 → cond b p.place (place_by since ps) ≤ n + 1
    by true more = let less = h.0 in omega arith
    by false more = more

-- whether the topic of a put is cached
abbrev pub CachedWhere : (List ℕ → Bool) → ℕ → ℤ → List Life → Type 0
CachedWhere cached sender uid lives =
    (m : Life) → find (λ l. is_living l && has_publisher sender uid (topic_of l)) lives ≡ Some m
    → cached m.name ≡ is_cached m.props

-- a put that counts
pub client-put : (n : ℕ) (a b : Account) (conn : ℕ) (wish : List ℕ → Wanted) (since now : Bool → List ℕ → ℕ)
    (lives : List Life)
    → Scene n a b since lives → SameSince wish since now → (k : ℕ) → k < first_meta
    → (sender : ℕ) (uid : ℤ) (time : ℕ) (value : Value) → put_cause (topics lives) sender uid time value
    ≡ None
    → (cached : List ℕ → Bool) → CachedWhere cached sender uid lives
    → run_at k (change_ops (n + 1) cached wish (put_changes (topics lives) sender uid time value))
    (client_at a conn wish since k lives)
    ≡ client_at b conn wish now k
    (at_living (has_publisher sender uid)
    (with_a_put (record { place = n + 1; time = time; value = value })) lives)
client-put n a b conn wish since now lives scene same k low sender uid time value counts cached flags =
    by (find passes lives) refl
  where
    test : Topic → Bool
    test t = has_publisher sender uid t

    passes : Life → Bool
    passes l = is_living l && test (topic_of l)

    p : Put
    p = record { place = n + 1; time = time; value = value }

    ops : Option Life → List Op
    ops o = change_ops (n + 1) cached wish (if_found (put_change time value) (option_map topic_of o))

    Goal : List Op → Type 0
    Goal ops =
        run_at k ops (client_at a conn wish since k lives)
        ≡ client_at b conn wish now k (at_first passes (with_a_put p) lives)

    here : (m : Life) → find passes lives ≡ Some m → (m.id == k) ≡ true
        → run_at k (ops (Some m)) (keep_opt (client_mark a conn wish since m))
        ≡ keep_opt (client_mark b conn wish now (with_a_put p m))
    here m found e =
        let living : is_living m ≡ true =
        (and_parts (is_living m) (test (topic_of m)) (found-passes passes lives m found)).0 in
        let placed : IsPlaced n m = placed-find passes n lives m scene.placed found in
        let first : find test (topics lives) ≡ Some (topic_of m) =
        find-topics test lives ∙ ap (λ o. option_map topic_of o) found in
        let newer =
        counts-newer sender uid time value (topic_of m)
        (ap (λ o. put_cause_at sender uid time value o) (sym first) ∙ counts) in
        let id : m.id ≡ k = grind (arith, nat_tests) in
        let low_since = scene.since_low (is_cached m.props) m.name in
        let before : Mark = topic_mark a conn (wish m.name) (since_of since m) m in
        ap (λ x. run_at k (ops (Some m)) (keep_opt x)) (living-mark a conn wish since m living)
        ∙ step-kept k (change_op (n + 1) cached wish (change.Changed (pos m.id) m.name time value))
        before (number-id m.id k low e) id refl
        ∙ ap (λ c. keep_opt (noted_value (waiting_put p) c (wish m.name) before)) (flags m found)
        ∙ ap keep_opt
        (sym (mark-put a conn (wish m.name) (since_of since m) m p (scene.next_low m.id) (omega arith)
        (since-put p m newer)
        (place-by-before n (since_of since m) (taken_since_turn m) (before-since (n + 1) m placed.puts_before))
        placed.puts_before)
        ∙ sym (mark-same n a b scene.agree conn (wish m.name) (since_of since m) (since_of now m)
        (with_a_put p m) (same (is_cached m.props) m.name) placed.settings_rise m.pubs (p ∷ m.puts) refl)
        ∙ sym (living-mark b conn wish now (with_a_put p m) living))

    by : (o : Option Life) → find passes lives ≡ o
        → Goal (change_ops (n + 1) cached wish (put_changes (topics lives) sender uid time value))
    by o found =
        subst (λ t. Goal (change_ops (n + 1) cached wish (if_found (put_change time value) t)))
        (sym (find-topics test lives ∙ ap (λ o. option_map topic_of o) found)) (at o found)
      where
        at : (o : Option Life) → find passes lives ≡ o → Goal (ops o)
        at None found = client-none n a b conn wish since now lives scene same k passes (with_a_put p) found
        at (Some m) found =
            client-found n a b conn wish since now lives scene same k passes (with_a_put p)
            (λ l. refl) m found (ops (Some m))
            (λ e. (other-id m.id k e, tt)) (here m found)

-- a put that is older leaves what is kept
pub client-older : (n : ℕ) (a b : Account) (conn : ℕ) (wish : List ℕ → Wanted) (since now : Bool → List ℕ → ℕ)
    (lives : List Life)
    → Scene n a b since lives → SameSince wish since now → (k : ℕ)
    → (sender : ℕ) (uid : ℤ) (time : ℕ) (value : Value) → put_cause (topics lives) sender uid time value
    ≡ Some Older
    → client_at a conn wish since k lives
    ≡ client_at b conn wish now k
    (at_living (has_publisher sender uid)
    (with_a_put (record { place = n + 1; time = time; value = value })) lives)
client-older n a b conn wish since now lives scene same k sender uid time value older =
    by (find passes lives) refl
  where
    passes : Life → Bool
    passes l = is_living l && has_publisher sender uid (topic_of l)

    p : Put
    p = record { place = n + 1; time = time; value = value }

    here : (m : Life) → find passes lives ≡ Some m → keep_opt (client_mark a conn wish since m)
        ≡ keep_opt (client_mark b conn wish now (with_a_put p m))
    here m found =
        let placed : IsPlaced n m = placed-find passes n lives m scene.placed found in
        let first : find (has_publisher sender uid) (topics lives) ≡ Some (topic_of m) =
        find-topics (has_publisher sender uid) lives ∙ ap (λ o. option_map topic_of o) found in
        let old = refused-older sender uid time value (topic_of m)
        (ap (λ o. put_cause_at sender uid time value o) (sym first) ∙ older) in
        ap keep_opt
        (sym (client-same n a b conn wish since now scene.agree same m placed m.pubs
        (p ∷ m.puts) (since-older p m old)))

    by : (o : Option Life) → find passes lives ≡ o → client_at a conn wish since k lives
        ≡ client_at b conn wish now k (at_first passes (with_a_put p) lives)
    by None found = client-none n a b conn wish since now lives scene same k passes (with_a_put p) found
    by (Some m) found =
        client-found n a b conn wish since now lives scene same k passes (with_a_put p)
        (λ l. refl) m found [] (λ e. tt) (λ e. here m found)

-- ---- ends

-- the change by which an outbox is told an end
abbrev pub end_op : ℕ → Life → Op
end_op place l = record { id = id_of (pos l.id); name = l.name; f = ended place }

-- the ends that are told of a life at a place, where it doesn't live on
abbrev pub end_ops : ℕ → Life → List Op
end_ops place l = cond (lives_on (topic_of l)) [] (end_op place l ∷ [])

pub ends-are : (place : ℕ) (cached : List ℕ → Bool) (wish : List ℕ → Wanted) (l : Life)
    → change_ops place cached wish (end_of (topic_of l)) ≡ end_ops place l
ends-are place cached wish l = by (lives_on (topic_of l))
  where
    by : (b : Bool) → change_ops place cached wish (cond b [] (change.Ended (pos l.id) l.name ∷ []))
        ≡ cond b [] (end_op place l ∷ [])
    by true = refl
    by false = refl

-- a life that ends unless it lives on, where its mark before the end is known
pub client-ended : (n : ℕ) (a b : Account) (conn : ℕ) (wish : List ℕ → Wanted) (now : Bool → List ℕ → ℕ) (k : ℕ)
    → k < first_meta
    → (m : Life) (x : Mark) → (m.id == k) ≡ true → is_living m ≡ true
    → x ≡ topic_mark b conn (wish m.name) (since_of now m) m
    → is_in b.given (end_key m.id (n + 1)) ≡ false
    → run_at k (end_ops (n + 1) m) (keep_opt x)
    ≡ keep_opt (client_mark b conn wish now (or_ended (n + 1) m))
client-ended n a b conn wish now k low m x e living same new = by (lives_on (topic_of m))
  where
    over : Life
    over = record m { over = Some (n + 1) }

    by : (on : Bool) → run_at k (cond on [] (end_op (n + 1) m ∷ [])) (keep_opt x)
        ≡ keep_opt (client_mark b conn wish now (cond on m over))
    by true = ap keep_opt (same ∙ sym (living-mark b conn wish now m living))
    by false =
        let id : m.id ≡ k = grind (arith, nat_tests) in
        ap (λ x. run_at k (end_op (n + 1) m ∷ []) (keep_opt x)) same
        ∙ step-kept k (end_op (n + 1) m) (topic_mark b conn (wish m.name) (since_of now m) m)
        (number-id m.id k low e) id refl
        ∙ ap keep_opt
        (sym (mark-ended b b refl conn (wish m.name) (since_of now m) m over (n + 1) refl refl refl new))

pub none-ended : (place : ℕ) (k : ℕ) (m : Life) → (m.id == k) ≡ false → NoneAt k (end_ops place m)
none-ended place k m e = by (lives_on (topic_of m))
  where
    by : (on : Bool) → NoneAt k (cond on [] (end_op place m ∷ []))
    by true = tt
    by false = (other-id m.id k e, tt)

-- a publisher goes
pub client-unpublished : (n : ℕ) (a b : Account) (conn : ℕ) (wish : List ℕ → Wanted)
    (since now : Bool → List ℕ → ℕ) (lives : List Life)
    → Scene n a b since lives → SameSince wish since now → (k : ℕ) → k < first_meta
    → (sender : ℕ) (uid : ℤ) (cached : List ℕ → Bool)
    → run_at k (change_ops (n + 1) cached wish (unpublish_changes (topics lives) sender uid))
    (client_at a conn wish since k lives)
    ≡ client_at b conn wish now k
    (at_living (has_publisher sender uid) (λ l. or_ended (n + 1) (without_publisher sender uid l)) lives)
client-unpublished n a b conn wish since now lives scene same k low sender uid cached = by (find passes lives) refl
  where
    passes : Life → Bool
    passes l = is_living l && has_publisher sender uid (topic_of l)

    left : Life → Life
    left l = without_publisher sender uid l

    Goal : List Op → Type 0
    Goal ops =
        run_at k ops (client_at a conn wish since k lives)
        ≡ client_at b conn wish now k (at_first passes (λ l. or_ended (n + 1) (left l)) lives)

    here : (m : Life) → find passes lives ≡ Some m → (m.id == k) ≡ true
        → run_at k (end_ops (n + 1) (left m)) (keep_opt (client_mark a conn wish since m))
        ≡ keep_opt (client_mark b conn wish now (or_ended (n + 1) (left m)))
    here m found e =
        let living : is_living m ≡ true =
        (and_parts (is_living m) (has_publisher sender uid (topic_of m))
        (found-passes passes lives m found)).0 in
        let placed : IsPlaced n m = placed-find passes n lives m scene.placed found in
        client-ended n a b conn wish now k low (left m) (client_mark a conn wish since m) e living
        (living-mark a conn wish since m living
        ∙ sym (mark-same n a b scene.agree conn (wish m.name) (since_of since m) (since_of now m) m
        (same (is_cached m.props) m.name) placed.settings_rise (left m).pubs m.puts refl))
        (ap (λ g. is_in g (end_key m.id (n + 1))) scene.agree.given_are
        ∙ scene.not_given (end_key m.id (n + 1)) refl)

    at : (o : Option Life) → find passes lives ≡ o
        → Goal (change_ops (n + 1) cached wish
        (if_found (λ t. end_of (table.without_publisher sender uid t)) (option_map topic_of o)))
    at None found =
        client-none n a b conn wish since now lives scene same k passes (λ l. or_ended (n + 1) (left l)) found
    at (Some m) found =
        subst Goal (sym (ends-are (n + 1) cached wish (left m)))
        (client-found n a b conn wish since now lives scene same k passes (λ l. or_ended (n + 1) (left l))
        (λ l. id-or_ended (n + 1) (left l)) m found
        (end_ops (n + 1) (left m)) (none-ended (n + 1) k (left m)) (here m found))

    by : (o : Option Life) → find passes lives ≡ o
        → Goal (change_ops (n + 1) cached wish (unpublish_changes (topics lives) sender uid))
    by o found =
        subst (λ t. Goal
        (change_ops (n + 1) cached wish (if_found (λ t. end_of (table.without_publisher sender uid t)) t)))
        (sym (find-topics (has_publisher sender uid) lives ∙ ap (λ o. option_map topic_of o) found))
        (at o found)
