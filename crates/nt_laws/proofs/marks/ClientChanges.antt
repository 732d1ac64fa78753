-- Publishes and changes of properties do to what is kept of client topics what the calls of an outbox do.
use Rattle.std.proofs.Common.{◌≡◌, ◌<◌, ◌+◌, ◌==◌, ◌||◌, not, ℕ, pos, Bool, true, false, cond, List, [], ◌∷◌, ◌++◌}
use Rattle.std.proofs.Common.{Option, Some, None, map, filter, length, refl, sym, ◌∙◌, ap, subst, arith}
use Rattle.std.specs.Prelude.{option_map, bytes_eq}
use Rattle.std.specs.Option.{option_or}
use Rattle.std.specs.List.{list_any, find}
use Rattle.std.proofs.lemmas.Bool.{and_parts}
use Rattle.std.proofs.lemmas.Bool.Decides.{nat_tests}
use Rattle.std.proofs.lemmas.List.Folds.{find-append}
use Rattle.std.proofs.lemmas.Slice.Eq.{bytes_eq-Decides}
use Rattle.serde_json.specs.Data.{Data}
use Rattle.nt_topics.specs.Properties.{updated, is_cached}
use Rattle.nt_control.specs.declared.message.ClientMsg.TheVariants.{SetProps}
use Rattle.nt_subs.specs.declared.wish.Wanted.{Wanted}
use Rattle.nt_subs.specs.declared.wish.Wanted.TheVariants.{No}
use Rattle.nt_rules.specs.Limits.{first_meta}
use Rattle.nt_rules.proofs.Positions.{find-none}
use Rattle.nt_rules.specs.declared.topic.Pub.{Pub}
use Rattle.nt_rules.specs.declared.topic.Change.TheVariants as change
use Rattle.nt_rules.specs.topics.Puts.{timed}
use Rattle.nt_rules.specs.topics.Topics.{is_named, lives_on, is_turned}
use Rattle.nt_rules.specs.topics.Changes.{if_found, end_of, update_change, update_changes}
use Rattle.nt_rules.specs.topics.Changes.{ended as topics_ended}
use Rattle.nt_rules.specs.outbox.Marks.{Mark}
use Rattle.nt_rules.specs.outbox.Keys.{is_in, end_key, publish_key, setting_key, next_value}
use Rattle.nt_rules.specs.outbox.Marks.{fresh, is_empty, is_blank, queued, turned, ended, replied_publish}
use Rattle.nt_rules.specs.outbox.Marks.{replied_setting, rewanted}
use Rattle.nt_rules.specs.declared.act.Msg.TheVariants.{Control}
use Rattle.nt_rules.specs.history.Lives.{Life, Setting, is_living, topic_of, topics, at_first, at_living, or_ended}
use Rattle.nt_rules.specs.history.Lives.{born}
use Rattle.nt_rules.specs.history.Lives.{with_publishing, with_setting}
use Rattle.nt_rules.specs.history.Owed.{Account, is_announced, owed_settings, life_at}
use Rattle.nt_rules.specs.history.Marks.{topic_mark, waiting_setting}
use Rattle.nt_rules.specs.history.State.{is_end, turned_of, turned_id}
use Rattle.nt_laws.proofs.histories.Facts.{id-or_ended, IsPlaced, placed-find}
use Rattle.nt_laws.proofs.topics.OneName.{is_called, HasOneName, called-topics}
use Rattle.nt_laws.proofs.topics.Turns.{unturned, held-none}
use Rattle.nt_laws.proofs.marks.MarksById.{keep_opt, or_fresh, kept_of, blank-fresh}
use Rattle.nt_laws.proofs.outboxes.OutboxCalls.{Op, is_at, step_at, run_at, NoneAt, none-at, change_op, change_ops}
use Rattle.nt_laws.proofs.outboxes.OutboxCalls.{turn_op, turn_ops, publish_ops, setting_ops}
use Rattle.nt_laws.proofs.marks.MarkLaws.{counts, Agree, IsUnheard, is_told, setting_pushed, turned_where, set_as}
use Rattle.nt_laws.proofs.marks.MarkLaws.{set-is}
use Rattle.nt_laws.proofs.marks.MarkLaws.{mark-ended, mark-same, mark-published, mark-joined, mark-set, mark-born}
use Rattle.nt_laws.proofs.marks.MarkLaws.{mark-born-own}
use Rattle.nt_laws.proofs.topics.FoundLives.{first-none, found-passes, find-first, find-topics, life-past}
use Rattle.nt_laws.proofs.marks.ClientMarksById.{since_of, client_mark, client_at, Scene, SameSince, step-kept}
use Rattle.nt_laws.proofs.marks.ClientMarksById.{number-id, other-id, client-stays, client-found, client-none}
use Rattle.nt_laws.proofs.marks.ClientMarksById.{living-mark, end_op}

-- ---- a publish to a topic that lives

-- another connection's is told nothing
pub client-joined : (n : ℕ) (a b : Account) (conn : ℕ) (wish : List ℕ → Wanted) (since now : Bool → List ℕ → ℕ)
    (lives : List Life)
    → Scene n a b since lives → SameSince wish since now → (k : ℕ)
    → (name : List ℕ) (p : Pub) → (p.conn == conn) ≡ false
    → client_at a conn wish since k lives
    ≡ client_at b conn wish now k (at_living (is_named name) (with_publishing (n + 1) p) lives)
client-joined n a b conn wish since now lives scene same k name p other =
    by (find (is_called name) lives) refl
  where
    f : Life → Life
    f l = with_publishing (n + 1) p l

    here : (m : Life) → find (is_called name) lives ≡ Some m → keep_opt (client_mark a conn wish since m)
        ≡ keep_opt (client_mark b conn wish now (f m))
    here m found =
        let living : is_living m ≡ true =
        (and_parts (is_living m) (bytes_eq m.name name)
        (found-passes (is_called name) lives m found)).0 in
        let placed : IsPlaced n m = placed-find (is_called name) n lives m scene.placed found in
        ap keep_opt (living-mark a conn wish since m living
        ∙ sym (mark-joined a conn (wish m.name) (since_of since m) m (n + 1) p
        (scene.not_given (publish_key m.id (n + 1)) refl) other)
        ∙ sym (mark-same n a b scene.agree conn (wish m.name) (since_of since m) (since_of now m) (f m)
        (same (is_cached m.props) m.name) placed.settings_rise (f m).pubs m.puts refl)
        ∙ sym (living-mark b conn wish now (f m) living))

    by : (o : Option Life) → find (is_called name) lives ≡ o → client_at a conn wish since k lives
        ≡ client_at b conn wish now k (at_first (is_called name) f lives)
    by None found = client-none n a b conn wish since now lives scene same k (is_called name) f found
    by (Some m) found =
        client-found n a b conn wish since now lives scene same k (is_called name) f (λ l. refl) m found []
        (λ e. tt) (λ e. here m found)

-- the connection's own is answered
pub client-joined-own : (n : ℕ) (a b : Account) (conn : ℕ) (wish : List ℕ → Wanted) (since now : Bool → List ℕ → ℕ)
    (lives : List Life)
    → Scene n a b since lives → SameSince wish since now → (k : ℕ)
    → (name : List ℕ) (p : Pub) → (p.conn == conn) ≡ true
    → run_at k
    (publish_ops (n + 1)
    (find (is_named name)
    (topics (at_living (is_named name) (with_publishing (n + 1) p) lives))) p.uid false wish)
    (client_at a conn wish since k lives)
    ≡ client_at b conn wish now k (at_living (is_named name) (with_publishing (n + 1) p) lives)
client-joined-own n a b conn wish since now lives scene same k name p own =
    by (find (is_called name) lives) refl
  where
    f : Life → Life
    f l = with_publishing (n + 1) p l

    Goal : List Op → Type 0
    Goal ops =
        run_at k ops (client_at a conn wish since k lives)
        ≡ client_at b conn wish now k (at_first (is_called name) f lives)

    ops : Option Life → List Op
    ops o = publish_ops (n + 1) (option_map topic_of (option_map f o)) p.uid false wish

    back : (m : Life) → (m.id == k) ≡ true → (k == m.id) ≡ true
    back m e = grind (arith, nat_tests)

    away : (m : Life) → (m.id == k) ≡ false → (k == m.id) ≡ false
    away m e = grind (arith, nat_tests)

    here : (m : Life) → find (is_called name) lives ≡ Some m → (m.id == k) ≡ true
        → run_at k (ops (Some m)) (keep_opt (client_mark a conn wish since m))
        ≡ keep_opt (client_mark b conn wish now (f m))
    here m found e =
        let living : is_living m ≡ true =
        (and_parts (is_living m) (bytes_eq m.name name)
        (found-passes (is_called name) lives m found)).0 in
        let placed : IsPlaced n m = placed-find (is_called name) n lives m scene.placed found in
        let id : m.id ≡ k = grind (arith, nat_tests) in
        ap (λ x. run_at k (ops (Some m)) (keep_opt x)) (living-mark a conn wish since m living)
        ∙ step-kept k
        (record {
          id = Some m.id;
          name = m.name;
          f = replied_publish
              (record { place = n + 1; uid = p.uid });
        }) (topic_mark a conn (wish m.name) (since_of since m) m)
        (back m e) id refl
        ∙ ap keep_opt
        (sym (mark-published a conn (wish m.name) (since_of since m) m (n + 1) p
        (scene.not_given (publish_key m.id (n + 1)) refl) own n (omega arith) placed.publishings_rise)
        ∙ sym (mark-same n a b scene.agree conn (wish m.name) (since_of since m) (since_of now m) (f m)
        (same (is_cached m.props) m.name) placed.settings_rise (f m).pubs m.puts refl)
        ∙ sym (living-mark b conn wish now (f m) living))

    at : (o : Option Life) → find (is_called name) lives ≡ o → Goal (ops o)
    at None found = client-none n a b conn wish since now lives scene same k (is_called name) f found
    at (Some m) found =
        client-found n a b conn wish since now lives scene same k (is_called name) f (λ l. refl) m found
        (ops (Some m)) (λ e. (away m e, tt)) (here m found)

    by : (o : Option Life) → find (is_called name) lives ≡ o
        → Goal (publish_ops (n + 1)
        (find (is_named name) (topics (at_first (is_called name) f lives))) p.uid false wish)
    by o found =
        subst (λ t. Goal (publish_ops (n + 1) t p.uid false wish))
        (sym (find-topics (is_named name) (at_first (is_called name) f lives)
        ∙ ap (λ o. option_map topic_of o) (find-first (is_called name) f (λ l. refl) lives)
        ∙ ap (λ o. option_map topic_of (option_map f o)) found)) (at o found)

-- ---- a publish that begins a topic

-- what stands at an id, where a life comes to the end of others
life-push : (k : ℕ) (lives : List Life) (l : Life) → life_at k (lives ++ l ∷ [])
    ≡ option_or (life_at k lives) (cond (l.id == k) (Some l) None)
life-push k lives l = find-append (λ l. l.id == k) lives (l ∷ [])

-- changes at the id of the new life lead from nothing to its mark
born-at : (n : ℕ) (a b : Account) (conn : ℕ) (wish : List ℕ → Wanted) (since now : Bool → List ℕ → ℕ)
    (lives : List Life)
    → Scene n a b since lives → SameSince wish since now → (k : ℕ) (l : Life) → l.id ≡ length lives + 1
    → (ops : List Op)
    → ((l.id == k) ≡ false → NoneAt k ops)
    → ((l.id == k) ≡ true → life_at k lives ≡ None → run_at k ops None
    ≡ keep_opt (client_mark b conn wish now l))
    → run_at k ops (client_at a conn wish since k lives) ≡ client_at b conn wish now k (lives ++ l ∷ [])
born-at n a b conn wish since now lives scene same k l id ops apart here =
    by (l.id == k) refl ∙ sym (ap (λ o. kept_of (client_mark b conn wish now) o) (life-push k lives l))
  where
    rest : (o : Option Life) → kept_of (client_mark b conn wish now) o
        ≡ kept_of (client_mark b conn wish now) (option_or o None)
    rest None = refl
    rest (Some m) = refl

    by : (t : Bool) → (l.id == k) ≡ t
        → run_at k ops (client_at a conn wish since k lives)
        ≡ kept_of (client_mark b conn wish now) (option_or (life_at k lives) (cond t (Some l) None))
    by true e =
        let none : life_at k lives ≡ None = life-past 1 k lives scene.numbered (grind (arith, nat_tests)) in
        ap (λ o. run_at k ops (kept_of (client_mark a conn wish since) o)) none ∙ here e none
        ∙ sym (ap (λ o. kept_of (client_mark b conn wish now) (option_or o (Some l))) none)
    by false e =
        none-at k ops (client_at a conn wish since k lives) (apart e)
        ∙ client-stays n a b conn wish since now lives scene same k ∙ rest (life_at k lives)

unheard-after : (n : ℕ) (a b : Account) → Agree n a b → (id : ℕ) → IsUnheard id a → IsUnheard id b
unheard-after n a b agree id h =
    record {
      not_announced =
          ap (λ g. is_announced (record { given = g; told_settings = []; fell = None }) id) agree.given_are
          ∙ h.not_announced;
      no_value = ap (λ g. next_value g id) agree.given_are ∙ h.no_value;
    }

pub client-born : (n : ℕ) (a b : Account) (conn : ℕ) (wish : List ℕ → Wanted) (since now : Bool → List ℕ → ℕ)
    (lives : List Life)
    → Scene n a b since lives → SameSince wish since now → (k : ℕ) → k < first_meta
    → (name typ : List ℕ) (props : Data) (p : Pub) → (p.conn == conn) ≡ false → (cached : List ℕ → Bool)
    → run_at k (change_ops (n + 1) cached wish (change.Started (pos (length lives + 1)) name typ props ∷ []))
    (client_at a conn wish since k lives)
    ≡ client_at b conn wish now k (lives ++ born (n + 1) (length lives + 1) name typ props p ∷ [])
client-born n a b conn wish since now lives scene same k low name typ props p other cached =
    born-at n a b conn wish since now lives scene same k l refl ops (λ e. (other-id l.id k e, tt)) here
  where
    l : Life
    l = born (n + 1) (length lives + 1) name typ props p

    o : Op
    o = change_op (n + 1) cached wish (change.Started (pos (length lives + 1)) name typ props)

    ops : List Op
    ops = o ∷ []

    here : (l.id == k) ≡ true → life_at k lives ≡ None → run_at k ops None
        ≡ keep_opt (client_mark b conn wish now l)
    here e none =
        let id : k ≡ l.id = grind (arith, nat_tests) in
        let unheard : IsUnheard l.id b =
        subst (λ i. IsUnheard i b) id (unheard-after n a b scene.agree k (scene.unheard k low none)) in
        ap (λ t. cond t (keep_opt (o.f (fresh k name))) None) (number-id l.id k low e)
        ∙ ap (λ i. keep_opt (o.f (fresh i name))) id
        ∙ ap keep_opt
        (sym (mark-born b conn (wish name) (now (is_cached props) name) (n + 1)
        (length lives + 1) name typ props p unheard other))

pub client-born-own : (n : ℕ) (a b : Account) (conn : ℕ) (wish : List ℕ → Wanted) (since now : Bool → List ℕ → ℕ)
    (lives : List Life)
    → Scene n a b since lives → SameSince wish since now → (k : ℕ) → k < first_meta
    → (name typ : List ℕ) (props : Data) (p : Pub) → (p.conn == conn) ≡ true
    → list_any (is_named name) (topics lives) ≡ false
    → run_at k
    (publish_ops (n + 1)
    (find (is_named name)
    (topics (lives ++ born (n + 1) (length lives + 1) name typ props p ∷ []))) p.uid true wish)
    (client_at a conn wish since k lives)
    ≡ client_at b conn wish now k (lives ++ born (n + 1) (length lives + 1) name typ props p ∷ [])
client-born-own n a b conn wish since now lives scene same k low name typ props p own new =
    subst (λ t. run_at k (publish_ops (n + 1) t p.uid true wish) (client_at a conn wish since k lives)
    ≡ client_at b conn wish now k (lives ++ l ∷ []))
    (sym found)
    (born-at n a b conn wish since now lives scene same k l refl ops (λ e. (away e, (away e, tt))) here)
  where
    l : Life
    l = born (n + 1) (length lives + 1) name typ props p

    replied : Op
    replied = record {
      id = Some l.id;
      name = name;
      f = replied_publish
          (record { place = n + 1; uid = p.uid });
    }

    wished : Op
    wished = record { id = Some l.id; name = name; f = rewanted (is_cached props) None No (wish name) }

    ops : List Op
    ops = replied ∷ wished ∷ []

    away : (l.id == k) ≡ false → (k == l.id) ≡ false
    away e = grind (arith, nat_tests)

    called : bytes_eq name name ≡ true
    called = (bytes_eq-Decides name name).1 refl

    -- it holds nothing
    found : find (is_named name) (topics (lives ++ l ∷ [])) ≡ Some (record (topic_of l) { value = None })
    found =
        find-topics (is_named name) (lives ++ l ∷ [])
        ∙ ap (λ o. option_map topic_of o) (find-append (is_called name) lives (l ∷ []))
        ∙ ap (λ o. option_map topic_of (option_or o (cond (bytes_eq name name) (Some l) None)))
        (find-none (is_called name) lives (called-topics name lives ∙ new))
        ∙ ap (λ b. option_map topic_of (cond b (Some l) None)) called
        ∙ ap (λ h. Some (record (topic_of l) { value = option_map timed h })) (held-none l refl)

    here : (l.id == k) ≡ true → life_at k lives ≡ None → run_at k ops None
        ≡ keep_opt (client_mark b conn wish now l)
    here e none =
        let id : k ≡ l.id = grind (arith, nat_tests) in
        let at : (k == l.id) ≡ true = grind (arith, nat_tests) in
        let unheard : IsUnheard l.id b =
        subst (λ i. IsUnheard i b) id (unheard-after n a b scene.agree k (scene.unheard k low none)) in
        let not_given : is_in b.given (publish_key l.id (n + 1)) ≡ false =
        ap (λ g. is_in g (publish_key l.id (n + 1))) scene.agree.given_are
        ∙ scene.not_given (publish_key l.id (n + 1)) refl
        in
        ap (λ x. run_at k (wished ∷ []) x) (step-kept k replied (fresh k name) at refl refl)
        ∙ step-kept k wished (replied.f (fresh k name)) at refl refl
        ∙ ap (λ i. keep_opt (wished.f (replied.f (fresh i name)))) id
        ∙ ap keep_opt
        (sym (mark-born-own b conn (wish name) (now (is_cached props) name) (n + 1)
        (length lives + 1) name typ props p unheard own not_given))

-- ---- a change of properties

-- a change of each item that is the same
first-same : {X : Type 0} (test : X → Bool) (f g : X → X) → ((x : X) → f x ≡ g x) → (xs : List X)
    → at_first test f xs ≡ at_first test g xs
first-same test f g same [] = refl
first-same test f g same (x ∷ xs) =
    ap (λ y. cond (test x) (y ∷ xs) (x ∷ at_first test f xs)) (same x)
    ∙ ap (λ ys. cond (test x) (g x ∷ xs) (x ∷ ys)) (first-same test f g same xs)

-- the lives after it, field by field
abbrev pub lives_set : ℕ → ℕ → List ℕ → Data → List Life → List Life
lives_set place sender name u lives =
    at_first (is_called name) (λ l. or_ended place (set_as place sender u l)) lives

pub lives-set : (place sender : ℕ) (name : List ℕ) (u : Data) (lives : List Life)
    → at_living (is_named name) (λ l. or_ended place (with_setting place sender u l)) lives
    ≡ lives_set place sender name u lives
lives-set place sender name u lives =
    first-same (is_called name) (λ l. or_ended place (with_setting place sender u l))
    (λ l. or_ended place (set_as place sender u l)) (λ l. ap (λ m. or_ended place m) (set-is place sender u l)) lives

-- the life that is found under the name after it: the same, or none where it ended
found-set : (place sender : ℕ) (u : Data) (name : List ℕ) (lives : List Life) (m : Life) → HasOneName lives
    → find (is_called name) lives ≡ Some m
    → find (is_called name) (lives_set place sender name u lives)
    ≡ cond (lives_on (topic_of (set_as place sender u m))) (Some (set_as place sender u m)) None
found-set place sender u name [] m one e = cc
found-set place sender u name (l ∷ lives) m one e =
    by (λ h. found-set place sender u name lives m one.1 h) (is_called name l) refl e
  where
    set : Life → Life
    set l = set_as place sender u l

    changed : List Life
    changed = lives_set place sender name u lives

    -- another under the same name isn't there
    alone : is_called name l ≡ true → find (is_called name) lives ≡ None
    alone t =
        let parts = and_parts (is_living l) (bytes_eq l.name name) t in
        let same : l.name ≡ name = (bytes_eq-Decides l.name name).0 parts.1 in
        find-none (is_called name) lives (ap (λ nm. list_any (is_called nm) lives) (sym same) ∙ one.0 parts.0)

    here : is_called name l ≡ true → (on : Bool)
        → find (is_called name) (cond on (set l) (record (set l) { over = Some place }) ∷ lives)
        ≡ cond on (Some (set l)) None
    here t true = ap (λ b. cond b (Some (set l)) (find (is_called name) lives)) t
    here t false = alone t

    by : (find (is_called name) lives ≡ Some m → find (is_called name) changed
        ≡ cond (lives_on (topic_of (set m))) (Some (set m)) None)
        → (b : Bool) → is_called name l ≡ b → cond b (Some l) (find (is_called name) lives) ≡ Some m
        → find (is_called name) (cond b (or_ended place (set l) ∷ lives) (l ∷ changed))
        ≡ cond (lives_on (topic_of (set m))) (Some (set m)) None
    by more true t e =
        let same : l ≡ m = cc in
        here t (lives_on (topic_of (set l)))
        ∙ ap (λ (x : Life). cond (lives_on (topic_of (set x))) (Some (set x)) None) same
    by more false t e = ap (λ b. cond b (Some l) (find (is_called name) changed)) t ∙ more e

-- whether the change is told: to its sender, where the topic was announced, and behind one that is owed
abbrev pub ToldWhere : ℕ → Account → Account → ℕ → ℕ → List ℕ → List Life → Type 0
ToldWhere place a b conn sender name lives =
    (m : Life) → find (is_called name) lives ≡ Some m → is_told b place
    ≡ ((sender == conn) || (is_announced a m.id || not (is_empty (owed_settings a m))))

-- a turn makes of a mark what it does, under whatever name
step-turn : (k : ℕ) (m : Mark) → (k == m.id) ≡ true → step_at k (turn_op m.id) (keep_opt m) ≡ keep_opt (turned m)
step-turn k m at =
    ap (λ b. cond b (keep_opt (turned (or_fresh k [] (keep_opt m)))) (keep_opt m)) at ∙ by (is_blank m) refl
  where
    by : (b : Bool) → is_blank m ≡ b
        → keep_opt (turned (or_fresh k [] (cond b None (Some m)))) ≡ keep_opt (turned m)
    by false e = refl
    by true e = sym (ap (λ x. keep_opt (turned x)) (blank-fresh m e))

module _ (n : ℕ) (a b : Account) (conn : ℕ) (wish : List ℕ → Wanted) (since now : Bool → List ℕ → ℕ)
    (lives : List Life) (scene : Scene n a b since lives) (same : SameSince wish since now) (one : HasOneName lives)
    (k : ℕ) (low : k < first_meta) (sender : ℕ) (name : List ℕ) (u : Data) where
  abbrev set : Life → Life
  set l = set_as (n + 1) sender u l

  abbrev over : Life → Life
  over l = record (set l) { over = Some (n + 1) }

  abbrev changed : List Life
  changed = lives_set (n + 1) sender name u lives

  abbrev before : Life → Mark
  before m = topic_mark a conn (wish m.name) (since_of since m) m

  abbrev turns : Life → Bool
  turns m = is_turned m.props (updated m.props u)

  -- it turns, where it goes on
  abbrev turn : Life → Bool → Option ℕ
  turn m on = turned_of (Some (topic_of m)) (option_map topic_of (cond on (Some (set m)) None))

  abbrev Goal : List Op → Type 0
  Goal ops = run_at k ops (client_at a conn wish since k lives) ≡ client_at b conn wish now k changed

  found-turn : (m : Life) → find (is_called name) lives ≡ Some m
      → turned_id (topics lives) (topics changed) (Control (SetProps name u))
      ≡ turn m (lives_on (topic_of (set m)))
  found-turn m found =
      ap (λ o. turned_of o (find (is_named name) (topics changed)))
      (find-topics (is_named name) lives ∙ ap (λ o. option_map topic_of o) found)
      ∙ ap (λ o. turned_of (Some (topic_of m)) o)
      (find-topics (is_named name) changed
      ∙ ap (λ o. option_map topic_of o) (found-set (n + 1) sender u name lives m one found))

  -- its mark after the turn and the change
  noted : (m : Life) → find (is_called name) lives ≡ Some m → ToldWhere (n + 1) a b conn sender name lives
      → topic_mark b conn (wish m.name) (since_of now (set m)) (set m)
      ≡ setting_pushed ((sender == conn) || (is_announced a m.id || not (is_empty (owed_settings a m)))) conn (n + 1)
      sender u (turned_where (turns m) (before m))
  noted m found told =
      mark-set n a b scene.agree conn (wish m.name) (since_of since m) (since_of now (set m)) m
      (placed-find (is_called name) n lives m scene.placed found).settings_rise (n + 1) sender u stays
      (scene.not_given (setting_key m.id (n + 1)) refl) (omega arith)
      ∙ ap (λ t. setting_pushed t conn (n + 1) sender u (turned_where (turns m) (before m))) (told m found)
    where
      stays : turns m ≡ false → counts (is_cached m.props) (wish m.name) ≡ true
          → since_of now (set m) ≡ since_of since m
      stays e c =
          ap (λ flag. now flag m.name) (unturned m.props (updated m.props u) e)
          ∙ same (is_cached m.props) m.name c

  -- the calls where it goes on: the turn, and then one that tells the change
  goes-on : (m : Life) (o : Op) → find (is_called name) lives ≡ Some m → (m.id == k) ≡ true
      → is_at k o ≡ true → o.name ≡ m.name
      → o.f (turned_where (turns m) (before m)) ≡ topic_mark b conn (wish m.name) (since_of now (set m)) (set m)
      → run_at k (turn_ops (turn m true) ++ o ∷ []) (keep_opt (client_mark a conn wish since m))
      ≡ keep_opt (client_mark b conn wish now (set m))
  goes-on m o found e at named tells =
      ap (λ x. run_at k (turn_ops (turn m true) ++ o ∷ []) (keep_opt x)) (living-mark a conn wish since m living)
      ∙ by (turns m) ∙ ap keep_opt (tells ∙ sym (living-mark b conn wish now (set m) living))
    where
      living : is_living m ≡ true
      living = (and_parts (is_living m) (bytes_eq m.name name) (found-passes (is_called name) lives m found)).0

      id : m.id ≡ k
      id = grind (arith, nat_tests)

      back : (k == m.id) ≡ true
      back = grind (arith, nat_tests)

      by : (t : Bool) → run_at k (turn_ops (cond t (Some m.id) None) ++ o ∷ []) (keep_opt (before m))
          ≡ keep_opt (o.f (turned_where t (before m)))
      by true =
          ap (λ x. step_at k o x) (step-turn k (before m) back)
          ∙ step-kept k o (turned (before m)) at id (sym named)
      by false = step-kept k o (before m) at id (sym named)

  -- and where it doesn't: the end is told last
  ends-here : (m : Life) → find (is_called name) lives ≡ Some m → (m.id == k) ≡ true → (x : Mark)
      → x.id ≡ m.id → x.name ≡ m.name → ended (n + 1) x ≡ ended (n + 1) (before m)
      → run_at k (end_op (n + 1) (set m) ∷ []) (keep_opt x) ≡ keep_opt (client_mark b conn wish now (over m))
  ends-here m found e x xid xname leaves =
      let id : m.id ≡ k = grind (arith, nat_tests) in
      step-kept k (end_op (n + 1) (set m)) x (number-id m.id k low e) (xid ∙ id) xname
      ∙ ap keep_opt
      (leaves
      ∙ sym (mark-ended a b scene.agree.given_are conn (wish m.name) (since_of since m) m (over m)
      (n + 1) refl refl refl (scene.not_given (end_key m.id (n + 1)) refl)))

  -- another connection's
  set-other : (sender == conn) ≡ false → ToldWhere (n + 1) a b conn sender name lives → (cached : List ℕ → Bool)
      → Goal (turn_ops (turned_id (topics lives) (topics changed) (Control (SetProps name u)))
      ++ change_ops (n + 1) cached wish (update_changes (topics lives) name u))
  set-other other told cached = by (find (is_called name) lives) refl
    where
      props_op : Life → Op
      props_op m = change_op (n + 1) cached wish (change.Props (pos m.id) m.name u)

      ops : Life → Bool → List Op
      ops m on = turn_ops (turn m on) ++ props_op m ∷ cond on [] (end_op (n + 1) (set m) ∷ [])

      ends : (m : Life) (on : Bool)
          → change_ops (n + 1) cached wish (cond on [] (topics_ended (topic_of (set m)) ∷ []))
          ≡ cond on [] (end_op (n + 1) (set m) ∷ [])
      ends m true = refl
      ends m false = refl

      apart : (m : Life) → (m.id == k) ≡ false → (on : Bool) → NoneAt k (ops m on)
      apart m e false = (other-id m.id k e, (other-id m.id k e, tt))
      apart m e true = on (turns m)
        where
          on : (t : Bool) → NoneAt k (turn_ops (cond t (Some m.id) None) ++ props_op m ∷ [])
          on true = (grind (arith, nat_tests), (other-id m.id k e, tt))
          on false = (other-id m.id k e, tt)

      here : (m : Life) → find (is_called name) lives ≡ Some m → (m.id == k) ≡ true → (on : Bool)
          → run_at k (ops m on) (keep_opt (client_mark a conn wish since m))
          ≡ keep_opt (client_mark b conn wish now (cond on (set m) (over m)))
      here m found e true =
          goes-on m (props_op m) found e (number-id m.id k low e) refl
          (pushed (turns m)
          ∙ sym (noted m found told
          ∙ ap (λ own. record (turned_where (turns m) (before m)) {
            settings = cond (own || (is_announced a m.id || not (is_empty (owed_settings a m))))
                (queued (λ s. s.place) (record { place = n + 1; is_own = own; update = u })
                (turned_where (turns m) (before m)).settings) (turned_where (turns m) (before m)).settings;
          }) other))
        where
          empty : (ss : List Setting) → is_empty (map (waiting_setting conn) ss) ≡ is_empty ss
          empty [] = refl
          empty (s ∷ ss) = refl

          pushed : (t : Bool)
              → (props_op m).f (turned_where t (before m))
              ≡ record (turned_where t (before m)) {
                settings = cond (is_announced a m.id || not (is_empty (owed_settings a m)))
                    (queued (λ s. s.place) (record { place = n + 1; is_own = false; update = u })
                    (turned_where t (before m)).settings) (turned_where t (before m)).settings;
              }
          pushed true =
              ap (λ t. record (turned (before m)) {
                settings = cond (is_announced a m.id || not t)
                    (queued (λ s. s.place) (record { place = n + 1; is_own = false; update = u })
                    (before m).settings) (before m).settings;
              }) (empty (owed_settings a m))
          pushed false =
              ap (λ t. record (before m) {
                settings = cond (is_announced a m.id || not t)
                    (queued (λ s. s.place) (record { place = n + 1; is_own = false; update = u })
                    (before m).settings) (before m).settings;
              }) (empty (owed_settings a m))
      here m found e false =
          let living : is_living m ≡ true =
          (and_parts (is_living m) (bytes_eq m.name name) (found-passes (is_called name) lives m found)).0 in
          let id : m.id ≡ k = grind (arith, nat_tests) in
          ap (λ x. run_at k (ops m false) (keep_opt x)) (living-mark a conn wish since m living)
          ∙ ap (λ x. run_at k (end_op (n + 1) (set m) ∷ []) x)
          (step-kept k (props_op m) (before m) (number-id m.id k low e) id refl)
          ∙ ends-here m found e ((props_op m).f (before m)) refl refl refl

      at : (o : Option Life) → find (is_called name) lives ≡ o
          → Goal (turn_ops (turned_id (topics lives) (topics changed) (Control (SetProps name u)))
          ++ change_ops (n + 1) cached wish (if_found (update_change u) (option_map topic_of o)))
      at None found =
          subst (λ t. Goal (turn_ops (turned_of t (find (is_named name) (topics changed))) ++ []))
          (sym (find-topics (is_named name) lives ∙ ap (λ o. option_map topic_of o) found))
          (client-none n a b conn wish since now lives scene same k (is_called name)
          (λ l. or_ended (n + 1) (set l)) found)
      at (Some m) found =
          subst (λ t. Goal (turn_ops t ++ props_op m ∷ change_ops (n + 1) cached wish (end_of (topic_of (set m)))))
          (sym (found-turn m found))
          (subst (λ es. Goal (turn_ops (turn m (lives_on (topic_of (set m)))) ++ props_op m ∷ es))
          (sym (ends m (lives_on (topic_of (set m)))))
          (client-found n a b conn wish since now lives scene same k (is_called name)
          (λ l. or_ended (n + 1) (set l)) (λ l. id-or_ended (n + 1) (set l)) m found
          (ops m (lives_on (topic_of (set m)))) (λ e. apart m e (lives_on (topic_of (set m))))
          (λ e. here m found e (lives_on (topic_of (set m))))))

      by : (o : Option Life) → find (is_called name) lives ≡ o
          → Goal (turn_ops (turned_id (topics lives) (topics changed) (Control (SetProps name u)))
          ++ change_ops (n + 1) cached wish (update_changes (topics lives) name u))
      by o found =
          subst (λ t. Goal (turn_ops (turned_id (topics lives) (topics changed) (Control (SetProps name u)))
          ++ change_ops (n + 1) cached wish (if_found (update_change u) t)))
          (sym (find-topics (is_named name) lives ∙ ap (λ o. option_map topic_of o) found)) (at o found)

  -- the connection's own is answered, and isn't told besides but for its end
  set-own : (sender == conn) ≡ true → ToldWhere (n + 1) a b conn sender name lives → (cached : List ℕ → Bool)
      → Goal (turn_ops (turned_id (topics lives) (topics changed) (Control (SetProps name u)))
      ++ (setting_ops (n + 1) (find (is_named name) (topics changed)) u
      ++ change_ops (n + 1) cached wish (filter is_end (update_changes (topics lives) name u))))
  set-own own told cached = by (find (is_called name) lives) refl
    where
      replied : Life → Op
      replied m =
          record {
            id = Some m.id;
            name = m.name;
            f = replied_setting
                (record { place = n + 1; is_own = true; update = u });
          }

      ops : Life → Bool → List Op
      ops m on =
          turn_ops (turn m on)
          ++ (setting_ops (n + 1) (option_map topic_of (cond on (Some (set m)) None)) u
          ++ cond on [] (end_op (n + 1) (set m) ∷ []))

      ends : (m : Life) (on : Bool)
          → change_ops (n + 1) cached wish (filter is_end (cond on [] (topics_ended (topic_of (set m)) ∷ [])))
          ≡ cond on [] (end_op (n + 1) (set m) ∷ [])
      ends m true = refl
      ends m false = refl

      apart : (m : Life) → (m.id == k) ≡ false → (on : Bool) → NoneAt k (ops m on)
      apart m e false = (other-id m.id k e, tt)
      apart m e true = on (turns m)
        where
          on : (t : Bool) → NoneAt k (turn_ops (cond t (Some m.id) None) ++ replied m ∷ [])
          on true = (grind (arith, nat_tests), (grind (arith, nat_tests), tt))
          on false = (grind (arith, nat_tests), tt)

      here : (m : Life) → find (is_called name) lives ≡ Some m → (m.id == k) ≡ true → (on : Bool)
          → run_at k (ops m on) (keep_opt (client_mark a conn wish since m))
          ≡ keep_opt (client_mark b conn wish now (cond on (set m) (over m)))
      here m found e true =
          let back : (k == m.id) ≡ true = grind (arith, nat_tests) in
          goes-on m (replied m) found e back refl
          (sym (noted m found told
          ∙ ap (λ own. record (turned_where (turns m) (before m)) {
            settings = cond (own || (is_announced a m.id || not (is_empty (owed_settings a m))))
                (queued (λ s. s.place) (record { place = n + 1; is_own = own; update = u })
                (turned_where (turns m) (before m)).settings) (turned_where (turns m) (before m)).settings;
          }) own))
      here m found e false =
          let living : is_living m ≡ true =
          (and_parts (is_living m) (bytes_eq m.name name) (found-passes (is_called name) lives m found)).0 in
          ap (λ x. run_at k (ops m false) (keep_opt x)) (living-mark a conn wish since m living)
          ∙ ends-here m found e (before m) refl refl refl

      at : (o : Option Life) → find (is_called name) lives ≡ o
          → Goal (turn_ops (turned_id (topics lives) (topics changed) (Control (SetProps name u)))
          ++ (setting_ops (n + 1) (find (is_named name) (topics changed)) u
          ++ change_ops (n + 1) cached wish (filter is_end (if_found (update_change u) (option_map topic_of o)))))
      at None found =
          subst (λ t. Goal
          (turn_ops (turned_of t (find (is_named name) (topics changed)))
          ++ (setting_ops (n + 1) (find (is_named name) (topics changed)) u ++ [])))
          (sym (find-topics (is_named name) lives ∙ ap (λ o. option_map topic_of o) found))
          (subst (λ t. Goal (setting_ops (n + 1) t u ++ []))
          (sym (find-topics (is_named name) changed
          ∙ ap (λ ls. option_map topic_of (find (is_called name) ls))
          (first-none (is_called name) (λ l. or_ended (n + 1) (set l)) lives found)
          ∙ ap (λ o. option_map topic_of o) found))
          (client-none n a b conn wish since now lives scene same k (is_called name)
          (λ l. or_ended (n + 1) (set l)) found))
      at (Some m) found =
          subst (λ t. Goal
          (turn_ops t
          ++ (setting_ops (n + 1) (find (is_named name) (topics changed)) u
          ++ change_ops (n + 1) cached wish (filter is_end (end_of (topic_of (set m)))))))
          (sym (found-turn m found))
          (subst (λ t. Goal
          (turn_ops (turn m (lives_on (topic_of (set m))))
          ++ (setting_ops (n + 1) t u ++ change_ops (n + 1) cached wish (filter is_end (end_of (topic_of (set m)))))))
          (sym (find-topics (is_named name) changed
          ∙ ap (λ o. option_map topic_of o) (found-set (n + 1) sender u name lives m one found)))
          (subst (λ es. Goal
          (turn_ops (turn m (lives_on (topic_of (set m))))
          ++ (setting_ops (n + 1)
          (option_map topic_of (cond (lives_on (topic_of (set m))) (Some (set m)) None)) u
          ++ es))) (sym (ends m (lives_on (topic_of (set m)))))
          (client-found n a b conn wish since now lives scene same k (is_called name)
          (λ l. or_ended (n + 1) (set l)) (λ l. id-or_ended (n + 1) (set l)) m found
          (ops m (lives_on (topic_of (set m)))) (λ e. apart m e (lives_on (topic_of (set m))))
          (λ e. here m found e (lives_on (topic_of (set m)))))))

      by : (o : Option Life) → find (is_called name) lives ≡ o
          → Goal (turn_ops (turned_id (topics lives) (topics changed) (Control (SetProps name u)))
          ++ (setting_ops (n + 1) (find (is_named name) (topics changed)) u
          ++ change_ops (n + 1) cached wish (filter is_end (update_changes (topics lives) name u))))
      by o found =
          subst (λ t. Goal
          (turn_ops (turned_id (topics lives) (topics changed) (Control (SetProps name u)))
          ++ (setting_ops (n + 1) (find (is_named name) (topics changed)) u
          ++ change_ops (n + 1) cached wish (filter is_end (if_found (update_change u) t)))))
          (sym (find-topics (is_named name) lives ∙ ap (λ o. option_map topic_of o) found)) (at o found)

-- another connection's
pub client-set : (n : ℕ) (a b : Account) (conn : ℕ) (wish : List ℕ → Wanted) (since now : Bool → List ℕ → ℕ)
    (lives : List Life)
    → Scene n a b since lives → SameSince wish since now → HasOneName lives → (k : ℕ) → k < first_meta
    → (sender : ℕ) (name : List ℕ) (u : Data) → (sender == conn) ≡ false
    → ToldWhere (n + 1) a b conn sender name lives → (cached : List ℕ → Bool)
    → run_at k
    (turn_ops (turned_id (topics lives)
    (topics (at_living (is_named name) (λ l. or_ended (n + 1) (with_setting (n + 1) sender u l)) lives))
    (Control (SetProps name u)))
    ++ change_ops (n + 1) cached wish (update_changes (topics lives) name u))
    (client_at a conn wish since k lives)
    ≡ client_at b conn wish now k
    (at_living (is_named name) (λ l. or_ended (n + 1) (with_setting (n + 1) sender u l)) lives)
client-set n a b conn wish since now lives scene same one k low sender name u other told cached =
    subst (λ ls. run_at k
    (turn_ops (turned_id (topics lives) (topics ls) (Control (SetProps name u)))
    ++ change_ops (n + 1) cached wish (update_changes (topics lives) name u))
    (client_at a conn wish since k lives) ≡ client_at b conn wish now k ls)
    (sym (lives-set (n + 1) sender name u lives))
    (set-other n a b conn wish since now lives scene same one k low sender name u other told cached)

-- the connection's own is answered, and isn't told besides but for its end
pub client-set-own : (n : ℕ) (a b : Account) (conn : ℕ) (wish : List ℕ → Wanted) (since now : Bool → List ℕ → ℕ)
    (lives : List Life)
    → Scene n a b since lives → SameSince wish since now → HasOneName lives → (k : ℕ) → k < first_meta
    → (sender : ℕ) (name : List ℕ) (u : Data) → (sender == conn) ≡ true
    → ToldWhere (n + 1) a b conn sender name lives → (cached : List ℕ → Bool)
    → run_at k
    (turn_ops (turned_id (topics lives)
    (topics (at_living (is_named name) (λ l. or_ended (n + 1) (with_setting (n + 1) sender u l)) lives))
    (Control (SetProps name u)))
    ++ (setting_ops (n + 1)
    (find (is_named name)
    (topics (at_living (is_named name) (λ l. or_ended (n + 1) (with_setting (n + 1) sender u l)) lives))) u
    ++ change_ops (n + 1) cached wish (filter is_end (update_changes (topics lives) name u))))
    (client_at a conn wish since k lives)
    ≡ client_at b conn wish now k
    (at_living (is_named name) (λ l. or_ended (n + 1) (with_setting (n + 1) sender u l)) lives)
client-set-own n a b conn wish since now lives scene same one k low sender name u own told cached =
    subst (λ ls. run_at k
    (turn_ops (turned_id (topics lives) (topics ls) (Control (SetProps name u)))
    ++ (setting_ops (n + 1) (find (is_named name) (topics ls)) u
    ++ change_ops (n + 1) cached wish (filter is_end (update_changes (topics lives) name u))))
    (client_at a conn wish since k lives) ≡ client_at b conn wish now k ls)
    (sym (lives-set (n + 1) sender name u lives))
    (set-own n a b conn wish since now lives scene same one k low sender name u own told cached)
