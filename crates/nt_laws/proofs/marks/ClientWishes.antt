-- Another wish and the end of a connection, which touch all client topics at once.
use Rattle.std.proofs.Common.{◌≡◌, ◌<◌, ◌+◌, ◌==◌, ◌&&◌, ◌||◌, not, ℕ, Bool, true, false, cond, ltb, List, [], ◌∷◌}
use Rattle.std.proofs.Common.{Option, Some, None, map, filter, refl, sym, ◌∙◌, ap, arith}
use Rattle.std.specs.Prelude.{option_map}
use Rattle.std.specs.List.{filter_map, cons_option}
use Rattle.std.proofs.lemmas.Bool.Decides.{nat_tests}
use Rattle.std.proofs.lemmas.Option.{none-some, same_Some}
use Rattle.nt_topics.specs.Properties.{is_cached}
use Rattle.nt_subs.specs.declared.wish.Wanted.{Wanted}
use Rattle.nt_rules.specs.Limits.{first_meta}
use Rattle.nt_rules.specs.declared.topic.Topic.{Topic}
use Rattle.nt_rules.specs.topics.Puts.{Put, timed}
use Rattle.nt_rules.specs.topics.Topics.{has_conn, lives_on, outlives}
use Rattle.nt_rules.specs.topics.Changes.{ended, drop_changes}
use Rattle.nt_rules.specs.outbox.Marks.{Mark}
use Rattle.nt_rules.specs.outbox.Keys.{end_key}
use Rattle.nt_rules.specs.outbox.Marks.{placed, rewanted}
use Rattle.nt_rules.specs.declared.taken.Taken.{Taken}
use Rattle.nt_rules.specs.history.Lives.{Life, is_living, topic_of, topics, held_of, without_conn, closed_for}
use Rattle.nt_rules.specs.history.Owed.{Account, life_at}
use Rattle.nt_rules.specs.history.Marks.{topic_mark, end_mark, held_place, waiting_put}
use Rattle.nt_rules.specs.history.State.{taken_at}
use Rattle.nt_laws.proofs.histories.Facts.{id-closed_for, IsPlaced, placed-find}
use Rattle.nt_laws.proofs.topics.ItemFacts.{map-both}
use Rattle.nt_laws.proofs.marks.MarksById.{keep_opt, or_fresh, kept_of, AreRising}
use Rattle.nt_laws.proofs.outboxes.OutboxCalls.{Op, is_at, step_at, run_at, change_op, change_ops, rewanted_op}
use Rattle.nt_laws.proofs.marks.MarkLaws.{counts, end-same, mark-ended}
use Rattle.nt_laws.proofs.marks.RewantedMarks.{mark-rewant, held_placed}
use Rattle.nt_laws.proofs.topics.FoundLives.{rising-numbered, life-above, life-id, life-map}
use Rattle.nt_laws.proofs.marks.ClientMarksById.{since_of, client_mark, client_at, Scene, SameSince, step-kept}
use Rattle.nt_laws.proofs.marks.ClientMarksById.{number-id, other-id, client-same, living-mark, end_op}

-- ---- a call for each living topic

-- what one for each topic that passes does at an id
abbrev each_step : ℕ → (Topic → Op) → (Topic → Bool) → Option Mark → Option Life → Option Mark
each_step k g p found None = found
each_step k g p found (Some l) = cond (is_living l && p (topic_of l)) (step_at k (g (topic_of l)) found) found

run-each : (k : ℕ) (g : Topic → Op) (p : Topic → Bool)
    → ((t : Topic) → (t.id == k) ≡ false → is_at k (g t) ≡ false)
    → (lives : List Life) → AreRising lives → (found : Option Mark)
    → run_at k (map g (filter p (topics lives))) found ≡ each_step k g p found (life_at k lives)
run-each k g p apart [] rising found = refl
run-each k g p apart (l ∷ lives) rising found =
    by (λ x. run-each k g p apart lives rising.1 x) (is_living l) refl (p (topic_of l)) refl (l.id == k) refl
  where
    rest : List Op
    rest = map g (filter p (topics lives))

    none : (l.id == k) ≡ true → life_at k lives ≡ None
    none e = life-above k l.id lives (grind (arith, nat_tests)) rising.0

    -- it isn't called for
    skip : ((x : Option Mark) → run_at k rest x ≡ each_step k g p x (life_at k lives))
        → (is_living l && p (topic_of l)) ≡ false
        → (at : Bool) → (l.id == k) ≡ at → run_at k rest found
        ≡ each_step k g p found (cond at (Some l) (life_at k lives))
    skip more off true e =
        more found ∙ ap (λ o. each_step k g p found o) (none e)
        ∙ sym (ap (λ b. cond b (step_at k (g (topic_of l)) found) found) off)
    skip more off false e = more found

    by : ((x : Option Mark) → run_at k rest x ≡ each_step k g p x (life_at k lives)) → (living : Bool)
        → is_living l ≡ living
        → (pass : Bool) → p (topic_of l) ≡ pass → (at : Bool) → (l.id == k) ≡ at
        → run_at k
        (map g (filter p (cons_option (cond living (Some (topic_of l)) None) (topics lives)))) found
        ≡ each_step k g p found (cond at (Some l) (life_at k lives))
    by more false live pass passes at e = skip more (ap (λ b. b && p (topic_of l)) live) at e
    by more true live false passes at e =
        ap (λ b. run_at k
        (map g (cond b (topic_of l ∷ filter p (topics lives)) (filter p (topics lives)))) found) passes
        ∙ skip more (ap (λ b. b && p (topic_of l)) live ∙ passes) at e
    by more true live true passes true e =
        ap (λ b. run_at k
        (map g (cond b (topic_of l ∷ filter p (topics lives)) (filter p (topics lives)))) found) passes
        ∙ more (step_at k (g (topic_of l)) found)
        ∙ ap (λ o. each_step k g p (step_at k (g (topic_of l)) found) o) (none e)
        ∙ sym (ap (λ b. cond b (step_at k (g (topic_of l)) found) found)
        (ap (λ b. b && p (topic_of l)) live ∙ passes))
    by more true live true passes false e =
        ap (λ b. run_at k
        (map g (cond b (topic_of l ∷ filter p (topics lives)) (filter p (topics lives)))) found) passes
        ∙ more (step_at k (g (topic_of l)) found)
        ∙ ap (λ b. each_step k g p
        (cond b (keep_opt ((g (topic_of l)).f (or_fresh k (g (topic_of l)).name found))) found)
        (life_at k lives)) (apart (topic_of l) e)

-- ---- where held values were taken

abbrev held_put : ℕ → Option Put → Option Taken
held_put id None = None
held_put id (Some p) = cond (ltb 0 p.place) (Some (record { topic = id; place = p.place })) None

held-place-is : (l : Life) → held_place l ≡ cond (is_living l) (held_put l.id (held_of l)) None
held-place-is l = by (held_of l) refl
  where
    by : (h : Option Put) → held_of l ≡ h → held_place l ≡ cond (is_living l) (held_put l.id (held_of l)) None
    by None e = rw e
    by (Some p) e = rw e

held-topic : (id : ℕ) (living : Bool) (h : Option Put) (t : Taken) → cond living (held_put id h) None
    ≡ Some t → t.topic ≡ id
held-topic id false h t e = absurd (none-some t e)
held-topic id true None t e = absurd (none-some t e)
held-topic id true (Some p) t e = by (ltb 0 p.place) e
  where
    by : (b : Bool) → cond b (Some (record { topic = id; place = p.place })) None ≡ Some t → t.topic ≡ id
    by true e = sym (ap (λ (t : Taken). t.topic) (same_Some (record { topic = id; place = p.place }) t e))
    by false e = absurd (none-some t e)

abbrev place_of : Option Taken → ℕ
place_of None = 0
place_of (Some t) = t.place

abbrev held_at : Option Life → ℕ
held_at None = 0
held_at (Some l) = place_of (held_place l)

taken-at : (k : ℕ) (lives : List Life) → AreRising lives → taken_at k (filter_map held_place lives)
    ≡ held_at (life_at k lives)
taken-at k [] rising = refl
taken-at k (l ∷ lives) rising = by (taken-at k lives rising.1) (held_place l) refl (l.id == k) refl
  where
    none : (l.id == k) ≡ true → life_at k lives ≡ None
    none e = life-above k l.id lives (grind (arith, nat_tests)) rising.0

    by : taken_at k (filter_map held_place lives) ≡ held_at (life_at k lives) → (h : Option Taken)
        → held_place l ≡ h → (b : Bool) → (l.id == k) ≡ b
        → taken_at k (cons_option h (filter_map held_place lives))
        ≡ held_at (cond b (Some l) (life_at k lives))
    by more None held true e = more ∙ ap held_at (none e) ∙ sym (ap place_of held)
    by more None held false e = more
    by more (Some t) held b e =
        let topic : t.topic ≡ l.id =
        held-topic l.id (is_living l) (held_of l) t (sym (held-place-is l) ∙ held) in
        ap (λ n. cond (n == k) t.place (taken_at k (filter_map held_place lives))) topic ∙ on b e
      where
        on : (b : Bool) → (l.id == k) ≡ b
            → cond (l.id == k) t.place (taken_at k (filter_map held_place lives))
            ≡ held_at (cond b (Some l) (life_at k lives))
        on true e =
            ap (λ b. cond b t.place (taken_at k (filter_map held_place lives))) e ∙ sym (ap place_of held)
        on false e = ap (λ b. cond b t.place (taken_at k (filter_map held_place lives))) e ∙ more

-- the held value of a topic with the place at which it was taken
held-placed : (k : ℕ) (lives : List Life) (l : Life) → AreRising lives → life_at k lives ≡ Some l
    → is_living l ≡ true
    → option_map (placed (taken_at l.id (filter_map held_place lives))) (topic_of l).value ≡ held_placed l
held-placed k lives l rising at living =
    ap (λ n. option_map (placed n) (topic_of l).value) place ∙ by (held_of l)
  where
    id : l.id ≡ k
    id = let e = life-id k lives l at in grind (arith, nat_tests)

    place : taken_at l.id (filter_map held_place lives) ≡ place_of (held_put l.id (held_of l))
    place =
        ap (λ i. taken_at i (filter_map held_place lives)) id ∙ taken-at k lives rising ∙ ap held_at at
        ∙ ap place_of (held-place-is l ∙ ap (λ b. cond b (held_put l.id (held_of l)) None) living)

    by : (h : Option Put) → option_map (placed (place_of (held_put l.id h))) (option_map timed h)
        ≡ option_map waiting_put h
    by None = refl
    by (Some p) = on (ltb 0 p.place) refl
      where
        on : (b : Bool) → ltb 0 p.place ≡ b
            → Some (placed (place_of (cond b (Some (record { topic = l.id; place = p.place })) None))
            (timed p)) ≡ Some (waiting_put p)
        on true e = refl
        on false e = let zero : 0 ≡ p.place =
            grind (arith, nat_tests) in ap (λ n. Some (placed n (timed p))) zero

-- ---- another wish

filter-all : {X : Type 0} (xs : List X) → xs ≡ filter (λ x. true) xs
filter-all [] = refl
filter-all (x ∷ xs) = ap (λ ys. x ∷ ys) (filter-all xs)

pub client-rewanted : (n : ℕ) (a b : Account) (conn : ℕ) (old wish : List ℕ → Wanted)
    (since now : Bool → List ℕ → ℕ) (lives : List Life)
    → Scene n a b since lives
    → ((cached : Bool) (name : List ℕ) → now cached name ≡ cond (counts cached (old name)) (since cached name) (n + 1))
    → (k : ℕ)
    → run_at k (map (rewanted_op (filter_map held_place lives) old wish) (topics lives))
    (client_at a conn old since k lives)
    ≡ client_at b conn wish now k lives
client-rewanted n a b conn old wish since now lives scene turns k =
    ap (λ ts. run_at k (map op ts) (client_at a conn old since k lives)) (filter-all (topics lives))
    ∙ run-each k op (λ t. true) (λ t e. grind (arith, nat_tests)) lives rising
    (client_at a conn old since k lives)
    ∙ by (life_at k lives) refl
  where
    op : Topic → Op
    op t = rewanted_op (filter_map held_place lives) old wish t

    rising : AreRising lives
    rising = rising-numbered 1 lives scene.numbered

    here : (l : Life) → life_at k lives ≡ Some l → (living : Bool) → is_living l ≡ living
        → cond (living && true)
        (step_at k (op (topic_of l))
        (keep_opt (cond living (topic_mark a conn (old l.name) (since_of since l) l) (end_mark a l)))) (keep_opt
        (cond living (topic_mark a conn (old l.name) (since_of since l) l) (end_mark a l)))
        ≡ keep_opt (cond living (topic_mark b conn (wish l.name) (since_of now l) l) (end_mark b l))
    here l at false e = ap keep_opt (sym (end-same a b scene.agree.given_are l l.pubs l.props l.puts))
    here l at true e =
        let placed : IsPlaced n l = placed-find (λ l. l.id == k) n lives l scene.placed at in
        let same : (l.id == k) ≡ true = life-id k lives l at in
        let id : l.id ≡ k = grind (arith, nat_tests) in
        let back : (k == l.id) ≡ true = grind (arith, nat_tests) in
        step-kept k (op (topic_of l)) (topic_mark a conn (old l.name) (since_of since l) l) back id refl
        ∙ ap (λ h. keep_opt
        (rewanted (is_cached l.props) h (old l.name) (wish l.name)
        (topic_mark a conn (old l.name) (since_of since l) l)))
        (held-placed k lives l rising at e)
        ∙ ap keep_opt
        (sym (mark-rewant n a b scene.agree conn (old l.name) (wish l.name) (since_of since l) (since_of now l) l
        (turns (is_cached l.props) l.name) placed.settings_rise placed.puts_before placed.puts_fall))

    by : (o : Option Life) → life_at k lives ≡ o
        → each_step k op (λ t. true) (kept_of (client_mark a conn old since) o) o
        ≡ kept_of (client_mark b conn wish now) o
    by None at = refl
    by (Some l) at = here l at (is_living l) refl

-- ---- the end of a connection

pub client-closed : (n : ℕ) (a b : Account) (conn : ℕ) (wish : List ℕ → Wanted) (since now : Bool → List ℕ → ℕ)
    (lives : List Life)
    → Scene n a b since lives → SameSince wish since now → (k : ℕ) → k < first_meta → (sender : ℕ)
    → (cached : List ℕ → Bool)
    → run_at k (change_ops (n + 1) cached wish (drop_changes (topics lives) sender))
    (client_at a conn wish since k lives)
    ≡ client_at b conn wish now k (map (closed_for (n + 1) sender) lives)
client-closed n a b conn wish since now lives scene same k low sender cached =
    ap (λ ops. run_at k ops (client_at a conn wish since k lives))
    (map-both ended (change_op (n + 1) cached wish) (filter ends (topics lives)))
    ∙ run-each k op ends (λ t e. other-id t.id k e) lives (rising-numbered 1 lives scene.numbered)
    (client_at a conn wish since k lives)
    ∙ by (life_at k lives) refl
    ∙ sym (ap (λ o. kept_of (client_mark b conn wish now) o)
    (life-map (closed_for (n + 1) sender) (id-closed_for (n + 1) sender) k lives))
  where
    op : Topic → Op
    op t = change_op (n + 1) cached wish (ended t)

    ends : Topic → Bool
    ends t = not (outlives sender t)

    gone : Life → Life
    gone l = without_conn sender l

    stays : (l : Life) → life_at k lives ≡ Some l → keep_opt (client_mark a conn wish since l)
        ≡ keep_opt (client_mark b conn wish now (gone l))
    stays l at =
        let placed : IsPlaced n l = placed-find (λ l. l.id == k) n lives l scene.placed at in
        ap keep_opt
        (sym (client-same n a b conn wish since now scene.agree same l placed
        (gone l).pubs l.puts refl))

    here : (l : Life) → life_at k lives ≡ Some l → (living : Bool) → is_living l ≡ living → (has on : Bool)
        → cond (living && not (not has || on))
        (step_at k (op (topic_of l)) (keep_opt (client_mark a conn wish since l)))
        (keep_opt (client_mark a conn wish since l))
        ≡ keep_opt
        (client_mark b conn wish now
        (cond (living && has) (cond on (gone l) (record (gone l) { over = Some (n + 1) })) (gone l)))
    here l at false e has on = stays l at
    here l at true e false on = stays l at
    here l at true e true true = stays l at
    here l at true e true false =
        let same : (l.id == k) ≡ true = life-id k lives l at in
        let id : l.id ≡ k = grind (arith, nat_tests) in
        ap (λ x. step_at k (op (topic_of l)) (keep_opt x)) (living-mark a conn wish since l e)
        ∙ step-kept k (end_op (n + 1) l) (topic_mark a conn (wish l.name) (since_of since l) l)
        (number-id l.id k low same) id refl
        ∙ ap keep_opt
        (sym (mark-ended a b scene.agree.given_are conn (wish l.name) (since_of since l) l
        (record (gone l) { over = Some (n + 1) }) (n + 1) refl refl refl
        (scene.not_given (end_key l.id (n + 1)) refl)))

    by : (o : Option Life) → life_at k lives ≡ o
        → each_step k op ends (kept_of (client_mark a conn wish since) o) o
        ≡ kept_of (client_mark b conn wish now) (option_map (closed_for (n + 1) sender) o)
    by None at = refl
    by (Some l) at =
        here l at (is_living l) refl (has_conn sender (topic_of l)) (lives_on (topic_of (gone l)))
