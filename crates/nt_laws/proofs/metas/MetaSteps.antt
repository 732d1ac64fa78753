-- What an outbox is told of a meta topic does to its mark what the entry does to what is kept of its life.
use Rattle.std.proofs.Common.{◌≡◌, ◌≤◌, ◌==◌, ℕ, Bool, true, false, cond, List, [], ◌∷◌, Option, Some, None, map}
use Rattle.std.proofs.Common.{filter, refl, sym, ◌∙◌, ap, arith}
use Rattle.std.proofs.lemmas.Bool.Decides.{nat_tests}
use Rattle.nt_subs.specs.declared.wish.Wanted.{Wanted}
use Rattle.nt_subs.specs.declared.wish.Wanted.TheVariants.{No, TopicOnly, Newest, All}
use Rattle.nt_rules.specs.declared.meta.MetaNow.{MetaNow}
use Rattle.nt_rules.specs.outbox.Marks.{Mark}
use Rattle.nt_rules.specs.outbox.Marks.{fresh, ended, meta_wish, changed_meta, rewanted_meta, option_items}
use Rattle.nt_rules.specs.declared.meta.Difference.{Difference}
use Rattle.nt_rules.specs.declared.meta.Difference.TheVariants.{Began, Changed, Ended}
use Rattle.nt_rules.specs.history.State.{differences}
use Rattle.nt_laws.proofs.marks.MarksById.{keep_opt, or_fresh}
use Rattle.nt_laws.proofs.outboxes.OutboxCalls.{is_at, run_at, run_at-filter, meta_op, difference_op}
use Rattle.nt_laws.proofs.metas.Differences.{meta_of, MetasRise, meta-above, differs_at, difference_between}
use Rattle.nt_laws.proofs.metas.Differences.{differences_at, differences-at}

-- ---- marks of meta topics

-- the place of the value of a meta topic, where it is due under Newest
abbrev pub due_at : Wanted → Bool → Option ℕ
due_at Newest true = Some 0
due_at w due = None

-- one that goes on: whether it was announced, whether its value is due, and how much it is wanted
abbrev pub live : ℕ → List ℕ → Bool → Bool → Wanted → Mark
live id name announced due w =
    record (fresh id name) { is_announced = announced; next = cond due 0 1; wish = w; newest = due_at w due }

-- one that is over, with the place of its end where that is owed
abbrev pub dead : ℕ → List ℕ → Option ℕ → Mark
dead id name over = record (fresh id name) { over = over }

live-or : (id : ℕ) (name : List ℕ) (announced due : Bool) (w : Wanted)
    → or_fresh id name (keep_opt (live id name announced due w)) ≡ live id name announced due w
live-or id name true due w = refl
live-or id name false false w = refl
live-or id name false true No = refl
live-or id name false true TopicOnly = refl
live-or id name false true Newest = refl
live-or id name false true All = refl

-- it begins
pub began-step : (id : ℕ) (name : List ℕ) (w : Wanted)
    → keep_opt (rewanted_meta No w (fresh id name)) ≡ keep_opt (live id name false true (meta_wish w))
began-step id name No = refl
began-step id name TopicOnly = refl
began-step id name Newest = refl
began-step id name All = refl

-- its bytes change
pub changed-step : (id : ℕ) (name : List ℕ) (announced due : Bool) (old w : Wanted)
    → keep_opt (changed_meta w (or_fresh id name (keep_opt (live id name announced due old))))
    ≡ keep_opt (live id name announced true (meta_wish w))
changed-step id name announced due old w =
    ap (λ m. keep_opt (changed_meta w m)) (live-or id name announced due old) ∙ by w
  where
    by : (w : Wanted) → keep_opt (changed_meta w (live id name announced due old))
        ≡ keep_opt (live id name announced true (meta_wish w))
    by No = refl
    by TopicOnly = refl
    by Newest = refl
    by All = refl

-- it is wanted otherwise
pub rewanted-step : (id : ℕ) (name : List ℕ) (announced due : Bool) (old w : Wanted)
    → keep_opt (rewanted_meta old w
    (or_fresh id name (keep_opt (live id name announced due (meta_wish old)))))
    ≡ keep_opt (live id name announced due (meta_wish w))
rewanted-step id name announced due old w =
    ap (λ m. keep_opt (rewanted_meta old w m)) (live-or id name announced due (meta_wish old))
    ∙ ap keep_opt (by old w due)
  where
    by : (old w : Wanted) (due : Bool) → rewanted_meta old w (live id name announced due (meta_wish old))
        ≡ live id name announced due (meta_wish w)
    by No No due = refl
    by No TopicOnly due = refl
    by No Newest true = refl
    by No Newest false = refl
    by No All true = refl
    by No All false = refl
    by TopicOnly No due = refl
    by TopicOnly TopicOnly due = refl
    by TopicOnly Newest true = refl
    by TopicOnly Newest false = refl
    by TopicOnly All true = refl
    by TopicOnly All false = refl
    by Newest No due = refl
    by Newest TopicOnly due = refl
    by Newest Newest due = refl
    by Newest All due = refl
    by All No due = refl
    by All TopicOnly due = refl
    by All Newest due = refl
    by All All due = refl

-- it ends
pub ended-step : (id : ℕ) (name : List ℕ) (announced due : Bool) (w : Wanted) (place : ℕ)
    → keep_opt (ended place (or_fresh id [] (keep_opt (live id name announced due w))))
    ≡ keep_opt (dead id name (cond announced (Some place) None))
ended-step id name true due w place = refl
ended-step id name false false w place = refl
ended-step id name false true No place = refl
ended-step id name false true TopicOnly place = refl
ended-step id name false true Newest place = refl
ended-step id name false true All place = refl

-- ---- what is told at an id

same-test : (k n : ℕ) → (k == n) ≡ (n == k)
same-test k n = grind (arith, nat_tests)

op-at : (k place : ℕ) (wish : List ℕ → Wanted) (d : Difference) → is_at k (difference_op place wish d)
    ≡ (differs_at d == k)
op-at k place wish (Began m) = same-test k m.id
op-at k place wish (Changed m) = same-test k m.id
op-at k place wish (Ended id) = same-test k id

ops-at : (k place : ℕ) (wish : List ℕ → Wanted) (ds : List Difference)
    → filter (is_at k) (map (difference_op place wish) ds)
    ≡ map (difference_op place wish) (differences_at k ds)
ops-at k place wish [] = refl
ops-at k place wish (d ∷ ds) =
    ap (λ b. cond b (difference_op place wish d ∷ filter (is_at k) (map (difference_op place wish) ds))
    (filter (is_at k) (map (difference_op place wish) ds))) (op-at k place wish d)
    ∙ by (ops-at k place wish ds) (differs_at d == k)
  where
    by : filter (is_at k) (map (difference_op place wish) ds)
        ≡ map (difference_op place wish) (differences_at k ds) → (b : Bool)
        → cond b (difference_op place wish d ∷ filter (is_at k) (map (difference_op place wish) ds))
        (filter (is_at k) (map (difference_op place wish) ds))
        ≡ map (difference_op place wish) (cond b (d ∷ differences_at k ds) (differences_at k ds))
    by more true = ap (λ ops. difference_op place wish d ∷ ops) more
    by more false = more

-- of the differences only that of this id counts
pub told-alone : (k place : ℕ) (wish : List ℕ → Wanted) (before after : List MetaNow) (found : Option Mark)
    → MetasRise before → MetasRise after
    → run_at k (map (difference_op place wish) (differences before after)) found
    ≡ run_at k (map (difference_op place wish) (difference_between (meta_of k before) (meta_of k after)))
    found
told-alone k place wish before after found rise risen =
    sym (run_at-filter k (map (difference_op place wish) (differences before after)) found)
    ∙ ap (λ ops. run_at k ops found) (ops-at k place wish (differences before after)
    ∙ ap (map (difference_op place wish)) (differences-at k before after rise risen))

metas-at : (k : ℕ) (old wish : List ℕ → Wanted) (ms : List MetaNow) → MetasRise ms
    → filter (is_at k) (map (meta_op old wish) ms) ≡ map (meta_op old wish) (option_items (meta_of k ms))
metas-at k old wish [] rise = refl
metas-at k old wish (m ∷ ms) rise =
    ap (λ b. cond b (meta_op old wish m ∷ filter (is_at k) (map (meta_op old wish) ms))
    (filter (is_at k) (map (meta_op old wish) ms))) (same-test k m.id)
    ∙ by (metas-at k old wish ms rise.1) (m.id == k) refl
  where
    by : filter (is_at k) (map (meta_op old wish) ms) ≡ map (meta_op old wish) (option_items (meta_of k ms))
        → (b : Bool) → (m.id == k) ≡ b
        → cond b (meta_op old wish m ∷ filter (is_at k) (map (meta_op old wish) ms))
        (filter (is_at k) (map (meta_op old wish) ms))
        ≡ map (meta_op old wish) (option_items (cond b (Some m) (meta_of k ms)))
    by more true e =
        let le : k ≤ m.id = grind (arith, nat_tests) in
        ap (λ ops. meta_op old wish m ∷ ops)
        (more ∙ ap (λ o. map (meta_op old wish) (option_items o)) (meta-above k m.id ms le rise.0))
    by more false e = more

-- of the metas only that of this id counts
pub rewanted-alone : (k : ℕ) (old wish : List ℕ → Wanted) (ms : List MetaNow) (found : Option Mark)
    → MetasRise ms
    → run_at k (map (meta_op old wish) ms) found
    ≡ run_at k (map (meta_op old wish) (option_items (meta_of k ms))) found
rewanted-alone k old wish ms found rise =
    sym (run_at-filter k (map (meta_op old wish) ms) found)
    ∙ ap (λ ops. run_at k ops found) (metas-at k old wish ms rise)
