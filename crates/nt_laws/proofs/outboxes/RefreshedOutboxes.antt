-- All outboxes after the calls of one act.
use Rattle.std.proofs.Common.{◌≡◌, ◌≤◌, ℕ, List, ◌++◌, map, length, sym, ◌∙◌, ap, subst}
use Rattle.std.specs.List.{AllByRecursion}
use Rattle.nt_subs.specs.Wishes.{wanted}
use Rattle.nt_rules.specs.declared.topic.Topic.{Topic}
use Rattle.nt_rules.specs.declared.meta.MetaNow.{MetaNow}
use Rattle.nt_rules.specs.meta.Meta.{metas}
use Rattle.nt_rules.specs.outbox.Calls.{reached}
use Rattle.nt_rules.specs.declared.act.Entry.{Entry}
use Rattle.nt_rules.specs.history.State.{Open}
use Rattle.nt_rules.specs.history.Lives.{topics}
use Rattle.nt_rules.specs.declared.start.Start.{Start}
use Rattle.nt_rules.specs.history.Now.{Now, open_ones}
use Rattle.nt_rules.specs.history.Metas.{metas_now}
use Rattle.nt_rules.specs.declared.meta.Difference.{Difference}
use Rattle.nt_rules.specs.history.State.{differences, open_metas, refreshed, noted_differences, with_outbox}
use Rattle.nt_rules.specs.history.Step.{plain, plain_of, Owes, AllOwe}
use Rattle.nt_laws.proofs.topics.ItemFacts.{map-both}
use Rattle.nt_laws.proofs.metas.Rosters.{roster-kept}
use Rattle.nt_laws.proofs.outboxes.OutboxCalls.{Op, called_all, called-append, difference_op, told-calls}
use Rattle.nt_laws.proofs.outboxes.OpenConnections.{all-owe}
use Rattle.nt_laws.proofs.outboxes.Reaching.{calls-reached}

-- the meta topics of what is kept are those of the history
pub metas-kept-by : (opens : List Open) (ts : List Topic) (n : Now) → map plain opens
    ≡ map plain_of (open_ones n.connections)
    → ts ≡ topics n.lives → open_metas opens ts ≡ metas_now n
unfolding open_metas
metas-kept-by opens ts n same topics_are =
    ap (λ ts. open_metas opens ts) topics_are
    ∙ ap (λ r. metas r) (roster-kept opens (open_ones n.connections) (topics n.lives) same)

-- the connection with the calls of these changes done to its outbox
abbrev pub with_calls : ℕ → (Open → List Op) → Open → Open
with_calls place ops o = record o { outbox = called_all place (ops o) o.outbox }

-- each outbox that is told changes
pub told-owe : (start : Start) (past after : List Entry) (place : ℕ) (h : Open → Open) (ops : Open → List Op)
    → ((o : Open) → h o ≡ with_calls place ops o) → (P : Open → Type 0)
    → ((o : Open) → P o → Owes start past o.conn o.outbox
    → Owes start after o.conn (called_all place (ops o) o.outbox))
    → (opens : List Open) → AllByRecursion P opens → AllOwe start past opens
    → AllOwe start after (map h opens)
told-owe start past after place h ops does P each opens all owe =
    all-owe start past after P h
    (λ o p owes. subst (λ (x : Open). Owes start after x.conn x.outbox) (sym (does o))
    (each o p owes)) opens all owe

-- and then what is different of the meta topics
pub refreshed-owe : (start : Start) (past after : List Entry) (place : ℕ) → place ≤ length after
    → (before : List MetaNow) (ts : List Topic) (h : Open → Open) (ops : Open → List Op)
    → ((o : Open) → h o ≡ with_calls place ops o) → (ds : List Difference) → (opens : List Open)
    → differences before (open_metas (map h opens) ts) ≡ ds → (P : Open → Type 0)
    → ((o : Open) → P o → Owes start past o.conn o.outbox
    → Owes start after o.conn
    (called_all place (ops o ++ map (difference_op place (wanted o.subs)) ds) o.outbox))
    → AllByRecursion P opens → AllOwe start past opens
    → AllOwe start after (refreshed place before ts (map h opens))
refreshed-owe start past after place within before ts h ops does ds opens differ P each all owe =
    subst (λ ds. AllOwe start after (map (tell ds) (map h opens))) (sym differ)
    (subst (λ os. AllOwe start after os) (sym (map-both h (tell ds) opens))
    (all-owe start past after P (λ o. tell ds (h o)) one opens all owe))
  where
    tell : List Difference → Open → Open
    tell ds o = with_outbox (noted_differences place (wanted o.subs) ds (reached place o.outbox)) o

    one : (o : Open) → P o → Owes start past o.conn o.outbox
        → Owes start after (tell ds (h o)).conn (tell ds (h o)).outbox
    one o p owes =
        subst (λ (x : Open). Owes start after (tell ds x).conn (tell ds x).outbox) (sym (does o))
        (subst (λ b. Owes start after o.conn b)
        (sym (told-calls place (wanted o.subs) ds (reached place (called_all place (ops o) o.outbox))))
        (calls-reached start after o.conn place (map (difference_op place (wanted o.subs)) ds)
        (called_all place (ops o) o.outbox) within
        (subst (λ b. Owes start after o.conn b)
        (called-append place (ops o) (map (difference_op place (wanted o.subs)) ds) o.outbox)
        (each o p owes))))
