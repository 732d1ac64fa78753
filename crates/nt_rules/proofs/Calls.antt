-- What a call answers and leaves, by whether its topic was found.
use Rattle.std.proofs.Common.{◌≡◌, ◌≤◌, ◌+◌, ◌++◌, ℕ, ℤ, pos, IfOk, subst, Bool, true, false, cond, leb, ltb, List, [], ◌∷◌, Option, Some, None, Result, Ok, Err, OnOk, length, set, refl, sym, ◌∙◌, ap, arith}
use Rattle.std.specs.List.{list_any}
use Rattle.std.proofs.lemmas.Bool.Decides.{nat_tests}
use Rattle.serde_json.specs.Data.{Data}
use Rattle.nt_topics.specs.Names.{is_special}
use Rattle.nt_rules.specs.Limits.{last_id, most_publishers, most_topics}
use Rattle.nt_rules.specs.declared.topic.Topic.{Topic}
use Rattle.nt_rules.specs.declared.topic.Change.{Change}
use Rattle.nt_rules.specs.declared.topic.Change.TheVariants.{Started}
use Rattle.nt_rules.specs.declared.topic.Pub.{Pub}
use Rattle.nt_values.specs.declared.value.Value.{Value}
use Rattle.nt_rules.specs.declared.topic.Cause.{Cause}
use Rattle.nt_rules.specs.declared.topic.Cause.TheVariants.{Special, UidInUse, PubsFull, PropsFull, TopicsFull, IdsSpent, NoSuchUid, NoTopic}
use Rattle.nt_rules.specs.declared.topic.Outcome.{Outcome}
use Rattle.nt_rules.specs.declared.topic.Outcome.TheVariants.{Done, Ignored}
use Rattle.nt_rules.specs.topics.Topics.{if_counts, change_first, change_at, if_it_lives_on, is_named, has_publisher, publishers_of, is_too_long, room_cause, new_cause, publish_cause, published, with_publisher, new_topic, next_after, unpublish_cause, unpublished, without_publisher, update_cause, update_cause_at, with_props, with_update, put_cause, put_cause_at, put_cause_to, with_put, with_value}
use Rattle.nt_rules.specs.topics.Changes.{outcome_of, if_found, publish_changes, unpublish_changes, update_changes, put_changes, end_of, update_change, put_change}
use Rattle.nt_rules.proofs.Positions.{IsFirst, change-set, change-first, set-change, set-counts, any-first, find-first, find-none}

-- a call that is refused answers the cause
pub ignored : (cause : Option Cause) (c : Cause) (changes : List Change) → cause ≡ Some c
    → Ignored c ≡ outcome_of cause changes
ignored cause c changes e = sym (ap (λ o. outcome_of o changes) e)

-- and changes nothing
pub unchanged : {X : Type 0} (cause : Option Cause) (c : Cause) (after before : X) → cause ≡ Some c
    → before ≡ if_counts cause after before
unchanged cause c after before e = sym (ap (λ o. if_counts o after before) e)

-- a call that counts answers its changes
pub done : (cause : Option Cause) (told changes : List Change) → cause ≡ None → told ≡ changes
    → Done told ≡ outcome_of cause changes
done cause told changes e h = ap Done h ∙ sym (ap (λ o. outcome_of o changes) e)

-- and leaves what it makes
pub counted : {X : Type 0} (cause : Option Cause) (left after before : X) → cause ≡ None → left ≡ after
    → left ≡ if_counts cause after before
counted cause left after before e h = h ∙ sym (ap (λ o. if_counts o after before) e)

-- a fact on an Ok leads to another
pub on-ok : {A E P Q : Type 0} (r : Result A E) → (P → Q) → OnOk r P → OnOk r Q
on-ok (Ok x) f h = f h
on-ok (Err e) f h = h

-- two facts on an Ok lead to another
pub on-ok-2 : {A E P Q R : Type 0} (r : Result A E) → (P → Q → R) → OnOk r P → OnOk r Q → OnOk r R
on-ok-2 (Ok x) f h k = f h k
on-ok-2 (Err e) f h k = h

-- the first topic that passes is changed, and taken out where nothing of it is left
pub settled-first : (test : Topic → Bool) (g : Topic → Topic) (ts : List Topic) (i : ℕ) (r y : Topic)
    → IsFirst test ts i r
    → y ≡ g r → change_at if_it_lives_on i (set ts i y) ≡ change_first test (λ t. if_it_lives_on (g t)) ts
settled-first test g ts i r y h e =
    change-set if_it_lives_on g ts i r y h.item e ∙ change-first test (λ t. if_it_lives_on (g t)) ts i r h

-- where a new topic isn't refused, its id isn't past the last one
pub next-within : (ts : List Topic) (next conn : ℕ) (uid : ℤ) (name : List ℕ) (props : Data)
    → publish_cause ts next conn uid name props ≡ None → list_any (is_named name) ts ≡ false → next ≤ last_id
next-within ts next conn uid name props e unnamed =
    by (is_special name) (list_any (has_publisher conn uid) ts) (leb most_publishers (publishers_of conn ts)) e
  where
    room : (b c : Bool) → ltb last_id next ≡ c → cond b (Some TopicsFull) (cond c (Some IdsSpent) None) ≡ None
        → next ≤ last_id
    room true c t e = absurd (cc)
    room false true t e = absurd (cc)
    room false false t e = grind (arith, nat_tests)

    new : (b : Bool) → cond b (Some PropsFull) (room_cause (length ts) next) ≡ None → next ≤ last_id
    new true e = absurd (cc)
    new false e = room (leb most_topics (length ts)) (ltb last_id next) refl e

    by : (b c d : Bool)
        → cond b (Some Special) (cond c (Some UidInUse)
        (cond d (Some PubsFull) (cond (list_any (is_named name) ts) None (new_cause (length ts) next props))))
        ≡ None
        → next ≤ last_id
    by true c d e = absurd (cc)
    by false true d e = absurd (cc)
    by false false true e = absurd (cc)
    by false false false e =
        new (is_too_long props) (sym (ap (λ b. cond b None (new_cause (length ts) next props)) unnamed) ∙ e)

-- ---- publish

-- the first cause that refuses a publish, by what is so
pub refused : (ts : List Topic) (next conn : ℕ) (uid : ℤ) (name : List ℕ) (props : Data)
    (special used full living : Bool)
    → is_special name ≡ special → list_any (has_publisher conn uid) ts ≡ used
    → leb most_publishers (publishers_of conn ts) ≡ full
    → list_any (is_named name) ts ≡ living
    → cond special (Some Special) (cond used (Some UidInUse)
    (cond full (Some PubsFull) (cond living None (new_cause (length ts) next props))))
    ≡ publish_cause ts next conn uid name props
refused ts next conn uid name props special used full living a b c d =
    sym (ap (λ s. cond s (Some Special)
    (cond (list_any (has_publisher conn uid) ts) (Some UidInUse)
    (cond (leb most_publishers (publishers_of conn ts)) (Some PubsFull)
    (cond (list_any (is_named name) ts) None (new_cause (length ts) next props))))) a
    ∙ ap (λ u. cond special (Some Special)
    (cond u (Some UidInUse) (cond (leb most_publishers (publishers_of conn ts)) (Some PubsFull)
    (cond (list_any (is_named name) ts) None (new_cause (length ts) next props))))) b
    ∙ ap (λ f. cond special (Some Special)
    (cond used (Some UidInUse) (cond f (Some PubsFull)
    (cond (list_any (is_named name) ts) None (new_cause (length ts) next props))))) c
    ∙ ap (λ l. cond special (Some Special)
    (cond used (Some UidInUse) (cond full (Some PubsFull) (cond l None (new_cause (length ts) next props))))) d)

-- a publish of a living topic adds the publisher, and tells nothing
module _ (ts : List Topic) (next : ℕ) (name typ : List ℕ) (props : Data) (p : Pub) where
  pub joined-changes : list_any (is_named name) ts ≡ true → [] ≡ publish_changes ts next name typ props
  joined-changes any = sym (ap (λ b. cond b [] (Started (pos next) name typ props ∷ [])) any)

  pub joined-topics : (i : ℕ) (r y : Topic) → IsFirst (is_named name) ts i r → y ≡ with_publisher p r
      → set ts i y ≡ published ts next name typ props p
  joined-topics i r y first e =
      set-change (λ t. Some (with_publisher p t)) ts i r y first.item (ap Some (sym e))
      ∙ change-first (is_named name) (λ t. Some (with_publisher p t)) ts i r first
      ∙ sym (ap (λ b. cond b (change_first (is_named name) (λ t. Some (with_publisher p t)) ts)
      (ts ++ new_topic next name typ props (p ∷ []) ∷ [])) (any-first (is_named name) ts i r first))

  pub joined-next : list_any (is_named name) ts ≡ true → next ≡ next_after ts next name
  joined-next any = sym (ap (λ b. cond b next (next + 1)) any)

  -- any other publish begins a topic
  pub begun-changes : list_any (is_named name) ts ≡ false
      → Started (pos next) name typ props ∷ [] ≡ publish_changes ts next name typ props
  begun-changes none = sym (ap (λ b. cond b [] (Started (pos next) name typ props ∷ [])) none)

  pub begun-topics : list_any (is_named name) ts ≡ false
      → ts ++ new_topic next name typ props (p ∷ []) ∷ [] ≡ published ts next name typ props p
  begun-topics none =
      sym (ap (λ b. cond b (change_first (is_named name) (λ t. Some (with_publisher p t)) ts)
      (ts ++ new_topic next name typ props (p ∷ []) ∷ [])) none)

  pub begun-next : list_any (is_named name) ts ≡ false → next + 1 ≡ next_after ts next name
  begun-next none = sym (ap (λ b. cond b next (next + 1)) none)

-- ---- unpublish

module _ (ts : List Topic) (conn : ℕ) (uid : ℤ) where
  -- where no topic has the publisher
  pub unpublish-none : list_any (has_publisher conn uid) ts ≡ false → unpublish_cause ts conn uid ≡ Some NoSuchUid
  unpublish-none none = ap (λ b. cond b None (Some NoSuchUid)) none

  -- where one has
  module _ (i : ℕ) (r : Topic) (first : IsFirst (has_publisher conn uid) ts i r) where
    pub unpublish-first : unpublish_cause ts conn uid ≡ None
    unpublish-first = ap (λ b. cond b None (Some NoSuchUid)) (any-first (has_publisher conn uid) ts i r first)

    pub unpublished-changes : end_of (without_publisher conn uid r) ≡ unpublish_changes ts conn uid
    unpublished-changes =
        sym (ap (if_found (λ t. end_of (without_publisher conn uid t)))
        (find-first (has_publisher conn uid) ts i r first))

    pub unpublished-topics : (y : Topic) → y ≡ without_publisher conn uid r
        → change_at if_it_lives_on i (set ts i y) ≡ unpublished ts conn uid
    unpublished-topics y e = settled-first (has_publisher conn uid) (without_publisher conn uid) ts i r y first e

-- ---- properties

module _ (ts : List Topic) (name : List ℕ) (u : Data) where
  -- where no topic has the name
  pub update-none : list_any (is_named name) ts ≡ false → update_cause ts name u ≡ Some NoTopic
  update-none none = ap (update_cause_at u) (find-none (is_named name) ts none)

  -- where one has
  module _ (i : ℕ) (r : Topic) (first : IsFirst (is_named name) ts i r) where
    pub update-first : (b : Bool) → is_too_long (with_update u r).props ≡ b
        → update_cause ts name u ≡ cond b (Some PropsFull) None
    update-first b e =
        ap (update_cause_at u) (find-first (is_named name) ts i r first) ∙ ap (λ b. cond b (Some PropsFull) None) e

    pub updated-changes : update_change u r ≡ update_changes ts name u
    updated-changes = sym (ap (if_found (update_change u)) (find-first (is_named name) ts i r first))

    pub updated-topics : (y : Topic) → y ≡ with_update u r → change_at if_it_lives_on i (set ts i y)
        ≡ with_props ts name u
    updated-topics y e = settled-first (is_named name) (with_update u) ts i r y first e

-- ---- put

module _ (ts : List Topic) (conn : ℕ) (uid : ℤ) (time : ℕ) (value : Value) where
  -- where no topic has the publisher
  pub put-none : list_any (has_publisher conn uid) ts ≡ false → put_cause ts conn uid time value ≡ Some NoSuchUid
  put-none none = ap (put_cause_at conn uid time value) (find-none (has_publisher conn uid) ts none)

  -- where one has
  module _ (i : ℕ) (r : Topic) (first : IsFirst (has_publisher conn uid) ts i r) where
    pub put-answer : {E : Type 0} (result : Result Outcome E)
        → IfOk result (λ o. o ≡ outcome_of (put_cause_to conn uid time value r) (put_change time value r))
        → IfOk result (λ o. o ≡ outcome_of (put_cause ts conn uid time value) (put_changes ts conn uid time value))
    put-answer result h =
        subst (λ found. IfOk result (λ o. o
        ≡ outcome_of (put_cause_at conn uid time value found) (if_found (put_change time value) found)))
        (sym (find-first (has_publisher conn uid) ts i r first)) h

    pub put-topics : {E : Type 0} (result : Result Outcome E) (y : Topic)
        → OnOk result (y ≡ if_counts (put_cause_to conn uid time value r) (with_value time value r) r)
        → OnOk result (set ts i y ≡ if_counts (put_cause ts conn uid time value) (with_put ts conn uid time value) ts)
    put-topics result y h =
        on-ok result
        (λ e. set-counts (has_publisher conn uid) (with_value time value) (put_cause_to conn uid time value r) ts i r y
        first e
        ∙ sym (ap (λ found. if_counts (put_cause_at conn uid time value found) (with_put ts conn uid time value) ts)
        (find-first (has_publisher conn uid) ts i r first)))
        h
