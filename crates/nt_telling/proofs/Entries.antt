-- What an entry makes of the life of each id.
use Rattle.std.proofs.Common.{◌≡◌, ℕ, ℤ, ◌+◌, ◌&&◌, ◌==◌, leb, is_none, Bool, true, false, cond, List, [], ◌∷◌, ◌++◌}
use Rattle.std.proofs.Common.{map, length, Option, Some, None, option_map, find, refl, sym, ap, subst, ◌∙◌, ◌⊎◌, inl}
use Rattle.std.proofs.Common.{inr}
use Rattle.std.specs.List.{list_any}
use Rattle.std.specs.Option.{option_or}
use Rattle.std.proofs.lemmas.Bool.{true≢false, eqb-true, eqb-false, and_parts}
use Rattle.std.proofs.lemmas.List.Folds.{find-append}
use Rattle.serde_json.specs.Data.{Data}
use Rattle.nt_values.specs.declared.value.Value.{Value}
use Rattle.nt_topics.specs.Names.{is_special}
use Rattle.nt_control.specs.declared.message.ClientMsg.{ClientMsg}
use Rattle.nt_control.specs.declared.message.ClientMsg.TheVariants.{Publish, Unpublish, SetProps, Subscribe}
use Rattle.nt_control.specs.declared.message.ClientMsg.TheVariants.{Unsubscribe}
use Rattle.nt_rules.specs.Limits.{most_publishers}
use Rattle.nt_rules.specs.declared.topic.Pub.{Pub}
use Rattle.nt_rules.specs.declared.topic.Topic.{Topic}
use Rattle.nt_rules.specs.declared.topic.Cause.{Cause}
use Rattle.nt_rules.specs.declared.topic.Cause.TheVariants.{NoConn, Special, UidInUse, PubsFull}
use Rattle.nt_rules.specs.topics.Topics.{is_named, has_publisher, has_conn, lives_on, publishers_of, publish_cause}
use Rattle.nt_rules.specs.topics.Topics.{new_cause}
use Rattle.nt_rules.specs.outbox.Marks.{is_meta}
use Rattle.nt_rules.specs.declared.act.Msg.{Msg}
use Rattle.nt_rules.specs.declared.act.Msg.TheVariants as msg
use Rattle.nt_rules.specs.declared.act.Deed.{Deed}
use Rattle.nt_rules.specs.declared.act.Deed.TheVariants.{Opened, NotOpened, Said, Drained, Closed, Permitted, NoPermit}
use Rattle.nt_rules.specs.declared.act.Deed.TheVariants.{Shut}
use Rattle.nt_rules.specs.history.Lives.{Life, Publishing, topics, topic_of, is_living, at_first, at_living, or_ended}
use Rattle.nt_rules.specs.history.Lives.{with_publishing, born, without_publisher, without_conn, with_setting}
use Rattle.nt_rules.specs.history.Lives.{with_a_put, closed_for}
use Rattle.nt_rules.specs.history.Now.{Now, is_open_for, cause_of, is_traced, connections_after, lives_after, closed}
use Rattle.nt_rules.specs.history.Now.{after_deed}
use Rattle.nt_rules.specs.history.Owed.{life_at, set_on}
use Rattle.nt_laws.proofs.histories.Facts.{IsNumberedLives}
use Rattle.nt_laws.proofs.topics.FoundLives.{rising-numbered, life-map, life-first, first-none, found-at, find-topics}
use Rattle.nt_laws.proofs.topics.Turns.{setting-id, setting-name}
use Rattle.nt_laws.proofs.marks.MarksById.{AreRising}
use Rattle.nt_topics.specs.Trees.{IsOrdered}
use Rattle.nt_rules.specs.history.Trees.{HasTreeIn}
use Rattle.nt_telling.proofs.LifeKeys.{life-id}
use Rattle.nt_telling.proofs.Growing.{Stays, stays-same, stays-put}
use Rattle.nt_laws.proofs.topics.FoundLives.{found-passes}

-- ---- how a life comes out of an entry

-- it stays, and the entry changes no properties of it; it ends; or the entry changes its properties. `set` is the id of
-- the
-- life whose properties are changed
abbrev pub Came : ℕ → ℕ → Option ℕ → Life → Life → Type 0
Came place conn set l l' =
    (Stays place l l' × (l'.over ≡ l.over) × (set ≡ Some l.id → ⊥))
    ⊎ (((l.over ≡ None) × (l'.over ≡ Some place) × (l'.id ≡ l.id) × (l'.name ≡ l.name))
    ⊎ ((u : Data) × (set ≡ Some l.id) × (l.over ≡ None) × (l' ≡ with_setting place conn u l)))

-- a life that began
pub record IsBorn (l : Life) : Type 0 where
  pub living : l.over ≡ None
  pub settings_none : l.settings ≡ []
  pub ordered : IsOrdered l.props
  pub plain : is_meta l.id ≡ false → is_special l.name ≡ false

-- a life isn't lost
abbrev pub CameTo : ℕ → ℕ → Option ℕ → Option Life → Option Life → Type 0
CameTo place conn set None None = Unit {0}
CameTo place conn set None (Some l') = IsBorn l'
CameTo place conn set (Some l) None = ⊥
CameTo place conn set (Some l) (Some l') = Came place conn set l l'

came-same : (place conn : ℕ) (set : Option ℕ) (o : Option Life) → ((l : Life) → o ≡ Some l → set ≡ Some l.id → ⊥)
    → CameTo place conn set o o
came-same place conn set None n = tt
came-same place conn set (Some l) n = inl (stays-same place l, refl, n l refl)

none-set : (id : ℕ) → None ≡ Some id → ⊥
none-set id e = cc

over-none : (o : Option ℕ) → is_none o ≡ true → o ≡ None
over-none None e = refl
over-none (Some p) e = absurd (true≢false (sym e))

-- ---- a change of the first life that passes

came-first : (place conn : ℕ) (set : Option ℕ) (test : Life → Bool) (f : Life → Life) → ((l : Life) → (f l).id ≡ l.id)
    → (lives : List Life) → AreRising lives
    → ((m : Life) → find test lives ≡ Some m → (id : ℕ) → set ≡ Some id → id ≡ m.id)
    → (find test lives ≡ None → (id : ℕ) → set ≡ Some id → ⊥)
    → ((m : Life) → find test lives ≡ Some m → Came place conn set m (f m))
    → (k : ℕ) → CameTo place conn set (life_at k lives) (life_at k (at_first test f lives))
came-first place conn set test f ids lives rise other nobody comes k = by (find test lives) refl
  where
    by : (o : Option Life) → find test lives ≡ o
        → CameTo place conn set (life_at k lives) (life_at k (at_first test f lives))
    by None e =
        subst (λ ls. CameTo place conn set (life_at k lives) (life_at k ls)) (sym (first-none test f lives e))
        (came-same place conn set (life_at k lives) (λ l is. nobody e l.id))
    by (Some m) e =
        subst (CameTo place conn set (life_at k lives)) (sym (life-first test f ids k lives m rise e))
        (at (m.id == k) refl)
      where
        at : (b : Bool) → (m.id == k) ≡ b
            → CameTo place conn set (life_at k lives) (cond b (Some (f m)) (life_at k lives))
        at true t =
            subst (λ o. CameTo place conn set o (Some (f m)))
            (sym (ap (λ i. life_at i lives) (sym (eqb-true m.id k t)) ∙ found-at test lives m rise e)) (comes m e)
        at false t =
            came-same place conn set (life_at k lives)
            (λ l is s. eqb-false m.id k t (sym (other m e l.id s) ∙ life-id k lives l is))

-- a change of publishers alone
stays-pubs : (place : ℕ) (pubs : List Pub) (publishings : List Publishing) (l : Life)
    → Stays place l (record l { pubs = pubs; publishings = publishings })
stays-pubs place pubs publishings l = record {
  id_is = refl;
  name_is = refl;
  typ_is = refl;
  props_is = refl;
  turn_is = refl;
  settings_is = refl;
  puts_are = λ q low. inl refl;
  bounded = λ next low h. h;
}

-- a life that may end with it
came-ended : (place conn : ℕ) (set : Option ℕ) (l x : Life) → Came place conn set l x → l.over ≡ None → x.id ≡ l.id
    → x.name ≡ l.name
    → Came place conn set l (or_ended place x)
came-ended place conn set l x c over id name = by (lives_on (topic_of x))
  where
    by : (b : Bool) → Came place conn set l (cond b x (record x { over = Some place }))
    by true = c
    by false = inr (inl (over, refl, id, name))

living-over : (l : Life) (b : Bool) → (is_living l && b) ≡ true → l.over ≡ None
living-over l b e = over-none l.over (and_parts (is_living l) b e).0

-- ---- messages

-- a control message that leaves a trace counts
counts : (m : ClientMsg) (c : Option Cause) → is_traced (msg.Control m) c ≡ true → c ≡ None
counts m None e = refl
counts m (Some cause) e = absurd (true≢false (sym e))

not-counts : (m : ClientMsg) (c : Option Cause) → is_traced (msg.Control m) c ≡ false → is_none c ≡ false
not-counts m None e = absurd (true≢false e)
not-counts m (Some cause) e = refl

-- a publish that counts has a name that isn't special
plain-name : (ts : List Topic) (next conn : ℕ) (uid : ℤ) (name : List ℕ) (props : Data)
    → publish_cause ts next conn uid name props ≡ None → is_special name ≡ false
plain-name ts next conn uid name props e = by (is_special name) e
  where
    other : Option Cause
    other =
        cond (list_any (has_publisher conn uid) ts) (Some UidInUse)
        (cond (leb most_publishers (publishers_of conn ts)) (Some PubsFull)
        (cond (list_any (is_named name) ts) None (new_cause (length ts) next props)))

    by : (b : Bool) → cond b (Some Special) other ≡ None → b ≡ false
    by true e = cc
    by false e = refl

open-cause : (b : Bool) (c : Option Cause) → cond b c (Some NoConn) ≡ None → c ≡ None
open-cause true c e = e
open-cause false c e = cc

-- ---- which properties are changed

abbrev pub first_named : List ℕ → List Life → Option Life
first_named name lives = find (λ l. is_living l && is_named name (topic_of l)) lives

set-is : (n : Now) (worker conn : ℕ) (name : List ℕ) (u : Data)
    → set_on n worker conn (Said (msg.Control (SetProps name u)))
    ≡ cond (is_none (cause_of n worker conn (msg.Control (SetProps name u))))
    (option_map (λ (l : Life). l.id) (first_named name n.lives)) None
set-is n worker conn name u =
    ap (λ o. cond (is_none (cause_of n worker conn (msg.Control (SetProps name u)))) o None)
    (ap (option_map (λ (t : Topic). t.id)) (find-topics (is_named name) n.lives) ∙ twice (first_named name n.lives))
  where
    twice : (o : Option Life) → option_map (λ (t : Topic). t.id) (option_map topic_of o)
        ≡ option_map (λ (l : Life). l.id) o
    twice None = refl
    twice (Some l) = refl

module _ (n : Now) (worker conn : ℕ) (numbered : IsNumberedLives 1 n.lives) where
  rise : AreRising n.lives
  rise = rising-numbered 1 n.lives numbered

  -- none of another deed
  still : (set : Option ℕ) (lives : List Life) → set ≡ None → (k : ℕ)
      → CameTo (n.place + 1) conn set (life_at k lives) (life_at k lives)
  still set lives e k = came-same (n.place + 1) conn set (life_at k lives) (λ l is s. none-set l.id (sym e ∙ s))

  -- the first life that passes, by another deed than a change of properties
  changed-first : (test : Life → Bool) (f : Life → Life) → ((l : Life) → (f l).id ≡ l.id)
      → ((m : Life) → find test n.lives ≡ Some m → Came (n.place + 1) conn None m (f m))
      → (k : ℕ) → CameTo (n.place + 1) conn None (life_at k n.lives) (life_at k (at_first test f n.lives))
  changed-first test f ids comes k =
      came-first (n.place + 1) conn None test f ids n.lives rise (λ m e id s. absurd (none-set id s))
      (λ e id s. none-set id s) comes k

  id-ended : (l : Life) → (or_ended (n.place + 1) l).id ≡ l.id
  id-ended l = by (lives_on (topic_of l))
    where
      by : (b : Bool) → (cond b l (record l { over = Some (n.place + 1) })).id ≡ l.id
      by true = refl
      by false = refl

  published-came : (uid : ℤ) (name typ : List ℕ) (props : Data) → IsOrdered props → is_special name ≡ false → (k : ℕ)
      → CameTo (n.place + 1) conn None (life_at k n.lives)
      (life_at k (lives_after (n.place + 1) n.lives conn (msg.Control (Publish name uid typ props))))
  published-came uid name typ props ordered plain k = by (list_any (is_named name) (topics n.lives))
    where
      p : Pub
      p = record { conn = conn; uid = uid; typ = typ }

      new : Life
      new = born (n.place + 1) (length n.lives + 1) name typ props p

      born-new : IsBorn new
      born-new = record { living = refl; settings_none = refl; ordered = ordered; plain = λ e. plain }

      pushed : (o : Option Life) (b : Bool) → life_at k n.lives ≡ o
          → CameTo (n.place + 1) conn None o (option_or o (cond b (Some new) None))
      pushed (Some l) b e = came-same (n.place + 1) conn None (Some l) (λ m is s. none-set m.id s)
      pushed None true e = born-new
      pushed None false e = tt

      by : (b : Bool)
          → CameTo (n.place + 1) conn None (life_at k n.lives)
          (life_at k (cond b (at_living (is_named name) (with_publishing (n.place + 1) p) n.lives)
          (n.lives ++ new ∷ [])))
      by true =
          changed-first (λ l. is_living l && is_named name (topic_of l)) (with_publishing (n.place + 1) p) (λ l. refl)
          (λ m e. inl (
            stays-pubs (n.place + 1) (with_publishing (n.place + 1) p m).pubs
                (with_publishing (n.place + 1) p m).publishings m,
            refl,
            none-set m.id,
          )) k
      by false =
          subst (CameTo (n.place + 1) conn None (life_at k n.lives))
          (sym (find-append (λ l. l.id == k) n.lives (new ∷ [])))
          (pushed (life_at k n.lives) (new.id == k) refl)

  set-came : (name : List ℕ) (u : Data) → cause_of n worker conn (msg.Control (SetProps name u)) ≡ None → (k : ℕ)
      → CameTo (n.place + 1) conn (set_on n worker conn (Said (msg.Control (SetProps name u)))) (life_at k n.lives)
      (life_at k (lives_after (n.place + 1) n.lives conn (msg.Control (SetProps name u))))
  set-came name u counted k =
      came-first (n.place + 1) conn set test f
      (λ l. id-ended (with_setting (n.place + 1) conn u l) ∙ setting-id (n.place + 1) conn u l)
      n.lives rise other nobody comes k
    where
      set : Option ℕ
      set = set_on n worker conn (Said (msg.Control (SetProps name u)))

      test : Life → Bool
      test l = is_living l && is_named name (topic_of l)

      f : Life → Life
      f l = or_ended (n.place + 1) (with_setting (n.place + 1) conn u l)

      is : (o : Option Life) → first_named name n.lives ≡ o
          → set_on n worker conn (Said (msg.Control (SetProps name u))) ≡ option_map (λ (l : Life). l.id) o
      is o e =
          set-is n worker conn name u
          ∙ ap (λ c. cond (is_none c) (option_map (λ (l : Life). l.id) (first_named name n.lives)) None) counted
          ∙ ap (option_map (λ (l : Life). l.id)) e

      some-id : (a b : ℕ) → Some a ≡ Some b → b ≡ a
      some-id a b e = cc

      other : (m : Life) → first_named name n.lives ≡ Some m → (id : ℕ)
          → set_on n worker conn (Said (msg.Control (SetProps name u))) ≡ Some id → id ≡ m.id
      other m e id s = some-id m.id id (sym (is (Some m) e) ∙ s)

      nobody : first_named name n.lives ≡ None → (id : ℕ)
          → set_on n worker conn (Said (msg.Control (SetProps name u))) ≡ Some id → ⊥
      nobody e id s = none-set id (sym (is None e) ∙ s)

      comes : (m : Life) → first_named name n.lives ≡ Some m
          → Came (n.place + 1) conn (set_on n worker conn (Said (msg.Control (SetProps name u)))) m
          (or_ended (n.place + 1) (with_setting (n.place + 1) conn u m))
      comes m e =
          let over : m.over ≡ None =
          living-over m (is_named name (topic_of m))
          (found-passes (λ l. is_living l && is_named name (topic_of l)) n.lives m e) in
          came-ended (n.place + 1) conn _ m (with_setting (n.place + 1) conn u m)
          (inr (inr (u, is (Some m) e, over, refl))) over (setting-id (n.place + 1) conn u m)
          (setting-name (n.place + 1) conn u m)

  unpublished-came : (uid : ℤ) (k : ℕ)
      → CameTo (n.place + 1) conn None (life_at k n.lives)
      (life_at k (lives_after (n.place + 1) n.lives conn (msg.Control (Unpublish uid))))
  unpublished-came uid k =
      changed-first (λ l. is_living l && has_publisher conn uid (topic_of l))
      (λ l. or_ended (n.place + 1) (without_publisher conn uid l))
      (λ l. id-ended (without_publisher conn uid l))
      (λ m e.
      came-ended (n.place + 1) conn None m (without_publisher conn uid m)
      (inl (stays-pubs (n.place + 1) (without_publisher conn uid m).pubs m.publishings m, refl, none-set m.id))
      (living-over m (has_publisher conn uid (topic_of m))
      (found-passes (λ l. is_living l && has_publisher conn uid (topic_of l)) n.lives m e)) refl refl) k

  put-came : (uid : ℤ) (time : ℕ) (value : Value) (k : ℕ)
      → CameTo (n.place + 1) conn None (life_at k n.lives)
      (life_at k (at_living (has_publisher conn uid)
      (with_a_put (record { place = n.place + 1; time = time; value = value })) n.lives))
  put-came uid time value k =
      changed-first (λ l. is_living l && has_publisher conn uid (topic_of l))
      (with_a_put (record { place = n.place + 1; time = time; value = value })) (λ l. refl)
      (λ m e. inl (
        stays-put (n.place + 1)
            (record { place = n.place + 1; time = time; value = value }) m refl,
        refl,
        none-set m.id,
      )) k

  closed-came : (k : ℕ) → CameTo (n.place + 1) conn None (life_at k n.lives)
      (life_at k (map (closed_for (n.place + 1) conn) n.lives))
  closed-came k =
      subst (CameTo (n.place + 1) conn None (life_at k n.lives))
      (sym (life-map (closed_for (n.place + 1) conn) ids k n.lives)) (by (life_at k n.lives))
    where
      ids : (l : Life) → (closed_for (n.place + 1) conn l).id ≡ l.id
      ids l = at (is_living l && has_conn conn (topic_of l))
        where
          at : (b : Bool) → (cond b (or_ended (n.place + 1) (without_conn conn l)) (without_conn conn l)).id ≡ l.id
          at true = id-ended (without_conn conn l)
          at false = refl

      by : (o : Option Life) → CameTo (n.place + 1) conn None o (option_map (closed_for (n.place + 1) conn) o)
      by None = tt
      by (Some l) = at (is_living l && has_conn conn (topic_of l)) refl
        where
          left : Came (n.place + 1) conn None l (without_conn conn l)
          left = inl (stays-pubs (n.place + 1) (without_conn conn l).pubs l.publishings l, refl, none-set l.id)

          at : (b : Bool) → (is_living l && has_conn conn (topic_of l)) ≡ b
              → Came (n.place + 1) conn None l
              (cond b (or_ended (n.place + 1) (without_conn conn l)) (without_conn conn l))
          at true e = came-ended (n.place + 1) conn None l (without_conn conn l) left
              (living-over l (has_conn conn (topic_of l)) e) refl refl
          at false e = left

  -- ---- each deed

  said-came : (m : Msg) → HasTreeIn (Said m) → is_traced m (cause_of n worker conn m) ≡ true → (k : ℕ)
      → CameTo (n.place + 1) conn (set_on n worker conn (Said m)) (life_at k n.lives)
      (life_at k (lives_after (n.place + 1) n.lives conn m))
  said-came (msg.Control (Publish name uid typ props)) tree traced k =
      published-came uid name typ props tree
      (plain-name (topics n.lives) (length n.lives + 1) conn uid name props
      (open-cause (is_open_for n.connections worker conn) _ (counts (Publish name uid typ props) _ traced))) k
  said-came (msg.Control (Unpublish uid)) tree traced k = unpublished-came uid k
  said-came (msg.Control (SetProps name u)) tree traced k = set-came name u (counts (SetProps name u) _ traced) k
  said-came (msg.Control (Subscribe uid sub)) tree traced k = still None n.lives refl k
  said-came (msg.Control (Unsubscribe uid)) tree traced k = still None n.lives refl k
  said-came (msg.Put v) tree traced k = put-came v.id v.time v.value k

  untraced-none : (m : Msg) → is_traced m (cause_of n worker conn m) ≡ false → set_on n worker conn (Said m) ≡ None
  untraced-none (msg.Control (Publish name uid typ props)) e = refl
  untraced-none (msg.Control (Unpublish uid)) e = refl
  untraced-none (msg.Control (SetProps name u)) e =
      ap (λ b. cond b (option_map (λ (t : Topic). t.id) (find (is_named name) (topics n.lives))) None)
      (not-counts (SetProps name u) _ e)
  untraced-none (msg.Control (Subscribe uid sub)) e = refl
  untraced-none (msg.Control (Unsubscribe uid)) e = refl
  untraced-none (msg.Put v) e = refl

  pub client-came : (d : Deed) → HasTreeIn d → (k : ℕ)
      → CameTo (n.place + 1) conn (set_on n worker conn d) (life_at k n.lives)
      (life_at k (after_deed n worker conn d).lives)
  client-came (Opened name) tree k = still None n.lives refl k
  client-came NotOpened tree k = still None n.lives refl k
  client-came (Said m) tree k = by (is_traced m (cause_of n worker conn m)) refl
    where
      by : (b : Bool) → is_traced m (cause_of n worker conn m) ≡ b
          → CameTo (n.place + 1) conn (set_on n worker conn (Said m)) (life_at k n.lives)
          (life_at k (cond b (record n {
            connections = connections_after n.connections conn m;
            lives =
                lives_after (n.place + 1) n.lives conn m;
          }) n).lives)
      by true e = said-came m tree e k
      by false e = still (set_on n worker conn (Said m)) n.lives (untraced-none m e) k
  client-came (Drained batch) tree k = still None n.lives refl k
  client-came Closed tree k = by (is_open_for n.connections worker conn)
    where
      by : (b : Bool)
          → CameTo (n.place + 1) conn None (life_at k n.lives)
          (life_at k (cond b (record n {
            connections = closed (n.place + 1) conn n.connections;
            lives =
                map (closed_for (n.place + 1) conn) n.lives;
          }) n).lives)
      by true = closed-came k
      by false = still None n.lives refl k
  client-came Permitted tree k = still None n.lives refl k
  client-came NoPermit tree k = still None n.lives refl k
  client-came Shut tree k = still None n.lives refl k

  -- the id of a life whose properties are changed is a client topic's
  pub set-found : (d : Deed) (id : ℕ) → set_on n worker conn d ≡ Some id → (l : Life) × (life_at id n.lives ≡ Some l)
  set-found (Opened name) id s = cc
  set-found NotOpened id s = cc
  set-found (Said (msg.Control (Publish name uid typ props))) id s = cc
  set-found (Said (msg.Control (Unpublish uid))) id s = cc
  set-found (Said (msg.Control (SetProps name u))) id s =
      by (is_none (cause_of n worker conn (msg.Control (SetProps name u)))) (first_named name n.lives) refl
      (sym (set-is n worker conn name u) ∙ s)
    where
      by : (b : Bool) (o : Option Life) → first_named name n.lives ≡ o
          → cond b (option_map (λ (l : Life). l.id) o) None ≡ Some id
          → (l : Life) × (life_at id n.lives ≡ Some l)
      by false o e f = cc
      by true None e f = cc
      by true (Some l) e f =
          let same : l.id ≡ id = cc in (
            l,
            ap (λ i. life_at i n.lives) (sym same)
                ∙ found-at (λ m. is_living m && is_named name (topic_of m)) n.lives l rise e,
          )
  set-found (Said (msg.Control (Subscribe uid sub))) id s = cc
  set-found (Said (msg.Control (Unsubscribe uid))) id s = cc
  set-found (Said (msg.Put v)) id s = cc
  set-found (Drained batch) id s = cc
  set-found Closed id s = cc
  set-found Permitted id s = cc
  set-found NoPermit id s = cc
  set-found Shut id s = cc
