-- In every history no two publishers of one connection have the same uid.
use Rattle.std.proofs.Common.{◌≡◌, ◌≤◌, ◌+◌, ◌==◌, ◌&&◌, ℕ, ℤ, Bool, true, false, cond, List, [], ◌∷◌, ◌++◌, Some, None}
use Rattle.std.proofs.Common.{map, filter, length, refl, sym, ◌∙◌, ap, subst, arith}
use Rattle.std.specs.List.{list_any, flat_map, cons_option}
use Rattle.std.specs.Ordering.{int_eq}
use Rattle.std.proofs.lemmas.Bool.{and_parts}
use Rattle.std.proofs.lemmas.Bool.Decides.{nat_tests, Decides-int_eq}
use Rattle.serde_json.specs.Data.{Data}
use Rattle.nt_rules.specs.declared.topic.Pub.{Pub}
use Rattle.nt_rules.specs.declared.topic.Topic.{Topic}
use Rattle.nt_rules.specs.declared.topic.Saved.{Saved}
use Rattle.nt_rules.specs.topics.Topics.{is_publisher, is_of, has_publisher, has_conn, lives_on}
use Rattle.nt_rules.specs.declared.roster.PubRow.{PubRow}
use Rattle.nt_rules.specs.declared.act.Entry.{Entry}
use Rattle.nt_rules.specs.declared.start.Start.{Start}
use Rattle.nt_rules.specs.history.Lives.{Life, topic_of, topics, is_living, at_first, or_ended, with_publishing, born}
use Rattle.nt_rules.specs.history.Lives.{without_publisher, without_conn, with_setting, with_a_put, closed_for}
use Rattle.nt_rules.specs.history.Lives.{restored}
use Rattle.nt_rules.specs.history.Now.{now_of}
use Rattle.nt_rules.specs.history.Metas.{pub_row}
use Rattle.nt_laws.proofs.histories.Histories.{lives-keep}
use Rattle.nt_laws.proofs.topics.Different.{AreDifferent, many, many-append, single-different}
use Rattle.nt_laws.proofs.topics.OneName.{or-false}
use Rattle.nt_laws.proofs.topics.Turns.{setting-by}

-- ---- how many publishers have a uid

module _ (conn : ℕ) (uid : ℤ) where
  abbrev pub one_use : Pub → ℕ
  one_use p = cond (is_publisher conn uid p) 1 0

  abbrev pub uses : List Pub → ℕ
  uses [] = 0
  uses (p ∷ ps) = one_use p + uses ps

  -- of the topic of a life that goes on
  abbrev pub uses_of : Life → ℕ
  uses_of l = cond (is_living l) (uses l.pubs) 0

  abbrev pub all_uses : List Life → ℕ
  all_uses [] = 0
  all_uses (l ∷ lives) = uses_of l + all_uses lives

  uses-push : (ps : List Pub) (p : Pub) → uses (ps ++ p ∷ []) ≡ uses ps + one_use p
  uses-push [] p = omega arith
  uses-push (q ∷ ps) p = let more = uses-push ps p in omega arith

  uses-filter : (test : Pub → Bool) (ps : List Pub) → uses (filter test ps) ≤ uses ps
  uses-filter test [] = omega arith
  uses-filter test (p ∷ ps) = by (test p) (uses-filter test ps)
    where
      by : (b : Bool) → uses (filter test ps) ≤ uses ps
          → uses (cond b (p ∷ filter test ps) (filter test ps)) ≤ one_use p + uses ps
      by true more = omega arith
      by false more = omega arith

  all-push : (lives : List Life) (l : Life) → all_uses (lives ++ l ∷ []) ≡ all_uses lives + uses_of l
  all-push [] l = omega arith
  all-push (m ∷ lives) l = let more = all-push lives l in omega arith

  -- a change of the first life that passes a test adds at most so many
  all-at : (test : Life → Bool) (f : Life → Life) (more : ℕ) → ((l : Life) → uses_of (f l) ≤ uses_of l + more)
      → (lives : List Life) → all_uses (at_first test f lives) ≤ all_uses lives + more
  all-at test f more h [] = omega arith
  all-at test f more h (l ∷ lives) = by (test l) (h l) (all-at test f more h lives)
    where
      by : (b : Bool) → uses_of (f l) ≤ uses_of l + more
          → all_uses (at_first test f lives) ≤ all_uses lives + more
          → all_uses (cond b (f l ∷ lives) (l ∷ at_first test f lives)) ≤ uses_of l + all_uses lives + more
      by true here rest = omega arith
      by false here rest = omega arith

  all-map : (f : Life → Life) → ((l : Life) → uses_of (f l) ≤ uses_of l) → (lives : List Life)
      → all_uses (map f lives) ≤ all_uses lives + 0
  all-map f h [] = omega arith
  all-map f h (l ∷ lives) = let here = h l in let rest = all-map f h lives in omega arith

  -- fewer publishers
  fewer : (l : Life) (pubs : List Pub) → uses pubs ≤ uses l.pubs → uses_of (record l { pubs = pubs }) ≤ uses_of l
  fewer l pubs h = by (is_living l)
    where
      by : (b : Bool) → cond b (uses pubs) 0 ≤ cond b (uses l.pubs) 0
      by true = h
      by false = omega arith

  -- none, where it ends
  ended-uses : (place : ℕ) (l : Life) → uses_of (or_ended place l) ≤ uses_of l
  ended-uses place l = by (lives_on (topic_of l))
    where
      by : (b : Bool) → uses_of (cond b l (record l { over = Some place })) ≤ uses_of l
      by true = omega arith
      by false = omega arith

  joined-uses : (place : ℕ) (p : Pub) (l : Life) → uses_of (with_publishing place p l) ≤ uses_of l + one_use p
  joined-uses place p l = by (is_living l)
    where
      by : (b : Bool) → cond b (uses (l.pubs ++ p ∷ [])) 0 ≤ cond b (uses l.pubs) 0 + one_use p
      by true = let more = uses-push l.pubs p in omega arith
      by false = omega arith

  left-uses : (place sender : ℕ) (other : ℤ) (l : Life)
      → uses_of (or_ended place (without_publisher sender other l)) ≤ uses_of l + 0
  left-uses place sender other l =
      let less = fewer l (without_publisher sender other l).pubs (uses-filter _ l.pubs) in
      let last = ended-uses place (without_publisher sender other l) in
      omega arith

  set-uses : (place sender : ℕ) (u : Data) (l : Life)
      → uses_of (or_ended place (with_setting place sender u l)) ≤ uses_of l + 0
  set-uses place sender u l =
      let last = ended-uses place (with_setting place sender u l) in
      let same : uses_of (with_setting place sender u l) ≡ uses_of l =
      setting-by place sender u l (λ m. uses_of m ≡ uses_of l) refl refl in
      omega arith

  closed-uses : (place sender : ℕ) (l : Life) → uses_of (closed_for place sender l) ≤ uses_of l
  closed-uses place sender l =
      by (is_living l && has_conn sender (topic_of l))
      (fewer l (without_conn sender l).pubs (uses-filter _ l.pubs)) (ended-uses place (without_conn sender l))
    where
      by : (b : Bool) → uses_of (without_conn sender l) ≤ uses_of l
          → uses_of (or_ended place (without_conn sender l)) ≤ uses_of (without_conn sender l)
          → uses_of (cond b (or_ended place (without_conn sender l)) (without_conn sender l)) ≤ uses_of l
      by true less last = omega arith
      by false less last = less

  restored-uses : (id : ℕ) (saved : List Saved) → all_uses (restored id saved) ≡ 0
  restored-uses id [] = refl
  restored-uses id (s ∷ saved) = let more = restored-uses (id + 1) saved in omega arith

  -- none, where no topic has a publisher of it
  no-uses : (ps : List Pub) → list_any (is_publisher conn uid) ps ≡ false → uses ps ≡ 0
  no-uses [] e = refl
  no-uses (p ∷ ps) e =
      let both = or-false (is_publisher conn uid p) (list_any (is_publisher conn uid) ps) e in
      ap (λ b. cond b 1 0 + uses ps) both.0 ∙ ap (λ n. 0 + n) (no-uses ps both.1)

  free-uses : (lives : List Life) → list_any (has_publisher conn uid) (topics lives) ≡ false → all_uses lives ≡ 0
  free-uses [] e = refl
  free-uses (l ∷ lives) e = by (is_living l) (λ none. free-uses lives none) e
    where
      by : (b : Bool) → (list_any (has_publisher conn uid) (topics lives) ≡ false → all_uses lives ≡ 0)
          → list_any (has_publisher conn uid) (cons_option (cond b (Some (topic_of l)) None) (topics lives)) ≡ false
          → cond b (uses l.pubs) 0 + all_uses lives ≡ 0
      by true more e =
          let both = or-false (list_any (is_publisher conn uid) l.pubs)
          (list_any (has_publisher conn uid) (topics lives)) e in
          let here = no-uses l.pubs both.0 in
          let rest = more both.1 in
          omega arith
      by false more e = let rest = more e in omega arith

  -- the rows of publishers that have it
  module _ (t : Topic) where
    uses-rows : (ps : List Pub)
        → many (λ (r : PubRow). r.uid) (λ uid r. int_eq r.uid uid) (λ uid r. Decides-int_eq r.uid uid) uid
        (map (pub_row t) (filter (is_of conn) ps)) ≡ uses ps
    uses-rows [] = refl
    uses-rows (p ∷ ps) = by (p.conn == conn) (uses-rows ps)
      where
        by : (b : Bool)
            → many (λ (r : PubRow). r.uid) (λ uid r. int_eq r.uid uid) (λ uid r. Decides-int_eq r.uid uid) uid
            (map (pub_row t) (filter (is_of conn) ps)) ≡ uses ps
            → many (λ (r : PubRow). r.uid) (λ uid r. int_eq r.uid uid) (λ uid r. Decides-int_eq r.uid uid) uid
            (map (pub_row t) (cond b (p ∷ filter (is_of conn) ps) (filter (is_of conn) ps)))
            ≡ cond (b && int_eq p.uid uid) 1 0 + uses ps
        by true more = ap (λ n. cond (int_eq p.uid uid) 1 0 + n) more
        by false more = more ∙ omega arith

abbrev uid_of : PubRow → ℤ
uid_of r = r.uid

abbrev has_uid : ℤ → PubRow → Bool
has_uid uid r = int_eq r.uid uid

-- ---- in every history

-- each uid is that of at most one publisher of a connection
abbrev pub AreOwnUids : List Life → Type 0
AreOwnUids lives = (conn : ℕ) (uid : ℤ) → all_uses conn uid lives ≤ 1

-- a publisher of a new uid
with-new : (conn : ℕ) (uid : ℤ) (p : Pub) (lives : List Life) (n : ℕ)
    → list_any (has_publisher p.conn p.uid) (topics lives) ≡ false
    → all_uses conn uid lives ≤ 1 → n ≤ all_uses conn uid lives + one_use conn uid p → n ≤ 1
with-new conn uid p lives n free h le = by (is_publisher conn uid p) refl le
  where
    by : (b : Bool) → is_publisher conn uid p ≡ b → n ≤ all_uses conn uid lives + cond b 1 0 → n ≤ 1
    by true e le =
        let parts = and_parts (p.conn == conn) (int_eq p.uid uid) e in
        let same : p.conn ≡ conn = grind (arith, nat_tests) in
        let none : all_uses conn uid lives ≡ 0 =
        subst (λ c. all_uses c uid lives ≡ 0) same
        (subst (λ u. all_uses p.conn u lives ≡ 0) ((Decides-int_eq p.uid uid).0 parts.1)
        (free-uses p.conn p.uid lives free)) in
        omega arith
    by false e le = omega arith

no-more : {m n : ℕ} → m ≤ 1 → n ≤ m + 0 → n ≤ 1
no-more few less = omega arith

pub own-uids : (start : Start) (past : List Entry) → AreOwnUids (now_of start past).lives
own-uids start =
    lives-keep (λ k lives. AreOwnUids lives)
    (record {
      later = λ k lives h. h;
      joined = λ k name p lives free h conn uid.
          with-new conn uid p lives _ free (h conn uid)
          (all-at conn uid _ (with_publishing (k + 1) p) (one_use conn uid p)
          (joined-uses conn uid (k + 1) p) lives);
      began = λ k name typ props p lives free e few h conn uid.
          with-new conn uid p lives _ free (h conn uid)
          (let same = all-push conn uid lives (born (k + 1) (length lives + 1) name typ props p) in
          omega arith);
      left = λ k sender other lives h conn uid.
          no-more (h conn uid) (all-at conn uid _ _ 0 (left-uses conn uid (k + 1) sender other) lives);
      updated = λ k sender name u lives h conn uid.
          no-more (h conn uid)
          (all-at conn uid _ _ 0 (set-uses conn uid (k + 1) sender u) lives);
      put = λ k sender other time value lives h conn uid.
          no-more (h conn uid)
          (all-at conn uid _ (with_a_put (record { place = k + 1; time = time; value = value })) 0
          (λ l. omega arith) lives);
      dropped = λ k sender lives h conn uid.
          no-more (h conn uid) (all-map conn uid _ (closed-uses conn uid (k + 1) sender) lives);
    })
    start
    (λ conn uid. let none = restored-uses conn uid 1 start.saved in omega arith)

-- ---- the rows of a connection

all-rows : (conn : ℕ) (uid : ℤ) (lives : List Life)
    → many uid_of has_uid (λ uid r. Decides-int_eq r.uid uid) uid
    (flat_map (λ t. map (pub_row t) (filter (is_of conn) t.pubs)) (topics lives)) ≡ all_uses conn uid lives
all-rows conn uid [] = refl
all-rows conn uid (l ∷ lives) = by (is_living l) (all-rows conn uid lives)
  where
    rows : Topic → List PubRow
    rows t = map (pub_row t) (filter (is_of conn) t.pubs)

    by : (b : Bool)
        → many uid_of has_uid (λ uid r. Decides-int_eq r.uid uid) uid (flat_map rows (topics lives))
        ≡ all_uses conn uid lives
        → many uid_of has_uid (λ uid r. Decides-int_eq r.uid uid) uid
        (flat_map rows (cons_option (cond b (Some (topic_of l)) None) (topics lives)))
        ≡ cond b (uses conn uid l.pubs) 0 + all_uses conn uid lives
    by true more =
        many-append uid_of has_uid (λ uid r. Decides-int_eq r.uid uid) uid (rows (topic_of l))
        (flat_map rows (topics lives))
        ∙ ap (λ n. n + many uid_of has_uid (λ uid r. Decides-int_eq r.uid uid) uid (flat_map rows (topics lives)))
        (uses-rows conn uid (topic_of l) l.pubs)
        ∙ ap (λ n. uses conn uid l.pubs + n) more
    by false more = more ∙ omega arith

-- their uids differ
pub rows-differ : (conn : ℕ) (lives : List Life) → AreOwnUids lives
    → AreDifferent uid_of has_uid (λ uid r. Decides-int_eq r.uid uid)
    (flat_map (λ t. map (pub_row t) (filter (is_of conn) t.pubs)) (topics lives))
rows-differ conn lives own =
    single-different uid_of has_uid (λ uid r. Decides-int_eq r.uid uid) _
    (λ uid. subst (λ n. n ≤ 1) (sym (all-rows conn uid lives)) (own conn uid))
