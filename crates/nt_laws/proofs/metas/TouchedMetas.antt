-- What a connection does changes no meta topic that it doesn't touch.
use Rattle.std.proofs.Common.{◌≡◌, ◌||◌, not, ℕ, ℤ, Bool, true, false, cond, List, [], ◌∷◌, ◌++◌, map, filter, refl}
use Rattle.std.proofs.Common.{◌∙◌, ap, arith, bytes_eq, codes}
use Rattle.std.specs.List.{AllByRecursion, list_any, flat_map}
use Rattle.std.proofs.lemmas.Bool.Decides.{nat_tests}
use Rattle.std.proofs.lemmas.Slice.Eq.{bytes_eq-Decides}
use Rattle.serde_json.specs.Data.{Data}
use Rattle.nt_control.specs.declared.message.ClientMsg.TheVariants.{Publish, Unpublish, SetProps}
use Rattle.nt_subs.specs.Subscriptions.{Subs}
use Rattle.nt_rules.specs.declared.topic.Pub.{Pub}
use Rattle.nt_rules.specs.declared.topic.Topic.{Topic}
use Rattle.nt_rules.specs.topics.Topics.{has_publisher, has_conn, published, unpublished, with_props, dropped, outlives}
use Rattle.nt_rules.specs.topics.Topics.{without_conn}
use Rattle.nt_rules.specs.history.Answer.{is_used}
use Rattle.nt_rules.specs.history.Metas.{pub_rows}
use Rattle.nt_rules.specs.history.Step.{Plain}
use Rattle.nt_laws.specs.Touched.{are_matching, client_metas, topic_metas, touched_by_open, touched_by_close}
use Rattle.nt_laws.specs.Touched.{touched_by_publisher, touched_by_subscriber, touched_by_message, of_connection, untouched}
use Rattle.nt_laws.proofs.histories.ConnectionLaws.{is_numbered, others}
use Rattle.nt_laws.proofs.metas.PlainRosters.{plain_metas}
use Rattle.nt_laws.proofs.metas.UntouchedMetas.{Touches, topics-changed, connection-left, connection-joined, resubscribed}
use Rattle.nt_laws.proofs.metas.UntouchedMetas.{connection-resubscribed}
use Rattle.nt_laws.proofs.topics.ChangedTopics.{publish-changes, unpublish-changes, update-changes, close-changes}
use Rattle.nt_laws.proofs.topics.ChangedTopics.{dropped-none}
use Rattle.nt_laws.proofs.topics.ItemFacts.{each-map, each-more, each-filter}
use Rattle.nt_laws.proofs.topics.OneName.{or-false}

-- ---- names among others

used-first : (name : List ℕ) (names : List (List ℕ)) → is_used (name ∷ names) name ≡ true
used-first name names = ap (λ b. b || is_used names name) ((bytes_eq-Decides name name).1 refl)

used-later : (other : List ℕ) (names : List (List ℕ)) (name : List ℕ) → is_used names name ≡ true
    → is_used (other ∷ names) name ≡ true
used-later other names name e = ap (λ b. bytes_eq other name || b) e ∙ by (bytes_eq other name)
  where
    by : (b : Bool) → (b || true) ≡ true
    by true = refl
    by false = refl

used-back : (front names : List (List ℕ)) (name : List ℕ) → is_used names name ≡ true
    → is_used (front ++ names) name ≡ true
used-back [] names name e = e
used-back (x ∷ front) names name e = used-later x (front ++ names) name (used-back front names name e)

used-front : (names back : List (List ℕ)) (name : List ℕ) → is_used names name ≡ true
    → is_used (names ++ back) name ≡ true
used-front [] back name e = absurd (cc)
used-front (x ∷ names) back name e = by (bytes_eq x name) (λ f. used-front names back name f) e
  where
    by : (b : Bool) → (is_used names name ≡ true → is_used (names ++ back) name ≡ true)
        → (b || is_used names name) ≡ true → (b || is_used (names ++ back) name) ≡ true
    by true more f = refl
    by false more f = more f

-- what an item that passes touches is touched
touched-each : {X : Type 0} (test : X → Bool) (touches : X → List (List ℕ)) (xs : List X)
    → AllByRecursion (λ x. test x ≡ true → (name : List ℕ) → is_used (touches x) name ≡ true
    → is_used (flat_map touches (filter test xs)) name ≡ true) xs
touched-each test touches [] = tt
touched-each {X} test touches (x ∷ xs) = by (test x) refl (touched-each test touches xs)
  where
    IsTouched : List X → X → Type 0
    IsTouched ys y = test y ≡ true → (name : List ℕ) → is_used (touches y) name ≡ true
        → is_used (flat_map touches ys) name ≡ true

    by : (b : Bool) → test x ≡ b → AllByRecursion (λ y. IsTouched (filter test xs) y) xs
        → AllByRecursion (λ y. IsTouched (cond b (x ∷ filter test xs) (filter test xs)) y) (x ∷ xs)
    by true e more = (
      λ f name used. used-front (touches x) (flat_map touches (filter test xs)) name used,
      each-more (λ y. IsTouched (filter test xs) y) (λ y. IsTouched (x ∷ filter test xs) y)
          (λ y k f name used. used-back (touches x) (flat_map touches (filter test xs)) name (k f name used)) xs more,
    )
    by false e more = (λ f. absurd (cc), more)

-- so is a name that is made of one
named-each : {X : Type 0} (test : X → Bool) (key : X → List ℕ) (xs : List X)
    → AllByRecursion (λ x. test x ≡ true → is_used (map key (filter test xs)) (key x) ≡ true) xs
named-each test key [] = tt
named-each {X} test key (x ∷ xs) = by (test x) refl (named-each test key xs)
  where
    IsNamed : List X → X → Type 0
    IsNamed ys y = test y ≡ true → is_used (map key ys) (key y) ≡ true

    by : (b : Bool) → test x ≡ b → AllByRecursion (λ y. IsNamed (filter test xs) y) xs
        → AllByRecursion (λ y. IsNamed (cond b (x ∷ filter test xs) (filter test xs)) y) (x ∷ xs)
    by true e more = (
      λ f. used-first (key x) (map key (filter test xs)),
      each-more (λ y. IsNamed (filter test xs) y) (λ y. IsNamed (x ∷ filter test xs) y)
          (λ y k f. used-later (key x) (map key (filter test xs)) (key y) (k f)) xs more,
    )
    by false e more = (λ f. absurd (cc), more)

-- what follows of any item that passes, where one does
some-passes : {X : Type 0} (P : Type 0) (test : X → Bool) (xs : List X) → list_any test xs ≡ true
    → AllByRecursion (λ x. test x ≡ true → P) xs → P
some-passes P test [] e h = absurd (cc)
some-passes P test (x ∷ xs) e h = by (test x) refl (λ f. some-passes P test xs f h.1) e
  where
    by : (b : Bool) → test x ≡ b → (list_any test xs ≡ true → P) → (b || list_any test xs) ≡ true → P
    by true f more e = h.0 f
    by false f more e = more e

-- what holds of each of these with each of those
each-swap : {X Y : Type 0} (R : X → Y → Type 0) (xs : List X) (ys : List Y)
    → AllByRecursion (λ x. AllByRecursion (λ y. R x y) ys) xs
    → AllByRecursion (λ y. AllByRecursion (λ x. R x y) xs) ys
each-swap R xs [] h = tt
each-swap R xs (y ∷ ys) h = (
  each-more (λ x. AllByRecursion (λ y. R x y) (y ∷ ys)) (λ x. R x y) (λ x k. k.0) xs h,
  each-swap R xs ys
      (each-more (λ x. AllByRecursion (λ y. R x y) (y ∷ ys)) (λ x. AllByRecursion (λ y. R x y) ys) (λ x k. k.1) xs h),
)

-- ---- an opening

pub opened-stay : (p : Plain) (ps : List Plain) (ts : List Topic) → pub_rows p.number ts ≡ [] → p.subs ≡ []
    → untouched (touched_by_open p.name) (plain_metas (ps ++ p ∷ []) ts)
    ≡ untouched (touched_by_open p.name) (plain_metas ps ts)
opened-stay p ps ts none new =
    let names = client_metas p.name in
    let its_pub = codes "$client_pub$" ++ p.name in
    let its_sub = codes "$client_sub$" ++ p.name in
    connection-joined (touched_by_open p.name) p ps ts none
    (λ name. ap (λ subs. are_matching subs name) new)
    (used-first (codes "$clients") names)
    (used-later (codes "$clients") names its_pub (used-first its_pub (its_sub ∷ [])))
    (used-later (codes "$clients") names its_sub
    (used-later its_pub (its_sub ∷ []) its_sub (used-first its_sub [])))

-- ---- what is said

-- the names that a publisher touches
module _ (names : List (List ℕ)) (p : Plain) (topic : List ℕ)
    (all : (name : List ℕ) → is_used (touched_by_publisher p topic) name ≡ true → is_used names name ≡ true) where
  publisher-touches : Touches names topic
  publisher-touches =
      record {
        publishers = all (codes "$pub$" ++ topic)
            (used-later (codes "$client_pub$" ++ p.name) (topic_metas topic) (codes "$pub$" ++ topic)
            (used-first (codes "$pub$" ++ topic) ((codes "$sub$" ++ topic) ∷ [])));
        subscribers = all (codes "$sub$" ++ topic)
            (used-later (codes "$client_pub$" ++ p.name) (topic_metas topic) (codes "$sub$" ++ topic)
            (used-later (codes "$pub$" ++ topic) ((codes "$sub$" ++ topic) ∷ []) (codes "$sub$" ++ topic)
            (used-first (codes "$sub$" ++ topic) [])));
      }

  publisher-touched : is_used names (codes "$client_pub$" ++ p.name) ≡ true
  publisher-touched =
      all (codes "$client_pub$" ++ p.name) (used-first (codes "$client_pub$" ++ p.name) (topic_metas topic))

module _ (conn : ℕ) (ps : List Plain) (ts : List Topic) (there : list_any (is_numbered conn) ps ≡ true) where
  -- a message that touches one topic
  module _ (topic : List ℕ) where
    abbrev its_names : List (List ℕ)
    its_names = of_connection conn (λ p. touched_by_publisher p topic) ps

    abbrev IsAmong : Plain → Type 0
    IsAmong p = is_numbered conn p ≡ true → (name : List ℕ) → is_used (touched_by_publisher p topic) name ≡ true
        → is_used its_names name ≡ true

    among : AllByRecursion IsAmong ps
    among = touched-each (is_numbered conn) (λ p. touched_by_publisher p topic) ps

    one-touches : Touches its_names topic
    one-touches =
        some-passes (Touches its_names topic) (is_numbered conn) ps there
        (each-more IsAmong (λ p. is_numbered conn p ≡ true → Touches its_names topic)
        (λ p k e. publisher-touches its_names p topic (k e)) ps among)

    one-touched : AllByRecursion
        (λ (p : Plain). is_numbered conn p ≡ true → is_used its_names (codes "$client_pub$" ++ p.name) ≡ true) ps
    one-touched =
        each-more IsAmong
        (λ (p : Plain). is_numbered conn p ≡ true → is_used its_names (codes "$client_pub$" ++ p.name) ≡ true)
        (λ p k e. publisher-touched its_names p topic (k e)) ps among

  pub published-stay : (next : ℕ) (name typ : List ℕ) (uid : ℤ) (props : Data) (p : Pub) → p.conn ≡ conn
      → let names = of_connection conn (touched_by_message (Publish name uid typ props) ts) ps in
      untouched names (plain_metas ps (published ts next name typ props p)) ≡ untouched names (plain_metas ps ts)
  published-stay next name typ uid props p its =
      topics-changed (its_names name) conn ps ts (published ts next name typ props p)
      (publish-changes (its_names name) conn ts next name typ props p its (one-touches name)) (one-touched name)

  pub updated-stay : (name : List ℕ) (u : Data)
      → let names = of_connection conn (touched_by_message (SetProps name u) ts) ps in
      untouched names (plain_metas ps (with_props ts name u)) ≡ untouched names (plain_metas ps ts)
  updated-stay name u =
      topics-changed (its_names name) conn ps ts (with_props ts name u)
      (update-changes (its_names name) conn ts name u (one-touches name)) (one-touched name)

  pub unpublished-stay : (uid : ℤ) → list_any (has_publisher conn uid) ts ≡ true
      → let names = of_connection conn (touched_by_message (Unpublish uid) ts) ps in
      untouched names (plain_metas ps (unpublished ts conn uid)) ≡ untouched names (plain_metas ps ts)
  unpublished-stay uid some =
      topics-changed names conn ps ts (unpublished ts conn uid) (unpublish-changes names conn ts uid touches) touched
    where
      names : List (List ℕ)
      names = of_connection conn (touched_by_message (Unpublish uid) ts) ps

      -- of each topic that it publishes with this uid
      IsAll : Plain → Topic → Type 0
      IsAll p t = has_publisher conn uid t ≡ true → (name : List ℕ)
          → is_used (touched_by_publisher p t.name) name ≡ true → is_used names name ≡ true

      topics-of : (p : Plain) → is_numbered conn p ≡ true
          → ((name : List ℕ) → is_used (touched_by_message (Unpublish uid) ts p) name ≡ true
          → is_used names name ≡ true)
          → AllByRecursion (λ t. IsAll p t) ts
      topics-of p e all =
          let number : p.number ≡ conn = grind (arith, nat_tests) in
          each-more
          (λ (t : Topic). has_publisher p.number uid t ≡ true → (name : List ℕ)
          → is_used (touched_by_publisher p t.name) name ≡ true
          → is_used (touched_by_message (Unpublish uid) ts p) name ≡ true)
          (λ t. IsAll p t)
          (λ t k f name used. all name (k (ap (λ c. has_publisher c uid t) number ∙ f) name used)) ts
          (touched-each (has_publisher p.number uid) (λ t. touched_by_publisher p t.name) ts)

      each : AllByRecursion (λ p. is_numbered conn p ≡ true → AllByRecursion (λ t. IsAll p t) ts) ps
      each =
          each-more _ (λ p. is_numbered conn p ≡ true → AllByRecursion (λ t. IsAll p t) ts)
          (λ p k e. topics-of p e (k e)) ps
          (touched-each (is_numbered conn) (touched_by_message (Unpublish uid) ts) ps)

      touches : AllByRecursion (λ (t : Topic). has_publisher conn uid t ≡ true → Touches names t.name) ts
      touches =
          some-passes
          (AllByRecursion (λ (t : Topic). has_publisher conn uid t ≡ true → Touches names t.name) ts)
          (is_numbered conn) ps there
          (each-more (λ p. is_numbered conn p ≡ true → AllByRecursion (λ t. IsAll p t) ts) _
          (λ p k e. each-more (λ t. IsAll p t)
          (λ (t : Topic). has_publisher conn uid t ≡ true → Touches names t.name)
          (λ t all f. publisher-touches names p t.name (all f)) ts (k e)) ps each)

      touched : AllByRecursion
          (λ (p : Plain). is_numbered conn p ≡ true → is_used names (codes "$client_pub$" ++ p.name) ≡ true) ps
      touched =
          each-more (λ p. is_numbered conn p ≡ true → AllByRecursion (λ t. IsAll p t) ts) _
          (λ p k e. some-passes (is_used names (codes "$client_pub$" ++ p.name) ≡ true) (has_publisher conn uid)
          ts some
          (each-more (λ t. IsAll p t)
          (λ (t : Topic). has_publisher conn uid t ≡ true → is_used names (codes "$client_pub$" ++ p.name) ≡ true)
          (λ t all f. publisher-touched names p t.name (all f)) ts (k e))) ps each

-- ---- other subscriptions

-- a name that is touched where the first holds, and isn't touched
untouched-false : (b : Bool) (names : List (List ℕ)) (name : List ℕ) → (b ≡ true → is_used names name ≡ true)
    → not (is_used names name) ≡ true → b ≡ false
untouched-false true names name k e = let no : not (is_used names name) ≡ false = ap not (k refl) in absurd (cc)
untouched-false false names name k e = refl

module _ (conn : ℕ) (ps : List Plain) (ts : List Topic) (f : Subs → Subs) where
  abbrev subscribed_names : List (List ℕ)
  subscribed_names = of_connection conn (λ p. touched_by_subscriber ts (f p.subs) p) ps

  abbrev is_meant : Plain → Topic → Bool
  is_meant p t = are_matching p.subs t.name || are_matching (f p.subs) t.name

  subscribed-among : AllByRecursion
      (λ p. is_numbered conn p ≡ true → (name : List ℕ)
      → is_used (touched_by_subscriber ts (f p.subs) p) name ≡ true → is_used subscribed_names name ≡ true) ps
  subscribed-among = touched-each (is_numbered conn) (λ p. touched_by_subscriber ts (f p.subs) p) ps

  abbrev Unmatched : Plain → Topic → Type 0
  Unmatched p t = is_numbered conn p ≡ true → not (is_used subscribed_names (codes "$sub$" ++ t.name)) ≡ true
      → (are_matching p.subs t.name ≡ false) × (are_matching (f p.subs) t.name ≡ false)

  unmatched-by : (p : Plain)
      → (is_numbered conn p ≡ true → (name : List ℕ)
      → is_used (touched_by_subscriber ts (f p.subs) p) name ≡ true → is_used subscribed_names name ≡ true)
      → AllByRecursion (λ t. Unmatched p t) ts
  unmatched-by p all =
      each-more
      (λ (t : Topic). is_meant p t ≡ true
      → is_used (map (λ t. codes "$sub$" ++ t.name) (filter (is_meant p) ts)) (codes "$sub$" ++ t.name) ≡ true)
      (λ t. Unmatched p t)
      (λ t named e other.
      or-false (are_matching p.subs t.name) (are_matching (f p.subs) t.name)
      (untouched-false (is_meant p t) subscribed_names (codes "$sub$" ++ t.name)
      (λ meant. all e (codes "$sub$" ++ t.name)
      (used-later (codes "$client_sub$" ++ p.name)
      (map (λ t. codes "$sub$" ++ t.name) (filter (is_meant p) ts)) (codes "$sub$" ++ t.name) (named meant))) other))
      ts (named-each (is_meant p) (λ t. codes "$sub$" ++ t.name) ts)

  pub subscribed-stay : untouched subscribed_names (plain_metas (map (resubscribed conn f) ps) ts)
      ≡ untouched subscribed_names (plain_metas ps ts)
  subscribed-stay =
      connection-resubscribed subscribed_names conn f ps ts
      (each-more _
      (λ (p : Plain). is_numbered conn p ≡ true → is_used subscribed_names (codes "$client_sub$" ++ p.name) ≡ true)
      (λ p k e. k e (codes "$client_sub$" ++ p.name)
      (used-first (codes "$client_sub$" ++ p.name)
      (map (λ t. codes "$sub$" ++ t.name) (filter (is_meant p) ts)))) ps subscribed-among)
      (each-more (λ t. AllByRecursion (λ p. Unmatched p t) ps) _
      (λ t k other. each-more (λ p. Unmatched p t) _ (λ p unmatched e. unmatched e other) ps k) ts
      (each-swap Unmatched ps ts
      (each-more _ (λ p. AllByRecursion (λ t. Unmatched p t) ts) (λ p all. unmatched-by p all) ps
      subscribed-among)))

-- ---- a close

module _ (conn : ℕ) (ps : List Plain) (ts : List Topic) (there : list_any (is_numbered conn) ps ≡ true) where
  abbrev closed_names : List (List ℕ)
  closed_names = of_connection conn (touched_by_close ts) ps

  abbrev is_told : Plain → Topic → Bool
  is_told p t = has_conn p.number t || are_matching p.subs t.name

  abbrev told_names : Plain → List (List ℕ)
  told_names p = flat_map (λ t. topic_metas t.name) (filter (is_told p) ts)

  abbrev IsClosed : Plain → Type 0
  IsClosed p = is_numbered conn p ≡ true → (name : List ℕ) → is_used (touched_by_close ts p) name ≡ true
      → is_used closed_names name ≡ true

  closed-among : AllByRecursion IsClosed ps
  closed-among = touched-each (is_numbered conn) (touched_by_close ts) ps

  clients-touched : (p : Plain) → IsClosed p → is_numbered conn p ≡ true
      → (is_used closed_names (codes "$clients") ≡ true)
      × (is_used closed_names (codes "$client_pub$" ++ p.name) ≡ true)
      × (is_used closed_names (codes "$client_sub$" ++ p.name) ≡ true)
  clients-touched p k e =
      let its_pub = codes "$client_pub$" ++ p.name in
      let its_sub = codes "$client_sub$" ++ p.name in
      let back = told_names p in (
        k e (codes "$clients") (used-first (codes "$clients") (client_metas p.name ++ back)),
        k e its_pub (used-later (codes "$clients") (client_metas p.name ++ back) its_pub
            (used-first its_pub (its_sub ∷ back))),
        k e its_sub (used-later (codes "$clients") (client_metas p.name ++ back) its_sub
            (used-later its_pub (its_sub ∷ back) its_sub (used-first its_sub back))),
      )

  abbrev IsTold : Plain → Topic → Type 0
  IsTold p t = is_numbered conn p ≡ true → is_told p t ≡ true → Touches closed_names t.name

  told-by : (p : Plain) → IsClosed p → AllByRecursion (λ t. IsTold p t) ts
  told-by p k =
      each-more
      (λ (t : Topic). is_told p t ≡ true → (name : List ℕ) → is_used (topic_metas t.name) name ≡ true
      → is_used (told_names p) name ≡ true)
      (λ t. IsTold p t)
      (λ t told e is. record {
        publishers = among e (codes "$pub$" ++ t.name)
            (told is (codes "$pub$" ++ t.name)
            (used-first (codes "$pub$" ++ t.name) ((codes "$sub$" ++ t.name) ∷ [])));
        subscribers = among e (codes "$sub$" ++ t.name)
            (told is (codes "$sub$" ++ t.name)
            (used-later (codes "$pub$" ++ t.name) ((codes "$sub$" ++ t.name) ∷ []) (codes "$sub$" ++ t.name)
            (used-first (codes "$sub$" ++ t.name) [])));
      })
      ts (touched-each (is_told p) (λ t. topic_metas t.name) ts)
    where
      among : is_numbered conn p ≡ true → (name : List ℕ) → is_used (told_names p) name ≡ true
          → is_used closed_names name ≡ true
      among e name used =
          k e name (used-later (codes "$clients") (client_metas p.name ++ told_names p) name
          (used-back (client_metas p.name) (told_names p) name used))

  all-told : AllByRecursion (λ p. AllByRecursion (λ t. IsTold p t) ts) ps
  all-told = each-more IsClosed (λ p. AllByRecursion (λ t. IsTold p t) ts) (λ p k. told-by p k) ps closed-among

  -- those that it publishes
  own-touches : AllByRecursion (λ (t : Topic). has_conn conn t ≡ true → Touches closed_names t.name) ts
  own-touches =
      some-passes
      (AllByRecursion (λ (t : Topic). has_conn conn t ≡ true → Touches closed_names t.name) ts)
      (is_numbered conn) ps there
      (each-more (λ p. AllByRecursion (λ t. IsTold p t) ts) _
      (λ p told e. each-more (λ t. IsTold p t)
      (λ (t : Topic). has_conn conn t ≡ true → Touches closed_names t.name)
      (λ t k has. k e (published p t e has)) ts told) ps all-told)
    where
      published : (p : Plain) (t : Topic) → is_numbered conn p ≡ true → has_conn conn t ≡ true
          → is_told p t ≡ true
      published p t e has =
          let number : p.number ≡ conn = grind (arith, nat_tests) in
          ap (λ c. has_conn c t || are_matching p.subs t.name) number
          ∙ ap (λ b. b || are_matching p.subs t.name) has

  -- of those that aren't touched its subscriptions match none
  abbrev Unmatching : Topic → Plain → Type 0
  Unmatching t p = is_numbered conn p ≡ true → are_matching p.subs t.name ≡ false

  none-match : AllByRecursion (λ (t : Topic). not (is_used closed_names (codes "$sub$" ++ t.name)) ≡ true
      → AllByRecursion (λ p. Unmatching t p) ps) ts
  none-match =
      each-more (λ t. AllByRecursion (λ p. IsTold p t) ps) _
      (λ t told other. each-more (λ p. IsTold p t) (λ p. Unmatching t p)
      (λ p k e. (or-false (has_conn p.number t) (are_matching p.subs t.name)
      (untouched-false (is_told p t) closed_names (codes "$sub$" ++ t.name)
      (λ is. let both = k e is in both.subscribers) other)).1) ps told) ts
      (each-swap IsTold ps ts all-told)

  left-match : AllByRecursion (λ (t : Topic). not (is_used closed_names (codes "$sub$" ++ t.name)) ≡ true
      → AllByRecursion (λ p. Unmatching t p) ps) (dropped ts conn)
  left-match =
      each-map (λ (t : Topic). not (is_used closed_names (codes "$sub$" ++ t.name)) ≡ true
      → AllByRecursion (λ p. Unmatching t p) ps) (without_conn conn) (filter (outlives conn) ts)
      (each-filter (λ (t : Topic). not (is_used closed_names (codes "$sub$" ++ t.name)) ≡ true
      → AllByRecursion (λ p. Unmatching t p) ps) (outlives conn) ts none-match)

  clients-all : AllByRecursion (λ (p : Plain). is_numbered conn p ≡ true
      → (is_used closed_names (codes "$clients") ≡ true)
      × (is_used closed_names (codes "$client_pub$" ++ p.name) ≡ true)
      × (is_used closed_names (codes "$client_sub$" ++ p.name) ≡ true)) ps
  clients-all = each-more IsClosed _ (λ p k. clients-touched p k) ps closed-among

  pub closed-stay : untouched closed_names (plain_metas (others conn ps) (dropped ts conn))
      ≡ untouched closed_names (plain_metas ps ts)
  closed-stay =
      connection-left closed_names conn ps (dropped ts conn) (dropped-none conn ts) clients-all
      (some-passes (is_used closed_names (codes "$clients") ≡ true) (is_numbered conn) ps there
      (each-more _ (λ p. is_numbered conn p ≡ true → is_used closed_names (codes "$clients") ≡ true)
      (λ p k e. (k e).0) ps clients-all))
      left-match
      ∙ topics-changed closed_names conn ps ts (dropped ts conn)
      (close-changes closed_names conn ts own-touches)
      (each-more _
      (λ (p : Plain). is_numbered conn p ≡ true → is_used closed_names (codes "$client_pub$" ++ p.name) ≡ true)
      (λ p k e. (k e).1) ps clients-all)
