-- What may happen to topics and connections leaves the meta topics that aren't touched as they were.
use Rattle.std.proofs.Common.{◌≡◌, ◌==◌, not, ℕ, Bool, true, false, cond, List, [], ◌∷◌, ◌++◌, map, filter, refl}
use Rattle.std.proofs.Common.{sym, ◌∙◌, ap, bytes_eq, codes}
use Rattle.std.specs.List.{AllByRecursion}
use Rattle.std.proofs.lemmas.List.Elements.{filter-append}
use Rattle.std.proofs.lemmas.Slice.Eq.{bytes_eq-Decides}
use Rattle.nt_subs.specs.Subscriptions.{Subs}
use Rattle.nt_rules.specs.declared.topic.Topic.{Topic}
use Rattle.nt_rules.specs.declared.meta.MetaNow.{MetaNow}
use Rattle.nt_rules.specs.meta.Elements.{client_element, publisher_element, publishers_of, subscribers_of}
use Rattle.nt_rules.specs.meta.Meta.{id_of, topic_pub, topic_sub, client_pub, client_sub, clients, server_pub, server_sub}
use Rattle.nt_rules.specs.meta.Packing.{array_bytes}
use Rattle.nt_rules.specs.history.Answer.{is_used}
use Rattle.nt_rules.specs.history.Metas.{pub_rows, life_row}
use Rattle.nt_rules.specs.history.Step.{Plain}
use Rattle.nt_laws.specs.Touched.{are_matching, untouched}
use Rattle.nt_laws.proofs.histories.ConnectionLaws.{is_numbered, others}
use Rattle.nt_laws.proofs.metas.PlainRosters.{plain_roster, plain_metas, publishers-topics, publishers-others}
use Rattle.nt_laws.proofs.metas.PlainRosters.{publishers-joined, publishers-kept, subscribers-topics, subscribers-others}
use Rattle.nt_laws.proofs.metas.PlainRosters.{subscribers-joined, subscribers-kept, clients-topics, clients-kept}
use Rattle.nt_laws.proofs.metas.PlainRosters.{its_subscribers, none-subscribe}
use Rattle.nt_laws.proofs.metas.Rosters.{row_of}
use Rattle.nt_laws.proofs.topics.ItemFacts.{each-more, each-all, map-both}

-- ---- lists

-- the same items pass where the others of a list don't pass
pub filter-others : {X : Type 0} (p test : X → Bool) (xs : List X)
    → AllByRecursion (λ x. test x ≡ true → p x ≡ false) xs
    → filter p (filter (λ x. not (test x)) xs) ≡ filter p xs
filter-others p test [] h = refl
filter-others {X} p test (x ∷ xs) h = by (test x) refl (filter-others p test xs h.1)
  where
    by : (b : Bool) → test x ≡ b → filter p (filter (λ x. not (test x)) xs) ≡ filter p xs
        → filter p (cond (not b) (x ∷ filter (λ x. not (test x)) xs) (filter (λ x. not (test x)) xs))
        ≡ cond (p x) (x ∷ filter p xs) (filter p xs)
    by true e more = more ∙ sym (ap (λ b. cond b (x ∷ filter p xs) (filter p xs)) (h.0 e))
    by false e more = ap (λ ys. cond (p x) (x ∷ ys) ys) more

-- an item more that doesn't pass
pub filter-pushed : {X : Type 0} (p : X → Bool) (xs : List X) (y : X) → p y ≡ false
    → filter p (xs ++ y ∷ []) ≡ filter p xs
filter-pushed p [] y e = ap (λ b. cond b (y ∷ []) []) e
filter-pushed p (x ∷ xs) y e = ap (λ ys. cond (p x) (x ∷ ys) ys) (filter-pushed p xs y e)

-- ---- meta topics that were made of each item

told : {X : Type 0} (q : MetaNow → Bool) (f g : X → MetaNow) → ((x : X) → q (g x) ≡ q (f x)) → (xs : List X)
    → AllByRecursion (λ x. q (f x) ≡ true → g x ≡ f x) xs
    → filter q (map g xs) ≡ map f (filter (λ x. q (f x)) xs)
told q f g same [] h = refl
told {X} q f g same (x ∷ xs) h =
    ap (λ b. cond b (g x ∷ filter q (map g xs)) (filter q (map g xs))) (same x)
    ∙ by (q (f x)) refl (told q f g same xs h.1)
  where
    by : (b : Bool) → q (f x) ≡ b → filter q (map g xs) ≡ map f (filter (λ x. q (f x)) xs)
        → cond b (g x ∷ filter q (map g xs)) (filter q (map g xs))
        ≡ map f (cond b (x ∷ filter (λ x. q (f x)) xs) (filter (λ x. q (f x)) xs))
    by true e more = ap (λ m. m ∷ filter q (map g xs)) (h.0 e) ∙ ap (λ ms. f x ∷ ms) more
    by false e more = more

-- of other items, of which the same pass, each of them with the same meta topic
table-same : {X : Type 0} (q : MetaNow → Bool) (f g : X → MetaNow) → ((x : X) → q (g x) ≡ q (f x))
    → (xs ys : List X) → filter (λ x. q (f x)) ys ≡ filter (λ x. q (f x)) xs
    → AllByRecursion (λ x. q (f x) ≡ true → g x ≡ f x) ys
    → filter q (map g ys) ≡ filter q (map f xs)
table-same q f g same xs ys kept h =
    told q f g same ys h ∙ ap (map f) kept
    ∙ sym (told q f f (λ x. refl) xs (each-all (λ x. q (f x) ≡ true → f x ≡ f x) (λ x e. refl) xs))

-- ---- the five kinds

abbrev pub_meta : List Plain → List Topic → Topic → MetaNow
pub_meta ps ts t = topic_pub (plain_roster ps ts) (life_row t)

abbrev sub_meta : List Plain → List Topic → Topic → MetaNow
sub_meta ps ts t = topic_sub (plain_roster ps ts) (life_row t)

abbrev client_pub_meta : List Topic → Plain → MetaNow
client_pub_meta ts p = client_pub (row_of ts p)

abbrev client_sub_meta : List Topic → Plain → MetaNow
client_sub_meta ts p = client_sub (row_of ts p)

abbrev own_metas : List Plain → List Topic → List MetaNow
own_metas ps ts = clients (plain_roster ps ts) ∷ server_pub ∷ server_sub ∷ []

two : {a b c d : List MetaNow} → a ≡ b → c ≡ d → a ++ c ≡ b ++ d
two {a} {b} {c} {d} x y = ap (λ ms. ms ++ c) x ∙ ap (λ ms. b ++ ms) y

module _ (q : MetaNow → Bool) where
  part : {X Y : Type 0} (h : Y → MetaNow) (k : X → Y) (xs : List X) (rest : List MetaNow)
      → filter q (map h (map k xs) ++ rest) ≡ filter q (map (λ x. h (k x)) xs) ++ filter q rest
  part h k xs rest =
      filter-append q (map h (map k xs)) rest ∙ ap (λ ms. filter q ms ++ filter q rest) (map-both k h xs)

  abbrev parts : List Plain → List Topic → List MetaNow
  parts ps ts =
      filter q (map (pub_meta ps ts) ts)
      ++ (filter q (map (sub_meta ps ts) ts)
      ++ (filter q (map (client_pub_meta ts) ps)
      ++ (filter q (map (client_sub_meta ts) ps)
      ++ filter q (own_metas ps ts))))

  in-parts : (ps : List Plain) (ts : List Topic) → filter q (plain_metas ps ts) ≡ parts ps ts
  in-parts ps ts =
      let r = plain_roster ps ts in
      part (topic_pub r) life_row ts _
      ∙ ap (λ ms. filter q (map (pub_meta ps ts) ts) ++ ms)
      (part (topic_sub r) life_row ts _
      ∙ ap (λ ms. filter q (map (sub_meta ps ts) ts) ++ ms)
      (part client_pub (row_of ts) ps _
      ∙ ap (λ ms. filter q (map (client_pub_meta ts) ps) ++ ms)
      (part client_sub (row_of ts) ps (own_metas ps ts))))

  record Same (ps : List Plain) (ts : List Topic) (qs : List Plain) (us : List Topic) : Type 0 where
    pubs : filter q (map (pub_meta qs us) us) ≡ filter q (map (pub_meta ps ts) ts)
    subs : filter q (map (sub_meta qs us) us) ≡ filter q (map (sub_meta ps ts) ts)
    client_pubs : filter q (map (client_pub_meta us) qs) ≡ filter q (map (client_pub_meta ts) ps)
    client_subs : filter q (map (client_sub_meta us) qs) ≡ filter q (map (client_sub_meta ts) ps)
    own : filter q (own_metas qs us) ≡ filter q (own_metas ps ts)

  same-metas : (ps : List Plain) (ts : List Topic) (qs : List Plain) (us : List Topic) → Same ps ts qs us
      → filter q (plain_metas qs us) ≡ filter q (plain_metas ps ts)
  same-metas ps ts qs us s =
      in-parts qs us ∙ two s.pubs (two s.subs (two s.client_pubs (two s.client_subs s.own))) ∙ sym (in-parts ps ts)

-- ---- the bytes of each kind

module _ (ps qs : List Plain) (ts us : List Topic) (t : Topic) where
  pub-bytes : publishers_of (map (row_of us) qs) t.name ≡ publishers_of (map (row_of ts) ps) t.name
      → pub_meta qs us t ≡ pub_meta ps ts t
  pub-bytes e =
      ap (λ elements. record {
        id = id_of 2 t.id;
        name = codes "$pub$" ++ t.name;
        bytes = array_bytes elements;
      }) e

  sub-bytes : subscribers_of (map (row_of us) qs) t.name ≡ subscribers_of (map (row_of ts) ps) t.name
      → sub_meta qs us t ≡ sub_meta ps ts t
  sub-bytes e =
      ap (λ elements. record {
        id = id_of 3 t.id;
        name = codes "$sub$" ++ t.name;
        bytes = array_bytes elements;
      }) e

client-bytes : (p : Plain) (ts us : List Topic) → pub_rows p.number us ≡ pub_rows p.number ts
    → client_pub_meta us p ≡ client_pub_meta ts p
client-bytes p ts us e =
    ap (λ rows. record {
      id = id_of 4 p.number;
      name = codes "$client_pub$" ++ p.name;
      bytes = array_bytes (map publisher_element rows);
    }) e

-- the connection of this number has other subscriptions
abbrev pub resubscribed : ℕ → (Subs → Subs) → Plain → Plain
resubscribed conn f p = cond (is_numbered conn p) (record p { subs = f p.subs }) p

-- ---- what isn't touched

module _ (names : List (List ℕ)) where
  abbrev is_other : MetaNow → Bool
  is_other m = not (is_used names m.name)

  -- both meta topics of the topic are touched
  pub record Touches (topic : List ℕ) : Type 0 where
    pub publishers : is_used names (codes "$pub$" ++ topic) ≡ true
    pub subscribers : is_used names (codes "$sub$" ++ topic) ≡ true

  not-both : (x : List ℕ) → is_used names x ≡ true → not (is_used names x) ≡ true → ⊥
  not-both x e f = let no : not (is_used names x) ≡ false = ap not e in cc

  -- a touched topic isn't one whose meta topics aren't
  other-topic : (name topic : List ℕ) → not (is_used names (codes "$pub$" ++ name)) ≡ true → Touches topic
      → bytes_eq topic name ≡ false
  other-topic name topic e touches = by (bytes_eq topic name) refl
    where
      by : (b : Bool) → bytes_eq topic name ≡ b → b ≡ false
      by true f =
          let same : topic ≡ name = (bytes_eq-Decides topic name).0 f in
          absurd (not-both (codes "$pub$" ++ name)
          (sym (ap (λ n. is_used names (codes "$pub$" ++ n)) same) ∙ touches.publishers) e)
      by false f = refl

  -- the meta topics of the server itself, where the clients are touched or the same
  own-same : (ps qs : List Plain) (ts us : List Topic)
      → (is_used names (codes "$clients") ≡ false
      → map client_element (map (row_of us) qs) ≡ map client_element (map (row_of ts) ps))
      → filter is_other (own_metas qs us) ≡ filter is_other (own_metas ps ts)
  own-same ps qs ts us same = by (is_used names (codes "$clients")) refl
    where
      rest : List MetaNow
      rest = filter is_other (server_pub ∷ server_sub ∷ [])

      by : (b : Bool) → is_used names (codes "$clients") ≡ b
          → cond (not b) (clients (plain_roster qs us) ∷ rest) rest
          ≡ cond (not b) (clients (plain_roster ps ts) ∷ rest) rest
      by true e = refl
      by false e =
          ap (λ elements. record {
            id = id_of 6 1;
            name = codes "$clients";
            bytes = array_bytes elements;
          } ∷ rest) (same e)

  -- ---- topics change

  -- of the topics only touched ones begin, end or have other publishers, and these are the connection's
  pub record ChangesTopics (conn : ℕ) (ts us : List Topic) : Type 0 where
    pub same_named : (b : List ℕ → Bool) → ((topic : List ℕ) → Touches topic → b topic ≡ false)
        → filter (λ (t : Topic). b t.name) us ≡ filter (λ (t : Topic). b t.name) ts
    pub same_rows : (number : ℕ) → (number == conn) ≡ false → pub_rows number us ≡ pub_rows number ts

  pub topics-changed : (conn : ℕ) (ps : List Plain) (ts us : List Topic) → ChangesTopics conn ts us
      → AllByRecursion
      (λ (p : Plain). is_numbered conn p ≡ true → is_used names (codes "$client_pub$" ++ p.name) ≡ true) ps
      → untouched names (plain_metas ps us) ≡ untouched names (plain_metas ps ts)
  topics-changed conn ps ts us changes touches =
      same-metas is_other ps ts ps us (record {
        pubs = table-same is_other (pub_meta ps ts) (pub_meta ps us) (λ t. refl) ts us
            (changes.same_named (λ n. not (is_used names (codes "$pub$" ++ n)))
            (λ topic both. ap not both.publishers))
            (each-all (λ (t : Topic). is_other (pub_meta ps ts t) ≡ true → pub_meta ps us t ≡ pub_meta ps ts t)
            (λ t e. pub-bytes ps ps ts us t
            (publishers-topics t.name ts us (changes.same_named (λ n. bytes_eq n t.name)
            (λ topic both. other-topic t.name topic e both)) ps)) us);
        subs = table-same is_other (sub_meta ps ts) (sub_meta ps us) (λ t. refl) ts us
            (changes.same_named (λ n. not (is_used names (codes "$sub$" ++ n)))
            (λ topic both. ap not both.subscribers))
            (each-all (λ (t : Topic). is_other (sub_meta ps ts t) ≡ true → sub_meta ps us t ≡ sub_meta ps ts t)
            (λ t e. sub-bytes ps ps ts us t (subscribers-topics t.name ts us ps)) us);
        client_pubs = table-same is_other (client_pub_meta ts) (client_pub_meta us) (λ p. refl) ps ps refl
            (each-more
            (λ (p : Plain). is_numbered conn p ≡ true → is_used names (codes "$client_pub$" ++ p.name) ≡ true)
            (λ (p : Plain). is_other (client_pub_meta ts p) ≡ true → client_pub_meta us p ≡ client_pub_meta ts p)
            (λ p touched e. client p touched e (is_numbered conn p) refl) ps touches);
        client_subs = refl;
        own = own-same ps ps ts us (λ e. clients-topics ts us ps);
      })
    where
      client : (p : Plain)
          → (is_numbered conn p ≡ true → is_used names (codes "$client_pub$" ++ p.name) ≡ true)
          → is_other (client_pub_meta ts p) ≡ true → (b : Bool) → is_numbered conn p ≡ b
          → client_pub_meta us p ≡ client_pub_meta ts p
      client p touched e true f = absurd (not-both (codes "$client_pub$" ++ p.name) (touched f) e)
      client p touched e false f = client-bytes p ts us (changes.same_rows p.number f)

  -- ---- a connection that publishes nothing closes

  pub connection-left : (conn : ℕ) (ps : List Plain) (ts : List Topic) → pub_rows conn ts ≡ []
      → AllByRecursion (λ (p : Plain). is_numbered conn p ≡ true
      → (is_used names (codes "$clients") ≡ true) × (is_used names (codes "$client_pub$" ++ p.name) ≡ true)
      × (is_used names (codes "$client_sub$" ++ p.name) ≡ true)) ps
      → is_used names (codes "$clients") ≡ true
      → AllByRecursion (λ (t : Topic). not (is_used names (codes "$sub$" ++ t.name)) ≡ true
      → AllByRecursion (λ (p : Plain). is_numbered conn p ≡ true → are_matching p.subs t.name ≡ false) ps) ts
      → untouched names (plain_metas (others conn ps) ts) ≡ untouched names (plain_metas ps ts)
  connection-left conn ps ts none touches gone matches =
      let qs = others conn ps in
      same-metas is_other ps ts qs ts (record {
        pubs = table-same is_other (pub_meta ps ts) (pub_meta qs ts) (λ t. refl) ts ts refl
            (each-all (λ (t : Topic). is_other (pub_meta ps ts t) ≡ true → pub_meta qs ts t ≡ pub_meta ps ts t)
            (λ t e. pub-bytes ps qs ts ts t (publishers-others t.name ts conn none ps)) ts);
        subs = table-same is_other (sub_meta ps ts) (sub_meta qs ts) (λ t. refl) ts ts refl
            (each-more _
            (λ (t : Topic). is_other (sub_meta ps ts t) ≡ true → sub_meta qs ts t ≡ sub_meta ps ts t)
            (λ t unmatched e. sub-bytes ps qs ts ts t (subscribers-others t.name ts conn ps (unmatched e)))
            ts matches);
        client_pubs = table-same is_other (client_pub_meta ts) (client_pub_meta ts) (λ p. refl) ps qs
            (filter-others (λ p. is_other (client_pub_meta ts p)) (is_numbered conn) ps
            (each-more _
            (λ (p : Plain). is_numbered conn p ≡ true → is_other (client_pub_meta ts p) ≡ false)
            (λ p touched e. ap not (touched e).1) ps touches))
            (each-all _ (λ p e. refl) qs);
        client_subs = table-same is_other (client_sub_meta ts) (client_sub_meta ts) (λ p. refl) ps qs
            (filter-others (λ p. is_other (client_sub_meta ts p)) (is_numbered conn) ps
            (each-more _
            (λ (p : Plain). is_numbered conn p ≡ true → is_other (client_sub_meta ts p) ≡ false)
            (λ p touched e. ap not (touched e).2) ps touches))
            (each-all _ (λ p e. refl) qs);
        own = own-same ps qs ts ts (λ e. absurd (not-both (codes "$clients") gone (ap not e)));
      })

  -- ---- one that publishes nothing opens

  pub connection-joined : (p : Plain) (ps : List Plain) (ts : List Topic) → pub_rows p.number ts ≡ []
      → ((name : List ℕ) → are_matching p.subs name ≡ false)
      → is_used names (codes "$clients") ≡ true
      → is_used names (codes "$client_pub$" ++ p.name) ≡ true
      → is_used names (codes "$client_sub$" ++ p.name) ≡ true
      → untouched names (plain_metas (ps ++ p ∷ []) ts) ≡ untouched names (plain_metas ps ts)
  connection-joined p ps ts none unmatched come pub_touched sub_touched =
      let qs = ps ++ p ∷ [] in
      same-metas is_other ps ts qs ts (record {
        pubs = table-same is_other (pub_meta ps ts) (pub_meta qs ts) (λ t. refl) ts ts refl
            (each-all (λ (t : Topic). is_other (pub_meta ps ts t) ≡ true → pub_meta qs ts t ≡ pub_meta ps ts t)
            (λ t e. pub-bytes ps qs ts ts t (publishers-joined t.name ts p none ps)) ts);
        subs = table-same is_other (sub_meta ps ts) (sub_meta qs ts) (λ t. refl) ts ts refl
            (each-all (λ (t : Topic). is_other (sub_meta ps ts t) ≡ true → sub_meta qs ts t ≡ sub_meta ps ts t)
            (λ t e. sub-bytes ps qs ts ts t (subscribers-joined t.name ts p (unmatched t.name) ps)) ts);
        client_pubs = table-same is_other (client_pub_meta ts) (client_pub_meta ts) (λ p. refl) ps qs
            (filter-pushed (λ p. is_other (client_pub_meta ts p)) ps p (ap not pub_touched))
            (each-all _ (λ p e. refl) qs);
        client_subs = table-same is_other (client_sub_meta ts) (client_sub_meta ts) (λ p. refl) ps qs
            (filter-pushed (λ p. is_other (client_sub_meta ts p)) ps p (ap not sub_touched))
            (each-all _ (λ p e. refl) qs);
        own = own-same ps qs ts ts (λ e. absurd (not-both (codes "$clients") come (ap not e)));
      })

  -- ---- one has other subscriptions

  module _ (conn : ℕ) (f : Subs → Subs) where
    same-number : (p : Plain) → (resubscribed conn f p).number ≡ p.number
    same-number p = by (is_numbered conn p)
      where
        by : (b : Bool) → (cond b (record p { subs = f p.subs }) p).number ≡ p.number
        by true = refl
        by false = refl

    same-name : (p : Plain) → (resubscribed conn f p).name ≡ p.name
    same-name p = by (is_numbered conn p)
      where
        by : (b : Bool) → (cond b (record p { subs = f p.subs }) p).name ≡ p.name
        by true = refl
        by false = refl

    same-publishers : (ts : List Topic) (p : Plain)
        → client_pub_meta ts (resubscribed conn f p) ≡ client_pub_meta ts p
    same-publishers ts p = by (is_numbered conn p)
      where
        by : (b : Bool) → client_pub_meta ts (cond b (record p { subs = f p.subs }) p) ≡ client_pub_meta ts p
        by true = refl
        by false = refl

    same-client : (ts : List Topic) (p : Plain)
        → client_element (row_of ts (resubscribed conn f p)) ≡ client_element (row_of ts p)
    same-client ts p = by (is_numbered conn p)
      where
        by : (b : Bool) → client_element (row_of ts (cond b (record p { subs = f p.subs }) p))
            ≡ client_element (row_of ts p)
        by true = refl
        by false = refl

    -- both where it isn't this connection, and where none of its subscriptions matches before and after
    same-subscribers : (name : List ℕ) (p : Plain)
        → (is_numbered conn p ≡ true
        → (are_matching p.subs name ≡ false) × (are_matching (f p.subs) name ≡ false))
        → its_subscribers name (resubscribed conn f p) ≡ its_subscribers name p
    same-subscribers name p unmatched = by (is_numbered conn p) refl
      where
        by : (b : Bool) → is_numbered conn p ≡ b
            → its_subscribers name (cond b (record p { subs = f p.subs }) p) ≡ its_subscribers name p
        by true e =
            none-subscribe name (record p { subs = f p.subs }) (unmatched e).1
            ∙ sym (none-subscribe name p (unmatched e).0)
        by false e = refl

    same-named : (ts : List Topic) (p : Plain)
        → is_other (client_sub_meta ts (resubscribed conn f p)) ≡ is_other (client_sub_meta ts p)
    same-named ts p = ap (λ name. not (is_used names (codes "$client_sub$" ++ name))) (same-name p)

    pub connection-resubscribed : (ps : List Plain) (ts : List Topic)
        → AllByRecursion
        (λ (p : Plain). is_numbered conn p ≡ true → is_used names (codes "$client_sub$" ++ p.name) ≡ true) ps
        → AllByRecursion (λ (t : Topic). not (is_used names (codes "$sub$" ++ t.name)) ≡ true
        → AllByRecursion (λ (p : Plain). is_numbered conn p ≡ true
        → (are_matching p.subs t.name ≡ false) × (are_matching (f p.subs) t.name ≡ false)) ps) ts
        → untouched names (plain_metas (map (resubscribed conn f) ps) ts) ≡ untouched names (plain_metas ps ts)
    connection-resubscribed ps ts touches matches =
        let qs = map (resubscribed conn f) ps in
        same-metas is_other ps ts qs ts (record {
          pubs = table-same is_other (pub_meta ps ts) (pub_meta qs ts) (λ t. refl) ts ts refl
              (each-all (λ (t : Topic). is_other (pub_meta ps ts t) ≡ true → pub_meta qs ts t ≡ pub_meta ps ts t)
              (λ t e. pub-bytes ps qs ts ts t
              (publishers-kept t.name ts (resubscribed conn f) same-number same-name ps)) ts);
          subs = table-same is_other (sub_meta ps ts) (sub_meta qs ts) (λ t. refl) ts ts refl
              (each-more _
              (λ (t : Topic). is_other (sub_meta ps ts t) ≡ true → sub_meta qs ts t ≡ sub_meta ps ts t)
              (λ t unmatched e. sub-bytes ps qs ts ts t
              (subscribers-kept t.name ts (resubscribed conn f) ps
              (each-more _ (λ (p : Plain). its_subscribers t.name (resubscribed conn f p) ≡ its_subscribers t.name p)
              (λ p no. same-subscribers t.name p no) ps (unmatched e)))) ts matches);
          client_pubs =
              ap (filter is_other) (map-both (resubscribed conn f) (client_pub_meta ts) ps)
              ∙ table-same is_other (client_pub_meta ts) (λ p. client_pub_meta ts (resubscribed conn f p))
              (λ p. ap is_other (same-publishers ts p)) ps ps refl
              (each-all _ (λ p e. same-publishers ts p) ps);
          client_subs =
              ap (filter is_other) (map-both (resubscribed conn f) (client_sub_meta ts) ps)
              ∙ table-same is_other (client_sub_meta ts) (λ p. client_sub_meta ts (resubscribed conn f p))
              (same-named ts) ps ps refl
              (each-more _
              (λ (p : Plain). is_other (client_sub_meta ts p) ≡ true
              → client_sub_meta ts (resubscribed conn f p) ≡ client_sub_meta ts p)
              (λ p touched e. client ts p touched e (is_numbered conn p) refl) ps touches);
          own = own-same ps qs ts ts (λ e. clients-kept ts (resubscribed conn f) (same-client ts) ps);
        })
      where
        client : (ts : List Topic) (p : Plain)
            → (is_numbered conn p ≡ true → is_used names (codes "$client_sub$" ++ p.name) ≡ true)
            → is_other (client_sub_meta ts p) ≡ true → (b : Bool) → is_numbered conn p ≡ b
            → client_sub_meta ts (cond b (record p { subs = f p.subs }) p) ≡ client_sub_meta ts p
        client ts p touched e true h = absurd (not-both (codes "$client_sub$" ++ p.name) (touched h) e)
        client ts p touched e false h = refl
