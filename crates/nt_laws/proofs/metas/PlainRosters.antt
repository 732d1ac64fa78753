-- What the rows of a roster are made of: the meta topics of a topic tell of its publishers alone, and of subscriptions.
use Rattle.std.proofs.Common.{◌≡◌, not, ℕ, Bool, true, false, cond, List, [], ◌∷◌, ◌++◌, map, filter, refl}
use Rattle.std.proofs.Common.{sym, ◌∙◌, ap, arith, bytes_eq}
use Rattle.std.specs.List.{AllByRecursion, flat_map}
use Rattle.std.proofs.lemmas.Bool.Decides.{nat_tests}
use Rattle.std.proofs.lemmas.List.Elements.{filter-append}
use Rattle.nt_msgpack.specs.Atoms.{AtomValue}
use Rattle.nt_subs.specs.Subscriptions.{Subs}
use Rattle.nt_subs.specs.Wishes.{is_matched}
use Rattle.nt_rules.specs.declared.topic.Pub.{Pub}
use Rattle.nt_rules.specs.declared.topic.Topic.{Topic}
use Rattle.nt_rules.specs.topics.Topics.{is_of, is_named}
use Rattle.nt_rules.specs.declared.roster.ConnRow.{ConnRow}
use Rattle.nt_rules.specs.declared.roster.PubRow.{PubRow}
use Rattle.nt_rules.specs.declared.roster.Roster.{Roster}
use Rattle.nt_rules.specs.meta.Elements.{client_element, topic_publisher, topic_subscriber, publishers_of, subscribers_of}
use Rattle.nt_rules.specs.meta.Meta.{metas}
use Rattle.nt_rules.specs.meta.Order.{insert_all, pub_below}
use Rattle.nt_rules.specs.declared.meta.MetaNow.{MetaNow}
use Rattle.nt_rules.specs.history.Metas.{pub_row, pub_rows, sub_row, life_row, roster_of}
use Rattle.nt_rules.specs.history.Now.{Connection}
use Rattle.nt_rules.specs.history.Step.{Plain, plain_of}
use Rattle.nt_laws.specs.Touched.{are_matching}
use Rattle.nt_laws.proofs.histories.ConnectionLaws.{is_numbered, others}
use Rattle.nt_laws.proofs.histories.Publishers.{AreOthers}
use Rattle.nt_laws.proofs.metas.OrderedRows.{filter-ordered}
use Rattle.nt_laws.proofs.metas.Rosters.{row_of, rows-said}
use Rattle.nt_laws.proofs.topics.OneName.{or-false}

-- ---- rosters

abbrev pub plain_roster : List Plain → List Topic → Roster
plain_roster ps ts = record { conns = map (row_of ts) ps; topics = map life_row ts }

abbrev pub plain_metas : List Plain → List Topic → List MetaNow
plain_metas ps ts = metas (plain_roster ps ts)

pub metas-plain : (cs : List Connection) (ts : List Topic)
    → metas (roster_of cs ts) ≡ plain_metas (map plain_of cs) ts
metas-plain cs ts =
    ap (λ (rows : List ConnRow). metas (record { conns = rows; topics = map life_row ts })) (rows-said ts cs)

-- ---- the rows of publishers

-- those of a connection to a topic
abbrev pub rows : ℕ → Topic → List PubRow
rows number t = map (pub_row t) (filter (is_of number) t.pubs)

-- those to the topic of this name
abbrev pub is_to : List ℕ → PubRow → Bool
is_to name p = bytes_eq p.topic name

rows-to : (name : List ℕ) (t : Topic) (ps : List Pub)
    → filter (is_to name) (map (pub_row t) ps) ≡ cond (is_named name t) (map (pub_row t) ps) []
rows-to name t [] = by (is_named name t)
  where
    by : (b : Bool) → [] ≡ cond b (map (pub_row t) []) []
    by true = refl
    by false = refl
rows-to name t (p ∷ ps) = by (is_named name t) (rows-to name t ps)
  where
    by : (b : Bool) → filter (is_to name) (map (pub_row t) ps) ≡ cond b (map (pub_row t) ps) []
        → cond b (pub_row t p ∷ filter (is_to name) (map (pub_row t) ps)) (filter (is_to name) (map (pub_row t) ps))
        ≡ cond b (pub_row t p ∷ map (pub_row t) ps) []
    by true more = ap (λ rs. pub_row t p ∷ rs) more
    by false more = more

rows-named : (number : ℕ) (name : List ℕ) (ts : List Topic)
    → filter (is_to name) (flat_map (rows number) ts) ≡ flat_map (rows number) (filter (is_named name) ts)
rows-named number name [] = refl
rows-named number name (t ∷ ts) =
    filter-append (is_to name) (rows number t) (flat_map (rows number) ts)
    ∙ ap (λ rs. rs ++ filter (is_to name) (flat_map (rows number) ts))
    (rows-to name t (filter (is_of number) t.pubs))
    ∙ ap (λ rs. cond (is_named name t) (rows number t) [] ++ rs) (rows-named number name ts)
    ∙ by (is_named name t)
  where
    by : (b : Bool)
        → cond b (rows number t) [] ++ flat_map (rows number) (filter (is_named name) ts)
        ≡ flat_map (rows number) (cond b (t ∷ filter (is_named name) ts) (filter (is_named name) ts))
    by true = refl
    by false = refl

-- the rows to a topic are those of the topics of its name
told-rows : (number : ℕ) (name : List ℕ) (ts : List Topic)
    → filter (is_to name) (pub_rows number ts)
    ≡ insert_all pub_below [] (flat_map (rows number) (filter (is_named name) ts))
told-rows number name ts =
    filter-ordered (is_to name) (flat_map (rows number) ts)
    ∙ ap (λ rs. insert_all pub_below [] rs) (rows-named number name ts)

-- a connection that publishes none of the topics has no rows
rows-none : (number : ℕ) (t : Topic) (ps : List Pub) → AreOthers number ps
    → map (pub_row t) (filter (is_of number) ps) ≡ []
rows-none number t [] h = refl
rows-none number t (p ∷ ps) h =
    ap (λ b. map (pub_row t) (cond b (p ∷ filter (is_of number) ps) (filter (is_of number) ps))) h.0
    ∙ rows-none number t ps h.1

flat-none : (number : ℕ) (ts : List Topic) → AllByRecursion (λ (t : Topic). AreOthers number t.pubs) ts
    → flat_map (rows number) ts ≡ []
flat-none number [] h = refl
flat-none number (t ∷ ts) h =
    ap (λ rs. rs ++ flat_map (rows number) ts) (rows-none number t t.pubs h.0) ∙ flat-none number ts h.1

pub no-rows : (number : ℕ) (ts : List Topic) → AllByRecursion (λ (t : Topic). AreOthers number t.pubs) ts
    → pub_rows number ts ≡ []
no-rows number ts h = ap (λ rs. insert_all pub_below [] rs) (flat-none number ts h)

-- ---- the publishers of a topic

module _ (name : List ℕ) where
  -- those of one connection
  abbrev its_publishers : List Topic → Plain → List (List AtomValue)
  its_publishers ts p = map (topic_publisher p.name) (filter (is_to name) (pub_rows p.number ts))

  none-publish : (ts : List Topic) (p : Plain) → pub_rows p.number ts ≡ [] → its_publishers ts p ≡ []
  none-publish ts p none = ap (λ rs. map (topic_publisher p.name) (filter (is_to name) rs)) none

  -- other topics are nothing to them
  pub publishers-topics : (ts us : List Topic) → filter (is_named name) us ≡ filter (is_named name) ts
      → (ps : List Plain)
      → publishers_of (map (row_of us) ps) name ≡ publishers_of (map (row_of ts) ps) name
  publishers-topics ts us same [] = refl
  publishers-topics ts us same (p ∷ ps) =
      ap (λ rs. map (topic_publisher p.name) rs ++ publishers_of (map (row_of us) ps) name)
      (told-rows p.number name us ∙ ap (λ xs. insert_all pub_below [] (flat_map (rows p.number) xs)) same
      ∙ sym (told-rows p.number name ts))
      ∙ ap (λ elements. its_publishers ts p ++ elements) (publishers-topics ts us same ps)

  -- and so is a connection that publishes none
  pub publishers-others : (ts : List Topic) (conn : ℕ) → pub_rows conn ts ≡ [] → (ps : List Plain)
      → publishers_of (map (row_of ts) (others conn ps)) name ≡ publishers_of (map (row_of ts) ps) name
  publishers-others ts conn none [] = refl
  publishers-others ts conn none (p ∷ ps) = by (is_numbered conn p) refl (publishers-others ts conn none ps)
    where
      by : (b : Bool) → is_numbered conn p ≡ b
          → publishers_of (map (row_of ts) (others conn ps)) name ≡ publishers_of (map (row_of ts) ps) name
          → publishers_of (map (row_of ts) (cond (not b) (p ∷ others conn ps) (others conn ps))) name
          ≡ its_publishers ts p ++ publishers_of (map (row_of ts) ps) name
      by true e more =
          let number : p.number ≡ conn = grind (arith, nat_tests) in
          more
          ∙ sym (ap (λ elements. elements ++ publishers_of (map (row_of ts) ps) name)
          (none-publish ts p (ap (λ k. pub_rows k ts) number ∙ none)))
      by false e more = ap (λ elements. its_publishers ts p ++ elements) more

  pub publishers-joined : (ts : List Topic) (p : Plain) → pub_rows p.number ts ≡ [] → (ps : List Plain)
      → publishers_of (map (row_of ts) (ps ++ p ∷ [])) name ≡ publishers_of (map (row_of ts) ps) name
  publishers-joined ts p none [] = ap (λ elements. elements ++ []) (none-publish ts p none)
  publishers-joined ts p none (q ∷ ps) =
      ap (λ elements. its_publishers ts q ++ elements) (publishers-joined ts p none ps)

  -- subscriptions are nothing to them
  pub publishers-kept : (ts : List Topic) (f : Plain → Plain) → ((p : Plain) → (f p).number ≡ p.number)
      → ((p : Plain) → (f p).name ≡ p.name) → (ps : List Plain)
      → publishers_of (map (row_of ts) (map f ps)) name ≡ publishers_of (map (row_of ts) ps) name
  publishers-kept ts f numbers names [] = refl
  publishers-kept ts f numbers names (p ∷ ps) =
      ap (λ k. map (topic_publisher (f p).name) (filter (is_to name) (pub_rows k ts))
      ++ publishers_of (map (row_of ts) (map f ps)) name) (numbers p)
      ∙ ap (λ client. map (topic_publisher client) (filter (is_to name) (pub_rows p.number ts))
      ++ publishers_of (map (row_of ts) (map f ps)) name) (names p)
      ∙ ap (λ elements. its_publishers ts p ++ elements) (publishers-kept ts f numbers names ps)

-- ---- the subscribers of a topic

-- subscriptions that don't match have no rows
unmatched : (name : List ℕ) (subs : Subs) → are_matching subs name ≡ false
    → filter (λ s. is_matched s.sub name) (map sub_row subs) ≡ []
unmatched name [] e = refl
unmatched name (s ∷ subs) e =
    let both = or-false (is_matched s.1 name) (are_matching subs name) e in
    ap (λ b. cond b (sub_row s ∷ filter (λ s. is_matched s.sub name) (map sub_row subs))
    (filter (λ s. is_matched s.sub name) (map sub_row subs))) both.0
    ∙ unmatched name subs both.1

module _ (name : List ℕ) where
  -- those of one connection
  abbrev pub its_subscribers : Plain → List (List AtomValue)
  its_subscribers p = map (topic_subscriber p.name) (filter (λ s. is_matched s.sub name) (map sub_row p.subs))

  pub none-subscribe : (p : Plain) → are_matching p.subs name ≡ false → its_subscribers p ≡ []
  none-subscribe p e = ap (λ rs. map (topic_subscriber p.name) rs) (unmatched name p.subs e)

  -- topics are nothing to them
  pub subscribers-topics : (ts us : List Topic) (ps : List Plain)
      → subscribers_of (map (row_of us) ps) name ≡ subscribers_of (map (row_of ts) ps) name
  subscribers-topics ts us [] = refl
  subscribers-topics ts us (p ∷ ps) =
      ap (λ elements. its_subscribers p ++ elements) (subscribers-topics ts us ps)

  -- and so is a connection whose subscriptions don't match
  pub subscribers-others : (ts : List Topic) (conn : ℕ) (ps : List Plain)
      → AllByRecursion (λ (p : Plain). is_numbered conn p ≡ true → are_matching p.subs name ≡ false) ps
      → subscribers_of (map (row_of ts) (others conn ps)) name ≡ subscribers_of (map (row_of ts) ps) name
  subscribers-others ts conn [] h = refl
  subscribers-others ts conn (p ∷ ps) h = by (is_numbered conn p) refl (subscribers-others ts conn ps h.1)
    where
      by : (b : Bool) → is_numbered conn p ≡ b
          → subscribers_of (map (row_of ts) (others conn ps)) name ≡ subscribers_of (map (row_of ts) ps) name
          → subscribers_of (map (row_of ts) (cond (not b) (p ∷ others conn ps) (others conn ps))) name
          ≡ its_subscribers p ++ subscribers_of (map (row_of ts) ps) name
      by true e more =
          more
          ∙ sym (ap (λ elements. elements ++ subscribers_of (map (row_of ts) ps) name) (none-subscribe p (h.0 e)))
      by false e more = ap (λ elements. its_subscribers p ++ elements) more

  pub subscribers-joined : (ts : List Topic) (p : Plain) → are_matching p.subs name ≡ false → (ps : List Plain)
      → subscribers_of (map (row_of ts) (ps ++ p ∷ [])) name ≡ subscribers_of (map (row_of ts) ps) name
  subscribers-joined ts p none [] = ap (λ elements. elements ++ []) (none-subscribe p none)
  subscribers-joined ts p none (q ∷ ps) =
      ap (λ elements. its_subscribers q ++ elements) (subscribers-joined ts p none ps)

  -- one that has other subscriptions, none of which matches, as none did before
  pub subscribers-kept : (ts : List Topic) (f : Plain → Plain) (ps : List Plain)
      → AllByRecursion (λ (p : Plain). its_subscribers (f p) ≡ its_subscribers p) ps
      → subscribers_of (map (row_of ts) (map f ps)) name ≡ subscribers_of (map (row_of ts) ps) name
  subscribers-kept ts f [] h = refl
  subscribers-kept ts f (p ∷ ps) h =
      ap (λ elements. elements ++ subscribers_of (map (row_of ts) (map f ps)) name) h.0
      ∙ ap (λ elements. its_subscribers p ++ elements) (subscribers-kept ts f ps h.1)

-- ---- the clients

-- topics are nothing to them
pub clients-topics : (ts us : List Topic) (ps : List Plain)
    → map client_element (map (row_of us) ps) ≡ map client_element (map (row_of ts) ps)
clients-topics ts us [] = refl
clients-topics ts us (p ∷ ps) = ap (λ elements. client_element (row_of ts p) ∷ elements) (clients-topics ts us ps)

-- and so are subscriptions
pub clients-kept : (ts : List Topic) (f : Plain → Plain)
    → ((p : Plain) → client_element (row_of ts (f p)) ≡ client_element (row_of ts p)) → (ps : List Plain)
    → map client_element (map (row_of ts) (map f ps)) ≡ map client_element (map (row_of ts) ps)
clients-kept ts f same [] = refl
clients-kept ts f same (p ∷ ps) =
    ap (λ element. element ∷ map client_element (map (row_of ts) (map f ps))) (same p)
    ∙ ap (λ elements. client_element (row_of ts p) ∷ elements) (clients-kept ts f same ps)
