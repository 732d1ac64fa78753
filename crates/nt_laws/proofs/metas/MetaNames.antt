-- Meta topics stand by rising id, and each is found by its name.
use Rattle.std.proofs.Common.{◌≡◌, ◌≢◌, ℕ, ◌<◌, ◌≤◌, Bool, true, false, List, [], ◌∷◌, ◌++◌, map, Some, refl, ap, sym}
use Rattle.std.proofs.Common.{◌∙◌, subst, bytes_eq, codes, arith, cond, lit<}
use Rattle.std.specs.List.{find, All, AllByRecursion}
use Rattle.std.proofs.lemmas.List.{append_cancel_left}
use Rattle.std.proofs.lemmas.List.Elements.{All-head, All-rest}
use Rattle.std.proofs.lemmas.Slice.Eq.{bytes_eq-Decides}
use Rattle.nt_rules.specs.Limits.{last_connection}
use Rattle.nt_rules.specs.declared.roster.ConnRow.{ConnRow}
use Rattle.nt_rules.specs.declared.roster.LifeRow.{LifeRow}
use Rattle.nt_rules.specs.declared.roster.Roster.{Roster}
use Rattle.nt_rules.specs.declared.meta.MetaNow.{MetaNow}
use Rattle.nt_rules.specs.meta.Meta.{id_of, topic_pub, topic_sub, client_pub, client_sub, clients, server_pub}
use Rattle.nt_rules.specs.meta.Meta.{server_sub, is_named, metas}
use Rattle.nt_rules.specs.meta.Order.{ordered}
use Rattle.nt_laws.proofs.metas.RowOrder.{all-weaker, names-differ}
use Rattle.nt_rules.specs.meta.Rosters.{Pairwise, IsRoster, AreById, AreFound, AreFoundInOrder}

-- ---- what holds of each of two lists

all-rows : {X Y : Type 0} (P : X → Type 0) (Q : Y → Type 0) (f : X → Y) (xs : List X) (ys : List Y)
    → ((x : X) → P x → Q (f x)) → AllByRecursion P xs → AllByRecursion Q ys
    → AllByRecursion Q (map f xs ++ ys)
all-rows P Q f [] ys step all rest = rest
all-rows P Q f (x ∷ xs) ys step all rest = (step x all.0, all-rows P Q f xs ys step all.1 rest)

all-each : {X Y : Type 0} (Q : Y → Type 0) (f : X → Y) (xs : List X) (ys : List Y)
    → ((x : X) → Q (f x)) → AllByRecursion Q ys → AllByRecursion Q (map f xs ++ ys)
all-each Q f [] ys step rest = rest
all-each Q f (x ∷ xs) ys step rest = (step x, all-each Q f xs ys step rest)

all-both : {Y : Type 0} (P Q R : Y → Type 0) (ys : List Y) → ((y : Y) → P y → Q y → R y)
    → AllByRecursion P ys → AllByRecursion Q ys → AllByRecursion R ys
all-both P Q R [] step p q = tt
all-both P Q R (y ∷ ys) step p q = (step y p.0 q.0, all-both P Q R ys step p.1 q.1)

-- ---- ids

abbrev Rise : List MetaNow → Type 0
Rise ms = Pairwise (λ a b. a.id < b.id) ms

abbrev From : ℕ → List MetaNow → Type 0
From least ms = AllByRecursion (λ m. least ≤ m.id) ms

-- the meta topics of one kind, by rising number, and those of the kinds above
rise-rows : {X : Type 0} (kind : ℕ) (key : X → ℕ) (f : X → MetaNow)
    → ((x : X) → (f x).id ≡ id_of kind (key x))
    → (xs : List X) → Pairwise (λ a b. key a < key b) xs → All (λ x. key x ≤ last_connection) xs
    → (ys : List MetaNow) → Rise ys → From (id_of kind 268_435_456) ys
    → Rise (map f xs ++ ys)
rise-rows kind key f is [] pairs small ys rise from = rise
rise-rows kind key f is (x ∷ xs) pairs small ys rise from =
    let here : key x ≤ last_connection = All-head (λ x. key x ≤ last_connection) x xs small in (
      all-rows (λ y. key x < key y) (λ m. (f x).id < m.id) f xs ys
          (λ y (l : key x < key y). let a = is x in let b = is y in omega (arith, l)) pairs.0
          (all-weaker (λ m. id_of kind 268_435_456 ≤ m.id) (λ m. (f x).id < m.id) ys
          (λ m (l : id_of kind 268_435_456 ≤ m.id). let a = is x in omega (arith, l, here)) from),
      rise-rows kind key f is xs pairs.1 (All-rest (λ x. key x ≤ last_connection) x xs (x ∷ xs) refl small) ys
          rise from,
    )

from-rows : {X : Type 0} (kind : ℕ) (key : X → ℕ) (f : X → MetaNow)
    → ((x : X) → (f x).id ≡ id_of kind (key x))
    → (xs : List X) (ys : List MetaNow) → From (id_of kind 268_435_456) ys
    → From (id_of kind 0) (map f xs ++ ys)
from-rows kind key f is xs ys from =
    all-each (λ m. id_of kind 0 ≤ m.id) f xs ys (λ x. let a = is x in omega arith)
    (all-weaker (λ m. id_of kind 268_435_456 ≤ m.id) (λ m. id_of kind 0 ≤ m.id) ys
    (λ m (l : id_of kind 268_435_456 ≤ m.id). omega (arith, l)) from)

pub metas-by-id : (r : Roster) → IsRoster r → AreById r
metas-by-id r n =
    let own = clients r ∷ server_pub ∷ server_sub ∷ [] in
    let rise6 : Rise own = ((lit< tt, (lit< tt, tt)), ((lit< tt, tt), (tt, tt))) in
    let from6 : From (id_of 5 268_435_456) own = (omega arith, (omega arith, (omega arith, tt))) in
    let rise5 = rise-rows 5 (λ (c : ConnRow). c.conn) client_sub
    (λ c. refl) r.conns n.by_number n.numbered.conns own rise6 from6 in
    let from5 = from-rows 5 (λ (c : ConnRow). c.conn) client_sub (λ c. refl) r.conns own from6 in
    let rise4 = rise-rows 4 (λ (c : ConnRow). c.conn) client_pub
    (λ c. refl) r.conns n.by_number n.numbered.conns _ rise5 from5 in
    let from4 = from-rows 4 (λ (c : ConnRow). c.conn) client_pub (λ c. refl) r.conns _ from5 in
    let rise3 = rise-rows 3 (λ (t : LifeRow). t.id) (topic_sub r)
    (λ t. refl) r.topics n.by_id n.numbered.topics _ rise4 from4 in
    let from3 = from-rows 3 (λ (t : LifeRow). t.id) (topic_sub r) (λ t. refl) r.topics _ from4 in
    rise-rows 2 (λ (t : LifeRow). t.id) (topic_pub r)
    (λ t. refl) r.topics n.by_id n.numbered.topics _ rise3 from3

-- ---- names

-- no name is that of one after it
abbrev Apart : List MetaNow → Type 0
Apart ms = Pairwise (λ a b. bytes_eq a.name b.name ≡ false) ms

-- none of them has a name that begins with this
abbrev Others : List ℕ → List MetaNow → Type 0
Others prefix ms = (key : List ℕ) → AllByRecursion (λ m. bytes_eq (prefix ++ key) m.name ≡ false) ms

other-name : (prefix a b : List ℕ) → a ≢ b → bytes_eq (prefix ++ a) (prefix ++ b) ≡ false
other-name prefix a b differ = by (bytes_eq (prefix ++ a) (prefix ++ b)) refl
  where
    by : (t : Bool) → bytes_eq (prefix ++ a) (prefix ++ b) ≡ t → t ≡ false
    by true e = absurd (differ (append_cancel_left prefix a b
        ((bytes_eq-Decides (prefix ++ a) (prefix ++ b)).0 e)))
    by false e = refl

apart-rows : {X : Type 0} (prefix : List ℕ) (key : X → List ℕ) (f : X → MetaNow)
    → ((x : X) → (f x).name ≡ prefix ++ key x)
    → (xs : List X) → Pairwise (λ a b. key a ≢ key b) xs → (ys : List MetaNow) → Others prefix ys → Apart ys
    → Apart (map f xs ++ ys)
apart-rows prefix key f is [] pairs ys others apart = apart
apart-rows prefix key f is (x ∷ xs) pairs ys others apart = (
  all-rows (λ y. key x ≢ key y) (λ m. bytes_eq (f x).name m.name ≡ false) f xs ys
      (λ y (differ : key x ≢ key y). rw (is x, is y) (other-name prefix (key x) (key y) differ)) pairs.0
      (subst (λ z. AllByRecursion (λ m. bytes_eq z m.name ≡ false) ys) (sym (is x)) (others (key x))),
  apart-rows prefix key f is xs pairs.1 ys others apart,
)

-- each is found where no name before it is its own
found-own : (ms : List MetaNow) → Apart ms → AllByRecursion (λ m. find (is_named m.name) ms ≡ Some m) ms
found-own [] apart = tt
found-own (x ∷ xs) apart = (
  ap (λ b. cond b (Some x) (find (is_named x.name) xs)) ((bytes_eq-Decides x.name x.name).1 refl),
  all-both (λ m. bytes_eq x.name m.name ≡ false) (λ m. find (is_named m.name) xs ≡ Some m)
      (λ m. find (is_named m.name) (x ∷ xs) ≡ Some m) xs
      (λ m (e : bytes_eq x.name m.name ≡ false) (f : find (is_named m.name) xs ≡ Some m).
      ap (λ b. cond b (Some x) (find (is_named m.name) xs)) e ∙ f)
      apart.0 (found-own xs apart.1),
)

own-found : (r : Roster) → Pairwise (λ a b. a.name ≢ b.name) r.conns
    → Pairwise (λ a b. a.name ≢ b.name) r.topics → AreFound r
own-found r clients_differ topics_differ =
    let own = clients r ∷ server_pub ∷ server_sub ∷ [] in
    let subs = map client_sub r.conns ++ own in
    let pubs = map client_pub r.conns ++ subs in
    let told = map (topic_sub r) r.topics ++ pubs in
    let apart6 : Apart own = ((refl, (refl, tt)), ((refl, tt), (tt, tt))) in
    let apart5 : Apart subs =
    apart-rows (codes "$client_sub$") (λ (c : ConnRow). c.name) client_sub
    (λ c. refl) r.conns clients_differ own
    (λ key. (refl, (refl, (refl, tt)))) apart6 in
    let apart4 : Apart pubs =
    apart-rows (codes "$client_pub$") (λ (c : ConnRow). c.name) client_pub
    (λ c. refl) r.conns clients_differ subs
    (λ key. all-each (λ m. bytes_eq (codes "$client_pub$" ++ key) m.name ≡ false) client_sub r.conns own
    (λ c. refl)
    (refl, (refl, (refl, tt)))) apart5 in
    let apart3 : Apart told =
    apart-rows (codes "$sub$") (λ (t : LifeRow). t.name) (topic_sub r)
    (λ t. refl) r.topics topics_differ pubs
    (λ key. all-each (λ m. bytes_eq (codes "$sub$" ++ key) m.name ≡ false) client_pub r.conns subs (λ c. refl)
    (all-each (λ m. bytes_eq (codes "$sub$" ++ key) m.name ≡ false) client_sub r.conns own (λ c. refl)
    (refl, (refl, (refl, tt))))) apart4 in
    found-own (metas r)
    (apart-rows (codes "$pub$") (λ (t : LifeRow). t.name) (topic_pub r)
    (λ t. refl) r.topics topics_differ told
    (λ key. all-each (λ m. bytes_eq (codes "$pub$" ++ key) m.name ≡ false) (topic_sub r) r.topics pubs
    (λ t. refl)
    (all-each (λ m. bytes_eq (codes "$pub$" ++ key) m.name ≡ false) client_pub r.conns subs (λ c. refl)
    (all-each (λ m. bytes_eq (codes "$pub$" ++ key) m.name ≡ false) client_sub r.conns own (λ c. refl)
    (refl, (refl, (refl, tt)))))) apart3)

pub metas-found : (r : Roster) → IsRoster r → AreFound r
metas-found r n = own-found r n.clients_differ n.topics_differ

pub ordered-found : (r : Roster) → IsRoster r → AreFoundInOrder r
ordered-found r n = own-found (ordered r) (names-differ r n.by_number n.clients_differ) n.topics_differ
