-- Rows that are in order stay as they stand.
use Rattle.std.proofs.Common.{◌≡◌, ◌≢◌, ℕ, ◌<◌, ◌<ℤ◌, ℤ, Bool, false, cond, List, [], ◌∷◌, ◌++◌, map, refl, ap, sym}
use Rattle.std.proofs.Common.{◌∙◌, subst, append_assoc, append-nil, arith, int_lt, nat_lt}
use Rattle.std.proofs.lemmas.Int.{ints}
use Rattle.std.proofs.lemmas.Bool.Decides.{nat_tests}
use Rattle.std.specs.List.{AllByRecursion}
use Rattle.nt_rules.specs.declared.roster.ConnRow.{ConnRow}
use Rattle.nt_rules.specs.declared.roster.PubRow.{PubRow}
use Rattle.nt_rules.specs.declared.roster.SubRow.{SubRow}
use Rattle.nt_rules.specs.declared.roster.Roster.{Roster}
use Rattle.nt_rules.specs.meta.Order.{insert_after, insert_all, pub_below, sub_below, conn_below, ordered_conn, ordered}
use Rattle.nt_rules.specs.meta.Rosters.{Pairwise, IsInOrder}
use Rattle.nt_laws.proofs.topics.Pairs.{pairs-more, pairs-map}

-- ---- what holds of each item, and of each pair

pub all-weaker : {Y : Type 0} (P Q : Y → Type 0) (ys : List Y) → ((y : Y) → P y → Q y) → AllByRecursion P ys
    → AllByRecursion Q ys
all-weaker P Q [] step all = tt
all-weaker P Q (y ∷ ys) step all = (step y all.0, all-weaker P Q ys step all.1)

all-middle : {X : Type 0} (P : X → Type 0) (xs : List X) (r : X) (rs : List X)
    → AllByRecursion P (xs ++ r ∷ rs) → P r
all-middle P [] r rs all = all.0
all-middle P (x ∷ xs) r rs all = all-middle P xs r rs all.1

pairs-before : {X : Type 0} (P : X → X → Type 0) (xs : List X) (r : X) (rs : List X)
    → Pairwise P (xs ++ r ∷ rs) → AllByRecursion (λ x. P x r) xs
pairs-before P [] r rs pairs = tt
pairs-before P (x ∷ xs) r rs pairs = (all-middle (P x) xs r rs pairs.0, pairs-before P xs r rs pairs.1)

-- ---- rows put in order

-- a row that is below none stands at the end
behind-all : {X : Type 0} (below : X → X → Bool) (r : X) (xs : List X)
    → AllByRecursion (λ x. below r x ≡ false) xs → insert_after below r xs ≡ xs ++ r ∷ []
behind-all below r [] all = refl
behind-all below r (x ∷ xs) all =
    ap (λ b. cond b (r ∷ x ∷ xs) (x ∷ insert_after below r xs)) all.0
    ∙ ap (λ z. x ∷ z) (behind-all below r xs all.1)

all-behind : {X : Type 0} (below : X → X → Bool) (xs rs : List X)
    → Pairwise (λ a b. below b a ≡ false) (xs ++ rs) → insert_all below xs rs ≡ xs ++ rs
all-behind below xs [] pairs = sym (append-nil xs)
all-behind below xs (r ∷ rs) pairs =
    let same = append_assoc xs (r ∷ []) rs in
    ap (λ z. insert_all below z rs)
    (behind-all below r xs (pairs-before (λ a b. below b a ≡ false) xs r rs pairs))
    ∙ all-behind below (xs ++ r ∷ []) rs (subst (λ z. Pairwise (λ a b. below b a ≡ false) z) (sym same) pairs)
    ∙ same

not-below : (a b : ℕ) → a < b → nat_lt b a ≡ false
not-below a b l = grind (arith, nat_tests)

int-not-below : (a b : ℤ) → a <ℤ b → int_lt b a ≡ false
int-not-below a b l = grind (arith, ints, nat_tests)

conn-stays : (c : ConnRow) → Pairwise (λ a b. a.uid <ℤ b.uid) c.pubs
    → Pairwise (λ a b. a.uid <ℤ b.uid) c.subs → ordered_conn c ≡ c
conn-stays c pubs subs =
    let p : insert_all pub_below [] c.pubs ≡ c.pubs =
    all-behind pub_below [] c.pubs (pairs-more (λ (a b : PubRow). a.uid <ℤ b.uid)
    (λ a b. pub_below b a ≡ false) (λ a b. int-not-below a.uid b.uid) c.pubs pubs) in
    let s : insert_all sub_below [] c.subs ≡ c.subs =
    all-behind sub_below [] c.subs (pairs-more (λ (a b : SubRow). a.uid <ℤ b.uid)
    (λ a b. sub_below b a ≡ false) (λ a b. int-not-below a.uid b.uid) c.subs subs) in
    ap (λ (z : List PubRow). record c { pubs = z; subs = insert_all sub_below [] c.subs }) p
    ∙ ap (λ (z : List SubRow). record c { subs = z }) s

each-stays : (cs : List ConnRow) → AllByRecursion (λ c. Pairwise (λ a b. a.uid <ℤ b.uid) c.pubs) cs
    → AllByRecursion (λ c. Pairwise (λ a b. a.uid <ℤ b.uid) c.subs) cs → map ordered_conn cs ≡ cs
each-stays [] pubs subs = refl
each-stays (c ∷ cs) pubs subs =
    ap (λ z. z ∷ map ordered_conn cs) (conn-stays c pubs.0 subs.0)
    ∙ ap (λ z. c ∷ z) (each-stays cs pubs.1 subs.1)

-- connections by rising number stay in their places
conns-stay : (r : Roster) → Pairwise (λ a b. a.conn < b.conn) r.conns
    → (ordered r).conns ≡ map ordered_conn r.conns
conns-stay r pairs =
    all-behind conn_below [] (map ordered_conn r.conns)
    (pairs-map (λ a b. conn_below b a ≡ false) ordered_conn r.conns
    (pairs-more (λ (a b : ConnRow). a.conn < b.conn)
    (λ a b. conn_below (ordered_conn b) (ordered_conn a) ≡ false)
    (λ a b. not-below a.conn b.conn) r.conns pairs))

pub rows-stay : (r : Roster) → IsInOrder r → ordered r ≡ r
rows-stay r order =
    ap (λ (z : List ConnRow). record r { conns = z })
    (conns-stay r order.conns ∙ each-stays r.conns order.pubs order.subs)

-- and their names still differ
pub names-differ : (r : Roster) → Pairwise (λ a b. a.conn < b.conn) r.conns
    → Pairwise (λ a b. a.name ≢ b.name) r.conns → Pairwise (λ a b. a.name ≢ b.name) (ordered r).conns
names-differ r pairs differ =
    subst (λ z. Pairwise (λ a b. a.name ≢ b.name) z) (sym (conns-stay r pairs))
    (pairs-map (λ a b. a.name ≢ b.name) ordered_conn r.conns differ)
