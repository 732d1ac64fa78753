-- What an account says of a life once keys were given: what these keys note, one after another.
use Rattle.std.proofs.Common.{◌≡◌, ℕ, ◌+◌, ◌<◌, ◌&&◌, ◌||◌, ◌==◌, max, not, Bool, true, false, cond, List, [], ◌∷◌}
use Rattle.std.proofs.Common.{◌++◌, filter, refl, sym, ap, subst, ◌∙◌, arith}
use Rattle.std.specs.List.{list_any, AllByRecursion}
use Rattle.std.proofs.lemmas.Bool.{true≢false, eqb-true, eqb-false, eq-eqb, ne_eqb, and_right}
use Rattle.std.proofs.lemmas.List.Folds.{list_any-append}
use Rattle.nt_rules.specs.outbox.Keys.{Kind, Of_end, Of_publish, Of_setting, Of_topic, Of_value, Key, is_kind, is_key}
use Rattle.nt_rules.specs.outbox.Keys.{is_in, setting_key, announces, next_value, is_value}
use Rattle.nt_rules.specs.history.Lives.{Life, Setting}
use Rattle.nt_rules.specs.history.Owed.{Account, is_announced, owed_settings}
use Rattle.nt_telling.proofs.LifeKeys.{is_of}
use Rattle.nt_telling.proofs.Living.{State, after_first, noted, noted_at, notes, FineAt, FineAll}
use Rattle.nt_laws.proofs.topics.ItemFacts.{each-filter, each-more, each-passes}

-- ---- what keys say of a life, its own keys say

pub any-own : (id : ℕ) (p : Key → Bool) → ((x : Key) → (x.topic == id) ≡ false → p x ≡ false) → (xs : List Key)
    → list_any p xs ≡ list_any p (filter (is_of id) xs)
any-own id p off [] = refl
any-own id p off (x ∷ xs) = by (x.topic == id) refl (any-own id p off xs)
  where
    by : (b : Bool) → (x.topic == id) ≡ b → list_any p xs ≡ list_any p (filter (is_of id) xs)
        → (p x || list_any p xs) ≡ list_any p (cond b (x ∷ filter (is_of id) xs) (filter (is_of id) xs))
    by true e more = ap (λ b. p x || b) more
    by false e more = ap (λ b. b || list_any p xs) (off x e) ∙ more

pub next-own : (id : ℕ) (xs : List Key) → next_value xs id ≡ next_value (filter (is_of id) xs) id
next-own id [] = refl
next-own id (x ∷ xs) = by (x.topic == id) refl (next-own id xs)
  where
    by : (b : Bool) → (x.topic == id) ≡ b → next_value xs id ≡ next_value (filter (is_of id) xs) id
        → cond (is_value x && (x.topic == id)) (max (x.place + 1) (next_value xs id)) (next_value xs id)
        ≡ next_value (cond b (x ∷ filter (is_of id) xs) (filter (is_of id) xs)) id
    by true e more =
        ap (λ n. cond (is_value x && (x.topic == id)) (max (x.place + 1) n) n) more
    by false e more =
        ap (λ b. cond b (max (x.place + 1) (next_value xs id)) (next_value xs id))
        (and_right (is_value x) (x.topic == id) e) ∙ more

pub announces-off : (id : ℕ) (x : Key) → (x.topic == id) ≡ false → announces id x ≡ false
announces-off id x e = and_right (is_kind x.kind Of_publish || is_kind x.kind Of_topic) (x.topic == id) e

pub set-off : (id place : ℕ) (x : Key) → (x.topic == id) ≡ false → is_key (setting_key id place) x ≡ false
set-off id place x e = by (is_kind Of_setting x.kind)
  where
    other : (id == x.topic) ≡ false
    other = ne_eqb id x.topic (λ s. eqb-false x.topic id e (sym s))

    by : (k : Bool) → (k && (id == x.topic) && (place == x.place)) ≡ false
    by false = refl
    by true = ap (λ b. b && (place == x.place)) other

-- ---- the notes of a life's own keys

abbrev pub AreOf : ℕ → List Key → Type 0
AreOf id xs = AllByRecursion (λ x. x.topic ≡ id) xs

pub own-are : (id : ℕ) (xs : List Key) → AreOf id (filter (is_of id) xs)
own-are id xs = each-more (λ x. is_of id x ≡ true) (λ x. x.topic ≡ id) (λ x e. eqb-true x.topic id e)
    (filter (is_of id) xs) (each-passes (is_of id) xs)

or-none : (b : Bool) → b ≡ (b || false)
or-none true = refl
or-none false = refl

or-all : (b : Bool) → true ≡ (b || true)
or-all true = refl
or-all false = refl

or-more : (a b c : Bool) → ((a || b) || c) ≡ (a || (b || c))
or-more true b c = refl
or-more false b c = refl

shown-noted : (id : ℕ) (m : State) (x : Key) → x.topic ≡ id → (noted m x).shown ≡ (m.shown || announces id x)
shown-noted id m x e = at x.kind (x.topic == id) (eq-eqb x.topic id e)
  where
    at : (kind : Kind) (b : Bool) → b ≡ true
        → (noted_at kind x.place m).shown ≡ (m.shown || ((is_kind kind Of_publish || is_kind kind Of_topic) && b))
    at kind false f = absurd (true≢false (sym f))
    at Of_end true f = or-none m.shown
    at Of_publish true f = or-all m.shown
    at Of_setting true f = or-none m.shown
    at Of_topic true f = or-all m.shown
    at Of_value true f = or-none m.shown

pub shown-notes : (id : ℕ) (m : State) (xs : List Key) → AreOf id xs
    → (notes m xs).shown ≡ (m.shown || list_any (announces id) xs)
shown-notes id m [] h = or-none m.shown
shown-notes id m (x ∷ xs) h =
    shown-notes id (noted m x) xs h.1 ∙ ap (λ b. b || list_any (announces id) xs) (shown-noted id m x h.0)
    ∙ or-more m.shown (announces id x) (list_any (announces id) xs)

next-noted : (id : ℕ) (m : State) (x : Key) (n : ℕ) → x.topic ≡ id
    → max (noted m x).next n ≡ max m.next (cond (is_value x && (x.topic == id)) (max (x.place + 1) n) n)
next-noted id m x n e = at x.kind (x.topic == id) (eq-eqb x.topic id e)
  where
    at : (kind : Kind) (b : Bool) → b ≡ true
        → max (noted_at kind x.place m).next n ≡ max m.next (cond (is_kind kind Of_value && b) (max (x.place + 1) n) n)
    at kind false f = absurd (true≢false (sym f))
    at Of_end true f = refl
    at Of_publish true f = refl
    at Of_setting true f = refl
    at Of_topic true f = refl
    at Of_value true f = omega arith

pub next-notes : (id : ℕ) (m : State) (xs : List Key) → AreOf id xs → (notes m xs).next ≡ max m.next (next_value xs id)
next-notes id m [] h = omega arith
next-notes id m (x ∷ xs) h = next-notes id (noted m x) xs h.1 ∙ next-noted id m x (next_value xs id) h.0

pub next-append : (id : ℕ) (xs ys : List Key) → next_value (xs ++ ys) id ≡ max (next_value xs id) (next_value ys id)
next-append id [] ys = omega arith
next-append id (x ∷ xs) ys = by (is_value x && (x.topic == id)) (next-append id xs ys)
  where
    by : (b : Bool) → next_value (xs ++ ys) id ≡ max (next_value xs id) (next_value ys id)
        → cond b (max (x.place + 1) (next_value (xs ++ ys) id)) (next_value (xs ++ ys) id)
        ≡ max (cond b (max (x.place + 1) (next_value xs id)) (next_value xs id)) (next_value ys id)
    by true e = omega arith
    by false e = e

-- ---- changes of properties

-- the places rise
abbrev pub SettingsRise : List Setting → Type 0
SettingsRise [] = Unit {0}
SettingsRise (s ∷ ss) = AllByRecursion (λ t. s.place < t.place) ss × SettingsRise ss

pub settings-filter : (test : Setting → Bool) (ss : List Setting) → SettingsRise ss → SettingsRise (filter test ss)
settings-filter test [] h = tt
settings-filter test (s ∷ ss) h = by (test s) (settings-filter test ss h.1)
  where
    by : (b : Bool) → SettingsRise (filter test ss) → SettingsRise (cond b (s ∷ filter test ss) (filter test ss))
    by true more = (each-filter (λ t. s.place < t.place) test ss h.0, more)
    by false more = more

pub filter-same : (t u : Setting → Bool) (ss : List Setting) → AllByRecursion (λ s. t s ≡ u s) ss
    → filter t ss ≡ filter u ss
filter-same t u [] h = refl
filter-same t u (s ∷ ss) h =
    ap (λ (b : Bool). cond b (s ∷ filter t ss) (filter t ss)) h.0
    ∙ ap (λ (w : List Setting). cond (u s) (s ∷ w) w) (filter-same t u ss h.1)

filter-all : (t : Setting → Bool) (ss : List Setting) → AllByRecursion (λ s. t s ≡ true) ss → filter t ss ≡ ss
filter-all t [] h = refl
filter-all t (s ∷ ss) h =
    ap (λ (b : Bool). cond b (s ∷ filter t ss) (filter t ss)) h.0
    ∙ ap (λ (w : List Setting). s ∷ w) (filter-all t ss h.1)

filter-twice : (t u : Setting → Bool) (ss : List Setting) → filter (λ s. t s && u s) ss ≡ filter u (filter t ss)
filter-twice t u [] = refl
filter-twice t u (s ∷ ss) = by (t s) (filter-twice t u ss)
  where
    by : (b : Bool) → filter (λ s. t s && u s) ss ≡ filter u (filter t ss)
        → cond (b && u s) (s ∷ filter (λ s. t s && u s) ss) (filter (λ s. t s && u s) ss)
        ≡ filter u (cond b (s ∷ filter t ss) (filter t ss))
    by true e = ap (λ (w : List Setting). cond (u s) (s ∷ w) w) e
    by false e = e

-- those that a key doesn't name
abbrev unnamed : ℕ → Key → Setting → Bool
unnamed id x s = not (is_key (setting_key id s.place) x)

apart : (id : ℕ) (x : Key) (s : Setting) → (s.place ≡ x.place → ⊥) → unnamed id x s ≡ true
apart id x s n = ap not (and_right (is_kind Of_setting x.kind && (id == x.topic)) (s.place == x.place)
    (ne_eqb s.place x.place n))

named : (id : ℕ) (x : Key) (s : Setting) → x.topic ≡ id → x.kind ≡ Of_setting → s.place ≡ x.place
    → unnamed id x s ≡ false
named id x s e k p =
    let t : (id == x.topic) ≡ true = eq-eqb id x.topic (sym e) in
    let q : (s.place == x.place) ≡ true = eq-eqb s.place x.place p in
    ap not (ap (λ kind. is_kind Of_setting kind && (id == x.topic) && (s.place == x.place)) k
    ∙ ap (λ b. b && (s.place == x.place)) t ∙ q)

other-kind : (id : ℕ) (x : Key) (s : Setting) → is_kind Of_setting x.kind ≡ false → unnamed id x s ≡ true
other-kind id x s e = ap (λ b. not (b && (id == x.topic) && (s.place == x.place))) e

all-settings : (P : Setting → Type 0) → ((s : Setting) → P s) → (ss : List Setting) → AllByRecursion P ss
all-settings P f [] = tt
all-settings P f (s ∷ ss) = (f s, all-settings P f ss)

pend-noted : (id : ℕ) (l : Life) (m : State) (x : Key) → x.topic ≡ id → SettingsRise m.pend → FineAt x.kind l x.place m
    → filter (unnamed id x) m.pend ≡ (noted m x).pend
pend-noted id l m x e rise fine = at x.kind refl fine
  where
    stays : is_kind Of_setting x.kind ≡ false → filter (unnamed id x) m.pend ≡ m.pend
    stays f = filter-all (unnamed id x) m.pend
        (all-settings (λ s. unnamed id x s ≡ true) (λ s. other-kind id x s f) m.pend)

    at : (kind : Kind) → x.kind ≡ kind → FineAt kind l x.place m
        → filter (unnamed id x) m.pend ≡ (noted_at kind x.place m).pend
    at Of_end k f = absurd f
    at Of_publish k f = stays (ap (is_kind Of_setting) k)
    at Of_topic k f = stays (ap (is_kind Of_setting) k)
    at Of_value k f = stays (ap (is_kind Of_setting) k)
    at Of_setting k f =
        subst (λ ss. filter (unnamed id x) ss ≡ after_first ss) (sym f.2)
        (ap (λ b. cond b (f.0 ∷ filter (unnamed id x) f.1) (filter (unnamed id x) f.1)) (named id x f.0 e k f.3)
        ∙ filter-all (unnamed id x) f.1
        (each-more (λ t. f.0.place < t.place) (λ t. unnamed id x t ≡ true)
        (λ t low. apart id x t (λ s. let same = f.3 in absurd (omega arith))) f.1 (subst SettingsRise f.2 rise).0))

rise-noted : (m : State) (x : Key) → SettingsRise m.pend → SettingsRise (noted m x).pend
rise-noted m x h = at x.kind
  where
    first : (ss : List Setting) → SettingsRise ss → SettingsRise (after_first ss)
    first [] h = tt
    first (s ∷ ss) h = h.1

    at : (kind : Kind) → SettingsRise (noted_at kind x.place m).pend
    at Of_end = h
    at Of_publish = h
    at Of_setting = first m.pend h
    at Of_topic = h
    at Of_value = h

not-or : (a b : Bool) → not (a || b) ≡ (not a && not b)
not-or true b = refl
not-or false b = refl

pub pend-notes : (id : ℕ) (l : Life) (m : State) (xs : List Key) → AreOf id xs → SettingsRise m.pend → FineAll l m xs
    → filter (λ s. not (is_in xs (setting_key id s.place))) m.pend ≡ (notes m xs).pend
pend-notes id l m [] own rise f = filter-all (λ s. true) m.pend (all-settings (λ s. true ≡ true) (λ s. refl) m.pend)
pend-notes id l m (x ∷ xs) own rise f =
    filter-same (λ s. not (is_key (setting_key id s.place) x || is_in xs (setting_key id s.place)))
    (λ s. unnamed id x s && not (is_in xs (setting_key id s.place))) m.pend
    (all-settings _ (λ s. not-or (is_key (setting_key id s.place) x) (is_in xs (setting_key id s.place))) m.pend)
    ∙ filter-twice (unnamed id x) (λ s. not (is_in xs (setting_key id s.place))) m.pend
    ∙ ap (filter (λ s. not (is_in xs (setting_key id s.place)))) (pend-noted id l m x own.0 rise f.0)
    ∙ pend-notes id l (noted m x) xs own.1 (rise-noted m x rise) f.1

-- ---- an account

abbrev pub state_of : Account → Life → State
state_of a l = record { shown = is_announced a l.id; next = next_value a.given l.id; pend = owed_settings a l }

abbrev pub with_given : Account → List Key → Account
with_given a ks = record a { given = a.given ++ ks }

pending-given : (a : Account) (l : Life) (ks : List Key)
    → owed_settings (with_given a ks) l
    ≡ filter (λ s. not (is_in (filter (is_of l.id) ks) (setting_key l.id s.place))) (owed_settings a l)
pending-given a l ks =
    filter-same (λ s. not (is_in (a.given ++ ks) (setting_key l.id s.place)))
    (λ s. not (is_in a.given (setting_key l.id s.place)) && not
    (is_in (filter (is_of l.id) ks) (setting_key l.id s.place))) told
    (all-settings _ one told)
    ∙ filter-twice (λ s. not (is_in a.given (setting_key l.id s.place)))
    (λ s. not (is_in (filter (is_of l.id) ks) (setting_key l.id s.place))) told
  where
    told : List Setting
    told = filter (λ s. list_any (λ place. place == s.place) a.told_settings) l.settings

    one : (s : Setting) → not (is_in (a.given ++ ks) (setting_key l.id s.place))
        ≡ (not (is_in a.given (setting_key l.id s.place)) && not
        (is_in (filter (is_of l.id) ks) (setting_key l.id s.place)))
    one s =
        ap not (list_any-append (is_key (setting_key l.id s.place)) a.given ks
        ∙ ap (λ b. is_in a.given (setting_key l.id s.place) || b)
        (any-own l.id (is_key (setting_key l.id s.place)) (set-off l.id s.place) ks))
        ∙ not-or (is_in a.given (setting_key l.id s.place)) (is_in (filter (is_of l.id) ks) (setting_key l.id s.place))

same-state : (m n : State) → m.shown ≡ n.shown → m.next ≡ n.next → m.pend ≡ n.pend → m ≡ n
same-state m n a b c = λ i. record { shown = a i; next = b i; pend = c i }

-- what an account says of a life once keys were given is what the life's own keys among them note
pub state-given : (a : Account) (l : Life) (ks : List Key) → SettingsRise l.settings
    → FineAll l (state_of a l) (filter (is_of l.id) ks)
    → notes (state_of a l) (filter (is_of l.id) ks) ≡ state_of (with_given a ks) l
state-given a l ks rise f =
    same-state (notes (state_of a l) own) (state_of (with_given a ks) l)
    (shown-notes l.id (state_of a l) own (own-are l.id ks)
    ∙ ap (λ b. is_announced a l.id || b) (sym (any-own l.id (announces l.id) (announces-off l.id) ks))
    ∙ sym (list_any-append (announces l.id) a.given ks))
    (next-notes l.id (state_of a l) own (own-are l.id ks)
    ∙ ap (λ n. max (next_value a.given l.id) n) (sym (next-own l.id ks))
    ∙ sym (next-append l.id a.given ks))
    (sym (pend-notes l.id l (state_of a l) own (own-are l.id ks) pending f) ∙ sym (pending-given a l ks))
  where
    own : List Key
    own = filter (is_of l.id) ks

    pending : SettingsRise (owed_settings a l)
    pending =
        settings-filter (λ s. not (is_in a.given (setting_key l.id s.place))) _
        (settings-filter (λ s. list_any (λ place. place == s.place) a.told_settings) l.settings rise)
