-- Each item of a list whose places rise, or fall, is the one that its place finds; so it is in parts of the
-- list.
use Rattle.std.proofs.Common.{◌≡◌, ◌≤◌, ◌+◌, ◌&&◌, ◌||◌, ◌==◌, ℕ, suc, Bool, true, false, cond, leb, List, [], ◌∷◌}
use Rattle.std.proofs.Common.{◌++◌, Some, None, option_map, map, filter, reverse, bytes_eq, find, refl, sym, ◌∙◌, ap}
use Rattle.std.proofs.Common.{subst, arith}
use Rattle.std.specs.List.{AllByRecursion, list_any, list_all, cons_option}
use Rattle.std.proofs.lemmas.Bool.Decides.{nat_tests}
use Rattle.std.proofs.lemmas.List.{reverse-append}
use Rattle.std.proofs.lemmas.Slice.Eq.{bytes_eq-Decides}
use Rattle.nt_topics.specs.Properties.{is_cached}
use Rattle.nt_rules.specs.topics.Puts.{Put, taken}
use Rattle.nt_rules.specs.topics.Topics.{is_named}
use Rattle.nt_rules.specs.history.Lives.{Life, is_living, topic_of, topics, taken_since_turn}
use Rattle.nt_laws.proofs.histories.Facts.{IsRising, AllBefore, Falling, before-since, falling-since}
use Rattle.nt_laws.proofs.topics.OneName.{is_called, HasOneName}
use Rattle.nt_laws.proofs.topics.ItemFacts.{each-more, each-both, each-reverse}

-- ---- rising places

pub each-from : {X : Type 0} (place : X → ℕ) (from n : ℕ) (xs : List X) → IsRising place from n xs
    → AllByRecursion (λ x. from ≤ place x) xs
each-from place from n [] h = tt
each-from place from n (x ∷ xs) h =
    let low = h.0 in (
      h.0,
      each-more (λ y. suc (place x) ≤ place y) (λ y. from ≤ place y) (λ y k. omega arith) xs
          (each-from place (suc (place x)) n xs h.2),
    )

pub rising-from : {X : Type 0} (place : X → ℕ) (low from n : ℕ) (xs : List X) → low ≤ from
    → IsRising place from n xs
    → IsRising place low n xs
rising-from place low from n [] h a = tt
rising-from place low from n (x ∷ xs) h a = let first = a.0 in (omega arith, a.1, a.2)

pub rising-append : {X : Type 0} (place : X → ℕ) (from m n : ℕ) (xs ys : List X) → from ≤ suc m → m ≤ n
    → IsRising place from m xs
    → IsRising place (suc m) n ys → IsRising place from n (xs ++ ys)
rising-append place from m n [] ys h k a b = rising-from place from (suc m) n ys h b
rising-append place from m n (x ∷ xs) ys h k a b =
    let last = a.1 in (a.0, omega arith, rising-append place (suc (place x)) m n xs ys (omega arith) k a.2 b)

pub place-found : {X : Type 0} (place : X → ℕ) (from n : ℕ) (xs : List X) → IsRising place from n xs
    → AllByRecursion (λ x. find (λ y. place y == place x) xs ≡ Some x) xs
place-found place from n [] h = tt
place-found {X} place from n (x ∷ xs) h = (
  here,
  each-both (λ y. suc (place x) ≤ place y) (λ y. find (λ z. place z == place y) xs ≡ Some y)
      (λ y. find (λ z. place z == place y) (x ∷ xs) ≡ Some y) later xs
      (each-from place (suc (place x)) n xs h.2) (place-found place (suc (place x)) n xs h.2),
)
  where
    here : find (λ y. place y == place x) (x ∷ xs) ≡ Some x
    here =
        let itself : (place x == place x) ≡ true = grind (arith, nat_tests) in
        ap (λ b. cond b (Some x) (find (λ y. place y == place x) xs)) itself

    later : (y : X) → suc (place x) ≤ place y → find (λ z. place z == place y) xs ≡ Some y
        → find (λ z. place z == place y) (x ∷ xs) ≡ Some y
    later y less e =
        let other : (place x == place y) ≡ false = grind (arith, nat_tests) in
        ap (λ b. cond b (Some x) (find (λ z. place z == place y) xs)) other ∙ e

pub rising-filter : {X : Type 0} (place : X → ℕ) (test : X → Bool) (from n : ℕ) (xs : List X)
    → IsRising place from n xs
    → IsRising place from n (filter test xs)
rising-filter place test from n [] h = tt
rising-filter place test from n (x ∷ xs) h = by (test x) (rising-filter place test (suc (place x)) n xs h.2)
  where
    by : (b : Bool) → IsRising place (suc (place x)) n (filter test xs)
        → IsRising place from n (cond b (x ∷ filter test xs) (filter test xs))
    by true more = (h.0, h.1, more)
    by false more = let first =
        h.0 in rising-from place from (suc (place x)) n (filter test xs) (omega arith) more

rising-last : {X : Type 0} (place : X → ℕ) (from n : ℕ) (xs : List X) (y : X) → from ≤ place y → place y ≤ n
    → AllByRecursion (λ x. suc (place x) ≤ place y) xs → IsRising place from n xs
    → IsRising place from n (xs ++ y ∷ [])
rising-last place from n [] y h k less a = (h, k, tt)
rising-last place from n (x ∷ xs) y h k less a =
    (a.0, a.1, rising-last place (suc (place x)) n xs y less.0 k less.1 a.2)

-- what is found of a list that is mapped
pub find-map : {X Y : Type 0} (test : Y → Bool) (f : X → Y) (xs : List X)
    → find test (map f xs) ≡ option_map f (find (λ x. test (f x)) xs)
find-map test f [] = refl
find-map {X} test f (x ∷ xs) = by (test (f x)) (find-map test f xs)
  where
    by : (b : Bool) → find test (map f xs) ≡ option_map f (find (λ x. test (f x)) xs)
        → cond b (Some (f x)) (find test (map f xs))
        ≡ option_map f (cond b (Some x) (find (λ x. test (f x)) xs))
    by true more = refl
    by false more = more

-- ---- falling puts

each-taken : (P : Put → Type 0) (ps : List Put) → AllByRecursion P ps → AllByRecursion P (taken ps)
each-taken P [] h = tt
each-taken P (p ∷ ps) h = by (list_all (λ q. leb q.time p.time) ps) (each-taken P ps h.1)
  where
    by : (b : Bool) → AllByRecursion P (taken ps) → AllByRecursion P (cond b (p ∷ taken ps) (taken ps))
    by true more = (h.0, more)
    by false more = more

-- what holds of all puts since the turn holds of those that were taken
pub each-since : (P : Put → Type 0) (l : Life) → AllByRecursion P l.puts → AllByRecursion P (taken_since_turn l)
each-since P l h = by (is_cached l.props)
  where
    by : (b : Bool) → AllByRecursion P (cond b (taken l.puts) l.puts)
    by true = each-taken P l.puts h
    by false = h

each-before : (n : ℕ) (ps : List Put) → AllBefore n ps → AllByRecursion (λ p. suc p.place ≤ n) ps
each-before n [] h = tt
each-before n (p ∷ ps) h = (h.0, each-before n ps h.1)

-- in the order of their places puts rise
pub falling-rise : (n : ℕ) (ps : List Put) → AllBefore (n + 1) ps → Falling ps
    → IsRising (λ p. p.place) 0 n (reverse ps)
falling-rise n [] h f = tt
falling-rise n (p ∷ ps) h f =
    let last = h.0 in
    subst (λ qs. IsRising (λ p. p.place) 0 n qs) (sym (reverse-append (p ∷ []) ps))
    (rising-last (λ p. p.place) 0 n (reverse ps) p (omega arith) (omega arith)
    (each-reverse (λ q. suc q.place ≤ p.place) ps (each-before p.place ps f.0)) (falling-rise n ps h.1 f.1))

-- so do those that were taken since the turn
pub since-rise : (n : ℕ) (l : Life) → AllBefore (n + 1) l.puts → Falling l.puts
    → IsRising (λ p. p.place) 0 n (reverse (taken_since_turn l))
since-rise n l h f = falling-rise n (taken_since_turn l) (before-since (n + 1) l h) (falling-since l f)

pub put-found : (ps : List Put) → Falling ps
    → AllByRecursion (λ p. find (λ q. q.place == p.place) ps ≡ Some p) ps
put-found [] f = tt
put-found (p ∷ ps) f = (
  here,
  each-both (λ q. suc q.place ≤ p.place) (λ q. find (λ r. r.place == q.place) ps ≡ Some q)
      (λ q. find (λ r. r.place == q.place) (p ∷ ps) ≡ Some q) later ps
      (each-before p.place ps f.0) (put-found ps f.1),
)
  where
    here : find (λ q. q.place == p.place) (p ∷ ps) ≡ Some p
    here =
        let itself : (p.place == p.place) ≡ true = grind (arith, nat_tests) in
        ap (λ b. cond b (Some p) (find (λ q. q.place == p.place) ps)) itself

    later : (q : Put) → suc q.place ≤ p.place → find (λ r. r.place == q.place) ps ≡ Some q
        → find (λ r. r.place == q.place) (p ∷ ps) ≡ Some q
    later q less e =
        let other : (p.place == q.place) ≡ false = grind (arith, nat_tests) in
        ap (λ b. cond b (Some p) (find (λ r. r.place == q.place) ps)) other ∙ e

-- ---- names

each-none : {X : Type 0} (test : X → Bool) (xs : List X) → list_any test xs ≡ false
    → AllByRecursion (λ x. test x ≡ false) xs
each-none test [] e = tt
each-none test (x ∷ xs) e = by (λ k. each-none test xs k) (test x) refl e
  where
    by : (list_any test xs ≡ false → AllByRecursion (λ x. test x ≡ false) xs) → (b : Bool) → test x ≡ b
        → (b || list_any test xs) ≡ false
        → AllByRecursion (λ x. test x ≡ false) (x ∷ xs)
    by more true f e = absurd (cc)
    by more false f e = (f, more e)

other-name : (a b : List ℕ) → bytes_eq a b ≡ false → bytes_eq b a ≡ false
other-name a b e = by (bytes_eq b a) refl
  where
    by : (t : Bool) → bytes_eq b a ≡ t → bytes_eq b a ≡ false
    by false f = f
    by true f = absurd (let same = (bytes_eq-Decides a b).1 (sym ((bytes_eq-Decides b a).0 f)) in cc)

-- the name of a life that goes on finds its topic
pub named-found : (lives : List Life) → HasOneName lives
    → AllByRecursion
    (λ l. is_living l ≡ true → find (is_named l.name) (topics lives) ≡ Some (topic_of l)) lives
named-found [] h = tt
named-found (l ∷ lives) h =
    (here, by (is_living l) refl (named-found lives h.1))
  where
    here : is_living l ≡ true → find (is_named l.name) (topics (l ∷ lives)) ≡ Some (topic_of l)
    here e =
        ap (λ b. find (is_named l.name) (cons_option (cond b (Some (topic_of l)) None) (topics lives))) e
        ∙ ap (λ b. cond b (Some (topic_of l)) (find (is_named l.name) (topics lives)))
        ((bytes_eq-Decides l.name l.name).1 refl)

    later : is_living l ≡ true → (m : Life) → is_called l.name m ≡ false
        → (is_living m ≡ true → find (is_named m.name) (topics lives) ≡ Some (topic_of m))
        → is_living m ≡ true → find (is_named m.name) (topics (l ∷ lives)) ≡ Some (topic_of m)
    later e m other found on =
        let apart : bytes_eq m.name l.name ≡ false = sym (ap (λ b. b && bytes_eq m.name l.name) on) ∙ other in
        ap (λ b. find (is_named m.name) (cons_option (cond b (Some (topic_of l)) None) (topics lives))) e
        ∙ ap (λ b. cond b (Some (topic_of l)) (find (is_named m.name) (topics lives)))
        (other-name m.name l.name apart)
        ∙ found on

    by : (b : Bool) → is_living l ≡ b
        → AllByRecursion
        (λ m. is_living m ≡ true → find (is_named m.name) (topics lives) ≡ Some (topic_of m)) lives
        → AllByRecursion
        (λ m. is_living m ≡ true → find (is_named m.name) (topics (l ∷ lives)) ≡ Some (topic_of m)) lives
    by true e found =
        each-both (λ m. is_called l.name m ≡ false)
        (λ m. is_living m ≡ true → find (is_named m.name) (topics lives) ≡ Some (topic_of m)) _
        (later e) lives
        (each-none (is_called l.name) lives (h.0 e)) found
    by false e found =
        each-more (λ m. is_living m ≡ true → find (is_named m.name) (topics lives) ≡ Some (topic_of m)) _
        (λ m f on. ap
        (λ b. find (is_named m.name) (cons_option (cond b (Some (topic_of l)) None) (topics lives))) e
        ∙ f on) lives found
