-- The life of an id and the first that passes a test, in lives that changed.
use Rattle.std.proofs.Common.{◌≡◌, ◌<◌, ◌≤◌, ◌+◌, ◌==◌, ◌&&◌, ℕ, suc, Bool, true, false, cond, List, [], ◌∷◌, Option}
use Rattle.std.proofs.Common.{Some, None, map, length, refl, sym, ◌∙◌, ap, subst, arith}
use Rattle.std.specs.Prelude.{option_map}
use Rattle.std.specs.List.{find, cons_option}
use Rattle.std.proofs.lemmas.Bool.Decides.{nat_tests}
use Rattle.std.proofs.lemmas.Option.{none-some}
use Rattle.nt_rules.specs.declared.topic.Topic.{Topic}
use Rattle.nt_rules.specs.history.Lives.{Life, is_living, topic_of, topics, at_first}
use Rattle.nt_rules.specs.history.Owed.{life_at}
use Rattle.nt_laws.proofs.histories.Facts.{IsNumberedLives}
use Rattle.nt_laws.proofs.marks.MarksById.{LivesAbove, AreRising}

-- ---- ids

above-numbered : (n k : ℕ) (lives : List Life) → n < k → IsNumberedLives k lives → LivesAbove n lives
above-numbered n k [] less h = tt
above-numbered n k (l ∷ lives) less h =
    (let e = h.0 in omega arith, above-numbered n (suc k) lives (omega arith) h.1)

-- lives that are numbered stand by rising id
pub rising-numbered : (k : ℕ) (lives : List Life) → IsNumberedLives k lives → AreRising lives
rising-numbered k [] h = tt
rising-numbered k (l ∷ lives) h =
    (let e = h.0 in above-numbered l.id (suc k) lives (omega arith) h.1, rising-numbered (suc k) lives h.1)

-- past the last id there is no life
pub life-past : (k n : ℕ) (lives : List Life) → IsNumberedLives k lives → k + length lives ≤ n
    → life_at n lives ≡ None
life-past k n [] h le = refl
life-past k n (l ∷ lives) h le =
    let e = h.0 in
    let other : (l.id == n) ≡ false = grind (arith, nat_tests) in
    ap (λ b. cond b (Some l) (life_at n lives)) other ∙ life-past (suc k) n lives h.1 (omega arith)

-- below the first id there is none
pub life-above : (k n : ℕ) (lives : List Life) → k ≤ n → LivesAbove n lives → life_at k lives ≡ None
life-above k n [] le h = refl
life-above k n (l ∷ lives) le h =
    let less = h.0 in
    let other : (l.id == k) ≡ false = grind (arith, nat_tests) in
    ap (λ b. cond b (Some l) (life_at k lives)) other ∙ life-above k n lives le h.1

above-more : (a b : ℕ) (lives : List Life) → a ≤ b → LivesAbove b lives → LivesAbove a lives
above-more a b [] le h = tt
above-more a b (l ∷ lives) le h = let less = h.0 in (omega arith, above-more a b lives le h.1)

-- the life that is found at an id has it
pub life-id : (k : ℕ) (lives : List Life) (l : Life) → life_at k lives ≡ Some l → (l.id == k) ≡ true
life-id k [] l e = cc
life-id k (m ∷ lives) l e = by (λ h. life-id k lives l h) (m.id == k) refl e
  where
    by : (life_at k lives ≡ Some l → (l.id == k) ≡ true) → (b : Bool) → (m.id == k) ≡ b
        → cond b (Some m) (life_at k lives) ≡ Some l
        → (l.id == k) ≡ true
    by more true t e = let same : m ≡ l = cc in ap (λ (x : Life). x.id == k) (sym same) ∙ t
    by more false t e = more e

-- ---- a list of which each item changes

pub life-map : (f : Life → Life) → ((l : Life) → (f l).id ≡ l.id) → (k : ℕ) (lives : List Life)
    → life_at k (map f lives) ≡ option_map f (life_at k lives)
life-map f ids k [] = refl
life-map f ids k (l ∷ lives) =
    ap (λ n. cond (n == k) (Some (f l)) (life_at k (map f lives))) (ids l)
    ∙ by (l.id == k) (life-map f ids k lives)
  where
    by : (b : Bool) → life_at k (map f lives) ≡ option_map f (life_at k lives)
        → cond b (Some (f l)) (life_at k (map f lives)) ≡ option_map f (cond b (Some l) (life_at k lives))
    by true more = refl
    by false more = more

-- ---- a list of which the first that passes changes

pub first-none : {X : Type 0} (test : X → Bool) (f : X → X) (xs : List X) → find test xs ≡ None
    → at_first test f xs ≡ xs
first-none test f [] e = refl
first-none {X} test f (x ∷ xs) e = by (λ h. first-none test f xs h) (test x) e
  where
    by : (find test xs ≡ None → at_first test f xs ≡ xs) → (b : Bool) → cond b (Some x) (find test xs) ≡ None
        → cond b (f x ∷ xs) (x ∷ at_first test f xs) ≡ x ∷ xs
    by more true e = cc
    by more false e = ap (λ ys. x ∷ ys) (more e)

pub found-passes : {X : Type 0} (test : X → Bool) (xs : List X) (x : X) → find test xs ≡ Some x → test x
    ≡ true
found-passes test [] x e = cc
found-passes {X} test (y ∷ xs) x e = by (λ h. found-passes test xs x h) (test y) refl e
  where
    by : (find test xs ≡ Some x → test x ≡ true) → (b : Bool) → test y ≡ b → cond b (Some y) (find test xs)
        ≡ Some x → test x ≡ true
    by more true t e = let same : y ≡ x = cc in ap test (sym same) ∙ t
    by more false t e = more e

-- the first that passes stands at its id
pub found-at : (test : Life → Bool) (lives : List Life) (m : Life) → AreRising lives → find test lives
    ≡ Some m
    → life_at m.id lives ≡ Some m
found-at test [] m rising e = cc
found-at test (l ∷ lives) m rising e = by (λ h. found-at test lives m rising.1 h) (test l) e
  where
    here : (l.id == l.id) ≡ true
    here = grind (arith, nat_tests)

    apart : (b : Bool) → (l.id == m.id) ≡ b → life_at m.id lives ≡ Some m
        → cond b (Some l) (life_at m.id lives) ≡ Some m
    apart true t h =
        absurd (none-some m (sym (life-above m.id l.id lives (grind (arith, nat_tests)) rising.0) ∙ h))
    apart false t h = h

    by : (find test lives ≡ Some m → life_at m.id lives ≡ Some m) → (b : Bool)
        → cond b (Some l) (find test lives) ≡ Some m
        → cond (l.id == m.id) (Some l) (life_at m.id lives) ≡ Some m
    by more true e =
        let same : l ≡ m = cc in
        subst (λ (x : Life). cond (l.id == x.id) (Some l) (life_at x.id lives) ≡ Some x) same
        (ap (λ b. cond b (Some l) (life_at l.id lives)) here)
    by more false e = apart (l.id == m.id) refl (more e)

-- what stands at an id after the first that passes changed
pub life-first : (test : Life → Bool) (f : Life → Life) → ((l : Life) → (f l).id ≡ l.id)
    → (k : ℕ) (lives : List Life) (m : Life)
    → AreRising lives → find test lives ≡ Some m
    → life_at k (at_first test f lives) ≡ cond (m.id == k) (Some (f m)) (life_at k lives)
life-first test f ids k [] m rising e = cc
life-first test f ids k (l ∷ lives) m rising e =
    by (λ h. life-first test f ids k lives m rising.1 h) (test l) e
  where
    first : (x : Life) → l ≡ x → cond ((f l).id == k) (Some (f l)) (life_at k lives)
        ≡ cond (x.id == k) (Some (f x)) (cond (l.id == k) (Some l) (life_at k lives))
    first x same =
        ap (λ n. cond (n == k) (Some (f l)) (life_at k lives)) (ids l) ∙ twice (l.id == k)
        ∙ ap (λ (y : Life). cond (y.id == k) (Some (f y)) (cond (l.id == k) (Some l) (life_at k lives))) same
      where
        twice : (b : Bool) → cond b (Some (f l)) (life_at k lives)
            ≡ cond b (Some (f l)) (cond b (Some l) (life_at k lives))
        twice true = refl
        twice false = refl

    later : find test lives ≡ Some m → (b : Bool) → (l.id == k) ≡ b
        → life_at k (at_first test f lives) ≡ cond (m.id == k) (Some (f m)) (life_at k lives)
        → cond b (Some l) (life_at k (at_first test f lives))
        ≡ cond (m.id == k) (Some (f m)) (cond b (Some l) (life_at k lives))
    later found true t more = sym (ap (λ b. cond b (Some (f m)) (Some l)) (apart (m.id == k) refl))
      where
        apart : (b : Bool) → (m.id == k) ≡ b → b ≡ false
        apart false u = refl
        apart true u =
            let low : m.id ≤ l.id = grind (arith, nat_tests) in
            absurd (none-some m
            (sym (life-above m.id l.id lives low rising.0) ∙ found-at test lives m rising.1 found))
    later found false t more = more

    by : (find test lives ≡ Some m → life_at k (at_first test f lives)
        ≡ cond (m.id == k) (Some (f m)) (life_at k lives))
        → (b : Bool) → cond b (Some l) (find test lives) ≡ Some m
        → life_at k (cond b (f l ∷ lives) (l ∷ at_first test f lives))
        ≡ cond (m.id == k) (Some (f m)) (cond (l.id == k) (Some l) (life_at k lives))
    by more true e = let same : l ≡ m = cc in first m same
    by more false e = later e (l.id == k) refl (more e)

-- a change after which the first still passes
pub find-first : {X : Type 0} (test : X → Bool) (f : X → X) → ((x : X) → test (f x) ≡ test x) → (xs : List X)
    → find test (at_first test f xs) ≡ option_map f (find test xs)
find-first test f same [] = refl
find-first {X} test f same (x ∷ xs) = by (find-first test f same xs) (test x) refl
  where
    by : find test (at_first test f xs) ≡ option_map f (find test xs) → (b : Bool) → test x ≡ b
        → find test (cond b (f x ∷ xs) (x ∷ at_first test f xs))
        ≡ option_map f (cond b (Some x) (find test xs))
    by more true t = ap (λ b. cond b (Some (f x)) (find test xs)) (same x ∙ t)
    by more false t = ap (λ b. cond b (Some x) (find test (at_first test f xs))) t ∙ more

-- ---- topics

-- the first topic that passes is that of the first life that goes on and passes
pub find-topics : (test : Topic → Bool) (lives : List Life)
    → find test (topics lives) ≡ option_map topic_of (find (λ l. is_living l && test (topic_of l)) lives)
find-topics test [] = refl
find-topics test (l ∷ lives) = by (is_living l) (test (topic_of l)) refl (find-topics test lives)
  where
    rest : Option Life
    rest = find (λ l. is_living l && test (topic_of l)) lives

    by : (living b : Bool) → test (topic_of l) ≡ b → find test (topics lives) ≡ option_map topic_of rest
        → find test (cons_option (cond living (Some (topic_of l)) None) (topics lives))
        ≡ option_map topic_of (cond (living && b) (Some l) rest)
    by true true t more = ap (λ b. cond b (Some (topic_of l)) (find test (topics lives))) t
    by true false t more = ap (λ b. cond b (Some (topic_of l)) (find test (topics lives))) t ∙ more
    by false b t more = more
