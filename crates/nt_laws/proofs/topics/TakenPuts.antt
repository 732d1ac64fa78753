-- Which puts to a life are taken, and that the last of them is held.
use Rattle.std.proofs.Common.{◌≡◌, ◌≢◌, ◌&&◌, ◌++◌, ℕ, Bool, true, false, cond, not, leb, List, [], ◌∷◌, Option, Some}
use Rattle.std.proofs.Common.{None, ltb, refl, sym, ◌∙◌, ap, arith}
use Rattle.std.specs.Prelude.{option_map}
use Rattle.std.specs.List.{list_all}
use Rattle.std.proofs.lemmas.Bool.Decides.{nat_tests}
use Rattle.nt_topics.specs.Properties.{is_cached}
use Rattle.nt_rules.specs.topics.Puts.{Put, greater, greatest, taken, newest, timed}
use Rattle.nt_rules.specs.topics.Topics.{is_older, with_value}
use Rattle.nt_rules.specs.history.Lives.{Life, held_of, taken_since_turn, taken_of, topic_of, with_a_put}
use Rattle.nt_laws.proofs.topics.Puts.{last-taken}
use Rattle.nt_laws.proofs.topics.Turns.{held-cached, held-uncached, since-cached}

-- no earlier put is greater where the held one isn't
all-under : (t : ℕ) (ps : List Put) → list_all (λ q. leb q.time t) ps
    ≡ not (is_older t (option_map timed (greatest ps)))
all-under t [] = refl
all-under t (q ∷ qs) = ap (λ b. leb q.time t && b) (all-under t qs) ∙ by (greatest qs)
  where
    tests_of : (a b : ℕ) → (leb a t && not (ltb t b)) ≡ cond (ltb a b) (not (ltb t b)) (not (ltb t a))
    tests_of a b = grind (arith, nat_tests)

    either : (g : Put) (b : Bool) → cond b (not (ltb t g.time)) (not (ltb t q.time))
        ≡ not (ltb t (cond b g q).time)
    either g true = refl
    either g false = refl

    by : (g : Option Put) → (leb q.time t && not (is_older t (option_map timed g)))
        ≡ not (ltb t (greater q g).time)
    by None = grind (arith, nat_tests)
    by (Some g) = tests_of q.time g.time ∙ either g (ltb q.time g.time)

-- of a cached life the last put that was taken since its turn is the held one
pub since-head : (l : Life) → is_cached l.props ≡ true → newest (taken_since_turn l) ≡ held_of l
since-head l e = ap newest (since-cached l e) ∙ last-taken l.puts ∙ sym (held-cached l e)

-- so is the last of all that were taken, where one is held
pub taken-head : (l : Life) → is_cached l.props ≡ true → held_of l ≢ None → newest (taken_of l) ≡ held_of l
taken-head l e some = by (taken_since_turn l) (since-head l e)
  where
    by : (ps : List Put) → newest ps ≡ held_of l → newest (ps ++ l.taken_before) ≡ held_of l
    by [] h = absurd (some (sym h))
    by (p ∷ ps) h = h

-- of one that isn't cached none is older than the held one, since none is held
older-cached : (p : Put) (l : Life) → is_older p.time (topic_of l).value ≡ true → is_cached l.props ≡ true
older-cached p l e = by (is_cached l.props) e
  where
    by : (b : Bool) → is_older p.time (option_map timed (cond b (greatest l.puts) None)) ≡ true → b ≡ true
    by true e = refl
    by false e = absurd (cc)

-- a put that isn't older than the held one is taken
pub since-put : (p : Put) (l : Life) → is_older p.time (topic_of l).value ≡ false
    → taken_since_turn (with_a_put p l) ≡ p ∷ taken_since_turn l
since-put p l e = by (is_cached l.props) e
  where
    by : (b : Bool) → is_older p.time (option_map timed (cond b (greatest l.puts) None)) ≡ false
        → cond b (taken (p ∷ l.puts)) (p ∷ l.puts) ≡ p ∷ cond b (taken l.puts) l.puts
    by true e = ap (λ b. cond b (p ∷ taken l.puts) (taken l.puts)) (all-under p.time l.puts ∙ ap not e)
    by false e = refl

pub since-older : (p : Put) (l : Life) → is_older p.time (topic_of l).value ≡ true
    → taken_since_turn (with_a_put p l) ≡ taken_since_turn l
since-older p l e = by (is_cached l.props) e
  where
    by : (b : Bool) → is_older p.time (option_map timed (cond b (greatest l.puts) None)) ≡ true
        → cond b (taken (p ∷ l.puts)) (p ∷ l.puts) ≡ cond b (taken l.puts) l.puts
    by true e = ap (λ b. cond b (p ∷ taken l.puts) (taken l.puts)) (all-under p.time l.puts ∙ ap not e)
    by false e = absurd (cc)

pub taken-put : (p : Put) (l : Life) → is_older p.time (topic_of l).value ≡ false
    → taken_of (with_a_put p l) ≡ p ∷ taken_of l
taken-put p l e = ap (λ ps. ps ++ l.taken_before) (since-put p l e)

pub taken-older : (p : Put) (l : Life) → is_older p.time (topic_of l).value ≡ true
    → taken_of (with_a_put p l) ≡ taken_of l
taken-older p l e = ap (λ ps. ps ++ l.taken_before) (since-older p l e)

-- and it is then held, where its life is cached
pub held-put : (p : Put) (l : Life) → is_older p.time (topic_of l).value ≡ false
    → held_of (with_a_put p l) ≡ cond (is_cached l.props) (Some p) None
held-put p l e = by (is_cached l.props) e
  where
    on : (g : Option Put) → is_older p.time (option_map timed g) ≡ false → Some (greater p g) ≡ Some p
    on None e = refl
    on (Some q) e = ap (λ b. Some (cond b q p)) e

    by : (b : Bool) → is_older p.time (option_map timed (cond b (greatest l.puts) None)) ≡ false
        → cond b (greatest (p ∷ l.puts)) None ≡ cond b (Some p) None
    by true e = on (greatest l.puts) e
    by false e = refl

pub held-older : (p : Put) (l : Life) → is_older p.time (topic_of l).value ≡ true → held_of (with_a_put p l)
    ≡ held_of l
held-older p l e = by (is_cached l.props) e
  where
    on : (g : Option Put) → is_older p.time (option_map timed g) ≡ true → Some (greater p g) ≡ g
    on None e = absurd (cc)
    on (Some q) e = ap (λ b. Some (cond b q p)) e

    by : (b : Bool) → is_older p.time (option_map timed (cond b (greatest l.puts) None)) ≡ true
        → cond b (greatest (p ∷ l.puts)) None ≡ cond b (greatest l.puts) None
    by true e = on (greatest l.puts) e
    by false e = refl

-- so its topic has the value
pub put-topic : (p : Put) (l : Life) → is_older p.time (topic_of l).value ≡ false
    → topic_of (with_a_put p l) ≡ with_value p.time p.value (topic_of l)
put-topic p l e =
    ap (λ h. record (topic_of l) { value = option_map timed h }) (held-put p l e) ∙ by (is_cached l.props) refl
  where
    by : (b : Bool) → is_cached l.props ≡ b
        → record (topic_of l) { value = option_map timed (cond b (Some p) None) }
        ≡ cond b (record (topic_of l) { value = Some (timed p) }) (topic_of l)
    by true c = refl
    by false c = ap (λ h. record (topic_of l) { value = option_map timed h }) (sym (held-uncached l c))
