-- A topic that changed is found by its name, and so whether it is cached and holds a value.
use Rattle.std.proofs.Common.{◌≡◌, ◌≢◌, ℕ, Bool, true, false, cond, List, [], ◌∷◌, Option, Some, find, refl, ◌∙◌}
use Rattle.std.proofs.Common.{ap, subst}
use Rattle.std.specs.Prelude.{is_some, option_map, unwrap_or}
use Rattle.std.specs.List.{AllByRecursion, cons_option}
use Rattle.std.proofs.lemmas.Slice.Eq.{bytes_eq-Decides}
use Rattle.nt_topics.specs.Properties.{is_cached}
use Rattle.nt_rules.specs.declared.topic.Topic.{Topic}
use Rattle.nt_rules.specs.meta.Rosters.{Pairwise}
use Rattle.nt_rules.specs.topics.Topics.{change_first, is_named}
use Rattle.nt_rules.specs.history.State.{cached_in, holds_in}

-- what holds of each item holds of the one that is found
pub found-each : {X : Type 0} (P : X → Type 0) (test : X → Bool) (xs : List X) (x : X) → AllByRecursion P xs
    → find test xs ≡ Some x → P x
found-each P test [] x a e = absurd (cc)
found-each {X} P test (y ∷ xs) x a e = by (λ h. found-each P test xs x a.1 h) (test y) e
  where
    by : (find test xs ≡ Some x → P x) → (b : Bool) → cond b (Some y) (find test xs) ≡ Some x → P x
    by more true e = let same : y ≡ x = cc in subst P same a.0
    by more false e = more e

abbrev pub HaveDifferentNames : List Topic → Type 0
HaveDifferentNames ts = Pairwise (λ (a b : Topic). a.name ≢ b.name) ts

unnamed : (t u : Topic) → u.name ≢ t.name → is_named t.name u ≡ false
unnamed t u apart = by (is_named t.name u) refl
  where
    by : (b : Bool) → is_named t.name u ≡ b → is_named t.name u ≡ false
    by false e = e
    by true e = absurd (apart ((bytes_eq-Decides u.name t.name).0 e))

-- the first topic that passes changed, and keeps its name
pub named-changed : (test : Topic → Bool) (g : Topic → Option Topic) (ts : List Topic) (t v : Topic)
    → HaveDifferentNames ts → find test ts ≡ Some t → g t ≡ Some v → v.name ≡ t.name
    → find (is_named t.name) (change_first test g ts) ≡ Some v
named-changed test g [] t v apart e is name = absurd (cc)
named-changed test g (u ∷ ts) t v apart e is name =
    by (λ h. named-changed test g ts t v apart.1 h is name) (test u) e
  where
    there : is_named t.name v ≡ true
    there = (bytes_eq-Decides v.name t.name).1 name

    by : (find test ts ≡ Some t → find (is_named t.name) (change_first test g ts) ≡ Some v) → (b : Bool)
        → cond b (Some u) (find test ts) ≡ Some t
        → find (is_named t.name) (cond b (cons_option (g u) ts) (u ∷ change_first test g ts)) ≡ Some v
    by more true e =
        let same : u ≡ t = cc in
        ap (λ o. find (is_named t.name) (cons_option o ts)) (ap g same ∙ is)
        ∙ ap (λ b. cond b (Some v) (find (is_named t.name) ts)) there
    by more false e =
        let differs : u.name ≢ t.name = found-each (λ (w : Topic). u.name ≢ w.name) test ts t apart.0 e in
        let other : is_named t.name u ≡ false = unnamed t u differs in
        ap (λ b. cond b (Some u) (find (is_named t.name) (change_first test g ts))) other ∙ more e

pub cached-found : (ts : List Topic) (name : List ℕ) (v : Topic) → find (is_named name) ts ≡ Some v
    → cached_in ts name ≡ is_cached v.props
cached-found ts name v e = ap (λ o. unwrap_or (option_map (λ (t : Topic). is_cached t.props) o) true) e

pub holds-found : (ts : List Topic) (name : List ℕ) (v : Topic) → find (is_named name) ts ≡ Some v
    → holds_in ts name ≡ is_some v.value
holds-found ts name v e = ap (λ o. unwrap_or (option_map (λ (t : Topic). is_some t.value) o) false) e
