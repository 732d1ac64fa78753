-- What is told of meta topics to a connection that wants none, and for which nothing of one is kept: nothing.
use Rattle.std.proofs.Common.{◌≡◌, ◌<◌, ◌≤◌, ◌&&◌, ◌||◌, ℕ, ℤ, Bool, true, false, cond, not, eqb, ltb, List, [], ◌∷◌, ◌++◌, Option, Some, None, map, refl, sym, ◌∙◌, ap, subst, arith, bytes_eq}
use Rattle.std.specs.Prelude.{is_some, nat_eq}
use Rattle.std.specs.List.{AllByRecursion, list_any, starts_with}
use Rattle.std.proofs.lemmas.Bool.Decides.{nat_tests}
use Rattle.std.proofs.lemmas.Slice.Eq.{bytes_eq-Decides}
use Rattle.nt_topics.specs.Names.{is_special}
use Rattle.nt_subs.specs.declared.sub.Sub.{Sub}
use Rattle.nt_subs.specs.declared.wish.Wanted.{Wanted}
use Rattle.nt_subs.specs.declared.wish.Wanted.TheVariants.{No}
use Rattle.nt_subs.specs.Subscriptions.{Subs}
use Rattle.nt_subs.specs.Wishes.{is_meant, strength, wish, greater, wanted}
use Rattle.nt_rules.specs.Limits.{first_meta}
use Rattle.nt_rules.specs.declared.meta.MetaNow.{MetaNow}
use Rattle.nt_rules.specs.declared.meta.Difference.{Difference}
use Rattle.nt_rules.specs.declared.meta.Difference.TheVariants.{Began, Changed, Ended}
use Rattle.nt_rules.specs.declared.topic.Topic.{Topic}
use Rattle.nt_rules.specs.declared.roster.Roster.{Roster}
use Rattle.nt_rules.specs.declared.roster.ConnRow.{ConnRow}
use Rattle.nt_rules.specs.declared.roster.LifeRow.{LifeRow}
use Rattle.nt_rules.specs.meta.Meta.{topic_pub, topic_sub, client_pub, client_sub, metas}
use Rattle.nt_rules.specs.outbox.Marks.{Mark, fresh, is_blank, unless_blank, at_id, rewanted_meta, changed_meta, ended}
use Rattle.nt_rules.specs.outbox.Calls.{OutboxState, behind, unless_behind, at_place, with_call, reached, meta_rewanted, meta_changed}
use Rattle.nt_rules.specs.history.State.{Open, open_metas, open_roster, differences_from, differences, noted_difference, noted_differences, meta_rewanted_all}
use Rattle.nt_laws.proofs.outboxes.Reaching.{call-reached}
use Rattle.nt_laws.proofs.topics.ItemFacts.{each-append}

-- ---- marks below the ids of meta topics

abbrev pub AreBelowMeta : List Mark → Type 0
AreBelowMeta marks = AllByRecursion (λ (m : Mark). m.id < first_meta) marks

below-place : (place : ℕ) (b : OutboxState) → AreBelowMeta b.marks → AreBelowMeta (at_place place b).marks
below-place place b h = by (ltb b.place place) (behind b)
  where
    by : (later : Bool) (fell : Option ℕ)
        → AreBelowMeta
        (cond later (record b { place = place; fell = behind b; marks = unless_behind fell b.marks }) b).marks
    by true None = h
    by true (Some w) = tt
    by false fell = h

pub below-reached : (place : ℕ) (b : OutboxState) → AreBelowMeta b.marks → AreBelowMeta (reached place b).marks
below-reached place b h = by (is_some (at_place place b).fell)
  where
    by : (gone : Bool) → AreBelowMeta (cond gone [] (at_place place b).marks)
    by true = tt
    by false = below-place place b h

-- a change of a meta topic of which nothing is kept, and after which nothing has to be kept
at-high : (id : ℕ) (name : List ℕ) (f : Mark → Mark) → first_meta ≤ id → is_blank (f (fresh id name)) ≡ true
    → (marks : List Mark) → AreBelowMeta marks → at_id id name f marks ≡ marks
at-high id name f high blank [] h = ap (λ b. cond b [] (f (fresh id name) ∷ [])) blank
at-high id name f high blank (m ∷ marks) h =
    let low : m.id < first_meta = h.0 in
    let other : eqb m.id id ≡ false = grind (arith, nat_tests) in
    let after : ltb id m.id ≡ false = grind (arith, nat_tests) in
    ap (λ b. cond b (unless_blank (f m) marks)
    (cond (ltb id m.id) (unless_blank (f (fresh id name)) (m ∷ marks)) (m ∷ at_id id name f marks))) other
    ∙ ap (λ b. cond b (unless_blank (f (fresh id name)) (m ∷ marks)) (m ∷ at_id id name f marks)) after
    ∙ ap (λ ms. m ∷ ms) (at-high id name f high blank marks h.1)

call-high : (place id : ℕ) (name : List ℕ) (f : Mark → Mark) (b : OutboxState) → first_meta ≤ id
    → is_blank (f (fresh id name)) ≡ true → AreBelowMeta b.marks
    → with_call place (at_id id name f) b ≡ reached place b
call-high place id name f b high blank h =
    ap (λ ms. record (at_place place b) { marks = cond (is_some (at_place place b).fell) [] ms })
    (at-high id name f high blank (at_place place b).marks (below-place place b h))

reached-twice : (place : ℕ) (b : OutboxState) → reached place (reached place b) ≡ reached place b
reached-twice place b = call-reached place (λ marks. marks) b

-- ---- meta topics

-- its name is special, and its id is none of a topic
pub record IsMeta (m : MetaNow) : Type 0 where
  pub special : is_special m.name ≡ true
  pub high : first_meta ≤ m.id

abbrev pub AreMeta : List MetaNow → Type 0
AreMeta ms = AllByRecursion IsMeta ms

rows-meta : {X : Type 0} (f : X → MetaNow) → ((x : X) → IsMeta (f x)) → (xs : List X) (rest : List MetaNow)
    → AreMeta rest → AreMeta (map f xs ++ rest)
rows-meta f is [] rest h = h
rows-meta f is (x ∷ xs) rest h = (is x, rows-meta f is xs rest h)

metas-meta : (r : Roster) → AreMeta (metas r)
metas-meta r =
    rows-meta (topic_pub r) (λ (t : LifeRow). record { special = refl; high = omega arith }) r.topics _
    (rows-meta (topic_sub r) (λ (t : LifeRow). record { special = refl; high = omega arith }) r.topics _
    (rows-meta client_pub (λ (c : ConnRow). record { special = refl; high = omega arith }) r.conns _
    (rows-meta client_sub (λ (c : ConnRow). record { special = refl; high = omega arith }) r.conns _ (
      record { special = refl; high = omega arith },
      (
        record { special = refl; high = omega arith },
        (record { special = refl; high = omega arith }, tt),
      ),
    ))))

pub open-metas-meta : (opens : List Open) (ts : List Topic) → AreMeta (open_metas opens ts)
unfolding open_metas
open-metas-meta opens ts = metas-meta (open_roster opens ts)

-- a difference of a meta topic
abbrev pub IsOfMeta : Difference → Type 0
IsOfMeta (Began m) = IsMeta m
IsOfMeta (Changed m) = IsMeta m
IsOfMeta (Ended id) = first_meta ≤ id

abbrev pub AreOfMeta : List Difference → Type 0
AreOfMeta ds = AllByRecursion IsOfMeta ds

began-meta : (ms : List MetaNow) → AreMeta ms → AreOfMeta (map Began ms)
began-meta [] h = tt
began-meta (m ∷ ms) h = (h.0, began-meta ms h.1)

from-meta : (rest : List MetaNow → List Difference) → ((ms : List MetaNow) → AreMeta ms → AreOfMeta (rest ms))
    → (m : MetaNow) (after : List MetaNow) → first_meta ≤ m.id → AreMeta after
    → AreOfMeta (differences_from rest m after)
from-meta rest all m [] high h = (high, all [] tt)
from-meta rest all m (k ∷ after) high h =
    by (eqb m.id k.id) (ltb m.id k.id) (bytes_eq m.bytes k.bytes) (from-meta rest all m after high h.1)
  where
    changed : (same : Bool) → AreOfMeta (cond same [] (Changed k ∷ []))
    changed true = tt
    changed false = (h.0, tt)

    by : (here before same : Bool) → AreOfMeta (differences_from rest m after)
        → AreOfMeta
        (cond here (cond same [] (Changed k ∷ []) ++ rest after)
        (cond before (Ended m.id ∷ rest (k ∷ after)) (Began k ∷ differences_from rest m after)))
    by true before same more =
        each-append IsOfMeta (cond same [] (Changed k ∷ [])) (rest after) (changed same) (all after h.1)
    by false true same more = (high, all (k ∷ after) h)
    by false false same more = (h.0, more)

pub differences-meta : (before after : List MetaNow) → AreMeta before → AreMeta after
    → AreOfMeta (differences before after)
differences-meta [] after b a = began-meta after a
differences-meta (m ∷ before) after b a =
    from-meta (λ k. differences before k) (λ k h. differences-meta before k b.1 h) m after b.0.high a

-- ---- wishes

-- no special name is wanted
abbrev pub WantsNone : (List ℕ → Wanted) → Type 0
WantsNone wish = (name : List ℕ) → is_special name ≡ true → wish name ≡ No

abbrev pub gives_special : (ℤ × Sub) → Bool
gives_special entry = list_any is_special entry.1.names

not-meant : (prefix : Bool) (given name : List ℕ) → is_special given ≡ false → is_special name ≡ true
    → is_meant prefix given name ≡ false
not-meant true given name plain special =
    ap (λ s. starts_with nat_eq name given && (not s || is_special given)) special
    ∙ ap (λ s. starts_with nat_eq name given && s) plain
    ∙ none (starts_with nat_eq name given)
  where
    none : (b : Bool) → (b && false) ≡ false
    none true = refl
    none false = refl
not-meant false given name plain special = by (bytes_eq given name) refl
  where
    by : (b : Bool) → bytes_eq given name ≡ b → b ≡ false
    by false e = refl
    by true e =
        let same : given ≡ name = (bytes_eq-Decides given name).0 e in
        sym (sym plain ∙ ap is_special same ∙ special)

none-meant : (prefix : Bool) (names : List (List ℕ)) (name : List ℕ) → list_any is_special names ≡ false
    → is_special name ≡ true → list_any (λ given. is_meant prefix given name) names ≡ false
none-meant prefix [] name plain special = refl
none-meant prefix (given ∷ names) name plain special =
    by (is_special given) refl plain (λ p. none-meant prefix names name p special)
  where
    by : (s : Bool) → is_special given ≡ s → (s || list_any is_special names) ≡ false
        → (list_any is_special names ≡ false → list_any (λ given. is_meant prefix given name) names ≡ false)
        → list_any (λ given. is_meant prefix given name) (given ∷ names) ≡ false
    by true e p more = absurd (cc)
    by false e p more =
        ap (λ b. b || list_any (λ given. is_meant prefix given name) names) (not-meant prefix given name e special)
        ∙ more p

pub wants-none : (subs : Subs) → list_any gives_special subs ≡ false → WantsNone (wanted subs)
wants-none [] plain name special = refl
wants-none (entry ∷ entries) plain name special =
    by (gives_special entry) refl plain (λ p. wants-none entries p name special)
  where
    by : (s : Bool) → gives_special entry ≡ s → (s || list_any gives_special entries) ≡ false
        → (list_any gives_special entries ≡ false → wanted entries name ≡ No)
        → wanted (entry ∷ entries) name ≡ No
    by true e p more = absurd (cc)
    by false e p more =
        ap (λ b. greater (cond b (strength entry.1.options) No) (wanted entries name))
        (none-meant entry.1.options.prefix entry.1.names name e special)
        ∙ more p

-- ---- what is told

quiet-difference : (place : ℕ) (wish : List ℕ → Wanted) (d : Difference) (b : OutboxState) → WantsNone wish
    → IsOfMeta d → AreBelowMeta b.marks → noted_difference place wish d b ≡ reached place b
quiet-difference place wish (Began m) b none d h =
    ap (λ w. meta_rewanted place m No w b) (none m.name d.special)
    ∙ call-high place m.id m.name (rewanted_meta No No) b d.high refl h
quiet-difference place wish (Changed m) b none d h =
    ap (λ w. meta_changed place m w b) (none m.name d.special)
    ∙ call-high place m.id m.name (changed_meta No) b d.high refl h
quiet-difference place wish (Ended id) b none d h = call-high place id [] (ended place) b d refl h

pub quiet-differences : (place : ℕ) (wish : List ℕ → Wanted) (ds : List Difference) (b : OutboxState) → WantsNone wish
    → AreOfMeta ds → AreBelowMeta b.marks → noted_differences place wish ds (reached place b) ≡ reached place b
quiet-differences place wish [] b none all h = refl
quiet-differences place wish (d ∷ ds) b none all h =
    ap (λ c. noted_differences place wish ds c)
    (quiet-difference place wish d (reached place b) none all.0 (below-reached place b h) ∙ reached-twice place b)
    ∙ quiet-differences place wish ds b none all.1 h

-- wishes that change from none to none
pub quiet-rewanted : (place : ℕ) (old wish : List ℕ → Wanted) (ms : List MetaNow) (b : OutboxState) → WantsNone old
    → WantsNone wish → AreMeta ms → AreBelowMeta b.marks
    → reached place (meta_rewanted_all place old wish ms b) ≡ reached place b
quiet-rewanted place old wish [] b was none all h = refl
quiet-rewanted place old wish (m ∷ ms) b was none all h =
    ap (λ c. reached place (meta_rewanted_all place old wish ms c))
    (ap (λ w. meta_rewanted place m w (wish m.name) b) (was m.name all.0.special)
    ∙ ap (λ w. meta_rewanted place m No w b) (none m.name all.0.special)
    ∙ call-high place m.id m.name (rewanted_meta No No) b all.0.high refl h)
    ∙ quiet-rewanted place old wish ms (reached place b) was none all.1 (below-reached place b h)
    ∙ reached-twice place b

-- and nothing more is kept by them
pub quiet-rewanted-below : (place : ℕ) (old wish : List ℕ → Wanted) (ms : List MetaNow) (b : OutboxState)
    → WantsNone old → WantsNone wish → AreMeta ms → AreBelowMeta b.marks
    → AreBelowMeta (meta_rewanted_all place old wish ms b).marks
quiet-rewanted-below place old wish [] b was none all h = h
quiet-rewanted-below place old wish (m ∷ ms) b was none all h =
    subst (λ c. AreBelowMeta (meta_rewanted_all place old wish ms c).marks)
    (sym
    (ap (λ w. meta_rewanted place m w (wish m.name) b) (was m.name all.0.special)
    ∙ ap (λ w. meta_rewanted place m No w b) (none m.name all.0.special)
    ∙ call-high place m.id m.name (rewanted_meta No No) b all.0.high refl h))
    (quiet-rewanted-below place old wish ms (reached place b) was none all.1 (below-reached place b h))
