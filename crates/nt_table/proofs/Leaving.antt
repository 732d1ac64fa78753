-- The end of a connection, topic by topic: by the ids of those to which it publishes, in order.
use Rattle.std.proofs.Common.{◌≡◌, ◌≤◌, ◌<◌, ◌+◌, ◌||◌, ◌&&◌, ◌++◌, ◌==◌, ℕ, ℤ, zero, suc, Bool, true, false, not, cond, List, [], ◌∷◌, Option, Some, None, filter, map, length, get_or, refl, sym, ◌∙◌, ap, arith}
use Rattle.std.specs.Ordering.{int_eq}
use Rattle.std.specs.List.{list_any, find, cons_option, Contains}
use Rattle.std.specs.List.Sorted.{IsNonDecreasing, IsStrictlyIncreasing}
use Rattle.std.proofs.lemmas.Bool.Decides.{Decides-eqb, Decides-int_eq}
use Rattle.std.proofs.lemmas.List.{append_assoc, get_or_default}
use Rattle.std.proofs.lemmas.List.Sorted.{IsNonDecreasingBy-from_all_adjacent}
use Rattle.nt_rules.specs.declared.topic.Topic.{Topic}
use Rattle.nt_rules.specs.declared.topic.Pub.{Pub}
use Rattle.nt_rules.specs.declared.topic.Change.{Change}
use Rattle.nt_rules.specs.topics.Topics.{is_publisher, is_of, has_conn, lives_on, change_first, without_conn, outlives, dropped}
use Rattle.nt_rules.specs.topics.Changes.{if_found, drop_changes, ended}
use Rattle.nt_table.specs.Index.{number, total, is_at, left_by, IsRising, AreFiled, AreSaid, AreAmong}
use Rattle.nt_rules.proofs.Positions.{find-none, change-none}
use Rattle.nt_table.proofs.Numbers.{number-none, any-none, none-counted, not-true}
use Rattle.nt_table.proofs.Filed.{not-at, at-id, KeepsId, rising-changed, has-at, none-filtered, dropped-none, nothing-dropped}

-- ---- ids in order

-- ids that rise don't fall
pub rising-ordered : (ids : List ℕ) → IsStrictlyIncreasing ids → IsNonDecreasing ids
rising-ordered ids up =
    IsNonDecreasingBy-from_all_adjacent (λ x. x) ids
    (λ k d within. let less = up k within in
    let here = get_or_default ids k d 0 (omega arith) in
    let next = get_or_default ids (k + 1) d 0 within in
    omega (arith, less, here, next))

-- the first is no greater than any
first-least : (id x : ℕ) (ids : List ℕ) → IsNonDecreasing (id ∷ ids) → Contains (id ∷ ids) x → id ≤ x
first-least id x ids up h =
    let le : id ≤ get_or (id ∷ ids) h.0 x = up 0 h.0 x (omega arith) h.1 in
    let same : get_or (id ∷ ids) h.0 x ≡ x = h.2 in
    omega (arith, le, same)

-- another than the first is one of the rest
in-rest : (id x : ℕ) (ids : List ℕ) → (id == x) ≡ false → Contains (id ∷ ids) x → Contains ids x
in-rest id x ids apart h = by h.0 h.1 h.2
  where
    by : (k : ℕ) → k < length (id ∷ ids) → get_or (id ∷ ids) k x ≡ x → Contains ids x
    by zero within e = absurd (let same : (id == x) ≡ true = (Decides-eqb id x).1 e in cc)
    by (suc k) within e = (k, omega arith, e)

-- the rest are in order
pub rest-ordered : (id : ℕ) (ids : List ℕ) → IsNonDecreasing (id ∷ ids) → IsNonDecreasing ids
rest-ordered id ids up i j d le within = up (suc i) (suc j) d (omega arith) (omega arith)

-- topics after one have other ids
other-id : (id : ℕ) (t : Topic) → id < t.id → (id == t.id) ≡ false
other-id id t less =
    not-at (Some id) t (λ k e same. let at : id ≡ k = cc in omega (arith, same, at, less))

none-at : (id least : ℕ) (ts : List Topic) → id < least → IsRising least ts
    → list_any (is_at (Some id)) ts ≡ false
none-at id least [] less r = refl
none-at id least (t ∷ ts) less r =
    let from : least ≤ t.id = r.0 in
    ap (λ b. b || list_any (is_at (Some id)) ts) (other-id id t (omega arith))
    ∙ none-at id (t.id + 1) ts (omega arith) r.1

module _ (conn : ℕ) where
  -- ---- a topic that the connection left

  none-left : (t : Topic) → number (is_of conn) (without_conn conn t).pubs ≡ 0
  none-left t = number-none (is_of conn) (λ p. not (is_of conn p)) t.pubs (λ p k. not-true (is_of conn p) k)

  left-none : (t : Topic) → has_conn conn (without_conn conn t) ≡ false
  left-none t = any-none (is_of conn) (without_conn conn t).pubs (none-left t)

  left-outlives : (t : Topic) → outlives conn (without_conn conn t) ≡ true
  left-outlives t = ap (λ b. not b || lives_on (without_conn conn (without_conn conn t))) (left-none t)

  left-twice : (t : Topic) → without_conn conn (without_conn conn t) ≡ without_conn conn t
  left-twice t =
      ap (λ ps. record t { pubs = ps }) (none-filtered conn (without_conn conn t).pubs (none-left t))

  left-keeps : (t : Topic) → KeepsId t (left_by conn t)
  left-keeps t = by (outlives conn t)
    where
      by : (b : Bool) → KeepsId t (cond b (Some (without_conn conn t)) None)
      by true = refl
      by false = tt

  -- a topic that ends with it is one to which it publishes
  ends-has : (t : Topic) → outlives conn t ≡ false → has_conn conn t ≡ true
  ends-has t h = by (has_conn conn t) h
    where
      by : (b : Bool) → (not b || lives_on (without_conn conn t)) ≡ false → b ≡ true
      by true h = refl
      by false h = absurd (cc)

  -- ---- one topic after the other

  -- the topics after the one with this id
  abbrev pub after : ℕ → List Topic → List Topic
  after id ts = change_first (is_at (Some id)) (left_by conn) ts

  -- what it told
  abbrev pub told : ℕ → List Topic → List Change
  told id ts = if_found (λ t. drop_changes (t ∷ []) conn) (find (is_at (Some id)) ts)

  -- those that outlive the connection, and those that don't
  abbrev lasting : List Topic → List Topic
  lasting ts = filter (outlives conn) ts

  abbrev ending : List Topic → List Topic
  ending ts = filter (λ t. not (outlives conn t)) ts

  pub rising-left : (id : ℕ) (ts : List Topic) → IsRising 0 ts → IsRising 0 (after id ts)
  rising-left id ts r = rising-changed 0 (is_at (Some id)) (left_by conn) ts left-keeps r

  -- what is left in the end is the same
  pub dropped-left : (id : ℕ) (ts : List Topic) → dropped (after id ts) conn ≡ dropped ts conn
  dropped-left id [] = refl
  dropped-left id (t ∷ ts) = by (is_at (Some id) t) (outlives conn t) refl (dropped-left id ts)
    where
      by : (b c : Bool) → outlives conn t ≡ c → dropped (after id ts) conn ≡ dropped ts conn
          → dropped (cond b (cons_option (cond c (Some (without_conn conn t)) None) ts) (t ∷ after id ts))
          conn
          ≡ map (without_conn conn) (cond c (t ∷ lasting ts) (lasting ts))
      by true true e more =
          ap (λ b. map (without_conn conn) (cond b (without_conn conn t ∷ lasting ts) (lasting ts)))
          (left-outlives t)
          ∙ ap (λ u. u ∷ dropped ts conn) (left-twice t)
      by true false e more = refl
      by false true e more =
          ap (λ b. map (without_conn conn) (cond b (t ∷ lasting (after id ts)) (lasting (after id ts)))) e
          ∙ ap (λ us. without_conn conn t ∷ us) more
      by false false e more =
          ap (λ b. map (without_conn conn) (cond b (t ∷ lasting (after id ts)) (lasting (after id ts)))) e
          ∙ more

  -- what is told, and what is still to be told, is all
  pub told-left : (id least : ℕ) (ids : List ℕ) (ts : List Topic) → IsNonDecreasing (id ∷ ids)
      → AreAmong (id ∷ ids) conn ts → IsRising least ts
      → told id ts ++ drop_changes (after id ts) conn ≡ drop_changes ts conn
  told-left id least ids [] up a r = refl
  told-left id least ids (t ∷ ts) up a r =
      by (is_at (Some id) t) refl (outlives conn t) refl (told-left id (t.id + 1) ids ts up a.1 r.1)
    where
      told_settings : Option Topic → List Change
      told_settings o = if_found (λ t. drop_changes (t ∷ []) conn) o

      by : (b : Bool) → is_at (Some id) t ≡ b → (c : Bool) → outlives conn t ≡ c
          → told id ts ++ drop_changes (after id ts) conn ≡ drop_changes ts conn
          → told_settings (cond b (Some t) (find (is_at (Some id)) ts))
          ++ drop_changes
          (cond b (cons_option (cond c (Some (without_conn conn t)) None) ts) (t ∷ after id ts)) conn
          ≡ map ended (cond (not c) (t ∷ ending ts) (ending ts))
      by true at true e more =
          ap (λ d. map ended (cond (not d) (t ∷ []) []) ++ drop_changes (without_conn conn t ∷ ts) conn) e
          ∙ ap (λ d. map ended (cond (not d) (without_conn conn t ∷ ending ts) (ending ts))) (left-outlives t)
      by true at false e more =
          ap (λ d. map ended (cond (not d) (t ∷ []) []) ++ drop_changes ts conn) e
      by false at true e more =
          ap (λ d. told id ts ++ map ended (cond (not d) (t ∷ ending (after id ts)) (ending (after id ts)))) e
          ∙ more
      by false at false e more =
          let le : id ≤ t.id = first-least id t.id ids up (a.0 (ends-has t e)) in
          let less : id < t.id + 1 = omega (arith, le) in
          let none : list_any (is_at (Some id)) ts ≡ false = none-at id (t.id + 1) ts less r.1 in
          ap (λ o. told_settings o ++ drop_changes (t ∷ after id ts) conn) (find-none (is_at (Some id)) ts none)
          ∙ ap (λ us. drop_changes (t ∷ us) conn) (change-none (is_at (Some id)) (left_by conn) ts none)
          ∙ ap (λ d. map ended (cond (not d) (t ∷ ending ts) (ending ts))) e

  -- after what was told before
  pub told-after : (id least : ℕ) (ids : List ℕ) (ts : List Topic) → IsNonDecreasing (id ∷ ids)
      → AreAmong (id ∷ ids) conn ts → IsRising least ts
      → (before now : List Change) → now ≡ before ++ told id ts
      → now ++ drop_changes (after id ts) conn ≡ before ++ drop_changes ts conn
  told-after id least ids ts up a r before now e =
      ap (λ cs. cs ++ drop_changes (after id ts) conn) e
      ∙ append_assoc before (told id ts) (drop_changes (after id ts) conn)
      ∙ ap (λ cs. before ++ cs) (told-left id least ids ts up a r)

  -- the other ids are those of all that are left
  pub among-left : (id least : ℕ) (ids : List ℕ) (ts : List Topic) → AreAmong (id ∷ ids) conn ts
      → IsRising least ts → AreAmong ids conn (after id ts)
  among-left id least ids [] a r = tt
  among-left id least ids (t ∷ ts) a r =
      by (is_at (Some id) t) refl (outlives conn t) (among-left id (t.id + 1) ids ts a.1 r.1)
    where
      following : (from : ℕ) (ts : List Topic) → id < from → IsRising from ts → AreAmong (id ∷ ids) conn ts
          → AreAmong ids conn ts
      following from [] less r a = tt
      following from (s ∷ ts) less r a =
          let up : from ≤ s.id = r.0 in (
            λ h. in-rest id s.id ids (other-id id s (omega arith)) (a.0 h),
            following (s.id + 1) ts (omega arith) r.1 a.1,
          )

      at-first : is_at (Some id) t ≡ true → AreAmong ids conn ts
      at-first at =
          let same : id ≡ t.id = (Decides-eqb id t.id).0 at in
          following (t.id + 1) ts (omega (arith, same)) r.1 a.1

      by : (b : Bool) → is_at (Some id) t ≡ b → (c : Bool) → AreAmong ids conn (after id ts)
          → AreAmong ids conn
          (cond b (cons_option (cond c (Some (without_conn conn t)) None) ts) (t ∷ after id ts))
      by true at true more = (
        λ h. absurd (let none : has_conn conn (without_conn conn t) ≡ false = left-none t in cc),
        at-first at,
      )
      by true at false more = at-first at
      by false at c more = (λ h. in-rest id t.id ids at (a.0 h), more)

  -- ---- at first, and in the end

  -- a connection's publisher has a uid
  some-uid : (ps : List Pub) → list_any (is_of conn) ps ≡ true
      → (uid : ℤ) × (list_any (is_publisher conn uid) ps ≡ true)
  some-uid [] h = absurd (cc)
  some-uid (p ∷ ps) h = by (is_of conn p) refl h (λ k. some-uid ps k)
    where
      or : (b c : Bool) → c ≡ true → (b || c) ≡ true
      or true c e = refl
      or false c e = e

      by : (b : Bool) → is_of conn p ≡ b → (b || list_any (is_of conn) ps) ≡ true
          → (list_any (is_of conn) ps ≡ true → (uid : ℤ) × (list_any (is_publisher conn uid) ps ≡ true))
          → (uid : ℤ) × (list_any (is_publisher conn uid) (p ∷ ps) ≡ true)
      by true e h more = (
        p.uid,
        ap (λ b. (b && int_eq p.uid p.uid) || list_any (is_publisher conn p.uid) ps) e
            ∙ ap (λ b. b || list_any (is_publisher conn p.uid) ps) ((Decides-int_eq p.uid p.uid).1 refl),
      )
      by false e h more =
          let r = more h in (r.0, or (is_publisher conn r.0 p) (list_any (is_publisher conn r.0) ps) r.1)

  -- all ids that are said to be its publishers' are those of all topics to which it publishes
  pub among-said : (says : ℤ → Option ℕ) (ids : List ℕ) (ts : List Topic)
      → ((uid : ℤ) (id : ℕ) → says uid ≡ Some id → Contains ids id) → AreSaid says conn ts
      → AreAmong ids conn ts
  among-said says ids [] has s = tt
  among-said says ids (t ∷ ts) has s = (
    λ h. let r = some-uid t.pubs h in has r.0 t.id (at-id (says r.0) t (sym (s.0 r.0) ∙ r.1)),
    among-said says ids ts has s.1,
  )

  none-among : (ts : List Topic) → AreAmong [] conn ts → total (is_of conn) ts ≡ 0
  none-among [] a = refl
  none-among (t ∷ ts) a = by (has_conn conn t) refl (none-among ts a.1)
    where
      by : (b : Bool) → has_conn conn t ≡ b → total (is_of conn) ts ≡ 0
          → number (is_of conn) t.pubs + total (is_of conn) ts ≡ 0
      by true e more = absurd (let h = a.0 e in omega (arith, h.1))
      by false e more = let none = none-counted (is_of conn) t.pubs e in omega (arith, none, more)

  -- where no ids are left, it changes no topic
  pub all-left : (ts : List Topic) → AreAmong [] conn ts → ts ≡ dropped ts conn
  all-left ts a = dropped-none conn ts (none-among ts a)

  -- and tells nothing
  pub all-told : (ts : List Topic) → AreAmong [] conn ts → [] ≡ drop_changes ts conn
  all-told ts a = nothing-dropped conn ts (none-among ts a)

-- what an index says of all publishers, it says of the connection's
pub said-filed : (names : List ℕ → Option ℕ) (ids : ℕ → ℤ → Option ℕ) (next conn : ℕ) (ts : List Topic)
    → AreFiled names ids next ts → AreSaid (ids conn) conn ts
said-filed names ids next conn [] k = tt
said-filed names ids next conn (t ∷ ts) k =
    (λ uid. has-at names ids next conn uid t k.0, said-filed names ids next conn ts k.1)
