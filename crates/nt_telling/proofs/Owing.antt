-- What is owed of a life that goes on may be handed, key by key, and leaves nothing to come.
use Rattle.std.proofs.Common.{◌≡◌, ℕ, ◌+◌, ◌≤◌, ◌<◌, ◌&&◌, ◌||◌, ◌==◌, max, not, nat_le, nat_lt, Bool, true, false}
use Rattle.std.proofs.Common.{cond, List, [], ◌∷◌, ◌++◌, map, filter, reverse, Some, None, refl, sym, ap, subst, ◌∙◌}
use Rattle.std.proofs.Common.{◌⊎◌, inl, inr, arith}
use Rattle.std.specs.List.{list_any, list_all, find, AllByRecursion}
use Rattle.std.proofs.lemmas.Bool.{true≢false, eq-eqb, ne_eqb, leb-true, le-leb, and_parts, and_from, or_left, or_right}
use Rattle.std.proofs.lemmas.Bool.Decides.{nat_tests}
use Rattle.std.proofs.lemmas.List.{reverse-append}
use Rattle.std.proofs.lemmas.List.Folds.{list_any-append}
use Rattle.std.proofs.lemmas.List.Elements.{filter-append}
use Rattle.nt_subs.specs.declared.wish.Wanted.{Wanted}
use Rattle.nt_subs.specs.declared.wish.Wanted.TheVariants.{No, TopicOnly, Newest, All}
use Rattle.nt_topics.specs.Properties.{is_cached}
use Rattle.nt_rules.specs.topics.Puts.{Put, taken}
use Rattle.nt_rules.specs.outbox.Keys.{Kind, Of_end, Of_publish, Of_setting, Of_topic, Of_value, Key, is_kind}
use Rattle.nt_rules.specs.outbox.Keys.{publish_key, setting_key, topic_key, value_key, announces, next_value, is_value}
use Rattle.nt_rules.specs.outbox.Keys.{in_order}
use Rattle.nt_rules.specs.outbox.Marks.{is_empty, is_wish, is_valued, option_items}
use Rattle.nt_rules.specs.history.Lives.{Life, Publishing, Setting, taken_since_turn}
use Rattle.nt_rules.specs.history.Owed.{Account, is_announced, owed_publishes, owed_settings, owed_cached}
use Rattle.nt_rules.specs.history.Owed.{owed_uncached, newest_for, newest_from, place_by, reply_keys, topic_keys}
use Rattle.nt_rules.specs.history.Owed.{value_keys, newest_keys}
use Rattle.nt_telling.proofs.InOrder.{Before, Ordered, filter-in_order, in_order-same}
use Rattle.nt_telling.proofs.LifeKeys.{living_keys, replies-own, topics-own}
use Rattle.nt_telling.proofs.Messages.{setting_at, put_at}
use Rattle.nt_telling.proofs.Living.{State, BoundBy, IsBounded, after_first, noted, noted_at, notes, notes-append}
use Rattle.nt_telling.proofs.Living.{FineAt, FineAll, fine-append}
use Rattle.nt_telling.proofs.Given.{AreOf, shown-notes, SettingsRise, settings-filter, state_of}
use Rattle.nt_laws.proofs.topics.ItemFacts.{each-all, each-append, each-both, each-filter, each-in_order, each-map}
use Rattle.nt_laws.proofs.topics.ItemFacts.{each-more, each-passes, each-reverse}
use Rattle.nt_telling.proofs.InOrder.{any-in_order}

-- ---- the places of a life

abbrev pub PutsFall : List Put → Type 0
PutsFall [] = Unit {0}
PutsFall (p ∷ ps) = AllByRecursion (λ q. q.place < p.place) ps × PutsFall ps

-- its changes of properties stand at rising places, its puts at falling ones from its turn on
pub record HasPlaces (l : Life) : Type 0 where
  pub settings_rise : SettingsRise l.settings
  pub puts_fall : PutsFall l.puts
  pub puts_from : AllByRecursion (λ p. l.turn ≤ p.place) l.puts

settings-found : (ss : List Setting) → SettingsRise ss
    → AllByRecursion (λ s. find (λ t. t.place == s.place) ss ≡ Some s) ss
settings-found [] h = tt
settings-found (s ∷ ss) h = (
  ap (λ b. cond b (Some s) (find (λ t. t.place == s.place) ss)) (eq-eqb s.place s.place refl),
  each-both (λ t. s.place < t.place) (λ t. find (λ u. u.place == t.place) ss ≡ Some t)
      (λ t. find (λ u. u.place == t.place) (s ∷ ss) ≡ Some t)
      (λ t low e.
      ap (λ b. cond b (Some s) (find (λ u. u.place == t.place) ss))
      (ne_eqb s.place t.place (λ f. absurd (omega arith))) ∙ e)
      ss h.0 (settings-found ss h.1),
)

puts-found : (ps : List Put) → PutsFall ps → AllByRecursion (λ p. find (λ q. q.place == p.place) ps ≡ Some p) ps
puts-found [] h = tt
puts-found (p ∷ ps) h = (
  ap (λ b. cond b (Some p) (find (λ q. q.place == p.place) ps)) (eq-eqb p.place p.place refl),
  each-both (λ q. q.place < p.place) (λ q. find (λ r. r.place == q.place) ps ≡ Some q)
      (λ q. find (λ r. r.place == q.place) (p ∷ ps) ≡ Some q)
      (λ q low e.
      ap (λ b. cond b (Some p) (find (λ r. r.place == q.place) ps))
      (ne_eqb p.place q.place (λ f. absurd (omega arith))) ∙ e)
      ps h.0 (puts-found ps h.1),
)

-- a put of the life is there, and isn't before the turn
abbrev pub IsPutOf : Life → Put → Type 0
IsPutOf l p = (put_at p.place l ≡ Some p) × (l.turn ≤ p.place)

pub puts-of : (l : Life) → HasPlaces l → AllByRecursion (IsPutOf l) l.puts
puts-of l h =
    each-both (λ p. put_at p.place l ≡ Some p) (λ p. l.turn ≤ p.place) (IsPutOf l) (λ p a b. (a, b)) l.puts
    (puts-found l.puts h.puts_fall) h.puts_from

each-taken : (P : Put → Type 0) (ps : List Put) → AllByRecursion P ps → AllByRecursion P (taken ps)
each-taken P [] h = tt
each-taken P (p ∷ ps) h = by (list_all (λ q. nat_le q.time p.time) ps) (each-taken P ps h.1)
  where
    by : (b : Bool) → AllByRecursion P (taken ps) → AllByRecursion P (cond b (p ∷ taken ps) (taken ps))
    by true more = (h.0, more)
    by false more = more

fall-taken : (ps : List Put) → PutsFall ps → PutsFall (taken ps)
fall-taken [] h = tt
fall-taken (p ∷ ps) h = by (list_all (λ q. nat_le q.time p.time) ps) (fall-taken ps h.1)
  where
    by : (b : Bool) → PutsFall (taken ps) → PutsFall (cond b (p ∷ taken ps) (taken ps))
    by true more = (each-taken (λ q. q.place < p.place) ps h.0, more)
    by false more = more

pub each-since : (P : Put → Type 0) (l : Life) → AllByRecursion P l.puts → AllByRecursion P (taken_since_turn l)
each-since P l h = by (is_cached l.props)
  where
    by : (b : Bool) → AllByRecursion P (cond b (taken l.puts) l.puts)
    by true = each-taken P l.puts h
    by false = h

pub fall-since : (l : Life) → PutsFall l.puts → PutsFall (taken_since_turn l)
fall-since l h = by (is_cached l.props)
  where
    by : (b : Bool) → PutsFall (cond b (taken l.puts) l.puts)
    by true = fall-taken l.puts h
    by false = h

-- none is after the first
each-bound : (turn : ℕ) (ps : List Put) → PutsFall ps → AllByRecursion (λ p. BoundBy turn (p.place + 1) ps) ps
each-bound turn [] h = tt
each-bound turn (p ∷ ps) h = (
  omega arith,
  each-more (λ q. q.place < p.place) (λ q. q.place + 1 ≤ p.place + 1) (λ q low. omega arith) ps h.0,
)

abbrev IsTakenOf : Life → Put → Type 0
IsTakenOf l p = IsPutOf l p × IsBounded l (p.place + 1)

takens-of : (l : Life) → HasPlaces l → AllByRecursion (IsTakenOf l) (taken_since_turn l)
takens-of l h =
    each-both (IsPutOf l) (λ p. IsBounded l (p.place + 1)) (IsTakenOf l) (λ p a b. (a, b)) (taken_since_turn l)
    (each-since (IsPutOf l) l (puts-of l h)) (each-bound l.turn (taken_since_turn l) (fall-since l h.puts_fall))

-- ---- answers and changes of properties

abbrev IsReply : Key → Type 0
IsReply x = (x.kind ≡ Of_publish) ⊎ (x.kind ≡ Of_setting)

abbrev is_set : Key → Bool
is_set x = is_kind x.kind Of_setting

abbrev keys_of : Life → List Setting → List Key
keys_of l ss = map (λ s. setting_key l.id s.place) ss

fine-replies : (l : Life) (m : State) (xs : List Key) → AllByRecursion IsReply xs → filter is_set xs ≡ keys_of l m.pend
    → AllByRecursion (λ s. setting_at s.place l ≡ Some s) m.pend → FineAll l m xs × ((notes m xs).pend ≡ [])
fine-replies l m [] r e f = (tt, none m.pend e)
  where
    none : (ss : List Setting) → [] ≡ keys_of l ss → ss ≡ []
    none [] e = refl
    none (s ∷ ss) e = cc
fine-replies l m (x ∷ xs) r e f = by r.0 (λ n g k. fine-replies l n xs r.1 g k)
  where
    More : Type 0
    More =
        (n : State) → filter is_set xs ≡ keys_of l n.pend → AllByRecursion (λ s. setting_at s.place l ≡ Some s) n.pend
        → FineAll l n xs × ((notes n xs).pend ≡ [])

    Done : Kind → Type 0
    Done kind = (FineAt kind l x.place m × FineAll l (noted_at kind x.place m) xs)
        × ((notes (noted_at kind x.place m) xs).pend ≡ [])

    set : (ss : List Setting) → m.pend ≡ ss → More → (x ∷ filter is_set xs) ≡ keys_of l ss → Done Of_setting
    set [] p more h = cc
    set (s ∷ ss) p more h =
        let key : x ≡ setting_key l.id s.place = cc in
        let rest : filter is_set xs ≡ keys_of l ss = cc in
        let all = subst (AllByRecursion (λ s. setting_at s.place l ≡ Some s)) p f in
        let place : x.place ≡ s.place = ap (λ (y : Key). y.place) key in
        let t = more (noted_at Of_setting x.place m)
        (rest ∙ ap (λ (w : List Setting). keys_of l (after_first w)) (sym p))
        (subst (λ (w : List Setting). AllByRecursion (λ s. setting_at s.place l ≡ Some s) (after_first w))
        (sym p) all.1) in
        (((s, ss, p, sym place, ap (λ i. setting_at i l) place ∙ all.0), t.0), t.1)

    by : IsReply x → More → FineAll l m (x ∷ xs) × ((notes m (x ∷ xs)).pend ≡ [])
    by (inl k) more =
        let t = more (noted_at Of_publish x.place m)
        (sym (ap (λ kind. cond (is_kind kind Of_setting) (x ∷ filter is_set xs) (filter is_set xs)) k) ∙ e) f in
        subst Done (sym k) ((tt, t.0), t.1)
    by (inr k) more =
        subst Done (sym k)
        (set m.pend refl more (sym (ap
        (λ kind. cond (is_kind kind Of_setting) (x ∷ filter is_set xs) (filter is_set xs)) k) ∙ e))

sets-of-publishes : (id : ℕ) (ps : List Publishing) → filter is_set (map (λ p. publish_key id p.place) ps) ≡ []
sets-of-publishes id [] = refl
sets-of-publishes id (p ∷ ps) = sets-of-publishes id ps

sets-of-settings : (l : Life) (ss : List Setting) → filter is_set (keys_of l ss) ≡ keys_of l ss
sets-of-settings l [] = refl
sets-of-settings l (s ∷ ss) = ap (λ (w : List Key). setting_key l.id s.place ∷ w) (sets-of-settings l ss)

settings-ordered : (l : Life) (ss : List Setting) → SettingsRise ss → Ordered (keys_of l ss)
settings-ordered l [] h = tt
settings-ordered l (s ∷ ss) h = (
  each-map (Before (setting_key l.id s.place)) (λ t. setting_key l.id t.place) ss
      (each-more (λ t. s.place < t.place) (λ t. Before (setting_key l.id s.place) (setting_key l.id t.place))
      (λ t low. inl low) ss h.0),
  settings-ordered l ss h.1,
)

pub owed-rise : (a : Account) (l : Life) → SettingsRise l.settings → SettingsRise (owed_settings a l)
owed-rise a l h = settings-filter _ _ (settings-filter _ l.settings h)

replies-sets : (a : Account) (conn : ℕ) (l : Life) → SettingsRise l.settings
    → filter is_set (in_order (reply_keys a conn l)) ≡ keys_of l (owed_settings a l)
replies-sets a conn l h =
    filter-in_order is_set (reply_keys a conn l)
    ∙ ap in_order
    (filter-append is_set (map (λ p. publish_key l.id p.place) (owed_publishes a conn l))
    (keys_of l (owed_settings a l))
    ∙ ap (λ (w : List Key). w ++ filter is_set (keys_of l (owed_settings a l)))
    (sets-of-publishes l.id (owed_publishes a conn l))
    ∙ sets-of-settings l (owed_settings a l))
    ∙ in_order-same (keys_of l (owed_settings a l)) (settings-ordered l (owed_settings a l) (owed-rise a l h))

replies-are : (a : Account) (conn : ℕ) (l : Life) → AllByRecursion IsReply (in_order (reply_keys a conn l))
replies-are a conn l =
    each-in_order IsReply (reply_keys a conn l)
    (each-append IsReply (map (λ p. publish_key l.id p.place) (owed_publishes a conn l)) (keys_of l (owed_settings a l))
    (each-map IsReply (λ p. publish_key l.id p.place) (owed_publishes a conn l)
    (each-all _ (λ p. inl refl) (owed_publishes a conn l)))
    (each-map IsReply (λ s. setting_key l.id s.place) (owed_settings a l)
    (each-all _ (λ s. inr refl) (owed_settings a l))))

-- ---- announces of topics that are wanted

topics-fine : (a : Account) (conn : ℕ) (wish : Wanted) (l : Life) (m : State)
    → FineAll l m (topic_keys a conn wish l) × ((notes m (topic_keys a conn wish l)).pend ≡ m.pend)
topics-fine a conn wish l m = by (is_wish wish && not (is_announced a l.id) && is_empty (owed_publishes a conn l))
  where
    by : (b : Bool) → FineAll l m (cond b (topic_key l.id ∷ []) [])
        × ((notes m (cond b (topic_key l.id ∷ []) [])).pend ≡ m.pend)
    by true = ((tt, tt), refl)
    by false = (tt, refl)

-- the texts that are owed
abbrev pub living_texts : Account → ℕ → Wanted → Life → List Key
living_texts a conn wish l = in_order (reply_keys a conn l) ++ topic_keys a conn wish l

texts-fine : (a : Account) (conn : ℕ) (wish : Wanted) (l : Life) → SettingsRise l.settings
    → FineAll l (state_of a l) (living_texts a conn wish l)
    × ((notes (state_of a l) (living_texts a conn wish l)).pend ≡ [])
texts-fine a conn wish l h =
    let r = fine-replies l (state_of a l) (in_order (reply_keys a conn l)) (replies-are a conn l)
    (replies-sets a conn l h)
    (each-filter _ _ _ (each-filter _ _ l.settings (settings-found l.settings h))) in
    let t = topics-fine a conn wish l (notes (state_of a l) (in_order (reply_keys a conn l))) in (
      fine-append l (state_of a l) (in_order (reply_keys a conn l)) (topic_keys a conn wish l) r.0 t.0,
      ap (λ (m : State). m.pend) (notes-append (state_of a l) (in_order (reply_keys a conn l))
          (topic_keys a conn wish l)) ∙ t.1 ∙ r.1,
    )

-- texts leave the place of the last value as it is
next-texts : (m : State) (xs : List Key) → AllByRecursion (λ x. is_value x ≡ false) xs → (notes m xs).next ≡ m.next
next-texts m [] h = refl
next-texts m (x ∷ xs) h = next-texts (noted m x) xs h.1 ∙ at x.kind h.0
  where
    at : (kind : Kind) → is_kind kind Of_value ≡ false → (noted_at kind x.place m).next ≡ m.next
    at Of_end e = refl
    at Of_publish e = refl
    at Of_setting e = refl
    at Of_topic e = refl
    at Of_value e = absurd (true≢false e)

texts-texts : (a : Account) (conn : ℕ) (wish : Wanted) (l : Life)
    → AllByRecursion (λ x. is_value x ≡ false) (living_texts a conn wish l)
texts-texts a conn wish l =
    each-append (λ x. is_value x ≡ false) (in_order (reply_keys a conn l)) (topic_keys a conn wish l)
    (each-more IsReply (λ x. is_value x ≡ false) reply _ (replies-are a conn l))
    (by (is_wish wish && not (is_announced a l.id) && is_empty (owed_publishes a conn l)))
  where
    reply : (x : Key) → IsReply x → is_value x ≡ false
    reply x (inl k) = ap (λ kind. is_kind kind Of_value) k
    reply x (inr k) = ap (λ kind. is_kind kind Of_value) k

    by : (b : Bool) → AllByRecursion (λ x. is_value x ≡ false) (cond b (topic_key l.id ∷ []) [])
    by true = (refl, tt)
    by false = tt

-- a life that is wanted is announced by its texts, where it wasn't before
texts-show : (a : Account) (conn : ℕ) (wish : Wanted) (l : Life) → is_wish wish ≡ true
    → (notes (state_of a l) (living_texts a conn wish l)).shown ≡ true
texts-show a conn wish l w =
    shown-notes l.id (state_of a l) (living_texts a conn wish l) own
    ∙ by (is_announced a l.id) refl (owed_publishes a conn l) refl
  where
    replies : List Key
    replies = in_order (reply_keys a conn l)

    own : AreOf l.id (living_texts a conn wish l)
    own = each-append (λ x. x.topic ≡ l.id) replies (topic_keys a conn wish l)
        (each-in_order (λ x. x.topic ≡ l.id) (reply_keys a conn l) (replies-own a conn l))
        (topics-own a conn (λ m. wish) l)

    self : (l.id == l.id) ≡ true
    self = eq-eqb l.id l.id refl

    by : (b : Bool) → is_announced a l.id ≡ b → (ps : List Publishing) → owed_publishes a conn l ≡ ps
        → (is_announced a l.id || list_any (announces l.id) (living_texts a conn wish l)) ≡ true
    by true e ps f = or_left (is_announced a l.id) _ e
    by false e [] f =
        or_right (is_announced a l.id) _
        (list_any-append (announces l.id) replies (topic_keys a conn wish l)
        ∙ or_right (list_any (announces l.id) replies) _
        (ap (λ b. list_any (announces l.id) (cond b (topic_key l.id ∷ []) [])) test ∙ ap (λ b. b || false) self))
      where
        test : (is_wish wish && not (is_announced a l.id) && is_empty (owed_publishes a conn l)) ≡ true
        test =
            (λ i. w i && not (e i) && is_empty (f i))
    by false e (p ∷ ps) f =
        or_right (is_announced a l.id) _
        (list_any-append (announces l.id) replies (topic_keys a conn wish l)
        ∙ or_left (list_any (announces l.id) replies) _
        (any-in_order (announces l.id) (reply_keys a conn l)
        ∙ ap (λ qs. list_any (announces l.id)
        (map (λ q. publish_key l.id q.place) qs ++ keys_of l (owed_settings a l))) f
        ∙ ap (λ b. b || list_any (announces l.id)
        (map (λ q. publish_key l.id q.place) ps ++ keys_of l (owed_settings a l))) self))

-- ---- values

-- places rise from n on
abbrev pub PlacesRise : ℕ → List Put → Type 0
PlacesRise n [] = Unit {0}
PlacesRise n (p ∷ ps) = (n ≤ p.place) × PlacesRise (p.place + 1) ps

rise-above : (n : ℕ) (ps : List Put) → PlacesRise n ps → AllByRecursion (λ p. n ≤ p.place) ps
rise-above n [] h = tt
rise-above n (p ∷ ps) h =
    let low = h.0 in (
      h.0,
      each-more (λ q. p.place + 1 ≤ q.place) (λ q. n ≤ q.place) (λ q e. omega arith) ps
          (rise-above (p.place + 1) ps h.1),
    )

rise-last : (n : ℕ) (p : Put) (ps : List Put) → PlacesRise n ps → AllByRecursion (λ q. q.place < p.place) ps
    → n ≤ p.place
    → PlacesRise n (ps ++ p ∷ [])
rise-last n p [] h b low = (low, tt)
rise-last n p (q ∷ ps) h b low = let less = b.0 in (h.0, rise-last (q.place + 1) p ps h.1 b.1 (omega arith))

fall-rise : (n : ℕ) (ps : List Put) → PutsFall ps → AllByRecursion (λ p. n ≤ p.place) ps → PlacesRise n (reverse ps)
fall-rise n [] f h = tt
fall-rise n (p ∷ ps) f h =
    subst (PlacesRise n) (sym (reverse-append (p ∷ []) ps))
    (rise-last n p (reverse ps) (fall-rise n ps f.1 h.1) (each-reverse (λ q. q.place < p.place) ps f.0) h.0)

fall-filter : (test : Put → Bool) (ps : List Put) → PutsFall ps → PutsFall (filter test ps)
fall-filter test [] h = tt
fall-filter test (p ∷ ps) h = by (test p) (fall-filter test ps h.1)
  where
    by : (b : Bool) → PutsFall (filter test ps) → PutsFall (cond b (p ∷ filter test ps) (filter test ps))
    by true more = (each-filter (λ q. q.place < p.place) test ps h.0, more)
    by false more = more

-- the puts whose values are owed, oldest first
abbrev newest_put : ℕ → List Put → List Put
newest_put next [] = []
newest_put next (p ∷ ps) = cond (nat_le next p.place) (p ∷ []) []

abbrev from_put : ℕ → ℕ → Put → Bool
from_put next from p = nat_le next p.place && nat_le from p.place

abbrev after_put : ℕ → ℕ → Put → Bool
after_put next since p = nat_le next p.place && nat_lt since p.place

abbrev puts_by : Bool → Wanted → ℕ → ℕ → List Put → List Put
puts_by true No next since ps = []
puts_by true TopicOnly next since ps = []
puts_by true Newest next since ps = newest_put next ps
puts_by true All next since ps = reverse (filter (from_put next (place_by since ps)) ps)
puts_by false wish next since ps = cond (is_valued wish) (reverse (filter (after_put next since) ps)) []

abbrev puts_owed : Account → Wanted → ℕ → Life → List Put
puts_owed a wish since l = puts_by (is_cached l.props) wish (next_value a.given l.id) since (taken_since_turn l)

abbrev put_keys : Life → List Put → List Key
put_keys l ps = map (λ p. value_key l.id p.place) ps

-- those have places from next on
puts-rise : (b : Bool) (wish : Wanted) (next since : ℕ) (ps : List Put) → PutsFall ps
    → PlacesRise next (puts_by b wish next since ps)
puts-rise true No next since ps f = tt
puts-rise true TopicOnly next since ps f = tt
puts-rise true Newest next since [] f = tt
puts-rise true Newest next since (p ∷ ps) f = by (nat_le next p.place) refl
  where
    by : (b : Bool) → nat_le next p.place ≡ b → PlacesRise next (cond b (p ∷ []) [])
    by true e = (leb-true next p.place e, tt)
    by false e = tt
puts-rise true All next since ps f =
    fall-rise next _ (fall-filter test ps f)
    (each-more (λ p. test p ≡ true) (λ p. next ≤ p.place) (λ p e. leb-true next p.place (and_parts _ _ e).0) _
    (each-passes test ps))
  where
    test : Put → Bool
    test p = from_put next (place_by since ps) p
puts-rise false wish next since ps f = by (is_valued wish)
  where
    test : Put → Bool
    test p = after_put next since p

    by : (b : Bool) → PlacesRise next (cond b (reverse (filter test ps)) [])
    by true =
        fall-rise next _ (fall-filter test ps f)
        (each-more (λ p. test p ≡ true) (λ p. next ≤ p.place) (λ p e. leb-true next p.place (and_parts _ _ e).0) _
        (each-passes test ps))
    by false = tt

-- and what each put has
puts-each : (P : Put → Type 0) (b : Bool) (wish : Wanted) (next since : ℕ) (ps : List Put) → AllByRecursion P ps
    → AllByRecursion P (puts_by b wish next since ps)
puts-each P true No next since ps f = tt
puts-each P true TopicOnly next since ps f = tt
puts-each P true Newest next since [] f = tt
puts-each P true Newest next since (p ∷ ps) f = by (nat_le next p.place)
  where
    by : (b : Bool) → AllByRecursion P (cond b (p ∷ []) [])
    by true = (f.0, tt)
    by false = tt
puts-each P true All next since ps f = each-reverse P _ (each-filter P (from_put next (place_by since ps)) ps f)
puts-each P false wish next since ps f = by (is_valued wish)
  where
    by : (b : Bool) → AllByRecursion P (cond b (reverse (filter (after_put next since) ps)) [])
    by true = each-reverse P _ (each-filter P (after_put next since) ps f)
    by false = tt

puts-ordered : (l : Life) (n : ℕ) (ps : List Put) → PlacesRise n ps → Ordered (put_keys l ps)
puts-ordered l n [] h = tt
puts-ordered l n (p ∷ ps) h = (
  each-map (Before (value_key l.id p.place)) (λ q. value_key l.id q.place) ps
      (each-more (λ q. p.place + 1 ≤ q.place) (λ q. Before (value_key l.id p.place) (value_key l.id q.place))
      (λ q low. inl (omega arith)) ps
      (rise-above (p.place + 1) ps h.1)),
  puts-ordered l (p.place + 1) ps h.1,
)

-- the keys of the values that are owed
abbrev pub living_values : Account → Wanted → ℕ → Life → List Key
living_values a wish since l = in_order (value_keys a wish since l) ++ newest_keys a wish l

values-are : (a : Account) (wish : Wanted) (since : ℕ) (l : Life) → PutsFall l.puts
    → living_values a wish since l ≡ put_keys l (puts_owed a wish since l)
values-are a wish since l fall = by (is_cached l.props)
  where
    next : ℕ
    next = next_value a.given l.id

    ps : List Put
    ps = taken_since_turn l

    falls : PutsFall ps
    falls = fall-since l fall

    nil : (ks : List Key) → ks ++ [] ≡ ks
    nil [] = refl
    nil (k ∷ ks) = ap (λ (w : List Key). k ∷ w) (nil ks)

    newest : (qs : List Put) → [] ++ map (value_key l.id) (option_items (newest_from next qs))
        ≡ put_keys l (newest_put next qs)
    newest [] = refl
    newest (p ∷ qs) = one (nat_le next p.place)
      where
        one : (c : Bool) → [] ++ map (value_key l.id) (option_items (cond c (Some p.place) None))
            ≡ put_keys l (cond c (p ∷ []) [])
        one true = refl
        one false = refl

    on : (w : Wanted) → in_order (put_keys l (owed_cached a w since l)) ++ map (value_key l.id)
        (option_items (newest_for a w l))
        ≡ put_keys l (puts_by true w next since ps)
    on No = refl
    on TopicOnly = refl
    on Newest = newest ps
    on All = nil _ ∙ in_order-same _ (puts-ordered l next _ (puts-rise true All next since ps falls))

    by : (b : Bool)
        → in_order (put_keys l (cond b (owed_cached a wish since l) (owed_uncached a wish since l)))
        ++ map (value_key l.id) (option_items (cond b (newest_for a wish l) None))
        ≡ put_keys l (puts_by b wish next since ps)
    by true = on wish
    by false = nil _ ∙ in_order-same _ (puts-ordered l next _ (puts-rise false wish next since ps falls))

fine-values : (l : Life) (m : State) (ps : List Put) → m.shown ≡ true → m.pend ≡ [] → PlacesRise m.next ps
    → AllByRecursion (IsTakenOf l) ps → FineAll l m (put_keys l ps)
fine-values l m [] s e r f = tt
fine-values l m (p ∷ ps) s e r f = (
  (p, f.0.0.0, s, e, r.0, f.0.0.1, f.0.1),
  fine-values l (noted_at Of_value p.place m) ps s e
      (subst (λ n. PlacesRise n ps) (sym (last m.next p.place r.0)) r.1) f.1,
)
  where
    last : (n place : ℕ) → n ≤ place → max n (place + 1) ≡ place + 1
    last n place low = omega arith

-- values leave all else as it is
values-note : (l : Life) (m : State) (ps : List Put) → ((notes m (put_keys l ps)).shown ≡ m.shown)
    × ((notes m (put_keys l ps)).pend ≡ m.pend)
values-note l m [] = (refl, refl)
values-note l m (p ∷ ps) = values-note l (noted_at Of_value p.place m) ps

-- those that aren't wanted are none
unwanted : (b : Bool) (wish : Wanted) (next since : ℕ) (ps : List Put) → is_valued wish ≡ false
    → puts_by b wish next since ps ≡ []
unwanted true No next since ps e = refl
unwanted true TopicOnly next since ps e = refl
unwanted true Newest next since ps e = absurd (true≢false e)
unwanted true All next since ps e = absurd (true≢false e)
unwanted false wish next since ps e = ap (λ b. cond b (reverse (filter (after_put next since) ps)) []) e

pub valued-wish : (wish : Wanted) → is_valued wish ≡ true → is_wish wish ≡ true
valued-wish No e = e
valued-wish TopicOnly e = refl
valued-wish Newest e = refl
valued-wish All e = refl

-- ---- all that is owed of the life

pub own-fine : (a : Account) (conn : ℕ) (wish : Wanted) (since : ℕ) (l : Life) → HasPlaces l
    → FineAll l (state_of a l) (living_keys a conn wish since l)
own-fine a conn wish since l h =
    fine-append l (state_of a l) (living_texts a conn wish l) (living_values a wish since l) t.0
    (subst (FineAll l after) (sym (values-are a wish since l h.puts_fall)) (by (is_valued wish) refl))
  where
    t : FineAll l (state_of a l) (living_texts a conn wish l)
        × ((notes (state_of a l) (living_texts a conn wish l)).pend ≡ [])
    t = texts-fine a conn wish l h.settings_rise

    after : State
    after = notes (state_of a l) (living_texts a conn wish l)

    ps : List Put
    ps = puts_owed a wish since l

    by : (b : Bool) → is_valued wish ≡ b → FineAll l after (put_keys l ps)
    by true e =
        fine-values l after ps (texts-show a conn wish l (valued-wish wish e)) t.1
        (subst (λ n. PlacesRise n ps) (sym
        (next-texts (state_of a l) (living_texts a conn wish l) (texts-texts a conn wish l)))
        (puts-rise (is_cached l.props) wish (next_value a.given l.id) since (taken_since_turn l)
        (fall-since l h.puts_fall)))
        (puts-each (IsTakenOf l) (is_cached l.props) wish (next_value a.given l.id) since (taken_since_turn l)
        (takens-of l h))
    by false e =
        subst (λ qs. FineAll l after (put_keys l qs))
        (sym (unwanted (is_cached l.props) wish (next_value a.given l.id) since (taken_since_turn l) e)) tt

-- after them a life that is wanted is announced, no change of properties is to come, and the last value that was taken
-- of a
-- cached topic was handed
place_by-low : (since n : ℕ) (ps : List Put) → AllByRecursion (λ p. p.place < n) ps → place_by since ps ≤ n
place_by-low since n [] h = omega arith
place_by-low since n (p ∷ ps) h = by (nat_le p.place since) (place_by-low since n ps h.1)
  where
    by : (b : Bool) → place_by since ps ≤ n → cond b p.place (place_by since ps) ≤ n
    by true r = let low = h.0 in omega arith
    by false r = r

place_by-first : (since : ℕ) (p : Put) (ps : List Put) → AllByRecursion (λ q. q.place < p.place) ps
    → place_by since (p ∷ ps) ≤ p.place
place_by-first since p ps h = by (nat_le p.place since) (place_by-low since p.place ps h)
  where
    by : (b : Bool) → place_by since ps ≤ p.place → cond b p.place (place_by since ps) ≤ p.place
    by true r = omega arith
    by false r = r

next-grows : (l : Life) (m : State) (ps : List Put) → m.next ≤ (notes m (put_keys l ps)).next
next-grows l m [] = omega arith
next-grows l m (p ∷ ps) = let more = next-grows l (noted_at Of_value p.place m) ps in omega arith

last-noted : (l : Life) (m : State) (ps : List Put) (p : Put) → p.place + 1 ≤ (notes m (put_keys l (ps ++ p ∷ []))).next
last-noted l m [] p = omega arith
last-noted l m (q ∷ ps) p = last-noted l (noted_at Of_value q.place m) ps p

reach : (l : Life) (m : State) (wish : Wanted) (since : ℕ) (p : Put) (ps : List Put) → PutsFall (p ∷ ps)
    → is_valued wish ≡ true
    → p.place + 1 ≤ (notes m (put_keys l (puts_by true wish m.next since (p ∷ ps)))).next
reach l m No since p ps f w = absurd (true≢false (sym w))
reach l m TopicOnly since p ps f w = absurd (true≢false (sym w))
reach l m Newest since p ps f w = by (nat_le m.next p.place) refl
  where
    by : (b : Bool) → nat_le m.next p.place ≡ b → p.place + 1 ≤ (notes m (put_keys l (cond b (p ∷ []) []))).next
    by true e = omega arith
    by false e = grind (arith, nat_tests)
reach l m All since p ps f w = by (nat_le m.next p.place) refl
  where
    from : ℕ
    from = place_by since (p ∷ ps)

    rest : List Put
    rest = filter (from_put m.next from) ps

    first : nat_le from p.place ≡ true
    first = le-leb from p.place (place_by-first since p ps f.0)

    by : (b : Bool) → nat_le m.next p.place ≡ b
        → p.place + 1 ≤ (notes m (put_keys l (reverse (filter (from_put m.next from) (p ∷ ps))))).next
    by true e =
        subst (λ qs. p.place + 1 ≤ (notes m (put_keys l qs)).next)
        (sym (ap (λ b. reverse (cond b (p ∷ rest) rest)) (and_from _ _ e first) ∙ reverse-append (p ∷ []) rest))
        (last-noted l m (reverse rest) p)
    by false e =
        let past : p.place + 1 ≤ m.next = grind (arith, nat_tests) in
        let more = next-grows l m (reverse (filter (from_put m.next from) (p ∷ ps))) in
        omega arith

pub record IsDone (wish : Wanted) (l : Life) (m : State) : Type 0 where
  pub shown : is_wish wish ≡ true → m.shown ≡ true
  pub pend : m.pend ≡ []
  pub reached : is_valued wish ≡ true → is_cached l.props ≡ true → (p : Put) (ps : List Put)
      → taken_since_turn l ≡ p ∷ ps → p.place + 1 ≤ m.next

pub own-done : (a : Account) (conn : ℕ) (wish : Wanted) (since : ℕ) (l : Life) → HasPlaces l
    → IsDone wish l (notes (state_of a l) (living_keys a conn wish since l))
own-done a conn wish since l h =
    subst (IsDone wish l) (sym (notes-append (state_of a l) (living_texts a conn wish l)
    (living_values a wish since l)))
    (subst (λ ks. IsDone wish l (notes after ks)) (sym (values-are a wish since l h.puts_fall)) done)
  where
    after : State
    after = notes (state_of a l) (living_texts a conn wish l)

    ps : List Put
    ps = puts_owed a wish since l

    next : after.next ≡ next_value a.given l.id
    next = next-texts (state_of a l) (living_texts a conn wish l) (texts-texts a conn wish l)

    done : IsDone wish l (notes after (put_keys l ps))
    done = record {
      shown = λ w. (values-note l after ps).0 ∙ texts-show a conn wish l w;
      pend = (values-note l after ps).1 ∙ (texts-fine a conn wish l h.settings_rise).1;
      reached = λ w c p qs e.
          subst (λ n. p.place + 1 ≤ (notes after
          (put_keys l (puts_by (is_cached l.props) wish n since (taken_since_turn l)))).next) next
          (subst (λ b. p.place + 1 ≤ (notes after
          (put_keys l (puts_by b wish after.next since (taken_since_turn l)))).next) (sym c)
          (subst (λ rs. p.place + 1 ≤ (notes after (put_keys l (puts_by true wish after.next since rs))).next) (sym e)
          (reach l after wish since p qs (subst PutsFall e (fall-since l h.puts_fall)) w)));
    }
