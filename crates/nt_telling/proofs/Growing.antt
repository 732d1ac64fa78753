-- What an entry makes of a life, and what a client holds of the life then.
use Rattle.std.proofs.Common.{◌≡◌, ℕ, pos, ◌≤◌, ◌<◌, ◌&&◌, not, nat_le, nat_lt, Bool, true, false, cond, List, [], ◌∷◌}
use Rattle.std.proofs.Common.{◌++◌, Option, Some, None, refl, sym, ap, subst, ◌∙◌, ◌⊎◌, inl, inr, arith}
use Rattle.std.specs.List.{list_all}
use Rattle.std.proofs.lemmas.Bool.{true≢false, cases_Bool, and_parts, and_right, ne_eqb}
use Rattle.std.proofs.lemmas.Bool.Decides.{nat_tests}
use Rattle.std.proofs.lemmas.List.{map-append}
use Rattle.serde_json.specs.Data.{Data}
use Rattle.nt_topics.specs.Properties.{updated, is_cached}
use Rattle.nt_rules.specs.declared.held.Held.{Held}
use Rattle.nt_rules.specs.declared.topic.Timed.{Timed}
use Rattle.nt_rules.specs.topics.Puts.{Put, taken}
use Rattle.nt_rules.specs.topics.Topics.{is_turned}
use Rattle.nt_rules.specs.outbox.Marks.{is_meta}
use Rattle.nt_rules.specs.history.Lives.{Life, Setting, taken_since_turn, turned_at, with_setting}
use Rattle.nt_topics.specs.Trees.{IsOrdered}
use Rattle.nt_telling.proofs.Updates.{applied, applied-append, ordered-updated}
use Rattle.nt_telling.proofs.Cached.{AllCached, Drops, ValueOk, cached-more, drops-more, drops-last}
use Rattle.nt_telling.proofs.Messages.{put_at}
use Rattle.nt_telling.proofs.Living.{State, BoundBy, IsBounded, FitsPut, Fits, is_now, HeldOk, ShownBy, ShownOk}
use Rattle.nt_telling.proofs.Living.{updates}
use Rattle.nt_laws.proofs.topics.Turns.{unturned}

-- ---- an entry that leaves the properties of a life as they are

-- the life stays as it is, but for publishers, and for puts at this place
pub record Stays (place : ℕ) (l l' : Life) : Type 0 where
  pub id_is : l'.id ≡ l.id
  pub name_is : l'.name ≡ l.name
  pub typ_is : l'.typ ≡ l.typ
  pub props_is : l'.props ≡ l.props
  pub turn_is : l'.turn ≡ l.turn
  pub settings_is : l'.settings ≡ l.settings
  pub puts_are : (q : ℕ) → q < place → (put_at q l' ≡ put_at q l) ⊎ (put_at q l' ≡ None)
  pub bounded : (next : ℕ) → next ≤ place → IsBounded l next → IsBounded l' next

pub stays-same : (place : ℕ) (l : Life) → Stays place l l
stays-same place l = record {
  id_is = refl;
  name_is = refl;
  typ_is = refl;
  props_is = refl;
  turn_is = refl;
  settings_is = refl;
  puts_are = λ q low. inl refl;
  bounded = λ next low h. h;
}

-- one put more, at this place
put-bounded : (place next turn : ℕ) (cached : Bool) (p : Put) (ps : List Put) → p.place ≡ place → next ≤ place
    → BoundBy turn next (cond cached (taken ps) ps)
    → BoundBy turn next (cond cached (taken (p ∷ ps)) (p ∷ ps))
put-bounded place next turn false p ps e low h = omega arith
put-bounded place next turn true p ps e low h = by (list_all (λ q. nat_le q.time p.time) ps)
  where
    by : (b : Bool) → BoundBy turn next (cond b (p ∷ taken ps) (taken ps))
    by true = omega arith
    by false = h

pub stays-put : (place : ℕ) (p : Put) (l : Life) → p.place ≡ place → Stays place l (record l { puts = p ∷ l.puts })
stays-put place p l e = record {
  id_is = refl;
  name_is = refl;
  typ_is = refl;
  props_is = refl;
  turn_is = refl;
  settings_is = refl;
  puts_are = λ q low. inl (ap (λ b. cond b (Some p) (put_at q l)) (ne_eqb p.place q (λ f. absurd (omega arith))));
  bounded = λ next low h. put-bounded place next l.turn (is_cached l.props) p l.puts e low h;
}

-- what is told of the life goes on being right
now-stays : (place : ℕ) (l l' : Life) (next : ℕ) → Stays place l l' → is_now l' next ≡ is_now l next
now-stays place l l' next s =
    ap (λ p. is_cached p && nat_lt l'.turn next) s.props_is ∙ ap (λ t. is_cached l.props && nat_lt t next) s.turn_is

fits-stays : (place : ℕ) (l l' : Life) (next : ℕ) (v : Option Timed) → Stays place l l' → next ≤ place → Fits l next v
    → Fits l' next v
fits-stays place l l' next v s low f q e =
    subst (λ i. FitsPut (is_meta i) (put_at q l') v) (sym s.id_is) (by (s.puts_are q (omega arith)))
  where
    by : (put_at q l' ≡ put_at q l) ⊎ (put_at q l' ≡ None) → FitsPut (is_meta l.id) (put_at q l') v
    by (inl h) = subst (λ o. FitsPut (is_meta l.id) o v) (sym h) (f q e)
    by (inr h) = subst (λ o. FitsPut (is_meta l.id) o v) (sym h) (none (is_meta l.id))
      where
        none : (b : Bool) → FitsPut b None v
        none b = tt

held-stays : (place : ℕ) (l l' : Life) (next : ℕ) (us : List Data) (h : Held) → Stays place l l' → next ≤ place
    → HeldOk l next us h → HeldOk l' next us h
held-stays place l l' next us h s low k = record {
  id_is = k.id_is ∙ ap pos (sym s.id_is);
  name_is = k.name_is ∙ sym s.name_is;
  typ_is = k.typ_is ∙ sym s.typ_is;
  ordered = k.ordered;
  follows = k.follows ∙ sym s.props_is;
  value_ok = record {
    is_now = λ e.
        let n = k.value_ok.is_now (sym (now-stays place l l' next s) ∙ e) in
        (fits-stays place l l' next h.value s low n.0, n.1);
    not_now = λ e. k.value_ok.not_now (sym (now-stays place l l' next s) ∙ e);
    uncached = k.value_ok.uncached;
  };
}

pub shown-stays : (place : ℕ) (l l' : Life) (m : State) (s : Option Held) → Stays place l l' → m.next ≤ place
    → ShownOk l m s → ShownOk l' m s
shown-stays place l l' m s st low h = by m.shown h
  where
    by : (b : Bool) → ShownBy b l m.next (updates m.pend) s → ShownBy b l' m.next (updates m.pend) s
    by false k = (k.0, k.1, k.2, k.3, k.4 ∙ sym st.props_is)
    by true k = (k.0, k.1, held-stays place l l' m.next (updates m.pend) k.0 st low k.2)

-- ---- a life that begins

pub shown-born : (l : Life) (m : State) (s : Option Held) → m.shown ≡ false → m.next ≡ 0 → m.pend ≡ [] → s ≡ None
    → IsOrdered l.props
    → ShownOk l m s
shown-born l m s hidden next pend none ordered =
    subst (λ b. ShownBy b l m.next (updates m.pend) s) (sym hidden)
    (none, next, l.props, ordered, ap (λ ss. applied (updates ss) l.props) pend)

pub bounded-zero : (l : Life) → IsBounded l 0
bounded-zero l = by (taken_since_turn l)
  where
    by : (ps : List Put) → BoundBy l.turn 0 ps
    by [] = omega arith
    by (p ∷ ps) = omega arith

-- ---- a change of properties

turned-off : (before after : Data) → is_turned before after ≡ true → is_cached before ≡ true → is_cached after ≡ false
turned-off before after e on = by (is_cached before) (is_cached after) e on
  where
    by : (b a : Bool) → cond b (not a) a ≡ true → b ≡ true → a ≡ false
    by true false e on = refl
    by true true e on = absurd (true≢false (sym e))
    by false a e on = absurd (true≢false (sym on))

-- the last of updates that leave it cached
cached-last : (us : List Data) (p : Data) → AllCached us p → is_cached (applied us p) ≡ true
cached-last [] p h = h
cached-last (u ∷ us) p h = cached-last us (updated p u) h.1

module _ (place conn : ℕ) (u : Data) (l : Life) where
  abbrev new : Setting
  new = record { place = place; conn = conn; update = u }

  abbrev with_change : Life → Life
  with_change m = record m {
    props = updated l.props u;
    settings =
        l.settings ++ record { place = place; conn = conn; update = u } ∷ [];
  }

  -- where it turns, no value counts that was handed; where it doesn't, the value stays or goes with the updates to come
  set-value : (next : ℕ) (us : List Data) (p : Data) (v : Option Timed) → next ≤ place → applied us p ≡ l.props
      → ValueOk (is_now l next) (Fits l next) us p v → (b : Bool) → is_turned l.props (updated l.props u) ≡ b
      → ValueOk (is_now (with_change (cond b (turned_at place l) l)) next)
      (Fits (with_change (cond b (turned_at place l) l)) next) (us ++ u ∷ []) p v
  set-value next us p v low follows k true e = record {
    is_now = λ f. absurd (true≢false (sym f ∙ off));
    not_now = λ f. by (cases_Bool (is_now l next));
    uncached = k.uncached;
  }
    where
      off : (is_cached (updated l.props u) && nat_lt place next) ≡ false
      off = and_right (is_cached (updated l.props u)) (nat_lt place next) (not-below place next low)
        where
          not-below : (a b : ℕ) → b ≤ a → nat_lt a b ≡ false
          not-below a b h = grind (arith, nat_tests)

      last : applied (us ++ u ∷ []) p ≡ updated l.props u
      last = applied-append us (u ∷ []) p ∙ ap (λ d. updated d u) follows

      by : (is_now l next ≡ true) ⊎ (is_now l next ≡ false) → (v ≡ None) ⊎ Drops (us ++ u ∷ []) p
      by (inl n) =
          let on : is_cached l.props ≡ true = (and_parts (is_cached l.props) (nat_lt l.turn next) n).0 in
          inr (drops-last us u p (ap is_cached last ∙ turned-off l.props (updated l.props u) e on))
      by (inr n) = none (k.not_now n)
        where
          none : (v ≡ None) ⊎ Drops us p → (v ≡ None) ⊎ Drops (us ++ u ∷ []) p
          none (inl x) = inl x
          none (inr x) = inr (drops-more us (u ∷ []) p x)
  set-value next us p v low follows k false e = record {
    is_now = λ f.
        let n = k.is_now (sym same ∙ f) in
        let on : is_cached (updated l.props u) ≡ true =
        (and_parts (is_cached (updated l.props u)) (nat_lt l.turn next) f).0 in
        (n.0, cached-more us u p n.1 (ap is_cached last ∙ on));
    not_now = λ f. none (k.not_now (sym same ∙ f));
    uncached = k.uncached;
  }
    where
      same : (is_cached (updated l.props u) && nat_lt l.turn next) ≡ is_now l next
      same = ap (λ b. b && nat_lt l.turn next) (unturned l.props (updated l.props u) e)

      last : applied (us ++ u ∷ []) p ≡ updated l.props u
      last = applied-append us (u ∷ []) p ∙ ap (λ d. updated d u) follows

      none : (v ≡ None) ⊎ Drops us p → (v ≡ None) ⊎ Drops (us ++ u ∷ []) p
      none (inl x) = inl x
      none (inr x) = inr (drops-more us (u ∷ []) p x)

  set-held : (next : ℕ) (us : List Data) (h : Held) → next ≤ place → HeldOk l next us h → (b : Bool)
      → is_turned l.props (updated l.props u) ≡ b
      → HeldOk (with_change (cond b (turned_at place l) l)) next (us ++ u ∷ []) h
  set-held next us h low k true e = record {
    id_is = k.id_is;
    name_is = k.name_is;
    typ_is = k.typ_is;
    ordered = k.ordered;
    follows = applied-append us (u ∷ []) h.props ∙ ap (λ d. updated d u) k.follows;
    value_ok = set-value next us h.props h.value low k.follows k.value_ok true e;
  }
  set-held next us h low k false e = record {
    id_is = k.id_is;
    name_is = k.name_is;
    typ_is = k.typ_is;
    ordered = k.ordered;
    follows = applied-append us (u ∷ []) h.props ∙ ap (λ d. updated d u) k.follows;
    value_ok = set-value next us h.props h.value low k.follows k.value_ok false e;
  }

  props-set : (b : Bool) → (with_change (cond b (turned_at place l) l)).props ≡ updated l.props u
  props-set true = refl
  props-set false = refl

  -- one of which the client is told
  pub shown-set : (m : State) (s : Option Held) → m.next ≤ place → ShownOk l m s
      → ShownOk (with_setting place conn u l)
      (record m { pend = m.pend ++ record { place = place; conn = conn; update = u } ∷ [] }) s
  shown-set m s low h =
      subst (λ us. ShownBy m.shown (with_setting place conn u l) m.next us s)
      (sym (map-append (λ (x : Setting). x.update) m.pend (new ∷ [])))
      (by (is_turned l.props (updated l.props u)) refl m.shown h)
    where
      by : (t : Bool) → is_turned l.props (updated l.props u) ≡ t → (b : Bool) → ShownBy b l m.next (updates m.pend) s
          → ShownBy b (with_change (cond t (turned_at place l) l)) m.next (updates m.pend ++ u ∷ []) s
      by t e false k = (
        k.0,
        k.1,
        k.2,
        k.3,
        applied-append (updates m.pend) (u ∷ []) k.2 ∙ ap (λ d. updated d u) k.4
            ∙ sym (props-set t),
      )
      by t e true k = (k.0, k.1, set-held m.next (updates m.pend) k.0 low k.2 t e)

  -- one of which it isn't, for nothing was announced and nothing is to come
  pub shown-unset : (m : State) (s : Option Held) → IsOrdered l.props → m.shown ≡ false → m.pend ≡ [] → ShownOk l m s
      → ShownOk (with_setting place conn u l) m s
  shown-unset m s ordered hidden none h =
      subst (λ b. ShownBy b (with_setting place conn u l) m.next (updates m.pend) s) (sym hidden) (
        k.0,
        k.1,
        updated l.props u,
        ordered-updated l.props u ordered,
        ap (λ ss. applied (updates ss) (updated l.props u)) none
            ∙ sym (props-set (is_turned l.props (updated l.props u))),
      )
    where
      k : ShownBy false l m.next (updates m.pend) s
      k = subst (λ b. ShownBy b l m.next (updates m.pend) s) hidden h

  pub bounded-set : (next : ℕ) → next ≤ place → IsBounded l next → IsBounded (with_setting place conn u l) next
  bounded-set next low h = by (is_turned l.props (updated l.props u)) refl
    where
      empty : (b : Bool) → BoundBy place next (cond b (taken []) [])
      empty true = low
      empty false = low

      by : (t : Bool) → is_turned l.props (updated l.props u) ≡ t
          → IsBounded (with_change (cond t (turned_at place l) l)) next
      by true e = empty (is_cached (updated l.props u))
      by false e =
          subst (λ b. BoundBy l.turn next (cond b (taken l.puts) l.puts))
          (sym (unturned l.props (updated l.props u) e)) h

  pub ordered-set : IsOrdered l.props → IsOrdered (with_setting place conn u l).props
  ordered-set h =
      subst IsOrdered (sym (props-set (is_turned l.props (updated l.props u)))) (ordered-updated l.props u h)
