-- The held value, the values taken, and the puts that a topic got.
use Rattle.std.proofs.Common.{◌≡◌, ◌≤◌, ◌&&◌, ◌++◌, ℕ, Bool, true, false, cond, ltb, leb, List, [], ◌∷◌, Option, Some}
use Rattle.std.proofs.Common.{None, option_map, map, filter, refl, sym, ◌∙◌, ap, subst, arith, inl, inr, ⊎_elim}
use Rattle.std.specs.Prelude.{not}
use Rattle.std.proofs.lemmas.Bool.Decides.{nat_tests}
use Rattle.std.specs.List.{list_all}
use Rattle.nt_topics.specs.Properties.{is_cached}
use Rattle.nt_rules.specs.declared.topic.Timed.{Timed}
use Rattle.nt_rules.specs.declared.topic.Topic.{Topic}
use Rattle.nt_rules.specs.declared.topic.Cause.{Cause}
use Rattle.nt_rules.specs.declared.topic.Cause.TheVariants.{OtherType, Older}
use Rattle.nt_rules.specs.topics.Topics.{is_fit, is_older, put_cause_to, with_value, if_counts}
use Rattle.nt_rules.specs.topics.Puts.{Put, Sent, greater, greatest, taken, newest, timed, held, IsIn}
use Rattle.nt_rules.specs.topics.Puts.{HasDifferentTimes, HasSameMembers, put_to, after_puts, fitting}

abbrev is_under : ℕ → Option Put → Bool
is_under t None = true
is_under t (Some g) = leb g.time t

-- all are at most t where the greatest is
all-under : (t : ℕ) (ps : List Put) → list_all (λ q. leb q.time t) ps ≡ is_under t (greatest ps)
all-under t [] = refl
all-under t (q ∷ qs) = ap (λ b. leb q.time t && b) (all-under t qs) ∙ by (greatest qs)
  where
    tests_of : (a b : ℕ) → (leb a t && leb b t) ≡ cond (ltb a b) (leb b t) (leb a t)
    tests_of a b = grind (arith, nat_tests)

    either : (g : Put) (b : Bool) → cond b (leb g.time t) (leb q.time t) ≡ leb (cond b g q).time t
    either g true = refl
    either g false = refl

    by : (g : Option Put) → (leb q.time t && is_under t g) ≡ is_under t (Some (greater q g))
    by None = grind (arith, nat_tests)
    by (Some g) = tests_of q.time g.time ∙ either g (ltb q.time g.time)

-- the last taken is the held one
pub last-taken : (ps : List Put) → newest (taken ps) ≡ greatest ps
last-taken [] = refl
last-taken (p ∷ ps) =
    ap (λ b. newest (cond b (p ∷ taken ps) (taken ps))) (all-under p.time ps) ∙ by (greatest ps) (last-taken ps)
  where
    other : (a b : ℕ) → ltb a b ≡ not (leb b a)
    other a b = grind (arith, nat_tests)

    swap : (b d : Bool) → d ≡ not b → (g : Put) → newest (taken ps) ≡ Some g
        → newest (cond b (p ∷ taken ps) (taken ps)) ≡ Some (cond d g p)
    swap true d h g e = ap (λ d. Some (cond d g p)) (sym h)
    swap false d h g e = e ∙ ap (λ d. Some (cond d g p)) (sym h)

    by : (g : Option Put) → newest (taken ps) ≡ g
        → newest (cond (is_under p.time g) (p ∷ taken ps) (taken ps)) ≡ Some (greater p g)
    by None e = refl
    by (Some g) e = swap (leb g.time p.time) (ltb p.time g.time) (other p.time g.time) g e

-- one of these puts has this time and value, and no other has a greater time
record IsGreatest (v : Timed) (ps : List Put) : Type 0 where
  is_in : IsIn v ps
  is_most : (u : Timed) → IsIn u ps → u.time ≤ v.time

abbrev IfGreatest : List Put → Option Put → Type 0
IfGreatest ps None = (v : Timed) → IsIn v ps → ⊥
IfGreatest ps (Some p) = IsGreatest (timed p) ps

-- the greatest is such a put, and there is none only among no puts
greatest-is : (ps : List Put) → IfGreatest ps (greatest ps)
greatest-is [] = λ v h. h
greatest-is (p ∷ ps) = by (greatest ps) (greatest-is ps)
  where
    most : (t : ℕ) → p.time ≤ t → ((u : Timed) → IsIn u ps → u.time ≤ t)
        → (u : Timed) → IsIn u (p ∷ ps) → u.time ≤ t
    most t here later u i =
        ⊎_elim (λ same. subst (λ (r : Timed). r.time ≤ t) (sym same) here) (λ m. later u m) i

    pick : (g : Put) → IsGreatest (timed g) ps → (b : Bool) → ltb p.time g.time ≡ b
        → IsGreatest (timed (cond b g p)) (p ∷ ps)
    pick g h true e =
        let less : p.time ≤ g.time = grind (arith, nat_tests) in
        record { is_in = inr h.is_in; is_most = most g.time less h.is_most }
    pick g h false e =
        let less : g.time ≤ p.time = grind (arith, nat_tests) in
        record {
          is_in = inl refl;
          is_most = most p.time (omega arith) (λ u m. let le = h.is_most u m in omega arith);
        }

    by : (g : Option Put) → IfGreatest ps g → IsGreatest (timed (greater p g)) (p ∷ ps)
    by None none =
        record { is_in = inl refl; is_most = most p.time (omega arith) (λ u m. absurd (none u m)) }
    by (Some g) h = pick g h (ltb p.time g.time) refl

-- puts of different times with the same times and values hold the same
pub same-held : (ps qs : List Put) → HasDifferentTimes ps → HasSameMembers ps qs → held ps ≡ held qs
same-held ps qs differ same = by (greatest ps) (greatest-is ps) (greatest qs) (greatest-is qs)
  where
    by : (g : Option Put) → IfGreatest ps g → (h : Option Put) → IfGreatest qs h
        → option_map timed g ≡ option_map timed h
    by None a None b = refl
    by None a (Some q) b = absurd (a (timed q) ((same (timed q)).1 b.is_in))
    by (Some p) a None b = absurd (b (timed p) ((same (timed p)).0 a.is_in))
    by (Some p) a (Some q) b =
        let up = b.is_most (timed p) ((same (timed p)).0 a.is_in) in
        let down = a.is_most (timed q) ((same (timed q)).1 b.is_in) in
        ap Some (differ (timed p) (timed q) a.is_in ((same (timed q)).1 b.is_in) (omega arith))

-- ---- puts to a topic

-- what holds whether a topic is cached or not
valued-by : (s : Sent) (t : Topic) (P : Topic → Type 0)
    → P (record t { value = Some (timed s.put) }) → P t → P (with_value s.put.time s.put.value t)
valued-by s t P valued same = by (is_cached t.props)
  where
    by : (b : Bool) → P (cond b (record t { value = Some (timed s.put) }) t)
    by true = valued
    by false = same

-- a put changes the value alone, and so neither the type nor the publishers
put-fits : (s r : Sent) (t : Topic) → is_fit r.conn r.uid r.put.value (put_to s t) ≡ is_fit r.conn r.uid r.put.value t
put-fits s r t = by (put_cause_to s.conn s.uid s.put.time s.put.value t)
  where
    by : (cause : Option Cause)
        → is_fit r.conn r.uid r.put.value (if_counts cause (with_value s.put.time s.put.value t) t)
        ≡ is_fit r.conn r.uid r.put.value t
    by None =
        valued-by s t (λ (u : Topic). is_fit r.conn r.uid r.put.value u ≡ is_fit r.conn r.uid r.put.value t) refl refl
    by (Some cause) = refl

after-fits : (r : Sent) (sent : List Sent) (t : Topic)
    → is_fit r.conn r.uid r.put.value (after_puts sent t) ≡ is_fit r.conn r.uid r.put.value t
after-fits r [] t = refl
after-fits r (s ∷ sent) t = put-fits s r (after_puts sent t) ∙ after-fits r sent t

-- nor the properties
put-props : (s : Sent) (t : Topic) → (put_to s t).props ≡ t.props
put-props s t = by (put_cause_to s.conn s.uid s.put.time s.put.value t)
  where
    by : (cause : Option Cause) → (if_counts cause (with_value s.put.time s.put.value t) t).props ≡ t.props
    by None = valued-by s t (λ (u : Topic). u.props ≡ t.props) refl refl
    by (Some cause) = refl

after-props : (sent : List Sent) (t : Topic) → (after_puts sent t).props ≡ t.props
after-props [] t = refl
after-props (s ∷ sent) t = put-props s (after_puts sent t) ∙ after-props sent t

-- a put that doesn't fit changes nothing
unfit-put : (s : Sent) (t : Topic) → is_fit s.conn s.uid s.put.value t ≡ false → put_to s t ≡ t
unfit-put s t e =
    ap (λ b. if_counts (cond b (cond (is_older s.put.time t.value) (Some Older) None) (Some OtherType))
    (with_value s.put.time s.put.value t) t) e

-- one that fits leaves the greater of it and what was held, where the topic is cached
fit-put : (s : Sent) (t : Topic) (ps : List Put) → is_cached t.props ≡ true → is_fit s.conn s.uid s.put.value t ≡ true
    → t.value ≡ held ps
    → (put_to s t).value ≡ held (s.put ∷ ps)
fit-put s t ps cached e h =
    ap (λ b. (if_counts (cond b (cond (is_older s.put.time t.value) (Some Older) None) (Some OtherType))
    (with_value s.put.time s.put.value t) t).value) e
    ∙ ap (λ b. (if_counts (cond (is_older s.put.time t.value) (Some Older) None) (cond b valued t) t).value) cached
    ∙ by (greatest ps) h
  where
    valued : Topic
    valued = record t { value = Some (timed s.put) }

    older : (g : Put) (b : Bool) → t.value ≡ Some (timed g)
        → (if_counts (cond b (Some Older) None) valued t).value
        ≡ Some (timed (cond b g s.put))
    older g true h = h
    older g false h = refl

    by : (g : Option Put) → t.value ≡ option_map timed g
        → (if_counts (cond (is_older s.put.time t.value) (Some Older) None) valued t).value
        ≡ Some (timed (greater s.put g))
    by None h =
        ap (λ v. (if_counts (cond (is_older s.put.time v) (Some Older) None) valued t).value) h
    by (Some g) h =
        ap (λ v. (if_counts (cond (is_older s.put.time v) (Some Older) None) valued t).value) h
        ∙ older g (ltb s.put.time g.time) h

-- after any puts a cached topic holds the greatest of those that fit, and of the earlier ones
pub greatest-held : (t : Topic) (earlier : List Put) (sent : List Sent) → is_cached t.props ≡ true
    → t.value ≡ held earlier
    → (after_puts sent t).value ≡ held (fitting sent t ++ earlier)
greatest-held t earlier [] cached h = h
greatest-held t earlier (s ∷ sent) cached h =
    by (greatest-held t earlier sent cached h) (is_fit s.conn s.uid s.put.value t) refl
  where
    still : is_cached (after_puts sent t).props ≡ true
    still = ap is_cached (after-props sent t) ∙ cached

    by : (after_puts sent t).value ≡ held (fitting sent t ++ earlier) → (b : Bool)
        → is_fit s.conn s.uid s.put.value t ≡ b
        → (put_to s (after_puts sent t)).value
        ≡ held (map (λ r. r.put)
        (cond b (s ∷ filter (λ r. is_fit r.conn r.uid r.put.value t) sent)
        (filter (λ r. is_fit r.conn r.uid r.put.value t) sent)) ++ earlier)
    by rest true e =
        fit-put s (after_puts sent t) (fitting sent t ++ earlier) still (after-fits s sent t ∙ e) rest
    by rest false e =
        ap (λ (u : Topic). u.value) (unfit-put s (after_puts sent t) (after-fits s sent t ∙ e)) ∙ rest

-- one that isn't cached stays as it was
pub uncached-stays : (t : Topic) (sent : List Sent) → is_cached t.props ≡ false → (after_puts sent t).value ≡ t.value
uncached-stays t [] e = refl
uncached-stays t (s ∷ sent) e =
    by (put_cause_to s.conn s.uid s.put.time s.put.value (after_puts sent t)) ∙ uncached-stays t sent e
  where
    before : Topic
    before = after_puts sent t

    still : is_cached before.props ≡ false
    still = ap is_cached (after-props sent t) ∙ e

    by : (cause : Option Cause)
        → (if_counts cause (with_value s.put.time s.put.value before) before).value ≡ before.value
    by None = ap (λ b. (cond b (record before { value = Some (timed s.put) }) before).value) still
    by (Some cause) = refl
