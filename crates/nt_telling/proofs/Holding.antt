-- The topics that a client holds, one by one: what each message makes of the topic of an id.
use Rattle.std.proofs.Common.{◌≡◌, ◌<◌, nat_lt, T, ℕ, ℤ, pos, Bool, true, false, cond, not, ◌&&◌, List, [], ◌∷◌, ◌++◌}
use Rattle.std.proofs.Common.{map, filter, Option, Some, None, option_map, ◌<ℤ◌, refl, sym, ap, subst, ◌∙◌, arith}
use Rattle.std.specs.List.{list_any}
use Rattle.std.specs.Ordering.{int_eq}
use Rattle.std.specs.Prelude.{int_lt}
use Rattle.std.proofs.lemmas.Bool.{true≢false, ltb-true, lt-ltb}
use Rattle.std.proofs.lemmas.Bool.Decides.{nat_tests, Decides-int_eq}
use Rattle.std.proofs.lemmas.Int.{ints}
use Rattle.serde_json.specs.Data.{Data}
use Rattle.nt_frames.specs.declared.message.ValueMsg.{ValueMsg}
use Rattle.nt_topics.specs.Properties.{updated, is_cached}
use Rattle.nt_control.specs.declared.message.ServerMsg.TheVariants.{Announce, Unannounce, Properties}
use Rattle.nt_rules.specs.declared.held.Held.{Held}
use Rattle.nt_rules.specs.telling.Told.{Message, Text, Value, with_properties, new_held, after_announce, is_called}
use Rattle.nt_rules.specs.telling.Told.{after_properties, with_message, after_message, told_from}

-- ---- ids

lt-is : (a b : ℤ) → int_lt a b ≡ true → a <ℤ b
lt-is a b e = grind (arith, ints, nat_tests)

lt-else : (a b : ℤ) → int_lt a b ≡ false → (b ≡ a → ⊥) → b <ℤ a
lt-else a b e ne = grind (arith, ints, nat_tests)

pub lt-more : (a b c : ℤ) → a <ℤ b → b <ℤ c → a <ℤ c
lt-more a b c ab bc = grind (arith, ints)

pub pos-below : (a b : ℕ) → a < b → pos a <ℤ pos b
pos-below a b l = lt-is (pos a) (pos b) (lt-ltb a b l)

pub below-pos : (a b : ℕ) → pos a <ℤ pos b → a < b
below-pos a b h = ltb-true a b (is_so (nat_lt a b) h.lt)
  where
    is_so : (t : Bool) → T t → t ≡ true
    is_so true h = refl
    is_so false h = absurd h

lt-self : (a : ℤ) → a <ℤ a → ⊥
lt-self a h = grind (arith, ints)

pub id-is : (a b : ℤ) → int_eq a b ≡ true → a ≡ b
id-is a b e = (Decides-int_eq a b).0 e

pub is-id : (a b : ℤ) → a ≡ b → int_eq a b ≡ true
is-id a b e = (Decides-int_eq a b).1 e

pub not-id : (a b : ℤ) → (a ≡ b → ⊥) → int_eq a b ≡ false
not-id a b n = by (int_eq a b) refl
  where
    by : (t : Bool) → int_eq a b ≡ t → t ≡ false
    by false e = refl
    by true e = absurd (n (id-is a b e))

pub other-id : (a b : ℤ) → int_eq a b ≡ false → a ≡ b → ⊥
other-id a b e s = true≢false (sym (is-id a b s) ∙ e)

pub id-back : (a b : ℤ) → int_eq a b ≡ int_eq b a
id-back a b = by (int_eq a b) refl
  where
    by : (t : Bool) → int_eq a b ≡ t → t ≡ int_eq b a
    by true e = sym (is-id b a (sym (id-is a b e)))
    by false e = sym (not-id b a (λ s. other-id a b e (sym s)))

pub pos-same : (a b : ℕ) → pos a ≡ pos b → a ≡ b
pos-same a b e = cc

-- ---- the topic of an id

abbrev pub look : ℤ → List Held → Option Held
look k [] = None
look k (h ∷ hs) = cond (int_eq h.id k) (Some h) (look k hs)

abbrev pub Above : ℤ → List Held → Type 0
Above k [] = Unit {0}
Above k (h ∷ hs) = (k <ℤ h.id) × Above k hs

-- ids rise
abbrev pub RiseById : List Held → Type 0
RiseById [] = Unit {0}
RiseById (h ∷ hs) = Above h.id hs × RiseById hs

pub look-id : (k : ℤ) (hs : List Held) (h : Held) → look k hs ≡ Some h → h.id ≡ k
look-id k [] h e = cc
look-id k (x ∷ hs) h e = by (int_eq x.id k) refl e (look-id k hs h)
  where
    by : (b : Bool) → int_eq x.id k ≡ b → cond b (Some x) (look k hs) ≡ Some h → (look k hs ≡ Some h → h.id ≡ k)
        → h.id ≡ k
    by true f e more = let same : x ≡ h = cc in ap (λ (y : Held). y.id) (sym same) ∙ id-is x.id k f
    by false f e more = more e

pub above-more : (j k : ℤ) (hs : List Held) → j <ℤ k → Above k hs → Above j hs
above-more j k [] l h = tt
above-more j k (x ∷ hs) l h = (lt-more j k x.id l h.0, above-more j k hs l h.1)

pub above-other : (k j : ℤ) → k <ℤ j → int_eq j k ≡ false
above-other k j l = not-id j k (λ e. lt-self k (subst (λ x. k <ℤ x) e l))

pub look-above : (k : ℤ) (hs : List Held) → Above k hs → look k hs ≡ None
look-above k [] h = refl
look-above k (x ∷ hs) h =
    ap (λ b. cond b (Some x) (look k hs)) (above-other k x.id h.0) ∙ look-above k hs h.1

-- ---- announces

abbrev pub announced : List ℕ → ℤ → List ℕ → Data → Option Held → Held
announced name id typ props None = new_held name id typ props
announced name id typ props (Some h) = with_properties props h

pub look-announce : (k : ℤ) (name : List ℕ) (id : ℤ) (typ : List ℕ) (props : Data) (hs : List Held) → RiseById hs
    → look k (after_announce name id typ props hs)
    ≡ cond (int_eq id k) (Some (announced name id typ props (look id hs))) (look k hs)
look-announce k name id typ props [] r = refl
look-announce k name id typ props (h ∷ hs) r =
    by (int_eq h.id id) refl (int_lt id h.id) refl (look-announce k name id typ props hs r.1)
  where
    new : Held
    new = new_held name id typ props

    again : Held
    again = with_properties props h

    Goal : Bool → Bool → Type 0
    Goal b c =
        look k (cond b (again ∷ hs) (cond c (new ∷ h ∷ hs) (h ∷ after_announce name id typ props hs)))
        ≡ cond (int_eq id k) (Some (announced name id typ props (cond b (Some h) (look id hs)))) (look k (h ∷ hs))

    same : (a b : Bool) → a ≡ b → cond a (Some again) (look k hs) ≡ cond b (Some again) (cond a (Some h) (look k hs))
    same true true e = refl
    same false false e = refl
    same true false e = absurd (true≢false e)
    same false true e = absurd (true≢false (sym e))

    swap : (a b : Bool) (x : Option Held) → (a ≡ true → b ≡ true → ⊥)
        → cond a (Some h) (cond b x (look k hs)) ≡ cond b x (cond a (Some h) (look k hs))
    swap true true x n = absurd (n refl refl)
    swap true false x n = refl
    swap false true x n = refl
    swap false false x n = refl

    by : (b : Bool) → int_eq h.id id ≡ b → (c : Bool) → int_lt id h.id ≡ c
        → look k (after_announce name id typ props hs)
        ≡ cond (int_eq id k) (Some (announced name id typ props (look id hs))) (look k hs)
        → Goal b c
    by true e c f more = same (int_eq h.id k) (int_eq id k) (ap (λ x. int_eq x k) (id-is h.id id e))
    by false e true f more =
        ap (λ o. cond (int_eq id k) (Some (announced name id typ props o)) (look k (h ∷ hs)))
        (sym (look-above id hs (above-more id h.id hs (lt-is id h.id f) r.0)))
    by false e false f more =
        ap (λ o. cond (int_eq h.id k) (Some h) o) more
        ∙ swap (int_eq h.id k) (int_eq id k) (Some (announced name id typ props (look id hs)))
        (λ a b. other-id h.id id e (id-is h.id k a ∙ sym (id-is id k b)))

above-announce : (q : ℤ) (name : List ℕ) (id : ℤ) (typ : List ℕ) (props : Data) (hs : List Held) → q <ℤ id → Above q hs
    → Above q (after_announce name id typ props hs)
above-announce q name id typ props [] l h = (l, tt)
above-announce q name id typ props (x ∷ hs) l h =
    by (int_eq x.id id) (int_lt id x.id) (above-announce q name id typ props hs l h.1)
  where
    by : (b c : Bool) → Above q (after_announce name id typ props hs)
        → Above q (cond b (with_properties props x ∷ hs)
        (cond c (new_held name id typ props ∷ x ∷ hs) (x ∷ after_announce name id typ props hs)))
    by true c more = h
    by false true more = (l, h)
    by false false more = (h.0, more)

rise-announce : (name : List ℕ) (id : ℤ) (typ : List ℕ) (props : Data) (hs : List Held) → RiseById hs
    → RiseById (after_announce name id typ props hs)
rise-announce name id typ props [] h = (tt, tt)
rise-announce name id typ props (x ∷ hs) h =
    by (int_eq x.id id) refl (int_lt id x.id) refl (rise-announce name id typ props hs h.1)
  where
    by : (b : Bool) → int_eq x.id id ≡ b → (c : Bool) → int_lt id x.id ≡ c
        → RiseById (after_announce name id typ props hs)
        → RiseById (cond b (with_properties props x ∷ hs)
        (cond c (new_held name id typ props ∷ x ∷ hs) (x ∷ after_announce name id typ props hs)))
    by true e c f more = h
    by false e true f more = let l = lt-is id x.id f in ((l, above-more id x.id hs l h.0), h)
    by false e false f more =
        (above-announce x.id name id typ props hs (lt-else id x.id f (other-id x.id id e)) h.0, more)

-- ---- ends

pub look-unannounce : (k id : ℤ) (hs : List Held)
    → look k (filter (λ h. not (int_eq h.id id)) hs) ≡ cond (int_eq id k) None (look k hs)
look-unannounce k id [] = by (int_eq id k)
  where
    by : (b : Bool) → ◌≡◌ {A = Option Held} None (cond b None None)
    by true = refl
    by false = refl
look-unannounce k id (h ∷ hs) = by (int_eq h.id id) refl (look-unannounce k id hs)
  where
    rest : List Held
    rest = filter (λ x. not (int_eq x.id id)) hs

    gone : (a b : Bool) → a ≡ b → look k rest ≡ cond b None (look k hs)
        → look k rest ≡ cond b None (cond a (Some h) (look k hs))
    gone true true e more = more
    gone false false e more = more
    gone true false e more = absurd (true≢false e)
    gone false true e more = absurd (true≢false (sym e))

    kept : (a b : Bool) → (a ≡ true → b ≡ true → ⊥) → look k rest ≡ cond b None (look k hs)
        → cond a (Some h) (look k rest) ≡ cond b None (cond a (Some h) (look k hs))
    kept true true n more = absurd (n refl refl)
    kept true false n more = refl
    kept false b n more = more

    by : (b : Bool) → int_eq h.id id ≡ b → look k rest ≡ cond (int_eq id k) None (look k hs)
        → look k (cond (not b) (h ∷ rest) rest) ≡ cond (int_eq id k) None (cond (int_eq h.id k) (Some h) (look k hs))
    by true e more = gone (int_eq h.id k) (int_eq id k) (ap (λ x. int_eq x k) (id-is h.id id e)) more
    by false e more =
        kept (int_eq h.id k) (int_eq id k) (λ a b. other-id h.id id e (id-is h.id k a ∙ sym (id-is id k b))) more

pub above-filter : (q : ℤ) (test : Held → Bool) (hs : List Held) → Above q hs → Above q (filter test hs)
above-filter q test [] h = tt
above-filter q test (x ∷ hs) h = by (test x) (above-filter q test hs h.1)
  where
    by : (b : Bool) → Above q (filter test hs) → Above q (cond b (x ∷ filter test hs) (filter test hs))
    by true more = (h.0, more)
    by false more = more

pub rise-filter : (test : Held → Bool) (hs : List Held) → RiseById hs → RiseById (filter test hs)
rise-filter test [] h = tt
rise-filter test (x ∷ hs) h = by (test x) (rise-filter test hs h.1)
  where
    by : (b : Bool) → RiseById (filter test hs) → RiseById (cond b (x ∷ filter test hs) (filter test hs))
    by true more = (above-filter x.id test hs h.0, more)
    by false more = more

-- ---- a change of each topic that leaves ids as they are

pub look-map : (f : Held → Held) → ((h : Held) → (f h).id ≡ h.id) → (k : ℤ) (hs : List Held)
    → look k (map f hs) ≡ option_map f (look k hs)
look-map f same k [] = refl
look-map f same k (h ∷ hs) =
    ap (λ i. cond (int_eq i k) (Some (f h)) (look k (map f hs))) (same h)
    ∙ ap (λ o. cond (int_eq h.id k) (Some (f h)) o) (look-map f same k hs) ∙ by (int_eq h.id k)
  where
    by : (b : Bool) → cond b (Some (f h)) (option_map f (look k hs)) ≡ option_map f (cond b (Some h) (look k hs))
    by true = refl
    by false = refl

above-map : (f : Held → Held) → ((h : Held) → (f h).id ≡ h.id) → (q : ℤ) (hs : List Held) → Above q hs
    → Above q (map f hs)
above-map f same q [] h = tt
above-map f same q (x ∷ hs) h = (subst (λ i. q <ℤ i) (sym (same x)) h.0, above-map f same q hs h.1)

rise-map : (f : Held → Held) → ((h : Held) → (f h).id ≡ h.id) → (hs : List Held) → RiseById hs → RiseById (map f hs)
rise-map f same [] h = tt
rise-map f same (x ∷ hs) h =
    (subst (λ i. Above i (map f hs)) (sym (same x)) (above-map f same x.id hs h.0), rise-map f same hs h.1)

pub cond-id : (b : Bool) (x y : Held) → x.id ≡ y.id → (cond b x y).id ≡ y.id
cond-id true x y e = e
cond-id false x y e = refl

-- ---- values

-- what a value makes of the topic with its id
abbrev pub valued : ValueMsg → Held → Held
valued v h = cond (is_cached h.props) (record h { value = Some (record { time = v.time; value = v.value }) }) h

pub look-value : (k : ℤ) (v : ValueMsg) (hs : List Held)
    → look k (map (with_message v) hs) ≡ cond (int_eq v.id k) (option_map (valued v) (look k hs)) (look k hs)
look-value k v hs =
    look-map (with_message v) (λ h. cond-id (int_eq h.id v.id && is_cached h.props) _ h refl) k hs
    ∙ at (look k hs) (look-id k hs)
  where
    at : (o : Option Held) → ((h : Held) → o ≡ Some h → h.id ≡ k)
        → option_map (with_message v) o ≡ cond (int_eq v.id k) (option_map (valued v) o) o
    at None n = by (int_eq v.id k)
      where
        by : (b : Bool) → ◌≡◌ {A = Option Held} None (cond b None None)
        by true = refl
        by false = refl
    at (Some h) n = by (int_eq h.id v.id) (int_eq v.id k) (ap (λ i. int_eq i v.id) (n h refl) ∙ id-back k v.id)
      where
        by : (a b : Bool) → a ≡ b
            → Some (cond (a && is_cached h.props)
            (record h { value = Some (record { time = v.time; value = v.value }) }) h)
            ≡ cond b (Some (valued v h)) (Some h)
        by true true e = refl
        by false false e = refl
        by true false e = absurd (true≢false e)
        by false true e = absurd (true≢false (sym e))

-- ---- updates of properties

-- what an update makes of the topic with its name
abbrev pub updated_held : Data → Held → Held
updated_held u h = with_properties (updated h.props u) h

-- those of this name are those of this id
abbrev pub IsNameOf : List ℕ → ℤ → List Held → Type 0
IsNameOf name id [] = Unit {0}
IsNameOf name id (h ∷ hs) = (is_called name h ≡ int_eq h.id id) × IsNameOf name id hs

uncalled : (name : List ℕ) (id : ℤ) (hs : List Held) → IsNameOf name id hs → Above id hs
    → list_any (is_called name) hs ≡ false
uncalled name id [] n a = refl
uncalled name id (h ∷ hs) n a =
    let other = n.0 ∙ above-other id h.id a.0 in
    rw other (uncalled name id hs n.1 a.1)

pub look-properties : (k : ℤ) (name : List ℕ) (id : ℤ) (u : Data) (hs : List Held) → RiseById hs → IsNameOf name id hs
    → look k (after_properties name u hs) ≡ cond (int_eq id k) (option_map (updated_held u) (look k hs)) (look k hs)
look-properties k name id u [] r n = by (int_eq id k)
  where
    by : (b : Bool) → ◌≡◌ {A = Option Held} None (cond b None None)
    by true = refl
    by false = refl
look-properties k name id u (h ∷ hs) r n =
    by (int_eq h.id id) refl n.0 (look-properties k name id u hs r.1 n.1)
  where
    rest : List Held
    rest = after_properties name u hs

    first : (a b : Bool) → a ≡ b
        → cond a (Some (updated_held u h)) (look k hs)
        ≡ cond b (option_map (updated_held u) (cond a (Some h) (look k hs))) (cond a (Some h) (look k hs))
    first true true e = refl
    first false false e = refl
    first true false e = absurd (true≢false e)
    first false true e = absurd (true≢false (sym e))

    later : (a b : Bool) → (a ≡ true → b ≡ true → ⊥)
        → cond a (Some h) (cond b (option_map (updated_held u) (look k hs)) (look k hs))
        ≡ cond b (option_map (updated_held u) (cond a (Some h) (look k hs))) (cond a (Some h) (look k hs))
    later true true n = absurd (n refl refl)
    later true false n = refl
    later false b n = refl

    by : (b : Bool) → int_eq h.id id ≡ b → is_called name h ≡ b
        → look k rest ≡ cond (int_eq id k) (option_map (updated_held u) (look k hs)) (look k hs)
        → look k (cond (is_called name h && not (list_any (is_called name) hs)) (updated_held u h ∷ hs) (h ∷ rest))
        ≡ cond (int_eq id k) (option_map (updated_held u) (look k (h ∷ hs))) (look k (h ∷ hs))
    by true e c more =
        let same = id-is h.id id e in
        let alone = uncalled name id hs n.1 (subst (λ i. Above i hs) same r.0) in
        ap (λ t. look k (cond (t && not (list_any (is_called name) hs)) (updated_held u h ∷ hs) (h ∷ rest))) c
        ∙ ap (λ t. look k (cond (not t) (updated_held u h ∷ hs) (h ∷ rest))) alone
        ∙ first (int_eq h.id k) (int_eq id k) (ap (λ x. int_eq x k) same)
    by false e c more =
        ap (λ t. look k (cond (t && not (list_any (is_called name) hs)) (updated_held u h ∷ hs) (h ∷ rest))) c
        ∙ ap (λ o. cond (int_eq h.id k) (Some h) o) more
        ∙ later (int_eq h.id k) (int_eq id k) (λ a b. other-id h.id id e (id-is h.id k a ∙ sym (id-is id k b)))

above-properties : (q : ℤ) (name : List ℕ) (u : Data) (hs : List Held) → Above q hs
    → Above q (after_properties name u hs)
above-properties q name u [] h = tt
above-properties q name u (x ∷ hs) h =
    by (is_called name x && not (list_any (is_called name) hs)) (above-properties q name u hs h.1)
  where
    by : (b : Bool) → Above q (after_properties name u hs)
        → Above q (cond b (updated_held u x ∷ hs) (x ∷ after_properties name u hs))
    by true more = h
    by false more = (h.0, more)

rise-properties : (name : List ℕ) (u : Data) (hs : List Held) → RiseById hs → RiseById (after_properties name u hs)
rise-properties name u [] h = tt
rise-properties name u (x ∷ hs) h =
    by (is_called name x && not (list_any (is_called name) hs)) (rise-properties name u hs h.1)
  where
    by : (b : Bool) → RiseById (after_properties name u hs)
        → RiseById (cond b (updated_held u x ∷ hs) (x ∷ after_properties name u hs))
    by true more = h
    by false more = (above-properties x.id name u hs h.0, more)

-- ---- messages

pub rise-message : (m : Message) (hs : List Held) → RiseById hs → RiseById (after_message m hs)
rise-message (Text (Announce name id typ pubuid props)) hs h = rise-announce name id typ props hs h
rise-message (Text (Unannounce name id)) hs h = rise-filter (λ x. not (int_eq x.id id)) hs h
rise-message (Text (Properties name ack update)) hs h = rise-properties name update hs h
rise-message (Value v) hs h =
    rise-map (with_message v) (λ x. cond-id (int_eq x.id v.id && is_cached x.props) _ x refl) hs h

pub rise-told : (hs : List Held) (ms : List Message) → RiseById hs → RiseById (told_from hs ms)
rise-told hs [] h = h
rise-told hs (m ∷ ms) h = rise-told (after_message m hs) ms (rise-message m hs h)

pub told-append : (hs : List Held) (ms ns : List Message) → told_from hs (ms ++ ns) ≡ told_from (told_from hs ms) ns
told-append hs [] ns = refl
told-append hs (m ∷ ms) ns = told-append (after_message m hs) ms ns
