-- What updates make of properties, key by key: an update that comes again changes nothing.
use Rattle.std.proofs.Common.{◌≡◌, ℕ, Bool, true, false, cond, List, [], ◌∷◌, ◌++◌, Option, Some, None, Ordering, Less}
use Rattle.std.proofs.Common.{Equal, Greater, nat_cmp, is_eq, bytes_eq, refl, sym, ap, subst, ◌∙◌}
use Rattle.std.specs.Cmp.Lexicographic.{slice_cmp}
use Rattle.std.specs.Ordering.{match_ordering, ordering_reverse, is_lt}
use Rattle.std.proofs.lemmas.Cmp.{nat_list_cmp_total, tied_itself}
use Rattle.std.proofs.lemmas.Map.Text.{is_eq-slice_cmp}
use Rattle.std.proofs.lemmas.Slice.Eq.{bytes_eq-Decides}
use Rattle.std.proofs.lemmas.Bool.{true≢false}
use Rattle.serde_json.specs.Data.{Data, object, Members, no_members, member, put}
use Rattle.serde_json.specs.Find.{get_member}
use Rattle.nt_topics.specs.Properties.{is_null, without, changed, changed_by, members_in, updated}
use Rattle.nt_topics.proofs.Keys.{get_member-put_at}
use Rattle.nt_topics.specs.Trees.{StandsBefore, Rise, IsOrdered}

-- ---- keys

pub cmp-self : (k : List ℕ) → slice_cmp nat_cmp k k ≡ Equal
cmp-self k = tied_itself nat_list_cmp_total k

cmp-equal : (k l : List ℕ) → slice_cmp nat_cmp k l ≡ Equal → k ≡ l
cmp-equal k l e = (bytes_eq-Decides k l).0 (sym (is_eq-slice_cmp k l) ∙ ap is_eq e)

cmp-greater : (k l : List ℕ) → slice_cmp nat_cmp k l ≡ Greater → slice_cmp nat_cmp l k ≡ Less
cmp-greater k l e = nat_list_cmp_total.antisymm l k ∙ ap ordering_reverse e

less-equal : Less ≡ Equal → ⊥
less-equal e = cc

lt-less : (o : Ordering) → is_lt o ≡ true → o ≡ Less
lt-less Less e = refl
lt-less Equal e = absurd (true≢false (sym e))
lt-less Greater e = absurd (true≢false (sym e))

-- a key before the members isn't among them
before-none : (k : List ℕ) (ms : Members) → StandsBefore k ms → get_member k ms ≡ None
before-none k no_members h = refl
before-none k (member l d ms) h =
    let less = lt-less (slice_cmp nat_cmp k l) h.0 in rw less (before-none k ms h.1)

before-more : (k l : List ℕ) (ms : Members) → slice_cmp nat_cmp k l ≡ Less → StandsBefore l ms → StandsBefore k ms
before-more k l no_members e h = tt
before-more k l (member m d ms) e h = (
  ap is_lt (nat_list_cmp_total.trans k l m e (lt-less (slice_cmp nat_cmp l m) h.0)),
  before-more k l ms e h.1,
)

-- ---- trees with the same members at each key

get-here : (k : List ℕ) (d : Data) (ms : Members) → get_member k (member k d ms) ≡ Some d
get-here k d ms = let same = cmp-self k in rw same refl

get-later : (q k : List ℕ) (d : Data) (ms : Members) → bytes_eq k q ≡ false
    → get_member q (member k d ms) ≡ get_member q ms
get-later q k d ms e = by (slice_cmp nat_cmp q k) refl
  where
    by : (o : Ordering) → slice_cmp nat_cmp q k ≡ o
        → match_ordering o (get_member q ms) (Some d) (get_member q ms) ≡ get_member q ms
    by Less h = refl
    by Greater h = refl
    by Equal h = absurd (true≢false (sym ((bytes_eq-Decides k q).1 (sym (cmp-equal q k h))) ∙ e))

some-not-none : {A : Type 0} (x : A) → Some x ≡ None → ⊥
some-not-none x e = cc

some-same : {A : Type 0} (x y : A) → Some x ≡ Some y → x ≡ y
some-same x y e = cc

pub same-members : (a b : Members) → Rise a → Rise b → ((k : List ℕ) → get_member k a ≡ get_member k b) → a ≡ b
same-members no_members no_members r s h = refl
same-members no_members (member l e ns) r s h = absurd (some-not-none e (sym (get-here l e ns) ∙ sym (h l)))
same-members (member k d ms) no_members r s h = absurd (some-not-none d (sym (get-here k d ms) ∙ h k))
same-members (member k d ms) (member l e ns) r s h = by (slice_cmp nat_cmp k l) refl (same-members ms ns r.1 s.1)
  where
    by : (o : Ordering) → slice_cmp nat_cmp k l ≡ o
        → (((q : List ℕ) → get_member q ms ≡ get_member q ns) → ms ≡ ns) → member k d ms ≡ member l e ns
    by Less o more =
        let none : get_member k (member l e ns) ≡ None =
        ap (λ x. match_ordering x (get_member k ns) (Some e) (get_member k ns)) o
        ∙ before-none k ns (before-more k l ns o s.0) in
        absurd (some-not-none d (sym (get-here k d ms) ∙ h k ∙ none))
    by Greater o more =
        let less = cmp-greater k l o in
        let none : get_member l (member k d ms) ≡ None =
        ap (λ x. match_ordering x (get_member l ms) (Some d) (get_member l ms)) less
        ∙ before-none l ms (before-more l k ms less r.0) in
        absurd (some-not-none e (sym (get-here l e ns) ∙ sym (h l) ∙ none))
    by Equal o more =
        let key = cmp-equal k l o in
        let value : d ≡ e = some-same d e
        (sym (get-here k d ms) ∙ h k ∙ ap (λ q. get_member q (member l e ns)) key ∙ get-here l e ns) in
        let rest : ms ≡ ns = more (λ q. at q (bytes_eq k q) refl key) in
        λ i. member (key i) (value i) (rest i)
      where
        at : (q : List ℕ) (b : Bool) → bytes_eq k q ≡ b → k ≡ l → get_member q ms ≡ get_member q ns
        at q true e0 key =
            let same : k ≡ q = (bytes_eq-Decides k q).0 e0 in
            subst (λ x. get_member x ms ≡ get_member x ns) same
            (before-none k ms r.0 ∙ sym (before-none k ns (subst (λ x. StandsBefore x ns) (sym key) s.0)))
        at q false e0 key =
            sym (get-later q k d ms e0) ∙ h q ∙ get-later q l e ns (subst (λ x. bytes_eq x q ≡ false) key e0)

-- ---- changes keep keys rising

before-put : (q k : List ℕ) (d : Data) (ms : Members) → slice_cmp nat_cmp q k ≡ Less → StandsBefore q ms
    → StandsBefore q (put k d ms)
before-put q k d no_members e h = (ap is_lt e, tt)
before-put q k d (member l x ms) e h = by (slice_cmp nat_cmp k l) (before-put q k d ms e h.1)
  where
    by : (o : Ordering) → StandsBefore q (put k d ms)
        → StandsBefore q (match_ordering o (member k d (member l x ms)) (member l d ms) (member l x (put k d ms)))
    by Less r = (ap is_lt e, h)
    by Equal r = h
    by Greater r = (h.0, r)

pub rise-put : (k : List ℕ) (d : Data) (ms : Members) → Rise ms → Rise (put k d ms)
rise-put k d no_members h = (tt, tt)
rise-put k d (member l x ms) h = by (slice_cmp nat_cmp k l) refl (rise-put k d ms h.1)
  where
    by : (o : Ordering) → slice_cmp nat_cmp k l ≡ o → Rise (put k d ms)
        → Rise (match_ordering o (member k d (member l x ms)) (member l d ms) (member l x (put k d ms)))
    by Less e r = ((ap is_lt e, before-more k l ms e h.0), h)
    by Equal e r = h
    by Greater e r = (before-put l k d ms (cmp-greater k l e) h.0, r)

before-without : (q k : List ℕ) (ms : Members) → StandsBefore q ms → StandsBefore q (without k ms)
before-without q k no_members h = tt
before-without q k (member l x ms) h = by (slice_cmp nat_cmp k l) (before-without q k ms h.1)
  where
    by : (o : Ordering) → StandsBefore q (without k ms)
        → StandsBefore q (match_ordering o (member l x (without k ms)) ms (member l x (without k ms)))
    by Less r = (h.0, r)
    by Equal r = h.1
    by Greater r = (h.0, r)

pub rise-without : (k : List ℕ) (ms : Members) → Rise ms → Rise (without k ms)
rise-without k no_members h = tt
rise-without k (member l x ms) h = by (slice_cmp nat_cmp k l) (rise-without k ms h.1)
  where
    by : (o : Ordering) → Rise (without k ms)
        → Rise (match_ordering o (member l x (without k ms)) ms (member l x (without k ms)))
    by Less r = (before-without l k ms h.0, r)
    by Equal r = h.1
    by Greater r = (before-without l k ms h.0, r)

rise-changed : (k : List ℕ) (d : Data) (ms : Members) → Rise ms → Rise (changed k d ms)
rise-changed k d ms h = by (is_null d)
  where
    by : (b : Bool) → Rise (cond b (without k ms) (put k d ms))
    by true = rise-without k ms h
    by false = rise-put k d ms h

pub rise-changed_by : (ms us : Members) → Rise ms → Rise (changed_by ms us)
rise-changed_by ms no_members h = h
rise-changed_by ms (member k d us) h = rise-changed_by (changed k d ms) us (rise-changed k d ms h)

-- ---- what a key has after changes

pub get_member-without : (k q : List ℕ) (ms : Members) → Rise ms
    → get_member q (without k ms) ≡ cond (bytes_eq k q) None (get_member q ms)
get_member-without k q no_members h = by (bytes_eq k q)
  where
    by : (b : Bool) → ◌≡◌ {A = Option Data} None (cond b None None)
    by true = refl
    by false = refl
get_member-without k q (member l x ms) h =
    by (slice_cmp nat_cmp k l) refl (bytes_eq k q) refl (get_member-without k q ms h.1)
  where
    other : (o : Ordering) → slice_cmp nat_cmp k l ≡ o → (o ≡ Equal → ⊥) → k ≡ q → bytes_eq l q ≡ false
    other o e apart same = no_such (bytes_eq l q) refl
      where
        no_such : (b : Bool) → bytes_eq l q ≡ b → b ≡ false
        no_such false f = refl
        no_such true f =
            absurd (apart (sym e ∙ ap (λ y. slice_cmp nat_cmp y l) (same ∙ sym ((bytes_eq-Decides l q).0 f))
            ∙ cmp-self l))

    kept_at : (b : Bool) → bytes_eq k q ≡ b → (k ≡ q → bytes_eq l q ≡ false)
        → get_member q (without k ms) ≡ cond b None (get_member q ms)
        → get_member q (member l x (without k ms)) ≡ cond b None (get_member q (member l x ms))
    kept_at true f apart r = get-later q l x (without k ms) (apart ((bytes_eq-Decides k q).0 f)) ∙ r
    kept_at false f apart r = ap (λ y. match_ordering (slice_cmp nat_cmp q l) y (Some x) y) r

    by : (o : Ordering) → slice_cmp nat_cmp k l ≡ o → (b : Bool) → bytes_eq k q ≡ b
        → get_member q (without k ms) ≡ cond b None (get_member q ms)
        → get_member q (match_ordering o (member l x (without k ms)) ms (member l x (without k ms)))
        ≡ cond b None (get_member q (member l x ms))
    by Less e b f r = kept_at b f (other Less e less-equal) r
    by Greater e b f r = kept_at b f (other Greater e (λ z. cc)) r
    by Equal e true f r =
        before-none q ms (subst (λ y. StandsBefore y ms) (sym (cmp-equal k l e) ∙ (bytes_eq-Decides k q).0 f) h.0)
    by Equal e false f r = sym (get-later q l x ms (subst (λ y. bytes_eq y q ≡ false) (cmp-equal k l e) f))

-- what changes say of a key: nothing, or what it has then
abbrev pub given : Data → Option Data
given d = cond (is_null d) None (Some d)

abbrev pub or_later : Option (Option Data) → Option (Option Data) → Option (Option Data)
or_later None o = o
or_later (Some x) o = Some x

abbrev pub said_of : List ℕ → Members → Option (Option Data)
said_of q no_members = None
said_of q (member k d us) = or_later (said_of q us) (cond (bytes_eq k q) (Some (given d)) None)

abbrev pub over : Option (Option Data) → Option Data → Option Data
over None had = had
over (Some x) had = x

get_member-changed : (k q : List ℕ) (d : Data) (ms : Members) → Rise ms
    → get_member q (changed k d ms) ≡ over (cond (bytes_eq k q) (Some (given d)) None) (get_member q ms)
get_member-changed k q d ms h = by (is_null d) (get_member-without k q ms h) (get_member-put_at k q d ms)
  where
    at : (b : Bool) (x had : Option Data) → cond b x had ≡ over (cond b (Some x) None) had
    at true x had = refl
    at false x had = refl

    by : (b : Bool) → get_member q (without k ms) ≡ cond (bytes_eq k q) None (get_member q ms)
        → get_member q (put k d ms) ≡ cond (bytes_eq k q) (Some d) (get_member q ms)
        → get_member q (cond b (without k ms) (put k d ms))
        ≡ over (cond (bytes_eq k q) (Some (cond b None (Some d))) None) (get_member q ms)
    by true e f = e ∙ at (bytes_eq k q) None (get_member q ms)
    by false e f = f ∙ at (bytes_eq k q) (Some d) (get_member q ms)

pub over-later : (a b : Option (Option Data)) (had : Option Data) → over a (over b had) ≡ over (or_later a b) had
over-later None b had = refl
over-later (Some x) b had = refl

pub get_member-changed_by : (q : List ℕ) (ms us : Members) → Rise ms
    → get_member q (changed_by ms us) ≡ over (said_of q us) (get_member q ms)
get_member-changed_by q ms no_members h = refl
get_member-changed_by q ms (member k d us) h =
    get_member-changed_by q (changed k d ms) us (rise-changed k d ms h)
    ∙ ap (over (said_of q us)) (get_member-changed k q d ms h)
    ∙ over-later (said_of q us) (cond (bytes_eq k q) (Some (given d)) None) (get_member q ms)

-- ---- trees

pub ordered-updated : (p u : Data) → IsOrdered p → IsOrdered (updated p u)
ordered-updated p u h = rise-changed_by (members_in p) (members_in u) h

-- what a key has in a tree
abbrev pub at_key : List ℕ → Data → Option Data
at_key q p = get_member q (members_in p)

pub at_key-updated : (q : List ℕ) (p u : Data) → IsOrdered p
    → at_key q (updated p u) ≡ over (said_of q (members_in u)) (at_key q p)
at_key-updated q p u h = get_member-changed_by q (members_in p) (members_in u) h

-- updates one after another
abbrev pub applied : List Data → Data → Data
applied [] p = p
applied (u ∷ us) p = applied us (updated p u)

abbrev pub said_in : List ℕ → List Data → Option (Option Data)
said_in q [] = None
said_in q (u ∷ us) = or_later (said_in q us) (said_of q (members_in u))

pub ordered-applied : (us : List Data) (p : Data) → IsOrdered p → IsOrdered (applied us p)
ordered-applied [] p h = h
ordered-applied (u ∷ us) p h = ordered-applied us (updated p u) (ordered-updated p u h)

pub at_key-applied : (q : List ℕ) (us : List Data) (p : Data) → IsOrdered p
    → at_key q (applied us p) ≡ over (said_in q us) (at_key q p)
at_key-applied q [] p h = refl
at_key-applied q (u ∷ us) p h =
    at_key-applied q us (updated p u) (ordered-updated p u h)
    ∙ ap (over (said_in q us)) (at_key-updated q p u h)
    ∙ over-later (said_in q us) (said_of q (members_in u)) (at_key q p)

-- after an update a tree is an object
object-applied : (u : Data) (us : List Data) (p : Data) → object (members_in (applied (u ∷ us) p)) ≡ applied (u ∷ us) p
object-applied u [] p = refl
object-applied u (w ∷ us) p = object-applied w us (updated p u)

over-over : (o : Option (Option Data)) (had : Option Data) → over o (over o had) ≡ over o had
over-over None had = refl
over-over (Some x) had = refl

-- updates that come again change nothing
pub applied-again : (us : List Data) (p : Data) → IsOrdered p → applied us (applied us p) ≡ applied us p
applied-again [] p h = refl
applied-again (u ∷ us) p h =
    sym (object-applied u us (applied (u ∷ us) p))
    ∙ ap object (same-members _ _ (ordered-applied (u ∷ us) (applied (u ∷ us) p) once) once
    (λ q. at_key-applied q (u ∷ us) (applied (u ∷ us) p) once
    ∙ ap (over (said_in q (u ∷ us))) (at_key-applied q (u ∷ us) p h)
    ∙ over-over (said_in q (u ∷ us)) (at_key q p)
    ∙ sym (at_key-applied q (u ∷ us) p h)))
    ∙ object-applied u us p
  where
    once : IsOrdered (applied (u ∷ us) p)
    once = ordered-applied (u ∷ us) p h

pub applied-append : (us ws : List Data) (p : Data) → applied (us ++ ws) p ≡ applied ws (applied us p)
applied-append [] ws p = refl
applied-append (u ∷ us) ws p = applied-append us ws (updated p u)
