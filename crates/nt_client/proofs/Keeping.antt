-- Topics that are held, by rising id, each noted under its name: what keeps that, and what a search for an id or a name
-- says of what messages change.
use Rattle.std.proofs.Common.{◌≡◌, ◌≤◌, ◌<◌, ℕ, zero, suc, ℤ, Bool, true, false, ◌&&◌, ◌||◌, List, [], ◌∷◌, Some, None, length, get_or, set, slice_get, map, refl, sym, ◌∙◌, ap, subst, arith}
use Rattle.std.specs.Prelude.{insert, remove, ◌<ℤ◌}
use Rattle.std.specs.List.{list_any}
use Rattle.serde_json.specs.Data.{Data}
use Rattle.nt_topics.specs.Properties.{updated, is_cached}
use Rattle.nt_frames.specs.declared.message.ValueMsg.{ValueMsg}
use Rattle.nt_rules.specs.declared.held.Held.{Held}
use Rattle.nt_rules.specs.declared.topic.Timed.{Timed}
use Rattle.nt_rules.specs.telling.Told.{is_called, with_properties, new_held, after_announce, after_properties, with_message}
use Rattle.nt_client.specs.declared.names.Names.{Names}
use Rattle.nt_client.specs.Sorted.{AreAbove, Rise, IsFoundAt, IsMissedAt}
use Rattle.nt_client.specs.Names.{AreInOrder, IsNoted, StaysNoted}
use Rattle.nt_client.specs.Kept.{id_of, AreNoted, IsKept, IsLastAt, at_index, outline}
use Rattle.nt_client.specs.Taking.{last_called}
use Rattle.nt_client.proofs.Search.{is-same, is-other, is-another, is-below, not-below, within-missed, rises-insert, rises-remove}

-- ---- a change at an index

-- the item that stands there decides
pub at-same : (f g : Held → Held) (i : ℕ) (held : List Held) (h : Held) → h ≡ get_or held i h → f h ≡ g h
    → at_index f i held ≡ at_index g i held
at-same f g i [] h e same = refl
at-same f g zero (x ∷ held) h e same = ap (λ y. y ∷ held) (sym (ap f e) ∙ same ∙ ap g e)
at-same f g (suc i) (x ∷ held) h e same = ap (λ ys. x ∷ ys) (at-same f g i held h e same)

-- a write is such a change
pub at-set : (f : Held → Held) (i : ℕ) (held : List Held) (h y : Held) → i < length held → h ≡ get_or held i h
    → y ≡ f h → set held i y ≡ at_index f i held
at-set f i [] h y lt e is = absurd (omega arith)
at-set f zero (x ∷ held) h y lt e is = ap (λ z. z ∷ held) (is ∙ ap f e)
at-set f (suc i) (x ∷ held) h y lt e is = ap (λ ys. x ∷ ys) (at-set f i held h y (omega arith) e is)

-- and one that is taken back
pub at-back : (f g : Held → Held) (i : ℕ) (held : List Held) (h : Held) → h ≡ get_or held i h → g (f h) ≡ h
    → at_index g i (at_index f i held) ≡ held
at-back f g i [] h e back = refl
at-back f g zero (x ∷ held) h e back = ap (λ y. y ∷ held) (sym (ap (λ y. g (f y)) e) ∙ back ∙ e)
at-back f g (suc i) (x ∷ held) h e back = ap (λ ys. x ∷ ys) (at-back f g i held h e back)

pub at-length : (f : Held → Held) (i : ℕ) (held : List Held) → length (at_index f i held) ≡ length held
at-length f i [] = refl
at-length f zero (x ∷ held) = refl
at-length f (suc i) (x ∷ held) = ap suc (at-length f i held)

pub at-outline : (f : Held → Held) (i : ℕ) (held : List Held) → ((h : Held) → outline (f h) ≡ outline h)
    → map outline (at_index f i held) ≡ map outline held
at-outline f i [] same = refl
at-outline f zero (x ∷ held) same = ap (λ o. o ∷ map outline held) (same x)
at-outline f (suc i) (x ∷ held) same = ap (λ os. outline x ∷ os) (at-outline f i held same)

-- two changes at one index are one
pub at-twice : (f g : Held → Held) (i : ℕ) (held : List Held) → at_index g i (at_index f i held)
    ≡ at_index (λ h. g (f h)) i held
at-twice f g i [] = refl
at-twice f g zero (x ∷ held) = refl
at-twice f g (suc i) (x ∷ held) = ap (λ ys. x ∷ ys) (at-twice f g i held)

at-equal : (f g : Held → Held) (i : ℕ) (held : List Held) → ((h : Held) → f h ≡ g h) → at_index f i held
    ≡ at_index g i held
at-equal f g i [] same = refl
at-equal f g zero (x ∷ held) same = ap (λ y. y ∷ held) (same x)
at-equal f g (suc i) (x ∷ held) same = ap (λ ys. x ∷ ys) (at-equal f g i held same)

-- ---- other properties, by what becomes of the value

pub props-cached : (props : Data) (i : ℕ) (held : List Held) → is_cached props ≡ true
    → at_index (λ h. record h { props = props }) i held ≡ at_index (with_properties props) i held
props-cached props i held cached =
    at-equal (λ h. record h { props = props }) (with_properties props) i held (λ h. rw (cached) refl)

pub props-dropped : (props : Data) (i : ℕ) (held : List Held) → is_cached props ≡ false
    → at_index (λ h. record h { props = props }) i (at_index (λ h. record h { value = None }) i held)
    ≡ at_index (with_properties props) i held
props-dropped props i held cached =
    at-twice (λ h. record h { value = None }) (λ h. record h { props = props }) i held
    ∙ at-equal (λ h. record h { props = props; value = None }) (with_properties props) i held (λ h. rw (cached) refl)

pub props-empty : (props : Data) (i : ℕ) (held : List Held) (h : Held) → is_cached props ≡ false → h ≡ get_or held i h
    → h.value ≡ None → at_index (λ h. record h { props = props }) i held ≡ at_index (with_properties props) i held
props-empty props i held h cached e none =
    at-same (λ h. record h { props = props }) (with_properties props) i held h e
    (rw (cached) (ap (λ v. record h { props = props; value = v }) none))

-- ---- what is kept

id_in : ℤ × List ℕ → ℤ
id_in o = o.0

IsNotedAs : Names → ℤ × List ℕ → Type 0
IsNotedAs names o = IsNoted names o.1 o.0

above-outline : (k : ℤ) (held held-2 : List Held) → map outline held ≡ map outline held-2 → AreAbove id_of k held
    → AreAbove id_of k held-2
above-outline k [] [] e h = tt
above-outline k [] (y ∷ held-2) e h = absurd (cc)
above-outline k (x ∷ held) [] e h = absurd (cc)
above-outline k (x ∷ held) (y ∷ held-2) e h =
    let first : outline x ≡ outline y = cc in
    let rest : map outline held ≡ map outline held-2 = cc in
    (subst (λ (o : ℤ × List ℕ). k <ℤ o.0) first h.0, above-outline k held held-2 rest h.1)

pub rise-outline : (held held-2 : List Held) → map outline held ≡ map outline held-2 → Rise id_of held → Rise id_of held-2
rise-outline [] [] e h = tt
rise-outline [] (y ∷ held-2) e h = absurd (cc)
rise-outline (x ∷ held) [] e h = absurd (cc)
rise-outline (x ∷ held) (y ∷ held-2) e h =
    let first : outline x ≡ outline y = cc in
    let rest : map outline held ≡ map outline held-2 = cc in (
      subst (λ (o : ℤ × List ℕ). AreAbove id_of o.0 held-2) first (above-outline x.id held held-2 rest h.0),
      rise-outline held held-2 rest h.1,
    )

noted-outline : (names : Names) (held held-2 : List Held) → map outline held ≡ map outline held-2 → AreNoted names held
    → AreNoted names held-2
noted-outline names [] [] e h = tt
noted-outline names [] (y ∷ held-2) e h = absurd (cc)
noted-outline names (x ∷ held) [] e h = absurd (cc)
noted-outline names (x ∷ held) (y ∷ held-2) e h =
    let first : outline x ≡ outline y = cc in
    let rest : map outline held ≡ map outline held-2 = cc in
    (subst (λ (o : ℤ × List ℕ). IsNoted names o.1 o.0) first h.0, noted-outline names held held-2 rest h.1)

-- ids and names are all that counts
pub kept-outline : (names : Names) (held held-2 : List Held) → map outline held-2 ≡ map outline held → IsKept names held
    → IsKept names held-2
kept-outline names held held-2 e k = record {
  rising = rise-outline held held-2 (sym e) k.rising;
  noted = noted-outline names held held-2 (sym e) k.noted;
  in_order = k.in_order;
}

pub noted-more : (names names-2 : Names) (held : List Held) → StaysNoted names names-2 → AreNoted names held
    → AreNoted names-2 held
noted-more names names-2 [] stays h = tt
noted-more names names-2 (x ∷ held) stays h = (stays x.name x.id h.0, noted-more names names-2 held stays h.1)

noted-insert : (names : Names) (held : List Held) (i : ℕ) (h : Held) → i ≤ length held → IsNoted names h.name h.id
    → AreNoted names held → AreNoted names (insert held i h)
noted-insert names [] zero h le here all = (here, tt)
noted-insert names [] (suc i) h le here all = absurd (omega arith)
noted-insert names (x ∷ held) zero h le here all = (here, all)
noted-insert names (x ∷ held) (suc i) h le here all = (all.0, noted-insert names held i h (omega arith) here all.1)

noted-remove : (names : Names) (held : List Held) (i : ℕ) → AreNoted names held → AreNoted names (remove held i)
noted-remove names [] zero all = tt
noted-remove names [] (suc i) all = tt
noted-remove names (x ∷ held) zero all = all.1
noted-remove names (x ∷ held) (suc i) all = (all.0, noted-remove names held i all.1)

pub kept-more : (names names-2 : Names) (held : List Held) → StaysNoted names names-2 → AreInOrder names-2
    → IsKept names held → IsKept names-2 held
kept-more names names-2 held stays in_order k =
    record { rising = k.rising; noted = noted-more names names-2 held stays k.noted; in_order = in_order }

pub kept-insert : (names : Names) (held : List Held) (i : ℕ) (h : Held) → IsNoted names h.name h.id
    → IsMissedAt id_of h.id held i → IsKept names held → IsKept names (insert held i h)
kept-insert names held i h here missed k = record {
  rising = rises-insert id_of held i h missed k.rising;
  noted = noted-insert names held i h (within-missed id_of h.id held i missed) here k.noted;
  in_order = k.in_order;
}

pub kept-remove : (names : Names) (held : List Held) (i : ℕ) → IsKept names held → IsKept names (remove held i)
kept-remove names held i k = record {
  rising = rises-remove id_of held i k.rising;
  noted = noted-remove names held i k.noted;
  in_order = k.in_order;
}

-- ---- announces

pub announce-found : (name : List ℕ) (id : ℤ) (typ : List ℕ) (props : Data) (held : List Held) (i : ℕ)
    → IsFoundAt id_of id held i → after_announce name id typ props held ≡ at_index (with_properties props) i held
announce-found name id typ props [] i at = absurd at
announce-found name id typ props (h ∷ held) zero at = rw (is-same h.id id at.0) refl
announce-found name id typ props (h ∷ held) (suc i) at =
    rw (is-other h.id id at.0, not-below h.id id at.0)
    (ap (λ hs. h ∷ hs) (announce-found name id typ props held i at.1))

pub announce-missed : (name : List ℕ) (id : ℤ) (typ : List ℕ) (props : Data) (held : List Held) (i : ℕ)
    → IsMissedAt id_of id held i → after_announce name id typ props held ≡ insert held i (new_held name id typ props)
announce-missed name id typ props [] zero at = refl
announce-missed name id typ props [] (suc i) at = absurd at
announce-missed name id typ props (h ∷ held) zero at =
    rw (is-another h.id id at.0, is-below id h.id at.0) refl
announce-missed name id typ props (h ∷ held) (suc i) at =
    rw (is-other h.id id at.0, not-below h.id id at.0)
    (ap (λ hs. h ∷ hs) (announce-missed name id typ props held i at.1))

-- ---- values

with_timed : Timed → Held → Held
with_timed timed h = record h { value = Some timed }

values-above : (v : ValueMsg) (held : List Held) → AreAbove id_of v.id held → map (with_message v) held ≡ held
values-above v [] h = refl
values-above v (x ∷ held) h = rw (is-another x.id v.id h.0) (ap (λ hs. x ∷ hs) (values-above v held h.1))

pub value-missed : (v : ValueMsg) (held : List Held) (i : ℕ) → IsMissedAt id_of v.id held i
    → map (with_message v) held ≡ held
value-missed v [] zero at = refl
value-missed v [] (suc i) at = absurd at
value-missed v (h ∷ held) zero at = rw (is-another h.id v.id at.0) (ap (λ hs. h ∷ hs) (values-above v held at.1))
value-missed v (h ∷ held) (suc i) at = rw (is-other h.id v.id at.0) (ap (λ hs. h ∷ hs) (value-missed v held i at.1))

pub value-kept : (v : ValueMsg) (held : List Held) (i : ℕ) (h : Held) → IsFoundAt id_of v.id held i
    → h ≡ get_or held i h → is_cached h.props ≡ true
    → map (with_message v) held
    ≡ at_index (λ h. record h { value = Some (record { time = v.time; value = v.value }) }) i held
value-kept v [] i h at e cached = absurd at
value-kept v (x ∷ held) zero h at e cached =
    rw (is-same x.id v.id at.0, sym (ap (λ (y : Held). is_cached y.props) e) ∙ cached)
    (ap (λ hs. record x { value = Some (record { time = v.time; value = v.value }) } ∷ hs) (values-above v held at.1))
value-kept v (x ∷ held) (suc i) h at e cached =
    rw (is-other x.id v.id at.0) (ap (λ hs. x ∷ hs) (value-kept v held i h at.1 e cached))

pub value-passed : (v : ValueMsg) (held : List Held) (i : ℕ) (h : Held) → IsFoundAt id_of v.id held i
    → h ≡ get_or held i h → is_cached h.props ≡ false → map (with_message v) held ≡ held
value-passed v [] i h at e cached = absurd at
value-passed v (x ∷ held) zero h at e cached =
    rw (is-same x.id v.id at.0, sym (ap (λ (y : Held). is_cached y.props) e) ∙ cached)
    (ap (λ hs. x ∷ hs) (values-above v held at.1))
value-passed v (x ∷ held) (suc i) h at e cached =
    rw (is-other x.id v.id at.0) (ap (λ hs. x ∷ hs) (value-passed v held i h at.1 e cached))

-- ---- properties

pub any-last : (name : List ℕ) (held : List Held) (i : ℕ) → IsLastAt name held i → list_any (is_called name) held ≡ true
any-last name [] i at = absurd at
any-last name (h ∷ held) zero at = rw at.0 refl
any-last name (h ∷ held) (suc i) at = rw (any-last name held i at) (or-true (is_called name h))
  where
    or-true : (b : Bool) → (b || true) ≡ true
    or-true true = refl
    or-true false = refl

and-false : (b : Bool) → (b && false) ≡ false
and-false true = refl
and-false false = refl

pub properties-last : (name : List ℕ) (update : Data) (held : List Held) (i : ℕ) → IsLastAt name held i
    → after_properties name update held ≡ at_index (λ h. with_properties (updated h.props update) h) i held
properties-last name update [] i at = absurd at
properties-last name update (h ∷ held) zero at = rw (at.0, at.1) refl
properties-last name update (h ∷ held) (suc i) at =
    rw (any-last name held i at, and-false (is_called name h))
    (ap (λ hs. h ∷ hs) (properties-last name update held i at))

pub called-last : (name : List ℕ) (held : List Held) (i : ℕ) → IsLastAt name held i
    → last_called name held ≡ slice_get held i
called-last name [] i at = absurd at
called-last name (h ∷ held) zero at = rw (at.0, at.1) refl
called-last name (h ∷ held) (suc i) at =
    rw (any-last name held i at, and-false (is_called name h)) (called-last name held i at)

or-first : (a b : Bool) → (a || b) ≡ false → a ≡ false
or-first true b e = e
or-first false b e = refl

or-second : (a b : Bool) → (a || b) ≡ false → b ≡ false
or-second true b e = absurd (cc)
or-second false b e = e

pub properties-none : (name : List ℕ) (update : Data) (held : List Held) → list_any (is_called name) held ≡ false
    → after_properties name update held ≡ held
properties-none name update [] e = refl
properties-none name update (h ∷ held) e =
    rw (or-first (is_called name h) (list_any (is_called name) held) e)
    (ap (λ hs. h ∷ hs)
    (properties-none name update held (or-second (is_called name h) (list_any (is_called name) held) e)))

pub called-none : (name : List ℕ) (held : List Held) → list_any (is_called name) held ≡ false
    → last_called name held ≡ None
called-none name [] e = refl
called-none name (h ∷ held) e =
    rw (or-first (is_called name h) (list_any (is_called name) held) e)
    (called-none name held (or-second (is_called name h) (list_any (is_called name) held) e))

pub within-last : (name : List ℕ) (held : List Held) (i : ℕ) → IsLastAt name held i → i < length held
within-last name [] i at = absurd at
within-last name (h ∷ held) zero at = omega arith
within-last name (h ∷ held) (suc i) at = let later = within-last name held i at in omega arith

pub same-length : (held held-2 : List Held) → map outline held-2 ≡ map outline held → length held-2 ≡ length held
same-length [] [] e = refl
same-length [] (y ∷ held-2) e = absurd (cc)
same-length (x ∷ held) [] e = absurd (cc)
same-length (x ∷ held) (y ∷ held-2) e =
    let rest : map outline held-2 ≡ map outline held = cc in ap suc (same-length held held-2 rest)
