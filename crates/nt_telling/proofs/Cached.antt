-- The value that is told of a topic, by the updates of its properties that are still to come: it counts now, or it
-- goes.
use Rattle.std.proofs.Common.{◌≡◌, Bool, true, false, cond, List, [], ◌∷◌, ◌++◌, Option, Some, None, option_and_then}
use Rattle.std.proofs.Common.{unwrap_or, codes, refl, sym, ap, subst, ◌∙◌, ◌⊎◌, inl, inr}
use Rattle.std.proofs.lemmas.Bool.{true≢false, cases_Bool}
use Rattle.serde_json.specs.Data.{Data}
use Rattle.serde_json.specs.Find.{as_bool}
use Rattle.nt_topics.specs.Properties.{updated, is_cached, members_in}
use Rattle.nt_topics.proofs.Keys.{get-members_in}
use Rattle.nt_rules.specs.declared.topic.Timed.{Timed}
use Rattle.nt_topics.specs.Trees.{IsOrdered}
use Rattle.nt_telling.proofs.Updates.{applied, at_key, at_key-updated, said_of, over, ordered-updated}

-- cached, and after each of the updates
abbrev pub AllCached : List Data → Data → Type 0
AllCached [] p = is_cached p ≡ true
AllCached (u ∷ us) p = (is_cached p ≡ true) × AllCached us (updated p u)

-- one of the updates leaves it uncached
abbrev pub Drops : List Data → Data → Type 0
Drops [] p = ⊥
Drops (u ∷ us) p = (is_cached (updated p u) ≡ false) ⊎ Drops us (updated p u)

pub cached-head : (us : List Data) (p : Data) → AllCached us p → is_cached p ≡ true
cached-head [] p h = h
cached-head (u ∷ us) p h = h.0

-- whether a topic is cached, by the member that says so
abbrev cached_by : Option Data → Bool
cached_by o = unwrap_or (option_and_then as_bool o) true

cached-is : (p : Data) → is_cached p ≡ cached_by (at_key (codes "cached") p)
cached-is p = ap cached_by (get-members_in (codes "cached") p)

over-alike : (o : Option (Option Data)) (a b : Option Data) → cached_by a ≡ cached_by b
    → cached_by (over o a) ≡ cached_by (over o b)
over-alike None a b e = e
over-alike (Some x) a b e = refl

-- an update makes alike topics alike
pub alike : (u p q : Data) → IsOrdered p → IsOrdered q → is_cached p ≡ is_cached q
    → is_cached (updated p u) ≡ is_cached (updated q u)
alike u p q hp hq e =
    cached-is (updated p u)
    ∙ ap cached_by (at_key-updated (codes "cached") p u hp)
    ∙ over-alike (said_of (codes "cached") (members_in u)) (at_key (codes "cached") p) (at_key (codes "cached") q)
    (sym (cached-is p) ∙ e ∙ cached-is q)
    ∙ sym (cached-is (updated q u) ∙ ap cached_by (at_key-updated (codes "cached") q u hq))

pub cached-again : (us : List Data) (p q : Data) → IsOrdered p → IsOrdered q → is_cached q ≡ true → AllCached us p
    → AllCached us q
cached-again [] p q hp hq e h = e
cached-again (u ∷ us) p q hp hq e h = (
  e,
  cached-again us (updated p u) (updated q u) (ordered-updated p u hp) (ordered-updated q u hq)
      (sym (alike u p q hp hq (h.0 ∙ sym e)) ∙ cached-head us (updated p u) h.1) h.1,
)

pub drops-again : (us : List Data) (p q : Data) → IsOrdered p → IsOrdered q → is_cached p ≡ is_cached q → Drops us p
    → Drops us q
drops-again [] p q hp hq e h = h
drops-again (u ∷ us) p q hp hq e (inl h) = inl (sym (alike u p q hp hq e) ∙ h)
drops-again (u ∷ us) p q hp hq e (inr h) =
    inr (drops-again us (updated p u) (updated q u) (ordered-updated p u hp) (ordered-updated q u hq)
    (alike u p q hp hq e) h)

pub cached-more : (us : List Data) (u p : Data) → AllCached us p → is_cached (applied (us ++ u ∷ []) p) ≡ true
    → AllCached (us ++ u ∷ []) p
cached-more [] u p h e = (h, e)
cached-more (w ∷ us) u p h e = (h.0, cached-more us u (updated p w) h.1 e)

pub drops-more : (us ws : List Data) (p : Data) → Drops us p → Drops (us ++ ws) p
drops-more [] ws p h = absurd h
drops-more (u ∷ us) ws p (inl h) = inl h
drops-more (u ∷ us) ws p (inr h) = inr (drops-more us ws (updated p u) h)

pub drops-last : (us : List Data) (u p : Data) → is_cached (applied (us ++ u ∷ []) p) ≡ false → Drops (us ++ u ∷ []) p
drops-last [] u p e = inl e
drops-last (w ∷ us) u p e = inr (drops-last us u (updated p w) e)

-- ---- the value

-- what is told of the properties and of the value, before these updates: where the last value that was handed is one
-- since the turn of a topic that is cached, that value fits and stays; where it isn't, no value is held or it goes
pub record ValueOk (now : Bool) (Fits : Option Timed → Type 0) (us : List Data) (p : Data)
    (v : Option Timed) : Type 0 where
  pub is_now : now ≡ true → Fits v × AllCached us p
  pub not_now : now ≡ false → (v ≡ None) ⊎ Drops us p
  pub uncached : is_cached p ≡ false → v ≡ None

-- the value that is kept with these properties
abbrev pub kept_with : Data → Option Timed → Option Timed
kept_with p v = cond (is_cached p) v None

kept-none : (b : Bool) (v : Option Timed) → v ≡ None → cond b v None ≡ None
kept-none true v e = e
kept-none false v e = refl

kept-yes : (b : Bool) (v : Option Timed) → b ≡ true → v ≡ cond b v None
kept-yes true v e = refl
kept-yes false v e = absurd (true≢false (sym e))

kept-no : (b : Bool) (v : Option Timed) → b ≡ false → cond b v None ≡ None
kept-no false v e = refl
kept-no true v e = absurd (true≢false e)

-- an update comes
pub ok-updated : (now : Bool) (Fits : Option Timed → Type 0) (u : Data) (us : List Data) (p : Data) (v : Option Timed)
    → ValueOk now Fits (u ∷ us) p v → ValueOk now Fits us (updated p u) (kept_with (updated p u) v)
ok-updated now Fits u us p v h = record {
  is_now = λ e.
      let n = h.is_now e in
      (subst Fits (kept-yes (is_cached (updated p u)) v (cached-head us (updated p u) n.1.1)) n.0, n.1.1);
  not_now = λ e. by_drop (h.not_now e);
  uncached = λ e. kept-no (is_cached (updated p u)) v e;
}
  where
    by_drop : (v ≡ None) ⊎ Drops (u ∷ us) p → (kept_with (updated p u) v ≡ None) ⊎ Drops us (updated p u)
    by_drop (inl e) = inl (kept-none (is_cached (updated p u)) v e)
    by_drop (inr (inl e)) = inl (kept-no (is_cached (updated p u)) v e)
    by_drop (inr (inr d)) = inr d

-- an announce comes again, with these properties
pub ok-announced : (now : Bool) (Fits : Option Timed → Type 0) (us : List Data) (p q : Data) (v : Option Timed)
    → IsOrdered p → IsOrdered q → (now ≡ true → is_cached q ≡ true)
    → ValueOk now Fits us p v → ValueOk now Fits us q (kept_with q v)
ok-announced now Fits us p q v hp hq on h = record {
  is_now = λ e.
      let n = h.is_now e in
      (subst Fits (kept-yes (is_cached q) v (on e)) n.0, cached-again us p q hp hq (on e) n.1);
  not_now = λ e. by_drop (h.not_now e) (cases_Bool (is_cached q)) (cases_Bool (is_cached p));
  uncached = λ e. kept-no (is_cached q) v e;
}
  where
    by_drop : (v ≡ None) ⊎ Drops us p → (is_cached q ≡ true) ⊎ (is_cached q ≡ false) → (is_cached p ≡ true)
        ⊎ (is_cached p ≡ false)
        → (kept_with q v ≡ None) ⊎ Drops us q
    by_drop (inl e) c d = inl (kept-none (is_cached q) v e)
    by_drop (inr d) (inr c) x = inl (kept-no (is_cached q) v c)
    by_drop (inr d) (inl c) (inr x) = inl (kept-none (is_cached q) v (h.uncached x))
    by_drop (inr d) (inl c) (inl x) = inr (drops-again us p q hp hq (x ∙ sym c) d)

-- the first announce
pub ok-first : (now : Bool) (Fits : Option Timed → Type 0) (us : List Data) (q : Data) → now ≡ false
    → ValueOk now Fits us q None
ok-first now Fits us q e =
    record { is_now = λ f. absurd (true≢false (sym f ∙ e)); not_now = λ f. inl refl; uncached = λ f. refl }
