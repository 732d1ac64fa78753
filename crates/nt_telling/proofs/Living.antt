-- A life that goes on: what a client holds of it, as its keys are handed one after another.
use Rattle.std.proofs.Common.{◌≡◌, ℕ, pos, ◌+◌, ◌≤◌, ◌&&◌, max, nat_lt, Bool, true, false, cond, List, [], ◌∷◌, ◌++◌}
use Rattle.std.proofs.Common.{map, take, suc, zero, Option, Some, None, option_map, refl, sym, ap, subst, ◌∙◌, inl}
use Rattle.std.proofs.Common.{arith}
use Rattle.std.proofs.lemmas.Bool.{true≢false, and_parts, and_from, and_right, lt-ltb}
use Rattle.std.proofs.lemmas.Bool.Decides.{nat_tests}
use Rattle.serde_json.specs.Data.{Data}
use Rattle.nt_topics.specs.Properties.{updated, is_cached}
use Rattle.nt_rules.specs.declared.held.Held.{Held}
use Rattle.nt_rules.specs.declared.topic.Timed.{Timed}
use Rattle.nt_rules.specs.topics.Puts.{Put, timed}
use Rattle.nt_rules.specs.outbox.Marks.{is_meta}
use Rattle.nt_rules.specs.outbox.Keys.{Kind, Of_end, Of_publish, Of_setting, Of_topic, Of_value, Key}
use Rattle.nt_rules.specs.history.Lives.{Life, Setting, taken_since_turn}
use Rattle.nt_rules.specs.history.Owed.{put_value}
use Rattle.nt_rules.specs.telling.Told.{new_held, with_properties}
use Rattle.nt_topics.specs.Trees.{IsOrdered}
use Rattle.nt_telling.proofs.Updates.{applied, applied-again, ordered-updated}
use Rattle.nt_telling.proofs.Cached.{ValueOk, ok-updated, ok-announced, ok-first}
use Rattle.nt_telling.proofs.Holding.{announced, valued, updated_held}
use Rattle.nt_telling.proofs.Messages.{step, step_at, set_by, said_by, setting_at, put_at, runs}

-- ---- what the keys say that were given

-- of a life: whether it was announced, one more than the place of the last value that was handed, and the changes of
-- properties that are still to come
pub record State : Type 0 where
  pub shown : Bool
  pub next : ℕ
  pub pend : List Setting

abbrev pub after_first : List Setting → List Setting
after_first [] = []
after_first (s ∷ ss) = ss

abbrev pub noted_at : Kind → ℕ → State → State
noted_at Of_end place m = m
noted_at Of_publish place m = record m { shown = true }
noted_at Of_setting place m = record m { pend = after_first m.pend }
noted_at Of_topic place m = record m { shown = true }
noted_at Of_value place m = record m { next = max m.next (place + 1) }

abbrev pub noted : State → Key → State
noted m x = noted_at x.kind x.place m

abbrev pub notes : State → List Key → State
notes m [] = m
notes m (x ∷ xs) = notes (noted m x) xs

pub notes-append : (m : State) (xs ys : List Key) → notes m (xs ++ ys) ≡ notes (notes m xs) ys
notes-append m [] ys = refl
notes-append m (x ∷ xs) ys = notes-append (noted m x) xs ys

-- ---- what is held

-- a value fits a put; of a meta topic its time is nothing
abbrev pub FitsPut : Bool → Option Put → Option Timed → Type 0
FitsPut b None v = Unit {0}
FitsPut true (Some q) v = option_map (λ (t : Timed). t.value) v ≡ Some q.value
FitsPut false (Some q) v = v ≡ Some (timed q)

-- a value fits the last put that was handed, where that is there
abbrev pub Fits : Life → ℕ → Option Timed → Type 0
Fits l next v = (place : ℕ) → next ≡ place + 1 → FitsPut (is_meta l.id) (put_at place l) v

-- the last value that was handed is one since the turn of a topic that is cached
abbrev pub is_now : Life → ℕ → Bool
is_now l next = is_cached l.props && nat_lt l.turn next

-- a held topic is that of the life, once these updates came
pub record HeldOk (l : Life) (next : ℕ) (us : List Data) (h : Held) : Type 0 where
  pub id_is : h.id ≡ pos l.id
  pub name_is : h.name ≡ l.name
  pub typ_is : h.typ ≡ l.typ
  pub ordered : IsOrdered h.props
  pub follows : applied us h.props ≡ l.props
  pub value_ok : ValueOk (is_now l next) (Fits l next) us h.props h.value

abbrev pub ShownBy : Bool → Life → ℕ → List Data → Option Held → Type 0
ShownBy false l next us s = (s ≡ None) × (next ≡ 0) × (p : Data) × IsOrdered p × (applied us p ≡ l.props)
ShownBy true l next us s = (h : Held) × (s ≡ Some h) × HeldOk l next us h

abbrev pub updates : List Setting → List Data
updates ss = map (λ s. s.update) ss

abbrev pub ShownOk : Life → State → Option Held → Type 0
ShownOk l m s = ShownBy m.shown l m.next (updates m.pend) s

-- ---- how far values were handed

-- the last value that was handed isn't after the last that was taken since the turn, or it is before the turn
abbrev pub BoundBy : ℕ → ℕ → List Put → Type 0
BoundBy turn next [] = next ≤ turn
BoundBy turn next (p ∷ ps) = next ≤ p.place + 1

abbrev pub IsBounded : Life → ℕ → Type 0
IsBounded l next = BoundBy l.turn next (taken_since_turn l)

-- ---- one key

-- when a key may be handed
abbrev pub FineAt : Kind → Life → ℕ → State → Type 0
FineAt Of_end l place m = ⊥
FineAt Of_publish l place m = Unit {0}
FineAt Of_setting l place m =
    (s : Setting) × (rest : List Setting) × (m.pend ≡ s ∷ rest) × (s.place ≡ place) × (setting_at place l ≡ Some s)
FineAt Of_topic l place m = Unit {0}
FineAt Of_value l place m =
    (p : Put) × (put_at place l ≡ Some p) × (m.shown ≡ true) × (m.pend ≡ []) × (m.next ≤ place) × (l.turn ≤ place)
    × IsBounded l (place + 1)

abbrev pub FineAll : Life → State → List Key → Type 0
FineAll l m [] = Unit {0}
FineAll l m (x ∷ xs) = FineAt x.kind l x.place m × FineAll l (noted m x) xs

pub fine-take : (l : Life) (m : State) (n : ℕ) (xs : List Key) → FineAll l m xs → FineAll l m (take n xs)
fine-take l m zero xs f = tt
fine-take l m (suc n) [] f = tt
fine-take l m (suc n) (x ∷ xs) f = (f.0, fine-take l (noted m x) n xs f.1)

pub fine-append : (l : Life) (m : State) (xs ys : List Key) → FineAll l m xs → FineAll l (notes m xs) ys
    → FineAll l m (xs ++ ys)
fine-append l m [] ys f g = g
fine-append l m (x ∷ xs) ys f g = (f.0, fine-append l (noted m x) xs ys f.1 g)

not-below : (a b : ℕ) → b ≡ 0 → nat_lt a b ≡ false
not-below a b e = grind (arith, nat_tests)

never-now : (l : Life) (next : ℕ) → next ≡ 0 → is_now l next ≡ false
never-now l next e = and_right (is_cached l.props) (nat_lt l.turn next) (not-below l.turn next e)

-- an announce
announce-step : (l : Life) (next : ℕ) (us : List Data) (s : Option Held) → IsOrdered l.props → (b : Bool)
    → ShownBy b l next us s
    → ShownBy true l next us (Some (announced l.name (pos l.id) l.typ l.props s))
announce-step l next us s ordered false h = (
  new,
  ap (λ o. Some (announced l.name (pos l.id) l.typ l.props o)) h.0,
  record {
    id_is = refl;
    name_is = refl;
    typ_is = refl;
    ordered = ordered;
    follows = ap (applied us) (sym h.4) ∙ applied-again us h.2 h.3 ∙ h.4;
    value_ok = ok-first (is_now l next) (Fits l next) us l.props (never-now l next h.1);
  },
)
  where
    new : Held
    new = new_held l.name (pos l.id) l.typ l.props
announce-step l next us s ordered true h = (
  with_properties l.props h.0,
  ap (λ o. Some (announced l.name (pos l.id) l.typ l.props o)) h.1,
  record {
    id_is = h.2.id_is;
    name_is = h.2.name_is;
    typ_is = h.2.typ_is;
    ordered = ordered;
    follows = ap (applied us) (sym h.2.follows) ∙ applied-again us h.0.props h.2.ordered ∙ h.2.follows;
    value_ok = ok-announced (is_now l next) (Fits l next) us h.0.props l.props h.0.value h.2.ordered ordered
        (λ e. (and_parts (is_cached l.props) (nat_lt l.turn next) e).0) h.2.value_ok;
  },
)

-- an update of properties
update-step : (l : Life) (next : ℕ) (x : Setting) (us : List Data) (s : Option Held) (b : Bool)
    → ShownBy b l next (x.update ∷ us) s
    → ShownBy b l next us (option_map (updated_held x.update) s)
update-step l next x us s false h =
    (ap (option_map (updated_held x.update)) h.0, h.1, updated h.2 x.update, ordered-updated h.2 x.update h.3, h.4)
update-step l next x us s true h = (
  updated_held x.update h.0,
  ap (option_map (updated_held x.update)) h.1,
  record {
    id_is = h.2.id_is;
    name_is = h.2.name_is;
    typ_is = h.2.typ_is;
    ordered = ordered-updated h.0.props x.update h.2.ordered;
    follows = h.2.follows;
    value_ok = ok-updated (is_now l next) (Fits l next) x.update us h.0.props h.0.value h.2.value_ok;
  },
)

-- the value of a put, as it is told
told-put : (moment id : ℕ) (p : Put)
    → FitsPut (is_meta id) (Some p) (Some (record { time = cond (is_meta id) moment p.time; value = p.value }))
told-put moment id p = by (is_meta id)
  where
    by : (b : Bool) → FitsPut b (Some p) (Some (record { time = cond b moment p.time; value = p.value }))
    by true = refl
    by false = refl

value-step : (moment : ℕ) (l : Life) (next place : ℕ) (p : Put) (s : Option Held) → put_at place l ≡ Some p
    → next ≤ place → l.turn ≤ place
    → ShownBy true l next [] s → ShownBy true l (max next (place + 1)) []
    (option_map (valued (put_value moment l.id (Some p))) s)
value-step moment l next place p s found low turn h =
    subst (λ n. ShownBy true l n [] (option_map (valued (put_value moment l.id (Some p))) s)) (sym last) (
      valued (put_value moment l.id (Some p)) h.0,
      ap (option_map (valued (put_value moment l.id (Some p)))) h.1,
      by
          (is_cached h.0.props) refl,
    )
  where
    last : max next (place + 1) ≡ place + 1
    last = omega arith

    told : Held
    told = record h.0 { value = Some (record { time = cond (is_meta l.id) moment p.time; value = p.value }) }

    props : is_cached h.0.props ≡ is_cached l.props
    props = ap is_cached h.2.follows

    fits : Fits l (place + 1) told.value
    fits q e =
        let same : place ≡ q = omega arith in
        subst (λ o. FitsPut (is_meta l.id) o told.value) (sym found ∙ ap (λ i. put_at i l) same)
        (told-put moment l.id p)

    turned : nat_lt l.turn (place + 1) ≡ true
    turned = lt-ltb l.turn (place + 1) (omega arith)

    by : (b : Bool) → is_cached h.0.props ≡ b → HeldOk l (place + 1) [] (cond b told h.0)
    by true e = record {
      id_is = h.2.id_is;
      name_is = h.2.name_is;
      typ_is = h.2.typ_is;
      ordered = h.2.ordered;
      follows = h.2.follows;
      value_ok = record {
        is_now = λ f. (fits, e);
        not_now = λ f. absurd (true≢false
            (sym (and_from (is_cached l.props) (nat_lt l.turn (place + 1)) (sym props ∙ e) turned) ∙ f));
        uncached = λ f. absurd (true≢false (sym e ∙ f));
      };
    }
    by false e = record {
      id_is = h.2.id_is;
      name_is = h.2.name_is;
      typ_is = h.2.typ_is;
      ordered = h.2.ordered;
      follows = h.2.follows;
      value_ok = record {
        is_now = λ f. absurd (true≢false
            (sym (and_parts (is_cached l.props) (nat_lt l.turn (place + 1)) f).0 ∙ (sym props ∙ e)));
        not_now = λ f. inl (h.2.value_ok.uncached e);
        uncached = λ f. h.2.value_ok.uncached f;
      };
    }

pub own-step : (moment : ℕ) (l : Life) (m : State) (x : Key) (s : Option Held) → IsOrdered l.props
    → FineAt x.kind l x.place m → ShownOk l m s
    → ShownOk l (noted m x) (step moment l x s)
own-step moment l m x s ordered fine h = at x.kind fine
  where
    at : (kind : Kind) → FineAt kind l x.place m → ShownOk l (noted_at kind x.place m) (step_at kind moment l x.place s)
    at Of_end f = absurd f
    at Of_publish f = announce-step l m.next (updates m.pend) s ordered m.shown h
    at Of_topic f = announce-step l m.next (updates m.pend) s ordered m.shown h
    at Of_setting f =
        subst (λ o. ShownBy m.shown l m.next (updates (after_first m.pend)) (set_by o s)) (sym f.4)
        (subst (λ ss. ShownBy m.shown l m.next (updates (after_first ss)) (option_map (updated_held f.0.update) s))
        (sym f.2)
        (update-step l m.next f.0 (updates f.1) s m.shown
        (subst (λ ss. ShownBy m.shown l m.next (updates ss) s) f.2 h)))
    at Of_value f =
        subst (λ o. ShownBy m.shown l (max m.next (x.place + 1)) (updates m.pend) (said_by moment l.id o s)) (sym f.1)
        (subst (λ b. ShownBy b l (max m.next (x.place + 1)) (updates m.pend)
        (option_map (valued (put_value moment l.id (Some f.0))) s)) (sym f.2)
        (subst (λ ss. ShownBy true l (max m.next (x.place + 1)) (updates ss)
        (option_map (valued (put_value moment l.id (Some f.0))) s)) (sym f.3)
        (value-step moment l m.next x.place f.0 s f.1 f.4 f.5
        (subst (λ ss. ShownBy true l m.next (updates ss) s) f.3
        (subst (λ b. ShownBy b l m.next (updates m.pend) s) f.2 h)))))

-- ---- many keys

pub own-run : (moment : ℕ) (l : Life) (m : State) (xs : List Key) (s : Option Held) → IsOrdered l.props
    → FineAll l m xs → ShownOk l m s
    → ShownOk l (notes m xs) (runs moment l xs s)
own-run moment l m [] s ordered f h = h
own-run moment l m (x ∷ xs) s ordered f h =
    own-run moment l (noted m x) xs (step moment l x s) ordered f.1 (own-step moment l m x s ordered f.0 h)

-- ---- bounds

pub bounded-step : (l : Life) (m : State) (x : Key) → FineAt x.kind l x.place m → IsBounded l m.next
    → IsBounded l (noted m x).next
bounded-step l m x f h = at x.kind f
  where
    both : (ps : List Put) → BoundBy l.turn m.next ps → BoundBy l.turn (x.place + 1) ps
        → BoundBy l.turn (max m.next (x.place + 1)) ps
    both [] a b = omega arith
    both (p ∷ ps) a b = omega arith

    at : (kind : Kind) → FineAt kind l x.place m → IsBounded l (noted_at kind x.place m).next
    at Of_end f = absurd f
    at Of_publish f = h
    at Of_setting f = h
    at Of_topic f = h
    at Of_value f = both (taken_since_turn l) h f.6

pub bounded-run : (l : Life) (m : State) (xs : List Key) → FineAll l m xs → IsBounded l m.next
    → IsBounded l (notes m xs).next
bounded-run l m [] f h = h
bounded-run l m (x ∷ xs) f h = bounded-run l (noted m x) xs f.1 (bounded-step l m x f.0 h)
