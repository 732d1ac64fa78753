-- Lists of entries and of turns that grow.
--     own-made, own-other        the entries of a worker, in a list with one entry more
--     made-more                  the entries that turns made, with one turn more
--     later-weaker, later-more   no turn has a later place
--     any-more                   whether a turn is so, with one turn more
--     starts-again, begins-longer, begins-none      what a list begins with
use Rattle.std.proofs.Common.{◌≡◌, ◌≢◌, ℕ, ◌+◌, ◌≤◌, List, [], ◌∷◌, ◌++◌, length, sym, refl, ap, ◌∙◌, arith, append_assoc, append-nil, eqb, eq-eqb, ne_eqb, Bool, true, false, ◌||◌, if◌then◌else◌}
use Rattle.std.specs.Prelude.{Option, Some}
use Rattle.nt_rules.specs.declared.act.Entry.{Entry}
use Rattle.nt_lock.specs.declared.view.Note.{Note}
use Rattle.nt_lock.specs.declared.view.Turn.{Turn}
use Rattle.nt_lock.specs.Turns.{StartsWith, Begins, own, own_from, made, made_in, NoneLater, any_turn}

-- ---- entries

abbrev one : ℕ → ℕ → Entry → List (ℕ × Entry)
one place worker e = if eqb e.worker worker then (place, e) ∷ [] else []

own-step : (b w : ℕ) (x e : Entry) (xs : List Entry) (t : Bool)
    → own_from (b + 1) w (xs ++ e ∷ []) ≡ own_from (b + 1) w xs ++ one (b + length (x ∷ xs) + 1) w e
    → (if t then (b + 1, x) ∷ own_from (b + 1) w (xs ++ e ∷ []) else own_from (b + 1) w (xs ++ e ∷ []))
    ≡ (if t then (b + 1, x) ∷ own_from (b + 1) w xs else own_from (b + 1) w xs) ++ one (b + length (x ∷ xs) + 1) w e
own-step b w x e xs true h = ap (λ l. (b + 1, x) ∷ l) h
own-step b w x e xs false h = h

own-more : (b w : ℕ) (xs : List Entry) (e : Entry)
    → own_from b w (xs ++ e ∷ []) ≡ own_from b w xs ++ one (b + length xs + 1) w e
own-more b w [] e = ap (λ (n : ℕ). one n w e) (let h : b + 1 ≡ b + length {A = Entry} [] + 1 = omega arith in h)
own-more b w (x ∷ xs) e =
    let h : b + 1 + length xs + 1 ≡ b + length (x ∷ xs) + 1 = omega arith in
    own-step b w x e xs (eqb x.worker w)
    (own-more (b + 1) w xs e ∙ ap (λ (n : ℕ). own_from (b + 1) w xs ++ one n w e) h)

pub own-made : (w : ℕ) (xs : List Entry) (e : Entry) → e.worker ≡ w
    → own w (xs ++ e ∷ []) ≡ own w xs ++ (length xs + 1, e) ∷ []
own-made w xs e is =
    own-more 0 w xs e
    ∙ (λ i. own w xs ++ (if eq-eqb e.worker w is i then (zero-plus i + 1, e) ∷ [] else []))
  where
    zero-plus : 0 + length xs ≡ length xs
    zero-plus = omega arith

pub own-other : (w : ℕ) (xs : List Entry) (e : Entry) → e.worker ≢ w → own w (xs ++ e ∷ []) ≡ own w xs
own-other w xs e other =
    own-more 0 w xs e
    ∙ ((λ i. own w xs ++ (if ne_eqb e.worker w other i then (0 + length xs + 1, e) ∷ [] else []))
    ∙ append-nil (own w xs))

pub starts-again : (list xs : List Entry) → list ≡ xs → StartsWith list xs
starts-again list xs e = ([], e ∙ sym (append-nil xs))

starts-longer : (list xs : List Entry) (e : Entry) → StartsWith list xs → StartsWith (list ++ e ∷ []) xs
starts-longer list xs e s = (s.0 ++ e ∷ [], ap (λ l. l ++ e ∷ []) s.1 ∙ append_assoc xs s.0 (e ∷ []))

pub begins-again : (told : Option (List Entry)) (list : List Entry) → told ≡ Some list → Begins told list
begins-again told list e = (list, e, starts-again list list refl)

pub begins-longer : (seen : Option (List Entry)) (list : List Entry) (e : Entry) → Begins seen list
    → Begins seen (list ++ e ∷ [])
begins-longer seen list e b = (b.0, b.1, starts-longer list b.0 e b.2)

pub begins-none : (list : List Entry) → Begins (Some []) list
begins-none list = ([], refl, (list, refl))

-- ---- turns

pub made-more : (ts : List Turn) (t : Turn) → made (ts ++ t ∷ []) ≡ made ts ++ made_in t.place t.note
made-more [] t = append-nil (made_in t.place t.note)
made-more (x ∷ xs) t =
    ap (λ l. made_in x.place x.note ++ l) (made-more xs t)
    ∙ sym (append_assoc (made_in x.place x.note) (made xs) (made_in t.place t.note))

pub later-weaker : (n m : ℕ) (ts : List Turn) → n ≤ m → NoneLater n ts → NoneLater m ts
later-weaker n m [] le h = tt
later-weaker n m (t ∷ ts) le h = let a = h.0 in (omega arith, later-weaker n m ts le h.1)

pub later-more : (n : ℕ) (ts : List Turn) (t : Turn) → NoneLater n ts → t.place ≤ n → NoneLater n (ts ++ t ∷ [])
later-more n [] t h le = (le, tt)
later-more n (x ∷ xs) t h le = (h.0, later-more n xs t h.1 le)

or-assoc : (a b c : Bool) → a || (b || c) ≡ (a || b) || c
or-assoc true b c = refl
or-assoc false b c = refl

or-false : (a : Bool) → a || false ≡ a
or-false true = refl
or-false false = refl

pub any-more : (f : Note → Bool) (ts : List Turn) (t : Turn) → any_turn f (ts ++ t ∷ []) ≡ any_turn f ts || f t.note
any-more f [] t = or-false (f t.note)
any-more f (x ∷ xs) t =
    ap (λ b. f x.note || b) (any-more f xs t) ∙ or-assoc (f x.note) (any_turn f xs) (f t.note)
