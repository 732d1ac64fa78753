-- Names that are joined of two parts, and what is found by name.
use Rattle.std.proofs.Common.{◌≡◌, ◌≢◌, ℕ, Bool, true, false, List, [], ◌∷◌, ◌++◌, map, Option, Some, None, option_map, refl, ap, sym, ◌∙◌, bytes_eq, codes, cond}
use Rattle.std.specs.Option.{option_or}
use Rattle.std.specs.List.{find}
use Rattle.std.proofs.lemmas.List.{append_cancel_left}
use Rattle.std.proofs.lemmas.List.Folds.{find-append}
use Rattle.std.proofs.lemmas.Slice.Eq.{bytes_eq-Decides}
use Rattle.nt_rules.specs.declared.roster.ConnRow.{ConnRow}
use Rattle.nt_rules.specs.declared.roster.LifeRow.{LifeRow}
use Rattle.nt_rules.specs.declared.roster.Roster.{Roster}
use Rattle.nt_rules.specs.declared.meta.MetaNow.{MetaNow}
use Rattle.nt_rules.specs.meta.Meta.{topic_pub, topic_sub, client_pub, client_sub, clients, server_pub, server_sub, is_named, named_in}

same-tests : (a b : Bool) → (a ≡ true → b ≡ true) → (b ≡ true → a ≡ true) → a ≡ b
same-tests true b f g = sym (f refl)
same-tests false true f g = g refl
same-tests false false f g = refl

-- a name that begins with the prefix is the joined one exactly where the rest is the key
pub joined-rest : (prefix key name rest : List ℕ) → name ≡ prefix ++ rest
    → bytes_eq rest key ≡ bytes_eq (prefix ++ key) name
joined-rest prefix key name rest e =
    same-tests _ _
    (λ h. (bytes_eq-Decides (prefix ++ key) name).1
    (ap (λ z. prefix ++ z) (sym ((bytes_eq-Decides rest key).0 h)) ∙ sym e))
    (λ h. (bytes_eq-Decides rest key).1
    (sym (append_cancel_left prefix key rest ((bytes_eq-Decides (prefix ++ key) name).0 h ∙ e))))

-- another is none
pub joined-none : (prefix key name : List ℕ) → ((rest : List ℕ) → name ≢ prefix ++ rest)
    → false ≡ bytes_eq (prefix ++ key) name
joined-none prefix key name none =
    same-tests false (bytes_eq (prefix ++ key) name) (λ h. absurd (cc))
    (λ h. absurd (none key (sym ((bytes_eq-Decides (prefix ++ key) name).0 h))))

-- ---- what is found

find-map : {X Y : Type 0} (test : Y → Bool) (f : X → Y) (xs : List X)
    → find test (map f xs) ≡ option_map f (find (λ x. test (f x)) xs)
find-map test f [] = refl
find-map test f (x ∷ xs) = by (test (f x)) (find-map test f xs)
  where
    by : (b : Bool) → find test (map f xs) ≡ option_map f (find (λ x. test (f x)) xs)
        → cond b (Some (f x)) (find test (map f xs))
        ≡ option_map f (cond b (Some x) (find (λ x. test (f x)) xs))
    by true rest = refl
    by false rest = rest

abbrev pub life_at : List ℕ → Roster → List ℕ → Option LifeRow
life_at prefix r name = find (λ t. bytes_eq (prefix ++ t.name) name) r.topics

abbrev pub conn_at : List ℕ → Roster → List ℕ → Option ConnRow
conn_at prefix r name = find (λ c. bytes_eq (prefix ++ c.name) name) r.conns

-- the first of some items, and else what is found behind them
found-behind : {X : Type 0} (name : List ℕ) (f : X → MetaNow) (xs : List X) (ys : List MetaNow)
    → find (is_named name) (map f xs ++ ys)
    ≡ option_or (option_map f (find (λ x. is_named name (f x)) xs)) (find (is_named name) ys)
found-behind name f xs ys =
    find-append (is_named name) (map f xs) ys
    ∙ ap (λ z. option_or z (find (is_named name) ys)) (find-map (is_named name) f xs)

-- the first of what was found of each kind
abbrev pub first_of : Roster → Option LifeRow → Option LifeRow → Option ConnRow → Option ConnRow
    → Option MetaNow
    → Option MetaNow
first_of r a b c d e =
    option_or (option_map (topic_pub r) a) (option_or (option_map (topic_sub r) b)
    (option_or (option_map client_pub c) (option_or (option_map client_sub d) e)))

-- what is found by a name, kind by kind
abbrev A : Roster → List ℕ → Option LifeRow
A r name = life_at (codes "$pub$") r name

abbrev B : Roster → List ℕ → Option LifeRow
B r name = life_at (codes "$sub$") r name

abbrev C : Roster → List ℕ → Option ConnRow
C r name = conn_at (codes "$client_pub$") r name

abbrev D : Roster → List ℕ → Option ConnRow
D r name = conn_at (codes "$client_sub$") r name

abbrev E : Roster → List ℕ → Option MetaNow
E r name = find (is_named name) (clients r ∷ server_pub ∷ server_sub ∷ [])

found-first : (r : Roster) (name : List ℕ)
    → named_in r name ≡ first_of r (A r name) (B r name) (C r name) (D r name) (E r name)
found-first r name =
    found-behind name (topic_pub r) r.topics _
    ∙ ap (λ z. option_or (option_map (topic_pub r) (A r name)) z)
    (found-behind name (topic_sub r) r.topics _
    ∙ ap (λ z. option_or (option_map (topic_sub r) (B r name)) z)
    (found-behind name client_pub r.conns _
    ∙ ap (λ z. option_or (option_map client_pub (C r name)) z)
    (found-behind name client_sub r.conns _)))

-- where nothing was found of the kinds before
pub found-topic_pub : (r : Roster) (name : List ℕ) (x : LifeRow) → Some x ≡ A r name → Some (topic_pub r x)
    ≡ named_in r name
found-topic_pub r name x e =
    ap (λ a. first_of r a (B r name) (C r name) (D r name) (E r name)) e ∙ sym (found-first r name)

pub found-topic_sub : (r : Roster) (name : List ℕ) (x : LifeRow) → None ≡ A r name → Some x ≡ B r name
    → Some (topic_sub r x) ≡ named_in r name
found-topic_sub r name x a e =
    ap (λ b. first_of r None b (C r name) (D r name) (E r name)) e
    ∙ ap (λ a. first_of r a (B r name) (C r name) (D r name) (E r name)) a ∙ sym (found-first r name)

pub found-client_pub : (r : Roster) (name : List ℕ) (x : ConnRow) → None ≡ A r name → None ≡ B r name
    → Some x ≡ C r name
    → Some (client_pub x) ≡ named_in r name
found-client_pub r name x a b e =
    ap (λ c. first_of r None None c (D r name) (E r name)) e
    ∙ ap (λ b. first_of r None b (C r name) (D r name) (E r name)) b
    ∙ ap (λ a. first_of r a (B r name) (C r name) (D r name) (E r name)) a ∙ sym (found-first r name)

pub found-client_sub : (r : Roster) (name : List ℕ) (x : ConnRow) → None ≡ A r name → None ≡ B r name → None
    ≡ C r name
    → Some x ≡ D r name → Some (client_sub x) ≡ named_in r name
found-client_sub r name x a b c e =
    ap (λ d. first_of r None None None d (E r name)) e
    ∙ ap (λ c. first_of r None None c (D r name) (E r name)) c
    ∙ ap (λ b. first_of r None b (C r name) (D r name) (E r name)) b
    ∙ ap (λ a. first_of r a (B r name) (C r name) (D r name) (E r name)) a ∙ sym (found-first r name)

pub found-server : (r : Roster) (name : List ℕ) (x : Option MetaNow) → None ≡ A r name → None ≡ B r name
    → None ≡ C r name
    → None ≡ D r name → x ≡ E r name → x ≡ named_in r name
found-server r name x a b c d e =
    e ∙ ap (λ d. first_of r None None None d (E r name)) d
    ∙ ap (λ c. first_of r None None c (D r name) (E r name)) c
    ∙ ap (λ b. first_of r None b (C r name) (D r name) (E r name)) b
    ∙ ap (λ a. first_of r a (B r name) (C r name) (D r name) (E r name)) a ∙ sym (found-first r name)
