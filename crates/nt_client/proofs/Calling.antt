-- Where the last topic of a name is, by the ids that are noted under it.
use Rattle.std.proofs.Common.{◌≡◌, ◌⊎◌, ◌<◌, ℕ, zero, suc, ℤ, Bool, true, false, ltb, ◌||◌, List, [], ◌∷◌, length, get_or, inl, inr, refl, sym, ◌∙◌, ap, subst, arith}
use Rattle.std.specs.Prelude.{remove, ◌<ℤ◌}
use Rattle.std.specs.List.{list_any, Contains, AllByRecursion}
use Rattle.std.proofs.lemmas.Int.{ints}
use Rattle.std.proofs.lemmas.Bool.Decides.{nat_tests}
use Rattle.std.proofs.lemmas.Slice.Eq.{bytes_eq-Decides}
use Rattle.nt_rules.specs.declared.held.Held.{Held}
use Rattle.nt_rules.specs.telling.Told.{is_called}
use Rattle.nt_client.specs.declared.names.Names.{Names}
use Rattle.nt_client.specs.Sorted.{AreAbove, Rise, IsFoundAt, IsMissedAt}
use Rattle.nt_client.specs.Names.{ids_at, itself, AreInOrder, IsNoted, OthersStayNoted}
use Rattle.nt_client.specs.Kept.{id_of, is_of, AreNoted, IsCalledAt, IsCalledNowhere, IsKept, IsLastAt}
use Rattle.nt_client.proofs.Search.{is-same, is-other, is-another, rises-apart}

-- ---- one id

pub called-at : (id : ℤ) (name : List ℕ) (held : List Held) (i : ℕ) (h : Held) → IsFoundAt id_of id held i
    → h ≡ get_or held i h → is_called name h ≡ true → IsCalledAt id name held i
called-at id name [] i h at e called = absurd at
called-at id name (x ∷ held) zero h at e called = (at.0, sym (ap (is_called name) e) ∙ called, at.1)
called-at id name (x ∷ held) (suc i) h at e called = (at.0, called-at id name held i h at.1 e called)

nowhere-above : (id : ℤ) (name : List ℕ) (held : List Held) → AreAbove id_of id held → IsCalledNowhere id name held
nowhere-above id name [] h = refl
nowhere-above id name (x ∷ held) h = rw (is-another x.id id h.0) (nowhere-above id name held h.1)

pub nowhere-missed : (id : ℤ) (name : List ℕ) (held : List Held) (i : ℕ) → IsMissedAt id_of id held i
    → IsCalledNowhere id name held
nowhere-missed id name [] zero at = refl
nowhere-missed id name [] (suc i) at = absurd at
nowhere-missed id name (x ∷ held) zero at = rw (is-another x.id id at.0) (nowhere-above id name held at.1)
nowhere-missed id name (x ∷ held) (suc i) at = rw (is-other x.id id at.0) (nowhere-missed id name held i at.1)

pub nowhere-found : (id : ℤ) (name : List ℕ) (held : List Held) (i : ℕ) (h : Held) → IsFoundAt id_of id held i
    → h ≡ get_or held i h → is_called name h ≡ false → IsCalledNowhere id name held
nowhere-found id name [] i h at e other = absurd at
nowhere-found id name (x ∷ held) zero h at e other =
    rw (is-same x.id id at.0, sym (ap (is_called name) e) ∙ other) (nowhere-above id name held at.1)
nowhere-found id name (x ∷ held) (suc i) h at e other =
    rw (is-other x.id id at.0) (nowhere-found id name held i h at.1 e other)

-- nor is it where it was taken out
pub nowhere-removed : (id : ℤ) (name : List ℕ) (held : List Held) (i : ℕ) → IsFoundAt id_of id held i
    → IsCalledNowhere id name (remove held i)
nowhere-removed id name [] i at = absurd at
nowhere-removed id name (x ∷ held) zero at = nowhere-above id name held at.1
nowhere-removed id name (x ∷ held) (suc i) at =
    rw (is-other x.id id at.0) (nowhere-removed id name held i at.1)

-- ---- the last of several

or-first : (a b : Bool) → (a || b) ≡ false → a ≡ false
or-first true b e = e
or-first false b e = refl

or-second : (a b : Bool) → (a || b) ≡ false → b ≡ false
or-second true b e = absurd (cc)
or-second false b e = e

-- where no topic is called so of any id that is noted under the name, none is
none-called : (names : Names) (name : List ℕ) (held : List Held) (Meant : ℤ → Type 0) → AreNoted names held
    → AllByRecursion (λ h. Meant h.id) held
    → ((id : ℤ) → Contains (ids_at names name) id → Meant id → IsCalledNowhere id name held)
    → list_any (is_called name) held ≡ false
none-called names name [] Meant noted meant nowhere = refl
none-called names name (h ∷ held) Meant noted meant nowhere =
    by (is_called name h) refl
    (none-called names name held Meant noted.1 meant.1
    (λ id here is. or-second (is_of id name h) (list_any (is_of id name) held) (nowhere id here is)))
  where
    by : (b : Bool) → is_called name h ≡ b → list_any (is_called name) held ≡ false
        → (b || list_any (is_called name) held) ≡ false
    by false e rest = rest
    by true e rest =
        let same : h.name ≡ name = (bytes_eq-Decides h.name name).0 e in
        let here : Contains (ids_at names name) h.id = subst (λ (n : List ℕ). IsNoted names n h.id) same noted.0 in
        let none = or-first (is_of h.id name h) (list_any (is_of h.id name) held) (nowhere h.id here meant.0) in
        let yes : is_of h.id name h ≡ true = rw (is-same h.id h.id refl) e in
        absurd (cc)

all-meant : (held : List Held) → AllByRecursion (λ (h : Held). Unit {0}) held
all-meant [] = tt
all-meant (h ∷ held) = (tt, all-meant held)

-- no id is left
pub called-none : (names : Names) (name : List ℕ) (held : List Held) → AreNoted names held
    → ((k : ℕ) (d : ℤ) → k < length (ids_at names name) → IsCalledNowhere (get_or (ids_at names name) k d) name held)
    → list_any (is_called name) held ≡ false
called-none names name held noted nowhere =
    none-called names name held (λ id. Unit {0}) noted (all-meant held)
    (λ id here is. subst (λ (z : ℤ). IsCalledNowhere z name held) here.2 (nowhere here.0 id here.1))

above-meant : (id : ℤ) (held : List Held) → AreAbove id_of id held → AllByRecursion (λ (h : Held). id <ℤ h.id) held
above-meant id [] h = tt
above-meant id (x ∷ held) h = (h.0, above-meant id held h.1)

-- of ids that rise, one that is greater comes later
later : (ids : List ℤ) (i j : ℕ) (d : ℤ) → Rise itself ids → i < length ids → j < length ids
    → get_or ids i d <ℤ get_or ids j d → i < j
later ids i j d rise lt-i lt-j less = by (ltb i j) refl (ltb j i) refl
  where
    by : (b : Bool) → ltb i j ≡ b → (c : Bool) → ltb j i ≡ c → i < j
    by true e c f = grind (arith, nat_tests)
    by false e true f =
        let before : j < i = grind (arith, nat_tests) in
        let more = rises-apart itself ids j i d rise before lt-i in
        absurd (omega (arith, ints))
    by false e false f =
        let same : i ≡ j = grind (arith, nat_tests) in
        let less-2 = subst (λ (k : ℕ). get_or ids i d <ℤ get_or ids k d) (sym same) less in
        absurd (omega (arith, ints))

pub any-default : (ids : List ℤ) (k : ℕ) (d-1 d-2 : ℤ) → k < length ids → get_or ids k d-1 ≡ get_or ids k d-2
any-default [] k d-1 d-2 lt = absurd (omega arith)
any-default (z ∷ ids) zero d-1 d-2 lt = refl
any-default (z ∷ ids) (suc k) d-1 d-2 lt = any-default ids k d-1 d-2 (omega arith)

pub called-last : (names : Names) (name : List ℕ) (held : List Held) (left i : ℕ) (id : ℤ) → AreNoted names held
    → Rise itself (ids_at names name) → left < length (ids_at names name) → id ≡ get_or (ids_at names name) left id
    → ((k : ℕ) (d : ℤ) → left < k → k < length (ids_at names name)
    → IsCalledNowhere (get_or (ids_at names name) k d) name held)
    → IsCalledAt id name held i → IsLastAt name held i
called-last names name [] left i id noted rise lt e nowhere at = absurd at
called-last names name (h ∷ held) left zero id noted rise lt e nowhere at = (
  at.1,
  none-called names name held (λ z. id <ℤ z) noted.1 (above-meant id held at.2)
      (λ z here more.
      let same : get_or (ids_at names name) here.0 z ≡ z = here.2 in
      let is : id ≡ get_or (ids_at names name) left z = e ∙ any-default (ids_at names name) left id z lt in
      let after : left < here.0 =
      later (ids_at names name) left here.0 z rise lt here.1
      (subst (λ (w : ℤ). w <ℤ get_or (ids_at names name) here.0 z) is
      (subst (λ (w : ℤ). id <ℤ w) (sym same) more)) in
      or-second (is_of z name h) (list_any (is_of z name) held)
      (subst (λ (w : ℤ). IsCalledNowhere w name (h ∷ held)) same (nowhere here.0 z after here.1))),
)
called-last names name (h ∷ held) left (suc i) id noted rise lt e nowhere at =
    called-last names name held left i id noted.1 rise lt e
    (λ k d less within. or-second (is_of (get_or (ids_at names name) k d) name h)
    (list_any (is_of (get_or (ids_at names name) k d) name) held) (nowhere k d less within)) at.1

-- ---- a name that is forgotten

noted-but : (id : ℤ) (name : List ℕ) (names names-2 : Names) (held : List Held) → IsCalledNowhere id name held
    → OthersStayNoted name id names names-2 → AreNoted names held → AreNoted names-2 held
noted-but id name names names-2 [] nowhere others all = tt
noted-but id name names names-2 (h ∷ held) nowhere others all = (
  by (others h.name h.id all.0),
  noted-but id name names names-2 held (or-second (is_of id name h) (list_any (is_of id name) held) nowhere) others
      all.1,
)
  where
    by : ((h.name ≡ name) × (h.id ≡ id)) ⊎ IsNoted names-2 h.name h.id → IsNoted names-2 h.name h.id
    by (inr here) = here
    by (inl same) =
        let called : is_called name h ≡ true = (bytes_eq-Decides h.name name).1 same.0 in
        let yes : is_of id name h ≡ true = rw (is-same h.id id same.1) called in
        let none = or-first (is_of id name h) (list_any (is_of id name) held) nowhere in
        absurd (cc)

pub kept-but : (id : ℤ) (name : List ℕ) (names names-2 : Names) (held : List Held) → IsCalledNowhere id name held
    → OthersStayNoted name id names names-2 → AreInOrder names-2 → IsKept names held → IsKept names-2 held
kept-but id name names names-2 held nowhere others order k = record {
  rising = k.rising;
  noted = noted-but id name names names-2 held nowhere others k.noted;
  in_order = order;
}
