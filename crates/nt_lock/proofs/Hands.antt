-- The hands of a seat.
--     all-more, all-mono               what holds of all hands
--     times-more, any-hands            how often a worker stands among hands, and whether a turn of a hand is so
--     counts-one, counts-none          whether a hand is the worker's, as a number
--     stands-once                      a worker who stands among hands
--     agrees-else                      hands of other workers agree with the list with an entry
--     past-weaker                      and their turns are past later on
--     turned-times                     a turn leaves the workers as they are
use Rattle.std.proofs.Common.{◌≡◌, ◌≢◌, ℕ, zero, suc, ◌+◌, ◌≤◌, List, [], ◌∷◌, ◌++◌, sym, refl, ap, ◌∙◌, arith, eqb, eq-eqb, ne_eqb, Bool, true, false, ◌||◌, if◌then◌else◌}
use Rattle.std.specs.Prelude.{Option}
use Rattle.std.specs.List.{AllByRecursion}
use mathlib.Core.Option.{some, some-injective, some-ne-none}
use lib.ListN.{get_elem?}
use Rattle.nt_rules.specs.declared.act.Entry.{Entry}
use Rattle.nt_lock.specs.declared.view.Note.{Note}
use Rattle.nt_lock.specs.declared.view.Turn.{Turn}
use Rattle.nt_lock.specs.declared.view.Hand.{Hand}
use Rattle.nt_lock.specs.Turns.{any_turn, any_hand, times}
use Rattle.nt_lock.specs.Knowledge.{Agrees, IsPast}
use Rattle.nt_lock.specs.Steps.{turned_hands}
use Rattle.nt_lock.proofs.Growth.{own-other, begins-longer, later-weaker}

module _ {A : Type 0} where
  pub all-more : (P : A → Type 0) (a b : List A) → AllByRecursion P a → AllByRecursion P b → AllByRecursion P (a ++ b)
  all-more P [] b p q = q
  all-more P (x ∷ xs) b p q = (p.0, all-more P xs b p.1 q)

  pub all-mono : (P Q : A → Type 0) (l : List A) → ((x : A) → P x → Q x) → AllByRecursion P l → AllByRecursion Q l
  all-mono P Q [] f p = tt
  all-mono P Q (x ∷ xs) f p = (f x p.0, all-mono P Q xs f p.1)

pub times-more : (w : ℕ) (a b : List Hand) → times w (a ++ b) ≡ times w a + times w b
times-more w [] b = omega arith
times-more w (h ∷ hs) b =
    let r = times-more w hs b in
    let one : ℕ = if eqb h.worker w then 1 else 0 in
    let e : one + times w (hs ++ b) ≡ one + times w hs + times w b = omega arith in
    e

or-assoc : (a b c : Bool) → a || (b || c) ≡ (a || b) || c
or-assoc true b c = refl
or-assoc false b c = refl

pub any-hands : (f : Note → Bool) (a b : List Hand) → any_hand f (a ++ b) ≡ any_hand f a || any_hand f b
any-hands f [] b = refl
any-hands f (h ∷ hs) b =
    ap (λ z. any_turn f h.turns || z) (any-hands f hs b) ∙ or-assoc (any_turn f h.turns) (any_hand f hs) (any_hand f b)

pub counts-one : (w : ℕ) (h : Hand) → h.worker ≡ w → ◌≡◌ {A = ℕ} (if eqb h.worker w then 1 else 0) 1
counts-one w h is = ap (λ (b : Bool). if◌then◌else◌ {A = ℕ} b 1 0) (eq-eqb h.worker w is)

pub counts-none : (w : ℕ) (h : Hand) → h.worker ≢ w → ◌≡◌ {A = ℕ} (if eqb h.worker w then 1 else 0) 0
counts-none w h other = ap (λ (b : Bool). if◌then◌else◌ {A = ℕ} b 1 0) (ne_eqb h.worker w other)

pub stands-once : (hs : List Hand) (i : ℕ) (h : Hand) (w : ℕ) → get_elem? hs i ≡ some h → h.worker ≡ w → 1 ≤ times w hs
stands-once [] i h w e is = absurd (some-ne-none h (sym e))
stands-once (x ∷ xs) zero h w e is =
    let c = counts-one w x (ap (λ (y : Hand). y.worker) (some-injective x h e) ∙ is) in
    omega arith
stands-once (x ∷ xs) (suc i) h w e is = let r = stands-once xs i h w e is in omega arith

-- no hand of these is the worker's
none-here : (w : ℕ) (h : Hand) (hs : List Hand) → times w (h ∷ hs) ≡ 0 → (h.worker ≢ w) × (times w hs ≡ 0)
none-here w h hs none = ((λ is. let c = counts-one w h is in absurd (omega arith)), omega arith)

pub agrees-else : (list : List Entry) (e : Entry) (hs : List Hand) → times e.worker hs ≡ 0
    → AllByRecursion (Agrees list) hs → AllByRecursion (Agrees (list ++ e ∷ [])) hs
agrees-else list e [] none p = tt
agrees-else list e (h ∷ hs) none p =
    let n = none-here e.worker h hs none in (
      (begins-longer h.seen list e p.0.0, own-other h.worker list e (λ is. n.0 (sym is)) ∙ p.0.1),
      agrees-else list e hs n.1 p.1,
    )

pub past-weaker : (n m : ℕ) (hs : List Hand) → n ≤ m → AllByRecursion (IsPast n) hs → AllByRecursion (IsPast m) hs
past-weaker n m hs le = all-mono (IsPast n) (IsPast m) hs (λ h p. later-weaker n m h.turns le p)

pub turned-times : (t : Turn) (told : Option (List Entry)) (w : ℕ) (hs : List Hand)
    → times w (turned_hands t told hs) ≡ times w hs
turned-times t told w [] = refl
turned-times t told w (h ∷ hs) = refl
