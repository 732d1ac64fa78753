-- What the list tells of steps.
use Rattle.std.proofs.Common.{◌≡◌, ℕ, ◌+◌, List, [], ◌∷◌, ◌++◌, length, refl, sym, ap, subst, ◌∙◌, append_assoc, append-nil, inl, inr}
use Rattle.std.specs.Prelude.{Option, Some, IfSome, true, false}
use Rattle.nt_rules.specs.declared.act.Act.{Act}
use Rattle.nt_rules.specs.declared.act.StepOut.{StepOut}
use Rattle.nt_rules.specs.declared.act.Entry.{Entry}
use Rattle.nt_lock.specs.declared.view.Note.{Note}
use Rattle.nt_lock.specs.declared.view.Note.TheVariants as note
use Rattle.nt_lock.specs.declared.view.Turn.{Turn}
use Rattle.nt_lock.specs.declared.view.Origin.{Origin}
use Rattle.nt_lock.specs.Seats.{SeatView}
use Rattle.nt_lock.specs.Turns.{StartsWith, Begins, own, made, made_in, turn}
use Rattle.nt_lock.specs.Notes.{more}
use Rattle.nt_hall.specs.declared.work.Looked.{Looked}
use Rattle.nt_hall.specs.Histories.{IsLook}
use Rattle.nt_hall.specs.Turns.{HasTurn, Acted, Follows}
use Rattle.nt_serve.specs.Steps.{Step, acts, looks, fails, receives, skips, sends, Goes, GoesOn}
use Rattle.nt_serve.specs.Told.{IsTold, IsNotOwn, IsToldAfter, AreTold, KnowsItsOwn}

-- ---- of what is told

if-told : (P : List Entry → Type 0) (o : Option (List Entry)) (list : List Entry) → o ≡ Some list → IfSome o P
    → P list
if-told P o list e h = subst (λ (x : Option (List Entry)). IfSome x P) e h

made-more : (ts : List Turn) (place : ℕ) (n : Note) → made (ts ++ turn place n ∷ []) ≡ made ts ++ made_in place n
made-more [] place n = append-nil (made_in place n)
made-more (t ∷ ts) place n =
    ap (λ (l : List (ℕ × Entry)). made_in t.place t.note ++ l) (made-more ts place n)
    ∙ sym (append_assoc (made_in t.place t.note) (made ts) (made_in place n))

-- ---- one turn

turn-worker : (s t : SeatView) (n : Note) → HasTurn s t n → t.worker ≡ s.worker
turn-worker s t n h = ap (λ (x : SeatView). x.worker) h.turned

turn-start : (s t : SeatView) (n : Note) → HasTurn s t n → t.origin ≡ s.origin
turn-start s t n h = ap (λ (x : SeatView). x.origin) h.turned

turn-made : (s t : SeatView) (n : Note) (h : HasTurn s t n)
    → made t.turns ≡ made s.turns ++ made_in (h.before + more n) n
turn-made s t n h =
    ap (λ (x : SeatView). made x.turns) h.turned ∙ made-more s.turns (h.before + more n) n

turn-knows : (s t : SeatView) (n : Note) → HasTurn s t n → KnowsItsOwn t
turn-knows s t n h =
    subst (λ (w : ℕ). IfSome t.seen (λ list. own w list ≡ made t.turns)) (sym (turn-worker s t n h)) h.own_entries

-- what was seen before a turn after which entries are told
turn-seen : (s t : SeatView) (n : Note) (list : List Entry) → HasTurn s t n → t.seen ≡ Some list
    → (seen : List Entry) × (s.seen ≡ Some seen) × StartsWith list seen
turn-seen s t n list h e = if-told (λ l. Begins s.seen l) t.seen list e h.begins

turn-own : (s t : SeatView) (n : Note) (seen list : List Entry) → KnowsItsOwn s → (h : HasTurn s t n)
    → s.seen ≡ Some seen → t.seen ≡ Some list
    → own s.worker list ≡ own s.worker seen ++ made_in (h.before + more n) n
turn-own s t n seen list k h e f =
    if-told (λ l. own s.worker l ≡ made t.turns) t.seen list f h.own_entries ∙ turn-made s t n h
    ∙ ap (λ (l : List (ℕ × Entry)). l ++ made_in (h.before + more n) n)
    (sym (if-told (λ l. own s.worker l ≡ made s.turns) s.seen seen e k))

turn-long : (s t : SeatView) (n : Note) (list : List Entry) → (h : HasTurn s t n) → t.seen ≡ Some list
    → length list ≡ h.before + more n
turn-long s t n list h f = if-told (λ l. length l ≡ h.before + more n) t.seen list f h.long

-- a turn that makes no entry
not-own : (s t : SeatView) (n : Note) (seen list : List Entry) → ((place : ℕ) → made_in place n ≡ [])
    → KnowsItsOwn s → HasTurn s t n → s.seen ≡ Some seen → t.seen ≡ Some list → StartsWith list seen
    → IsNotOwn s.worker seen list
not-own s t n seen list none k h e f b =
    record {
      begins = b;
      none_own = turn-own s t n seen list k h e f
          ∙ ap (λ (l : List (ℕ × Entry)). own s.worker seen ++ l) (none (h.before + more n))
          ∙ append-nil (own s.worker seen);
    }

-- a list that begins with what was seen, also by another name
same-seen : (s : SeatView) (seen list : List Entry) → s.seen ≡ Some seen → Begins s.seen list
    → StartsWith list seen
same-seen s seen list e b =
    let same : b.0 ≡ seen = cc (b.1, e) in
    subst (λ (l : List Entry). StartsWith list l) same b.2

acted-told : (s t : SeatView) (now : ℕ) (act : Act) (out : StepOut) (seen list : List Entry) → KnowsItsOwn s
    → Acted s t now act out → s.seen ≡ Some seen → t.seen ≡ Some list
    → IsTold s.origin.start s.worker seen now act out list
acted-told s t now act out seen list k a e f =
    let follows = if-told (λ l. Follows s now act out a.entry l) t.seen list f a.follows in
    record {
      history = follows.history;
      entry = a.entry;
      list_is = follows.list_is;
      begins = same-seen s seen follows.history e follows.begins;
      lawful = follows.still_lawful;
      next = follows.next;
      alone = turn-own s t (note.Made a.entry) seen list k a.turn e f
          ∙ ap (λ (n : ℕ). own s.worker seen ++ (n, a.entry) ∷ [])
          (sym (turn-long s t (note.Made a.entry) list a.turn f));
    }

-- ---- step after step

-- what one step tells, and that it keeps what the rest needs
pub record OneTold (s t : SeatView) (x : Step) (list : List Entry) : Type 0 where
  pub seen : List Entry
  pub seen_is : s.seen ≡ Some seen
  pub told : IsToldAfter s.origin.start s.worker seen x list

one-told : (s t : SeatView) (x : Step) (list : List Entry) → KnowsItsOwn s → Goes s x t → t.seen ≡ Some list
    → OneTold s t x list
one-told s t (acts now act out) list k g f =
    let b = turn-seen s t (note.Made g.entry) list g.turn f in
    record { seen = b.0; seen_is = b.1; told = acted-told s t now act out b.0 list k g b.1 f }
one-told s t (looks conn look) list k g f =
    let b = turn-seen s t (note.Looked false) list g.turn f in
    record {
      seen = b.0;
      seen_is = b.1;
      told = (
        not-own s t (note.Looked false) b.0 list (λ p. refl) k g.turn b.1 f b.2,
        if-told (λ l. IsLook s.origin.start l conn look) t.seen list f g.says,
      );
    }
one-told s t fails list k (inl h) f =
    let b = turn-seen s t note.Refused list h f in
    record { seen = b.0; seen_is = b.1; told = not-own s t note.Refused b.0 list (λ p. refl) k h b.1 f b.2 }
one-told s t fails list k (inr h) f =
    let b = turn-seen s t (note.Looked true) list h f in
    record { seen = b.0; seen_is = b.1; told = not-own s t (note.Looked true) b.0 list (λ p. refl) k h b.1 f b.2 }
one-told s t (receives frame) list k g f =
    record { seen = list; seen_is = ap (λ (z : SeatView). z.seen) (sym g) ∙ f; told = refl }
one-told s t (skips n) list k g f =
    record { seen = list; seen_is = ap (λ (z : SeatView). z.seen) (sym g) ∙ f; told = refl }
one-told s t (sends frame) list k g f =
    record { seen = list; seen_is = ap (λ (z : SeatView). z.seen) (sym g) ∙ f; told = refl }

-- what a step leaves as it was
pub record Stays (s t : SeatView) : Type 0 where
  pub worker : t.worker ≡ s.worker
  pub origin : t.origin ≡ s.origin
  pub knows : KnowsItsOwn t

turn-stays : (s t : SeatView) (n : Note) → HasTurn s t n → Stays s t
turn-stays s t n h =
    record { worker = turn-worker s t n h; origin = turn-start s t n h; knows = turn-knows s t n h }

same-stays : (s t : SeatView) → KnowsItsOwn s → t ≡ s → Stays s t
same-stays s t k e = subst (λ (z : SeatView). Stays s z) (sym e) (record { worker = refl; origin = refl; knows = k })

one-stays : (s t : SeatView) (x : Step) → KnowsItsOwn s → Goes s x t → Stays s t
one-stays s t (acts now act out) k g = turn-stays s t (note.Made g.entry) g.turn
one-stays s t (looks conn look) k g = turn-stays s t (note.Looked false) g.turn
one-stays s t fails k (inl h) = turn-stays s t note.Refused h
one-stays s t fails k (inr h) = turn-stays s t (note.Looked true) h
one-stays s t (receives frame) k g = same-stays s t k g
one-stays s t (skips n) k g = same-stays s t k g
one-stays s t (sends frame) k g = same-stays s t k g

pub steps-told : (s t : SeatView) (steps : List Step) (list : List Entry) → KnowsItsOwn s → GoesOn s steps t
    → t.seen ≡ Some list
    → (seen : List Entry) × (s.seen ≡ Some seen) × AreTold s.origin.start s.worker seen steps list
steps-told s t [] list k g f = (list, ap (λ (z : SeatView). z.seen) (sym g) ∙ f, refl)
steps-told s t (x ∷ steps) list k g f =
    let stays = one-stays s g.0 x k g.1 in
    let rest = steps-told g.0 t steps list stays.knows g.2 f in
    let first = one-told s g.0 x rest.0 k g.1 rest.1 in (
      first.seen,
      first.seen_is,
      (
        rest.0,
        first.told,
        subst (λ (w : ℕ). AreTold s.origin.start w rest.0 steps list) stays.worker
            (subst (λ (o : Origin). AreTold o.start g.0.worker rest.0 steps list) stays.origin rest.2),
      ),
    )
