-- In every history one life at most goes on under a name.
use Rattle.std.proofs.Common.{◌≡◌, ◌+◌, ◌&&◌, ◌||◌, ℕ, Bool, true, false, cond, List, [], ◌∷◌, ◌++◌, Some, None, map}
use Rattle.std.proofs.Common.{length, refl, sym, ◌∙◌, ap}
use Rattle.std.specs.Prelude.{is_none}
use Rattle.std.specs.List.{list_any, cons_option}
use Rattle.std.specs.Str.{bytes_eq}
use Rattle.std.proofs.lemmas.Slice.Eq.{bytes_eq-Decides}
use Rattle.nt_rules.specs.declared.topic.Saved.{Saved}
use Rattle.nt_rules.specs.topics.Topics.{is_named, lives_on, has_conn}
use Rattle.nt_rules.specs.declared.act.Entry.{Entry}
use Rattle.nt_rules.specs.history.Lives.{Life, topic_of, topics, is_living, at_first, or_ended, with_publishing, born}
use Rattle.nt_rules.specs.history.Lives.{without_publisher, without_conn, with_setting, with_a_put, closed_for}
use Rattle.nt_rules.specs.history.Lives.{restored}
use Rattle.nt_rules.specs.declared.start.Start.{Start}
use Rattle.nt_rules.specs.history.Now.{now_of}
use Rattle.nt_rules.specs.history.Saved.{HasDistinctNames}
use Rattle.nt_laws.proofs.histories.Histories.{lives-keep}
use Rattle.nt_laws.proofs.topics.Turns.{setting-name, setting-over}

-- the life goes on under this name
abbrev pub is_called : List ℕ → Life → Bool
is_called name l = is_living l && bytes_eq l.name name

-- of those that go on no two have the same name
abbrev pub HasOneName : List Life → Type 0
HasOneName [] = Unit {0}
HasOneName (l ∷ lives) = (is_living l ≡ true → list_any (is_called l.name) lives ≡ false) × HasOneName lives

-- the lives that go on under a name are the topics of this name
pub called-topics : (name : List ℕ) (lives : List Life) → list_any (is_called name) lives
    ≡ list_any (is_named name) (topics lives)
called-topics name [] = refl
called-topics name (l ∷ lives) =
    ap (λ b. is_called name l || b) (called-topics name lives) ∙ by (is_living l)
  where
    by : (b : Bool) → ((b && bytes_eq l.name name) || list_any (is_named name) (topics lives))
        ≡ list_any (is_named name) (cons_option (cond b (Some (topic_of l)) None) (topics lives))
    by true = refl
    by false = refl

-- a change that keeps the name, and lets no life go on that was over
record Lessens (f : Life → Life) : Type 0 where
  same_name : (l : Life) → (f l).name ≡ l.name
  still : (l : Life) → is_living (f l) ≡ true → is_living l ≡ true

called-less : (f : Life → Life) → Lessens f → (name : List ℕ) (l : Life) → is_called name l ≡ false
    → is_called name (f l) ≡ false
called-less f less name l e = by (is_living (f l)) refl (is_living l) refl
  where
    by : (b : Bool) → is_living (f l) ≡ b → (d : Bool) → is_living l ≡ d → is_called name (f l) ≡ false
    by false h d g = ap (λ b. b && bytes_eq (f l).name name) h
    by true h false g = let t : is_living l ≡ true = less.still l h in absurd (cc)
    by true h true g =
        ap (λ b. b && bytes_eq (f l).name name) h ∙ ap (λ (n : List ℕ). bytes_eq n name) (less.same_name l)
        ∙ sym (ap (λ b. b && bytes_eq l.name name) g) ∙ e

pub or-false : (a b : Bool) → (a || b) ≡ false → (a ≡ false) × (b ≡ false)
or-false false b e = (refl, e)
or-false true b e = absurd (cc)

any-at : (f : Life → Life) → Lessens f → (test : Life → Bool) (name : List ℕ) (lives : List Life)
    → list_any (is_called name) lives ≡ false → list_any (is_called name) (at_first test f lives) ≡ false
any-at f less test name [] e = refl
any-at f less test name (l ∷ lives) e =
    let both = or-false (is_called name l) (list_any (is_called name) lives) e in
    by both.0 both.1 (any-at f less test name lives both.1) (test l)
  where
    by : is_called name l ≡ false → list_any (is_called name) lives ≡ false
        → list_any (is_called name) (at_first test f lives) ≡ false → (b : Bool)
        → list_any (is_called name) (cond b (f l ∷ lives) (l ∷ at_first test f lives)) ≡ false
    by here rest more true = ap (λ b. b || list_any (is_called name) lives) (called-less f less name l here)
        ∙ rest
    by here rest more false = ap (λ b. b || list_any (is_called name) (at_first test f lives)) here ∙ more

one-at : (f : Life → Life) → Lessens f → (test : Life → Bool) (lives : List Life) → HasOneName lives
    → HasOneName (at_first test f lives)
one-at f less test [] h = tt
one-at f less test (l ∷ lives) h = by (one-at f less test lives h.1) (test l)
  where
    by : HasOneName (at_first test f lives) → (b : Bool)
        → HasOneName (cond b (f l ∷ lives) (l ∷ at_first test f lives))
    by more true = (
      λ e. ap (λ (n : List ℕ). list_any (is_called n) lives) (less.same_name l)
          ∙ h.0 (less.still l e),
      h.1,
    )
    by more false = (λ e. any-at f less test l.name lives (h.0 e), more)

any-map : (f : Life → Life) → Lessens f → (name : List ℕ) (lives : List Life)
    → list_any (is_called name) lives ≡ false → list_any (is_called name) (map f lives) ≡ false
any-map f less name [] e = refl
any-map f less name (l ∷ lives) e =
    let both = or-false (is_called name l) (list_any (is_called name) lives) e in
    ap (λ b. b || list_any (is_called name) (map f lives)) (called-less f less name l both.0)
    ∙ any-map f less name lives both.1

one-map : (f : Life → Life) → Lessens f → (lives : List Life) → HasOneName lives → HasOneName (map f lives)
one-map f less [] h = tt
one-map f less (l ∷ lives) h = (
  λ e. ap (λ (n : List ℕ). list_any (is_called n) (map f lives)) (less.same_name l)
      ∙ any-map f less l.name lives (h.0 (less.still l e)),
  one-map f less lives h.1,
)

other-name : (a b : List ℕ) → bytes_eq a b ≡ false → bytes_eq b a ≡ false
other-name a b e = by (bytes_eq b a) refl
  where
    by : (d : Bool) → bytes_eq b a ≡ d → bytes_eq b a ≡ false
    by false h = h
    by true h = let t : bytes_eq a b
        ≡ true = (bytes_eq-Decides a b).1 (sym ((bytes_eq-Decides b a).0 h)) in absurd (cc)

any-push : (name : List ℕ) (lives : List Life) (new : Life) → list_any (is_called name) lives ≡ false
    → is_called name new ≡ false
    → list_any (is_called name) (lives ++ new ∷ []) ≡ false
any-push name [] new e h = ap (λ b. b || false) h
any-push name (l ∷ lives) new e h =
    let both = or-false (is_called name l) (list_any (is_called name) lives) e in
    ap (λ b. b || list_any (is_called name) (lives ++ new ∷ [])) both.0 ∙ any-push name lives new both.1 h

one-push : (lives : List Life) (new : Life) → list_any (is_called new.name) lives ≡ false → HasOneName lives
    → HasOneName (lives ++ new ∷ [])
one-push [] new e h = (λ l. refl, tt)
one-push (l ∷ lives) new e h =
    let both = or-false (is_called new.name l) (list_any (is_called new.name) lives) e in (
      λ living. any-push l.name lives new (h.0 living)
          (other both.0 living (is_living new)),
      one-push lives new both.1 h.1,
    )
  where
    other : is_called new.name l ≡ false → is_living l ≡ true → (b : Bool) → (b && bytes_eq new.name l.name)
        ≡ false
    other here living true =
        other-name l.name new.name (sym (ap (λ b. b && bytes_eq l.name new.name) living) ∙ here)
    other here living false = refl

restored-called : (name : List ℕ) (id : ℕ) (saved : List Saved)
    → list_any (is_called name) (restored id saved) ≡ list_any (λ r. bytes_eq r.name name) saved
restored-called name id [] = refl
restored-called name id (s ∷ saved) =
    ap (λ b. bytes_eq s.name name || b) (restored-called name (id + 1) saved)

restored-one : (id : ℕ) (saved : List Saved) → HasDistinctNames saved → HasOneName (restored id saved)
restored-one id [] h = tt
restored-one id (s ∷ saved) h =
    (λ e. restored-called s.name (id + 1) saved ∙ h.0, restored-one (id + 1) saved h.1)

lessens-ended : (place : ℕ) (f : Life → Life) → ((l : Life) → (f l).name ≡ l.name)
    → ((l : Life) → (f l).over ≡ l.over)
    → Lessens (λ l. or_ended place (f l))
lessens-ended place f names overs = record {
  same_name = λ l. name (f l) (lives_on (topic_of (f l))) ∙ names l;
  still = λ l e. sym (ap is_none (overs l)) ∙ still (f l) (lives_on (topic_of (f l))) e;
}
  where
    name : (l : Life) (b : Bool) → (cond b l (record l { over = Some place })).name ≡ l.name
    name l true = refl
    name l false = refl

    still : (l : Life) (b : Bool) → is_living (cond b l (record l { over = Some place })) ≡ true → is_living l
        ≡ true
    still l true e = e
    still l false e = absurd (cc)

lessens-closed : (place conn : ℕ) → Lessens (closed_for place conn)
lessens-closed place conn = record {
  same_name = λ l. name l (is_living l && has_conn conn (topic_of l));
  still = λ l e. still l (is_living l && has_conn conn (topic_of l)) e;
}
  where
    ended : Lessens (λ l. or_ended place (without_conn conn l))
    ended = lessens-ended place (without_conn conn) (λ l. refl) (λ l. refl)

    name : (l : Life) (b : Bool) → (cond b (or_ended place (without_conn conn l)) (without_conn conn l)).name
        ≡ l.name
    name l true = ended.same_name l
    name l false = refl

    still : (l : Life) (b : Bool)
        → is_living (cond b (or_ended place (without_conn conn l)) (without_conn conn l)) ≡ true → is_living l
        ≡ true
    still l true e = ended.still l e
    still l false e = e

-- in every history of which the saved topics have different names, no two lives go on under one name
pub lives-named : (start : Start) (past : List Entry) → HasDistinctNames start.saved
    → HasOneName (now_of start past).lives
lives-named start past distinct =
    lives-keep (λ k lives. HasOneName lives)
    (record {
      later = λ k lives h. h;
      joined =
          λ k name p lives free. one-at (with_publishing (k + 1) p)
          (record { same_name = λ l. refl; still = λ l e. e }) _ lives;
      began =
          λ k name typ props p lives free e few. one-push lives (born (k + 1) (length lives + 1) name typ props p)
          (called-topics name lives ∙ e);
      left =
          λ k conn uid. one-at _
          (lessens-ended (k + 1) (without_publisher conn uid) (λ l. refl) (λ l. refl)) _;
      updated =
          λ k conn name u. one-at _
          (lessens-ended (k + 1) (with_setting (k + 1) conn u) (setting-name (k + 1) conn u)
          (setting-over (k + 1) conn u)) _;
      put = λ k conn uid time value. one-at
          (with_a_put (record { place = k + 1; time = time; value = value }))
          (record { same_name = λ l. refl; still = λ l e. e }) _;
      dropped = λ k conn. one-map (closed_for (k + 1) conn) (lessens-closed (k + 1) conn);
    })
    start (restored-one 1 start.saved distinct) past
