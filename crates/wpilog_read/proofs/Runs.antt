-- Runs of a reader: one item more, more bytes, and that bytes have one reading.
use Rattle.std.proofs.Common.{◌≡◌, ℕ, Bool, true, false, cond, List, [], ◌∷◌, ◌++◌, Option, Some, None, Result, Ok, Err, refl, sym, ap, subst, ◌∙◌, append-nil, is_some}
use Rattle.std.specs.Prelude.{IfOk, IfErr, IfSome, IfNone, MatchResult}
use Rattle.wpilog_read.specs.declared.fault.LogFault.{LogFault}
use Rattle.wpilog_read.specs.declared.fault.LogKind.{LogKind}
use Rattle.wpilog_read.specs.declared.fault.NextFault.{NextFault}
use Rattle.wpilog_read.specs.declared.fault.NextFault.TheVariants.{Log, Memory}
use Rattle.wpilog_read.specs.declared.fault.Stop.{Stop}
use Rattle.wpilog_read.specs.declared.fault.Stop.TheVariants.{Wanting, Known}
use Rattle.wpilog_read.specs.declared.item_at.ItemAt.{ItemAt}
use Rattle.wpilog_read.specs.Run.{Reading, begun, offset_of, start, fed, after_header, record_next, next_of, settle, broken, EndsBy, given, Reads, Ends, IsReading, StandsBy, Stands, IsEndedBy, IsEnded}
use Rattle.wpilog_read.proofs.Steps.{done, ok_is}
use Rattle.wpilog_read.proofs.Stable.{more, header-more, header-again, header-wrong, next-more, next-wrong, next-fault}

-- ---- the header read, if it is whole

-- with a header that is read the reader stands after it
pub settle-ok : (r h : Reading) → after_header r ≡ Ok h → settle r ≡ h
unfolding settle
settle-ok r h e = rw e refl

-- with none it stands where it was
pub settle-err : (r : Reading) (stop : Stop) → after_header r ≡ Err stop → settle r ≡ r
unfolding settle
settle-err r stop e = rw e refl

-- the next item is the same after the header
pub next-settle : (r : Reading) → next_of (settle r) ≡ next_of r
unfolding next_of
next-settle r = by_header (after_header r) refl where
  by_header : (h : Result Reading Stop) → after_header r ≡ h → next_of (settle r) ≡ next_of r
  by_header (Ok h) e = rw (settle-ok r h e, (header-again r h e).again, e) refl
  by_header (Err stop) e = rw (settle-err r stop e) refl

-- the header is taken once
pub settle-settle : (r : Reading) → settle (settle r) ≡ settle r
settle-settle r = by_header (after_header r) refl where
  by_header : (h : Result Reading Stop) → after_header r ≡ h → settle (settle r) ≡ settle r
  by_header (Ok h) e = rw (settle-ok r h e) (settle-ok h h (header-again r h e).again)
  by_header (Err stop) e = rw (settle-err r stop e) (settle-err r stop e)

-- and it changes no fault
pub settle-fault : (r : Reading) → (settle r).fault ≡ r.fault
settle-fault r = by_header (after_header r) refl where
  by_header : (h : Result Reading Stop) → after_header r ≡ h → (settle r).fault ≡ r.fault
  by_header (Ok h) e = rw (settle-ok r h e) (header-again r h e).fault
  by_header (Err stop) e = rw (settle-err r stop e) refl

-- more bytes come to the same offset
settle-more : (r : Reading) (piece : List ℕ) → settle (more (settle r) piece) ≡ settle (more r piece)
settle-more r piece = by_header (after_header r) refl where
  by_header : (h : Result Reading Stop) → after_header r ≡ h → settle (more (settle r) piece) ≡ settle (more r piece)
  by_header (Ok h) e =
      rw (settle-ok r h e, settle-ok (more r piece) (more h piece) (header-more r h piece e))
      (settle-ok (more h piece) (more h piece) (header-more h h piece (header-again r h e).again))
  by_header (Err stop) e = rw (settle-err r stop e) refl

-- where a fault stands, it stays, and the extra header stays too
record SameFault (r s : Reading) (kind : LogKind) : Type 0 where
  offset : offset_of r kind ≡ offset_of s kind
  extra : r.extra ≡ s.extra

wrong-offset : (r : Reading) (piece : List ℕ) (kind : LogKind) → next_of r ≡ Err (Known kind)
    → SameFault (settle (more r piece)) (settle r) kind
unfolding next_of
wrong-offset r piece kind wrong = by_header (after_header r) refl where
  by_header : (h : Result Reading Stop) → after_header r ≡ h → SameFault (settle (more r piece)) (settle r) kind
  by_header (Ok h) e = rw (settle-ok r h e, settle-ok (more r piece) (more h piece) (header-more r h piece e))
      (record { offset = refl; extra = refl })
  by_header (Err stop) e =
      let stops = rw e at wrong in
      let same : stop ≡ Known kind = cc in
      let known : after_header r ≡ Err (Known kind) = rw (← same) e in
      rw (settle-err r stop e, settle-err (more r piece) (Known kind) (header-wrong r kind piece known))
      (record { offset = refl; extra = refl })

-- ---- after the header

-- a header that was read is not read again, by the test
opened_by : (test : Bool) (r : Reading) (other : Result Reading Stop) → test ≡ true → cond test (done r) other ≡ Ok r
opened_by true r other e = refl
opened_by false r other e = absurd cc

-- a header that was read is not read again
pub begun-opened : (r : Reading) → begun r ≡ true → after_header r ≡ Ok r
unfolding after_header
begun-opened r e = opened_by (begun r) r _ e

-- after the header the next item is a record
pub next-opened : (r : Reading) → after_header r ≡ Ok r → next_of r ≡ record_next r
unfolding next_of
next-opened r e = rw e refl

-- where the header is not read no item is
pub next-closed : (r : Reading) (stop : Stop) → after_header r ≡ Err stop → next_of r ≡ Err stop
unfolding next_of
next-closed r stop e = rw e refl

-- a run from before the header is one from after it
pub Reads-opened : (xs : List ItemAt) (r h s : Reading) → after_header r ≡ Ok h → Reads r xs s → Reads h xs s
Reads-opened [] r h s e reads = reads ∙ settle-ok r h e ∙ sym (settle-ok h h (header-again r h e).again)
Reads-opened (x ∷ xs) r h s e reads = (reads.0, ap next_of (sym (settle-ok r h e)) ∙ next-settle r ∙ reads.1, reads.2)

-- and the other way round
pub Reads-closed : (xs : List ItemAt) (r h s : Reading) → after_header r ≡ Ok h → Reads h xs s → Reads r xs s
Reads-closed [] r h s e reads = reads ∙ settle-ok h h (header-again r h e).again ∙ sym (settle-ok r h e)
Reads-closed (x ∷ xs) r h s e reads = (reads.0, sym (next-settle r) ∙ ap next_of (settle-ok r h e) ∙ reads.1, reads.2)

-- ---- runs

-- states that differ in the header alone have the same next item
next-same : (r s : Reading) → settle s ≡ settle r → next_of r ≡ next_of s
next-same r s e = sym (next-settle r) ∙ ap next_of (sym e) ∙ next-settle s

-- a run goes on by one item
pub Reads-snoc : (xs : List ItemAt) (r s m : Reading) (x : ItemAt) → Reads r xs s → next_of s ≡ Ok (x, m)
    → Reads r (xs ++ x ∷ []) m
Reads-snoc [] r s m x reads e = (m, next-same r s reads ∙ e, refl)
Reads-snoc (y ∷ ys) r s m x reads e = (reads.0, reads.1, Reads-snoc ys reads.0 s m x reads.2 e)

-- a run stays one where more bytes come
pub Reads-more : (xs : List ItemAt) (r s : Reading) (piece : List ℕ) → Reads r xs s
    → Reads (more r piece) xs (more s piece)
Reads-more [] r s piece reads = sym (settle-more s piece) ∙ ap (λ (w : Reading). settle (more w piece)) reads
    ∙ settle-more r piece
Reads-more (x ∷ xs) r s piece reads = (
  more reads.0 piece,
  next-more r piece (x, reads.0) reads.1,
  Reads-more xs reads.0
      s piece reads.2,
)

-- a run ends as well after the header
pub Reads-settle : (xs : List ItemAt) (r s : Reading) → Reads r xs s → Reads r xs (settle s)
Reads-settle [] r s reads = settle-settle s ∙ reads
Reads-settle (x ∷ xs) r s reads = (reads.0, reads.1, Reads-settle xs reads.0 s reads.2)

-- and so at a state that is the same but for the header
Reads-same : (xs : List ItemAt) (r s t : Reading) → settle t ≡ settle s → Reads r xs s → Reads r xs t
Reads-same [] r s t same reads = same ∙ reads
Reads-same (x ∷ xs) r s t same reads = (reads.0, reads.1, Reads-same xs reads.0 s t same reads.2)

-- no item follows
abbrev pub IsLast : Reading → Type 0
IsLast s = (y : ItemAt × Reading) → next_of s ≡ Ok y → ⊥

-- two runs to where no item follows are one
pub Reads-one : (xs ys : List ItemAt) (r s t : Reading) → Reads r xs s → Reads r ys t → IsLast s → IsLast t
    → (xs ≡ ys) × (settle s ≡ settle t)
Reads-one [] [] r s t a b last_s last_t = (refl, a ∙ sym b)
Reads-one [] (y ∷ ys) r s t a b last_s last_t = absurd (last_s (y, b.0) (sym (next-same r s a) ∙ b.1))
Reads-one (x ∷ xs) [] r s t a b last_s last_t = absurd (last_t (x, a.0) (sym (next-same r t b) ∙ a.1))
Reads-one (x ∷ xs) (y ∷ ys) r s t a b last_s last_t =
    let same : (x, a.0) ≡ (y, b.0) = ok_is (x, a.0) (y, b.0) (sym a.1 ∙ b.1) in
    let item : x ≡ y = ap (λ (w : ItemAt × Reading). w.0) same in
    let state : a.0 ≡ b.0 = ap (λ (w : ItemAt × Reading). w.1) same in
    let others = Reads-one xs ys b.0 s t (subst (λ (w : Reading). Reads w xs s) state a.2) b.2 last_s last_t in
    (ap (λ (w : ItemAt). w ∷ xs) item ∙ ap (λ (w : List ItemAt). y ∷ w) others.0, others.1)

-- a run begins each run from the same state to where no item follows
pub Reads-begins : (xs ys : List ItemAt) (r s t : Reading) → Reads r xs s → Reads r ys t → IsLast t
    → (more : List ItemAt) × (ys ≡ xs ++ more)
Reads-begins [] ys r s t a b last = (ys, refl)
Reads-begins (x ∷ xs) [] r s t a b last = absurd (last (x, a.0) (sym (next-same r t b) ∙ a.1))
Reads-begins (x ∷ xs) (y ∷ ys) r s t a b last =
    let same : (x, a.0) ≡ (y, b.0) = ok_is (x, a.0) (y, b.0) (sym a.1 ∙ b.1) in
    let item : x ≡ y = ap (λ (w : ItemAt × Reading). w.0) same in
    let state : a.0 ≡ b.0 = ap (λ (w : ItemAt × Reading). w.1) same in
    let more = Reads-begins xs ys b.0 s t (subst (λ (w : Reading). Reads w xs s) state a.2) b.2 last in
    (more.0, ap (λ (w : List ItemAt). y ∷ w) more.1 ∙ ap (λ (w : ItemAt). w ∷ (xs ++ more.0)) (sym item))

-- where reading ends no item follows
pub Ends-last : (next : Result (ItemAt × Reading) Stop) (s : Reading) (fault : Option LogFault) → Ends next s fault
    → (y : ItemAt × Reading) → next ≡ Ok y → ⊥
Ends-last (Ok x) s fault ends y e = ends
Ends-last (Err stop) s fault ends y e = cc

-- reading ends with one fault or none
Ends-one : (next : Result (ItemAt × Reading) Stop) (s : Reading) (fault other : Option LogFault) → Ends next s fault
    → Ends next s other → fault ≡ other
Ends-one (Ok x) s fault other a b = absurd a
Ends-one (Err Wanting) s fault other a b = a ∙ sym b
Ends-one (Err (Known kind)) s fault other a b = a ∙ sym b

-- the run of a reader begins each reading of what it was fed
stands-begins : (fault : Option LogFault) (bytes : List ℕ) (items others : List ItemAt) (r : Reading)
    (extra : Option (List ℕ)) (other : Option LogFault) → StandsBy fault bytes items r
    → IsReading bytes extra others other → (more : List ItemAt) × (others ≡ items ++ more)
stands-begins None bytes items others r extra other stands reading =
    Reads-begins items others (start bytes) r reading.last stands reading.reads
    (Ends-last (next_of reading.last) (settle reading.last) other reading.ends)
stands-begins (Some fault) bytes items others r extra other stands reading =
    Reads-begins items others (start bytes) stands.0 reading.last stands.1 reading.reads
    (Ends-last (next_of reading.last) (settle reading.last) other reading.ends)

-- the items that a reader gave begin each reading of what it was fed
pub Stands-begins : (bytes : List ℕ) (items others : List ItemAt) (r : Reading) (extra : Option (List ℕ))
    (fault : Option LogFault) → Stands bytes items r → IsReading bytes extra others fault
    → (more : List ItemAt) × (others ≡ items ++ more)
Stands-begins bytes items others r extra fault stands reading =
    stands-begins r.fault bytes items others r extra fault stands reading

-- bytes have one reading
pub one-reading : (bytes : List ℕ) (extra other_extra : Option (List ℕ)) (items others : List ItemAt)
    (fault other : Option LogFault) → IsReading bytes extra items fault → IsReading bytes other_extra others other
    → (extra ≡ other_extra) × (items ≡ others) × (fault ≡ other)
one-reading bytes extra other_extra items others fault other a b =
    let both = Reads-one items others (start bytes) a.last b.last a.reads b.reads
    (Ends-last (next_of a.last) (settle a.last) fault a.ends) (Ends-last (next_of b.last) (settle b.last) other b.ends)
    in
    let next : next_of a.last ≡ next_of b.last = next-same a.last b.last (sym both.1) in
    let state : Ends (next_of a.last) (settle b.last) fault =
    subst (λ (w : Reading). Ends (next_of a.last) w fault) both.1 a.ends in
    let ends : Ends (next_of b.last) (settle b.last) fault = subst (λ (w : Result (ItemAt × Reading) Stop).
    Ends w (settle b.last) fault) next state in (
      a.extra_is ∙ ap (λ (w : Reading). w.extra) both.1 ∙ sym b.extra_is,
      both.0,
      Ends-one (next_of b.last) (settle b.last) fault other ends b.ends,
    )

-- ---- a reader in the midst of a run

-- a reader with no fault stands at the end of a run
pub Stands-going : (bytes : List ℕ) (items : List ItemAt) (r : Reading) → r.fault ≡ None → Stands bytes items r
    → Reads (start bytes) items r
Stands-going bytes items r none stands = subst (λ (fault : Option LogFault). StandsBy fault bytes items r) none stands

-- and the other way round
pub Stands-from : (bytes : List ℕ) (items : List ItemAt) (r : Reading) → r.fault ≡ None → Reads (start bytes) items r
    → Stands bytes items r
Stands-from bytes items r none reads = subst (λ (fault : Option LogFault). StandsBy fault bytes items r) (sym none)
    reads

-- a reader stands for more bytes, by its fault
fed-by : (bytes piece : List ℕ) (items : List ItemAt) (r : Reading) (fault : Option LogFault) → r.fault ≡ fault
    → StandsBy fault bytes items r → StandsBy fault (bytes ++ piece) items (cond (is_some fault) r (more r piece))
fed-by bytes piece items r None e stands = Reads-more items (start bytes) r piece stands
fed-by bytes piece items r (Some fault) e s =
    let same = wrong-offset s.0 piece fault.kind s.2 in (
      more s.0 piece,
      Reads-more items (start bytes) s.0 piece s.1,
      next-wrong s.0 piece fault.kind s.2,
      s.3 ∙ ap (λ (n : ℕ). record { at = n; kind = fault.kind }) (sym same.offset),
      s.4 ∙ sym same.extra,
    )

-- more bytes change no fault
fed-fault : (r : Reading) (piece : List ℕ) (fault : Option LogFault) → r.fault ≡ fault
    → (cond (is_some fault) r (more r piece)).fault ≡ fault
fed-fault r piece None e = e
fed-fault r piece (Some fault) e = e

-- a reader that was fed stands for the bytes with the piece
pub Stands-fed : (bytes piece : List ℕ) (items : List ItemAt) (r m : Reading) → m ≡ fed r piece → Stands bytes items r
    → Stands (bytes ++ piece) items m
Stands-fed bytes piece items r m e stands =
    rw e (subst (λ (fault : Option LogFault). StandsBy fault (bytes ++ piece) items (fed r piece))
    (sym (fed-fault r piece r.fault refl)) (fed-by bytes piece items r r.fault refl stands))

-- after an item a reader stands for one item more
Stands-item : (bytes : List ℕ) (items : List ItemAt) (r m : Reading) (x : ItemAt) → r.fault ≡ None
    → next_of r ≡ Ok (x, m) → Stands bytes items r → Stands bytes (items ++ x ∷ []) m
Stands-item bytes items r m x none e stands =
    Stands-from bytes (items ++ x ∷ []) m (next-fault r (x, m) e ∙ none)
    (Reads-snoc items (start bytes) r m x (Stands-going bytes items r none stands) e)

-- where nothing follows it stands for the same items
Stands-none : (bytes : List ℕ) (items : List ItemAt) (r m : Reading) → r.fault ≡ None → m ≡ settle r
    → Stands bytes items r → Stands bytes items m
Stands-none bytes items r m none e stands =
    rw e (Stands-from bytes items (settle r) (settle-fault r ∙ none)
    (Reads-settle items (start bytes) r (Stands-going bytes items r none stands)))

-- and so where only the header may have been taken
Stands-memory : (bytes : List ℕ) (items : List ItemAt) (r m : Reading) → r.fault ≡ None → settle m ≡ settle r
    → Stands bytes items r → Stands bytes items m
Stands-memory bytes items r m none same stands =
    let fault : m.fault ≡ None = sym (settle-fault m) ∙ ap (λ (w : Reading). w.fault) same ∙ settle-fault r ∙ none in
    Stands-from bytes items m fault (Reads-same items (start bytes) r m same (Stands-going bytes items r none stands))

-- and so with a fault that is known now
Stands-broken : (bytes : List ℕ) (items : List ItemAt) (r m : Reading) (fault : LogFault) → r.fault ≡ None
    → next_of r ≡ Err (Known fault.kind) → fault.at ≡ offset_of (settle r) fault.kind → m ≡ broken fault (settle r)
    → Stands bytes items r → Stands bytes items m
Stands-broken bytes items r m fault none wrong at e stands =
    rw e (
      r,
      Stands-going bytes items r none stands,
      wrong,
      ap (λ (n : ℕ). record { at = n; kind = fault.kind }) at,
      refl,
    )

-- where nothing follows reading may end
IsEnded-none : (r m : Reading) → r.fault ≡ None → m ≡ settle r → next_of r ≡ Err Wanting → IsEnded m
IsEnded-none r m none e wanting = rw e (subst (λ (fault : Option LogFault). IsEndedBy fault (settle r))
    (sym (settle-fault r ∙ none)) (next-settle r ∙ wanting, settle-settle r))

-- and so with a fault
IsEnded-broken : (r m : Reading) (fault : LogFault) → m ≡ broken fault r → IsEnded m
IsEnded-broken r m fault e = rw e tt

-- ---- what a step answered

-- a step from a reader with no fault
pub record Steps (r m : Reading) (result : Result (Option ItemAt) NextFault) : Type 0 where
  pub item : IfOk result (λ o. IfSome o (λ x. next_of r ≡ Ok (x, m)))
  pub none : IfOk result (λ o. IfNone o ((next_of r ≡ Err Wanting) × (m ≡ settle r)))
  pub fault : IfErr result (λ e. EndsBy e (next_of r) r m)

-- whatever a step answered, the reader stands for the items with those that it gave
pub Steps-stands : (r m : Reading) (result : Result (Option ItemAt) NextFault) → r.fault ≡ None → Steps r m result
    → (bytes : List ℕ) (items : List ItemAt) → Stands bytes items r → Stands bytes (items ++ given result) m
Steps-stands r m (Ok (Some x)) none s bytes items stands = Stands-item bytes items r m x none s.item stands
Steps-stands r m (Ok None) none s bytes items stands = rw append-nil (Stands-none bytes items r m none s.none.1 stands)
Steps-stands r m (Err (Log fault)) none s bytes items stands =
    rw append-nil (Stands-broken bytes items r m fault none s.fault.0 s.fault.1 s.fault.2 stands)
Steps-stands r m (Err Memory) none s bytes items stands = rw append-nil
    (Stands-memory bytes items r m none s.fault stands)

-- where a step gave none for another cause than memory reading may end
pub Steps-ended : (r m : Reading) (result : Result (Option ItemAt) NextFault) → r.fault ≡ None → Steps r m result
    → MatchResult result (λ o. IfNone o (IsEnded m)) (λ e. (fault : LogFault) → e ≡ Log fault → IsEnded m)
Steps-ended r m (Ok (Some x)) none s = tt
Steps-ended r m (Ok None) none s = IsEnded-none r m none s.none.1 s.none.0
Steps-ended r m (Err (Log fault)) none s = λ other e. IsEnded-broken (settle r) m fault s.fault.2
Steps-ended r m (Err Memory) none s = λ other e. absurd cc
