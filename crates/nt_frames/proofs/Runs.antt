-- Bytes mean one thing as a frame.
use Rattle.std.proofs.Common.{◌≡◌, ◌≢◌, ℕ, ◌+◌, ◌-◌, ◌<◌, ◌≤◌, List, [], ◌∷◌, ◌++◌, length, Option, None, Some, refl, ap, sym, ◌∙◌, subst, append_assoc, append-nil, length-append, add-zero, zero-add, arith}
use Rattle.std.proofs.lemmas.List.{nil_from_length}
use Rattle.nt_values.specs.Types.{size_of}
use Rattle.nt_msgpack.proofs.Spellings.{spelling-some}
use Rattle.nt_frames.specs.declared.message.ValueMsg.{ValueMsg}
use Rattle.nt_frames.specs.declared.message.FrameFault.{FrameFault}
use Rattle.nt_frames.specs.Frames.{IsMessage, IsFrame, IsFault, Means}
use Rattle.nt_frames.proofs.Faults.{messages-meet, faults-meet, fault-no_message}

-- ---- frames one after the other

-- one more message
pub frame-more : (most : ℕ) (ms : List ValueMsg) (x : List ℕ) (m : ValueMsg) (y : List ℕ) → IsFrame most ms x
    → IsMessage m y → size_of m.value ≤ most → IsFrame most (ms ++ m ∷ []) (x ++ y)
frame-more most [] x m y f p small = (y, [], ap (λ z. z ++ y) f ∙ sym (append-nil y), p, small, refl)
frame-more most (n ∷ ms) x m y f p small =
    (f.0, f.1 ++ y, ap (λ z. z ++ y) f.2 ∙ append_assoc f.0 f.1 y, f.3, f.4, frame-more most ms f.1 m y f.5 p small)

message-some : (m : ValueMsg) (x : List ℕ) → IsMessage m x → 0 < length x
message-some m x p =
    let s = p.spelled in
    omega (arith, spelling-some _ s.0 s.3, ap length s.2, length-append s.0 s.1)

-- ---- runs: what bytes mean from an offset on

-- no message follows, and this is the fault at this offset
abbrev Ends : ℕ → ℕ → List ℕ → Option FrameFault → Type 0
Ends most at bytes None = bytes ≡ []
Ends most at bytes (Some fault) = (fault.at ≡ at) × (bytes ≢ []) × IsFault most bytes fault.kind

abbrev Runs : ℕ → ℕ → List ℕ → List ValueMsg → Option FrameFault → Type 0
Runs most at bytes [] fault = Ends most at bytes fault
Runs most at bytes (m ∷ ms) fault = (prefix : List ℕ) × (rest : List ℕ) × (bytes ≡ prefix ++ rest) × IsMessage m prefix
    × (size_of m.value ≤ most) × Runs most (at + length prefix) rest ms fault

runs-frame : (most at : ℕ) (ms : List ValueMsg) (prefix rest : List ℕ) (fault : Option FrameFault)
    → IsFrame most ms prefix
    → Ends most (at + length prefix) rest fault → Runs most at (prefix ++ rest) ms fault
runs-frame most at [] prefix rest fault f e =
    subst (λ z. Ends most at (z ++ rest) fault) (sym f)
    (subst (λ n. Ends most n rest fault) (ap (λ z. at + length z) f ∙ add-zero at) e)
runs-frame most at (m ∷ ms) prefix rest fault f e =
    let offset : at + length prefix ≡ at + length f.0 + length f.1 = omega
    (arith, ap length f.2, length-append f.0 f.1) in (
      f.0,
      f.1 ++ rest,
      ap (λ z. z ++ rest) f.2 ∙ append_assoc f.0 f.1 rest,
      f.3,
      f.4,
      runs-frame most (at + length f.0) ms f.1 rest fault f.5 (subst (λ n. Ends most n rest fault) offset e),
    )

runs-meaning : (most : ℕ) (bytes : List ℕ) (ms : List ValueMsg) (fault : Option FrameFault) → Means most bytes ms fault
    → Runs most 0 bytes ms fault
runs-meaning most bytes ms None f =
    subst (λ z. Runs most 0 z ms None) (append-nil bytes) (runs-frame most 0 ms bytes [] None f refl)
runs-meaning most bytes ms (Some fault) f =
    subst (λ z. Runs most 0 z ms (Some fault)) (sym f.2)
    (runs-frame most 0 ms f.0 f.1 (Some fault) f.3 (f.4 ∙ sym (zero-add (length f.0)), f.5, f.6))

-- no message begins what is left at the end of a run
ends-no_message : (most at : ℕ) (bytes : List ℕ) (fault : Option FrameFault) (m : ValueMsg) (x r : List ℕ)
    → Ends most at bytes fault
    → bytes ≡ x ++ r → IsMessage m x → size_of m.value ≤ most → ⊥
ends-no_message most at bytes None m x r e whole p small =
    let some : 0 < length x = message-some m x p in
    omega (arith, ap length e, ap length whole, length-append x r, some)
ends-no_message most at bytes (Some fault) m x r e whole p small = fault-no_message most bytes fault.kind m x r e.2
    whole p small

ends-meet : (most at : ℕ) (bytes : List ℕ) (f g : Option FrameFault) → Ends most at bytes f → Ends most at bytes g
    → f ≡ g
ends-meet most at bytes None None d e = refl
ends-meet most at bytes None (Some g) d e = absurd (e.1 d)
ends-meet most at bytes (Some f) None d e = absurd (d.1 e)
ends-meet most at bytes (Some f) (Some g) d e =
    let offset : f.at ≡ g.at = d.0 ∙ sym e.0 in
    let kind : f.kind ≡ g.kind = faults-meet most bytes f.kind g.kind d.2 e.2 in
    ap (λ n. Some (record { at = n; kind = f.kind })) offset ∙ ap (λ k. Some (record { at = g.at; kind = k })) kind

runs-meet : (most at : ℕ) (bytes : List ℕ) (ms ns : List ValueMsg) (f g : Option FrameFault) → Runs most at bytes ms f
    → Runs most at bytes ns g
    → (ms ≡ ns) × (f ≡ g)
runs-meet most at bytes [] [] f g p q = (refl, ends-meet most at bytes f g p q)
runs-meet most at bytes [] (n ∷ ns) f g p q = absurd (ends-no_message most at bytes f n q.0 q.1 p q.2 q.3 q.4)
runs-meet most at bytes (m ∷ ms) [] f g p q = absurd (ends-no_message most at bytes g m p.0 p.1 q p.2 p.3 p.4)
runs-meet most at bytes (m ∷ ms) (n ∷ ns) f g p q =
    let same = messages-meet m n p.0 q.0 p.1 q.1 p.3 q.3 (sym p.2 ∙ q.2) in
    let rest : Runs most (at + length p.0) p.1 ns g =
    subst (λ z. Runs most (at + length p.0) z ns g) (sym same.rest)
    (subst (λ z. Runs most (at + length z) q.1 ns g) (sym same.spelling) q.5) in
    let more = runs-meet most (at + length p.0) p.1 ms ns f g p.5 rest in
    (ap (λ z. z ∷ ms) same.message ∙ ap (λ z. n ∷ z) more.0, more.1)

pub meanings-meet : (most : ℕ) (bytes : List ℕ) (ms ns : List ValueMsg) (f g : Option FrameFault)
    → Means most bytes ms f → Means most bytes ns g
    → (ms ≡ ns) × (f ≡ g)
meanings-meet most bytes ms ns f g p q =
    runs-meet most 0 bytes ms ns f g (runs-meaning most bytes ms f p) (runs-meaning most bytes ns g q)

-- ---- the longest prefix

-- frames of the same messages have one spelling at the start of the same bytes
frames-meet : (most : ℕ) (ms : List ValueMsg) (x y r s : List ℕ) → IsFrame most ms x → IsFrame most ms y
    → x ++ r ≡ y ++ s → r ≡ s
frames-meet most [] x y r s p q e =
    subst (λ z. z ++ r ≡ s) p (e ∙ ap (λ z. z ++ s) q)
frames-meet most (m ∷ ms) x y r s p q e =
    let whole : p.0 ++ (p.1 ++ r) ≡ q.0 ++ (q.1 ++ s) =
    sym (append_assoc p.0 p.1 r) ∙ ap (λ z. z ++ r) (sym p.2) ∙ e ∙ ap (λ z. z ++ s) q.2 ∙ append_assoc q.0 q.1 s in
    let same = messages-meet m m p.0 q.0 (p.1 ++ r) (q.1 ++ s) p.3 q.3 whole in
    frames-meet most ms p.1 q.1 r s p.5 q.5 same.rest

pub fault-longest : (most : ℕ) (bytes prefix rest x r : List ℕ) (ms : List ValueMsg) (fault : FrameFault) (m : ValueMsg)
    → Means most bytes ms (Some fault) → bytes ≡ prefix ++ rest → IsFrame most ms prefix
    → rest ≡ x ++ r → IsMessage m x → size_of m.value ≤ most → ⊥
fault-longest most bytes prefix rest x r ms fault m p whole frame e message small =
    let left : p.1 ≡ rest = frames-meet most ms p.0 prefix p.1 rest p.3 frame (sym p.2 ∙ whole) in
    fault-no_message most p.1 fault.kind m x r p.6 (left ∙ e) message small

-- ---- what the reader gives is the one meaning

pub fault-only : (most : ℕ) (bytes : List ℕ) (ms : List ValueMsg) (prefix rest : List ℕ) (fault : FrameFault)
    → bytes ≡ prefix ++ rest → IsFrame most ms prefix → fault.at ≡ length bytes - length rest → rest ≢ []
    → IsFault most rest fault.kind
    → (ns : List ValueMsg) (other : Option FrameFault) → Means most bytes ns other → (ns ≡ ms) × (other ≡ Some fault)
fault-only most bytes ms prefix rest fault whole frame at left f ns other means =
    let offset : fault.at ≡ length prefix = omega (arith, at, ap length whole, length-append prefix rest) in
    meanings-meet most bytes ns ms other (Some fault) means (prefix, rest, whole, frame, offset, left, f)

pub whole-only : (most : ℕ) (bytes : List ℕ) (ms : List ValueMsg) (prefix rest : List ℕ) → bytes ≡ prefix ++ rest
    → IsFrame most ms prefix → length rest ≡ 0
    → (ns : List ValueMsg) (other : Option FrameFault) → Means most bytes ns other → (ns ≡ ms) × (other ≡ None)
whole-only most bytes ms prefix rest whole frame end ns other means =
    let same : prefix ≡ bytes = sym (whole ∙ ap (λ z. prefix ++ z) (nil_from_length rest end) ∙ append-nil prefix) in
    meanings-meet most bytes ns ms other None means (subst (λ z. IsFrame most ms z) same frame)
