-- What was read of a source, and what its head says.
use Rattle.std.proofs.Common.{◌≡◌, ℕ, ◌≤◌, Bool, true, false, not, List, [], length, take, drop, map, refl, sym, ap, ◌∙◌, subst, arith, inl, inr, lit≤}
use Rattle.std.specs.Prelude.{Option, Result, Ok, Err, if◌then◌else◌, codes}
use Rattle.std.specs.Io.KnownBytes.{Consumes}
use Rattle.std.proofs.KnownBytes.{Consumes-nil}
use Rattle.std.proofs.Math.Seq.{drop-length}
use Rattle.std.proofs.lemmas.List.{length-take, length-map}
use Rattle.httparse.specs.Grammar.{Field as Heading, RequestHead, ReadsRequest, ResponseHead, ReadsResponse, status_code}
use Rattle.httparse.specs.Spans.{name_and_value, span_bytes, header_bytes, AreFieldsAt, IsRequestAt, IsResponseAt}
use Rattle.httparse.specs.declared.spans.HeaderSpan.{HeaderSpan}
use Rattle.httparse.specs.declared.spans.RequestSpans.{RequestSpans}
use Rattle.httparse.specs.declared.spans.ResponseSpans.{ResponseSpans}
use Rattle.nt_topics.specs.declared.version.Version.{Version}
use Rattle.nt_topics.specs.declared.version.Version.TheVariants.{V41}
use Rattle.nt_ws.specs.Fields.{Field, is_only}
use Rattle.nt_ws.specs.Written.{protocol_of, accept_of}
use Rattle.nt_ws.specs.declared.fault.HeadFault.{HeadFault}
use Rattle.nt_ws.specs.declared.fault.HeadFault.TheVariants.{NotHttp, NotUpgrade, NoProtocol, BadKey, Memory}
use Rattle.nt_ws.specs.declared.request.Request.{Request}
use Rattle.nt_ws.specs.Ends.{most_bytes, IsHead, GivesNone}
use Rattle.nt_ws.specs.Heads.{Gives, asked, asked_by, SaysRequest, takes_upgrade, agreed, agreed_by, SaysResponse}
use Rattle.nt_ws.specs.Streams.{ReadsHead}
use Rattle.nt_ws.proofs.Asking.{IsInside, StaysInside, asked-inside, gives-inside}

pub head-says : {T : Type 0} (P : List ℕ → Result T HeadFault
    → Type 0) (before now : Option (List ℕ)) (head : List ℕ) (result : Result T HeadFault)
    → IsHead head → length head ≤ most_bytes → Consumes before now head → P head result → ReadsHead P before now result
head-says P before now head result is few consumed says = record {
  taken = head;
  consumed = consumed;
  says = inl
      (is, few, says);
}

pub none-says : {T : Type 0} (P : List ℕ → Result T HeadFault
    → Type 0) (before now : Option (List ℕ)) (fault : HeadFault) → GivesNone before now fault
    → ReadsHead P before now (Err fault)
none-says P before now fault none = record {
  taken = none.taken;
  consumed = none.consumed;
  says = inr
      (fault, none.cause, refl);
}

pub nothing-says : {T : Type 0} (P : List ℕ → Result T HeadFault → Type 0) (before : Option (List ℕ))
    → ReadsHead P before before (Err Memory)
nothing-says P before = record { taken = []; consumed = Consumes-nil before; says = inr (Memory, lit≤ tt, refl) }

-- ---- a head that a parser found

-- its fields are as many as the spans that cover them, so there is room for all
few-fields : (bytes : List ℕ) (spans : List HeaderSpan) (count : ℕ) (fields : List Heading) → count ≤ 64
    → AreFieldsAt bytes spans count fields → length fields ≤ 64
few-fields bytes spans count fields few at =
    omega (
      arith,
      sym (length-map fields name_and_value) ∙ ap length (sym at)
          ∙ length-map (take count spans) (header_bytes bytes),
      length-take count spans,
      few,
    )

pub request-says : (bytes : List ℕ) (spans : List HeaderSpan) (found : RequestSpans) (head : RequestHead)
    (result : Result Request HeadFault)
    (method target : List ℕ) (minor : ℕ) (fields : List Field) → IsRequestAt bytes spans found head
    → found.len ≡ length bytes → found.headers ≤ 64
    → method ≡ span_bytes bytes found.method → target ≡ span_bytes bytes found.path → minor ≡ found.version
    → fields ≡ map (header_bytes bytes) (take found.headers spans)
    → Gives (asked method target minor fields) result → SaysRequest bytes result
request-says bytes spans found head result method target minor fields at whole few m t v f gives =
    let none : drop found.len bytes ≡ [] = ap (λ (n : ℕ). drop n bytes) whole ∙ drop-length bytes in
    let same : asked method target minor fields ≡ asked_by head =
    rw (m ∙ at.method, t ∙ at.path, v ∙ at.version, f ∙ at.fields) in
    inl (
      head,
      record {
        reads = subst (ReadsRequest bytes head) none at.reads;
        few = few-fields bytes spans found.headers head.fields few at.fields;
      },
      subst (λ (e : Result Request HeadFault). Gives e result) same gives,
    )

pub response-says : (key bytes : List ℕ) (spans : List HeaderSpan) (found : ResponseSpans) (head : ResponseHead)
    (result : Result Version HeadFault)
    (fields : List Field) → IsResponseAt bytes spans found head → found.len ≡ length bytes → found.headers ≤ 64
    → fields ≡ map (header_bytes bytes) (take found.headers spans)
    → Gives (agreed key found.code fields) result → SaysResponse key bytes result
response-says key bytes spans found head result fields at whole few f gives =
    let none : drop found.len bytes ≡ [] = ap (λ (n : ℕ). drop n bytes) whole ∙ drop-length bytes in
    let same : agreed key found.code fields ≡ agreed_by key head = rw (at.code, f ∙ at.fields) in
    inl (
      head,
      record {
        reads = subst (ReadsResponse bytes head) none at.reads;
        few = few-fields bytes spans found.headers head.fields few at.fields;
      },
      subst (λ (e : Result Version HeadFault). Gives e result) same gives,
    )

-- ---- answers

agreed-inside : (key : List ℕ) (status : ℕ) (fields : List Field) → StaysInside (agreed key status fields)
agreed-inside key status fields =
    by (takes_upgrade status fields) (is_only (codes "sec-websocket-accept") (accept_of key) fields) (is_only
    (codes "sec-websocket-protocol") (protocol_of V41) fields)
  where
    by : (a b c : Bool)
        → StaysInside (if not a then Err NotUpgrade else (if not b then Err BadKey else
        (if not c then Err NoProtocol else Ok V41)))
    by true true true = tt
    by true true false = tt
    by true false c = tt
    by false b c = tt

-- no head is a fault of the outside
pub request-inside : (bytes : List ℕ) (fault : HeadFault) → SaysRequest bytes (Err fault) → IsInside fault
request-inside bytes fault says = elim says [
  | inl h ↦ gives-inside (asked_by h.0) fault (asked-inside h.0.method h.0.target h.0.minor
      (map name_and_value h.0.fields)) h.2
  | inr h ↦ gives-inside {T = Request} (Err NotHttp) fault tt h.1
]

pub response-inside : (key bytes : List ℕ) (fault : HeadFault) → SaysResponse key bytes (Err fault) → IsInside fault
response-inside key bytes fault says = elim says [
  | inl h ↦ gives-inside (agreed_by key h.0) fault (agreed-inside key (status_code h.0)
      (map name_and_value h.0.fields)) h.2
  | inr h ↦ gives-inside {T = Version} (Err NotHttp) fault tt h.1
]
