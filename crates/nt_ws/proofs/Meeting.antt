-- Both sides of a handshake, from what each call of it read and wrote.
use Rattle.std.proofs.Common.{◌≡◌, ℕ, List, [], refl, sym, subst, inl, inr}
use Rattle.std.specs.Prelude.{Option, Result, Ok, Err, ⊤}
use Rattle.std.specs.Io.KnownBytes.{Appends}
use Rattle.std.proofs.KnownBytes.{Appends-nil}
use Rattle.nt_topics.specs.declared.version.Version.{Version}
use Rattle.nt_ws.specs.declared.fault.HeadFault.{HeadFault}
use Rattle.nt_ws.specs.declared.fault.HeadFault.TheVariants.{Read, Write, TooLong, NotHttp, NotUpgrade, BadPath, NoProtocol, BadKey, Memory}
use Rattle.nt_ws.specs.declared.request.Request.{Request}
use Rattle.nt_ws.specs.Ends.{BringsNone}
use Rattle.nt_ws.specs.Heads.{SaysRequest, SaysResponse}
use Rattle.nt_ws.specs.Written.{base64, answer_of, refusal_of}
use Rattle.nt_ws.specs.Streams.{Says, ReadsHead, Taken, Fails, Tells, TellsBy, Welcomes, Refuses, RefusesBy, Greets, Asking, request_by, Hears, Joins}
use Rattle.nt_ws.proofs.Heard.{request-inside, response-inside}

-- a call that answered a value might have answered want of memory
forgets : (bytes : List ℕ) (request : Request) → SaysRequest bytes (Ok request) → SaysRequest bytes (Err Memory)
forgets bytes request says = elim says [
  | inl h ↦ inl (h.0, h.1, λ n. absurd (n refl))
  | inr h ↦ inr (h.0, λ n. absurd (n refl))
]

says-memory : (taken : List ℕ) (left : Option (List ℕ)) (request : Request)
    → Says SaysRequest taken left (Ok request) → Says SaysRequest taken left (Err Memory)
says-memory taken left request says = elim says [
  | inl h ↦ inl (h.0, h.1, forgets taken request h.2)
  | inr h ↦ let e = h.2 in absurd (cc)
]

pub no-memory-to-answer : (before now : Option (List ℕ)) (sink : Taken) (request : Request)
    → ReadsHead SaysRequest before now (Ok request) → sink.now ≡ sink.before → Greets before now sink (Err Memory)
no-memory-to-answer before now sink request read same = record {
  read = record { taken = read.taken; consumed = read.consumed; says = says-memory read.taken now request read.says };
  told = inl (subst (λ (w : Option (List ℕ)). Appends sink.before w []) (sym same) (Appends-nil sink.before));
}

-- ---- a sink that was left alone before

abbrev pub sink_of : Option (List ℕ) → Option (List ℕ) → ℕ → ℕ → Taken
sink_of before now faults_before faults_now = record {
  before = before;
  now = now;
  faults_before = faults_before;
  faults_now = faults_now;
}

fails-since : (w0 w1 w2 : Option (List ℕ)) (f0 f1 f2 : ℕ) (bytes : List ℕ) → w1 ≡ w0 → f1 ≡ f0
    → Fails (sink_of w1 w2 f1 f2) bytes → Fails (sink_of w0 w2 f0 f2) bytes
fails-since w0 w1 w2 f0 f1 f2 bytes w f fails =
    subst (λ (b : Option (List ℕ)). Fails (sink_of b w2 f0 f2) bytes) w (subst (λ (n : ℕ). Fails
    (sink_of w1 w2 n f2) bytes) f fails)

pub fails-to-answer : (l0 l1 l2 w0 w1 w2 : Option (List ℕ)) (f0 f1 f2 : ℕ) (request : Request) (bytes : List ℕ)
    → ReadsHead SaysRequest l0 l1 (Ok request)
    → l2 ≡ l1 → w1 ≡ w0 → f1 ≡ f0 → bytes ≡ answer_of request → Fails (sink_of w1 w2 f1 f2) bytes
    → Greets l0 l2 (sink_of w0 w2 f0 f2) (Err Write)
fails-to-answer l0 l1 l2 w0 w1 w2 f0 f1 f2 request bytes read l w f b fails = record {
  request = request;
  read = subst (λ (n : Option (List ℕ)). ReadsHead SaysRequest l0 n (Ok request)) (sym l) read;
  fails = subst (Fails (sink_of w0 w2 f0 f2)) b (fails-since w0 w1 w2 f0 f1 f2 bytes w f fails);
}

pub welcomes : (l0 l1 l2 w0 w1 w2 : Option (List ℕ)) (f0 f2 : ℕ) (request : Request) (bytes : List ℕ)
    → ReadsHead SaysRequest l0 l1 (Ok request)
    → l2 ≡ l1 → w1 ≡ w0 → bytes ≡ answer_of request → Appends w1 w2 bytes
    → Welcomes l0 l2 (sink_of w0 w2 f0 f2) request.name request.version
welcomes l0 l1 l2 w0 w1 w2 f0 f2 request bytes read l w b written = record {
  request = request;
  read = subst (λ (n : Option (List ℕ)). ReadsHead SaysRequest l0 n (Ok request)) (sym l) read;
  name_is = refl;
  version_is = refl;
  written = subst (Appends w0 w2) b (subst (λ (a : Option (List ℕ)). Appends a w2 bytes) w written);
}

-- ---- a refusal

tells-by : (sink : Taken) (bytes : List ℕ) (r : Result ⊤ HeadFault) → TellsBy sink bytes r → Tells sink bytes
tells-by sink bytes (Ok done) h = inl h
tells-by sink bytes (Err fault) h = inr h.1

tells-since : (w0 w1 w2 : Option (List ℕ)) (f0 f1 f2 : ℕ) (bytes : List ℕ) → w1 ≡ w0 → f1 ≡ f0
    → Tells (sink_of w1 w2 f1 f2) bytes → Tells (sink_of w0 w2 f0 f2) bytes
tells-since w0 w1 w2 f0 f1 f2 bytes w f tells = elim tells [
  | inl h ↦ inl (subst (λ (a : Option (List ℕ)). Appends a w2 bytes) w h)
  | inr h ↦ inr (fails-since w0 w1 w2 f0 f1 f2 bytes w f h)
]

brings-no-write : (taken : List ℕ) (left : Option (List ℕ)) (fault : HeadFault) → BringsNone fault taken left
    → fault ≡ Write → ⊥
brings-no-write taken left fault h e = subst (λ (f : HeadFault). BringsNone f taken left) e h

no-write-read : (taken : List ℕ) (left : Option (List ℕ)) → Says SaysRequest taken left (Err Write) → ⊥
no-write-read taken left says = elim says [
  | inl h ↦ request-inside taken Write h.2
  | inr h ↦ let e = h.2 in brings-no-write taken left h.0 h.1 cc
]

no-write-heard : (key taken : List ℕ) (left : Option (List ℕ)) → Says (SaysResponse key) taken left (Err Write) → ⊥
no-write-heard key taken left says = elim says [
  | inl h ↦ response-inside key taken Write h.2
  | inr h ↦ let e = h.2 in brings-no-write taken left h.0 h.1 cc
]

refused : (before now : Option (List ℕ)) (sink : Taken) (fault : HeadFault) → Refuses before now sink fault
    → RefusesBy before now sink fault
refused before now sink Write r = absurd (no-write-read r.read.taken now r.read.says)
refused before now sink Read r = r
refused before now sink TooLong r = r
refused before now sink NotHttp r = r
refused before now sink NotUpgrade r = r
refused before now sink BadPath r = r
refused before now sink NoProtocol r = r
refused before now sink BadKey r = r
refused before now sink Memory r = r

pub refuses : (l0 l1 l2 w0 w1 w2 : Option (List ℕ)) (f0 f1 f2 : ℕ) (fault : HeadFault) (bytes : List ℕ)
    (r : Result ⊤ HeadFault) → ReadsHead SaysRequest l0 l1 (Err fault)
    → l2 ≡ l1 → w1 ≡ w0 → f1 ≡ f0 → bytes ≡ refusal_of fault → TellsBy (sink_of w1 w2 f1 f2) bytes r
    → RefusesBy l0 l2 (sink_of w0 w2 f0 f2) fault
refuses l0 l1 l2 w0 w1 w2 f0 f1 f2 fault bytes r read l w f b tells = refused l0 l2 (sink_of w0 w2 f0 f2) fault
    (record {
      read = subst (λ (n : Option (List ℕ)). ReadsHead SaysRequest l0 n (Err fault)) (sym l) read;
      told = subst (Tells (sink_of w0 w2 f0 f2)) b (tells-since w0 w1 w2 f0 f1 f2 bytes w f (tells-by _ bytes r tells));
    })

-- ---- a client

heard : (asking : Asking) (before now : Option (List ℕ)) (sink : Taken) (result : Result Version HeadFault)
    → Hears asking before now sink result → Joins asking before now sink result
heard asking before now sink (Ok version) h = h
heard asking before now sink (Err Write) h = absurd (no-write-heard (base64 asking.nonce) h.read.taken now h.read.says)
heard asking before now sink (Err Memory) h = inr h
heard asking before now sink (Err Read) h = h
heard asking before now sink (Err TooLong) h = h
heard asking before now sink (Err NotHttp) h = h
heard asking before now sink (Err NotUpgrade) h = h
heard asking before now sink (Err BadPath) h = h
heard asking before now sink (Err NoProtocol) h = h
heard asking before now sink (Err BadKey) h = h

pub joins : (asking : Asking) (l0 l1 l2 w0 w1 w2 : Option (List ℕ)) (f0 f2 : ℕ) (bytes : List ℕ)
    (result : Result Version HeadFault) → l1 ≡ l0 → w2 ≡ w1 → bytes ≡ request_by asking
    → Appends w0 w1 bytes → ReadsHead (SaysResponse (base64 asking.nonce)) l1 l2 result
    → Joins asking l0 l2 (sink_of w0 w2 f0 f2) result
joins asking l0 l1 l2 w0 w1 w2 f0 f2 bytes result l w b written read = heard asking l0 l2
    (sink_of w0 w2 f0 f2) result (record {
      written = subst (Appends w0 w2) b (subst (λ (n : Option (List ℕ)). Appends w0 n bytes) (sym w) written);
      read = subst (λ (n : Option (List ℕ)). ReadsHead (SaysResponse (base64 asking.nonce)) n l2 result) l read;
    })
