-- What a head asks, case by case.
use Rattle.std.proofs.Common.{◌≡◌, ◌≢◌, ℕ, Bool, true, false, List, length, sym, ap, ◌∙◌, subst}
use Rattle.std.specs.Prelude.{Option, None, Some, Result, Ok, Err, ⊤, if◌then◌else◌}
use Rattle.std.proofs.lemmas.Bool.{ne_eqb}
use Rattle.base64.specs.Engines.{standard}
use Rattle.base64.specs.GeneralPurpose.{decode_of, encode_of}
use Rattle.base64.specs.declared.decode.DecodeError.{DecodeError}
use Rattle.nt_topics.specs.Paths.{path_name}
use Rattle.nt_topics.specs.declared.path.PathFault.{PathFault}
use Rattle.nt_topics.specs.declared.path.PathFault.TheVariants as Path
use Rattle.nt_topics.specs.declared.version.Version.{Version}
use Rattle.nt_ws.specs.Fields.{Field}
use Rattle.nt_ws.specs.Written.{base64}
use Rattle.nt_ws.specs.declared.fault.HeadFault.{HeadFault}
use Rattle.nt_ws.specs.declared.fault.HeadFault.TheVariants.{Read, Write, TooLong, NotHttp, NotUpgrade, BadPath, NoProtocol, BadKey, Memory}
use Rattle.nt_ws.specs.Heads.{Gives, fault_of, asks_upgrade, picked, is_key, are_sixteen, key_in, key_of, with_key, with_version, with_name, asked}

-- ---- keys

pub key-taken : (text nonce name : List ℕ) → decode_of standard text ≡ Ok nonce → length nonce ≡ 16
    → text ≡ encode_of standard nonce → name ≡ base64 nonce
    → key_in (Some text) ≡ Ok name
unfolding is_key base64
key-taken text nonce name d n t b =
    let sixteen : is_key text ≡ true = ap are_sixteen d ∙ rw n in
    rw sixteen (ap Ok (t ∙ sym b))

pub key-of-other-length : (text nonce : List ℕ) → decode_of standard text ≡ Ok nonce → length nonce ≢ 16
    → key_in (Some text) ≡ Err BadKey
unfolding is_key
key-of-other-length text nonce d n =
    let other : is_key text ≡ false = ap are_sixteen d ∙ ne_eqb (length nonce) 16 n in
    rw other

pub key-of-no-bytes : (text : List ℕ) (fault : DecodeError) → decode_of standard text ≡ Err fault
    → key_in (Some text) ≡ Err BadKey
unfolding is_key
key-of-no-bytes text fault d =
    let other : is_key text ≡ false = ap are_sixteen d in
    rw other

-- ---- no head is a fault of the outside

abbrev pub IsInside : HeadFault → Type 0
IsInside Read = ⊥
IsInside Write = ⊥
IsInside TooLong = ⊤
IsInside NotHttp = ⊤
IsInside NotUpgrade = ⊤
IsInside BadPath = ⊤
IsInside NoProtocol = ⊤
IsInside BadKey = ⊤
IsInside Memory = ⊤

abbrev pub StaysInside : {T : Type 0} → Result T HeadFault → Type 0
StaysInside (Ok value) = ⊤
StaysInside (Err fault) = IsInside fault

path-inside : (fault : PathFault) → IsInside (fault_of fault)
path-inside Path.NotNt = tt
path-inside Path.NotText = tt
path-inside Path.Empty = tt
path-inside Path.TooLong = tt
path-inside Path.Memory = tt

key-inside : (text : Option (List ℕ)) → StaysInside (key_in text)
key-inside None = tt
key-inside (Some text) = by (is_key text)
  where
    by : (t : Bool) → StaysInside (if t then Ok text else Err BadKey)
    by true = tt
    by false = tt

with-key-inside : (name : List ℕ) (version : Version) (key : Result (List ℕ) HeadFault) → StaysInside key
    → StaysInside (with_key name version key)
with-key-inside name version (Ok key) h = tt
with-key-inside name version (Err fault) h = h

with-version-inside : (name : List ℕ) (fields : List Field) (version : Option Version)
    → StaysInside (with_version name fields version)
with-version-inside name fields None = tt
with-version-inside name fields (Some version) = with-key-inside name version (key_of fields) (key-inside _)

with-name-inside : (fields : List Field) (name : Result (List ℕ) PathFault) → StaysInside (with_name fields name)
with-name-inside fields (Ok name) = with-version-inside name fields (picked fields)
with-name-inside fields (Err fault) = path-inside fault

pub asked-inside : (method target : List ℕ) (minor : ℕ) (fields : List Field)
    → StaysInside (asked method target minor fields)
asked-inside method target minor fields = by (asks_upgrade method minor fields)
  where
    by : (t : Bool) → StaysInside (if t then with_name fields (path_name target) else Err NotUpgrade)
    by true = with-name-inside fields (path_name target)
    by false = tt

-- so no call that answers it does
pub gives-inside : {T : Type 0} (expected : Result T HeadFault) (fault : HeadFault) → StaysInside expected
    → Gives expected (Err fault) → IsInside fault
gives-inside {T = T} expected Read h g = let e : expected ≡ Err Read = g (λ m. absurd (cc)) in subst
    (StaysInside {T = T}) e h
gives-inside {T = T} expected Write h g = let e : expected ≡ Err Write = g (λ m. absurd (cc)) in subst
    (StaysInside {T = T}) e h
gives-inside expected TooLong h g = tt
gives-inside expected NotHttp h g = tt
gives-inside expected NotUpgrade h g = tt
gives-inside expected BadPath h g = tt
gives-inside expected NoProtocol h g = tt
gives-inside expected BadKey h g = tt
gives-inside expected Memory h g = tt
