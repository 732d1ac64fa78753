-- Steps of reading: what those took that did not stop, and where a chain stopped.
use Rattle.std.proofs.Common.{◌≡◌, ℕ, ◌≤◌, Bool, true, false, cond, ◌⊎◌, inl, inr, List, ◌++◌, length, take, drop, Result, Ok, Err, refl, sym, ap, subst, ◌∙◌, append_assoc, arith, ltb}
use Rattle.std.proofs.lemmas.Bool.{ltb-false, le-ltb}
use Rattle.std.proofs.lemmas.List.{take-append-drop, take_at, drop_at, length-append, length-take}
use Rattle.wpilog_write.specs.Log.{number, IsString}
use Rattle.wpilog_read.specs.declared.fault.LogKind.{LogKind}
use Rattle.wpilog_read.specs.declared.fault.Stop.{Stop}
use Rattle.wpilog_read.specs.declared.fault.Stop.TheVariants.{Wanting, Known}
use Rattle.wpilog_read.specs.Reading.{◌>>=◌, unless, bytes_at, number_at, string_at}

-- a value, and a stop, as answers of a step
abbrev pub done : {A : Type 0} → A → Result A Stop
done x = Ok x

abbrev pub failed : {A : Type 0} → Stop → Result A Stop
failed stop = Err stop

-- equal answers hold equal values
pub ok_is : {A : Type 0} (x y : A) → done x ≡ done y → x ≡ y
ok_is x y e = cc

-- equal answers stop equally
pub err_is : {A : Type 0} (c d : Stop) → failed {A = A} c ≡ failed d → c ≡ d
err_is c d e = cc

-- a value is no stop
pub ok_no_err : {A : Type 0} (x : A) (stop : Stop) → done x ≡ failed stop → ⊥
ok_no_err x stop e = cc

-- the value of a step that did not stop
pub bind_ok : {A B : Type 0} (r : Result A Stop) (f : A → Result B Stop) (y : B) → (r >>= f) ≡ Ok y
    → (x : A) × (r ≡ Ok x) × (f x ≡ Ok y)
bind_ok (Ok x) f y e = (x, refl, e)
bind_ok (Err stop) f y e = absurd cc

-- where a chain stopped
pub bind_err : {A B : Type 0} (r : Result A Stop) (f : A → Result B Stop) (stop : Stop) → (r >>= f) ≡ Err stop
    → (r ≡ Err stop) ⊎ ((x : A) × (r ≡ Ok x) × (f x ≡ Err stop))
bind_err (Ok x) f stop e = inr (x, refl, e)
bind_err (Err other) f stop e = inl cc

-- a chain that can stop only so
abbrev pub StopsAt : {A : Type 0} → Stop → Result A Stop → Type 0
StopsAt only r = (stop : Stop) → r ≡ Err stop → stop ≡ only

-- a stop itself
pub err-stops : {A : Type 0} (only : Stop) → StopsAt only (failed {A = A} only)
err-stops only stop e = sym (err_is only stop e)

-- a value
pub ok-stops : {A : Type 0} (only : Stop) (x : A) → StopsAt only (done x)
ok-stops only x stop e = absurd (ok_no_err x stop e)

-- a step and then others
pub bind-stops : {A B : Type 0} (only : Stop) (r : Result A Stop) (f : A → Result B Stop) → StopsAt only r
    → ((x : A) → StopsAt only (f x)) → StopsAt only (r >>= f)
bind-stops only (Ok x) f first later stop e = later x stop e
bind-stops only (Err c) f first later stop e = sym (err_is c stop e) ∙ first c refl

-- either of two
pub cond-stops : {A : Type 0} (only : Stop) (test : Bool) (r s : Result A Stop) → StopsAt only r → StopsAt only s
    → StopsAt only (cond test r s)
cond-stops only true r s on off = on
cond-stops only false r s on off = off

-- a test
pub unless-stops : (test : Bool) (kind : LogKind) → StopsAt (Known kind) (unless test kind)
unless-stops test kind = cond-stops (Known kind) test (Err (Known kind)) (Ok tt) (err-stops (Known kind))
    (ok-stops (Known kind) tt)

-- a step that wants bytes knows no fault
pub wanting-unknown : {A : Type 0} (r : Result A Stop) (kind : LogKind) → StopsAt Wanting r → r ≡ Err (Known kind) → ⊥
wanting-unknown r kind stops e = let same : Known kind ≡ Wanting = stops (Known kind) e in cc

-- ---- tests

-- a test that stopped
pub unless_err : (test : Bool) (kind : LogKind) (stop : Stop) → unless test kind ≡ Err stop
    → (test ≡ true) × (stop ≡ Known kind)
unless_err true kind stop e = (refl, sym (err_is (Known kind) stop e))
unless_err false kind stop e = absurd (ok_no_err tt stop e)

-- a test that did not stop
pub guard_ok : {A : Type 0} (test : Bool) (stop : Stop) (r : Result A Stop) (y : A) → cond test (Err stop) r ≡ Ok y
    → (test ≡ false) × (r ≡ Ok y)
guard_ok true stop r y e = absurd cc
guard_ok false stop r y e = (refl, e)

-- a test that was passed
pub pass_ok : {A : Type 0} (test : Bool) (stop : Stop) (r : Result A Stop) (y : A) → cond test r (Err stop) ≡ Ok y
    → (test ≡ true) × (r ≡ Ok y)
pass_ok true stop r y e = (refl, e)
pass_ok false stop r y e = absurd cc

-- a test in a chain that did not stop
pub unless_ok : (test : Bool) (kind : LogKind) (x : Unit {0}) → unless test kind ≡ Ok x → test ≡ false
unless_ok true kind x e = absurd cc
unless_ok false kind x e = refl

-- ---- bytes and numbers

-- parts that stand one after another
pub parts_then : (prefix : List ℕ) {bytes rest others : List ℕ} → bytes ≡ prefix ++ rest → rest ≡ others
    → bytes ≡ prefix ++ others
parts_then prefix first later = first ∙ ap (λ (w : List ℕ). prefix ++ w) later

-- bytes that were taken from the prefix
pub record Takes (n : ℕ) (bytes prefix rest : List ℕ) : Type 0 where
  pub parts : bytes ≡ prefix ++ rest
  pub len : length prefix ≡ n

-- bytes that are read begin the bytes
pub bytes_at-takes : (stop : Stop) (n : ℕ) (bytes : List ℕ) (x : List ℕ × List ℕ) → bytes_at stop n bytes ≡ Ok x
    → Takes n bytes x.0 x.1
bytes_at-takes stop n bytes x e =
    let g = guard_ok (ltb (length bytes) n) stop (Ok (take n bytes, drop n bytes)) x e in
    let long : n ≤ length bytes = ltb-false _ _ g.0 in
    subst (λ (w : List ℕ × List ℕ). Takes n bytes w.0 w.1) (ok_is (take n bytes, drop n bytes) x g.1) (record {
      parts = sym (take-append-drop n bytes);
      len = omega (arith, length-take n bytes);
    })

-- bytes that stand in prefix are taken again, whatever follows
pub bytes_at-again : (stop : Stop) (n : ℕ) (prefix rest : List ℕ) → length prefix ≡ n
    → bytes_at stop n (prefix ++ rest) ≡ Ok (prefix, rest)
bytes_at-again stop n prefix rest len =
    let long : ltb (length (prefix ++ rest)) n ≡ false = le-ltb _ _ (omega (arith, length-append prefix rest)) in
    rw (long, take_at prefix rest n len, drop_at prefix rest n len) refl

-- only missing bytes stop it
pub bytes_at-stops : (stop : Stop) (n : ℕ) (bytes : List ℕ) → StopsAt stop (bytes_at stop n bytes)
bytes_at-stops stop n bytes = cond-stops stop (ltb (length bytes) n) (Err stop) (Ok (take n bytes, drop n bytes))
    (err-stops stop) (ok-stops stop _)

-- a number that was taken from the prefix
pub record TakesNumber (n : ℕ) (bytes : List ℕ) (value : ℕ) (rest : List ℕ) : Type 0 where
  pub field : List ℕ
  pub parts : bytes ≡ field ++ rest
  pub len : length field ≡ n
  pub is : number field ≡ value

-- a number that is read is spelled so
pub number_at-takes : (stop : Stop) (n : ℕ) (bytes : List ℕ) (x : ℕ × List ℕ) → number_at stop n bytes ≡ Ok x
    → TakesNumber n bytes x.0 x.1
unfolding number_at
number_at-takes stop n bytes x e =
    let b = bind_ok (bytes_at stop n bytes) (λ field. Ok (number field.0, field.1)) x e in
    let t = bytes_at-takes stop n bytes b.0 b.1 in
    subst (λ (w : ℕ × List ℕ). TakesNumber n bytes w.0 w.1) (ok_is (number b.0.0, b.0.1) x b.2) (record {
      field = b.0.0;
      parts = t.parts;
      len = t.len;
      is = refl;
    })

-- a number that stands in prefix is taken again, whatever follows
pub number_at-again : (stop : Stop) (n : ℕ) (field rest : List ℕ) → length field ≡ n
    → number_at stop n (field ++ rest) ≡ Ok (number field, rest)
unfolding number_at
number_at-again stop n field rest len = rw (bytes_at-again stop n field rest len) refl

-- only missing bytes stop it
pub number_at-stops : (stop : Stop) (n : ℕ) (bytes : List ℕ) → StopsAt stop (number_at stop n bytes)
unfolding number_at
number_at-stops stop n bytes = bind-stops stop (bytes_at stop n bytes) _ (bytes_at-stops stop n bytes)
    (λ field. ok-stops stop _)

-- ---- texts

-- a text that was taken from the prefix
pub record TakesString (bytes text rest : List ℕ) : Type 0 where
  pub prefix : List ℕ
  pub is : IsString prefix text
  pub parts : bytes ≡ prefix ++ rest

-- what is read is spelled so
pub string_at-takes : (stop : Stop) (bytes : List ℕ) (x : List ℕ × List ℕ) → string_at stop bytes ≡ Ok x
    → TakesString bytes x.0 x.1
unfolding string_at
string_at-takes stop bytes x e =
    let a = bind_ok (number_at stop 4 bytes) (λ len. bytes_at stop len.0 len.1) x e in
    let n = number_at-takes stop 4 bytes a.0 a.1 in
    let t = bytes_at-takes stop a.0.0 a.0.1 x a.2 in
    record {
      prefix = n.field ++ x.0;
      is = record { len = n.field; len_is = record { len_is = n.len; value = n.is ∙ sym t.len }; whole = refl };
      parts = parts_then n.field n.parts t.parts ∙ sym (append_assoc n.field x.0 x.1);
    }

-- what is spelled so is read, whatever follows
pub string_at-again : (stop : Stop) (prefix text rest : List ℕ) → IsString prefix text
    → string_at stop (prefix ++ rest) ≡ Ok (text, rest)
unfolding string_at
string_at-again stop prefix text rest h =
    let parts : prefix ++ rest ≡ h.len ++ (text ++ rest) = ap (λ (w : List ℕ). w ++ rest) h.whole
    ∙ append_assoc h.len text rest in
    rw (parts, number_at-again stop 4 h.len (text ++ rest) h.len_is.len_is, h.len_is.value)
    (bytes_at-again stop (length text) text rest refl)

-- only missing bytes stop it
pub string_at-stops : (stop : Stop) (bytes : List ℕ) → StopsAt stop (string_at stop bytes)
unfolding string_at
string_at-stops stop bytes = bind-stops stop (number_at stop 4 bytes) _ (number_at-stops stop 4 bytes)
    (λ len. bytes_at-stops stop len.0 len.1)
