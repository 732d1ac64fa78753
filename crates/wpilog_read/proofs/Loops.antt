-- Values as loops read them: what was read so far, and what is left.
use Rattle.std.proofs.Common.{◌≡◌, ℕ, suc, ◌+◌, ◌-◌, ◌<◌, ◌≤◌, Bool, not, List, [], ◌∷◌, ◌++◌, length, take, drop, get_or, Result, Ok, Err, refl, sym, ap, ◌∙◌, append_assoc, append-nil, add-one, drop-cons, arith}
use Rattle.std.proofs.lemmas.List.{length-drop, nil_from_length}
use Rattle.std.specs.Prelude.{ℤ, map, ◌==◌}
use Rattle.std.specs.Int.{w64, cast_signed}
use Rattle.wpilog_write.specs.Log.{number}
use Rattle.wpilog_read.specs.declared.fault.LogKind.TheVariants.{Misfit}
use Rattle.wpilog_read.specs.declared.fault.Stop.{Stop}
use Rattle.wpilog_read.specs.declared.fault.ReadError.{ReadError}
use Rattle.wpilog_read.specs.declared.fault.ReadError.TheVariants as errors
use Rattle.wpilog_read.specs.Reading.{◌>>=◌, Fails, unless, misfit, number_at, string_at, boolean_of, booleans_of, numbers, strings_at, strings_of}
use Rattle.wpilog_read.proofs.Steps.{done}

-- numbers: one more, and the last
pub numbers-more : (n count more : ℕ) (all after rest whole : List ℕ) (x : ℕ) → count ≡ suc more
    → all ++ numbers n count rest ≡ whole → after ≡ all ++ x ∷ [] → x ≡ number (take n rest)
    → after ++ numbers n more (drop n rest) ≡ whole
numbers-more n count more all after rest whole x left so_far pushed is =
    let all_left = rw left at so_far in
    rw (pushed, is) (append_assoc all (number (take n rest) ∷ []) (numbers n more (drop n rest)) ∙ all_left)

pub numbers-done : (n count : ℕ) (all rest whole : List ℕ) → count ≡ 0 → all ++ numbers n count rest ≡ whole
    → all ≡ whole
numbers-done n count all rest whole none so_far = let all_left = rw none at so_far in sym (append-nil all) ∙ all_left

-- whole numbers with a sign, likewise
abbrev pub ints : ℕ → List ℕ → List ℤ
ints count rest = map (cast_signed w64) (numbers 8 count rest)

pub ints-more : (count more : ℕ) (all after : List ℤ) (rest : List ℕ) (whole : List ℤ) (z : ℤ) → count ≡ suc more
    → all ++ ints count rest ≡ whole → after ≡ all ++ z ∷ [] → z ≡ cast_signed w64 (number (take 8 rest))
    → after ++ ints more (drop 8 rest) ≡ whole
ints-more count more all after rest whole z left so_far pushed is =
    let all_left = rw left at so_far in
    rw (pushed, is)
    (append_assoc all (cast_signed w64 (number (take 8 rest)) ∷ []) (ints more (drop 8 rest)) ∙ all_left)

pub ints-done : (count : ℕ) (all : List ℤ) (rest : List ℕ) (whole : List ℤ) → count ≡ 0 → all ++ ints count rest ≡ whole
    → all ≡ whole
ints-done count all rest whole none so_far = let all_left = rw none at so_far in sym (append-nil all) ∙ all_left

-- truth values: those that were read and then the rest
abbrev pub with_truths : List Bool → Result (List Bool) Stop → Result (List Bool) Stop
with_truths all rest = rest >>= λ more. Ok (all ++ more)

pub booleans-more : (all : List Bool) (truth : Bool) (b : ℕ) (bytes : List ℕ) → boolean_of b ≡ Ok truth
    → with_truths all (booleans_of (b ∷ bytes)) ≡ with_truths (all ++ truth ∷ []) (booleans_of bytes)
unfolding booleans_of
booleans-more all truth b bytes is = rw is (by_rest (booleans_of bytes)) where
  by_rest : (rest : Result (List Bool) Stop)
      → with_truths all (rest >>= λ more. Ok (truth ∷ more)) ≡ with_truths (all ++ truth ∷ []) rest
  by_rest (Ok more) = ap (λ (w : List Bool). done w) (sym (append_assoc all (truth ∷ []) more))
  by_rest (Err stop) = refl

pub booleans-stop : (all : List Bool) (stop : Stop) (b : ℕ) (bytes : List ℕ) → boolean_of b ≡ Err stop
    → with_truths all (booleans_of (b ∷ bytes)) ≡ Err stop
unfolding booleans_of
booleans-stop all stop b bytes is = rw is refl

pub booleans-none : (all : List Bool) → with_truths all (booleans_of []) ≡ Ok all
unfolding booleans_of
booleans-none all = ap (λ (w : List Bool). done w) (append-nil all)

-- texts, likewise
abbrev pub with_texts : List (List ℕ) → Result (List (List ℕ) × List ℕ) Stop → Result (List (List ℕ) × List ℕ) Stop
with_texts all rest = rest >>= λ more. Ok (all ++ more.0, more.1)

pub strings-more : (all : List (List ℕ)) (count : ℕ) (bytes : List ℕ) (x : List ℕ × List ℕ)
    → string_at misfit bytes ≡ Ok x
    → with_texts all (strings_at (suc count) bytes) ≡ with_texts (all ++ x.0 ∷ []) (strings_at count x.1)
unfolding strings_at
strings-more all count bytes x is = rw is (by_rest (strings_at count x.1)) where
  by_rest : (rest : Result (List (List ℕ) × List ℕ) Stop)
      → with_texts all (rest >>= λ more. Ok (x.0 ∷ more.0, more.1)) ≡ with_texts (all ++ x.0 ∷ []) rest
  by_rest (Ok more) = ap (λ (w : List (List ℕ)). done (w, more.1)) (sym (append_assoc all (x.0 ∷ []) more.0))
  by_rest (Err stop) = refl

pub strings-stop : (all : List (List ℕ)) (stop : Stop) (count : ℕ) (bytes : List ℕ) → string_at misfit bytes ≡ Err stop
    → with_texts all (strings_at (suc count) bytes) ≡ Err stop
unfolding strings_at
strings-stop all stop count bytes is = rw is refl

pub strings-none : (all : List (List ℕ)) (bytes : List ℕ) → with_texts all (strings_at 0 bytes) ≡ Ok (all, bytes)
unfolding strings_at
strings-none all bytes = ap (λ (w : List (List ℕ)). done (w, bytes)) (append-nil all)

-- the byte at an index of the bytes that are left
pub byte-at : (payload : List ℕ) (i b : ℕ) → i < length payload → b ≡ get_or payload i b
    → drop i payload ≡ b ∷ drop (i + 1) payload
byte-at payload i b within at = rw add-one (drop-cons payload i b within
    ∙ ap (λ (n : ℕ). n ∷ drop (suc i) payload) (sym at))

-- a truth value among others that is none
pub booleans-fail : (all : List Bool) (stop : Stop) (payload : List ℕ) (i b : ℕ) → i < length payload
    → b ≡ get_or payload i b → booleans_of payload ≡ with_truths all (booleans_of (drop i payload))
    → boolean_of b ≡ Err stop → booleans_of payload ≡ Err stop
booleans-fail all stop payload i b within at so_far wrong = so_far
    ∙ ap (λ (w : List ℕ). with_truths all (booleans_of w)) (byte-at payload i b within at)
    ∙ booleans-stop all stop b (drop (i + 1) payload) wrong

-- and one more
pub booleans-next : (all after : List Bool) (truth : Bool) (payload : List ℕ) (i b : ℕ) → i < length payload
    → b ≡ get_or payload i b → booleans_of payload ≡ with_truths all (booleans_of (drop i payload))
    → boolean_of b ≡ Ok truth → after ≡ all ++ truth ∷ []
    → booleans_of payload ≡ with_truths after (booleans_of (drop (i + 1) payload))
booleans-next all after truth payload i b within at so_far is pushed = so_far
    ∙ ap (λ (w : List ℕ). with_truths all (booleans_of w)) (byte-at payload i b within at)
    ∙ booleans-more all truth b (drop (i + 1) payload) is
    ∙ ap (λ (w : List Bool). with_truths w (booleans_of (drop (i + 1) payload))) (sym pushed)

-- all of them were read
pub booleans-end : (all : List Bool) (payload : List ℕ) (i : ℕ) → length payload ≤ i
    → booleans_of payload ≡ with_truths all (booleans_of (drop i payload)) → booleans_of payload ≡ Ok all
booleans-end all payload i enough so_far =
    let none : drop i payload ≡ [] = nil_from_length (drop i payload) (length-drop i payload ∙ omega arith) in
    so_far ∙ ap (λ (w : List ℕ). with_truths all (booleans_of w)) none ∙ booleans-none all

-- before the first text
pub strings-begin : (count : ℕ) (bytes : List ℕ) → strings_at count bytes ≡ with_texts [] (strings_at (count - 0) bytes)
strings-begin count bytes =
    let all : count ≡ count - 0 = omega arith in
    by_read (strings_at count bytes) ∙ ap (λ (n : ℕ). with_texts [] (strings_at n bytes)) all
  where
    by_read : (rest : Result (List (List ℕ) × List ℕ) Stop) → rest ≡ with_texts [] rest
    by_read (Ok more) = refl
    by_read (Err stop) = refl

-- one more text
pub strings-next : (all next : List (List ℕ)) (count i : ℕ) (bytes rest : List ℕ) (x : List ℕ × List ℕ) → i < count
    → strings_at count bytes ≡ with_texts all (strings_at (count - i) rest) → string_at misfit rest ≡ Ok x
    → next ≡ all ++ x.0 ∷ [] → strings_at count bytes ≡ with_texts next (strings_at (count - (i + 1)) x.1)
strings-next all next count i bytes rest x within so_far is pushed =
    let left : count - i ≡ suc (count - (i + 1)) = omega arith in
    so_far ∙ ap (λ (n : ℕ). with_texts all (strings_at n rest)) left
    ∙ strings-more all (count - (i + 1)) rest x is
    ∙ ap (λ (w : List (List ℕ)). with_texts w (strings_at (count - (i + 1)) x.1)) (sym pushed)

-- an error where a text is read is that of all
pub strings-fail : (payload bytes rest : List ℕ) (all : List (List ℕ)) (count i : ℕ) (error : ReadError)
    → number_at misfit 4 payload ≡ Ok (count, bytes) → i < count
    → strings_at count bytes ≡ with_texts all (strings_at (count - i) rest) → Fails error (string_at misfit rest)
    → Fails error (strings_of payload)
unfolding strings_of
strings-fail payload bytes rest all count i errors.Memory read within so_far wrong = tt
strings-fail payload bytes rest all count i (errors.Stop stop) read within so_far wrong =
    let left : count - i ≡ suc (count - (i + 1)) = omega arith in
    let stopped : strings_at count bytes ≡ Err stop = so_far
    ∙ ap (λ (n : ℕ). with_texts all (strings_at n rest)) left
    ∙ strings-stop all stop (count - (i + 1)) rest wrong in
    rw (read, stopped) refl

-- all texts were read
strings-end : (all : List (List ℕ)) (count i : ℕ) (bytes rest : List ℕ) → count ≤ i
    → strings_at count bytes ≡ with_texts all (strings_at (count - i) rest) → strings_at count bytes ≡ Ok (all, rest)
strings-end all count i bytes rest enough so_far =
    let none : count - i ≡ 0 = omega arith in
    so_far ∙ ap (λ (n : ℕ). with_texts all (strings_at n rest)) none ∙ strings-none all rest

-- and bytes are left after them, or none
pub strings-left : (payload bytes rest : List ℕ) (all : List (List ℕ)) (count i : ℕ) (error : ReadError)
    → number_at misfit 4 payload ≡ Ok (count, bytes) → count ≤ i
    → strings_at count bytes ≡ with_texts all (strings_at (count - i) rest)
    → Fails error (unless (not (length rest == 0)) Misfit) → Fails error (strings_of payload)
unfolding strings_of
strings-left payload bytes rest all count i errors.Memory read enough so_far wrong = tt
strings-left payload bytes rest all count i (errors.Stop stop) read enough so_far wrong =
    rw (read, strings-end all count i bytes rest enough so_far, wrong) refl

pub strings-done : (payload bytes rest : List ℕ) (all : List (List ℕ)) (count i : ℕ) (ended : Unit {0})
    → number_at misfit 4 payload ≡ Ok (count, bytes) → count ≤ i
    → strings_at count bytes ≡ with_texts all (strings_at (count - i) rest)
    → unless (not (length rest == 0)) Misfit ≡ Ok ended → strings_of payload ≡ Ok all
unfolding strings_of
strings-done payload bytes rest all count i ended read enough so_far is =
    rw (read, strings-end all count i bytes rest enough so_far, is) refl
