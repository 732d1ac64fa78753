-- The lines of a head that is read byte by byte.
use Rattle.std.proofs.Common.{◌≡◌, ◌≢◌, ℕ, ◌<◌, ◌≤◌, Bool, true, false, not, ◌&&◌, ◌||◌, List, [], ◌∷◌, ◌++◌, length, drop, append_assoc, refl, sym, ap, ◌∙◌, subst, arith, length-append}
use Rattle.std.specs.Prelude.{◌==◌, if◌then◌else◌}
use Rattle.std.specs.List.{AllByRecursion, list_any}
use Rattle.std.proofs.Math.Seq.{drop-append_seam}
use Rattle.std.proofs.lemmas.Bool.{ne_eqb}
use Rattle.std.proofs.lemmas.List.Folds.{list_any-append}
use Rattle.std.proofs.lemmas.List.{append-nil}
use Rattle.std.proofs.lemmas.Grind.{flat_map-append}
use Rattle.std.specs.declared.option.Option.{Option}
use Rattle.std.specs.Io.KnownBytes.{Consumes, IsAtEnd}
use Rattle.std.proofs.KnownBytes.{Consumes-trans}
use Rattle.nt_link.specs.Causes.{Aside, IsLater}
use Rattle.nt_ws.specs.declared.fault.HeadFault.TheVariants.{Read, NotHttp, TooLong, Memory}
use Rattle.nt_ws.specs.Ends.{most_bytes, GivesNone, IsLine, is_empty_line, print_lines, are_none, end_in_empty, are_head, HasNoHead, have_text, are_open, have_begun, IsBegun, GoesOn}

-- ---- lines are told apart by their line feeds

-- a line goes on without its first byte
rest-line : (b : ℕ) (l : List ℕ) → IsLine (b ∷ l) → IsLine l
rest-line b l h = by (b == 10) h
  where
    by : (t : Bool) → (t || list_any (λ (b : ℕ). b == 10) l) ≡ false → IsLine l
    by true e = absurd (cc)
    by false e = e

-- no line feed stands in a line
no-feed : (l r : List ℕ) → IsLine (l ++ 10 ∷ r) → ⊥
no-feed [] r h = absurd (cc)
no-feed (b ∷ l) r h = no-feed l r (rest-line b (l ++ 10 ∷ r) h)

pub record Same {A B : Type 0} (a b : A) (c d : B) : Type 0 where
  pub first : a ≡ b
  pub second : c ≡ d

-- the bytes up to the first line feed are one line
line-is : (l m r s : List ℕ) → IsLine l → IsLine m → l ++ 10 ∷ r ≡ m ++ 10 ∷ s → Same l m r s
line-is [] [] r s p q e = record { first = refl; second = cc }
line-is [] (b ∷ m) r s p q e = let feed : 10 ≡ b = cc in absurd (no-feed [] m (subst (λ x. IsLine (x ∷ m))
    (sym feed) q))
line-is (b ∷ l) [] r s p q e = let feed : b ≡ 10 = cc in absurd (no-feed [] l (subst (λ x. IsLine (x ∷ l)) feed p))
line-is (b ∷ l) (c ∷ m) r s p q e =
    let head : b ≡ c = cc in
    let tail : l ++ 10 ∷ r ≡ m ++ 10 ∷ s = cc in
    let same = line-is l m r s (rest-line b l p) (rest-line c m q) tail in
    record { first = (let f = same.first in cc); second = same.second }

-- a first line, and what stands behind it
behind : (l : List ℕ) (ls : List (List ℕ)) (rest : List ℕ)
    → print_lines (l ∷ ls) ++ rest ≡ l ++ 10 ∷ (print_lines ls ++ rest)
behind l ls rest = append_assoc (l ++ 10 ∷ []) (print_lines ls) rest ∙ append_assoc l (10 ∷ []) (print_lines ls ++ rest)

pub record Front (hs ls : List (List ℕ)) : Type 0 where
  pub more : List (List ℕ)
  pub whole : ls ≡ hs ++ more

-- lines whose bytes stand at the front of others' bytes are the first of these
lines-front : (hs ls : List (List ℕ)) (rest line : List ℕ) → AllByRecursion IsLine hs
    → AllByRecursion IsLine ls → IsLine line
    → print_lines hs ++ rest ≡ print_lines ls ++ line → Front hs ls
lines-front [] ls rest line a b c e = record { more = ls; whole = refl }
lines-front (h ∷ hs) [] rest line a b c e = absurd (no-feed h (print_lines hs ++ rest) (subst IsLine (sym e
    ∙ behind h hs rest) c))
lines-front (h ∷ hs) (l ∷ ls) rest line a b c e =
    let same = line-is h l (print_lines hs ++ rest) (print_lines ls ++ line) a.0 b.0 (sym (behind h hs rest)
    ∙ e ∙ behind l ls line) in
    let front = lines-front hs ls rest line a.1 b.1 c same.second in
    let first = same.first in
    let whole = front.whole in
    record { more = front.more; whole = cc }

-- ---- no front of a head that goes on is a head

text-goes-on : (hs more : List (List ℕ)) → have_text (hs ++ more) ≡ true → end_in_empty hs ≡ true → ⊥
text-goes-on [] more kept e = absurd (cc)
text-goes-on (h ∷ hs) more kept e = by (is_empty_line h) kept e (text-goes-on hs more)
  where
    by : (t : Bool) → (if t then false else have_text (hs ++ more)) ≡ true
        → (if t then are_none hs else end_in_empty hs) ≡ true
        → (have_text (hs ++ more) ≡ true → end_in_empty hs ≡ true → ⊥) → ⊥
    by true k f on = absurd (cc)
    by false k f on = on k f

open-goes-on : (hs more : List (List ℕ)) → are_open (hs ++ more) ≡ true → are_head hs ≡ true → ⊥
open-goes-on [] more kept e = absurd (cc)
open-goes-on (h ∷ hs) more kept e = by (is_empty_line h) kept e (open-goes-on hs more)
  where
    by : (t : Bool) → (if t then are_open (hs ++ more) else have_text (hs ++ more)) ≡ true
        → (if t then are_head hs else end_in_empty hs) ≡ true
        → (are_open (hs ++ more) ≡ true → are_head hs ≡ true → ⊥) → ⊥
    by true k f on = on k f
    by false k f on = text-goes-on hs more k f

pub begun-no-head : (bytes : List ℕ) (place : ℕ) (begun : Bool) → IsBegun bytes place begun → HasNoHead bytes
begun-no-head bytes place begun so head rest h e =
    let front = lines-front h.lines so.lines rest so.line h.are_lines so.are_lines so.is_line
    (sym (ap (λ (x : List ℕ). x ++ rest) h.printed) ∙ sym e ∙ so.printed) in
    open-goes-on h.lines front.more (subst (λ (ls : List (List ℕ)). are_open ls ≡ true) front.whole so.open_) h.shape

-- ---- one more byte

pub nothing-begun : IsBegun [] 0 false
nothing-begun = record {
  lines = [];
  line = [];
  are_lines = tt;
  is_line = refl;
  printed = refl;
  placed = refl;
  open_ = refl;
  begun_ = refl;
}

-- what stands from the place on is the line that isn't whole
pub line-at : (bytes : List ℕ) (place : ℕ) (begun : Bool) (so : IsBegun bytes place begun) → drop place bytes ≡ so.line
line-at bytes place begun so =
    ap (λ (n : ℕ). drop n bytes) so.placed ∙ ap (drop (length (print_lines so.lines))) so.printed
    ∙ drop-append_seam (print_lines so.lines) so.line

line-more : (line : List ℕ) (b : ℕ) → IsLine line → b ≢ 10 → IsLine (line ++ b ∷ [])
line-more line b h other = list_any-append (λ (b : ℕ). b == 10) line (b ∷ []) ∙ rw (h, ne_eqb b 10 other)

-- a byte that is no line feed
pub byte-more : (bytes : List ℕ) (place : ℕ) (begun : Bool) (b : ℕ) → IsBegun bytes place begun → b ≢ 10
    → IsBegun (bytes ++ b ∷ []) place begun
byte-more bytes place begun b so other = record {
  lines = so.lines;
  line = so.line ++ b ∷ [];
  are_lines = so.are_lines;
  is_line = line-more so.line b so.is_line other;
  printed = ap (λ (x : List ℕ). x ++ b ∷ []) so.printed ∙ append_assoc (print_lines so.lines) so.line (b ∷ []);
  placed = so.placed;
  open_ = so.open_;
  begun_ = so.begun_;
}

all-more : (ls : List (List ℕ)) (l : List ℕ) → AllByRecursion IsLine ls → IsLine l
    → AllByRecursion IsLine (ls ++ l ∷ [])
all-more [] l a h = (h, tt)
all-more (m ∷ ls) l a h = (a.0, all-more ls l a.1 h)

-- a line that was ended
ended : (ls : List (List ℕ)) (l : List ℕ) → print_lines ls ++ (l ++ 10 ∷ []) ≡ print_lines (ls ++ l ∷ [])
ended ls l = sym (flat_map-append (λ (line : List ℕ). line ++ 10 ∷ []) ls (l ∷ [])
    ∙ ap (λ (x : List ℕ). print_lines ls ++ x) (append-nil (l ++ 10 ∷ [])))

begun-more : (ls : List (List ℕ)) (l : List ℕ) → have_begun (ls ++ l ∷ []) ≡ (have_begun ls || not (is_empty_line l))
begun-more ls l = list_any-append (λ line. not (is_empty_line line)) ls (l ∷ []) ∙ by (have_begun ls) (is_empty_line l)
  where
    by : (a b : Bool) → (a || (not b || false)) ≡ (a || not b)
    by true b = refl
    by false true = refl
    by false false = refl

text-more : (ls : List (List ℕ)) (l : List ℕ) → is_empty_line l ≡ false → have_text ls ≡ true
    → have_text (ls ++ l ∷ []) ≡ true
text-more [] l h kept = rw h
text-more (m ∷ ls) l h kept = by (is_empty_line m) kept (text-more ls l h)
  where
    by : (t : Bool) → (if t then false else have_text ls) ≡ true → (have_text ls ≡ true
        → have_text (ls ++ l ∷ []) ≡ true) → (if t then false else have_text (ls ++ l ∷ [])) ≡ true
    by true k on = absurd (cc)
    by false k on = on k

-- a line that isn't empty keeps it open
open-more : (ls : List (List ℕ)) (l : List ℕ) → is_empty_line l ≡ false → are_open ls ≡ true
    → are_open (ls ++ l ∷ []) ≡ true
open-more [] l h kept = rw h
open-more (m ∷ ls) l h kept = by (is_empty_line m) kept (open-more ls l h)
  where
    by : (t : Bool) → (if t then are_open ls else have_text ls) ≡ true → (are_open ls ≡ true
        → are_open (ls ++ l ∷ []) ≡ true)
        → (if t then are_open (ls ++ l ∷ []) else have_text (ls ++ l ∷ [])) ≡ true
    by true k on = on k
    by false k on = text-more ls l h k

-- so does an empty one before all others
blank-more : (ls : List (List ℕ)) (l : List ℕ) → is_empty_line l ≡ true → have_begun ls ≡ false
    → are_open (ls ++ l ∷ []) ≡ true
blank-more [] l h none = rw h
blank-more (m ∷ ls) l h none = by (is_empty_line m) none (blank-more ls l h)
  where
    by : (t : Bool) → (not t || have_begun ls) ≡ false → (have_begun ls ≡ false → are_open (ls ++ l ∷ []) ≡ true)
        → (if t then are_open (ls ++ l ∷ []) else have_text (ls ++ l ∷ [])) ≡ true
    by true k on = on k
    by false k on = absurd (cc)

text-ends : (ls : List (List ℕ)) (l : List ℕ) → is_empty_line l ≡ true → have_text ls ≡ true
    → end_in_empty (ls ++ l ∷ []) ≡ true
text-ends [] l h kept = rw h
text-ends (m ∷ ls) l h kept = by (is_empty_line m) kept (text-ends ls l h)
  where
    by : (t : Bool) → (if t then false else have_text ls) ≡ true → (have_text ls ≡ true
        → end_in_empty (ls ++ l ∷ []) ≡ true)
        → (if t then are_none (ls ++ l ∷ []) else end_in_empty (ls ++ l ∷ [])) ≡ true
    by true k on = absurd (cc)
    by false k on = on k

-- an empty line behind one that isn't ends a head
head-ends : (ls : List (List ℕ)) (l : List ℕ) → is_empty_line l ≡ true → are_open ls ≡ true
    → have_begun ls ≡ true → are_head (ls ++ l ∷ []) ≡ true
head-ends [] l h kept some = absurd (cc)
head-ends (m ∷ ls) l h kept some = by (is_empty_line m) kept some (head-ends ls l h)
  where
    by : (t : Bool) → (if t then are_open ls else have_text ls) ≡ true → (not t || have_begun ls) ≡ true
        → (are_open ls ≡ true → have_begun ls ≡ true → are_head (ls ++ l ∷ []) ≡ true)
        → (if t then are_head (ls ++ l ∷ []) else end_in_empty (ls ++ l ∷ [])) ≡ true
    by true k f on = on k f
    by false k f on = text-ends ls l h k

-- a line feed
pub feed-more : (bytes : List ℕ) (place : ℕ) (begun : Bool) → IsBegun bytes place begun
    → GoesOn (begun && is_empty_line (drop place bytes)) (bytes ++ 10 ∷ []) (length (bytes ++ 10 ∷ []))
    (begun || not (is_empty_line (drop place bytes)))
feed-more bytes place begun so =
    subst (λ (l : List ℕ). GoesOn (begun && is_empty_line l) (bytes ++ 10 ∷ []) (length (bytes ++ 10 ∷ []))
    (begun || not (is_empty_line l)))
    (sym (line-at bytes place begun so)) (by begun (is_empty_line so.line) so.begun_ refl)
  where
    lines : List (List ℕ)
    lines = so.lines ++ so.line ∷ []

    printed : bytes ++ 10 ∷ [] ≡ print_lines lines
    printed = ap (λ (x : List ℕ). x ++ 10 ∷ []) so.printed
        ∙ append_assoc (print_lines so.lines) so.line (10 ∷ []) ∙ ended so.lines so.line

    on : (t : Bool) → are_open lines ≡ true → have_begun lines ≡ t
        → IsBegun (bytes ++ 10 ∷ []) (length (bytes ++ 10 ∷ [])) t
    on t kept some = record {
      lines = lines;
      line = [];
      are_lines = all-more so.lines so.line so.are_lines so.is_line;
      is_line = refl;
      printed = printed ∙ sym (append-nil (print_lines lines));
      placed = ap length printed;
      open_ = kept;
      begun_ = some;
    }

    by : (t u : Bool) → have_begun so.lines ≡ t → is_empty_line so.line ≡ u
        → GoesOn (t && u) (bytes ++ 10 ∷ []) (length (bytes ++ 10 ∷ [])) (t || not u)
    by true true some empty = record {
      lines = lines;
      are_lines = all-more so.lines so.line so.are_lines so.is_line;
      printed = printed;
      shape = head-ends so.lines so.line empty so.open_ some;
    }
    by true false some empty = on true (open-more so.lines so.line empty so.open_) (begun-more so.lines so.line
        ∙ rw some)
    by false true some empty = on false (blank-more so.lines so.line empty some) (begun-more so.lines so.line
        ∙ rw (some, empty))
    by false false some empty = on true (open-more so.lines so.line empty so.open_)
        (begun-more so.lines so.line ∙ rw (some, empty))

-- the same, by what a call of `push` knows
pub feed-is : (bytes : List ℕ) (place : ℕ) (begun : Bool) (byte : ℕ) (new : List ℕ) (len : ℕ)
    (empty whole : Bool) → IsBegun bytes place begun
    → byte ≡ 10 → empty ≡ is_empty_line (drop place bytes) → new ≡ bytes ++ byte ∷ [] → len ≡ length new
    → whole ≡ (begun && empty)
    → GoesOn whole new len (begun || not empty)
feed-is bytes place begun byte new len empty whole so b e n l w = rw (w, l, n, b, e) (feed-more bytes place begun so)

pub byte-is : (bytes : List ℕ) (place : ℕ) (begun : Bool) (byte : ℕ) (new : List ℕ) → IsBegun bytes place begun
    → byte ≢ 10 → new ≡ bytes ++ byte ∷ [] → IsBegun new place begun
byte-is bytes place begun byte new so other n = rw n (byte-more bytes place begun byte so other)

-- ---- what was read so far

pub record SoFar (before now : Option (List ℕ)) (bytes : List ℕ) (place : ℕ) (begun : Bool) : Type 0 where
  pub few : length bytes ≤ most_bytes
  pub consumed : Consumes before now bytes
  pub so : IsBegun bytes place begun

-- states of a source, one after another
pub later-trans : {S : Type 0} (count : S → ℕ) (rest : S → Aside) (a b c : S) → IsLater count rest a b
    → IsLater count rest b c → IsLater count rest a c
later-trans count rest a b c p q = record {
  later = omega (arith, p.later, q.later);
  end = λ full. q.end (omega (arith, p.later, full)) ∙ p.end full;
  aside = q.aside ∙ p.aside;
}

pub none-read : (before now : Option (List ℕ)) (bytes : List ℕ) (place : ℕ) (begun : Bool) (later : Option
    (List ℕ)) → SoFar before now bytes place begun → length bytes < most_bytes
    → Consumes now later [] → GivesNone before later Read
none-read before now bytes place begun later so few kept = record {
  taken = bytes;
  consumed = subst (Consumes before later) (append-nil bytes)
      (Consumes-trans before now later bytes [] so.consumed kept);
  cause = (begun-no-head bytes place begun so.so, few);
}

pub none-left : (before now : Option (List ℕ)) (bytes : List ℕ) (place : ℕ) (begun : Bool) (later : Option
    (List ℕ)) → SoFar before now bytes place begun → length bytes < most_bytes
    → Consumes now later [] → IsAtEnd later → GivesNone before later NotHttp
none-left before now bytes place begun later so few kept end = record {
  taken = bytes;
  consumed = subst (Consumes before later) (append-nil bytes)
      (Consumes-trans before now later bytes [] so.consumed kept);
  cause = (begun-no-head bytes place begun so.so, few, end);
}

pub too-many : (before now : Option (List ℕ)) (bytes : List ℕ) (place : ℕ) (begun : Bool)
    → SoFar before now bytes place begun → most_bytes ≤ length bytes
    → GivesNone before now TooLong
too-many before now bytes place begun so many = record {
  taken = bytes;
  consumed = so.consumed;
  cause = (begun-no-head bytes place begun so.so, omega (arith, so.few, many));
}

-- no memory for a byte that was taken
pub no-memory : (before now : Option (List ℕ)) (bytes : List ℕ) (place : ℕ) (begun : Bool) (later : Option
    (List ℕ)) (b : ℕ) → SoFar before now bytes place begun → length bytes < most_bytes
    → Consumes now later (b ∷ []) → GivesNone before later Memory
no-memory before now bytes place begun later b so few more = record {
  taken = bytes ++ b ∷ [];
  consumed = Consumes-trans before now later bytes (b ∷ []) so.consumed more;
  cause = omega (arith, length-append bytes (b ∷ []), few);
}
