-- What a reader of lines moves.
use Rattle.std.proofs.Common.{◌≡◌, ℕ, suc, ◌+◌, ◌-◌, ◌<◌, ◌≤◌, min, List, [], ◌∷◌, ◌++◌, length, take, drop, get_or, Option, None, Some, Result, Ok, Err, refl, sym, ap, ◌∙◌, subst, arith, append-nil, append_assoc, length-append, length-drop}
use Rattle.std.specs.List.{position}
use Rattle.std.specs.Result.{IsErrAnd}
use Rattle.std.specs.Io.KnownBytes.{Consumes}
use Rattle.std.proofs.KnownBytes.{Consumes-nil, Consumes-trans}
use Rattle.std.proofs.lemmas.Bool.{eqb-true}
use Rattle.std.proofs.lemmas.List.{take-append-drop, drop_more, length-take, length-take-le, get_or-take, take-take, take_min}
use Rattle.std.proofs.lemmas.List.Quantifiers.{position-Some}
use Rattle.nt_tools.specs.Input.{piece_bytes}
use Rattle.nt_tools.specs.LineReading.{most_line, is_feed, IsUnbroken, Ahead, Gives, Gathers, Reads, IsTooLong}
use Rattle.nt_tools.proofs.LineFeeds.{unbroken-append, unbroken-before, unbroken-none}

-- the first line feed of what is within a room
pub record Feeds (bytes : List ℕ) (room count : ℕ) : Type 0 where
  pub below : count < room
  pub there : count < length bytes
  pub prefix : take count (take room bytes) ≡ take count bytes
  pub unbroken : IsUnbroken (take count bytes)
  pub whole : bytes ≡ take count bytes ++ 10 ∷ drop (count + 1) bytes

pub feeds : (bytes : List ℕ) (room count : ℕ) → position is_feed (take room bytes) ≡ Some count → Feeds bytes room count
feeds bytes room count found =
    let at = position-Some is_feed (take room bytes) count 0 found in
    let len : length (take room bytes) ≡ min room (length bytes) = length-take room bytes in
    let below : count < room = omega (arith, at.0) in
    let there : count < length bytes = omega (arith, at.0) in
    let prefix : take count (take room bytes) ≡ take count bytes = take-take count room bytes (omega arith) in
    let here : get_or bytes count 0 ≡ 10 = sym (get_or-take room bytes count 0 below) ∙ eqb-true _ _ at.1 in
    record {
      below = below;
      there = there;
      prefix = prefix;
      unbroken = subst IsUnbroken prefix (unbroken-before (take room bytes) count found);
      whole = sym (take-append-drop count bytes) ∙ ap (λ (l : List ℕ). take count bytes ++ l)
          (drop_more bytes count 0 there ∙ ap (λ (b : ℕ). b ∷ drop (count + 1) bytes) here);
    }

-- a line up to its line feed was gathered
pub gathers-feed : (bytes : List ℕ) (room count : ℕ) (before now : List ℕ) → Feeds bytes room count
    → now ≡ before ++ take count (take room bytes)
    → Gathers (record {
      bytes = bytes;
      room = room;
    }) (record { bytes = drop (count + 1) bytes; room = room - (count + 1) }) before now (10 ∷ [])
gathers-feed bytes room count before now f line = record {
  part = take count bytes;
  line = line ∙ ap (λ (l : List ℕ). before ++ l) f.prefix;
  gives = record {
    whole = append-nil bytes ∙ f.whole;
    room = let len : length (take count bytes) ≡ count = length-take-le count bytes (omega (arith, f.there)) in let
        below = f.below in omega arith;
    unbroken = f.unbroken;
  };
}

own-prefix : (bytes : List ℕ) (room : ℕ) → take (length (take room bytes)) bytes ≡ take room bytes
own-prefix bytes room = ap (λ (n : ℕ). take n bytes) (length-take room bytes) ∙ take_min room bytes

-- all that is ahead within the room was gathered, where there is no line feed
pub gathers-all : (bytes : List ℕ) (room : ℕ) (before now : List ℕ) → position is_feed (take room bytes) ≡ None
    → now ≡ before ++ take room bytes
    → Gathers (record {
      bytes = bytes;
      room = room;
    }) (record { bytes = drop (length (take room bytes)) bytes; room = room - length (take room bytes) }) before now []
gathers-all bytes room before now none line =
    let len : length (take room bytes) ≡ min room (length bytes) = length-take room bytes in
    record {
      part = take room bytes;
      line = line;
      gives = record {
        whole = append-nil bytes ∙ sym (take-append-drop (length (take room bytes)) bytes)
            ∙ ap (λ (l : List ℕ). l ++ drop (length (take room bytes)) bytes) (own-prefix bytes room);
        room = omega arith;
        unbroken = unbroken-none (take room bytes) none;
      };
    }

-- a line is too long by what stands before the line feed
pub too_long-feed : (bytes : List ℕ) (room count : ℕ) (before now : List ℕ) → Feeds bytes room count → now ≡ before
    → most_line < length before + length (take count (take room bytes)) → IsTooLong now (record {
      bytes = bytes;
      room = room;
    })
too_long-feed bytes room count before now f same long = record {
  count = count;
  there = let there = f.there in omega arith;
  within = let below = f.below in omega arith;
  unbroken = f.unbroken;
  beyond =
      let len : length (take count (take room bytes)) ≡ count = ap length f.prefix
      ∙ length-take-le count bytes (omega (arith, f.there)) in
      let line : length now ≡ length before = ap length same in
      omega arith;
}

-- or by all that is ahead within the room
pub too_long-all : (bytes : List ℕ) (room : ℕ) (before now : List ℕ) → position is_feed (take room bytes) ≡ None
    → now ≡ before
    → most_line < length before + length (take room bytes) → IsTooLong now (record { bytes = bytes; room = room })
too_long-all bytes room before now none same long =
    let len : length (take room bytes) ≡ min room (length bytes) = length-take room bytes in
    record {
      count = length (take room bytes);
      there = omega arith;
      within = omega arith;
      unbroken = subst IsUnbroken (sym (own-prefix bytes room)) (unbroken-none (take room bytes) none);
      beyond = let line : length now ≡ length before = ap length same in omega arith;
    }

-- where bytes are left after the room, it was filled
pub room_filled : (bytes : List ℕ) (room : ℕ) → 0 < length (drop (length (take room bytes)) bytes)
    → room - length (take room bytes) ≡ 0
room_filled bytes room some =
    let len : length (take room bytes) ≡ min room (length bytes) = length-take room bytes in
    let left : length (drop (length (take room bytes)) bytes) ≡ length bytes - length (take room bytes) =
    length-drop (length (take room bytes)) bytes in
    omega arith

-- an error that was handed on
pub passed_on : {T E : Type 0} → (r : Result T E) (x e : E) → IsErrAnd r (λ y. y ≡ x) → r ≡ Err e → x ≡ e
passed_on (Ok v) x e h is = absurd h
passed_on (Err y) x e h is = let same : y ≡ e = cc in sym h ∙ same

-- ---- a line in several reads

-- nothing was read yet
pub reads-none : (before : Option (List ℕ)) (old : Ahead) → Reads before before old old [] []
reads-none before old = record {
  taken = [];
  consumes = Consumes-nil before;
  gives = record { whole = append-nil old.bytes; room = omega arith; unbroken = refl };
  short = omega arith;
}

-- a part was gathered after a line so far
pub reads-part : (before now : Option (List ℕ)) (old mid new : Ahead) (line more feed : List ℕ)
    → Reads before now old mid line [] → Gathers mid new line more feed → length more ≤ most_line
    → Reads before now old new more feed
reads-part before now old mid new line more feed r g short =
    let rest = feed ++ new.bytes in
    let ahead : mid.bytes ≡ g.part ++ rest = sym (append-nil mid.bytes) ∙ g.gives.whole in
    let len : length more ≡ length line + length g.part = ap length g.line ∙ length-append line g.part in
    record {
      taken = r.taken;
      consumes = r.consumes;
      gives = record {
        whole = r.gives.whole ∙ ap (λ (l : List ℕ). line ++ l) ahead ∙ sym (append_assoc line g.part rest)
            ∙ ap (λ (l : List ℕ). l ++ rest) (sym g.line);
        room = omega (arith, r.gives.room, g.gives.room);
        unbroken = subst IsUnbroken (sym g.line) (unbroken-append line g.part r.gives.unbroken g.gives.unbroken);
      };
      short = short;
    }

-- what is read where nothing is ahead
pub reads-on : (before mid now : Option (List ℕ)) (old empty new : Ahead) (line : List ℕ)
    → Reads before mid old empty line [] → empty.bytes ≡ [] → Consumes mid now new.bytes
    → new.room ≡ empty.room → Reads before now old new line []
reads-on before mid now old empty new line r none consumes room = record {
  taken = r.taken ++ new.bytes;
  consumes = Consumes-trans before mid now r.taken new.bytes r.consumes consumes;
  gives = record {
    whole = sym (append_assoc old.bytes r.taken new.bytes) ∙ ap (λ (l : List ℕ). l ++ new.bytes)
        (r.gives.whole ∙ ap (λ (l : List ℕ). line ++ l) none ∙ append-nil line);
    room = omega (arith, r.gives.room);
    unbroken = r.gives.unbroken;
  };
  short = r.short;
}
