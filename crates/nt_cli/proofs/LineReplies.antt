-- The reply of a desk, line by line.
use Rattle.std.proofs.Common.{◌≡◌, ℕ, suc, ◌+◌, ◌-◌, ◌<◌, ◌≤◌, Bool, true, false, cond, List, [], ◌∷◌, ◌++◌, length, take, refl, sym, ap, ◌∙◌, arith, append-nil, nat_lt, length-append, inl, inr}
use Rattle.std.proofs.Math.Seq.{take-append-add, take-append_seam}
use Rattle.std.proofs.lemmas.Bool.{lt-ltb, le-ltb, cases_lt}
use Rattle.std.proofs.lemmas.List.{take_all}
use Rattle.nt_rules.specs.declared.act.Entry.{Entry}
use Rattle.nt_tools.specs.Lines.{too_long}
use Rattle.nt_tools.specs.LineReading.{most_line, IsUnbroken}
use Rattle.nt_tools.specs.Reply.{Reply, with_text}
use Rattle.nt_cli.specs.Desk.{Decoding, is_empty, whole_lines, last_line, line_fault, turn_text, last_text, after_turn, lines_reply, reply_within}
use Rattle.nt_cli.proofs.WholeLines.{all_before_first, whole_lines-append, last_line-append, whole_lines-unbroken, last_line-unbroken}

-- the replies that end a desk
abbrev pub long_reply : ℕ → Reply
long_reply number = record { status = 1; text = line_fault number }

abbrev pub many_reply : Reply
many_reply = record { status = 1; text = too_long }

abbrev pub end_reply : Decoding → List Entry → ℕ → List ℕ → Reply
end_reply decode past number last = record { status = 0; text = last_text decode past number last }

same-test : (a b c d : ℕ) → (a < b → c < d) → (b ≤ a → d ≤ c) → nat_lt a b ≡ nat_lt c d
same-test a b c d below above = elim (cases_lt a b) [
  | inl lt ↦ lt-ltb a b lt
      ∙ sym (lt-ltb c d (below lt))
  | inr le ↦ le-ltb a b le ∙ sym (le-ltb c d (above le))
]

taken-prefix : (room left : ℕ) (prefix more : List ℕ) → room ≡ length prefix + left
    → take room (prefix ++ more) ≡ prefix ++ take left more
taken-prefix room left prefix more room_is = ap (λ (r : ℕ). take r (prefix ++ more)) room_is
    ∙ take-append-add prefix more left

-- a whole line is answered by its turn, and the rest after it
pub line-reply : (decode : Decoding) (past : List Entry) (number room left : ℕ) (line rest : List ℕ) → IsUnbroken line
    → length line ≤ most_line → room ≡ length line + (1 + left)
    → reply_within decode room past number (line ++ 10 ∷ rest)
    ≡ with_text (turn_text decode past number line) (reply_within decode left (after_turn decode past number line)
    (number + 1) rest)
unfolding reply_within
line-reply decode past number room left line rest whole short room_is =
    let more : 1 + left ≡ suc left = omega arith in
    let taken : take room (line ++ 10 ∷ rest) ≡ line ++ 10 ∷ take left rest =
    taken-prefix room (1 + left) line (10 ∷ rest) room_is ∙ rw more refl in
    let lines : whole_lines (line ++ 10 ∷ take left rest) ≡ line ∷ whole_lines (take left rest)
    = whole_lines-append line (10 ∷ take left rest) whole ∙ ap (λ (l : List ℕ). l ∷ whole_lines (take left rest))
    (append-nil line) in
    let last : last_line (line ++ 10 ∷ take left rest) ≡ last_line (take left rest) =
    last_line-append line (10 ∷ take left rest) whole in
    let count : length (line ++ 10 ∷ rest) ≡ length line + suc (length rest) = length-append line (10 ∷ rest) in
    let beyond : nat_lt room (length (line ++ 10 ∷ rest)) ≡ nat_lt left (length rest) =
    same-test _ _ _ _ (λ lt. omega arith) (λ le. omega arith) in
    let fits : nat_lt most_line (length line) ≡ false = le-ltb most_line (length line) short in
    rw (taken, lines, last, beyond, fits) refl

long-lines : (decode : Decoding) (past : List Entry) (number : ℕ) (prefix xs : List ℕ) (beyond : Bool)
    → IsUnbroken prefix → most_line < length prefix
    → lines_reply decode past number (whole_lines (prefix ++ xs)) (last_line (prefix ++ xs)) beyond ≡ long_reply number
long-lines decode past number prefix xs beyond whole long = rw
    (whole_lines-append prefix xs whole, last_line-append prefix xs whole) (by (whole_lines xs))
  where
    too_many : (ys : List ℕ) → nat_lt most_line (length (prefix ++ ys)) ≡ true
    too_many ys = lt-ltb most_line (length (prefix ++ ys)) (omega (arith, length-append prefix ys))

    by : (lines : List (List ℕ)) → lines_reply decode past number (all_before_first prefix lines)
        (cond (is_empty lines) (prefix ++ xs) (last_line xs)) beyond ≡ long_reply number
    by [] = rw (too_many xs) refl
    by (line ∷ lines) = rw (too_many line) refl

-- so many bytes without a line feed that they are no line end the desk, whatever follows
pub long-reply : (decode : Decoding) (past : List Entry) (number room : ℕ) (prefix more : List ℕ) → IsUnbroken prefix
    → most_line < length prefix → length prefix ≤ room
    → reply_within decode room past number (prefix ++ more) ≡ long_reply number
unfolding reply_within
long-reply decode past number room prefix more whole long within =
    let taken : take room (prefix ++ more) ≡ prefix ++ take (room - length prefix) more =
    taken-prefix room (room - length prefix) prefix more (omega arith) in
    rw taken (long-lines decode past number prefix (take (room - length prefix) more) _ whole long)

-- bytes after the room end the desk, where no line ends within it
pub many-reply : (decode : Decoding) (past : List Entry) (number room : ℕ) (prefix more : List ℕ) → IsUnbroken prefix
    → length prefix ≤ most_line → room ≡ length prefix → 0 < length more
    → reply_within decode room past number (prefix ++ more) ≡ many_reply
unfolding reply_within
many-reply decode past number room prefix more whole short room_is some =
    let taken : take room (prefix ++ more) ≡ prefix = rw room_is (take-append_seam prefix more) in
    let fits : nat_lt most_line (length prefix) ≡ false = le-ltb most_line (length prefix) short in
    let beyond : nat_lt room (length (prefix ++ more)) ≡ true =
    lt-ltb room (length (prefix ++ more)) (omega (arith, length-append prefix more)) in
    rw (taken, whole_lines-unbroken prefix whole, last_line-unbroken prefix whole, fits, beyond) refl

-- the end of the input after bytes without a line feed
pub end-reply : (decode : Decoding) (past : List Entry) (number room : ℕ) (last : List ℕ) → IsUnbroken last
    → length last ≤ most_line → length last ≤ room
    → reply_within decode room past number last ≡ end_reply decode past number last
unfolding reply_within
end-reply decode past number room last whole short within =
    let taken : take room last ≡ last = take_all room last within in
    let fits : nat_lt most_line (length last) ≡ false = le-ltb most_line (length last) short in
    let beyond : nat_lt room (length last) ≡ false = le-ltb room (length last) within in
    rw (taken, whole_lines-unbroken last whole, last_line-unbroken last whole, fits, beyond) refl
