-- Reading a log piece by piece.
use Rattle.std.proofs.Common.{◌≡◌, ℕ, ◌+◌, ◌-◌, ◌<◌, ◌≤◌, Bool, true, false, List, [], ◌++◌, length, take, drop, Option, None, Some, Result, Ok, Err, refl, sym, ap, subst, ◌∙◌, append_assoc, append-nil, length-append, take-append-drop, is_some, arith}
use Rattle.std.specs.Prelude.{nat_le, ◌==◌, ◌&&◌, if◌then◌else◌, unwrap_or, IfSome, IfNone, MatchResult}
use Rattle.std.specs.Result.{result_err}
use Rattle.std.proofs.lemmas.Bool.Decides.{nat_tests}
use Rattle.std.proofs.lemmas.List.{take_all, take-take, length-take-le}
use Rattle.std.proofs.Math.Seq.{take-append-add, take-append_seam}
use Rattle.std.specs.Io.KnownBytes.{Consumes, IsAtEnd}
use Rattle.std.proofs.KnownBytes.{Consumes-nil, Consumes-trans}
use Rattle.wpilog_read.specs.declared.item_at.ItemAt.{ItemAt}
use Rattle.wpilog_read.specs.declared.fault.LogFault.{LogFault}
use Rattle.wpilog_read.specs.declared.fault.LogKind.TheVariants.{Truncated}
use Rattle.wpilog_read.specs.Meaning.{Means}
use Rattle.wpilog_read.specs.Run.{Reading, begun, fed, at_offset, ending, Stands}
use Rattle.wpilog_read.proofs.Runs.{Stands-fed}
use Rattle.nt_log_tools.specs.declared.command.LogTool.{LogTool}
use Rattle.nt_log_tools.specs.declared.command.LogTool.TheVariants.{Check, Show}
use Rattle.nt_log_tools.specs.declared.input.Came.{Came}
use Rattle.nt_log_tools.specs.declared.input.Came.TheVariants.{Bytes, Beyond, End}
use Rattle.nt_log_tools.specs.declared.log_end.LogEnd.{LogEnd}
use Rattle.nt_log_tools.specs.declared.log_end.LogEnd.TheVariants.{Whole, Fault, TooLong}
use Rattle.nt_tools.specs.Input.{most_bytes, piece_bytes, MayFollow}
use Rattle.nt_log_tools.specs.LogTools.{is_known, end_here, end_known, end_of, Finds, lines_of}
use Rattle.nt_tools.specs.declared.status.ToolFault.{ToolFault}
use Rattle.nt_tools.specs.declared.status.ToolFault.TheVariants.{Write}
use Rattle.nt_log_tools.specs.LogRun.{HasCome, HasFound, StopsAt, Feeds, end_by, ReadsLog, StopsReading}
use Rattle.nt_tools.specs.Printing.{HasPrinted}
use Rattle.nt_tools.proofs.Printing.{nothing-printed}
use Rattle.nt_log_tools.proofs.LogPrints.{found-other}

-- ---- one piece

-- bytes that come change no offset
pub fed-at : (r m : Reading) (piece : List ℕ) → m ≡ fed r piece → m.at ≡ r.at
fed-at r m piece e = ap (λ (w : Reading). w.at) e ∙ by_fault (is_some r.fault) where
  by_fault : (b : Bool) → (if b then r else record r { rest = r.rest ++ piece }).at ≡ r.at
  by_fault true = refl
  by_fault false = refl

-- at the end nothing came
pub feeds-end : (buf : List ℕ) (count room : ℕ) (before now : Option (List ℕ)) (r : Reading) → count ≡ 0
    → Consumes before now (take count buf) → IsAtEnd now → Feeds End before now r r room room
feeds-end buf count room before now r none consumes ended = record {
  fed = [];
  over = [];
  consumes = subst (λ (n : ℕ). Consumes before now (take n buf)) none consumes;
  size = omega arith;
  room = omega arith;
  has_come = (refl, refl, ended);
  stands = λ bytes items stands. subst (λ (w : List ℕ). Stands w items r) (sym (append-nil bytes)) stands;
  at = refl;
}

-- a piece for which there is room
pub feeds-within : (buf : List ℕ) (count room left : ℕ) (before now : Option (List ℕ)) (old new : Reading)
    → 0 < count → count ≤ room → count ≤ length buf → count ≤ piece_bytes → left ≡ room - count
    → Consumes before now (take count buf) → new ≡ fed old (take count buf)
    → ((bytes : List ℕ) (items : List ItemAt) → Stands bytes items old → Stands (bytes ++ take count buf) items new)
    → Feeds Bytes before now old new room left
feeds-within buf count room left before now old new some fits there most left_is consumes same stands =
    let len : length (take count buf) ≡ count = length-take-le count buf there in
    record {
      fed = take count buf;
      over = [];
      consumes = subst (Consumes before now) (sym (append-nil (take count buf))) consumes;
      size = omega (arith, len, length-append (take count buf) []);
      room = omega (arith, len, left_is);
      has_come = (omega (arith, len), refl);
      stands = stands;
      at = fed-at old new (take count buf) same;
    }

-- the first bytes of a piece
take-less : (buf : List ℕ) (room count : ℕ) → room ≤ count → take room (take count buf) ≡ take room buf
take-less buf room count less = take-take room count buf less

-- a piece for which there isn't
pub feeds-beyond : (buf : List ℕ) (count room : ℕ) (before now : Option (List ℕ)) (old new : Reading) → room < count
    → count ≤ length buf → count ≤ piece_bytes → Consumes before now (take count buf) → new ≡ fed old (take room buf)
    → ((bytes : List ℕ) (items : List ItemAt) → Stands bytes items old → Stands (bytes ++ take room buf) items new)
    → Feeds Beyond before now old new room 0
feeds-beyond buf count room before now old new beyond there most consumes same stands =
    let kept : take room buf ≡ take room (take count buf) = sym (take-less buf room count (omega (arith, beyond))) in
    let parts : take room buf ++ drop room (take count buf) ≡ take count buf =
    ap (λ (w : List ℕ). w ++ drop room (take count buf)) kept ∙ take-append-drop room (take count buf) in
    let len : length (take count buf) ≡ count = length-take-le count buf there in
    let first : length (take room buf) ≡ room = length-take-le room buf (omega (arith, beyond, there)) in
    let sum = ap length parts ∙ len in
    record {
      fed = take room buf;
      over = drop room (take count buf);
      consumes = subst (Consumes before now) (sym parts) consumes;
      size = omega (arith, sum, most);
      room = omega (arith, first);
      has_come = (
        refl,
        omega (arith, sum, first, beyond, length-append (take room buf) (drop room (take count buf))),
      );
      stands = stands;
      at = fed-at old new (take room buf) same;
    }

-- ---- the bytes that a tool reads

-- of bytes within the limit and others, as many as a tool reads
pub within-more : (bytes more : List ℕ) → length bytes ≤ most_bytes
    → take most_bytes (bytes ++ more) ≡ bytes ++ take (most_bytes - length bytes) more
within-more bytes more within =
    let sum : most_bytes ≡ length bytes + (most_bytes - length bytes) = omega (arith, within) in
    ap (λ (n : ℕ). take n (bytes ++ more)) sum ∙ take-append-add bytes more (most_bytes - length bytes)

-- of as many and others
all-within : (bytes more : List ℕ) → length bytes ≡ most_bytes → take most_bytes (bytes ++ more) ≡ bytes
all-within bytes more full = ap (λ (n : ℕ). take n (bytes ++ more)) (sym full) ∙ take-append_seam bytes more

-- ---- the end

-- an end that is known is no whole log
known-faulty : (fault : Option LogFault) → end_known fault ≡ Some Whole → ⊥
known-faulty None e = cc
known-faulty (Some fault) e = by_kind (is_known fault.kind) e where
  by_kind : (b : Bool) → (if b then Some (Fault fault) else None) ≡ Some Whole → ⊥
  by_kind true same = cc
  by_kind false same = cc

-- nor is one past the limit
beyond-faulty : (known : Option LogEnd) → (known ≡ Some Whole → ⊥) → unwrap_or known TooLong ≡ Whole → ⊥
beyond-faulty None faulty e = cc
beyond-faulty (Some end) faulty e = faulty (ap (λ (w : LogEnd). Some w) e)

-- an end that is known comes of a fault
record Known (fault : Option LogFault) (end : LogEnd) : Type 0 where
  why : LogFault
  fault_is : fault ≡ Some why
  stays : is_known why.kind ≡ true
  end_is : end ≡ Fault why

known-of : (fault : Option LogFault) (end : LogEnd) → end_known fault ≡ Some end → Known fault end
known-of None end e = absurd (cc)
known-of (Some fault) end e = by_kind (is_known fault.kind) refl e where
  by_kind : (b : Bool) → is_known fault.kind ≡ b → (if b then Some (Fault fault) else None) ≡ Some end
      → Known (Some fault) end
  by_kind true stays same = record { why = fault; fault_is = refl; stays = stays; end_is = cc }
  by_kind false stays same = absurd (cc)

-- whatever the size
known-end : (size : ℕ) (fault : Option LogFault) (end : LogEnd) → end_known fault ≡ Some end
    → end ≡ end_of size fault
known-end size fault end e =
    let k = known-of fault end e in
    by_size (nat_le size most_bytes) (k.end_is ∙ sym (ap end_here k.fault_is))
    (sym (ap (λ (w : Option LogEnd). unwrap_or w TooLong) e))
  where
    by_size : (b : Bool) → end ≡ end_here fault → end ≡ unwrap_or (end_known fault) TooLong
        → end ≡ (if b then end_here fault else unwrap_or (end_known fault) TooLong)
    by_size true here beyond = here
    by_size false here beyond = beyond

-- within the limit
here-end : (size : ℕ) (fault : Option LogFault) → size ≤ most_bytes → end_here fault ≡ end_of size fault
here-end size fault within = let test : nat_le size most_bytes ≡ true = grind (arith, nat_tests) in rw test refl

-- and past it
beyond-end : (size : ℕ) (fault : Option LogFault) → most_bytes < size
    → unwrap_or (end_known fault) TooLong ≡ end_of size fault
beyond-end size fault beyond = let test : nat_le size most_bytes ≡ false = grind (arith, nat_tests) in rw test refl

-- ---- going on

-- where no end is known bytes came, and all of them were read
pub goes-on : (came : Came) (fault : Option LogFault) (fed over : List ℕ) (room : ℕ) (now : Option (List ℕ))
    → end_by came fault ≡ None → HasCome came fed over room now → (0 < length fed) × (over ≡ [])
goes-on Bytes fault fed over room now e come = come
goes-on Beyond fault fed over room now e come = absurd (cc)
goes-on End fault fed over room now e come = absurd (cc)

-- what the loop over the pieces keeps
pub record LogSoFar (tool : LogTool) (before now : Option (List ℕ)) (room : ℕ) (reader : Reading) (count : ℕ)
    (rest : List ℕ) (out_before out_now : Option (List ℕ)) : Type 0 where
  pub bytes : List ℕ
  pub consumes : Consumes before now bytes
  pub size : length bytes + room ≡ most_bytes
  pub found : HasFound tool bytes reader count rest out_before out_now
  pub within : count ≤ reader.at

-- nothing so far
pub so_far-none : (tool : LogTool) (before : Option (List ℕ)) (reader : Reading) (out : Option (List ℕ))
    → Stands [] [] reader → LogSoFar tool before before most_bytes reader 0 [] out out
so_far-none tool before reader out stands = record {
  bytes = [];
  consumes = Consumes-nil before;
  size = refl;
  found = record { items = []; stands = stands; count_is = refl; printed = printed tool };
  within = omega arith;
}
  where
    printed : (tool : LogTool) → HasPrinted (lines_of tool []) [] out out
    printed Check = nothing-printed [] out
    printed Show = nothing-printed [] out

-- one piece more
pub so_far-more : (tool : LogTool) (before mid now : Option (List ℕ)) (room left : ℕ) (old mid_reader new : Reading)
    (count more : ℕ) (rest lines : List ℕ) (out_before out_mid out_now : Option (List ℕ)) (came : Came)
    (fault : Option LogFault)
    (s : LogSoFar tool before mid room old count rest out_before out_mid)
    (f : Feeds came mid now old mid_reader room left) → end_by came fault ≡ None
    → HasFound tool (s.bytes ++ f.fed) new more lines out_before out_now → more ≤ new.at
    → LogSoFar tool before now left new more lines out_before out_now × (left < room)
so_far-more tool before mid now room left old mid_reader new count more rest lines out_before out_mid out_now came fault
    s f going found within =
    let on = goes-on came fault f.fed f.over left now going f.has_come in
    let piece : Consumes mid now f.fed = subst (Consumes mid now)
    (ap (λ (w : List ℕ). f.fed ++ w) on.1 ∙ append-nil f.fed) f.consumes in (
      record {
        bytes = s.bytes ++ f.fed;
        consumes = Consumes-trans before mid now s.bytes f.fed s.consumes piece;
        size = omega (arith, s.size, f.room, length-append s.bytes f.fed);
        found = found;
        within = within;
      },
      omega (arith, on.0, f.room),
    )

-- ---- the whole log

-- what a reader that may end knows: what it was fed means what it gave and then this fault or none, and a fault that is
-- known is its own
pub record MayEnd (reader : Reading) (fault : Option LogFault) : Type 0 where
  pub meaning : (bytes : List ℕ) (items : List ItemAt) → Stands bytes items reader
      → Means bytes reader.extra items fault
  pub own : (why : LogFault) → fault ≡ Some why → is_known why.kind ≡ true → reader.fault ≡ Some why

-- a log that ends without a fault that is known lacks bytes
ends-truncated : (r : Reading) (fault : LogFault) → ending r ≡ Some fault → fault.kind ≡ Truncated
ends-truncated r fault e = by_test (begun r && length r.rest == 0) e where
  by_test : (b : Bool) → (if b then None else Some (at_offset r Truncated)) ≡ Some fault → fault.kind ≡ Truncated
  by_test true e = absurd (cc)
  by_test false e = let same : at_offset r Truncated ≡ fault = cc in ap (λ (w : LogFault). w.kind) (sym same)

-- so a fault that is known is the reader's own
own-fault : (fault : Option LogFault) (result : Result (Unit {0}) LogFault) (r : Reading) (why : LogFault)
    → IfSome fault (λ f. result ≡ Err f)
    → IfNone fault (MatchResult result (λ _. ending r ≡ None) (λ f. ending r ≡ Some f))
    → result_err result ≡ Some why → is_known why.kind ≡ true → fault ≡ Some why
own-fault (Some f) result r why broken ends is known =
    let given : result_err result ≡ Some f = ap (λ (w : Result (Unit {0}) LogFault). result_err w) broken in
    sym given ∙ is
own-fault None (Ok x) r why broken ends is known = absurd (cc)
own-fault None (Err f) r why broken ends is known =
    let same : f ≡ why = cc in
    let kind : why.kind ≡ Truncated = ap (λ (w : LogFault). w.kind) (sym same) ∙ ends-truncated r f ends in
    absurd (let no : is_known why.kind ≡ false = ap is_known kind in let yes = known in cc)

-- a reader that ended knows so
pub may-end : (r : Reading) (result : Result (Unit {0}) LogFault)
    → ((bytes : List ℕ) (items : List ItemAt) → Stands bytes items r → Means bytes r.extra items (result_err result))
    → IfSome r.fault (λ f. result ≡ Err f)
    → IfNone r.fault (MatchResult result (λ _. ending r ≡ None) (λ f. ending r ≡ Some f))
    → MayEnd r (result_err result)
may-end r result meaning broken ends = record {
  meaning = meaning;
  own = λ why is known. own-fault r.fault result r why broken ends is known;
}

-- after such a fault more bytes change nothing
fed-broken : (r : Reading) (piece : List ℕ) (why : LogFault) → r.fault ≡ Some why → r ≡ fed r piece
fed-broken r piece why e = by_fault r.fault e where
  by_fault : (fault : Option LogFault) → fault ≡ Some why
      → r ≡ (if is_some fault then r else record r { rest = r.rest ++ piece })
  by_fault None e = absurd (cc)
  by_fault (Some other) e = refl

-- whether all bytes of the source came
abbrev pub is_end : Came → Bool
is_end Bytes = false
is_end Beyond = false
is_end End = true

-- what a tool finds, by what came last and whatever follows
finds : (bytes over : List ℕ) (items : List ItemAt) (reader : Reading) (came : Came) (fault : Option LogFault)
    (end : LogEnd) (left : ℕ) (fed : List ℕ) (now : Option (List ℕ)) → length bytes + left ≡ most_bytes
    → HasCome came fed over left now → MayEnd reader fault → end_by came fault ≡ Some end → Stands bytes items reader
    → (more : List ℕ) → MayFollow (is_end came) more → Finds ((bytes ++ over) ++ more) items end
finds bytes over items reader Bytes fault end left fed now size come ends is stands more follows =
    let k = known-of fault end is in
    let rest = take (most_bytes - length bytes) (over ++ more) in
    let same : bytes ++ rest ≡ take most_bytes ((bytes ++ over) ++ more) =
    sym (ap (take most_bytes) (append_assoc bytes over more) ∙ within-more bytes (over ++ more)
    (omega (arith, size))) in
    let broken = fed-broken reader rest k.why (ends.own k.why k.fault_is k.stays) in
    record {
      extra = reader.extra;
      fault = fault;
      means = subst (λ (w : List ℕ). Means w reader.extra items fault) same
          (ends.meaning (bytes ++ rest) items (Stands-fed bytes rest items reader reader broken stands));
      end_is = known-end (length ((bytes ++ over) ++ more)) fault end is;
    }
finds bytes over items reader Beyond fault end left fed now size come ends is stands more follows =
    let same : bytes ≡ take most_bytes ((bytes ++ over) ++ more) =
    sym (ap (take most_bytes) (append_assoc bytes over more) ∙ all-within bytes (over ++ more)
    (omega (arith, size, come.0)))
    in
    let end_is : unwrap_or (end_known fault) TooLong ≡ end = cc in
    record {
      extra = reader.extra;
      fault = fault;
      means = subst (λ (w : List ℕ). Means w reader.extra items fault) same (ends.meaning bytes items stands);
      end_is = sym end_is ∙ beyond-end (length ((bytes ++ over) ++ more)) fault
          (omega (arith, size, come.0, come.1, length-append (bytes ++ over) more, length-append bytes over));
    }
finds bytes over items reader End fault end left fed now size come ends is stands more follows =
    let whole : (bytes ++ over) ++ more ≡ bytes =
    ap (λ (w : List ℕ). (bytes ++ over) ++ w) follows ∙ append-nil (bytes ++ over)
    ∙ ap (λ (w : List ℕ). bytes ++ w) come.1 ∙ append-nil bytes in
    let within : length bytes ≤ most_bytes = omega (arith, size) in
    let same : bytes ≡ take most_bytes ((bytes ++ over) ++ more) =
    sym (ap (take most_bytes) whole ∙ take_all most_bytes bytes within) in
    let end_is : end_here fault ≡ end = cc in
    record {
      extra = reader.extra;
      fault = fault;
      means = subst (λ (w : List ℕ). Means w reader.extra items fault) same (ends.meaning bytes items stands);
      end_is = sym end_is ∙ here-end (length ((bytes ++ over) ++ more)) fault (omega (arith, ap length whole, within));
    }

-- at the end all came
ended-of : (came : Came) (fed over : List ℕ) (left : ℕ) (now : Option (List ℕ)) → HasCome came fed over left now
    → is_end came ≡ true → IsAtEnd now
ended-of Bytes fed over left now come e = absurd (cc)
ended-of Beyond fed over left now come e = absurd (cc)
ended-of End fed over left now come e = come.2

-- and nothing was left over
none-over : (came : Came) (fed over : List ℕ) (left : ℕ) (now : Option (List ℕ)) → HasCome came fed over left now
    → is_end came ≡ true → over ≡ []
none-over Bytes fed over left now come e = absurd (cc)
none-over Beyond fed over left now come e = absurd (cc)
none-over End fed over left now come e = come.1

-- a log is whole only at the end
whole-ended : (came : Came) (fault : Option LogFault) (end : LogEnd) → end_by came fault ≡ Some end → end ≡ Whole
    → is_end came ≡ true
whole-ended Bytes fault end is whole = absurd (known-faulty fault (is ∙ ap (λ (w : LogEnd). Some w) whole))
whole-ended Beyond fault end is whole =
    let same : unwrap_or (end_known fault) TooLong ≡ end = cc in
    absurd (beyond-faulty (end_known fault) (known-faulty fault) (same ∙ whole))
whole-ended End fault end is whole = refl

-- where the loop over the pieces ends
pub reads-log : (tool : LogTool) (before mid now : Option (List ℕ)) (room left : ℕ) (old mid_reader new : Reading)
    (count more : ℕ) (rest lines : List ℕ) (out_before out_mid out_now : Option (List ℕ)) (came : Came)
    (fault : Option LogFault) (end : LogEnd)
    (s : LogSoFar tool before mid room old count rest out_before out_mid)
    (f : Feeds came mid now old mid_reader room left) → end_by came fault ≡ Some end → MayEnd new fault
    → HasFound tool (s.bytes ++ f.fed) new more lines out_before out_now
    → ReadsLog tool before now end more (most_bytes - left) lines out_before out_now
reads-log tool before mid now room left old mid_reader new count more rest lines out_before out_mid out_now came fault
    end s f is ends found =
    let size : length (s.bytes ++ f.fed) + left ≡ most_bytes =
    omega (arith, s.size, f.room, length-append s.bytes f.fed) in
    record {
      taken = (s.bytes ++ f.fed) ++ f.over;
      all = is_end came;
      items = found.items;
      took = record {
        consumes = subst (Consumes before now) (sym (append_assoc s.bytes f.fed f.over))
            (Consumes-trans before mid now s.bytes (f.fed ++ f.over) s.consumes f.consumes);
        ended = ended-of came f.fed f.over left now f.has_come;
      };
      ended = whole-ended came fault end is;
      bounded = omega (
        arith,
        s.size,
        f.size,
        length-append (s.bytes ++ f.fed) f.over,
        length-append s.bytes f.fed,
        length-append f.fed f.over,
      );
      size_is = λ all. omega (
        arith,
        size,
        length-append (s.bytes ++ f.fed) f.over,
        ap length (none-over came f.fed f.over left now f.has_come all),
      );
      finds = finds (s.bytes ++ f.fed) f.over found.items new came fault end left f.fed now size f.has_come ends is
          found.stands;
      count_is = found.count_is;
      printed = found.printed;
    }

-- ---- where it stops

-- between the pieces and in the midst of one
pub stops-reading : (tool : LogTool) (before mid now : Option (List ℕ)) (room left : ℕ) (old mid_reader : Reading)
    (count : ℕ) (rest : List ℕ) (e : ToolFault) (out_before out_mid out_now : Option (List ℕ)) (came : Came)
    (s : LogSoFar tool before mid room old count rest out_before out_mid)
    (f : Feeds came mid now old mid_reader room left) → StopsAt tool (s.bytes ++ f.fed) e out_before out_now
    → StopsReading tool before now e out_before out_now
stops-reading tool before mid now room left old mid_reader count rest e out_before out_mid out_now came s f
    stops = record {
      fed = s.bytes ++ f.fed;
      over = f.over;
      consumes = subst (Consumes before now) (sym (append_assoc s.bytes f.fed f.over))
          (Consumes-trans before mid now s.bytes (f.fed ++ f.over) s.consumes f.consumes);
      within = omega (arith, s.size, f.room, length-append s.bytes f.fed);
      bounded = omega (
        arith,
        s.size,
        f.size,
        length-append (s.bytes ++ f.fed) f.over,
        length-append s.bytes f.fed,
        length-append f.fed f.over,
      );
      stops = stops;
    }

-- where a piece didn't come to the reader
pub stops-feeding : (tool : LogTool) (before mid now : Option (List ℕ)) (room : ℕ) (reader : Reading) (count : ℕ)
    (rest piece : List ℕ) (e : ToolFault) (out_before out_now : Option (List ℕ)) → (e ≡ Write → ⊥)
    → LogSoFar tool before mid room reader count rest out_before out_now → length piece ≤ piece_bytes
    → Consumes mid now piece → StopsReading tool before now e out_before out_now
stops-feeding tool before mid now room reader count rest piece e out_before out_now other s most consumes = record {
  fed = s.bytes;
  over = piece;
  consumes = Consumes-trans before mid now s.bytes piece s.consumes consumes;
  within = omega (arith, s.size);
  bounded = omega (arith, s.size, most, length-append s.bytes piece);
  stops = found-other tool s.bytes reader count rest e out_before out_now other s.found;
}
