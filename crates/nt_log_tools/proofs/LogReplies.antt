-- The one reply of a tool that reads a log, and what becomes of it.
use Rattle.std.proofs.Common.{◌≡◌, ℕ, ◌-◌, ◌<◌, ◌≤◌, Bool, true, false, List, [], ◌∷◌, ◌++◌, length, take, Option, None, Some, Result, Ok, Err, refl, sym, ap, subst, ◌∙◌, append_assoc, append-nil, length-append, arith}
use Rattle.std.proofs.Math.Seq.{take-append_seam}
use Rattle.std.specs.Io.KnownBytes.{Consumes, IsAtEnd, Keeps, Appends}
use Rattle.std.proofs.KnownBytes.{Keeps-trans}
use Rattle.wpilog_read.specs.declared.item_at.ItemAt.{ItemAt}
use Rattle.wpilog_read.specs.declared.fault.LogFault.{LogFault}
use Rattle.wpilog_read.specs.Meaning.{Means}
use Rattle.wpilog_read.specs.Run.{Reading, fed, Stands}
use Rattle.wpilog_read.proofs.Runs.{Stands-fed}
use Rattle.nt_log_tools.specs.declared.command.LogTool.{LogTool}
use Rattle.nt_log_tools.specs.declared.command.LogTool.TheVariants.{Check, Show}
use Rattle.nt_log_tools.specs.declared.log_end.LogEnd.{LogEnd}
use Rattle.nt_log_tools.specs.declared.log_end.LogEnd.TheVariants.{Whole, Fault, TooLong}
use Rattle.nt_tools.specs.declared.status.Status.{Status}
use Rattle.nt_tools.specs.declared.status.ToolFault.{ToolFault}
use Rattle.nt_tools.specs.declared.status.ToolFault.TheVariants.{Memory, Read, Write}
use Rattle.nt_tools.specs.Reply.{Reply, IsGiven, IsPrefix, IsCutShort}
use Rattle.nt_tools.specs.Input.{most_bytes, Took, MayFollow}
use Rattle.nt_tools.specs.Lines.{summary, too_long}
use Rattle.nt_log_tools.specs.LogTools.{end_of, lines_of, last_line, end_status, log_reply, IsReply, EndsLog}
use Rattle.nt_log_tools.specs.LogRun.{ReadsLog, StopsReading}
use Rattle.nt_tools.specs.Printing.{number_of, GivesReply, Follows, HasPrinted}
use Rattle.nt_tools.proofs.Printing.{prefix-kept, prefix-cut, gives-after}
use Rattle.nt_log_tools.proofs.LogPrints.{lines-append}
use Rattle.nt_log_tools.proofs.LogFeeds.{within-more}

-- ---- the laws of reading

-- bytes have a meaning
abbrev pub HasMeaning : Type 0
HasMeaning = (bytes : List ℕ) → (extra : Option (List ℕ)) × (items : List ItemAt) × (fault : Option LogFault)
    × Means bytes extra items fault

-- and one alone
abbrev pub HasOneMeaning : Type 0
HasOneMeaning = (bytes : List ℕ) (extra other_extra : Option (List ℕ)) (items others : List ItemAt)
    (fault other : Option LogFault) → Means bytes extra items fault → Means bytes other_extra others other
    → (extra ≡ other_extra) × (items ≡ others) × (fault ≡ other)

-- what a reader gave so far begins it
abbrev pub ReadersBegin : Type 0
ReadersBegin = (bytes : List ℕ) (items others : List ItemAt) (r : Reading) (extra : Option (List ℕ))
    (fault : Option LogFault) → Stands bytes items r → Means bytes extra others fault
    → (more : List ItemAt) × (others ≡ items ++ more)

-- ---- one reply

-- a source has one reply
pub one-reply : HasOneMeaning → (tool : LogTool) (bytes : List ℕ) (a b : Reply) → IsReply tool bytes a
    → IsReply tool bytes b → a ≡ b
one-reply one tool bytes a b p q =
    let same = one (take most_bytes bytes) p.finds.extra q.finds.extra p.items q.items p.finds.fault q.finds.fault
    p.finds.means q.finds.means in
    let end : p.end ≡ q.end = p.finds.end_is ∙ ap (end_of (length bytes)) same.2 ∙ sym q.finds.end_is in
    p.reply_is ∙ ap (λ (w : List ItemAt). log_reply tool (length bytes) w p.end) same.1
    ∙ ap (log_reply tool (length bytes) q.items) end ∙ sym q.reply_is

-- ---- what was printed of it

-- what is printed before the rest of a text that begins the reply is a prefix of it
prefix-printed : (reply : Reply) (lines rest tail : List ℕ) (before now : Option (List ℕ))
    → reply.text ≡ lines ++ tail → HasPrinted lines rest before now → IsPrefix reply before now
prefix-printed reply lines rest tail before now begins p =
    let whole : reply.text ≡ p.printed ++ (rest ++ tail) = begins ∙ ap (λ (w : List ℕ). w ++ tail) p.whole
    ∙ append_assoc p.printed rest tail in
    let prefix : take (length p.printed) reply.text ≡ p.printed = ap (take (length p.printed)) whole
    ∙ take-append_seam p.printed (rest ++ tail) in
    record {
      count = length p.printed;
      within = omega (arith, ap length whole, length-append p.printed (rest ++ tail));
      printed = subst (Appends before now) (sym prefix) p.appended;
    }

-- and not all of it where a rest is left
cut-printed : (reply : Reply) (lines rest tail : List ℕ) (before now : Option (List ℕ)) → reply.text ≡ lines ++ tail
    → 0 < length rest → HasPrinted lines rest before now → IsCutShort reply before now
cut-printed reply lines rest tail before now begins left p =
    let whole : reply.text ≡ p.printed ++ (rest ++ tail) = begins ∙ ap (λ (w : List ℕ). w ++ tail) p.whole
    ∙ append_assoc p.printed rest tail in
    let prefix : take (length p.printed) reply.text ≡ p.printed = ap (take (length p.printed)) whole
    ∙ take-append_seam p.printed (rest ++ tail) in
    record {
      count = length p.printed;
      within = omega (arith, ap length whole, length-append p.printed (rest ++ tail), length-append rest tail);
      printed = subst (Appends before now) (sym prefix) p.appended;
    }

-- of no lines nothing was printed
none-kept : (printed rest : List ℕ) (before now : Option (List ℕ)) → [] ≡ printed ++ rest → Appends before now printed
    → Keeps before now
none-kept [] rest None now whole appended = tt
none-kept [] rest (Some xs) None whole appended = absurd appended
none-kept [] rest (Some xs) (Some ys) whole appended = appended ∙ append-nil xs
none-kept (b ∷ bs) rest before now whole appended = absurd (cc)

-- ---- the end of a log

-- what the last line says of a log
last-same : (tool : LogTool) (end : LogEnd) (items count bytes size : ℕ) → items ≡ count → (end ≡ Whole → bytes ≡ size)
    → last_line tool end items bytes ≡ last_line tool end count size
last-same Check Whole items count bytes size count_is size_is =
    ap (λ (n : ℕ). summary n bytes) count_is ∙ ap (summary count) (size_is refl)
last-same Show Whole items count bytes size count_is size_is = refl
last-same Check (Fault fault) items count bytes size count_is size_is = refl
last-same Show (Fault fault) items count bytes size count_is size_is = refl
last-same Check TooLong items count bytes size count_is size_is = refl
last-same Show TooLong items count bytes size count_is size_is = refl

-- nor does the tool matter past the most bytes that it reads
pub last-long : (tool : LogTool) (items bytes : ℕ) → last_line tool TooLong items bytes ≡ too_long
last-long Check items bytes = refl
last-long Show items bytes = refl

-- the status 0 is that of a whole log
whole-status : (end : LogEnd) → end_status end ≡ 0 → end ≡ Whole
whole-status Whole e = refl
whole-status (Fault fault) e = absurd (omega (arith, e))
whole-status TooLong e = absurd (omega (arith, e))

-- what follows all bytes of a source is nothing
nothing-follows : (all : Bool) (more : List ℕ) → all ≡ true → MayFollow all more → more ≡ []
nothing-follows true more e follows = follows
nothing-follows false more e follows = absurd (cc)

-- the last part of the reply
abbrev pub last_reply : LogTool → LogEnd → ℕ → ℕ → List ℕ → Reply
last_reply tool end count size rest = record { status = end_status end; text = rest ++ last_line tool end count size }

-- the reply to a log that was read
abbrev read_reply : LogTool → LogEnd → ℕ → ℕ → List ItemAt → Reply
read_reply tool end count size items =
    record { status = end_status end; text = lines_of tool items ++ last_line tool end count size }

-- is the reply to what was taken and whatever follows
reply-read : (tool : LogTool) (before now : Option (List ℕ)) (end : LogEnd) (count size : ℕ) (rest : List ℕ)
    (out_before out_now : Option (List ℕ)) (r : ReadsLog tool before now end count size rest out_before out_now)
    (more : List ℕ) → MayFollow r.all more
    → IsReply tool (r.taken ++ more) (read_reply tool end count size r.items)
reply-read tool before now end count size rest out_before out_now r more follows =
    let size_is : end ≡ Whole → length (r.taken ++ more) ≡ size = λ whole.
    let all = r.ended whole in
    ap (λ (w : List ℕ). length (r.taken ++ w)) (nothing-follows r.all more all follows)
    ∙ ap length (append-nil r.taken) ∙ r.size_is all in
    record {
      items = r.items;
      end = end;
      finds = r.finds more follows;
      reply_is = ap (λ (w : List ℕ). record { status = end_status end; text = lines_of tool r.items ++ w })
          (sym (last-same tool end (length r.items) count (length (r.taken ++ more)) size r.count_is size_is));
    }

-- what becomes of the last part becomes of the whole reply
gives-read : (tool : LogTool) (end : LogEnd) (count size : ℕ) (items : List ItemAt) (rest : List ℕ)
    (before mid now : Option (List ℕ)) (result : Result Status ToolFault)
    → HasPrinted (lines_of tool items) rest before mid
    → GivesReply (last_reply tool end count size rest) mid now result
    → GivesReply (read_reply tool end count size items) before now result
gives-read tool end count size items rest before mid now result p g =
    let last = last_line tool end count size in
    let text : p.printed ++ (rest ++ last) ≡ lines_of tool items ++ last =
    sym (append_assoc p.printed rest last) ∙ ap (λ (w : List ℕ). w ++ last) (sym p.whole) in
    subst (λ (w : List ℕ). GivesReply (record { status = end_status end; text = w }) before now result) text
    (gives-after p.printed (last_reply tool end count size rest) before mid now result p.appended g)

-- a log that was read is replied to
pub ends-log : (tool : LogTool) (before now : Option (List ℕ)) (end : LogEnd) (count size : ℕ) (rest : List ℕ)
    (out_before out_mid out_now : Option (List ℕ)) (result : Result Status ToolFault)
    → ReadsLog tool before now end count size rest out_before out_mid
    → GivesReply (last_reply tool end count size rest) out_mid out_now result
    → (result ≡ Err Memory → Keeps out_mid out_now) → EndsLog tool before now out_before out_now result
ends-log tool before now end count size rest out_before out_mid out_now (Ok status) r g memory = (
  read_reply tool end count size r.items,
  record {
    taken = r.taken;
    all = r.all;
    took = r.took;
    ended = λ zero. r.ended (whole-status end zero);
    bounded = r.bounded;
    replies = reply-read tool before now end count size rest out_before out_mid r;
  },
  gives-read tool end count size r.items rest out_before out_mid out_now (Ok status) r.printed g,
)
ends-log Check before now end count size rest out_before out_mid out_now (Err Memory) r g memory =
    Keeps-trans out_before out_mid out_now
    (none-kept r.printed.printed rest out_before out_mid r.printed.whole r.printed.appended) (memory refl)
ends-log Show before now end count size rest out_before out_mid out_now (Err Memory) r g memory = record {
  taken = r.taken;
  all = r.all;
  took = r.took;
  bounded = r.bounded;
  begun = λ more follows. (
    read_reply Show end count size r.items,
    reply-read Show before now end count size rest out_before out_mid r more follows,
    gives-read Show end count size r.items rest out_before out_mid out_now (Err Memory) r.printed g,
  );
}
ends-log tool before now end count size rest out_before out_mid out_now (Err Read) r g memory = absurd g
ends-log tool before now end count size rest out_before out_mid out_now (Err Write) r g memory = record {
  taken = r.taken;
  all = r.all;
  took = r.took;
  bounded = r.bounded;
  broken = λ more follows. (
    read_reply tool end count size r.items,
    reply-read tool before now end count size rest out_before out_mid r more follows,
    gives-read tool end count size r.items rest out_before out_mid out_now (Err Write) r.printed g,
  );
}

-- ---- where a tool stops in the midst of a log

-- some reply begins with these lines
record Begins (tool : LogTool) (bytes lines : List ℕ) : Type 0 where
  reply : Reply
  is : IsReply tool bytes reply
  tail : List ℕ
  begins : reply.text ≡ lines ++ tail

-- with the lines of the items that a reader gave, whatever bytes follow
stops-begins : HasMeaning → ReadersBegin → (tool : LogTool) (bytes more : List ℕ) (items : List ItemAt)
    (reader : Reading) → length bytes ≤ most_bytes → Stands bytes items reader
    → Begins tool (bytes ++ more) (lines_of tool items)
stops-begins some law tool bytes more items reader within stands =
    let all = bytes ++ more in
    let first : take most_bytes all ≡ bytes ++ take (most_bytes - length bytes) more = within-more bytes more within in
    let m = some (take most_bytes all) in
    let part = take (most_bytes - length bytes) more in
    let there : Stands (take most_bytes all) items (fed reader part) =
    subst (λ (w : List ℕ). Stands w items (fed reader part)) (sym first)
    (Stands-fed bytes part items reader (fed reader part) refl stands) in
    let begins = law (take most_bytes all) items m.1 (fed reader part) m.0 m.2 there m.3 in
    let end = end_of (length all) m.2 in
    let last = last_line tool end (length m.1) (length all) in
    record {
      reply = log_reply tool (length all) m.1 end;
      is = record {
        items = m.1;
        end = end;
        finds = record { extra = m.0; fault = m.2; means = m.3; end_is = refl };
        reply_is = refl;
      };
      tail = lines_of tool begins.0 ++ last;
      begins = ap (λ (w : List ℕ). w ++ last) (ap (lines_of tool) begins.1 ∙ lines-append tool items begins.0)
          ∙ append_assoc (lines_of tool items) (lines_of tool begins.0) last;
    }

-- some bytes were taken of the source
took-some : (before now : Option (List ℕ)) (taken : List ℕ) → Consumes before now taken → Took before now taken false
took-some before now taken consumes = record { consumes = consumes; ended = λ is. absurd (cc) }

-- a tool that stopped has printed a prefix of its reply
pub stops-log : HasMeaning → ReadersBegin → (tool : LogTool) (before now : Option (List ℕ)) (e : ToolFault)
    (out_before out_now : Option (List ℕ)) → StopsReading tool before now e out_before out_now
    → EndsLog tool before now out_before out_now (Err e)
stops-log some law tool before now e out_before out_now s = by_fault tool e s where
  begins : (tool : LogTool) (e : ToolFault) (s : StopsReading tool before now e out_before out_now) (more : List ℕ)
      → Begins tool ((s.fed ++ s.over) ++ more) (lines_of tool s.stops.items)
  begins tool e s more = subst (λ (w : List ℕ). Begins tool w (lines_of tool s.stops.items))
      (sym (append_assoc s.fed s.over more))
      (stops-begins some law tool s.fed (s.over ++ more) s.stops.items s.stops.reader s.within s.stops.stands)

  by_memory : (e : ToolFault) (s : StopsReading Show before now e out_before out_now)
      → EndsLog Show before now out_before out_now (Err Memory)
  by_memory e s = record {
    taken = s.fed ++ s.over;
    all = false;
    took = took-some before now (s.fed ++ s.over) s.consumes;
    bounded = s.bounded;
    begun = λ more follows.
        let b = begins Show e s more in (
          b.reply,
          b.is,
          prefix-printed b.reply (lines_of Show s.stops.items) s.stops.stopped.rest b.tail out_before out_now b.begins
              s.stops.stopped.printed,
        );
  }

  by_none : (e : ToolFault) (s : StopsReading Check before now e out_before out_now) → Keeps out_before out_now
  by_none e s = let p = s.stops.stopped.printed in
      none-kept p.printed s.stops.stopped.rest out_before out_now p.whole p.appended

  by_fault : (tool : LogTool) (e : ToolFault) → StopsReading tool before now e out_before out_now
      → EndsLog tool before now out_before out_now (Err e)
  by_fault Check Memory s = by_none Memory s
  by_fault Check Read s = by_none Read s
  by_fault Show Memory s = by_memory Memory s
  by_fault Show Read s = by_memory Read s
  by_fault tool Write s = record {
    taken = s.fed ++ s.over;
    all = false;
    took = took-some before now (s.fed ++ s.over) s.consumes;
    bounded = s.bounded;
    broken = λ more follows.
        let b = begins tool Write s more in (
          b.reply,
          b.is,
          cut-printed b.reply (lines_of tool s.stops.items) s.stops.stopped.rest b.tail out_before out_now b.begins
              (s.stops.stopped.left refl) s.stops.stopped.printed,
        );
  }

-- ---- where the source tells what it had left

-- what was taken of it, and what follows
record Splits (bytes taken : List ℕ) (all : Bool) : Type 0 where
  more : List ℕ
  follows : MayFollow all more
  parts : bytes ≡ taken ++ more

splits : (before now : Option (List ℕ)) (bytes taken : List ℕ) (all : Bool) → before ≡ Some bytes
    → Took before now taken all → Splits bytes taken all
splits None now bytes taken all known took = absurd (cc)
splits (Some xs) None bytes taken all known took = absurd took.consumes
splits (Some xs) (Some ys) bytes taken all known took = by_all all took.ended where
  same : xs ≡ bytes
  same = cc

  parts : bytes ≡ taken ++ ys
  parts = sym same ∙ took.consumes

  by_all : (all : Bool) → (all ≡ true → IsAtEnd (Some ys)) → Splits bytes taken all
  by_all true ended = record { more = ys; follows = ended refl; parts = parts }
  by_all false ended = record { more = ys; follows = tt; parts = parts }

-- a reply to what was taken and whatever follows is the one to what the source had left
left-reply : HasOneMeaning → (tool : LogTool) (bytes taken : List ℕ) (all : Bool) (s : Splits bytes taken all)
    (reply other : Reply) → IsReply tool bytes reply → IsReply tool (taken ++ s.more) other → other ≡ reply
left-reply one tool bytes taken all s reply other p q =
    one-reply one tool bytes other reply (subst (λ (w : List ℕ). IsReply tool w other) (sym s.parts) q) p

-- so the reply to that is followed
pub exact-log : HasOneMeaning → (tool : LogTool) (before now out_before out_now : Option (List ℕ))
    (result : Result Status ToolFault) → EndsLog tool before now out_before out_now result
    → (bytes : List ℕ) (reply : Reply) → before ≡ Some bytes → IsReply tool bytes reply
    → Follows reply out_before out_now result
exact-log one tool before now out_before out_now (Ok status) ends bytes reply known is =
    let s = splits before now bytes ends.1.taken ends.1.all known ends.1.took in
    let same = left-reply one tool bytes ends.1.taken ends.1.all s reply ends.0 is (ends.1.replies s.more s.follows) in
    subst (λ (w : Reply). IsGiven w (number_of status) out_before out_now) same ends.2
exact-log one Check before now out_before out_now (Err Memory) ends bytes reply known is =
    prefix-kept reply out_before out_now ends
exact-log one Check before now out_before out_now (Err Read) ends bytes reply known is =
    prefix-kept reply out_before out_now ends
exact-log one Show before now out_before out_now (Err Memory) ends bytes reply known is =
    let s = splits before now bytes ends.taken ends.all known ends.took in
    let b = ends.begun s.more s.follows in
    subst (λ (w : Reply). IsPrefix w out_before out_now)
    (left-reply one Show bytes ends.taken ends.all s reply b.0 is b.1) b.2
exact-log one Show before now out_before out_now (Err Read) ends bytes reply known is =
    let s = splits before now bytes ends.taken ends.all known ends.took in
    let b = ends.begun s.more s.follows in
    subst (λ (w : Reply). IsPrefix w out_before out_now)
    (left-reply one Show bytes ends.taken ends.all s reply b.0 is b.1) b.2
exact-log one tool before now out_before out_now (Err Write) ends bytes reply known is =
    let s = splits before now bytes ends.taken ends.all known ends.took in
    let b = ends.broken s.more s.follows in
    subst (λ (w : Reply). IsPrefix w out_before out_now)
    (left-reply one tool bytes ends.taken ends.all s reply b.0 is b.1)
    (prefix-cut b.0 out_before out_now b.2)
