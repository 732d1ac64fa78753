-- How a desk goes on and ends.
use Rattle.std.proofs.Common.{◌≡◌, ℕ, ◌+◌, ◌<◌, ◌≤◌, Bool, true, false, List, [], ◌∷◌, ◌++◌, length, take, drop, Option, None, Some, Result, Ok, Err, refl, sym, ap, ◌∙◌, subst, arith, append-nil, append_assoc, length-append}
use Rattle.std.proofs.lemmas.Bool.{false≢true}
use Rattle.std.proofs.lemmas.List.{take-append-drop, length-take-le}
use Rattle.std.specs.Io.KnownBytes.{Consumes, IsAtEnd, Appends}
use Rattle.std.proofs.KnownBytes.{Consumes-nil, Consumes-trans, Appends-nil, Appends-trans}
use Rattle.nt_rules.specs.declared.act.Entry.{Entry}
use Rattle.nt_rules.specs.history.Step.{ServerState}
use Rattle.nt_tools.specs.declared.status.Status.{Status}
use Rattle.nt_tools.specs.declared.status.ToolFault.{ToolFault}
use Rattle.nt_tools.specs.declared.status.ToolFault.TheVariants.{Memory, Read, Write}
use Rattle.nt_tools.specs.Input.{most_bytes, piece_bytes, Took, MayFollow}
use Rattle.nt_tools.specs.LineReading.{Ahead, Reads, IsTooLong}
use Rattle.nt_tools.specs.Reply.{Reply, IsGiven, IsPrefix, IsCutShort, with_text}
use Rattle.nt_cli.specs.Desk.{Decoding, IsDecoding, opened, turn_text, last_text, after_turn, reply_within, desk_reply, RepliesAtDesk, RepliesToTaken, DeskBegun, DeskBroken, EndsDesk}
use Rattle.nt_tools.specs.Printing.{number_of, Prints, Follows}
use Rattle.nt_cli.specs.DeskRun.{IsConnected, Progress, left_reply, beginning, Settles, Stops, Breaks, Ends, GoesOn}
use Rattle.nt_tools.proofs.LineFeeds.{unbroken-append}
use Rattle.nt_cli.proofs.LineReplies.{long_reply, many_reply, end_reply, line-reply, long-reply, many-reply, end-reply}
use Rattle.nt_tools.proofs.Printing.{prefix-none, prefix-cut, prefix-more, cut-more, prefix-after, cut-after, given-after}

-- ---- what was taken

pub took-some : (before now : Option (List ℕ)) (taken : List ℕ) → Consumes before now taken
    → Took before now taken false
took-some before now taken consumes = record { consumes = consumes; ended = λ is. absurd (false≢true is) }

pub took-all : (before now : Option (List ℕ)) (taken : List ℕ) → Consumes before now taken → IsAtEnd now
    → Took before now taken true
took-all before now taken consumes ended = record { consumes = consumes; ended = λ is. ended }

-- ---- an end by what is left of the reply

-- the reply begins with a text, whatever follows
abbrev pub Begins : Progress → List ℕ → Bool → List ℕ → Type 0
Begins from taken all text = (more : List ℕ) → MayFollow all more
    → (rest : Reply) × (left_reply from (taken ++ more) ≡ with_text text rest)

-- the reply is this one, whatever follows
abbrev pub IsReply : Progress → List ℕ → Bool → Reply → Type 0
IsReply from taken all reply = (more : List ℕ) → MayFollow all more → left_reply from (taken ++ more) ≡ reply

begins-reply : (from : Progress) (taken : List ℕ) (all : Bool) (status : ℕ) (text : List ℕ)
    → IsReply from taken all (record {
      status = status;
      text = text;
    }) → Begins from taken all text
begins-reply from taken all status text is = λ more may.
    (record { status = status; text = [] }, is more may ∙ ap (λ (t : List ℕ). told status t) (sym (append-nil text)))
  where
    told : ℕ → List ℕ → Reply
    told s t = record { status = s; text = t }

-- printing a text that the reply begins with stopped
pub ends-stopped : (from : Progress) (before now out_before out_now : Option (List ℕ)) (taken : List ℕ) (all : Bool)
    (text : List ℕ) (e : ToolFault) → Took before now taken all → Begins from taken all text
    → Prints text out_before out_now (Err e) → Ends from before now out_before out_now (Err e)
ends-stopped from before now out_before out_now taken all text Memory took begins p = record {
  taken = taken;
  all = all;
  took = took;
  prefix = λ more may. let b = begins more may in subst (λ (r : Reply). IsPrefix r out_before out_now) (sym b.1)
      (prefix-more text b.0 out_before out_now p);
}
ends-stopped from before now out_before out_now taken all text Read took begins p = absurd p
ends-stopped from before now out_before out_now taken all text Write took begins p = record {
  taken = taken;
  all = all;
  took = took;
  cut = λ more may. let b = begins more may in subst (λ (r : Reply). IsCutShort r out_before out_now) (sym b.1)
      (cut-more text b.0 out_before out_now p);
}

-- nothing was printed
pub stops-silent : (from : Progress) (before now out : Option (List ℕ)) (taken : List ℕ) → Consumes before now taken
    → Stops from before now out out
stops-silent from before now out taken consumes = record {
  taken = taken;
  all = false;
  took = took-some before now taken consumes;
  prefix = λ more may. prefix-none (left_reply from (taken ++ more)) out;
}

-- ---- what is left of the reply, by what was read

module _ (decode : Decoding) (before now : Option (List ℕ)) (old new : Ahead) (line : List ℕ) (past : List Entry)
    (number : ℕ) where
  abbrev pub from : Progress
  from = record { decode = decode; ahead = old; past = past; number = number }

  -- after a line
  pub left-line : (r : Reads before now old new line (10 ∷ [])) (more : List ℕ)
      → left_reply from (r.taken ++ more)
      ≡ with_text (turn_text decode past number line) (left_reply (record {
        decode = decode;
        ahead = new;
        past = after_turn decode past number line;
        number = number + 1;
      }) more)
  left-line r more =
      let whole : old.bytes ++ (r.taken ++ more) ≡ line ++ 10 ∷ (new.bytes ++ more)
      = sym (append_assoc old.bytes r.taken more) ∙ ap (λ (l : List ℕ). l ++ more) r.gives.whole
      ∙ append_assoc line (10 ∷ new.bytes) more in
      ap (reply_within decode old.room past number) whole ∙ line-reply decode past number old.room new.room line
      (new.bytes ++ more) r.gives.unbroken r.short r.gives.room

  -- at the end of the source
  pub left-end : (r : Reads before now old new line []) → new.bytes ≡ []
      → IsReply from r.taken true (end_reply decode past number line)
  left-end r none = λ more may.
      let whole : old.bytes ++ (r.taken ++ more) ≡ line
      = ap (λ (l : List ℕ). old.bytes ++ (r.taken ++ l)) may ∙ ap (λ (l : List ℕ). old.bytes ++ l) (append-nil r.taken)
      ∙ r.gives.whole ∙ ap (λ (l : List ℕ). line ++ l) none ∙ append-nil line in
      ap (reply_within decode old.room past number) whole ∙ end-reply decode past number old.room line r.gives.unbroken
      r.short (omega (arith, r.gives.room))

  -- in a line that is too long
  pub left-long : (r : Reads before now old new line []) → IsTooLong line new
      → IsReply from r.taken false (long_reply number)
  left-long r long = λ more may.
      let prefix = line ++ take long.count new.bytes in
      let rest = drop long.count new.bytes in
      let parts : line ++ new.bytes ≡ prefix ++ rest = ap (λ (l : List ℕ). line ++ l)
      (sym (take-append-drop long.count new.bytes)) ∙ sym (append_assoc line (take long.count new.bytes) rest) in
      let whole : old.bytes ++ (r.taken ++ more) ≡ prefix ++ (rest ++ more)
      = sym (append_assoc old.bytes r.taken more) ∙ ap (λ (l : List ℕ). l ++ more) (r.gives.whole ∙ parts)
      ∙ append_assoc prefix rest more in
      let len : length prefix ≡ length line + long.count
      = length-append line (take long.count new.bytes) ∙ ap (λ (n : ℕ). length line + n)
      (length-take-le long.count new.bytes long.there) in
      ap (reply_within decode old.room past number) whole
      ∙ long-reply decode past number old.room prefix (rest ++ more)
      (unbroken-append line (take long.count new.bytes) r.gives.unbroken long.unbroken)
      (omega (arith, long.beyond)) (omega (arith, r.gives.room, long.within))

  -- where the room is full
  pub left-many : (r : Reads before now old new line []) → new.room ≡ 0 → 0 < length new.bytes
      → IsReply from r.taken false many_reply
  left-many r full some = λ more may.
      let whole : old.bytes ++ (r.taken ++ more) ≡ line ++ (new.bytes ++ more)
      = sym (append_assoc old.bytes r.taken more) ∙ ap (λ (l : List ℕ). l ++ more) r.gives.whole
      ∙ append_assoc line new.bytes more in
      ap (reply_within decode old.room past number) whole
      ∙ many-reply decode past number old.room line (new.bytes ++ more) r.gives.unbroken r.short
      (omega (arith, r.gives.room)) (omega (arith, length-append new.bytes more))

  -- ---- a turn

  -- how many bytes were taken
  reads-size : (feed : List ℕ) (r : Reads before now old new line feed)
      → length old.bytes + length r.taken + new.room ≡ old.room + length new.bytes
  reads-size feed r =
      let counts : length old.bytes + length r.taken ≡ length line + (length feed + length new.bytes)
      = sym (length-append old.bytes r.taken) ∙ ap length r.gives.whole ∙ length-append line (feed ++ new.bytes)
      ∙ ap (λ (n : ℕ). length line + n) (length-append feed new.bytes) in
      omega (arith, r.gives.room)

  pub turn-line : (out_before out_now : Option (List ℕ)) (server : ServerState)
      (r : Reads before now old new line (10 ∷ [])) → Appends out_before out_now (turn_text decode past number line)
      → IsConnected server (after_turn decode past number line)
      → GoesOn from before now out_before out_now server new (number + 1)
  turn-line out_before out_now server r printed connected = record {
    taken = r.taken;
    text = turn_text decode past number line;
    past = after_turn decode past number line;
    consumes = r.consumes;
    size = reads-size (10 ∷ []) r;
    printed = printed;
    connected = connected;
    same = left-line r;
  }

  pub turn-line_stopped : (out_before out_now : Option (List ℕ)) (e : ToolFault)
      (r : Reads before now old new line (10 ∷ [])) → Prints (turn_text decode past number line) out_before out_now
      (Err e)
      → Ends from before now out_before out_now (Err e)
  turn-line_stopped out_before out_now e r p =
      ends-stopped from before now out_before out_now r.taken false (turn_text decode past number line) e
      (took-some before now r.taken r.consumes) (λ more may. (_, left-line r more)) p

  settles : (out_before out_now : Option (List ℕ)) (status : ℕ) (text : List ℕ) (all : Bool)
      (r : Reads before now old new line []) → length new.bytes ≤ piece_bytes → Took before now r.taken all
      → (status ≡ 0 → all ≡ true) → IsReply from r.taken all (record {
        status = status;
        text = text;
      }) → Appends out_before out_now text → Settles from before now out_before out_now status
  settles out_before out_now status text all r most took finished is printed = record {
    taken = r.taken;
    all = all;
    took = took;
    bounded = omega (arith, reads-size [] r);
    finished = finished;
    given = λ more may. subst (λ (reply : Reply). IsGiven reply status out_before out_now) (sym (is more may)) (record {
      status_is = refl;
      printed = printed;
    });
  }

  pub turn-end : (out_before out_now : Option (List ℕ)) (r : Reads before now old new line []) → IsAtEnd now
      → new.bytes ≡ [] → Appends out_before out_now (last_text decode past number line)
      → Settles from before now out_before out_now 0
  turn-end out_before out_now r ended none printed =
      settles out_before out_now 0 (last_text decode past number line) true r (omega (arith, ap length none))
      (took-all before now r.taken r.consumes ended) (λ is. refl) (left-end r none) printed

  pub turn-end_stopped : (out_before out_now : Option (List ℕ)) (e : ToolFault) (r : Reads before now old new line [])
      → IsAtEnd now → new.bytes ≡ []
      → Prints (last_text decode past number line) out_before out_now (Err e)
      → Ends from before now out_before out_now (Err e)
  turn-end_stopped out_before out_now e r ended none p =
      ends-stopped from before now out_before out_now r.taken true (last_text decode past number line) e
      (took-all before now r.taken r.consumes ended)
      (begins-reply from r.taken true 0 (last_text decode past number line) (left-end r none)) p

  pub turn-fault : (out_before out_now : Option (List ℕ)) (text : List ℕ) (r : Reads before now old new line [])
      → length new.bytes ≤ piece_bytes
      → IsReply from r.taken false (record {
        status = 1;
        text = text;
      }) → Appends out_before out_now text → Settles from before now out_before out_now 1
  turn-fault out_before out_now text r most is printed = settles out_before out_now 1 text false r most
      (took-some before now r.taken r.consumes) (λ one. absurd (omega arith)) is printed

  pub turn-fault_stopped : (out_before out_now : Option (List ℕ)) (text : List ℕ) (e : ToolFault)
      (r : Reads before now old new line [])
      → IsReply from r.taken false (record {
        status = 1;
        text = text;
      }) → Prints text out_before out_now (Err e) → Ends from before now out_before out_now (Err e)
  turn-fault_stopped out_before out_now text e r is p =
      ends-stopped from before now out_before out_now r.taken false text e (took-some before now r.taken r.consumes)
      (begins-reply from r.taken false 1 text is) p

-- ---- turn by turn

-- a text before another
with_text-twice : (first second : List ℕ) (reply : Reply) → with_text first (with_text second reply)
    ≡ with_text (first ++ second) reply
with_text-twice first second reply = ap (told reply.status) (sym (append_assoc first second reply.text))
  where
    told : ℕ → List ℕ → Reply
    told s t = record { status = s; text = t }

-- nothing was read yet
pub goes_on-begin : (decode : Decoding) (server : ServerState) (before out : Option (List ℕ))
    → IsConnected server opened → GoesOn (beginning decode) before before out out server (record {
      bytes = [];
      room = most_bytes;
    }) 1
goes_on-begin decode server before out connected = record {
  taken = [];
  text = [];
  past = opened;
  consumes = Consumes-nil before;
  size = refl;
  printed = Appends-nil out;
  connected = connected;
  same = λ more. refl;
}

module _ (from : Progress) (before mid now out_before out_mid out_now : Option (List ℕ)) (server : ServerState)
    (ahead : Ahead) (number : ℕ)
    (g : GoesOn from before mid out_before out_mid server ahead number) where
  abbrev here : Progress
  here = record { decode = from.decode; ahead = ahead; past = g.past; number = number }

  -- the reply after the text that was printed
  reply-after : (taken more : List ℕ) → left_reply from ((g.taken ++ taken) ++ more)
      ≡ with_text g.text (left_reply here (taken ++ more))
  reply-after taken more = ap (left_reply from) (append_assoc g.taken taken more) ∙ g.same (taken ++ more)

  -- a turn more
  pub goes_on-more : (server' : ServerState) (ahead' : Ahead) (number' : ℕ)
      → GoesOn here mid now out_mid out_now server' ahead' number'
      → GoesOn from before now out_before out_now server' ahead' number'
  goes_on-more server' ahead' number' h = record {
    taken = g.taken ++ h.taken;
    text = g.text ++ h.text;
    past = h.past;
    consumes = Consumes-trans before mid now g.taken h.taken g.consumes h.consumes;
    size = omega (arith, g.size, h.size, length-append g.taken h.taken);
    printed = Appends-trans out_before out_mid out_now g.text h.text g.printed h.printed;
    connected = h.connected;
    same = λ more. reply-after h.taken more ∙ ap (with_text g.text) (h.same more)
        ∙ with_text-twice g.text h.text (left_reply (record {
          decode = from.decode;
          ahead = ahead';
          past = h.past;
          number = number';
        }) more);
  }

  took-after : (taken : List ℕ) (all : Bool) → Took mid now taken all → Took before now (g.taken ++ taken) all
  took-after taken all took = record {
    consumes = Consumes-trans before mid now g.taken taken g.consumes took.consumes;
    ended = took.ended;
  }

  -- the end
  stops-after : Stops here mid now out_mid out_now → Stops from before now out_before out_now
  stops-after e = record {
    taken = g.taken ++ e.taken;
    all = e.all;
    took = took-after e.taken e.all e.took;
    prefix = λ more may. subst (λ (r : Reply). IsPrefix r out_before out_now) (sym (reply-after e.taken more))
        (prefix-after g.text (left_reply here (e.taken ++ more)) out_before out_mid out_now g.printed
        (e.prefix more may));
  }

  pub ends-after : (r : Result Status ToolFault) → Ends here mid now out_mid out_now r
      → Ends from before now out_before out_now r
  ends-after (Ok status) e = record {
    taken = g.taken ++ e.taken;
    all = e.all;
    took = took-after e.taken e.all e.took;
    bounded = omega (arith, g.size, e.bounded, length-append g.taken e.taken);
    finished = e.finished;
    given = λ more may.
        subst (λ (r : Reply). IsGiven r (number_of status) out_before out_now) (sym (reply-after e.taken more))
        (given-after g.text (left_reply here (e.taken ++ more)) (number_of status) out_before out_mid out_now
        g.printed (e.given more may));
  }
  ends-after (Err Memory) e = stops-after e
  ends-after (Err Read) e = stops-after e
  ends-after (Err Write) e = record {
    taken = g.taken ++ e.taken;
    all = e.all;
    took = took-after e.taken e.all e.took;
    cut = λ more may. subst (λ (r : Reply). IsCutShort r out_before out_now) (sym (reply-after e.taken more))
        (cut-after g.text (left_reply here (e.taken ++ more)) out_before out_mid out_now g.printed (e.cut more may));
  }

-- ---- what a desk did from its beginning

left-beginning : (decode : Decoding) (bytes : List ℕ) → left_reply (beginning decode) bytes ≡ desk_reply decode bytes
unfolding desk_reply
left-beginning decode bytes = refl

none-follows : (all : Bool) → MayFollow all []
none-follows true = refl
none-follows false = tt

-- the reply to what was taken alone
alone : (decode : Decoding) (taken : List ℕ) → left_reply (beginning decode) (taken ++ []) ≡ desk_reply decode taken
alone decode taken = ap (left_reply (beginning decode)) (append-nil taken) ∙ left-beginning decode taken

-- what a source told is what was taken and what may follow
pub record Told (bytes taken : List ℕ) (all : Bool) : Type 0 where
  pub more : List ℕ
  pub may : MayFollow all more
  pub whole : bytes ≡ taken ++ more

told-rest : (all : Bool) (xs ys taken : List ℕ) → xs ≡ taken ++ ys → (all ≡ true → ys ≡ []) → Told xs taken all
told-rest true xs ys taken whole ended = record { more = ys; may = ended refl; whole = whole }
told-rest false xs ys taken whole ended = record { more = ys; may = tt; whole = whole }

pub told : (before now : Option (List ℕ)) (taken : List ℕ) (all : Bool) (bytes : List ℕ) → Took before now taken all
    → before ≡ Some bytes → Told bytes taken all
told None now taken all bytes took known = absurd (cc)
told (Some xs) None taken all bytes took known = absurd took.consumes
told (Some xs) (Some ys) taken all bytes took known =
    let same : xs ≡ bytes = cc in
    subst (λ (l : List ℕ). Told l taken all) same (told-rest all xs ys taken took.consumes took.ended)

-- the reply to what a source told
told-reply : (decode : Decoding) (bytes taken : List ℕ) (all : Bool) (t : Told bytes taken all)
    → left_reply (beginning decode) (taken ++ t.more) ≡ desk_reply decode bytes
told-reply decode bytes taken all t = left-beginning decode (taken ++ t.more) ∙ ap (desk_reply decode) (sym t.whole)

module _ (decode : Decoding) (before now out_before out_now : Option (List ℕ)) where
  -- the reply of this is_decoding
  abbrev reply_to : List ℕ → Reply
  reply_to bytes = desk_reply decode bytes

  settles-exact : (status : ℕ) (bytes : List ℕ) → Settles (beginning decode) before now out_before out_now status
      → before ≡ Some bytes → IsGiven (reply_to bytes) status out_before out_now
  settles-exact status bytes e known =
      let t = told before now e.taken e.all bytes e.took known in
      subst (λ (r : Reply). IsGiven r status out_before out_now) (told-reply decode bytes e.taken e.all t)
      (e.given t.more t.may)

  stops-prefix : (bytes : List ℕ) → Stops (beginning decode) before now out_before out_now → before ≡ Some bytes
      → IsPrefix (reply_to bytes) out_before out_now
  stops-prefix bytes e known =
      let t = told before now e.taken e.all bytes e.took known in
      subst (λ (r : Reply). IsPrefix r out_before out_now) (told-reply decode bytes e.taken e.all t)
      (e.prefix t.more t.may)

  ends-follows : (r : Result Status ToolFault) (bytes : List ℕ)
      → Ends (beginning decode) before now out_before out_now r → before ≡ Some bytes
      → Follows (reply_to bytes) out_before out_now r
  ends-follows (Ok status) bytes e known = settles-exact (number_of status) bytes e known
  ends-follows (Err Memory) bytes e known = stops-prefix bytes e known
  ends-follows (Err Read) bytes e known = stops-prefix bytes e known
  ends-follows (Err Write) bytes e known =
      let t = told before now e.taken e.all bytes e.took known in
      prefix-cut (reply_to bytes) out_before out_now (subst (λ (r : Reply). IsCutShort r out_before out_now)
      (told-reply decode bytes e.taken e.all t) (e.cut t.more t.may))

  -- the same, where it is a decoding
  module _ (is_decoding : IsDecoding decode) where
    replies : (bytes : List ℕ) → RepliesAtDesk bytes (reply_to bytes)
    replies bytes = record { decode = decode; is_decoding = is_decoding; reply_is = refl }

    pub settles-done : (status : ℕ) → Settles (beginning decode) before now out_before out_now status
        → (reply : Reply) × RepliesToTaken before now reply × IsGiven reply status out_before out_now
    settles-done status e =
        let given : IsGiven (reply_to e.taken) status out_before out_now =
        subst (λ (r : Reply). IsGiven r status out_before out_now) (alone decode e.taken)
        (e.given [] (none-follows e.all)) in (
          reply_to e.taken,
          record {
            bytes = e.taken;
            taken = e.took.consumes;
            ended = λ is. e.took.ended (e.finished (given.status_is ∙ is));
            bounded = omega (arith, e.bounded);
            replies = replies e.taken;
          },
          given,
        )

    pub stops-begun : Stops (beginning decode) before now out_before out_now → DeskBegun before now out_before out_now
    stops-begun e = record {
      bytes = e.taken;
      taken = e.took.consumes;
      reply = reply_to e.taken;
      replies = replies e.taken;
      printed = subst (λ (r : Reply). IsPrefix r out_before out_now) (alone decode e.taken)
          (e.prefix [] (none-follows e.all));
    }

    pub breaks-broken : Breaks (beginning decode) before now out_before out_now
        → DeskBroken before now out_before out_now
    breaks-broken e = record {
      bytes = e.taken;
      taken = e.took.consumes;
      reply = reply_to e.taken;
      replies = replies e.taken;
      printed = subst (λ (r : Reply). IsCutShort r out_before out_now) (alone decode e.taken)
          (e.cut [] (none-follows e.all));
    }

    -- as the desk's contract says it
    pub ends-desk : (r : Result Status ToolFault) → Ends (beginning decode) before now out_before out_now r
        → EndsDesk before now out_before out_now r
    ends-desk (Ok status) e = settles-done (number_of status) e
    ends-desk (Err Memory) e = stops-begun e
    ends-desk (Err Read) e = stops-begun e
    ends-desk (Err Write) e = breaks-broken e

-- every reply is that of its decoding
pub replies-follow : (before now out_before out_now : Option (List ℕ)) (r : Result Status ToolFault) (bytes : List ℕ)
    (reply : Reply) → RepliesAtDesk bytes reply
    → ((decode : Decoding) → IsDecoding decode → Ends (beginning decode) before now out_before out_now r)
    → before ≡ Some bytes → Follows reply out_before out_now r
replies-follow before now out_before out_now r bytes reply replies ends known =
    subst (λ (x : Reply). Follows x out_before out_now r) (sym replies.reply_is)
    (ends-follows replies.decode before now out_before out_now r bytes (ends replies.decode replies.is_decoding)
    known)
