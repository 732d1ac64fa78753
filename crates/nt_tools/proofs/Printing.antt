-- A text that is printed in parts.
use Rattle.std.proofs.Common.{◌≡◌, ℕ, ◌+◌, List, [], ◌++◌, length, take, drop, Option, Result, Ok, Err, refl, sym, ap, subst, ◌∙◌, append_assoc, length-append, length-drop, take-append-drop, arith}
use Rattle.std.proofs.Math.Seq.{take-append-add}
use Rattle.std.proofs.lemmas.List.{take-append-le, take_all}
use Rattle.std.specs.Result.{OnOk}
use Rattle.std.specs.Io.KnownBytes.{Keeps, Appends}
use Rattle.std.proofs.KnownBytes.{Appends-nil, Appends-trans, Appends-kept}
use Rattle.nt_tools.specs.declared.status.Status.{Status}
use Rattle.nt_tools.specs.declared.status.ToolFault.{ToolFault}
use Rattle.nt_tools.specs.declared.status.ToolFault.TheVariants.{Memory, Read, Write}
use Rattle.nt_tools.specs.Reply.{Reply, IsGiven, IsPrefix, IsCutShort, with_text}
use Rattle.nt_tools.specs.Printing.{number_of, printing, Prints, HasPrinted, HasStopped, GivesReply, Follows}

-- nothing printed is a prefix of each reply
pub prefix-none : (reply : Reply) (before : Option (List ℕ)) → IsPrefix reply before before
prefix-none reply before = record { count = 0; within = omega arith; printed = Appends-nil before }

-- as it is where the output was left as it was
pub prefix-kept : (reply : Reply) (before now : Option (List ℕ)) → Keeps before now → IsPrefix reply before now
prefix-kept reply before now keeps = record {
  count = 0;
  within = omega arith;
  printed = Appends-kept before before now [] (Appends-nil before) keeps;
}

-- a given reply is a prefix of itself
pub prefix-given : (reply : Reply) (status : ℕ) (before now : Option (List ℕ)) → IsGiven reply status before now
    → IsPrefix reply before now
prefix-given reply status before now given = record {
  count = length reply.text;
  within = omega arith;
  printed = subst (Appends before now) (sym (take_all (length reply.text) reply.text (omega arith))) given.printed;
}

-- and so is one that was cut short
pub prefix-cut : (reply : Reply) (before now : Option (List ℕ)) → IsCutShort reply before now
    → IsPrefix reply before now
prefix-cut reply before now cut = record {
  count = cut.count;
  within = omega (arith, cut.within);
  printed = cut.printed;
}

-- all of a text is a prefix of it
pub prefix-all : (text : List ℕ) (before now : Option (List ℕ)) → Appends before now text
    → IsPrefix (printing text) before now
prefix-all text before now all = record {
  count = length text;
  within = omega arith;
  printed = subst (Appends before now) (sym (take_all (length text) text (omega arith))) all;
}

-- a prefix of a text is one of a reply that begins with it
pub prefix-more : (text : List ℕ) (rest : Reply) (before now : Option (List ℕ)) → IsPrefix (printing text) before now
    → IsPrefix (with_text text rest) before now
prefix-more text rest before now f = record {
  count = f.count;
  within = let within = f.within in omega (arith, length-append text rest.text);
  printed = subst (Appends before now) (sym (take-append-le f.count text rest.text f.within)) f.printed;
}

pub cut-more : (text : List ℕ) (rest : Reply) (before now : Option (List ℕ)) → IsCutShort (printing text) before now
    → IsCutShort (with_text text rest) before now
cut-more text rest before now f = record {
  count = f.count;
  within = let within = f.within in omega (arith, length-append text rest.text);
  printed = subst (Appends before now) (sym (take-append-le f.count text rest.text (omega (arith, f.within))))
      f.printed;
}

-- a prefix after a text that was printed before it
pub prefix-after : (text : List ℕ) (reply : Reply) (before mid now : Option (List ℕ)) → Appends before mid text
    → IsPrefix reply mid now → IsPrefix (with_text text reply) before now
prefix-after text reply before mid now first f = record {
  count = length text + f.count;
  within = let within = f.within in omega (arith, length-append text reply.text);
  printed = subst (Appends before now) (sym (take-append-add text reply.text f.count))
      (Appends-trans before mid now text (take f.count reply.text) first f.printed);
}

pub cut-after : (text : List ℕ) (reply : Reply) (before mid now : Option (List ℕ)) → Appends before mid text
    → IsCutShort reply mid now → IsCutShort (with_text text reply) before now
cut-after text reply before mid now first f = record {
  count = length text + f.count;
  within = let within = f.within in omega (arith, length-append text reply.text);
  printed = subst (Appends before now) (sym (take-append-add text reply.text f.count))
      (Appends-trans before mid now text (take f.count reply.text) first f.printed);
}

pub given-after : (text : List ℕ) (reply : Reply) (status : ℕ) (before mid now : Option (List ℕ))
    → Appends before mid text → IsGiven reply status mid now
    → IsGiven (with_text text reply) status before now
given-after text reply status before mid now first g = record {
  status_is = g.status_is;
  printed = Appends-trans before mid now text reply.text first g.printed;
}

-- a text after one that was printed before it
pub prints-after : (text more : List ℕ) (before mid now : Option (List ℕ)) (r : Result (Unit {0}) ToolFault)
    → Appends before mid text → Prints more mid now r → Prints (text ++ more) before now r
prints-after text more before mid now (Ok done) first p = Appends-trans before mid now text more first p
prints-after text more before mid now (Err Memory) first p = prefix-after text (printing more) before mid now first p
prints-after text more before mid now (Err Read) first p = absurd p
prints-after text more before mid now (Err Write) first p = cut-after text (printing more) before mid now first p

-- where printing a text stopped, so did printing one that begins with it
pub prints-stopped : (text more : List ℕ) (before now : Option (List ℕ)) (e : ToolFault)
    → Prints text before now (Err e) → Prints (text ++ more) before now (Err e)
prints-stopped text more before now Memory p = prefix-more text (printing more) before now p
prints-stopped text more before now Read p = absurd p
prints-stopped text more before now Write p = cut-more text (printing more) before now p

-- a fact that always holds
pub on_ok-always : {T E P : Type 0} → (r : Result T E) → P → OnOk r P
on_ok-always (Ok x) p = p
on_ok-always (Err e) p = tt

-- ---- replies

-- a reply that is given so far is followed
pub gives-follows : (reply : Reply) (before now : Option (List ℕ)) (r : Result Status ToolFault)
    → GivesReply reply before now r → Follows reply before now r
gives-follows reply before now (Ok status) g = g
gives-follows reply before now (Err Memory) g = g
gives-follows reply before now (Err Read) g = absurd g
gives-follows reply before now (Err Write) g = prefix-cut reply before now g

-- what becomes of the last part of a reply becomes of the reply, where the text before it was printed
pub gives-after : (text : List ℕ) (last : Reply) (before mid now : Option (List ℕ)) (r : Result Status ToolFault)
    → Appends before mid text → GivesReply last mid now r → GivesReply (with_text text last) before now r
gives-after text last before mid now (Ok status) first g = given-after text last (number_of status) before mid now first
    g
gives-after text last before mid now (Err Memory) first g = prefix-after text last before mid now first g
gives-after text last before mid now (Err Read) first g = absurd g
gives-after text last before mid now (Err Write) first g = cut-after text last before mid now first g

-- printing the text of a reply gives it
pub prints-gives : (status : Status) (text : List ℕ) (before now : Option (List ℕ)) (e : ToolFault)
    → Prints text before now (Err e) → GivesReply (record {
      status = number_of status;
      text = text;
    }) before now (Err e)
prints-gives status text before now Memory p = record { count = p.count; within = p.within; printed = p.printed }
prints-gives status text before now Read p = absurd p
prints-gives status text before now Write p = record { count = p.count; within = p.within; printed = p.printed }

-- ---- lines

-- no line is printed yet
pub nothing-printed : (lines : List ℕ) (before : Option (List ℕ)) → HasPrinted lines lines before before
nothing-printed lines before = record { printed = []; whole = refl; appended = Appends-nil before }

-- one line more, and some of the lines printed
pub printed-more : (lines rest line left : List ℕ) (before mid now : Option (List ℕ)) → HasPrinted lines rest before mid
    → HasPrinted (rest ++ line) left mid now → HasPrinted (lines ++ line) left before now
printed-more lines rest line left before mid now p q = record {
  printed = p.printed ++ q.printed;
  whole = ap (λ (w : List ℕ). w ++ line) p.whole ∙ append_assoc p.printed rest line
      ∙ ap (λ (w : List ℕ). p.printed ++ w) q.whole ∙ sym (append_assoc p.printed q.printed left);
  appended = Appends-trans before mid now p.printed q.printed p.appended q.appended;
}

-- ---- where printing stopped

-- printing that stopped leaves a rest
pub print-stopped : (lines piece : List ℕ) (before now : Option (List ℕ)) (e : ToolFault) → piece ≡ lines → e ≡ Write
    → Prints piece before now (Err e) → HasStopped lines e before now
print-stopped lines piece before now Write same is p = record {
  rest = drop p.count piece;
  left = λ _. omega (arith, p.within, length-drop p.count piece);
  printed = record {
    printed = take p.count piece;
    whole = sym same ∙ sym (take-append-drop p.count piece);
    appended = p.printed;
  };
}
print-stopped lines piece before now Memory same is p = absurd (cc)
print-stopped lines piece before now Read same is p = absurd p

-- where no write failed nothing need be wanting
pub stopped-other : (lines rest : List ℕ) (e : ToolFault) (before now : Option (List ℕ)) → (e ≡ Write → ⊥)
    → HasPrinted lines rest before now → HasStopped lines e before now
stopped-other lines rest e before now other p = record {
  rest = rest;
  left = λ is. absurd (other is);
  printed = p;
}
