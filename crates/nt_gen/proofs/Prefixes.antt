-- How much of a text a sink took.
use Rattle.std.proofs.Common.{◌≡◌, ℕ, List, ◌++◌, length, take, Option, refl, sym, ap, subst, ◌∙◌, arith, append_assoc, length-append}
use Rattle.std.proofs.lemmas.List.{take_at}
use Rattle.std.specs.Io.KnownBytes.{Appends}
use Rattle.std.proofs.KnownBytes.{Appends-trans}
use Rattle.nt_link.specs.Causes.{Aside, IsLater}
use Rattle.nt_tools.specs.declared.status.ToolFault.{ToolFault}
use Rattle.nt_tools.specs.declared.status.ToolFault.TheVariants.{Write}
use Rattle.nt_tools.specs.Reply.{IsPrefix}
use Rattle.nt_tools.specs.Printing.{printing, HasPrinted, HasStopped}
use Rattle.nt_tools.proofs.Printing.{printed-more}
use Rattle.wpilog_write.specs.Written.{IsCut}

-- what was printed of a text is of one that begins with it
pub printed-longer : (lines rest more : List ℕ) (before now : Option (List ℕ)) → HasPrinted lines rest before now
    → HasPrinted (lines ++ more) (rest ++ more) before now
printed-longer lines rest more before now p = record {
  printed = p.printed;
  whole = ap (λ (w : List ℕ). w ++ more) p.whole ∙ append_assoc p.printed rest more;
  appended = p.appended;
}

pub stopped-longer : (lines more : List ℕ) (e : ToolFault) (before now : Option (List ℕ))
    → HasStopped lines e before now → HasStopped (lines ++ more) e before now
stopped-longer lines more e before now s = record {
  rest = s.rest ++ more;
  left = λ is. omega (arith, s.left is, length-append s.rest more);
  printed = printed-longer lines s.rest more before now s.printed;
}

-- a text that was printed but for a rest, and of the rest and one line more a part
pub stopped-after : (lines rest line : List ℕ) (e : ToolFault) (before mid now : Option (List ℕ))
    → HasPrinted lines rest before mid → HasStopped (rest ++ line) e mid now
    → HasStopped (lines ++ line) e before now
stopped-after lines rest line e before mid now p s = record {
  rest = s.rest;
  left = s.left;
  printed = printed-more lines rest line s.rest before mid now p s.printed;
}

-- a text that was printed but for a rest, and then the rest and one line more
pub printed-all : (lines rest line : List ℕ) (before mid now : Option (List ℕ)) → HasPrinted lines rest before mid
    → Appends mid now (rest ++ line) → Appends before now (lines ++ line)
printed-all lines rest line before mid now p all = subst (Appends before now)
    (sym (ap (λ (w : List ℕ). w ++ line) p.whole ∙ append_assoc p.printed rest line))
    (Appends-trans before mid now p.printed (rest ++ line) p.appended all)

-- what was printed is a prefix, and where a write failed not all
taken-first : (lines rest : List ℕ) (before now : Option (List ℕ)) (p : HasPrinted lines rest before now)
    → Appends before now (take (length p.printed) lines)
taken-first lines rest before now p = subst (Appends before now)
    (sym (ap (take (length p.printed)) p.whole ∙ take_at p.printed rest (length p.printed) refl)) p.appended

pub stopped-prefix : (lines : List ℕ) (e : ToolFault) (before now : Option (List ℕ)) → HasStopped lines e before now
    → IsPrefix (printing lines) before now
stopped-prefix lines e before now s = record {
  count = length s.printed.printed;
  within = omega (arith, ap length s.printed.whole, length-append s.printed.printed s.rest);
  printed = taken-first lines s.rest before now s.printed;
}

pub stopped-cut : (lines : List ℕ) (e : ToolFault) (before now : Option (List ℕ)) → e ≡ Write
    → HasStopped lines e before now → IsCut lines before now
stopped-cut lines e before now is s = record {
  count = length s.printed.printed;
  short = omega (arith, s.left is, ap length s.printed.whole, length-append s.printed.printed s.rest);
  taken = taken-first lines s.rest before now s.printed;
}

-- ---- causes

-- a later state of a later state
pub later-later : {S : Type 0} (count : S → ℕ) (rest : S → Aside) (a b c : S) → IsLater count rest a b
    → IsLater count rest b c → IsLater count rest a c
later-later count rest a b c p q = record {
  later = omega (arith, p.later, q.later);
  end = λ top. q.end (omega (arith, p.later, top)) ∙ p.end top;
  aside = q.aside ∙ p.aside;
}
