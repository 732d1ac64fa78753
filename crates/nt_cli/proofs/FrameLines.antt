-- Frames that are printed line by line.
use Rattle.std.proofs.Common.{◌≡◌, ℕ, ◌+◌, ◌<◌, List, ◌++◌, length, drop, get_or, Option, Err, sym, ap, ◌∙◌, subst, append_assoc}
use Rattle.std.proofs.lemmas.List.{drop_more}
use Rattle.std.specs.Io.KnownBytes.{Appends}
use Rattle.nt_link.specs.declared.frame.Frame.{Frame}
use Rattle.nt_tools.specs.declared.status.ToolFault.{ToolFault}
use Rattle.nt_cli.specs.Desk.{frame_line, lines_of}
use Rattle.nt_tools.specs.Printing.{Prints}
use Rattle.nt_tools.proofs.Printing.{prints-after, prints-stopped}

-- the lines of the frames before this place were printed
pub record PrintsTo (frames : List Frame) (at : ℕ) (before now : Option (List ℕ)) : Type 0 where
  pub text : List ℕ
  pub whole : lines_of frames ≡ text ++ lines_of (drop at frames)
  pub printed : Appends before now text

lines-at : (frames : List Frame) (at : ℕ) (frame : Frame) → at < length frames → frame ≡ get_or frames at frame
    → lines_of (drop at frames) ≡ frame_line frame ++ lines_of (drop (at + 1) frames)
lines-at frames at frame there is =
    ap lines_of (drop_more frames at frame there) ∙ ap (λ (f : Frame). frame_line f ++ lines_of (drop (at + 1) frames))
    (sym is)

-- one more
pub lines-more : (frames : List Frame) (at : ℕ) (text : List ℕ) (frame : Frame)
    → lines_of frames ≡ text ++ lines_of (drop at frames) → at < length frames → frame ≡ get_or frames at frame
    → lines_of frames ≡ (text ++ frame_line frame) ++ lines_of (drop (at + 1) frames)
lines-more frames at text frame whole there is =
    whole ∙ ap (λ (l : List ℕ). text ++ l) (lines-at frames at frame there is)
    ∙ sym (append_assoc text (frame_line frame) (lines_of (drop (at + 1) frames)))

-- one that stopped
pub lines-stopped : (frames : List Frame) (at : ℕ) (text : List ℕ) (frame : Frame) (before mid now : Option (List ℕ))
    (e : ToolFault) → lines_of frames ≡ text ++ lines_of (drop at frames) → at < length frames
    → frame ≡ get_or frames at frame → Appends before mid text → Prints (frame_line frame) mid now (Err e)
    → Prints (lines_of frames) before now (Err e)
lines-stopped frames at text frame before mid now e whole there is printed p =
    let rest = lines_of (drop (at + 1) frames) in
    let all : Prints (text ++ (frame_line frame ++ rest)) before now (Err e) =
    prints-after text (frame_line frame ++ rest) before mid now (Err e) printed
    (prints-stopped (frame_line frame) rest mid now e p) in
    subst (λ (l : List ℕ). Prints l before now (Err e)) (sym (whole
    ∙ ap (λ (l : List ℕ). text ++ l) (lines-at frames at frame there is))) all
