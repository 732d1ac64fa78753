use Rattle.std.proofs.lemmas.Str.{IsUtf8-had, is_utf8-from_IsUtf8}
use Rattle.nt_control.proofs.write.frame_text.Goals as goal

pub returns-clause-back : goal.returns-clause-back
returns-clause-back c =
    λ flat. rw (c.of_string.ensures, is_utf8-from_IsUtf8 _ (IsUtf8-had _ c.in_ok-to_string.field-0.ok))
    (c.in_ok-to_string.ensures.reads_back flat)
