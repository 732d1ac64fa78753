-- What becomes of the reply of each tool, by the result.
use Rattle.std.proofs.Common.{◌≡◌, ℕ, List, Option, None, Some, Result, Ok, Err, IfOk, refl}
use Rattle.std.specs.Io.KnownBytes.{Keeps}
use Rattle.nt_log_tools.specs.declared.command.LogTool.{LogTool}
use Rattle.nt_log_tools.specs.LogTools.{EndsLog, HasBroken}
use Rattle.nt_tools.specs.declared.status.Status.{Status}
use Rattle.nt_tools.specs.declared.status.ToolFault.{ToolFault}
use Rattle.nt_tools.specs.declared.status.ToolFault.TheVariants.{Memory, Read, Write}
use Rattle.nt_tools.specs.Reply.{IsCutShort}
use Rattle.nt_tools.specs.Printing.{number_of, Follows}
use Rattle.nt_gen.specs.Generated.{gen_reply}
use Rattle.nt_cli.specs.Desk.{DeskBroken, EndsDesk}
use Rattle.nt_cli.specs.Tool.{usage_reply, EndsUsage, EndsGen}

pub keeps-same : (known : Option (List ℕ)) → Keeps known known
keeps-same None = tt
keeps-same (Some bytes) = refl

-- a reply of which all or a prefix is printed
pub ends-gen : (seed count : ℕ) (left out_before out_now : Option (List ℕ)) (r : Result Status ToolFault)
    → Follows (gen_reply seed count) out_before out_now r → (r ≡ Err Memory → Keeps out_before out_now)
    → (r ≡ Err Read → ⊥) → EndsGen seed count left left out_before out_now r
ends-gen seed count left out_before out_now (Ok status) follows memory read = (refl, follows)
ends-gen seed count left out_before out_now (Err Memory) follows memory read = memory refl
ends-gen seed count left out_before out_now (Err Read) follows memory read = absurd (read refl)
ends-gen seed count left out_before out_now (Err Write) follows memory read = (refl, follows)

-- its status is 0
pub gen-done : (seed count : ℕ) (out_before out_now : Option (List ℕ)) (r : Result Status ToolFault)
    → Follows (gen_reply seed count) out_before out_now r → IfOk r (λ status. number_of status ≡ 0)
gen-done seed count out_before out_now (Ok status) follows = follows.status_is
gen-done seed count out_before out_now (Err e) follows = tt

-- where a write failed
pub usage-unwritten : (before now out_before out_now : Option (List ℕ)) (r : Result Status ToolFault)
    → EndsUsage before now out_before out_now r → r ≡ Err Write
    → (now ≡ before) × IsCutShort usage_reply out_before out_now
usage-unwritten before now out_before out_now (Ok status) ends is = absurd cc
usage-unwritten before now out_before out_now (Err Memory) ends is = absurd cc
usage-unwritten before now out_before out_now (Err Read) ends is = absurd cc
usage-unwritten before now out_before out_now (Err Write) ends is = ends

pub log-unwritten : (tool : LogTool) (before now out_before out_now : Option (List ℕ)) (r : Result Status ToolFault)
    → EndsLog tool before now out_before out_now r → r ≡ Err Write → HasBroken tool before now out_before out_now
log-unwritten tool before now out_before out_now (Ok status) ends is = absurd cc
log-unwritten tool before now out_before out_now (Err Memory) ends is = absurd cc
log-unwritten tool before now out_before out_now (Err Read) ends is = absurd cc
log-unwritten tool before now out_before out_now (Err Write) ends is = ends

pub desk-unwritten : (before now out_before out_now : Option (List ℕ)) (r : Result Status ToolFault)
    → EndsDesk before now out_before out_now r → r ≡ Err Write → DeskBroken before now out_before out_now
desk-unwritten before now out_before out_now (Ok status) ends is = absurd cc
desk-unwritten before now out_before out_now (Err Memory) ends is = absurd cc
desk-unwritten before now out_before out_now (Err Read) ends is = absurd cc
desk-unwritten before now out_before out_now (Err Write) ends is = ends
