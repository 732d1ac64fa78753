-- As a hall opens and closes.
--     begins-standing     a server without entries stands for what is told as the hall opens
--     is-off          each recorder is off
--     as-opened       what the type keeps of a recorder
--     ends            what there is at the end
use Rattle.std.proofs.Common.{◌≡◌, ℕ, List, [], sym, refl, ap, ◌∙◌, subst, Bool, false}
use Rattle.std.specs.Prelude.{Option, IfSome}
use Rattle.nt_rules.specs.declared.act.Entry.{Entry}
use Rattle.nt_rules.specs.declared.start.Start.{Start}
use Rattle.nt_rules.specs.history.Order.{origin_in}
use Rattle.nt_rules.specs.history.Step.{ServerState, Represents}
use Rattle.nt_laws.proofs.histories.Origins.{origin_is}
use Rattle.nt_lock.proofs.Lists.{if-some}
use Rattle.nt_lock.specs.declared.view.Kept.{Kept}
use Rattle.nt_lock.specs.declared.view.Origin.{Origin}
use Rattle.nt_lock.specs.Seats.{SeatView, Closes}
use Rattle.nt_record.specs.Recording.{Recording}
use Rattle.nt_record.specs.declared.recorder.RecState.{RecState}
use Rattle.nt_record.specs.declared.recorder.RecState.TheVariants.{Off}
use Rattle.nt_hall.specs.Histories.{StandsFor}
use Rattle.nt_hall.specs.Turns.{IsAsOpened, Ends}

pub begins-standing : (server first : ServerState) (told : Option (List Entry)) → first ≡ server
    → ((start : Start) × Represents server start []) → IfSome told (λ list. list ≡ [])
    → IfSome told (StandsFor server (origin_in first))
begins-standing server first told same s empty =
    let start : origin_in first ≡ s.0 = ap origin_in same ∙ origin_is server s.0 s.1 in
    if-some told empty
    (λ list _ is.
    subst (StandsFor server (origin_in first)) (sym is)
    (subst (λ start. Represents server start []) (sym start) s.1))

pub is-off : (s : RecState) → s ≡ Off
is-off Off = refl

pub as-opened : {S : Type 0} (taken : S → Option (List ℕ)) (faults : S → ℕ) (origin : Origin)
    (opened recorder : Recording S) → (opened.state ≡ Off → recorder ≡ opened) → origin.taken ≡ taken opened.sink
    → origin.faults ≡ faults opened.sink → IsAsOpened taken faults origin recorder
as-opened {S} taken faults origin opened recorder same t f off =
    let is : recorder ≡ opened = same (is-off opened.state) in
    (ap (λ (r : Recording S). taken r.sink) is ∙ sym t, ap (λ (r : Recording S). faults r.sink) is ∙ sym f)

pub ends : {S : Type 0} (taken : S → Option (List ℕ)) (faults : S → ℕ) (seats : List SeatView) (server : ServerState)
    (k : Kept) (told : Option (List Entry)) (count : ℕ) (recorder : Recording S) (failed : Bool) → Closes seats k
    → told ≡ k.told → count ≡ k.count → failed ≡ k.failed
    → (failed ≡ false → IfSome told (StandsFor server k.origin.start)) → IsAsOpened taken faults k.origin recorder
    → Ends taken faults seats server told count recorder failed
ends taken faults seats server k told count recorder failed closes told-is count-is failed-is stands recorded =
    let same : k ≡ record { origin = k.origin; told = told; count = count; failed = failed } =
    λ i. record { origin = k.origin; told = sym told-is i; count = sym count-is i; failed = sym failed-is i } in
    record { origin = k.origin; closes = subst (Closes seats) same closes; stands = stands; recorded = recorded }
