-- What a client answers to calls.
use Rattle.std.proofs.Common.{◌≡◌, ◌≢◌, Option, Some, None, Result, Ok, Err, IfErr, OnOk, refl}
use Rattle.nt_client.specs.declared.fault.ClientFault.{ClientFault}
use Rattle.nt_client.specs.declared.fault.ClientFault.TheVariants.{Memory}

-- a call that is answered wasn't to be refused
pub call-counts : {A : Type 0} (r : Result A ClientFault) (fault : Option ClientFault)
    → ((f : ClientFault) → fault ≡ Some f → r ≡ Err f) → OnOk r (fault ≡ None)
call-counts (Ok a) None refused = refl
call-counts (Ok a) (Some f) refused = absurd (cc (refused f refl))
call-counts (Err e) fault refused = tt

-- one that is refused is so by its fault, or for want of memory
pub call-refused : {A : Type 0} (r : Result A ClientFault) (fault : Option ClientFault)
    → ((f : ClientFault) → fault ≡ Some f → r ≡ Err f) → (fault ≡ None → IfErr r (λ e. e ≡ Memory))
    → IfErr r (λ e. e ≢ Memory → fault ≡ Some e)
call-refused (Ok a) fault refused memory = tt
call-refused (Err e) None refused memory = λ other. absurd (other (memory refl))
call-refused (Err e) (Some f) refused memory = λ other. cc (refused f refl)
