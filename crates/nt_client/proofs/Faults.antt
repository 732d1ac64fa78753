-- Which calls of a client have a cause, by a test of what it has.
use Rattle.std.proofs.Common.{◌≡◌, ℤ, Bool, true, false, cond, Some, None, ◌∙◌, ap}
use Rattle.nt_values.specs.declared.value.Value.{Value}
use Rattle.nt_rules.specs.topics.Topics.{is_value_of}
use Rattle.nt_client.specs.declared.fault.ClientFault.TheVariants.{NoSuchUid, WrongType}
use Rattle.nt_client.specs.declared.publisher.Publisher.{Publisher}
use Rattle.nt_client.specs.Calls.{State, fault_of_value, publisher_of, set_fault}

-- a uid that is in use is the cause
pub none-free : {P E : Type 0} (used : Bool) (e f : E) → used ≡ false → cond used (Some e) None ≡ Some f → P
none-free true e f tested is = absurd (cc)
none-free false e f tested is = absurd (cc)

pub one-used : {P E : Type 0} (used : Bool) (e : E) → used ≡ true → cond used (Some e) None ≡ None → P
one-used true e tested is = absurd (cc)
one-used false e tested is = absurd (cc)

-- one that nothing has is the cause
pub none-used : {P E : Type 0} (used : Bool) (e f : E) → used ≡ true → cond used None (Some e) ≡ Some f → P
none-used true e f tested is = absurd (cc)
none-used false e f tested is = absurd (cc)

pub one-free : {P E : Type 0} (used : Bool) (e : E) → used ≡ false → cond used None (Some e) ≡ None → P
one-free true e tested is = absurd (cc)
one-free false e tested is = absurd (cc)

-- ---- a value

pub set-nowhere : (uid : ℤ) (value : Value) (c : State) → publisher_of uid c.publishers ≡ None
    → set_fault uid value c ≡ Some NoSuchUid
set-nowhere uid value c none = ap (fault_of_value value) none

pub set-unfit : (uid : ℤ) (value : Value) (c : State) (p : Publisher) → publisher_of uid c.publishers ≡ Some p
    → is_value_of p.typ value ≡ false → set_fault uid value c ≡ Some WrongType
set-unfit uid value c p found unfit =
    ap (fault_of_value value) found ∙ ap (λ (b : Bool). cond b None (Some WrongType)) unfit
