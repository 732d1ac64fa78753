-- What a step of reading answers, by where it stopped.
use Rattle.std.proofs.Common.{◌≡◌, length, Option, None, Some, Result, Ok, Err, IfOk, refl, sym, ap, subst, ◌∙◌}
use Rattle.std.specs.Prelude.{IfSome}
use Rattle.wpilog_read.specs.declared.item_at.ItemAt.{ItemAt}
use Rattle.wpilog_read.specs.declared.fault.LogKind.{LogKind}
use Rattle.wpilog_read.specs.declared.fault.NextFault.{NextFault}
use Rattle.wpilog_read.specs.declared.fault.NextFault.TheVariants.{Log, Memory}
use Rattle.wpilog_read.specs.declared.fault.ReadError.{ReadError}
use Rattle.wpilog_read.specs.declared.fault.ReadError.TheVariants as errors
use Rattle.wpilog_read.specs.declared.fault.Stop.{Stop}
use Rattle.wpilog_read.specs.declared.fault.Stop.TheVariants.{Wanting, Known}
use Rattle.wpilog_read.specs.Reading.{Fails}
use Rattle.wpilog_read.specs.Run.{Reading, after_header, record_next, next_of, settle, offset_of, at_offset, broken}
use Rattle.wpilog_read.proofs.Runs.{settle-ok, settle-err, settle-settle, Steps}

-- an item that is read after the header
pub item-next : (r m n : Reading) (x : ItemAt) → after_header r ≡ Ok m → record_next m ≡ Ok (x, n) → next_of r ≡ Ok (x, n)
unfolding next_of
item-next r m n x opened read = rw opened read

-- an error where the header is read is that of the step
header-fails : (r : Reading) (error : ReadError) → Fails error (after_header r) → Fails error (next_of r)
unfolding next_of
header-fails r errors.Memory fails = tt
header-fails r (errors.Stop stop) fails = rw fails refl

-- and one where a record is read
record-fails : (r m : Reading) (error : ReadError) → after_header r ≡ Ok m → Fails error (record_next m)
    → Fails error (next_of r)
unfolding next_of
record-fails r m errors.Memory opened fails = tt
record-fails r m (errors.Stop stop) opened fails = rw opened fails

-- a step stopped where the reader then stands
pub record StopsBy (r m : Reading) (error : ReadError) : Type 0 where
  pub fails : Fails error (next_of r)
  pub same : settle m ≡ settle r
  pub settled : (stop : Stop) → error ≡ errors.Stop stop → m ≡ settle r

-- at the header
pub stops-header : (r m : Reading) (error : ReadError) → Fails error (after_header r) → m ≡ r → StopsBy r m error
stops-header r m error fails same = record {
  fails = header-fails r error fails;
  same = ap settle same;
  settled = λ stop is. same
      ∙ sym (settle-err r stop (subst (λ (w : ReadError). Fails w (after_header r)) is fails));
}

-- at a record
pub stops-record : (r m n : Reading) (error : ReadError) → after_header r ≡ Ok m → Fails error (record_next m) → n ≡ m
    → StopsBy r n error
stops-record r m n error opened fails same = record {
  fails = record-fails r m error opened fails;
  same = ap settle (same ∙ sym (settle-ok r m opened)) ∙ settle-settle r;
  settled = λ stop is. same ∙ sym (settle-ok r m opened);
}

-- what is answered then, and where the reader goes
pub record Answers (m n : Reading) (error : ReadError) (result : Result (Option ItemAt) NextFault) : Type 0 where
  pub memory : error ≡ errors.Memory → (result ≡ Err Memory) × (n ≡ m)
  pub wanting : error ≡ errors.Stop Wanting → (result ≡ Ok None) × (n ≡ m)
  pub known : (kind : LogKind) → error ≡ errors.Stop (Known kind)
      → (result ≡ Err (Log (at_offset m kind))) × (n ≡ broken (at_offset m kind) m)

-- it answers the next item
pub answers-steps : (r m n : Reading) (error : ReadError) (result : Result (Option ItemAt) NextFault)
    → StopsBy r m error → Answers m n error result → Steps r n result
answers-steps r m n errors.Memory result stops answers =
    let a = answers.memory refl in
    subst (λ (w : Result (Option ItemAt) NextFault). Steps r n w) (sym a.0) (record {
      item = tt;
      none = tt;
      fault = ap settle a.1 ∙ stops.same;
    })
answers-steps r m n (errors.Stop Wanting) result stops answers =
    let a = answers.wanting refl in
    subst (λ (w : Result (Option ItemAt) NextFault). Steps r n w) (sym a.0) (record {
      item = tt;
      none = (stops.fails, a.1 ∙ stops.settled Wanting refl);
      fault = tt;
    })
answers-steps r m n (errors.Stop (Known kind)) result stops answers =
    let a = answers.known kind refl in
    let at = stops.settled (Known kind) refl in
    subst (λ (w : Result (Option ItemAt) NextFault). Steps r n w) (sym a.0) (record {
      item = tt;
      none = tt;
      fault = (
        stops.fails,
        ap (λ (w : Reading). offset_of w kind) at,
        a.1 ∙ ap (λ (w : Reading). broken (at_offset m kind) w) at,
      );
    })

-- and the reader keeps its offset and its bytes, and gives nothing
pub record Stays (m n : Reading) (result : Result (Option ItemAt) NextFault) : Type 0 where
  pub at : n.at ≡ m.at
  pub len : length n.rest ≡ length m.rest
  pub none : IfOk result (λ o. o ≡ None)

pub answers-stay : (m n : Reading) (error : ReadError) (result : Result (Option ItemAt) NextFault)
    → Answers m n error result → Stays m n result
answers-stay m n errors.Memory result answers =
    let a = answers.memory refl in
    subst (λ (w : Result (Option ItemAt) NextFault). Stays m n w) (sym a.0) (record {
      at = ap (λ (w : Reading). w.at) a.1;
      len = ap (λ (w : Reading). length w.rest) a.1;
      none = tt;
    })
answers-stay m n (errors.Stop Wanting) result answers =
    let a = answers.wanting refl in
    subst (λ (w : Result (Option ItemAt) NextFault). Stays m n w) (sym a.0) (record {
      at = ap (λ (w : Reading). w.at) a.1;
      len = ap (λ (w : Reading). length w.rest) a.1;
      none = refl;
    })
answers-stay m n (errors.Stop (Known kind)) result answers =
    let a = answers.known kind refl in
    subst (λ (w : Result (Option ItemAt) NextFault). Stays m n w) (sym a.0) (record {
      at = ap (λ (w : Reading). w.at) a.1;
      len = ap (λ (w : Reading). length w.rest) a.1;
      none = tt;
    })

-- where nothing is given nothing is said of it
pub none-given : (result : Result (Option ItemAt) NextFault) (P : Type 0) → IfOk result (λ o. o ≡ None)
    → IfOk result (λ o. IfSome o (λ _. P))
none-given (Ok (Some x)) P none = absurd cc
none-given (Ok None) P none = tt
none-given (Err e) P none = tt
