-- The frames of values spell the values in their order, and are short enough or of one value.
use Rattle.std.proofs.Common.{◌≡◌, ℕ, ◌+◌, ◌≤◌, Bool, true, false, List, [], ◌∷◌, ◌++◌, length, refl, ap, ◌∙◌, append_assoc, length-append, arith, rules, cond, inl, inr}
use Rattle.std.specs.List.{AllByRecursion, flat_map}
use Rattle.nt_frames.specs.declared.message.ValueMsg.{ValueMsg}
use Rattle.nt_frames.specs.Frames.{spelling_of, frame_of}
use Rattle.nt_link.specs.declared.frame.Frame.TheVariants as frames
use Rattle.nt_session.specs.Laid.{most_bytes, is_apart, begun_frame, frames_behind, bytes_in, IsFit, IsFitFor}

whole-begun : (begun : List ℕ) → flat_map bytes_in (begun_frame begun) ≡ begun ++ []
whole-begun [] = refl
whole-begun (byte ∷ bytes) = refl

whole-behind : (begun : List ℕ) (values : List ValueMsg)
    → flat_map bytes_in (frames_behind begun values) ≡ begun ++ frame_of values
whole-behind begun [] = whole-begun begun
whole-behind begun (value ∷ values) =
    by (is_apart begun value) (whole-behind (spelling_of value) values)
    (whole-behind (begun ++ spelling_of value) values)
  where
    by : (b : Bool)
        → flat_map bytes_in (frames_behind (spelling_of value) values) ≡ spelling_of value ++ frame_of values
        → flat_map bytes_in (frames_behind (begun ++ spelling_of value) values)
        ≡ (begun ++ spelling_of value) ++ frame_of values
        → flat_map bytes_in (cond b (frames.Binary begun ∷ frames_behind (spelling_of value) values)
        (frames_behind (begun ++ spelling_of value) values))
        ≡ begun ++ frame_of (value ∷ values)
    by true next joined = ap (λ z. begun ++ z) next
    by false next joined = joined ∙ append_assoc begun (spelling_of value) (frame_of values)

pub laid-whole : (values : List ValueMsg) → flat_map bytes_in (frames_behind [] values) ≡ frame_of values
laid-whole values = whole-behind [] values

-- a frame with one value more, where it isn't apart
fit-joined : (begun : List ℕ) (value : ValueMsg) → is_apart begun value ≡ false → IsFitFor (begun ++ spelling_of value)
fit-joined [] value e = inr (value, refl)
fit-joined (byte ∷ bytes) value e =
    let n : length ((byte ∷ bytes) ++ spelling_of value) ≡ length (byte ∷ bytes) + length (spelling_of value) =
    length-append (byte ∷ bytes) (spelling_of value) in
    let within : length (byte ∷ bytes) + length (spelling_of value) ≤ most_bytes = search (rules, e) in
    inl (omega (arith, within, n))

fit-begun : (begun : List ℕ) → IsFitFor begun → AllByRecursion IsFit (begun_frame begun)
fit-begun [] h = tt
fit-begun (byte ∷ bytes) h = (h, tt)

fit-behind : (begun : List ℕ) (values : List ValueMsg) → IsFitFor begun
    → AllByRecursion IsFit (frames_behind begun values)
fit-behind begun [] h = fit-begun begun h
fit-behind begun (value ∷ values) h =
    by (is_apart begun value) refl (fit-behind (spelling_of value) values (inr (value, refl)))
    (λ j. fit-behind (begun ++ spelling_of value) values j)
  where
    by : (b : Bool) → is_apart begun value ≡ b
        → AllByRecursion IsFit (frames_behind (spelling_of value) values)
        → (IsFitFor (begun ++ spelling_of value)
        → AllByRecursion IsFit (frames_behind (begun ++ spelling_of value) values))
        → AllByRecursion IsFit (cond b (frames.Binary begun ∷ frames_behind (spelling_of value) values)
        (frames_behind (begun ++ spelling_of value) values))
    by true e next joined = (h, next)
    by false e next joined = joined (fit-joined begun value e)

pub laid-fit : (values : List ValueMsg) → AllByRecursion IsFit (frames_behind [] values)
laid-fit values = fit-behind [] values (inl (omega arith))
