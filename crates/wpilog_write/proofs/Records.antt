-- Records in their shortest spelling, by the grammar.
use Rattle.std.proofs.Common.{◌≡◌, ℕ, ◌+◌, ◌-◌, ◌*◌, ◌^◌, ◌<◌, ◌≤◌, List, [], ◌∷◌, ◌++◌, length, refl, ap, subst, arith, append_assoc}
use Rattle.std.proofs.lemmas.List.{length-append, take_at}
use Rattle.std.proofs.lemmas.List.Elements.{All-tail, All-take}
use Rattle.wpilog_write.specs.Log.{number, IsBitfield, Fields, IsRecord}
use Rattle.wpilog_write.specs.Written.{least, shortest, record_with}
use Rattle.wpilog_write.specs.Fits.{AreBytes}
use Rattle.wpilog_write.proofs.Numbers.{number-below, least-some, least-fewest, shortest-length, shortest-number}

-- ---- what is written is a record

-- the first byte tells the three lengths
bitfield-is : (e s t a b c : ℕ) → e ≡ a → s ≡ b → t ≡ c → 1 ≤ a → a ≤ 4 → 1 ≤ b → b ≤ 4 → 1 ≤ c → c ≤ 8
    → IsBitfield ((a - 1) + 4 * (b - 1) + 16 * (c - 1)) e s t
bitfield-is e s t a b c e_is s_is t_is a_some a_most b_some b_most c_some c_most = record {
  entry_is = omega arith;
  size_is = omega arith;
  time_is = omega arith;
  clear = omega arith;
}

-- the bytes of a record with these fields
pub with-is : (entry time : ℕ) (payload : List ℕ) → entry < 2 ^ 32 → length payload < 2 ^ 32 → time < 2 ^ 64
    → IsRecord (record_with entry time payload) (record { entry = entry; time = time; payload = payload })
with-is entry time payload entry_fits size_fits time_fits =
    let size = length payload in
    let first = (least entry - 1) + 4 * (least size - 1) + 16 * (least time - 1) in
    record {
      head = first ∷ (shortest entry ++ (shortest size ++ shortest time));
      head_is = record {
        first = first;
        entry = shortest entry;
        size = shortest size;
        time = shortest time;
        first_is = bitfield-is _ _ _ (least entry) (least size) (least time) (shortest-length entry)
            (shortest-length size) (shortest-length time)
            (least-some entry) (least-fewest 4 entry (omega arith) entry_fits)
            (least-some size) (least-fewest 4 size (omega arith) size_fits)
            (least-some time) (least-fewest 8 time (omega arith) time_fits);
        entry_is = shortest-number entry (omega arith);
        size_is = shortest-number size (omega arith);
        time_is = shortest-number time time_fits;
        whole = refl;
      };
      whole = ap (λ (w : List ℕ). first ∷ w)
          (regroup (shortest entry) (shortest size) (shortest time) payload);
    } where
      regroup : (a b c d : List ℕ) → a ++ (b ++ (c ++ d)) ≡ (a ++ (b ++ c)) ++ d
      regroup a b c d = simp append_assoc

-- ---- no record has fewer bytes

-- the first of two lists of bytes, and the second
pub bytes-front : (xs ys : List ℕ) → AreBytes (xs ++ ys) → AreBytes xs
bytes-front xs ys are = subst AreBytes (take_at xs ys (length xs) refl)
    (All-take (λ b. b < 256) (length xs) (xs ++ ys) are)

pub bytes-behind : (xs ys : List ℕ) → AreBytes (xs ++ ys) → AreBytes ys
bytes-behind [] ys are = are
bytes-behind (x ∷ xs) ys are = bytes-behind xs ys (All-tail (λ b. b < 256) x (xs ++ ys) are)

-- how long a record is
pub with-length : (entry time : ℕ) (payload : List ℕ) → length (record_with entry time payload)
    ≡ 1 + least entry + least (length payload) + least time + length payload
with-length entry time payload =
    let size = length payload in
    omega (
      arith,
      length-append (shortest entry) (shortest size ++ (shortest time ++ payload)),
      length-append (shortest size) (shortest time ++ payload),
      length-append (shortest time) payload,
      shortest-length entry,
      shortest-length size,
      shortest-length time,
    )

-- bytes that spell a number are as many as it needs
spelling-long : (bytes : List ℕ) (n : ℕ) → AreBytes bytes → number bytes ≡ n → 1 ≤ length bytes
    → least n ≤ length bytes
spelling-long bytes n are is some = least-fewest (length bytes) n some
    (subst (λ (w : ℕ). w < 256 ^ length bytes) is (number-below bytes are))

-- a record is as long as what its fields need
pub record-long : (bytes : List ℕ) (fields : Fields) → AreBytes bytes → IsRecord bytes fields
    → length (record_with fields.entry fields.time fields.payload) ≤ length bytes
record-long bytes fields are is =
    let head = is.head_is in
    let fits = head.first_is in
    let all : AreBytes (is.head ++ fields.payload) = subst AreBytes is.whole are in
    let before : AreBytes (head.first ∷ (head.entry ++ (head.size ++ head.time))) =
    subst AreBytes head.whole (bytes-front is.head fields.payload all) in
    let numbers : AreBytes (head.entry ++ (head.size ++ head.time)) =
    All-tail (λ b. b < 256) head.first (head.entry ++ (head.size ++ head.time)) before in
    let later : AreBytes (head.size ++ head.time) = bytes-behind head.entry (head.size ++ head.time) numbers in
    let e : least fields.entry ≤ length head.entry = spelling-long head.entry fields.entry
    (bytes-front head.entry (head.size ++ head.time) numbers) head.entry_is (omega (arith, fits.entry_is)) in
    let s : least (length fields.payload) ≤ length head.size = spelling-long head.size (length fields.payload)
    (bytes-front head.size head.time later) head.size_is (omega (arith, fits.size_is)) in
    let t : least fields.time ≤ length head.time = spelling-long head.time fields.time
    (bytes-behind head.size head.time later) head.time_is (omega (arith, fits.time_is)) in
    omega (
      arith,
      with-length fields.entry fields.time fields.payload,
      ap length is.whole,
      length-append is.head fields.payload,
      ap length head.whole,
      length-append head.entry (head.size ++ head.time),
      length-append head.size head.time,
      e,
      s,
      t,
    )
