-- The items of a generated log, and how long they are.
use Rattle.std.proofs.Common.{◌≡◌, ℕ, suc, ◌+◌, ◌-◌, ◌^◌, ◌<◌, ◌≤◌, List, [], ◌∷◌, ◌++◌, length, refl, sym, ap, ◌∙◌, arith, append_assoc, length-append}
use Rattle.std.specs.Prelude.{ℤ, pos}
use Rattle.std.specs.List.{flat_map}
use Rattle.std.specs.Int.{w32, w64, to_le_bytes, cast_unsigned}
use Rattle.std.proofs.lemmas.List.{flat_map_more}
use Rattle.std.proofs.lemmas.Grind.{flat_map-append}
use Rattle.rand_core.specs.Steps.{first_words}
use Rattle.rand_pcg.specs.Lcg.{Lcg}
use Rattle.rand_pcg.specs.Pcg.{pcg32}
use Rattle.wpilog_write.specs.declared.item.LogItem.{LogItem}
use Rattle.wpilog_write.specs.declared.item.LogItem.TheVariants.{Value}
use Rattle.wpilog_write.specs.declared.item.LogValue.TheVariants.{Int64}
use Rattle.wpilog_write.specs.Written.{int64, header_of, record_of, log_text, least}
use Rattle.wpilog_write.proofs.Numbers.{length-bytes, least-fewest}
use Rattle.wpilog_write.proofs.Records.{with-length}
use Rattle.nt_gen.specs.Generated.{generator, words, start, values_from, values, finish, gen_items, generated}
use Rattle.nt_gen.specs.Parts.{begun, value_record, last_record}
use Rattle.nt_gen.proofs.Words.{state_at, state-more, words-more, words-parts, words-length}

-- ---- values

-- values one after another
values-parts : (time : ℕ) (first rest : List ℕ)
    → values_from time (first ++ rest) ≡ values_from time first ++ values_from (time + length first) rest
values-parts time [] rest = ap (λ (t : ℕ). values_from t rest) (omega arith)
values-parts time (word ∷ first) rest =
    let later : time + 1 + length first ≡ time + suc (length first) = omega arith in
    ap (λ (w : List LogItem). Value time 1 (Int64 (pos word)) ∷ w) (values-parts (time + 1) first rest
    ∙ ap (λ (t : ℕ). values_from (time + 1) first ++ values_from t rest) later)

values-length : (time : ℕ) (words : List ℕ) → length (values_from time words) ≡ length words
values-length time [] = refl
values-length time (word ∷ words) = ap suc (values-length (time + 1) words)

-- the word after so many
pub word_at : ℕ → ℕ → ℕ
word_at seed k = (pcg32 (state_at pcg32 k (generator seed))).0

pub word-is : (seed k : ℕ) → word_at seed k ≡ (pcg32 (state_at pcg32 k (generator seed))).0
unfolding word_at
word-is seed k = refl

-- one value more
values-more : (seed k : ℕ) → values seed (k + 1) ≡ values seed k ++ Value (k + 1) 1 (Int64 (pos (word_at seed k))) ∷ []
unfolding word_at
values-more seed k =
    let word = (pcg32 (state_at pcg32 k (generator seed))).0 in
    let next : k + 1 ≡ suc k = omega arith in
    let many : 1 + length (words seed k) ≡ k + 1 = omega (arith, words-length Lcg pcg32 k (generator seed)) in
    ap (λ (n : ℕ). values seed n) next ∙ ap (values_from 1) (words-more Lcg pcg32 k (generator seed))
    ∙ values-parts 1 (words seed k) (word ∷ [])
    ∙ ap (λ (t : ℕ). values seed k ++ Value t 1 (Int64 (pos word)) ∷ []) many

-- ---- logs

-- before the first value
pub begun-none : (seed : ℕ) → begun seed 0 ≡ log_text (start ∷ [])
unfolding begun first_words
begun-none seed = refl

-- one value more
pub begun-more : (seed k : ℕ) → begun seed k ++ value_record (k + 1) (word_at seed k) ≡ begun seed (k + 1)
unfolding begun value_record
begun-more seed k =
    let item : LogItem = Value (k + 1) 1 (Int64 (pos (word_at seed k))) in
    flat_map_more record_of (header_of []) (start ∷ values seed k) item
    ∙ ap (λ (w : List LogItem). log_text (start ∷ w)) (sym (values-more seed k))

-- and the end
pub begun-end : (seed count : ℕ) → begun seed count ++ last_record count ≡ generated seed count
unfolding begun last_record generated
begun-end seed count = flat_map_more record_of (header_of []) (start ∷ values seed count) (finish count)

-- the first values of a log, and what stands behind them
pub log-begins : (seed k count : ℕ) → k ≤ count → (rest : List ℕ) × (generated seed count ≡ begun seed k ++ rest)
unfolding begun generated
log-begins seed k count within =
    let g = generator seed in
    let others = first_words pcg32 (count - k) (state_at pcg32 k g) in
    let later = values_from (1 + length (words seed k)) others in
    let all : k + (count - k) ≡ count = omega arith in
    let parts : values seed count ≡ values seed k ++ later =
    ap (λ (n : ℕ). values seed n) (sym all) ∙ ap (values_from 1) (words-parts Lcg pcg32 k (count - k) g)
    ∙ values-parts 1 (words seed k) others in
    let items : gen_items seed count ≡ (start ∷ values seed k) ++ (later ++ finish count ∷ []) =
    ap (λ (w : List LogItem). start ∷ (w ++ finish count ∷ [])) parts
    ∙ ap (λ (w : List LogItem). start ∷ w) (append_assoc (values seed k) later (finish count ∷ [])) in (
      flat_map record_of (later ++ finish count ∷ []),
      ap log_text items
          ∙ ap (λ (w : List ℕ). header_of [] ++ w)
          (flat_map-append record_of (start ∷ values seed k) (later ++ finish count ∷ []))
          ∙ sym (append_assoc (header_of []) (flat_map record_of (start ∷ values seed k))
          (flat_map record_of (later ++ finish count ∷ []))),
    )

-- how many items it has
pub items-length : (seed count : ℕ) → length (gen_items seed count) ≡ count + 2
items-length seed count = omega (
  arith,
  length-append (start ∷ values seed count) (finish count ∷ []),
  values-length 1 (words seed count),
  words-length Lcg pcg32 count (generator seed),
)

-- ---- bytes

int64-length : (n : ℤ) → length (int64 n) ≡ 8
unfolding int64
int64-length n = length-bytes 0 8 (cast_unsigned w64 n)

-- the record of a value is short
pub item-short : (time : ℕ) (n : ℤ) → time < 2 ^ 64 → length (record_of (Value time 1 (Int64 n))) ≤ 40
item-short time n fits =
    let eight = int64-length n in
    let size : least (length (int64 n)) ≡ 1 = ap least eight in
    omega (arith, with-length 1 time (int64 n), eight, size, least-fewest 8 time (omega arith) fits)

pub value-short : (time word : ℕ) → time < 2 ^ 64 → length (value_record time word) ≤ 40
unfolding value_record
value-short time word fits = item-short time (pos word) fits

pub last-short : (count : ℕ) → count < 2 ^ 32 → length (last_record count) ≤ 40
unfolding last_record
last-short count fits = omega (
  arith,
  with-length 0 (count + 1) (1 ∷ to_le_bytes w32 1),
  least-fewest 8 (count + 1) (omega arith) (omega (arith, fits)),
)

-- ---- one word more

pub step-more : (seed k word : ℕ) (old new : Lcg) → (word, new) ≡ pcg32 old
    → old ≡ state_at pcg32 k (generator seed)
    → (begun seed k ++ value_record (k + 1) word ≡ begun seed (k + 1))
    × (new ≡ state_at pcg32 (k + 1) (generator seed))
step-more seed k word old new step at =
    let next : k + 1 ≡ suc k = omega arith in
    let drawn : word ≡ word_at seed k = ap (λ (p : ℕ × Lcg). p.0) step ∙ ap (λ (s : Lcg). (pcg32 s).0) at
    ∙ sym (word-is seed k) in (
      ap (λ (w : ℕ). begun seed k ++ value_record (k + 1) w) drawn ∙ begun-more seed k,
      ap (λ (p : ℕ × Lcg). p.1) step ∙ ap (λ (s : Lcg). (pcg32 s).1) at
          ∙ sym (state-more Lcg pcg32 k (generator seed))
          ∙ ap (λ (n : ℕ). state_at pcg32 n (generator seed)) (sym next),
    )
