-- Atoms appended one after another.
use Rattle.std.proofs.Common.{◌≡◌, ℕ, ◌+◌, ◌<◌, Bool, true, false, List, [], ◌∷◌, ◌++◌, length, ap, ◌∙◌, append_assoc, length-append, nat_lt, arith, if◌then◌else◌, codes}
use Rattle.std.specs.Int.{w16, w32, to_be_bytes}
use Rattle.std.proofs.lemmas.Grind.{flat_map-append}
use Rattle.nt_msgpack.specs.Atoms.{text, boolean, map_head, shortest, head_spelling}
use Rattle.nt_subs.specs.declared.sub.Options.{Options}
use Rattle.nt_rules.specs.meta.Elements.{spelled, option_name, option_pairs, options_atoms, true_options}

-- a head has a byte at least
head-some : (n alone two four : ℕ) → 0 < length (head_spelling n alone two four)
head-some n alone two four = by (nat_lt n 16) (nat_lt n 0x1_0000)
  where
    by : (a b : Bool) → 0 < length
        (if a then (alone + n) ∷ [] else if b then two ∷ to_be_bytes w16 n else four ∷ to_be_bytes w32 n)
    by true b = omega arith
    by false true = omega arith
    by false false = omega arith

pub map-more : (n : ℕ) (xs ys : List ℕ) → ys ≡ xs ++ shortest (map_head n) → length xs < length ys
unfolding shortest
map-more n xs ys e =
    let some = head-some n 0x80 0xde 0xdf in
    let count : length ys ≡ length xs + length (head_spelling n 0x80 0xde 0xdf) =
    ap length e ∙ length-append xs (head_spelling n 0x80 0xde 0xdf) in
    omega arith

-- options, list by list
pairs-append : (a b : List (List ℕ)) → spelled (option_pairs (a ++ b)) ≡ spelled (option_pairs a)
    ++ spelled (option_pairs b)
pairs-append a b = ap spelled (flat_map-append (λ name. text name ∷ boolean true ∷ []) a b)
    ∙ flat_map-append shortest (option_pairs a) (option_pairs b)

pub options-put : (options : Options) (o0 o1 o2 o3 o4 : List ℕ) (n : ℕ) → n ≡ length (true_options options)
    → o1 ≡ o0 ++ shortest (map_head n)
    → o2 ≡ o1 ++ spelled (option_pairs (option_name (codes "all") options.all))
    → o3 ≡ o2 ++ spelled (option_pairs (option_name (codes "prefix") options.prefix))
    → o4 ≡ o3 ++ spelled (option_pairs (option_name (codes "topicsonly") options.topicsonly))
    → o4 ≡ o0 ++ spelled (options_atoms options)
options-put options o0 o1 o2 o3 o4 n count e1 e2 e3 e4 =
    let all = option_name (codes "all") options.all in
    let prefix = option_name (codes "prefix") options.prefix in
    let topics = option_name (codes "topicsonly") options.topicsonly in
    let pairs : spelled (option_pairs (all ++ (prefix ++ topics)))
    ≡ spelled (option_pairs all) ++ (spelled (option_pairs prefix) ++ spelled (option_pairs topics)) =
    pairs-append all (prefix ++ topics) ∙ ap (λ z. spelled (option_pairs all) ++ z)
    (pairs-append prefix topics) in
    rw (e4, e3, e2, e1, count, pairs) (simp append_assoc)
