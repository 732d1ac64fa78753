-- The value that atoms stand for is one.
use Rattle.std.proofs.Common.{◌≡◌, ℕ, ℤ, Bool, List, [], ◌∷◌, refl, ap, sym, ◌∙◌, subst, arith}
use Rattle.std.specs.List.{AllZip}
use Rattle.nt_values.specs.declared.value.Value.{Value}
use Rattle.nt_values.specs.declared.value.Value.TheVariants as values
use Rattle.nt_values.specs.Types.{value_number}
use Rattle.nt_values.specs.Bits.{float_format, double_format}
use Rattle.nt_values.proofs.OneAnswer.{nearest_to_int-one, double_of_float-one, float_of_double-one}
use Rattle.nt_msgpack.specs.Atoms.{AtomValue, int, boolean, float32, float64, text, binary, array_head, map_head}
use Rattle.nt_frames.specs.Frames.{IsBool, IsDouble, IsInt, IsFloat, IsText, IsBinary, One, Each, Stand}

-- an atom stands for one value at most
abbrev IsSure : {X : Type 0} → (X → AtomValue → Type 0) → Type 0
IsSure {X} is = (x y : X) (atom : AtomValue) → is x atom → is y atom → x ≡ y

bool-sure : IsSure IsBool
bool-sure x y atom p q = cc

int-sure : IsSure IsInt
int-sure x y atom p q = cc

text-sure : IsSure IsText
text-sure x y atom p q = cc

binary-sure : IsSure IsBinary
binary-sure x y atom p q = cc

double-sure : IsSure IsDouble
double-sure x y (float64 bits) p q = p ∙ sym q
double-sure x y (float32 bits) p q = double_of_float-one bits x y p q
double-sure x y (int z) p q = nearest_to_int-one double_format z x y (omega arith) p q
double-sure x y (boolean b) p q = absurd p
double-sure x y (text bs) p q = absurd p
double-sure x y (binary bs) p q = absurd p
double-sure x y (array_head n) p q = absurd p
double-sure x y (map_head n) p q = absurd p

float-sure : IsSure IsFloat
float-sure x y (float64 bits) p q = float_of_double-one bits x y p q
float-sure x y (float32 bits) p q = p ∙ sym q
float-sure x y (int z) p q = nearest_to_int-one float_format z x y (omega arith) p q
float-sure x y (boolean b) p q = absurd p
float-sure x y (text bs) p q = absurd p
float-sure x y (binary bs) p q = absurd p
float-sure x y (array_head n) p q = absurd p
float-sure x y (map_head n) p q = absurd p

one-sure : {X : Type 0} (is : X → AtomValue → Type 0) → IsSure is → (x y : X) (w : List AtomValue) → One is x w
    → One is y w → x ≡ y
one-sure is sure x y w p q =
    let same : p.0 ≡ q.0 = (let e : p.0 ∷ [] ≡ q.0 ∷ [] = sym p.1 ∙ q.1 in cc) in
    sure x y q.0 (subst (λ a. is x a) same p.2) q.2

pairs-sure : {X : Type 0} (is : X → AtomValue → Type 0) → IsSure is → (xs ys : List X) (es : List AtomValue)
    → AllZip is xs es → AllZip is ys es → xs ≡ ys
pairs-sure is sure [] [] es p q = refl
pairs-sure is sure [] (y ∷ ys) [] p q = absurd q
pairs-sure is sure [] (y ∷ ys) (e ∷ es) p q = absurd p
pairs-sure is sure (x ∷ xs) [] [] p q = absurd p
pairs-sure is sure (x ∷ xs) [] (e ∷ es) p q = absurd q
pairs-sure is sure (x ∷ xs) (y ∷ ys) [] p q = absurd p
pairs-sure is sure (x ∷ xs) (y ∷ ys) (e ∷ es) p q =
    let first = sure x y e p.0 q.0 in let rest = pairs-sure is sure xs ys es p.1 q.1 in cc

each-sure : {X : Type 0} (is : X → AtomValue → Type 0) → IsSure is → (xs ys : List X) (w : List AtomValue)
    → Each is xs w → Each is ys w → xs ≡ ys
each-sure is sure xs ys w p q =
    let same : p.0 ≡ q.0 = (let e = sym p.1 ∙ q.1 in cc) in
    pairs-sure is sure xs ys q.0 (subst (λ es. AllZip is xs es) same p.2) q.2

-- ---- the variant of a value, by its number

as_bool : (v : Value) → value_number v ≡ 0 → (x : Bool) × (v ≡ values.Bool x)
as_bool (values.Bool x) e = (x, refl)
as_bool _ e = absurd (omega (arith, e))

as_double : (v : Value) → value_number v ≡ 1 → (x : ℕ) × (v ≡ values.Double x)
as_double (values.Double x) e = (x, refl)
as_double _ e = absurd (omega (arith, e))

as_int : (v : Value) → value_number v ≡ 2 → (x : ℤ) × (v ≡ values.Int x)
as_int (values.Int x) e = (x, refl)
as_int _ e = absurd (omega (arith, e))

as_float : (v : Value) → value_number v ≡ 3 → (x : ℕ) × (v ≡ values.Float x)
as_float (values.Float x) e = (x, refl)
as_float _ e = absurd (omega (arith, e))

as_text : (v : Value) → value_number v ≡ 4 → (x : List ℕ) × (v ≡ values.Text x)
as_text (values.Text x) e = (x, refl)
as_text _ e = absurd (omega (arith, e))

as_bytes : (v : Value) → value_number v ≡ 5 → (x : List ℕ) × (v ≡ values.Bytes x)
as_bytes (values.Bytes x) e = (x, refl)
as_bytes _ e = absurd (omega (arith, e))

as_bools : (v : Value) → value_number v ≡ 16 → (x : List Bool) × (v ≡ values.Bools x)
as_bools (values.Bools x) e = (x, refl)
as_bools _ e = absurd (omega (arith, e))

as_doubles : (v : Value) → value_number v ≡ 17 → (x : List ℕ) × (v ≡ values.Doubles x)
as_doubles (values.Doubles x) e = (x, refl)
as_doubles _ e = absurd (omega (arith, e))

as_ints : (v : Value) → value_number v ≡ 18 → (x : List ℤ) × (v ≡ values.Ints x)
as_ints (values.Ints x) e = (x, refl)
as_ints _ e = absurd (omega (arith, e))

as_floats : (v : Value) → value_number v ≡ 19 → (x : List ℕ) × (v ≡ values.Floats x)
as_floats (values.Floats x) e = (x, refl)
as_floats _ e = absurd (omega (arith, e))

as_texts : (v : Value) → value_number v ≡ 20 → (x : List (List ℕ)) × (v ≡ values.Texts x)
as_texts (values.Texts x) e = (x, refl)
as_texts _ e = absurd (omega (arith, e))

-- atoms stand for one value of a data type
pub stand-one : (v u : Value) (w : List AtomValue) → value_number u ≡ value_number v → Stand v w → Stand u w → v ≡ u
stand-one (values.Bool x) u w e p q =
    let k = as_bool u e in ap values.Bool (one-sure IsBool bool-sure x k.0 w p (subst (λ z. Stand z w) k.1 q)) ∙ sym k.1
stand-one (values.Double x) u w e p q =
    let k = as_double u e in ap values.Double (one-sure IsDouble double-sure x k.0 w p (subst (λ z. Stand z w) k.1 q))
    ∙ sym k.1
stand-one (values.Int x) u w e p q =
    let k = as_int u e in ap values.Int (one-sure IsInt int-sure x k.0 w p (subst (λ z. Stand z w) k.1 q)) ∙ sym k.1
stand-one (values.Float x) u w e p q =
    let k = as_float u e in ap values.Float (one-sure IsFloat float-sure x k.0 w p (subst (λ z. Stand z w) k.1 q))
    ∙ sym k.1
stand-one (values.Text x) u w e p q =
    let k = as_text u e in ap values.Text (one-sure IsText text-sure x k.0 w p (subst (λ z. Stand z w) k.1 q)) ∙ sym k.1
stand-one (values.Bytes x) u w e p q =
    let k = as_bytes u e in ap values.Bytes (one-sure IsBinary binary-sure x k.0 w p (subst (λ z. Stand z w) k.1 q))
    ∙ sym k.1
stand-one (values.Bools x) u w e p q =
    let k = as_bools u e in ap values.Bools (each-sure IsBool bool-sure x k.0 w p (subst (λ z. Stand z w) k.1 q))
    ∙ sym k.1
stand-one (values.Doubles x) u w e p q =
    let k = as_doubles u e in ap values.Doubles (each-sure IsDouble double-sure x k.0 w p
    (subst (λ z. Stand z w) k.1 q)) ∙ sym k.1
stand-one (values.Ints x) u w e p q =
    let k = as_ints u e in ap values.Ints (each-sure IsInt int-sure x k.0 w p (subst (λ z. Stand z w) k.1 q)) ∙ sym k.1
stand-one (values.Floats x) u w e p q =
    let k = as_floats u e in ap values.Floats (each-sure IsFloat float-sure x k.0 w p (subst (λ z. Stand z w) k.1 q))
    ∙ sym k.1
stand-one (values.Texts x) u w e p q =
    let k = as_texts u e in ap values.Texts (each-sure IsText text-sure x k.0 w p (subst (λ z. Stand z w) k.1 q))
    ∙ sym k.1
