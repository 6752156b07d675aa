-- A choice of two vectors of signed lanes, lane by lane. The vectors hold the bits of the lanes.
use Rattle.std.proofs.Common.{◌≡◌, ℕ, zero, suc, ◌^◌, ◌*◌, ◌<◌, ◌==◌, ℤ, pos, List, [], ◌∷◌, Bool, true, false, not, nat_eq, bit_and, cond, map, refl, ap, sym, ◌∙◌, length, get_or, w32, arith, pow_pos}
use Rattle.std.proofs.lemmas.Bool.{ne_eqb}
use Rattle.std.proofs.lemmas.Int.{ints, to_z-of_z}
use Rattle.std.proofs.lemmas.Nat.Bits.{and_pow, bit_at-lt}
use Rattle.std.proofs.lemmas.Simd.{put_chunk_whole, length-zip2}
use Rattle.std.specs.Int.{bit_at, int_min, int_max}
use Rattle.std.specs.Simd.Lanes.{Each1, zip2, sel_l, top, put_chunk}
use lib.Signed.{lt_z}
use mir.Val.{SFits, to_z, of_z}
use Rattle.tl_lanes.specs.Lanes.{lesser, greater, by_bit}

-- all bits where the first of two numbers is the lesser
abbrev pub less : ℕ → ℕ → ℕ
less m n = cond (lt_z (to_z w32 m) (to_z w32 n)) 4294967295 0

lesser-lane : (y z : ℤ) → SFits w32 y → SFits w32 z → to_z w32 (cond (top 31 (less (of_z w32 y) (of_z w32 z))) (of_z w32 y) (of_z w32 z)) ≡ lesser y z
lesser-lane y z f g = grind (arith, ints, to_z-of_z)

greater-lane : (y z : ℤ) → SFits w32 y → SFits w32 z → to_z w32 (cond (top 31 (less (of_z w32 y) (of_z w32 z))) (of_z w32 z) (of_z w32 y)) ≡ greater y z
greater-lane y z f g = grind (arith, ints, to_z-of_z)

-- the lanes of the first where they are less than those of the second, else those of the second
abbrev lower : List ℤ → List ℤ → List ℤ
lower ys zs = map (to_z w32) (sel_l (map (top 31) (zip2 less (map (of_z w32) ys) (map (of_z w32) zs))) (map (of_z w32) ys) (map (of_z w32) zs))

abbrev upper : List ℤ → List ℤ → List ℤ
upper ys zs = map (to_z w32) (sel_l (map (top 31) (zip2 less (map (of_z w32) ys) (map (of_z w32) zs))) (map (of_z w32) zs) (map (of_z w32) ys))

pub lower-lesser : (ys zs : List ℤ) → Each1 (SFits w32) ys → Each1 (SFits w32) zs → lower ys zs ≡ zip2 lesser ys zs
lower-lesser [] zs f g = refl
lower-lesser (y ∷ ys) [] f g = refl
lower-lesser (y ∷ ys) (z ∷ zs) f g = λ i. lesser-lane y z f.0 g.0 i ∷ lower-lesser ys zs f.1 g.1 i

pub upper-greater : (ys zs : List ℤ) → Each1 (SFits w32) ys → Each1 (SFits w32) zs → upper ys zs ≡ zip2 greater ys zs
upper-greater [] zs f g = refl
upper-greater (y ∷ ys) [] f g = refl
upper-greater (y ∷ ys) (z ∷ zs) f g = λ i. greater-lane y z f.0 g.0 i ∷ upper-greater ys zs f.1 g.1 i

-- the same, stored over the first
stored : (f : ℤ → ℤ → ℤ) (xs ys zs : List ℤ) → length xs ≡ length ys → zs ≡ zip2 f xs ys → put_chunk 0 xs zs ≡ zip2 f xs ys
stored f xs ys zs same is = put_chunk_whole xs zs (omega (arith, ap length is, length-zip2 f xs ys same)) ∙ is

pub stored-lesser : (a b left right : List ℤ) → length a ≡ length b → left ≡ a → right ≡ b → Each1 (SFits w32) left → Each1 (SFits w32) right
    → put_chunk 0 a (lower left right) ≡ zip2 lesser a b
stored-lesser a b left right same p q f g = stored lesser a b (lower left right) same (lower-lesser left right f g ∙ (λ i. zip2 lesser (p i) (q i)))

pub stored-greater : (a b left right : List ℤ) → length a ≡ length b → left ≡ a → right ≡ b → Each1 (SFits w32) left → Each1 (SFits w32) right
    → put_chunk 0 a (upper left right) ≡ zip2 greater a b
stored-greater a b left right same p q f g = stored greater a b (upper left right) same (upper-greater left right f g ∙ (λ i. zip2 greater (p i) (q i)))

-- the same of two numbers that are passed as their bits
pub lesser-passed : (y z r : ℤ) → SFits w32 y → SFits w32 z → r ≡ int_min (to_z w32 (of_z w32 y)) (to_z w32 (of_z w32 z)) → to_z w32 (of_z w32 r) ≡ lesser y z
lesser-passed y z r f g is = grind (arith, ints, to_z-of_z)

pub greater-passed : (y z r : ℤ) → SFits w32 y → SFits w32 z → r ≡ int_max (to_z w32 (of_z w32 y)) (to_z w32 (of_z w32 z)) → to_z w32 (of_z w32 r) ≡ greater y z
greater-passed y z r f g is = grind (arith, ints, to_z-of_z)

-- the test of a bit by a mask that has it alone
abbrev pub masked : ℕ → ℕ → Bool
masked n m = top 31 (cond (not (nat_eq (bit_and n m) 0)) 4294967295 0)

abbrev pub four_bits : ℕ → List Bool
four_bits n = masked n 1 ∷ masked n 2 ∷ masked n 4 ∷ masked n 8 ∷ []

masked-test : (b m p : ℕ) → b < 2 → 0 < p → m ≡ b * p → top 31 (cond (not (nat_eq m 0)) 4294967295 0) ≡ (b == 1)
masked-test zero m p small some is = let none : m ≡ 0 = omega arith in ap (λ n. top 31 (cond (not (nat_eq n 0)) 4294967295 0)) none
masked-test (suc zero) m p small some is = ap (λ t. top 31 (cond (not t) 4294967295 0)) (ne_eqb m 0 (λ none. omega arith))
masked-test (suc (suc b)) m p small some is = absurd (omega arith)

masked-bit : (n k : ℕ) → masked n (2 ^ k) ≡ (bit_at n k == 1)
masked-bit n k = masked-test (bit_at n k) (bit_and n (2 ^ k)) (2 ^ k) (bit_at-lt n k) (pow_pos k) (and_pow n k)

pub four_bits-bit : (n j : ℕ) → j < 4 → get_or (four_bits n) j false ≡ (bit_at n j == 1)
four_bits-bit n zero h = masked-bit n 0
four_bits-bit n (suc zero) h = masked-bit n 1
four_bits-bit n (suc (suc zero)) h = masked-bit n 2
four_bits-bit n (suc (suc (suc zero))) h = masked-bit n 3
four_bits-bit n (suc (suc (suc (suc j)))) h = absurd (omega arith)

-- the lanes of the first where the tests hold
abbrev pub by_tests : List Bool → List ℤ → List ℤ → List ℤ
by_tests bs hs ls = map (to_z w32) (sel_l bs (map (of_z w32) hs) (map (of_z w32) ls))

length-by_tests : (bs : List Bool) (hs ls : List ℤ) → length bs ≡ length hs → length bs ≡ length ls → length (by_tests bs hs ls) ≡ length bs
length-by_tests [] hs ls p q = refl
length-by_tests (b ∷ bs) [] ls p q = absurd (omega arith)
length-by_tests (b ∷ bs) (h ∷ hs) [] p q = absurd (omega arith)
length-by_tests (b ∷ bs) (h ∷ hs) (l ∷ ls) p q = ap suc (length-by_tests bs hs ls (omega arith) (omega arith))

by_test : (b : Bool) (y z : ℤ) → SFits w32 y → SFits w32 z → to_z w32 (cond b (of_z w32 y) (of_z w32 z)) ≡ cond b y z
by_test true y z f g = to_z-of_z w32 y f
by_test false y z f g = to_z-of_z w32 z g

pub get_or-by_tests : (bs : List Bool) (hs ls : List ℤ) (j : ℕ) → length bs ≡ length hs → length bs ≡ length ls → j < length bs → Each1 (SFits w32) hs → Each1 (SFits w32) ls
    → get_or (by_tests bs hs ls) j (pos 0) ≡ cond (get_or bs j false) (get_or hs j (pos 0)) (get_or ls j (pos 0))
get_or-by_tests [] hs ls j p q within f g = absurd (omega arith)
get_or-by_tests (b ∷ bs) [] ls j p q within f g = absurd (omega arith)
get_or-by_tests (b ∷ bs) (h ∷ hs) [] j p q within f g = absurd (omega arith)
get_or-by_tests (b ∷ bs) (h ∷ hs) (l ∷ ls) zero p q within f g = by_test b h l f.0 g.0
get_or-by_tests (b ∷ bs) (h ∷ hs) (l ∷ ls) (suc j) p q within f g = get_or-by_tests bs hs ls j (omega arith) (omega arith) (omega arith) f.1 g.1

pub stored-by_bits : (n : ℕ) (out low high ls hs : List ℤ) → length out ≡ 4 → length low ≡ 4 → length high ≡ 4 → ls ≡ low → hs ≡ high → Each1 (SFits w32) ls → Each1 (SFits w32) hs
    → (j : ℕ) → j < 4 → get_or (put_chunk 0 out (by_tests (four_bits n) hs ls)) j (pos 0) ≡ by_bit low high n j
stored-by_bits n out low high ls hs o l h p q f g j within =
    let long_low : length ls ≡ 4 = ap length p ∙ l in
    let long_high : length hs ≡ 4 = ap length q ∙ h in
    ap (λ zs. get_or zs j (pos 0)) (put_chunk_whole out (by_tests (four_bits n) hs ls) (omega (arith, length-by_tests (four_bits n) hs ls (sym long_high) (sym long_low))))
    ∙ get_or-by_tests (four_bits n) hs ls j (sym long_high) (sym long_low) within g f
    ∙ (λ i. cond (four_bits-bit n j within i) (get_or (q i) j (pos 0)) (get_or (p i) j (pos 0)))
