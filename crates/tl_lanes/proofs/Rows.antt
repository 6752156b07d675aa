-- Two rows that are combined as far as a place.
use Rattle.std.proofs.Common.{◌≡◌, ℕ, zero, suc, ◌+◌, ◌<◌, ◌≤◌, List, [], ◌∷◌, ◌++◌, length, get_or, set, take, drop, refl, ap, ◌∙◌, arith, add-one}
use Rattle.std.specs.Simd.Lanes.{zip2}
use borrow.Rule.Slice.PartMut.{put_mid}

-- the first places combined, the others as in the first row
abbrev pub combined : {A : Type 0} → (A → A → A) → ℕ → List A → List A → List A
combined f zero xs ys = xs
combined f (suc n) [] ys = []
combined f (suc n) (x ∷ xs) [] = x ∷ xs
combined f (suc n) (x ∷ xs) (y ∷ ys) = f x y ∷ combined f n xs ys

pub combined-all : {A : Type 0} (f : A → A → A) (n : ℕ) (xs ys : List A) → length xs ≡ length ys → length xs ≤ n → combined f n xs ys ≡ zip2 f xs ys
combined-all f zero [] ys same all = refl
combined-all f zero (x ∷ xs) ys same all = absurd (omega arith)
combined-all f (suc n) [] ys same all = refl
combined-all f (suc n) (x ∷ xs) [] same all = absurd (omega arith)
combined-all f (suc n) (x ∷ xs) (y ∷ ys) same all = ap (λ zs. f x y ∷ zs) (combined-all f n xs ys (omega arith) (omega arith))

pub get_or-combined_next : {A : Type 0} (f : A → A → A) (n : ℕ) (xs ys : List A) (d : A) → get_or (combined f n xs ys) n d ≡ get_or xs n d
get_or-combined_next f zero xs ys d = refl
get_or-combined_next f (suc n) [] ys d = refl
get_or-combined_next f (suc n) (x ∷ xs) [] d = refl
get_or-combined_next f (suc n) (x ∷ xs) (y ∷ ys) d = get_or-combined_next f n xs ys d

one_more : {A : Type 0} (f : A → A → A) (n : ℕ) (xs ys : List A) (d : A) → length xs ≡ length ys → n < length xs
    → set (combined f n xs ys) n (f (get_or xs n d) (get_or ys n d)) ≡ combined f (suc n) xs ys
one_more f zero [] ys d same within = absurd (omega arith)
one_more f zero (x ∷ xs) [] d same within = absurd (omega arith)
one_more f zero (x ∷ xs) (y ∷ ys) d same within = refl
one_more f (suc n) [] ys d same within = absurd (omega arith)
one_more f (suc n) (x ∷ xs) [] d same within = absurd (omega arith)
one_more f (suc n) (x ∷ xs) (y ∷ ys) d same within = ap (λ zs. f x y ∷ zs) (one_more f n xs ys d (omega arith) (omega arith))

-- one place more
pub combined-next : {A : Type 0} (f : A → A → A) (n : ℕ) (xs ys zs : List A) (d z : A) → length xs ≡ length ys → n < length xs → zs ≡ combined f n xs ys
    → z ≡ f (get_or zs n d) (get_or ys n d) → set zs n z ≡ combined f (n + 1) xs ys
combined-next f n xs ys zs d z same within is at =
    (λ i. set (is i) n ((at ∙ (λ j. f (get_or (is j) n d) (get_or ys n d)) ∙ ap (λ x. f x (get_or ys n d)) (get_or-combined_next f n xs ys d)) i))
    ∙ rw add-one (one_more f n xs ys d same within)

first_part : {A : Type 0} (f : A → A → A) (k : ℕ) (xs ys : List A) → length xs ≡ length ys → zip2 f (take k xs) (take k ys) ++ drop k xs ≡ combined f k xs ys
first_part f zero xs ys same = refl
first_part f (suc k) [] ys same = refl
first_part f (suc k) (x ∷ xs) [] same = absurd (omega arith)
first_part f (suc k) (x ∷ xs) (y ∷ ys) same = ap (λ zs. f x y ∷ zs) (first_part f k xs ys (omega arith))

part : {A : Type 0} (f : A → A → A) (n k m : ℕ) (xs ys : List A) → m ≡ n + k → length xs ≡ length ys
    → put_mid n k (combined f n xs ys) (zip2 f (take k (drop n (combined f n xs ys))) (take k (drop n ys))) ≡ combined f m xs ys
part f zero k m xs ys sum same = first_part f k xs ys same ∙ ap (λ n. combined f n xs ys) (omega arith)
part f (suc n) k zero xs ys sum same = absurd (omega arith)
part f (suc n) zero (suc m) [] ys sum same = refl
part f (suc n) (suc k) (suc m) [] ys sum same = refl
part f (suc n) k (suc m) (x ∷ xs) [] sum same = absurd (omega arith)
part f (suc n) k (suc m) (x ∷ xs) (y ∷ ys) sum same = ap (λ zs. f x y ∷ zs) (part f n k m xs ys (omega arith) (omega arith))

-- a part more
pub combined-part : {A : Type 0} (f : A → A → A) (n k l m : ℕ) (xs ys zs new : List A) → l ≡ k → m ≡ n + k → length xs ≡ length ys → zs ≡ combined f n xs ys
    → new ≡ zip2 f (take k (drop n zs)) (take l (drop n ys)) → put_mid n k zs new ≡ combined f m xs ys
combined-part f n k l m xs ys zs new long sum same is at =
    (λ i. put_mid n k (is i) ((at ∙ (λ j. zip2 f (take k (drop n (is j))) (take (long j) (drop n ys)))) i)) ∙ part f n k m xs ys sum same
