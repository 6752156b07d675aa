-- The numbers that bits choose, four places at a time.
use Rattle.std.proofs.Common.{◌≡◌, ℕ, ◌+◌, ◌-◌, ◌/◌, ◌%◌, ◌^◌, ◌<◌, ◌≤◌, ◌==◌, ℤ, pos, List, ◌++◌, cond, ap, sym, ◌∙◌, ⊎_elim, length, get_or, take, drop, set, subst, arith}
use Rattle.std.proofs.lemmas.Bool.{cases_lt}
use Rattle.std.proofs.lemmas.List.{get_or_append_left, get_or-append-add, get_or-set_other, get_or-set_same, get_or-take, length-take-le}
use Rattle.std.proofs.lemmas.Nat.{pow-add}
use Rattle.std.proofs.lemmas.Simd.{get_or-chunk}
use Rattle.std.proofs.Math.Nat.{div-div-eq-div-mul}
use Rattle.std.specs.Int.{bit_at}
use borrow.Rule.Slice.PartMut.{put_mid, post_of}
use Rattle.tl_lanes.specs.Lanes.{by_bit, chosen}

pub bit_at-shifted : (n s i : ℕ) → bit_at (n / 2 ^ s) i ≡ bit_at n (s + i)
bit_at-shifted n s i = ap (λ m. m % 2) (div-div-eq-div-mul n (2 ^ s) (2 ^ i) ∙ ap (λ m. n / m) (sym (pow-add 2 s i)))

-- a place of a part: the bits from the part's first place on tell of it
pub by_bit-part : (low high : List ℤ) (word i m l k : ℕ) → k < m → k < l → by_bit (take m (drop i low)) (take l (drop i high)) (word / 2 ^ i) k ≡ by_bit low high word (i + k)
by_bit-part low high word i m l k in_low in_high =
    λ t. cond (bit_at-shifted word i k t == 1) (get_or-chunk i l high k (pos 0) in_high t) (get_or-chunk i m low k (pos 0) in_low t)

-- a place of a word's part
pub by_bit-chosen : (low high : List ℤ) (words : List ℕ) (i m l k : ℕ) → i % 32 ≡ 0 → k < 32 → k < m → k < l
    → by_bit (take m (drop i low)) (take l (drop i high)) (get_or words (i / 32) 0) k ≡ chosen low high words (i + k)
by_bit-chosen low high words i m l k whole small in_low in_high =
    let word : i / 32 ≡ (i + k) / 32 = omega arith in
    let bit : k ≡ (i + k) % 32 = omega arith in
    λ t. cond (bit_at (get_or words (word t) 0) (bit t) == 1) (get_or-chunk i l high k (pos 0) in_high t) (get_or-chunk i m low k (pos 0) in_low t)

get_or-put_mid_below : {A : Type 0} (i k : ℕ) (xs ys : List A) (j : ℕ) (d : A) → i ≤ length xs → j < i → get_or (put_mid i k xs ys) j d ≡ get_or xs j d
get_or-put_mid_below i k xs ys j d inside below =
    get_or_append_left (take i xs) (ys ++ post_of i k xs) d j (omega (arith, length-take-le i xs inside)) ∙ get_or-take i xs j d below

get_or-put_mid_at : {A : Type 0} (i k : ℕ) (xs ys : List A) (j : ℕ) (d : A) → i ≤ length xs → j < length ys → get_or (put_mid i k xs ys) (i + j) d ≡ get_or ys j d
get_or-put_mid_at i k xs ys j d inside within =
    ap (λ n. get_or (put_mid i k xs ys) (n + j) d) (sym (length-take-le i xs inside)) ∙ get_or-append-add (take i xs) (ys ++ post_of i k xs) j d
    ∙ get_or_append_left ys (post_of i k xs) d j within

-- a part more that is as it should be
pub placed-part : (i k n : ℕ) (out new : List ℤ) (f : ℕ → ℤ) → i ≤ length out → length new ≡ n → ((j : ℕ) → j < i → get_or out j (pos 0) ≡ f j)
    → ((j : ℕ) → j < n → get_or new j (pos 0) ≡ f (i + j)) → (j : ℕ) → j < i + n → get_or (put_mid i k out new) j (pos 0) ≡ f j
placed-part i k n out new f inside long before part j within =
    ⊎_elim (λ below. get_or-put_mid_below i k out new j (pos 0) inside below ∙ before j below)
    (λ above.
    let sum : i + (j - i) ≡ j = omega arith in
    subst (λ p. get_or (put_mid i k out new) p (pos 0) ≡ f p) sum
    (get_or-put_mid_at i k out new (j - i) (pos 0) inside (omega arith) ∙ part (j - i) (omega arith)))
    (cases_lt j i)

-- a place more that is as it should be
pub placed-next : (i : ℕ) (out : List ℤ) (z : ℤ) (f : ℕ → ℤ) → i < length out → z ≡ f i → ((j : ℕ) → j < i → get_or out j (pos 0) ≡ f j)
    → (j : ℕ) → j < i + 1 → get_or (set out i z) j (pos 0) ≡ f j
placed-next i out z f inside at before j within =
    ⊎_elim (λ below. get_or-set_other out i j z (pos 0) (λ same. omega (arith, same)) ∙ before j below)
    (λ above.
    let here : j ≡ i = omega arith in
    ap (λ k. get_or (set out i z) k (pos 0)) here ∙ get_or-set_same out i z (pos 0) inside ∙ at ∙ ap f (sym here))
    (cases_lt j i)
