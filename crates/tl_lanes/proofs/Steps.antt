-- Steps at places of four rows.
use Rattle.std.proofs.Common.{◌≡◌, ℕ, zero, suc, ◌+◌, ◌-◌, ◌/◌, ◌^◌, ◌<◌, ◌≤◌, ◌==◌, ℤ, pos, ◌+ℤ◌, ◌-ℤ◌, List, [], ◌∷◌, All, cond, ap, sym, subst, ◌∙◌, length, get_or, take, drop, w32, arith, FitsSigned}
use Rattle.std.proofs.lemmas.List.Elements.{All-from_get_or, All-get_or}
use Rattle.std.proofs.lemmas.Simd.{get_or-chunk, length-chunk}
use Rattle.std.specs.Int.{bit_at}
use Rattle.std.specs.Simd.Lanes.{zip2}
use Rattle.tl_lanes.specs.Lanes.{AreBeside, by_bit, over, step_or_old, under}
use Rattle.tl_lanes.proofs.Choices.{bit_at-shifted}
use Rattle.tl_lanes.proofs.OverUnder.{get_or-zip2}

-- a place of a part: the bits from the part's first place on tell of it
pub step-part : (old from from_other to to_other : List ℤ) (bits class i m k : ℕ) → k < m
    → step_or_old (take m (drop i old)) (take m (drop i from)) (take m (drop i from_other)) (take m (drop i to)) (take m (drop i to_other)) (bits / 2 ^ i) (class / 2 ^ i) k
    ≡ step_or_old old from from_other to to_other bits class (i + k)
step-part old from from_other to to_other bits class i m k within =
    let at : (xs : List ℤ) → get_or (take m (drop i xs)) k (pos 0) ≡ get_or xs (i + k) (pos 0) = λ xs. get_or-chunk i m xs k (pos 0) within in
    λ t. cond (bit_at-shifted class i k t == 1)
    (cond (bit_at-shifted bits i k t == 1) (over (at from t) (at from_other t)) (under (at to t) (at to_other t)))
    (at old t)

-- a place of a vector, by what the two choices give
pub block-steps : (old from from_other to to_other low high once both : List ℤ) (bits class : ℕ) → AreBeside 4 from from_other to to_other
    → high ≡ zip2 over from from_other → low ≡ zip2 under to to_other
    → ((j : ℕ) → j < 4 → get_or once j (pos 0) ≡ by_bit low high bits j) → ((j : ℕ) → j < 4 → get_or both j (pos 0) ≡ by_bit old once class j)
    → (j : ℕ) → j < 4 → get_or both j (pos 0) ≡ step_or_old old from from_other to to_other bits class j
block-steps old from from_other to to_other low high once both bits class beside is_high is_low first second j within =
    second j within
    ∙ ap (λ z. cond (bit_at class j == 1) z (get_or old j (pos 0)))
    (first j within
    ∙ (λ t. cond (bit_at bits j == 1) (get_or (is_high t) j (pos 0)) (get_or (is_low t) j (pos 0)))
    ∙ (λ t. cond (bit_at bits j == 1)
    (get_or-zip2 over from from_other j (omega (arith, beside.from_length)) (omega (arith, beside.from_other_length)) t)
    (get_or-zip2 under to to_other j (omega (arith, beside.to_length)) (omega (arith, beside.to_other_length)) t)))

-- a part of four rows
pub part-beside : (n i : ℕ) (from from_other to to_other : List ℤ) → i + 4 ≤ n → AreBeside n from from_other to to_other
    → AreBeside 4 (take 4 (drop i from)) (take 4 (drop i from_other)) (take 4 (drop i to)) (take 4 (drop i to_other))
part-beside n i from from_other to to_other inside b = record {
  from_length = length-chunk i 4 from (omega (arith, b.from_length));
  from_other_length = length-chunk i 4 from_other (omega (arith, b.from_other_length));
  to_length = length-chunk i 4 to (omega (arith, b.to_length));
  to_other_length = length-chunk i 4 to_other (omega (arith, b.to_other_length));
  from_fits = part (λ z. FitsSigned w32 (z +ℤ pos 1)) from (omega (arith, b.from_length)) b.from_fits;
  from_other_fits = part (λ z. FitsSigned w32 (z +ℤ pos 1)) from_other (omega (arith, b.from_other_length)) b.from_other_fits;
  to_fits = part (λ z. FitsSigned w32 (z -ℤ pos 1)) to (omega (arith, b.to_length)) b.to_fits;
  to_other_fits = part (λ z. FitsSigned w32 (z -ℤ pos 1)) to_other (omega (arith, b.to_other_length)) b.to_other_fits;
}
  where
    part : (P : ℤ → Type 0) (zs : List ℤ) → i + 4 ≤ length zs → All P zs → All P (take 4 (drop i zs))
    part P zs fits all = All-from_get_or P (take 4 (drop i zs)) (pos 0) (λ j small.
        let within : j < 4 = omega (arith, length-chunk i 4 zs fits) in
        subst P (sym (get_or-chunk i 4 zs j (pos 0) within)) (All-get_or P zs (i + j) (pos 0) (omega arith) all))
