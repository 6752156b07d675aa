-- The numbers that the parser of the standard library reads.
use Rattle.std.proofs.Common.{◌≡◌, ℕ, zero, ◌≤◌, ◌<◌, ◌^◌, ◌⊎◌, inl, inr, true, List, length, Some, None, Ok, Err, arith, rules, refl, Option}
use Rattle.std.specs.Prelude.{◌+◌, ◌-◌, ◌*◌, ◌&&◌, nat_le, if◌then◌else◌, fold, Result}
use Rattle.std.specs.List.{list_all}
use Rattle.std.specs.Result.{OkIff}
use Rattle.std.specs.Str.Parse.{ParsesUnsigned}
use Rattle.std.proofs.lemmas.Bool.{and_parts, and_right, cases_lt, leb-true, le-leb, lt-leb}
use Rattle.std.proofs.lemmas.Str.Parse.{IsNumeralModel, numerals_by_fold, parse_digits}
use Rattle.tl_formats.specs.Texts.{is_digit, are_digits, number_of}
use Rattle.tl_text.specs.Words.{number_within}

own : IsNumeralModel (λ ds. list_all is_digit ds ≡ true) number_of
own = numerals_by_fold _ (search rules) (λ n word. fold (λ m b. 10 * m + (b - 48)) n word) (search rules)

abbrev bounded : ℕ → ℕ → ℕ → Option ℕ
bounded low high n = if nat_le low n && nat_le n high then Some n else None

within-short : (low high : ℕ) (word : List ℕ) → length word ≤ 20 → are_digits word ≡ true → number_within low high word ≡ bounded low high (number_of word)
within-short low high word short digits = rw (digits, le-leb (length word) 20 short) refl

module _ {E : Type 0} (low high : ℕ) (word : List ℕ) (r : Result ℕ E) (short : length word ≤ 20) (digits : are_digits word ≡ true) (h : ParsesUnsigned 64 10 word r) where
  parsed : OkIff r ((zero < length word) × (number_of word < 2 ^ 64)) (number_of word)
  parsed = parse_digits own 64 word r h (and_parts _ _ digits).0

  pub within-parsed : (n : ℕ) → r ≡ Ok n → bounded low high n ≡ number_within low high word
  within-parsed n e = rw (within-short low high word short digits, (rw e at parsed).1) refl

  -- what the parser refuses is too large
  pub within-refused : (e : E) → r ≡ Err e → high < 2 ^ 64 → None ≡ number_within low high word
  within-refused e is fits =
      rw (within-short low high word short digits, and_right (nat_le low (number_of word)) (nat_le (number_of word) high) (lt-leb (number_of word) high (large (cases_lt high (number_of word))))) refl
    where
      large : (high < number_of word) ⊎ (number_of word ≤ high) → high < number_of word
      large (inl l) = l
      large (inr l) = absurd ((rw is at parsed) (omega (arith, leb-true 1 (length word) (and_parts _ _ digits).1), omega (arith, l, fits)))
