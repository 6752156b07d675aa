-- The numbers of places: after one is written, and how many places have none.
use Rattle.std.proofs.Common.{◌≡◌, ◌≢◌, ℕ, ◌+◌, ◌<◌, ◌≤◌, Bool, List, length, cond, Some, ap, arith, ℤ, pos, ◌<ℤ◌}
use Rattle.std.specs.Prelude.{slice_get, slice_set}
use Rattle.std.specs.List.{sum_by}
use Rattle.std.specs.Ordering.{int_eq}
use Rattle.std.proofs.lemmas.Bool.{false_from_ne_true}
use Rattle.std.proofs.lemmas.Bool.Decides.{Decides-int_eq}
use Rattle.std.proofs.lemmas.Int.{ints}
use Rattle.std.proofs.lemmas.List.{get_or-set_same, get_or-set_other}
use Rattle.std.proofs.lemmas.List.Sums.{sum_by-set, count_by-le-length}
use Rattle.std.proofs.lemmas.Option.{slice_get-get_or, get_or_from_slice_get}
use Rattle.tl_search.specs.declared.spreading.TheConstants.{UNREACHED}
use Rattle.tl_search.specs.Searching.{number_of}

pub written : (numbers : List ℤ) (w : ℕ) (z : ℤ) → w < length numbers → number_of (slice_set numbers w z) w ≡ z
written numbers w z h = get_or-set_same numbers w z (pos 0) h

pub not_written : (numbers : List ℤ) (w v : ℕ) (z : ℤ) → v ≢ w → number_of (slice_set numbers w z) v ≡ number_of numbers v
not_written numbers w v z other = get_or-set_other numbers w v z (pos 0) other

pub looked_up : (numbers : List ℤ) (v : ℕ) (z : ℤ) → slice_get numbers v ≡ Some z → number_of numbers v ≡ z
looked_up numbers v z e = get_or_from_slice_get numbers v z (pos 0) e

pub look_up : (numbers : List ℤ) (v : ℕ) → v < length numbers → slice_get numbers v ≡ Some (number_of numbers v)
look_up numbers v h = slice_get-get_or numbers v (pos 0) h

pub below_reached : (z : ℤ) → z <ℤ UNREACHED → z ≢ UNREACHED
below_reached z h e = omega (arith, ints, h, e)

-- ---- how many places have no number

abbrev counted : ℤ → ℕ
counted z = cond (int_eq z UNREACHED) 1 0

abbrev pub unreached : List ℤ → ℕ
unreached numbers = sum_by counted numbers

counted_one : (z : ℤ) → z ≡ UNREACHED → counted z ≡ 1
counted_one z e = ap (λ (b : Bool). cond b 1 0) ((Decides-int_eq z UNREACHED).1 e)

counted_none : (z : ℤ) → z ≢ UNREACHED → counted z ≡ 0
counted_none z other = ap (λ (b : Bool). cond b 1 0) (false_from_ne_true (int_eq z UNREACHED) (λ h. other ((Decides-int_eq z UNREACHED).0 h)))

pub unreached-written : (numbers : List ℤ) (w : ℕ) (z : ℤ) → w < length numbers → number_of numbers w ≡ UNREACHED → z ≢ UNREACHED
    → unreached (slice_set numbers w z) + 1 ≡ unreached numbers
unreached-written numbers w z h old new =
    omega (arith, sum_by-set counted numbers w z (pos 0) h, counted_one (number_of numbers w) old, counted_none z new)

pub unreached-le : (numbers : List ℤ) → unreached numbers ≤ length numbers
unreached-le numbers = count_by-le-length (λ z. int_eq z UNREACHED) numbers
