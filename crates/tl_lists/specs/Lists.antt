-- Lists: which of their elements stand beside each other, and which are there.
use Rattle.std.specs.Prelude.{List, Option, ℕ, ◌+◌, Bool, true, ◌&&◌, [], ◌∷◌, ◌++◌, length, take, drop, not, ℤ, pos, ◌+ℤ◌, false, ◌==◌, Some, None}
use Rattle.std.specs.List.{filter_map, range_with_len, list_any, list_all}

-- the values that are there
abbrev pub present : {A : Type 0} → List (Option A) → List A
present xs = filter_map (λ x. x) xs

-- 0, 1, .., n - 1
abbrev pub upto : ℕ → List ℕ
upto n = range_with_len 0 n

-- each element and the next pass the test
abbrev pub linked : {A : Type 0} → (A → A → Bool) → List A → Bool
linked t [] = true
linked t (x ∷ []) = true
linked t (x ∷ y ∷ ys) = t x y && linked t (y ∷ ys)

-- the list that begins with the second element and ends with the first
abbrev pub turned : {A : Type 0} → List A → List A
turned xs = drop 1 xs ++ take 1 xs

-- the list with these in the place of its elements from a place on
abbrev pub put_at : {A : Type 0} → ℕ → List A → List A → List A
put_at place these list = take place list ++ these ++ drop (place + length these) list

-- no element is the same as one after it
abbrev pub distinct : {A : Type 0} → (A → A → Bool) → List A → Bool
distinct eq [] = true
distinct eq (x ∷ xs) = not (list_any (eq x) xs) && distinct eq xs

abbrev pub is_first_of : {A : Type 0} → (A → A → Bool) → List A → Bool
is_first_of lt [] = true
is_first_of lt (x ∷ xs) = list_all (lt x) xs

abbrev pub int_sum : List ℤ → ℤ
int_sum [] = pos 0
int_sum (z ∷ zs) = z +ℤ int_sum zs

abbrev pub is_byte : ℕ → Option ℕ → Bool
is_byte b None = false
is_byte b (Some a) = a == b
