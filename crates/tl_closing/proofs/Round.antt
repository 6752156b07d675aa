-- Round one cell: what the steps other than the left one tell of the left one, and of the corners.
use Rattle.std.proofs.Common.{◌≡◌, ℕ, Bool, true, false, List, [], ◌∷◌, map, refl, sym, ◌∙◌, arith, ℤ, pos, ◌+ℤ◌}
use Rattle.std.proofs.lemmas.Int.{ints}
use Rattle.tl_definitions.specs.declared.Kind.{Kind}
use Rattle.tl_definitions.specs.declared.Kind.TheVariants.{Square, Triangle}
use Rattle.tl_definitions.specs.declared.Corner.{Corner}
use Rattle.tl_lists.specs.Lists.{int_sum}
use Rattle.tl_lists.proofs.Members.{In, Each, Each-at}
use Rattle.tl_closing.proofs.Sides.{left_step, other_steps, corner_table}

module _ {L : Type 0} (label : Corner → L) where
  -- the labels at both ends of a step are the same
  abbrev pub SameLabels : Corner × Corner → Type 0
  SameLabels e = label e.0 ≡ label e.1

  pub left-label : (k : Kind) (t : Bool) (r c : ℕ) → Each SameLabels (other_steps k t r c) → SameLabels (left_step k t r c)
  left-label Square true r c (p, (q, (s, h))) = sym (p ∙ (q ∙ s))
  left-label Square false r c (p, (q, (s, h))) = sym (s ∙ (q ∙ p))
  left-label Triangle true r c (p, (q, h)) = sym (p ∙ q)
  left-label Triangle false r c (p, (q, h)) = sym (q ∙ p)

  abbrev LikeFirst : List Corner → Type 0
  LikeFirst [] = Unit {0}
  LikeFirst (v ∷ vs) = Each (λ w. label w ≡ label v) (v ∷ vs)

  like_first : (k : Kind) (t : Bool) (r c : ℕ) → Each SameLabels (left_step k t r c ∷ other_steps k t r c) → LikeFirst (corner_table k t r c)
  like_first Square true r c (o, (p, (q, (s, h)))) = (refl, (s, (sym o, (sym (o ∙ p), tt))))
  like_first Square false r c (o, (p, (q, (s, h)))) = (refl, (sym s, (o, (p ∙ o, tt))))
  like_first Triangle true r c (o, (p, (q, h))) = (refl, (sym o, (q, tt)))
  like_first Triangle false r c (o, (p, (q, h))) = (refl, (sym q, (o, tt)))

  all_alike : (vs : List Corner) → LikeFirst vs → (v w : Corner) → In v vs → In w vs → label v ≡ label w
  all_alike [] h v w i j = absurd i
  all_alike (x ∷ xs) h v w i j = Each-at (λ z. label z ≡ label x) v (x ∷ xs) h i ∙ sym (Each-at (λ z. label z ≡ label x) w (x ∷ xs) h j)

  -- where they are the same along each step, they are the same at all corners of the cell
  pub corners-label : (k : Kind) (t : Bool) (r c : ℕ) → Each SameLabels (left_step k t r c ∷ other_steps k t r c)
      → (v w : Corner) → In v (corner_table k t r c) → In w (corner_table k t r c) → label v ≡ label w
  corners-label k t r c h v w i j = all_alike (corner_table k t r c) (like_first k t r c h) v w i j

module _ (difference : Corner → Corner → ℤ) (h : Corner → ℤ) where
  -- the function rises by the difference along a step
  abbrev pub Rises : Corner × Corner → Type 0
  Rises e = h e.1 ≡ h e.0 +ℤ difference e.0 e.1

  four : (a b c d p q r s : ℤ) → p +ℤ (q +ℤ (r +ℤ (s +ℤ pos 0))) ≡ pos 0 → c ≡ b +ℤ q → d ≡ c +ℤ r → a ≡ d +ℤ s → b ≡ a +ℤ p
  four a b c d p q r s z e f g = omega (arith, ints, z, e, f, g)

  four_back : (a b c d p q r s : ℤ) → p +ℤ (q +ℤ (r +ℤ (s +ℤ pos 0))) ≡ pos 0 → b ≡ c +ℤ q → c ≡ d +ℤ r → d ≡ a +ℤ s → a ≡ b +ℤ p
  four_back a b c d p q r s z e f g = omega (arith, ints, z, e, f, g)

  three : (a b c p q r : ℤ) → p +ℤ (q +ℤ (r +ℤ pos 0)) ≡ pos 0 → c ≡ b +ℤ q → a ≡ c +ℤ r → b ≡ a +ℤ p
  three a b c p q r z e f = omega (arith, ints, z, e, f)

  three_back : (a b c p q r : ℤ) → p +ℤ (q +ℤ (r +ℤ pos 0)) ≡ pos 0 → b ≡ c +ℤ q → c ≡ a +ℤ r → a ≡ b +ℤ p
  three_back a b c p q r z e f = omega (arith, ints, z, e, f)

  -- where the sum round the cell is 0, it rises so along the left step as well
  pub left-rises : (k : Kind) (t : Bool) (r c : ℕ) → int_sum (map (λ e. difference e.0 e.1) (left_step k t r c ∷ other_steps k t r c)) ≡ pos 0
      → Each Rises (other_steps k t r c) → Rises (left_step k t r c)
  left-rises Square true r c zero (p, (q, (s, tail))) = four _ _ _ _ _ _ _ _ zero p q s
  left-rises Square false r c zero (p, (q, (s, tail))) = four_back _ _ _ _ _ _ _ _ zero p q s
  left-rises Triangle true r c zero (p, (q, tail)) = three _ _ _ _ _ _ zero p q
  left-rises Triangle false r c zero (p, (q, tail)) = three_back _ _ _ _ _ _ zero p q

  around_four : (a b c d p q r s : ℤ) → b ≡ a +ℤ p → c ≡ b +ℤ q → d ≡ c +ℤ r → a ≡ d +ℤ s → p +ℤ (q +ℤ (r +ℤ (s +ℤ pos 0))) ≡ pos 0
  around_four a b c d p q r s e f g h = omega (arith, ints, e, f, g, h)

  around_four_back : (a b c d p q r s : ℤ) → a ≡ b +ℤ p → b ≡ c +ℤ q → c ≡ d +ℤ r → d ≡ a +ℤ s → p +ℤ (q +ℤ (r +ℤ (s +ℤ pos 0))) ≡ pos 0
  around_four_back a b c d p q r s e f g h = omega (arith, ints, e, f, g, h)

  around_three : (a b c p q r : ℤ) → b ≡ a +ℤ p → c ≡ b +ℤ q → a ≡ c +ℤ r → p +ℤ (q +ℤ (r +ℤ pos 0)) ≡ pos 0
  around_three a b c p q r e f g = omega (arith, ints, e, f, g)

  around_three_back : (a b c p q r : ℤ) → a ≡ b +ℤ p → b ≡ c +ℤ q → c ≡ a +ℤ r → p +ℤ (q +ℤ (r +ℤ pos 0)) ≡ pos 0
  around_three_back a b c p q r e f g = omega (arith, ints, e, f, g)

  -- where it rises so along each step round the cell, their sum is 0
  pub sum-rises : (k : Kind) (t : Bool) (r c : ℕ) → Each Rises (left_step k t r c ∷ other_steps k t r c)
      → int_sum (map (λ e. difference e.0 e.1) (left_step k t r c ∷ other_steps k t r c)) ≡ pos 0
  sum-rises Square true r c (o, (p, (q, (s, tail)))) = around_four _ _ _ _ _ _ _ _ o p q s
  sum-rises Square false r c (o, (p, (q, (s, tail)))) = around_four_back _ _ _ _ _ _ _ _ o p q s
  sum-rises Triangle true r c (o, (p, (q, tail))) = around_three _ _ _ _ _ _ o p q
  sum-rises Triangle false r c (o, (p, (q, tail))) = around_three_back _ _ _ _ _ _ o p q
