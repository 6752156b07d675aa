-- What a step puts at a corner, by the bits of the corners beside it.
use Rattle.std.proofs.Common.{◌≡◌, ℕ, ◌+◌, ◌-◌, ◌%◌, ◌≤◌, ◌⊎◌, inl, inr, Bool, true, false, not, ◌&&◌, cond, eqb, refl, ◌∙◌, arith}
use Rattle.std.proofs.lemmas.Bool.{cases_eq, eq-eqb, eqb-true, ne_eqb, lt-ltb, le-ltb}
use Rattle.tl_definitions.specs.declared.Kind.TheVariants.{Square, Triangle}
use Rattle.tl_definitions.specs.declared.Corner.{Corner}
use Rattle.tl_definitions.specs.Lattice.{class_of, corner}
use Rattle.tl_definitions.proofs.Darts.{less-of}
use Rattle.tl_lists.proofs.Tests.{same_test}
use Rattle.tl_marks.specs.Marks.{stepped_mark, xor}
use Rattle.tl_strings.specs.Steps.{across, all_three, differ, square_bit, stepped_bit, triangle_bit, upright}

-- ---- exactly one of two

xor-differ : (p q : Bool) → xor p q ≡ differ p q
xor-differ true q = refl
xor-differ false q = refl

differ-true : (p : Bool) → differ p true ≡ not p
differ-true true = refl
differ-true false = refl

pub differ-false : (p : Bool) → differ p false ≡ p
differ-false true = refl
differ-false false = refl

and-back : (p q : Bool) → (p && q) ≡ (q && p)
and-back true true = refl
and-back true false = refl
and-back false true = refl
and-back false false = refl

and-true : (p : Bool) → (p && true) ≡ p
and-true true = refl
and-true false = refl

-- a step from a corner p, and one to it
from : (p here turned : Bool) → xor (xor p here) turned ≡ differ (differ p here) turned
from true true turned = xor-differ false turned
from true false turned = xor-differ true turned
from false here turned = xor-differ here turned

to : (p here turned : Bool) → xor (xor here p) turned ≡ differ (differ p here) turned
to true true turned = xor-differ false turned
to true false turned = xor-differ true turned
to false true turned = xor-differ true turned
to false false turned = xor-differ false turned

-- two tests of a list, and three
two : (a b p q : Bool) → a ≡ p → b ≡ q → (a && (b && true)) ≡ (p && q)
two a b p q e f = (λ i. a && and-true b i) ∙ (λ i. e i && f i)

and-regroup : (p q r : Bool) → (p && (q && r)) ≡ ((p && q) && r)
and-regroup true q r = refl
and-regroup false q r = refl

three : (a b c p q r : Bool) → a ≡ p → b ≡ q → c ≡ r → (a && (b && (c && true))) ≡ ((p && q) && r)
three a b c p q r e f g = (λ i. a && (b && and-true c i)) ∙ ((λ i. e i && (f i && g i)) ∙ and-regroup p q r)

-- what is put, by whether all steps to the corner are crossed and whether all from it are
put : (here bit a b p q : Bool) → a ≡ p → b ≡ q → xor here (cond bit a b) ≡ stepped_bit here p q bit true
put here bit a b p q e f = xor-differ here (cond bit a b) ∙ (λ i. differ here (cond bit (e i) (f i)))

-- ---- squares

upright-from : (here north south : Bool) → (xor (xor north here) false && (xor (xor south here) false && true)) ≡ upright here north south
upright-from here north south = two _ _ _ _ (from north here false ∙ differ-false _) (from south here false ∙ differ-false _)

upright-to : (here north south : Bool) → (xor (xor here north) false && (xor (xor here south) false && true)) ≡ upright here north south
upright-to here north south = two _ _ _ _ (to north here false ∙ differ-false _) (to south here false ∙ differ-false _)

across-from : (here west east : Bool) → (xor (xor east here) false && (xor (xor west here) true && true)) ≡ across false here west east
across-from here west east =
    two _ _ _ _ (from east here false ∙ differ-false _) (from west here true ∙ differ-true _) ∙ and-back (differ east here) (not (differ west here))

across-to : (here west east : Bool) → (xor (xor here west) false && (xor (xor here east) true && true)) ≡ across true here west east
across-to here west east = two _ _ _ _ (to west here false ∙ differ-false _) (to east here true ∙ differ-true _)

module _ (marks : Corner → Bool) (v : Corner) (bit : Bool) where
  abbrev here : Bool
  here = marks v

  abbrev west : Bool
  west = marks (corner v.r (v.x - 1))

  abbrev east : Bool
  east = marks (corner v.r (v.x + 1))

  abbrev north : Bool
  north = marks (corner (v.r - 1) v.x)

  abbrev south : Bool
  south = marks (corner (v.r + 1) v.x)

  abbrev square_put : Bool → Bool
  square_put odd = square_bit odd here west east north south bit true

  pub square-stepped : 1 ≤ v.r → 1 ≤ v.x → stepped_mark Square marks v bit ≡ square_put (eqb (class_of Square v) 1)
  square-stepped below right = go (cases_eq ((v.r + v.x) % 2) 0)
    where
      go : ((v.r + v.x) % 2 ≡ 0) ⊎ (((v.r + v.x) % 2 ≡ 0) → ⊥) → stepped_mark Square marks v bit ≡ square_put (eqb (class_of Square v) 1)
      go (inl even) =
          rw (
            less-of v.x 1 (v.x - 1) (omega arith),
            less-of v.r 1 (v.r - 1) (omega arith),
            eq-eqb ((v.r + v.x) % 2) 0 even,
            ne_eqb ((v.r + v.x) % 2) 1 (omega (arith, even)),
            le-ltb (v.x + 1) v.x (omega arith),
            lt-ltb (v.x - 1) v.x (omega arith),
            le-ltb v.x v.x (omega arith),
          )
          (put _ bit _ _ _ _ (across-from here west east) (upright-to here north south))
      go (inr odd) =
          rw (
            less-of v.x 1 (v.x - 1) (omega arith),
            less-of v.r 1 (v.r - 1) (omega arith),
            ne_eqb ((v.r + v.x) % 2) 0 odd,
            eq-eqb ((v.r + v.x) % 2) 1 (omega (arith, odd)),
            le-ltb v.x (v.x - 1) (omega arith),
            lt-ltb v.x (v.x + 1) (omega arith),
            le-ltb v.x v.x (omega arith),
          )
          (put _ bit _ _ _ _ (upright-from here north south) (across-to here west east))

-- ---- triangles

same-tests : (a b c d : ℕ) → (a ≡ b → c ≡ d) → (c ≡ d → a ≡ b) → eqb a b ≡ eqb c d
same-tests a b c d f g = same_test (eqb a b) (eqb c d) (λ e. eq-eqb c d (f (eqb-true a b e))) (λ e. eq-eqb a b (g (eqb-true c d e)))

three-from : (turned here west north_east south_east : Bool)
    → (xor (xor north_east here) turned && (xor (xor south_east here) turned && (xor (xor west here) turned && true)))
    ≡ all_three turned here west north_east south_east
three-from turned here west north_east south_east =
    three _ _ _ _ _ _ (from north_east here turned) (from south_east here turned) (from west here turned)
    ∙ last-first (differ (differ north_east here) turned) (differ (differ south_east here) turned) (differ (differ west here) turned)
  where
    last-first : (p q r : Bool) → ((p && q) && r) ≡ ((r && p) && q)
    last-first p q r = and-back (p && q) r ∙ and-regroup r p q

three-to : (turned here east north_west south_west : Bool)
    → (xor (xor here east) turned && (xor (xor here north_west) turned && (xor (xor here south_west) turned && true)))
    ≡ all_three turned here east north_west south_west
three-to turned here east north_west south_west = three _ _ _ _ _ _ (to east here turned) (to north_west here turned) (to south_west here turned)

module _ (marks : Corner → Bool) (v : Corner) (bit : Bool) where
  abbrev triangle_put : Bool
  triangle_put =
      triangle_bit (class_of Triangle v) (marks v) (marks (corner v.r (v.x - 2))) (marks (corner (v.r - 1) (v.x + 1))) (marks (corner (v.r + 1) (v.x + 1)))
      (marks (corner v.r (v.x + 2))) (marks (corner (v.r - 1) (v.x - 1))) (marks (corner (v.r + 1) (v.x - 1))) bit true

  pub triangle-stepped : 1 ≤ v.r → 2 ≤ v.x → stepped_mark Triangle marks v bit ≡ triangle_put
  triangle-stepped below right =
      rw (
        less-of v.x 1 (v.x - 1) (omega arith),
        less-of v.x 2 (v.x - 2) (omega arith),
        less-of v.r 1 (v.r - 1) (omega arith),
        same-tests ((v.x + 1) % 3) 1 (v.x % 3) 0 (λ e. omega (arith, e)) (λ e. omega (arith, e)),
        same-tests ((v.x - 2) % 3) 1 (v.x % 3) 0 (λ e. omega (arith, e)) (λ e. omega (arith, e)),
      )
      (put (marks v) bit _ _ _ _
      (three-from (eqb (v.x % 3) 0) (marks v) (marks (corner v.r (v.x - 2))) (marks (corner (v.r - 1) (v.x + 1))) (marks (corner (v.r + 1) (v.x + 1))))
      (three-to (eqb (v.x % 3) 1) (marks v) (marks (corner v.r (v.x + 2))) (marks (corner (v.r - 1) (v.x - 1))) (marks (corner (v.r + 1) (v.x - 1)))))
