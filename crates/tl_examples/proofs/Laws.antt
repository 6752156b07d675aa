-- Laws of the definitions: what is determined is determined once, and cases that exclude each other do.
use Rattle.std.proofs.Common.{◌≡◌, ℕ, ◌≤◌, Bool, true, List, [], ◌∷◌, refl, sym, ◌∙◌, subst, arith, codes, length, Ok, Err}
use Rattle.std.specs.Prelude.{Result, slice_get, Some}
use Rattle.tl_definitions.specs.declared.Kind.TheVariants.{Square}
use Rattle.tl_definitions.specs.declared.Tile.{Tile}
use Rattle.tl_definitions.specs.Lattice.{cell, cell_eq}
use Rattle.tl_definitions.specs.declared.Cell.{Cell}
use Rattle.std.proofs.lemmas.Bool.{or_left}
use Rattle.std.specs.List.{list_any}
use Rattle.tl_definitions.specs.Region.{Region}
use Rattle.tl_definitions.specs.Accepted.{Accepted}
use Rattle.tl_formats.specs.RegionText.{region_of, RegionRefusal, BreaksRule, empty, parts, pinch, hole}
use Rattle.tl_definitions.specs.Sweep.{Gathers, IsSample, IsLate}
use Rattle.tl_definitions.specs.declared.Corner.{Corner}
use Rattle.tl_definitions.specs.Flip.{IsShortestFlipPath, IsFlipDistance}
use Rattle.tl_definitions.proofs.Cells.{cell_eq-refl}
use Rattle.tl_lists.proofs.Tests.{some_same}
use Rattle.tl_formats.proofs.Cases.{gathers_from}

-- a sample that has a start isn't late, and two samples from one start are the same
at_not_late : (R : Region) (bits : ℕ → ℕ → Bool) (bound T : ℕ) (S : List Tile) → IsSample R bits bound T S → IsLate R bits bound → ⊥
at_not_late R bits bound T S s l = l s.start.exponent s.start.within (subst (λ n. Gathers R bits n) s.start.power s.start.holds)

same_sample : (R : Region) (bits : ℕ → ℕ → Bool) (bound T : ℕ) (S S' : List Tile) → IsSample R bits bound T S → IsSample R bits bound T S' → S ≡ S'
same_sample R bits bound T S S' s s' = sym (s.common S s.tiling) ∙ s'.common S s.tiling

-- no refusal beside an acceptance
ok_not_err : (r : Result Region RegionRefusal) (R : Region) (f : RegionRefusal) → r ≡ Ok R → r ≡ Err f → ⊥
ok_not_err r R f e g = cc (e, g)

ok_same : (r : Result Region RegionRefusal) (R R' : Region) → r ≡ Ok R → r ≡ Ok R' → R' ≡ R
ok_same r R R' e g = cc (e, g)

not_empty : (R : Region) → Accepted R → BreaksRule R empty → ⊥
not_empty R a b = a.nonempty b

no_hole : (R : Region) → Accepted R → BreaksRule R hole → ⊥
no_hole R a b = b.3 (a.circuit, a.euler)

-- a region with no inner corner: the start is 1 under every bound, 0 among them, whatever the bits
abbrev domino : Region
domino = region_of Square (codes "##" ∷ [])

abbrev one_tile : List Tile
one_tile = record { first = cell 0 0; second = cell 0 1 } ∷ []

no_corner : (bits : ℕ → ℕ → Bool) (bound : ℕ) → IsSample domino bits bound 1 one_tile
no_corner bits bound = record {
  start = record {
    exponent = 0;
    power = refl;
    within = omega arith;
    holds = λ A B p q. gathers_from domino bits 1 one_tile refl (refl, tt) A p ∙ sym (gathers_from domino bits 1 one_tile refl (refl, tt) B q);
    least = λ k h. absurd (omega (arith, h));
  };
  tiling = refl;
  common = gathers_from domino bits 1 one_tile refl (refl, tt);
}

both_least : (m n : ℕ) → m ≤ n → n ≤ m → m ≡ n
both_least m n p q = omega (arith, p, q)

same_length : (R : Region) (A B : List Tile) (p q : List Corner) → IsShortestFlipPath R A B p → IsShortestFlipPath R A B q → length p ≡ length q
same_length R A B p q s t = both_least (length p) (length q) (s.least q t.leads) (t.least p s.leads)

same_distance : (R : Region) (A B : List Tile) (m n : ℕ) → IsFlipDistance R A B m → IsFlipDistance R A B n → m ≡ n
same_distance R A B m n d e = sym d.2 ∙ same_length R A B d.0 e.0 d.1 e.1 ∙ e.2

-- a pinch is named only of a region in one part
first_has : (cells : List Cell) (s : Cell) → slice_get cells 0 ≡ Some s → list_any (cell_eq s) cells ≡ true
first_has [] s e = cc e
first_has (c ∷ cs) s e = or_left _ _ (subst (λ x. cell_eq x c ≡ true) (some_same c s e) (cell_eq-refl c))

not_parts_and_pinch : (R : Region) (a : Cell) (v : Corner) → BreaksRule R (parts a) → BreaksRule R (pinch v) → ⊥
not_parts_and_pinch R a v p q = p.parted (q.1 p.start a (first_has R.cells p.start p.is_start) p.inside)
