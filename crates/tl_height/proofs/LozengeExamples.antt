-- The heights of a lozenge, and numbers near them.
use Rattle.std.proofs.Common.{◌≡◌, List, [], ◌∷◌, refl, arith, codes, ℤ, pos}
use Rattle.std.proofs.lemmas.Int.{ints}
use Rattle.tl_definitions.specs.declared.Kind.TheVariants.{Triangle}
use Rattle.tl_definitions.specs.declared.Tile.{Tile}
use Rattle.tl_definitions.specs.Lattice.{cell, corner}
use Rattle.tl_definitions.specs.Region.{Region}
use Rattle.tl_formats.specs.RegionText.{region_of}
use Rattle.tl_definitions.specs.Accepted.{Accepted, IsCircuit}
use Rattle.tl_definitions.specs.Heights.{AreHeights, AreLawful}
use Rattle.tl_formats.proofs.Cases.{drawn, walk_of}
use Rattle.tl_definitions.proofs.Decide.{one_part}
use Rattle.tl_closing.proofs.Stated.{heights-lawful}
use Rattle.tl_height.proofs.HeightsBy.{heights-by}

abbrev lozenge : Region
lozenge = region_of Triangle (codes "##" ∷ [])

abbrev one_tile : List Tile
one_tile = drawn lozenge (codes "><" ∷ [])

-- two rows of the corner columns 0 to 3; every second place is no corner of the lattice
abbrev with_last : ℤ → List ℤ
with_last h = pos 0 ∷ pos 0 ∷ pos 0 ∷ pos 1 ∷ pos 1 ∷ pos 0 ∷ h ∷ pos 0 ∷ []

lozenge_circuit : IsCircuit lozenge (walk_of lozenge)
lozenge_circuit = record { on_boundary = refl; whole = refl; closed = refl; once = refl; first = refl }

lozenge_accepted : Accepted lozenge
lozenge_accepted = record {
  placed = refl;
  nonempty = λ e. cc e;
  joined = one_part lozenge 2 (cell 0 0) refl refl;
  no_pinch = refl;
  circuit = (walk_of lozenge, lozenge_circuit);
  euler = refl;
}

lozenge_heights : AreHeights lozenge one_tile (with_last (pos 2))
lozenge_heights =
    heights-by lozenge lozenge_accepted (walk_of lozenge) (corner 0 1) lozenge_circuit refl one_tile (with_last (pos 2)) refl refl
    (refl, (refl, (refl, (refl, (refl, tt)))))

lozenge_lawful : AreLawful lozenge (with_last (pos 2))
lozenge_lawful = heights-lawful lozenge one_tile (with_last (pos 2)) lozenge_accepted refl lozenge_heights

-- with 1 in the place of the 2, they are neither
flat_no_heights : AreHeights lozenge one_tile (with_last (pos 1)) → ⊥
flat_no_heights h = let e : pos 1 ≡ pos 2 = h.along (corner 1 0) (corner 1 2) refl in omega (arith, ints, e)

flat_not_lawful : AreLawful lozenge (with_last (pos 1)) → ⊥
flat_not_lawful l = let e : pos 1 ≡ pos 2 = l.boundary (walk_of lozenge) 2 (corner 1 2) lozenge_circuit refl in omega (arith, ints, e)
