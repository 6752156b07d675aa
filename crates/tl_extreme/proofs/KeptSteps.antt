-- The steps from and to a place by what is kept of it.
use Rattle.std.proofs.Common.{◌≡◌, true, ℕ, ◌+◌, ◌-◌, List, [], ◌∷◌, map, get_or, sym, ◌∙◌, ap, subst}
use Rattle.tl_definitions.specs.declared.Kind.{Kind}
use Rattle.tl_definitions.specs.declared.Kind.TheVariants.{Square, Triangle}
use Rattle.tl_definitions.specs.Region.{Region, is_corner_of, is_inner, steps}
use Rattle.tl_grid.specs.Grid.{IsGrid}
use Rattle.tl_extreme.specs.declared.corner_graph.PlaceKind.{PlaceKind}
use Rattle.tl_extreme.specs.declared.corner_graph.PlaceKind.TheVariants.{Edge, Even, Odd}
use Rattle.tl_extreme.specs.CornerGraph.{place, corner_of, steps_to}
use Rattle.tl_extreme.specs.PlaceKinds.{AreKindsOf, place_kind}
use Rattle.tl_extreme.proofs.CornerPlaces.{place-corner_of}
use Rattle.tl_extreme.proofs.InnerPlaces.{HasRoom, has-room, in-even, in-odd, in-triangle, out-even, out-odd, out-triangle}
use Rattle.tl_extreme.proofs.KeptKinds.{kept-kind, kind-even, kind-inner, kind-odd}

-- what a graph tells of a place
pub record IsKept (R : Region) (width p : ℕ) (kind : PlaceKind) (lattice : Kind) : Type 0 where
  pub is_grid : IsGrid R
  pub wide : width ≡ R.columns + 2
  pub lattice_is : lattice ≡ R.kind
  pub kind_is : place_kind R (corner_of R p) ≡ kind

-- where the region is known by another name
pub is-kept : (S R : Region) (width p : ℕ) (kinds : List PlaceKind) (kind : PlaceKind) (lattice : Kind) → S ≡ R
    → IsGrid S → width ≡ S.columns + 2 → AreKindsOf S kinds → is_corner_of R (corner_of R p) ≡ true → kind ≡ get_or kinds p kind → lattice ≡ S.kind
    → IsKept R width p kind lattice
is-kept S R width p kinds kind lattice same is_grid wide are on read lattice_is =
    record {
      is_grid = subst IsGrid same is_grid;
      wide = wide ∙ ap (λ (Q : Region). Q.columns + 2) same;
      lattice_is = lattice_is ∙ ap (λ (Q : Region). Q.kind) same;
      kind_is = kept-kind R kinds (subst (λ (Q : Region). AreKindsOf Q kinds) same are) p on kind read;
    }

module _ (R : Region) (width p : ℕ) (kind : PlaceKind) (lattice : Kind) (k : IsKept R width p kind lattice) where
  place_is : p ≡ place R (corner_of R p)
  place_is = sym (place-corner_of R p)

  is_lattice : (other : Kind) → lattice ≡ other → R.kind ≡ other
  is_lattice other e = sym k.lattice_is ∙ e

  inner : (kind ≡ Edge → ⊥) → is_inner R (corner_of R p) ≡ true
  inner differs = kind-inner R (corner_of R p) (λ e. differs (sym k.kind_is ∙ e))

  pub kept-room : (kind ≡ Edge → ⊥) → HasRoom p width
  kept-room differs = has-room R k.is_grid (corner_of R p) (inner differs) width p k.wide place_is

  pub out-even_kept : kind ≡ Even → lattice ≡ Square → (p - width) ∷ (p + width) ∷ [] ≡ map (place R) (steps R (corner_of R p))
  out-even_kept e square =
      let (inside, even) = kind-even R (corner_of R p) (k.kind_is ∙ e) in
      out-even R k.is_grid (corner_of R p) inside width p k.wide place_is (is_lattice Square square) even

  pub out-odd_kept : kind ≡ Odd → lattice ≡ Square → (p - 1) ∷ (p + 1) ∷ [] ≡ map (place R) (steps R (corner_of R p))
  out-odd_kept e square =
      let (inside, odd) = kind-odd R (corner_of R p) (k.kind_is ∙ e) in
      out-odd R k.is_grid (corner_of R p) inside width p k.wide place_is (is_lattice Square square) odd

  pub out-triangle_kept : (kind ≡ Edge → ⊥) → lattice ≡ Triangle
      → (p + 2) ∷ ((p - width) - 1) ∷ ((p + width) - 1) ∷ [] ≡ map (place R) (steps R (corner_of R p))
  out-triangle_kept differs triangle =
      out-triangle R k.is_grid (corner_of R p) (inner differs) width p k.wide place_is (is_lattice Triangle triangle)

  pub in-even_kept : kind ≡ Even → lattice ≡ Square → (p + 1) ∷ (p - 1) ∷ [] ≡ map (place R) (steps_to R (corner_of R p))
  in-even_kept e square =
      let (inside, even) = kind-even R (corner_of R p) (k.kind_is ∙ e) in
      in-even R k.is_grid (corner_of R p) inside width p k.wide place_is (is_lattice Square square) even

  pub in-odd_kept : kind ≡ Odd → lattice ≡ Square → (p - width) ∷ (p + width) ∷ [] ≡ map (place R) (steps_to R (corner_of R p))
  in-odd_kept e square =
      let (inside, odd) = kind-odd R (corner_of R p) (k.kind_is ∙ e) in
      in-odd R k.is_grid (corner_of R p) inside width p k.wide place_is (is_lattice Square square) odd

  pub in-triangle_kept : (kind ≡ Edge → ⊥) → lattice ≡ Triangle
      → ((p - width) + 1) ∷ ((p + width) + 1) ∷ (p - 2) ∷ [] ≡ map (place R) (steps_to R (corner_of R p))
  in-triangle_kept differs triangle =
      in-triangle R k.is_grid (corner_of R p) (inner differs) width p k.wide place_is (is_lattice Triangle triangle)
