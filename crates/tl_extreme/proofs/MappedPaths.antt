-- Paths of places and directed paths of corners.
use Rattle.std.proofs.Common.{◌≡◌, ℕ, Bool, true, List, [], ◌∷◌, map, Option, Some, None, refl, ◌∙◌, ap}
use Rattle.std.specs.Prelude.{option_map}
use Rattle.std.specs.List.{last_or}
use Rattle.std.proofs.lemmas.Bool.{and_parts, and_from}
use Rattle.std.proofs.lemmas.Option.{slice_get-map}
use Rattle.tl_lists.specs.Lists.{linked}
use Rattle.tl_definitions.specs.declared.Corner.{Corner}
use Rattle.tl_definitions.specs.Region.{Region, is_step}
use Rattle.tl_grid.specs.Grid.{IsGrid}
use Rattle.tl_search.specs.Graphs.{has_step, Leads}
use Rattle.tl_extreme.specs.Paths.{IsDirectedPath}
use Rattle.tl_extreme.specs.CornerGraph.{place, corner_of, graph_of}
use Rattle.tl_extreme.proofs.CornerPlaces.{has-step, step-has}

last-map : {A B : Type 0} (f : A → B) (xs : List A) (o : Option A) → last_or (option_map f o) (map f xs) ≡ option_map f (last_or o xs)
last-map f [] o = refl
last-map f (x ∷ xs) o = last-map f xs (Some x)

linked-map : {A B : Type 0} (s : A → A → Bool) (t : B → B → Bool) (f : A → B) → ((x y : A) → s x y ≡ true → t (f x) (f y) ≡ true)
    → (xs : List A) → linked s xs ≡ true → linked t (map f xs) ≡ true
linked-map s t f keeps [] l = refl
linked-map s t f keeps (x ∷ []) l = refl
linked-map s t f keeps (x ∷ y ∷ ys) l =
    let p = and_parts (s x y) (linked s (y ∷ ys)) l in
    and_from (t (f x) (f y)) (linked t (map f (y ∷ ys))) (keeps x y p.0) (linked-map s t f keeps (y ∷ ys) p.1)

module _ (R : Region) (is_grid : IsGrid R) where
  -- the corners of a path of places
  pub leads-directed : (p q : ℕ) (path : List ℕ) → Leads (graph_of R).steps p q path → IsDirectedPath R (corner_of R p) (corner_of R q) (map (corner_of R) path)
  leads-directed p q path l =
      record {
        begins = slice_get-map (corner_of R) path 0 ∙ ap (option_map (corner_of R)) l.begins;
        ends = last-map (corner_of R) path None ∙ ap (option_map (corner_of R)) l.ends;
        directed = linked-map (has_step (graph_of R).steps) (is_step R) (corner_of R) (λ x y s. has-step R is_grid x y s) path l.directed;
      }

  -- the places of a directed path
  pub directed-leads : (u v : Corner) (path : List Corner) → IsDirectedPath R u v path → Leads (graph_of R).steps (place R u) (place R v) (map (place R) path)
  directed-leads u v path d =
      record {
        begins = slice_get-map (place R) path 0 ∙ ap (option_map (place R)) d.begins;
        ends = last-map (place R) path None ∙ ap (option_map (place R)) d.ends;
        directed = linked-map (is_step R) (has_step (graph_of R).steps) (place R) (λ x y s. step-has R is_grid x y s) path d.directed;
      }
