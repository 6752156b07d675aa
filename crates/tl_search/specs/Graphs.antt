-- Finite directed graphs, whose places are numbers.
use Rattle.std.specs.Prelude.{◌≡◌, ℕ, ◌^◌, ◌<◌, ◌≤◌, Bool, ◌==◌, List, slice_get, Some, None, IsTrue}
use Rattle.std.specs.List.{list_any, last_or}
use Rattle.tl_lists.specs.Lists.{linked}

-- What a graph means. Its places are some of the numbers below the count; from each of them steps lead to some, and
-- back from each go the places from which a step leads to it.
pub record GraphMeaning : Type 0 where
  pub count : ℕ
  pub is_place : ℕ → Bool
  pub steps : ℕ → List ℕ
  pub back : ℕ → List ℕ

-- whether one of these steps leads from the one place to the other
abbrev pub has_step : (ℕ → List ℕ) → ℕ → ℕ → Bool
has_step steps u v = list_any (λ w. w == v) (steps u)

-- the steps lead from places to places, and back are the same steps
pub record IsGraph (M : GraphMeaning) : Type 0 where
  pub few : M.count ≤ 2 ^ 29
  pub inside : (v : ℕ) → IsTrue (M.is_place v) → v < M.count
  pub to_places : (u v : ℕ) → IsTrue (M.is_place u) → IsTrue (has_step M.steps u v) → IsTrue (M.is_place v)
  pub from_places : (u v : ℕ) → IsTrue (M.is_place v) → IsTrue (has_step M.back v u) → IsTrue (M.is_place u)
  pub goes_back : (u v : ℕ) → IsTrue (M.is_place u) → IsTrue (has_step M.steps u v) → IsTrue (has_step M.back v u)
  pub comes_from : (u v : ℕ) → IsTrue (M.is_place v) → IsTrue (has_step M.back v u) → IsTrue (has_step M.steps u v)

-- the graph with its steps turned round
abbrev pub reversed : GraphMeaning → GraphMeaning
reversed M = record { count = M.count; is_place = M.is_place; steps = M.back; back = M.steps }

-- a list of places from one to another, from each of which a step leads to the next
pub record Leads (steps : ℕ → List ℕ) (u v : ℕ) (path : List ℕ) : Type 0 where
  pub begins : slice_get path 0 ≡ Some u
  pub ends : last_or None path ≡ Some v
  pub directed : IsTrue (linked (has_step steps) path)
