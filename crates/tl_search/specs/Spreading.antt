-- Numbers that spread from sources along the steps of a graph, by 1 a step.
use Rattle.std.specs.Prelude.{◌≡◌, ◌≢◌, ℕ, ◌-◌, ◌^◌, ◌≤◌, List, length, slice_get, Some, ℤ, pos, neg_ℤ, ◌+ℤ◌, ◌-ℤ◌, ◌≤ℤ◌, ◌<ℤ◌, IsTrue}
use Rattle.tl_search.specs.declared.spreading.Source.{Source}
use Rattle.tl_search.specs.declared.spreading.Outcome.{Outcome}
use Rattle.tl_search.specs.declared.spreading.Outcome.TheVariants.{Filled, Undercut}
use Rattle.tl_search.specs.declared.spreading.TheConstants.{UNREACHED}
use Rattle.tl_search.specs.Graphs.{GraphMeaning, Leads}

-- Sources are places of the graph, each with one number, from the least number to the greatest.
pub record AreSources (M : GraphMeaning) (sources : List Source) : Type 0 where
  pub places : (i : ℕ) (s : Source) → slice_get sources i ≡ Some s → IsTrue (M.is_place s.place)
  pub one_number : (i j : ℕ) (s t : Source) → slice_get sources i ≡ Some s → slice_get sources j ≡ Some t → s.place ≡ t.place
      → s.number ≡ t.number
  pub in_order : (i j : ℕ) (s t : Source) → i ≤ j → slice_get sources i ≡ Some s → slice_get sources j ≡ Some t
      → s.number ≤ℤ t.number
  pub low : (i : ℕ) (s : Source) → slice_get sources i ≡ Some s → neg_ℤ (pos (2 ^ 30)) ≤ℤ s.number
  pub high : (i : ℕ) (s : Source) → slice_get sources i ≡ Some s → s.number ≤ℤ pos (2 ^ 30)

-- A place is reached with a number: that of a source and the number of steps of a path from there.
pub record Reaches (steps : ℕ → List ℕ) (sources : List Source) (v : ℕ) (number : ℤ) : Type 0 where
  pub i : ℕ
  pub source : Source
  pub is_source : slice_get sources i ≡ Some source
  pub path : List ℕ
  pub leads : Leads steps source.place v path
  pub adds : number ≡ source.number +ℤ pos (length path - 1)

-- The least numbers with which the places are reached, where the sources have their own; UNREACHED elsewhere.
pub record AreLeastNumbers (M : GraphMeaning) (sources : List Source) (numbers : List ℤ) : Type 0 where
  pub count : length numbers ≡ M.count
  pub own : (i : ℕ) (s : Source) → slice_get sources i ≡ Some s → slice_get numbers s.place ≡ Some s.number
  pub reached : (v : ℕ) (z : ℤ) → slice_get numbers v ≡ Some z → z ≢ UNREACHED → Reaches M.steps sources v z
  pub least : (v : ℕ) (z : ℤ) → Reaches M.steps sources v z
      → (n : ℤ) × (slice_get numbers v ≡ Some n) × (n ≢ UNREACHED) × (n ≤ℤ z)

-- A path from a source to a source whose number is greater by more than the path has steps.
pub record IsUndercut (M : GraphMeaning) (sources : List Source) (path : List ℕ) : Type 0 where
  pub i : ℕ
  pub j : ℕ
  pub from : Source
  pub to : Source
  pub is_from : slice_get sources i ≡ Some from
  pub is_to : slice_get sources j ≡ Some to
  pub leads : Leads M.steps from.place to.place path
  pub too_steep : pos (length path - 1) <ℤ (to.number -ℤ from.number)

abbrev pub IsSpread : GraphMeaning → List Source → Outcome → Type 0
IsSpread M sources (Filled numbers) = AreLeastNumbers M sources numbers.items
IsSpread M sources (Undercut path) = IsUndercut M sources path.items
