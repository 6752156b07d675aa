-- What the parts of the search do.
use Rattle.std.specs.Prelude.{◌≡◌, ◌≢◌, ◌⊎◌, ℕ, ◌+◌, ◌-◌, ◌<◌, ◌≤◌, Bool, true, false, List, [], ◌∷◌, ◌++◌, length, slice_get, slice_index, slice_index_or, slice_set, Option, Some, None, ℤ, pos, ◌+ℤ◌, ◌≤ℤ◌, ◌<ℤ◌, IsTrue}
use Rattle.tl_search.specs.declared.spreading.Source.{Source}
use Rattle.tl_search.specs.declared.spreading.TheConstants.{UNREACHED}
use Rattle.tl_search.specs.Graphs.{GraphMeaning, has_step, Leads}

abbrev pub number_of : List ℤ → ℕ → ℤ
number_of numbers v = slice_index_or numbers v (pos 0)

-- At first each source has its number, and no other place has one.
pub record AreFirstNumbers (M : GraphMeaning) (sources : List Source) (numbers : List ℤ) : Type 0 where
  pub count : length numbers ≡ M.count
  pub own : (i : ℕ) (s : Source) → slice_get sources i ≡ Some s → number_of numbers s.place ≡ s.number
  pub others : (v : ℕ) → v < M.count → number_of numbers v ≢ UNREACHED → (i : ℕ) × (s : Source) × (slice_get sources i ≡ Some s) × (s.place ≡ v)

-- The place taken is the first of the queue, which it leaves, or that of the next source, whichever has the lesser number.
pub record IsTakenOfQueue (sources : List Source) (numbers : List ℤ) (queue : List ℕ) (next : ℕ) (queue' : List ℕ) (next' place : ℕ) : Type 0 where
  pub queue_is : queue ≡ place ∷ queue'
  pub next_is : next' ≡ next
  pub least : (s : Source) → slice_get sources next ≡ Some s → number_of numbers place <ℤ s.number

pub record IsTakenOfSources (sources : List Source) (numbers : List ℤ) (queue : List ℕ) (next : ℕ) (queue' : List ℕ) (next' place : ℕ) : Type 0 where
  pub source : Source
  pub is_source : slice_get sources next ≡ Some source
  pub place_is : place ≡ source.place
  pub queue_is : queue' ≡ queue
  pub next_is : next' ≡ next + 1
  pub least : 0 < length queue → source.number ≤ℤ number_of numbers (slice_index queue 0)

abbrev pub IsTaken : List Source → List ℤ → List ℕ → ℕ → List ℕ → ℕ → Option ℕ → Type 0
IsTaken sources numbers queue next queue' next' None = (length sources ≤ next) × (length queue ≡ 0)
IsTaken sources numbers queue next queue' next' (Some place) =
    IsTakenOfQueue sources numbers queue next queue' next' place ⊎ IsTakenOfSources sources numbers queue next queue' next' place

-- A number is given to a place that has none, and one that is no greater stays. Other numbers are too great.
pub record IsTooGreat (number : ℤ) (to : ℕ) (numbers : List ℤ) (queue : List ℕ) (numbers' : List ℤ) (queue' : List ℕ) : Type 0 where
  pub numbers_same : numbers' ≡ numbers
  pub queue_same : queue' ≡ queue
  pub greater : number <ℤ number_of numbers to
  pub reached : number_of numbers to ≢ UNREACHED

abbrev pub IsGiven : ℤ → ℕ → List ℤ → List ℕ → List ℤ → List ℕ → Type 0
IsGiven number to numbers queue numbers' queue' =
    ((number_of numbers to ≤ℤ number) × (numbers' ≡ numbers) × (queue' ≡ queue))
    ⊎ ((number_of numbers to ≡ UNREACHED) × (numbers' ≡ slice_set numbers to number) × (queue' ≡ queue ++ to ∷ []))

abbrev pub IsOffered : ℤ → Option ℕ → List ℤ → List ℕ → List ℤ → List ℕ → Bool → Type 0
IsOffered number None numbers queue numbers' queue' too_great = (too_great ≡ false) × (numbers' ≡ numbers) × (queue' ≡ queue)
IsOffered number (Some to) numbers queue numbers' queue' true = IsTooGreat number to numbers queue numbers' queue'
IsOffered number (Some to) numbers queue numbers' queue' false = IsGiven number to numbers queue numbers' queue'

-- given to all of these places, one after the other
abbrev pub AreGiven : ℤ → List ℕ → List ℤ → List ℕ → List ℤ → List ℕ → Type 0
AreGiven number [] numbers queue numbers' queue' = (numbers' ≡ numbers) × (queue' ≡ queue)
AreGiven number (to ∷ places) numbers queue numbers' queue' =
    (between : List ℤ) × (waiting : List ℕ) × IsGiven number to numbers queue between waiting × AreGiven number places between waiting numbers' queue'

-- given to the first of these places, up to one whose number is too great
pub record IsStopped (number : ℤ) (places : List ℕ) (stop : ℕ) (numbers : List ℤ) (queue : List ℕ) (numbers' : List ℤ) (queue' : List ℕ) : Type 0 where
  pub front : List ℕ
  pub back : List ℕ
  pub places_are : places ≡ front ++ stop ∷ back
  pub given : AreGiven number front numbers queue numbers' queue'
  pub greater : number <ℤ number_of numbers' stop
  pub reached : number_of numbers' stop ≢ UNREACHED

abbrev pub ArePassed : ℤ → List ℕ → List ℤ → List ℕ → List ℤ → List ℕ → Option ℕ → Type 0
ArePassed number places numbers queue numbers' queue' None = AreGiven number places numbers queue numbers' queue'
ArePassed number places numbers queue numbers' queue' (Some stop) = IsStopped number places stop numbers queue numbers' queue'

-- the places are some of a list of numbers
abbrev pub IsPlaceOf : List ℤ → Option ℕ → Type 0
IsPlaceOf numbers None = Unit {0}
IsPlaceOf numbers (Some v) = v < length numbers

abbrev pub HasNumber : List ℤ → ℤ → Option ℕ → Type 0
HasNumber numbers number None = ⊥
HasNumber numbers number (Some v) = number_of numbers v ≡ number

-- a place from which a step leads to this one, and whose number is less by 1
abbrev pub IsBefore : GraphMeaning → List ℤ → ℕ → Option ℕ → Type 0
IsBefore M numbers place None = (u : ℕ) → IsTrue (has_step M.back place u) → number_of numbers u +ℤ pos 1 ≢ number_of numbers place
IsBefore M numbers place (Some u) = IsTrue (has_step M.back place u) × (number_of numbers u +ℤ pos 1 ≡ number_of numbers place)

-- A path along which numbers rise by 1 a step, and then one step more to its end. It begins where nothing leads to with a
-- number less by 1.
pub record IsTraced (M : GraphMeaning) (numbers : List ℤ) (place end : ℕ) (path : List ℕ) : Type 0 where
  pub first : ℕ
  pub is_place : IsTrue (M.is_place first)
  pub leads : Leads M.steps first end path
  pub rises : number_of numbers place +ℤ pos 1 ≡ number_of numbers first +ℤ pos (length path - 1)
  pub longer : 1 < length path
  pub is_first : IsBefore M numbers first None
