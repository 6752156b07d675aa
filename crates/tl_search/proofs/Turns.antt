-- A turn of the search, as its calls tell it.
use Rattle.std.proofs.Common.{◌≡◌, ℕ, ◌^◌, List, Option, Some, None, subst, arith, ℤ, pos, neg_ℤ, ◌+ℤ◌, ◌<ℤ◌, ◌≤ℤ◌}
use Rattle.std.proofs.lemmas.Int.{ints}
use Rattle.tl_search.specs.declared.spreading.Source.{Source}
use Rattle.tl_search.specs.Graphs.{GraphMeaning, IsGraph}
use Rattle.tl_search.specs.Spreading.{AreSources}
use Rattle.tl_search.specs.Searching.{number_of, IsTaken, AreGiven, IsStopped, ArePassed}
use Rattle.tl_search.proofs.Search.{IsSpreading, IsTurn, turn}
use Rattle.tl_search.proofs.Giving.{below}

module _ (M : GraphMeaning) (sources : List Source) (is_graph : IsGraph M) (are_sources : AreSources M sources) where
  pub turn-taken : (numbers others : List ℤ) (queue : List ℕ) (next : ℕ) (queue' : List ℕ) (next' place : ℕ) → others ≡ numbers
      → IsSpreading M sources numbers queue next → IsTaken sources others queue next queue' next' (Some place) → IsTurn M sources numbers queue' next' place (number_of numbers place)
  turn-taken numbers others queue next queue' next' place e s t =
      turn M sources is_graph are_sources numbers queue next queue' next' place s (subst (λ (l : List ℤ). IsTaken sources l queue next queue' next' (Some place)) e t)

  -- the next number fits
  pub next-fits : (numbers : List ℤ) (queue : List ℕ) (next place : ℕ) → IsTurn M sources numbers queue next place (number_of numbers place)
      → (neg_ℤ (pos (2 ^ 30)) ≤ℤ number_of numbers place) × ((number_of numbers place +ℤ pos 1) <ℤ pos (2 ^ 31))
  next-fits numbers queue next place t =
      let high = below M sources is_graph are_sources next place (number_of numbers place) numbers queue t in
      ((t.search.known.known place t.inside t.reached).low, omega (arith, ints, high))

pub given-of : (number level : ℤ) (places : List ℕ) (numbers others : List ℤ) (queue : List ℕ) (numbers' : List ℤ) (queue' : List ℕ) (stop : Option ℕ)
    → number ≡ level +ℤ pos 1 → others ≡ numbers → stop ≡ None → ArePassed number places others queue numbers' queue' stop → AreGiven (level +ℤ pos 1) places numbers queue numbers' queue'
given-of number level places numbers others queue numbers' queue' stop e f h p =
    subst (λ (z : ℤ). ArePassed z places numbers queue numbers' queue' None) e
    (subst (λ (l : List ℤ). ArePassed number places l queue numbers' queue' None) f (subst (λ (o : Option ℕ). ArePassed number places others queue numbers' queue' o) h p))

pub stopped-of : (number level : ℤ) (places : List ℕ) (numbers others : List ℤ) (queue : List ℕ) (numbers' : List ℤ) (queue' : List ℕ) (stop : Option ℕ) (end : ℕ)
    → number ≡ level +ℤ pos 1 → others ≡ numbers → stop ≡ Some end → ArePassed number places others queue numbers' queue' stop → IsStopped (level +ℤ pos 1) places end numbers queue numbers' queue'
stopped-of number level places numbers others queue numbers' queue' stop end e f h p =
    subst (λ (z : ℤ). ArePassed z places numbers queue numbers' queue' (Some end)) e
    (subst (λ (l : List ℤ). ArePassed number places l queue numbers' queue' (Some end)) f (subst (λ (o : Option ℕ). ArePassed number places others queue numbers' queue' o) h p))
