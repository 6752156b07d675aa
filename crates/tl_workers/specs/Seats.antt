-- A caller of a board with its worker, before the work and after it.
use Rattle.std.specs.Prelude.{◌≡◌, ℕ, [], Option, Some, is_some, IsTrue, ⊤}
use Rattle.tl_board.specs.declared.caller.Left.{Left}
use Rattle.tl_board.specs.declared.caller.Left.TheVariants.{Unclaimed, Posted, Taken}
use Rattle.tl_board.specs.declared.views.CallerView.{CallerView}

module _ {J : Type 0} where
  -- the caller posted all that it drew, and took nothing
  pub record IsIdle (c : CallerView (Option J)) : Type 0 where
    pub all_posted : c.posted ≡ c.drawn
    pub none_taken : c.taken ≡ []

  -- it was told besides that there are no more numbers, of this job and count
  pub record IsDone (job : Option J) (count : ℕ) (c : CallerView (Option J)) : Type 0 where
    pub idle : IsIdle c
    pub of_job : c.job ≡ job
    pub of_count : c.count ≡ count
    pub told : IsTrue (is_some c.past)

  -- the worker serves the job of the caller
  abbrev pub Serves : {W : Type 0} → (W → J → Type 0) → CallerView (Option J) → W → Type 0
  Serves serves c worker = (job : J) → c.job ≡ Some job → serves worker job

-- a piece was posted, and not taken
abbrev pub IsPosted : {P : Type 0} → Left P → Type 0
IsPosted (Unclaimed p) = ⊥
IsPosted (Posted p) = ⊤
IsPosted Taken = ⊥
