-- What one step changes of the caller that steps.
use Rattle.std.specs.Prelude.{◌≡◌, ◌≢◌, ℕ, ◌+◌, ◌==◌, nat_lt, [], ◌∷◌, ◌++◌, cond, Option, Some, IsFalse, IsTrue, MatchBool, ◌-◌, ◌||◌, ◌&&◌, not}
use Rattle.atomic_table.specs.Table.{Me, rest}
use Rattle.tl_board.specs.declared.views.CallerView.{CallerView}
use Rattle.tl_board.specs.Hands.{Hands, hand}
use Rattle.tl_board.specs.Board.{is_member}

module _ {J : Type 0} where
  abbrev pub after_draw : CallerView (Option J) → ℕ → CallerView (Option J)
  after_draw c n = record c { drawn = c.drawn ++ n ∷ [] }

  abbrev pub after_past : CallerView (Option J) → ℕ → CallerView (Option J)
  after_past c n = record c { past = Some n }

  abbrev pub after_post : CallerView (Option J) → ℕ → CallerView (Option J)
  after_post c n = record c { posted = c.posted ++ n ∷ [] }

  -- a look or take of the number n that found the word w
  abbrev pub after_read : CallerView (Option J) → ℕ → ℕ → CallerView (Option J)
  after_read c n w = record c { last = Some (n, w); reads = c.reads + 1; seen = cond (w == 0) c.seen (c.seen ++ n ∷ []) }

  abbrev pub after_take : CallerView (Option J) → ℕ → CallerView (Option J)
  after_take c n = record c { taken = c.taken ++ n ∷ [] }

  -- the word that was read is not 0 where this caller knows that the number was posted
  abbrev pub IsKnownPosted : CallerView (Option J) → ℕ → ℕ → Type 0
  IsKnownPosted c n found = IsTrue (is_member c.posted n || is_member c.seen n) → found ≢ 0

  -- on a board with one caller, what it posted and did not take is what can be taken
  abbrev pub IsToldAlone : CallerView (Option J) → ℕ → ℕ → Type 0
  IsToldAlone c n found = c.callers ≡ 1 → (found == 1) ≡ (is_member c.posted n && not (is_member c.taken n))

module _ {P J : Type 0} where
  -- Word n + 1 is that of number n.
  abbrev pub Posts : ℕ → Me (Option P) (Hands J) → Me (Option P) (Hands J) → Type 0
  Posts word m m' = (m'.0 ≡ after_post (hand m.0) (word - 1) ∷ []) × (m'.1 ≡ rest m.1)

  abbrev pub Looks : ℕ → Me (Option P) (Hands J) → ℕ → Me (Option P) (Hands J) → Type 0
  Looks word m found m' = (m'.0 ≡ after_read (hand m.0) (word - 1) found ∷ []) × (m'.1 ≡ m.1) × IsKnownPosted (hand m.0) (word - 1) found

  abbrev pub HandsBack : Me (Option P) (Hands J) → Me (Option P) (Hands J) → Type 0
  HandsBack m m' = (m'.0 ≡ m.0) × (m'.1 ≡ rest m.1)

module _ {P J : Type 0} (job_of : P → J) where
  -- the number drawn is below count, and its slot is out with its blank
  abbrev pub DrawsBelow : Me (Option P) (Hands J) → ℕ → Me (Option P) (Hands J) → Type 0
  DrawsBelow m n m' =
      (m'.0 ≡ after_draw (hand m.0) n ∷ [])
      × IsFalse (is_member (hand m.0).drawn n)
      × IsFalse (is_member (hand m.0).posted n)
      × ((p : P) × (m'.1 ≡ (n, Some p) ∷ m.1) × (Some (job_of p) ≡ (hand m.0).job))

  abbrev pub DrawsPast : Me (Option P) (Hands J) → ℕ → Me (Option P) (Hands J) → Type 0
  DrawsPast m n m' = (m'.0 ≡ after_past (hand m.0) n ∷ []) × (m'.1 ≡ m.1)

  abbrev pub Draws : Me (Option P) (Hands J) → ℕ → Me (Option P) (Hands J) → Type 0
  Draws m n m' = MatchBool (nat_lt n (hand m.0).count) (DrawsBelow m n m') (DrawsPast m n m')

  -- The number's slot is out with its piece where the word was 1.
  module _ (filled_for : P → ℕ → Type 0) where
    abbrev pub GrabsNumber : ℕ → Me (Option P) (Hands J) → ℕ → Me (Option P) (Hands J) → Type 0
    GrabsNumber n m found m' = MatchBool (found == 1)
        ((m'.0 ≡ after_take (after_read (hand m.0) n found) n ∷ []) × ((p : P) × (m'.1 ≡ (n, Some p) ∷ m.1) × (Some (job_of p) ≡ (hand m.0).job) × filled_for p n))
        ((m'.0 ≡ after_read (hand m.0) n found ∷ []) × (m'.1 ≡ m.1))

    abbrev pub Grabs : ℕ → Me (Option P) (Hands J) → ℕ → Me (Option P) (Hands J) → Type 0
    Grabs word m found m' = GrabsNumber (word - 1) m found m' × IsKnownPosted (hand m.0) (word - 1) found × IsToldAlone (hand m.0) (word - 1) found
