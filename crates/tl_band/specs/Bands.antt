-- A band during a stretch.
use Rattle.std.specs.Prelude.{◌≡◌, ◌⊎◌, ℕ, ◌+◌, ◌<◌, ◌≤◌}
use Rattle.tl_definitions.specs.Lattice.{classes}
use Rattle.tl_layout.specs.declared.layout.Layout.{Layout}
use Rattle.tl_packed.specs.OfClasses.{AreOfLayout}
use Rattle.tl_packed.specs.declared.strings.Strings.{Strings}
use Rattle.tl_courses.specs.Courses.{AreRowsAfter, bits_of, Course, steps_of}
use Rattle.tl_band.specs.declared.band.Band.{Band}
use Rattle.tl_band.specs.Edges.{arrived, IsEdgeAt, IsRowAfter}

-- The band's own rows are those that one thread has after as many classes, and the row beside them on each side is that of the
-- classes of which rows have come.
pub record IsBandAt (c : Course) (b : Band) : Type 0 where
  pub size : AreOfLayout c.layout b.strings
  pub above_first : b.upper.own ≡ b.upper.beside + 1
  pub below_last : b.lower.beside ≡ b.lower.own + 1
  pub some : b.upper.own ≤ b.lower.own
  pub end : b.lower.beside < c.layout.height
  pub within : b.done ≤ steps_of c
  pub own : AreRowsAfter c b.done b.upper.own b.lower.beside b.strings
  pub above : IsRowAfter c (arrived b.upper b.done) b.upper.beside b.strings
  pub below : IsRowAfter c (arrived b.lower b.done) b.lower.beside b.strings
  pub upper : IsEdgeAt c b.done b.upper
  pub lower : IsEdgeAt c b.done b.lower

-- A band that may begin a stretch: it has a row, and words stand above and below its rows.
pub record IsPlacedIn (l : Layout) (b : Band) : Type 0 where
  pub size : AreOfLayout l b.strings
  pub above_first : b.upper.own ≡ b.upper.beside + 1
  pub below_last : b.lower.beside ≡ b.lower.own + 1
  pub some : b.upper.own ≤ b.lower.own
  pub end : b.lower.beside < l.height

-- the same rows
pub record AreSameRows (old new : Band) : Type 0 where
  pub upper_own : new.upper.own ≡ old.upper.own
  pub upper_beside : new.upper.beside ≡ old.upper.beside
  pub lower_own : new.lower.own ≡ old.lower.own
  pub lower_beside : new.lower.beside ≡ old.lower.beside

-- a band of these rows of words
pub record IsOfRows (l : Layout) (first end : ℕ) (b : Band) : Type 0 where
  pub size : AreOfLayout l b.strings
  pub upper_own : b.upper.own ≡ first
  pub upper_beside : b.upper.beside + 1 ≡ first
  pub lower_own : b.lower.own + 1 ≡ end
  pub lower_beside : b.lower.beside ≡ end

-- In all rows but those from the first to before the end the bits are the old ones.
abbrev pub AreRowsKept : Layout → ℕ → ℕ → Strings → Strings → Type 0
AreRowsKept l first end old new = (class row slot : ℕ) → class < classes l.kind → row < l.height → (row < first) ⊎ (end ≤ row)
    → bits_of l.height new class row slot ≡ bits_of l.height old class row slot

-- the rows from the first to before the end are those after all classes
abbrev pub AreRowsDone : Course → ℕ → ℕ → Strings → Type 0
AreRowsDone c first end strings = AreRowsAfter c (steps_of c) first end strings
