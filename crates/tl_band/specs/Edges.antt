-- The edges of a band, and what it has of the borders there: an end of each, a row that is still to be sent, and rows to spare.
use Rattle.std.specs.Prelude.{◌≡◌, ℕ, ◌+◌, ◌<◌, ◌≤◌, Option, Some, None, All, length, List, IsFalse, MatchOption}
use Rattle.tl_definitions.specs.Lattice.{classes}
use Rattle.tl_border.specs.declared.row.Row.{Row}
use Rattle.tl_border.specs.Rows.{bits_of_row, other, rows_of}
use Rattle.tl_border.specs.Ends.{IsNextToSend}
use Rattle.tl_layout.specs.declared.layout.Layout.{Layout}
use Rattle.tl_packed.specs.declared.strings.Strings.{Strings}
use Rattle.tl_courses.specs.Courses.{Course, after, bits_of}
use Rattle.tl_band.specs.declared.edge.Edge.{Edge}
use Rattle.tl_band.specs.declared.edge.Link.{Link}
use Rattle.tl_band.specs.Handed.{edge_rows, row_at}
use Rattle.tl_band.specs.Words.{AreWordsOf}

-- how many rows are still to be sent
abbrev pub waiting : Option Row → ℕ
waiting None = 0
waiting (Some row) = 1

abbrev pub AreOfSize : ℕ → List Row → Type 0
AreOfSize strips rows = All (λ row. length row.words.items ≡ strips) rows

-- ---- during a stretch

-- Of a band that has swept so many classes: it sends its own edge row, and gets the row beside it. All of its own but one that
-- waits are sent, and of those beside it all are here but one at most.
pub record IsLinkAt (c : Course) (own beside done : ℕ) (k : Link) : Type 0 where
  pub sends : rows_of k.end.job k.end.side ≡ edge_rows c own
  pub gets : rows_of k.end.job (other k.end.side) ≡ edge_rows c beside
  pub sent : k.end.sent + waiting k.unsent ≡ done
  pub unsent : (row : Row) → k.unsent ≡ Some row → bits_of_row row ≡ row_at c own k.end.sent
  pub counted : k.end.received ≡ k.received
  pub not_ahead : k.received ≤ done
  pub near : done ≤ k.received + 1
  pub spare : AreOfSize c.layout.strips k.spare.items

-- a border to the row beside the band, or none where no slot of that row is free
abbrev pub IsSideAt : Course → ℕ → ℕ → ℕ → Option Link → Type 0
IsSideAt c own beside done None = (class slot : ℕ) → class < classes c.layout.kind → IsFalse (bits_of c.layout.height c.slots.free class beside slot)
IsSideAt c own beside done (Some k) = IsLinkAt c own beside done k

abbrev pub IsEdgeAt : Course → ℕ → Edge → Type 0
IsEdgeAt c done e = IsSideAt c e.own e.beside done e.link

-- how many rows have come over a border; where there is none, nothing has to come
abbrev pub received_of : Option Link → ℕ → ℕ
received_of None done = done
received_of (Some k) done = k.received

abbrev pub arrived : Edge → ℕ → ℕ
arrived e done = received_of e.link done

-- one row of the strings has the bits after so many classes
abbrev pub IsRowAfter : Course → ℕ → ℕ → Strings → Type 0
IsRowAfter c p row strings = (class slot : ℕ) → class < classes c.layout.kind → bits_of c.layout.height strings class row slot ≡ after c p class row slot

-- ---- what a call changes

-- the row that waits, if any, is the next to be sent
abbrev pub IsReadyToSend : Edge → Type 0
IsReadyToSend e = (k : Link) (row : Row) → e.link ≡ Some k → k.unsent ≡ Some row → IsNextToSend k.end row

-- The row that waited is sent, or waits still.
pub record IsServed (old new : Link) : Type 0 where
  pub job : new.end.job ≡ old.end.job
  pub side : new.end.side ≡ old.end.side
  pub sent : new.end.sent + waiting new.unsent ≡ old.end.sent + waiting old.unsent
  pub unsent : (row : Row) → new.unsent ≡ Some row → (old.unsent ≡ Some row) × (new.end.sent ≡ old.end.sent)
  pub received : new.end.received ≡ old.end.received
  pub counted : new.received ≡ old.received
  pub spare : new.spare ≡ old.spare

-- Nothing waits, and a row is to spare.
pub record IsFree (k : Link) : Type 0 where
  pub unsent : k.unsent ≡ None
  pub spare : 0 < length k.spare.items

-- All rows beside the band have come that its next class needs.
abbrev pub IsFreeAt : ℕ → Option Link → Type 0
IsFreeAt done None = Unit {0}
IsFreeAt done (Some k) = (k.received ≡ done) × IsFree k

-- The words of the band's edge row wait to be sent.
pub record IsOffered (l : Layout) (own : ℕ) (string : List ℕ) (old new : Link) : Type 0 where
  pub end : new.end ≡ old.end
  pub counted : new.received ≡ old.received
  pub row : Row
  pub unsent : new.unsent ≡ Some row
  pub size : length row.words.items ≡ l.strips
  pub words : AreWordsOf l own string row.words.items
  pub spare : AreOfSize l.strips new.spare.items

-- The borders of an edge before and after a call, where there is one, are in this relation.
abbrev pub AreLinked : (Link → Link → Type 0) → Option Link → Option Link → Type 0
AreLinked P None new = new ≡ None
AreLinked P (Some k) new = MatchOption new (⊥) (λ j. P k j)
