-- A band at the start of a stretch.
use Rattle.std.proofs.Common.{◌≡◌, ℕ, ◌+◌, ◌/◌, ◌<◌, ◌≤◌, refl, sym, ◌∙◌, ap, arith, Option, Some, None}
use Rattle.tl_definitions.specs.Lattice.{classes}
use Rattle.tl_packed.specs.declared.strings.Strings.{Strings}
use Rattle.tl_packed.specs.OfClasses.{AreOfLayout, of_class}
use Rattle.tl_row_sweep.specs.Rows.{AreTaken}
use Rattle.tl_courses.specs.Courses.{Course, after, bits_of}
use Rattle.tl_band.specs.declared.band.Band.{Band}
use Rattle.tl_band.specs.declared.edge.Link.{Link}
use Rattle.tl_band.specs.Bands.{IsBandAt, IsPlacedIn}
use Rattle.tl_band.specs.Edges.{IsRowAfter, IsSideAt, received_of}
use Rattle.tl_band.proofs.Rows.{kept-bit}

-- before the first class nothing has come
none-came : (c : Course) (own beside : ℕ) (o : Option Link) → IsSideAt c own beside 0 o → received_of o 0 ≡ 0
none-came c own beside None side = refl
none-came c own beside (Some k) side = omega (arith, side.not_ahead)

module _ (c : Course) (old : Band) (placed : IsPlacedIn c.layout old) (strings : Strings) (size : AreOfLayout c.layout strings)
    (taken : (class : ℕ) → class < classes c.layout.kind → AreTaken c.layout.height old.upper.beside (old.lower.beside + 1) (of_class c.start class) (of_class strings class)) where
  start-bit : (class row slot : ℕ) → class < classes c.layout.kind → old.upper.beside ≤ row → row < old.lower.beside + 1 → bits_of c.layout.height strings class row slot ≡ after c 0 class row slot
  start-bit class row slot within above below = kept-bit c.layout.height row slot (of_class c.start class) (of_class strings class) (taken class within (slot / 64) row above below)

  beside-begun : (own beside : ℕ) (o : Option Link) → IsSideAt c own beside 0 o → old.upper.beside ≤ beside → beside < old.lower.beside + 1 → IsRowAfter c (received_of o 0) beside strings
  beside-begun own beside o side above below class slot within =
      start-bit class beside slot within above below ∙ ap (λ (n : ℕ). after c n class beside slot) (sym (none-came c own beside o side))

  pub band-begun : (upper lower : Option Link) → IsSideAt c old.upper.own old.upper.beside 0 upper → IsSideAt c old.lower.own old.lower.beside 0 lower
      → IsBandAt c (record { strings = strings; upper = record { own = old.upper.own; beside = old.upper.beside; link = upper }; lower = record { own = old.lower.own; beside = old.lower.beside; link = lower }; done = 0 })
  band-begun upper lower upper_side lower_side = record {
    size = size;
    above_first = placed.above_first;
    below_last = placed.below_last;
    some = placed.some;
    end = placed.end;
    within = omega arith;
    own = λ class row slot within above below. start-bit class row slot within (omega (arith, above, placed.above_first)) (omega (arith, below));
    above = beside-begun old.upper.own old.upper.beside upper upper_side (omega arith) (omega (arith, placed.above_first, placed.some, placed.below_last));
    below = beside-begun old.lower.own old.lower.beside lower lower_side (omega (arith, placed.above_first, placed.some, placed.below_last)) (omega arith);
    upper = upper_side;
    lower = lower_side;
  }
