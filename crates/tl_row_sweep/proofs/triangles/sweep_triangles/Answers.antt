use Rattle.std.proofs.Common.{◌≡◌, ℕ, ◌+◌, ◌%◌, subst, arith}
use Rattle.std.specs.Vec.{with_items}
use Rattle.tl_packing.specs.Packing.{AreSteppedTrianglesIn}
use Rattle.tl_packed.specs.OfClasses.{of_class}
use Rattle.tl_string_sweep.specs.Sweeps.{AreInside}
use Rattle.tl_string_sweep.proofs.Written.{written}
use Rattle.tl_row_sweep.proofs.triangles.sweep_triangles.Goals as goal

-- the class that is neither the first nor the second
pub returns-in_default-clause-stepped : goal.returns-in_default-clause-stepped
returns-in_default-clause-stepped c =
    let a = c.args in
    let l = a.layout.now in
    let both = a.both.now in
    let slots = a.slots.now in
    let new = c.triangle_rows-in_default.new.strings in
    let third = with_items both.third new in
    let last : 2 ≡ a.class = omega (arith, c.in_default) in
    let is = written both.third _ new c.deref_mut-in_default.ensures.value c.triangle_rows-in_default.ensures.len in
    let steps =
    rw (
      c.third.ensures.coins,
      c.third.ensures.lows,
      c.third.ensures.free,
      c.deref_mut-in_default.ensures.value,
      c.deref-in_default.ensures.value,
      c.deref-in_default-2.ensures.value,
      is,
    ) at c.triangle_rows-in_default.ensures.stepped in
    subst
    (λ (class : ℕ). AreInside l.height (of_class slots.free class)
    → AreSteppedTrianglesIn l.height a.first a.end class (of_class both ((class + 1) % 3)) (of_class both ((class + 2) % 3)) a.coins.now
    (of_class slots.lows class) (of_class slots.free class) (of_class both class) (of_class (record { first = both.first; second = both.second; third = third }) class))
    last steps
