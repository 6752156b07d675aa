use Rattle.std.specs.Vec.{with_items}
use Rattle.std.proofs.Common.{sym, ◌∙◌}
use Rattle.tl_string_sweep.proofs.AllClasses.{triangles-swept}
use Rattle.tl_string_sweep.proofs.Written.{written, written-size}
use Rattle.tl_string_sweep.proofs.sweeping.sweep_triangles.Goals as goal

pub returns-clause-swept : goal.returns-clause-swept
returns-clause-swept c R bits low high accepted layout slots has ends =
    let both = c.args.both.now in
    let new_0 = c.triangle_class.new.strings in
    let new_1 = c.triangle_class-2.new.strings in
    let new_2 = c.triangle_class-3.new.strings in
    let is_0 = written both.first _ new_0 c.deref_mut.ensures.value c.triangle_class.ensures.len in
    let is_1 = written both.second _ new_1 c.deref_mut-2.ensures.value c.triangle_class-2.ensures.len in
    let is_2 = written both.third _ new_2 c.deref_mut-3.ensures.value c.triangle_class-3.ensures.len in
    let steps_0 =
    rw (c.first.ensures.coins, c.first.ensures.lows, c.first.ensures.free, c.deref_mut.ensures.value, c.deref.ensures.value, c.deref-2.ensures.value, is_0) at c.triangle_class.ensures.stepped in
    let steps_1 =
    rw (c.second.ensures.coins, c.second.ensures.lows, c.second.ensures.free, c.deref_mut-2.ensures.value, c.deref-3.ensures.value, c.deref-4.ensures.value, is_1) at c.triangle_class-2.ensures.stepped in
    let steps_2 =
    rw (c.third.ensures.coins, c.third.ensures.lows, c.third.ensures.free, c.deref_mut-3.ensures.value, c.deref-5.ensures.value, c.deref-6.ensures.value, is_2) at c.triangle_class-3.ensures.stepped in
    let after =
    triangles-swept R c.args.layout.now c.args.slots.now bits c.args.coins.now accepted layout slots has (sym layout.kind ∙ c.requires.kind) both.first.items both.second.items both.third.items
    (with_items both.first new_0).items (with_items both.second new_1).items (with_items both.third new_2).items steps_0 steps_1 steps_2
    low high (record { low_lawful = ends.low_lawful; high_lawful = ends.high_lawful; holds = ends.holds })
    in
    record {
      size = record {
        first = written-size both.first new_0 ∙ ends.size.first;
        second = written-size both.second new_1 ∙ ends.size.second;
        third = written-size both.third new_2 ∙ ends.size.third;
      };
      low_lawful = after.low_lawful;
      high_lawful = after.high_lawful;
      holds = after.holds;
    }
