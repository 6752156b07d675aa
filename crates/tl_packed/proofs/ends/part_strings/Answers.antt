use Rattle.std.proofs.Common.{ℕ, ◌+◌, length, refl, ◌∙◌, ap, arith}
use Rattle.tl_packed.proofs.PartStrings.{parted-strings}
use Rattle.tl_packed.proofs.ends.part_strings.Goals as goal

pub returns-clause-low : goal.returns-clause-low
returns-clause-low c =
    let first = rw (c.height-height.ensures, c.deref.ensures.value, c.deref-2.ensures.value, c.deref_mut.ensures.value) at c.part_class.ensures.low in
    let second = rw (c.height-height.ensures, c.deref-3.ensures.value, c.deref-4.ensures.value, c.deref_mut-3.ensures.value) at c.part_class-2.ensures.low in
    let third = rw (c.height-height.ensures, c.deref-5.ensures.value, c.deref-6.ensures.value, c.deref_mut-5.ensures.value) at c.part_class-3.ensures.low in
    parted-strings c.args.layout.now 0 (λ (slot : ℕ). slot) c.args.both.now c.args.lows.now c.args.low.now c.args.low.now c.part_class.new.low c.part_class-2.new.low c.part_class-3.new.low
    (λ slot. omega arith) c.requires.low_size c.requires.low_size
    (c.part_class.ensures.low_len ∙ ap length c.deref_mut.ensures.value) (c.part_class-2.ensures.low_len ∙ ap length c.deref_mut-3.ensures.value) (c.part_class-3.ensures.low_len ∙ ap length c.deref_mut-5.ensures.value)
    first second third

pub returns-clause-high : goal.returns-clause-high
returns-clause-high c =
    let first = rw (c.height-height.ensures, c.deref.ensures.value, c.deref-2.ensures.value, c.deref_mut.ensures.value, c.deref_mut-2.ensures.value) at c.part_class.ensures.high in
    let second = rw (c.height-height.ensures, c.deref-3.ensures.value, c.deref-4.ensures.value, c.deref_mut-3.ensures.value, c.deref_mut-4.ensures.value) at c.part_class-2.ensures.high in
    let third = rw (c.height-height.ensures, c.deref-5.ensures.value, c.deref-6.ensures.value, c.deref_mut-5.ensures.value, c.deref_mut-6.ensures.value) at c.part_class-3.ensures.high in
    parted-strings c.args.layout.now 1 (λ (slot : ℕ). slot + 1) c.args.both.now c.args.lows.now c.args.low.now c.args.high.now c.part_class.new.high c.part_class-2.new.high c.part_class-3.new.high
    (λ slot. refl) c.requires.low_size c.requires.high_size
    (c.part_class.ensures.high_len ∙ ap length c.deref_mut-2.ensures.value) (c.part_class-2.ensures.high_len ∙ ap length c.deref_mut-4.ensures.value) (c.part_class-3.ensures.high_len ∙ ap length c.deref_mut-6.ensures.value)
    first second third
