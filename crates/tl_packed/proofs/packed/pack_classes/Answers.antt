use Rattle.std.proofs.Common.{sym, ◌∙◌, ap}
use Rattle.tl_definitions.specs.declared.Kind.{Kind}
use Rattle.tl_layout.specs.Layouts.{size_of}
use Rattle.tl_packed.specs.OfClasses.{third_size}
use Rattle.tl_packed.proofs.Classes.{class-written, classes-packed}
use Rattle.tl_packed.proofs.packed.pack_classes.Goals as goal

pub returns-in-Square : goal.returns-in-Square
returns-in-Square c =
    let R = c.args.heights.now.region in
    let l = c.args.layout.now in
    let numbers = c.args.heights.now.numbers in
    let s = c.args.strings.now in
    classes-packed R l _ numbers c.region-region.ensures.accepted c.requires.layout c.region-region.ensures.lawful
    (class-written R l numbers 0 s.first c.pack.new.words c.deref_mut.result.now c.deref_mut.ensures.value c.pack.ensures.size c.requires.size.first c.pack.ensures.holds c.pack.ensures.only)
    (class-written R l numbers 1 s.second c.pack-2.new.words c.deref_mut-2.result.now c.deref_mut-2.ensures.value c.pack-2.ensures.size c.requires.size.second c.pack-2.ensures.holds c.pack-2.ensures.only)
    c.requires.size.third
    (λ triangle. absurd (cc (triangle, c.requires.layout.kind, c.in-Square.is)))

pub returns-in-Triangle : goal.returns-in-Triangle
returns-in-Triangle c =
    let R = c.args.heights.now.region in
    let l = c.args.layout.now in
    let numbers = c.args.heights.now.numbers in
    let s = c.args.strings.now in
    let as_triangle = ap (λ (k : Kind). third_size k (size_of l)) c.in-Triangle.is in
    let third =
    class-written R l numbers 2 s.third c.pack-in-Triangle.new.words c.deref_mut-in-Triangle.result.now c.deref_mut-in-Triangle.ensures.value c.pack-in-Triangle.ensures.size
    (c.requires.size.third ∙ as_triangle) c.pack-in-Triangle.ensures.holds c.pack-in-Triangle.ensures.only in
    classes-packed R l _ numbers c.region-region.ensures.accepted c.requires.layout c.region-region.ensures.lawful
    (class-written R l numbers 0 s.first c.pack.new.words c.deref_mut.result.now c.deref_mut.ensures.value c.pack.ensures.size c.requires.size.first c.pack.ensures.holds c.pack.ensures.only)
    (class-written R l numbers 1 s.second c.pack-2.new.words c.deref_mut-2.result.now c.deref_mut-2.ensures.value c.pack-2.ensures.size c.requires.size.second c.pack-2.ensures.holds c.pack-2.ensures.only)
    (third.size ∙ sym as_triangle)
    (λ _. third)
