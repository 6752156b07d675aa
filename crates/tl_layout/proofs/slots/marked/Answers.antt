use Rattle.std.proofs.Common.{◌≡◌, ℕ, ◌*◌, ◌%◌, ◌^◌, ◌<◌, List, Vec, Global, length, get_or, set, ◌∙◌, ap, sym, arith}
use Rattle.std.specs.Int.{bit_at}
use Rattle.std.specs.Prelude.{◌==◌, bit_or}
use Rattle.std.proofs.lemmas.List.{get_or_read}
use Rattle.std.proofs.Math.ListN.{length-set}
use Rattle.tl_definitions.specs.Lattice.{class_of}
use Rattle.tl_layout.specs.Layouts.{corner_by}
use Rattle.tl_layout.proofs.Marks.{marked-kept, marked-more}
use Rattle.tl_layout.proofs.slots.marked.Goals as goal
use Rattle.tl_layout.proofs.slots.marked.Goals.{then-class_at-class, else-class_at-class}

pub loop-place-preserved : goal.loop-place-preserved
loop-place-preserved c =
    let l = c.args.layout.now in
    let places = c.args.places.now in
    let i = c.loop-place.place-index in
    let old = c.loop-place.words.items in
    let of_class : c.class_at.result ≡ class_of l.kind (corner_by l.width (get_or places i 0)) = c.class_at.ensures in
    elim c.if-class_at-class.branch [
      | then-class_at-class w ↦
          let spot = w.spot-spot.result in
          let within : spot.word < length old = omega (arith, c.loop-place.invariant.size, w.spot-spot.ensures.inside) in
          let items : c.if-class_at-class.words.items ≡ set old spot.word (bit_or (get_or old spot.word 0) (1 * 2 ^ spot.bit % 2 ^ 64)) =
          ap (λ (v : Vec ℕ Global). v.items) w.words-is ∙ ap (λ (n : ℕ). set old spot.word (bit_or n (1 * 2 ^ spot.bit % 2 ^ 64))) (get_or_read old spot.word w.index_mut.result.now within w.index_mut.ensures.value 0)
          in
          record {
            size = ap (λ (ns : List ℕ). length ns) items ∙ length-set old spot.word (bit_or (get_or old spot.word 0) (1 * 2 ^ spot.bit % 2 ^ 64)) ∙ c.loop-place.invariant.size;
            bits = λ word x h.
                ap (λ (ns : List ℕ). bit_at (get_or ns word 0) x == 1) items
                ∙ marked-more l c.args.class places i c.loop-place-test.true old spot.word spot.bit (sym of_class ∙ w.if-class_at-class.true) w.spot-spot.ensures.word w.spot-spot.ensures.bit within
                spot.bit_small c.loop-place.invariant.bits word x h;
          }
      | else-class_at-class w ↦
          let items : c.if-class_at-class.words.items ≡ old = ap (λ (v : Vec ℕ Global). v.items) w.words-is in
          record {
            size = ap (λ (ns : List ℕ). length ns) items ∙ c.loop-place.invariant.size;
            bits = λ word x h.
                ap (λ (ns : List ℕ). bit_at (get_or ns word 0) x == 1) items
                ∙ marked-kept l c.args.class places i c.loop-place-test.true old (λ e. w.if-class_at-class.false (of_class ∙ e)) c.loop-place.invariant.bits word x h;
          }
    ]
