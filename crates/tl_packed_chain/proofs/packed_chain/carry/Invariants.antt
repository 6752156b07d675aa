use Rattle.std.proofs.Common.{◌≡◌, length}
use Rattle.tl_definitions.specs.Region.{Region}
use Rattle.tl_bits.specs.Bits.{bit_at}
use Rattle.tl_layout.specs.Layouts.{size_of}
use Rattle.tl_packed.specs.OfClasses.{AreOfLayout}
use Rattle.tl_packed_chain.specs.Ready.{IsReady}
use Rattle.tl_packed_chain.proofs.Left.{IsLeft}
use Rattle.tl_packed_chain.proofs.packed_chain.carry.Given as goal

abbrev pub invariant-loop-earlier : goal.invariant-loop-earlier
invariant-loop-earlier g l = record {
  same_words : g.B.Bits.words l.kept.bits ≡ g.B.Bits.words l.fn.kept.bits;
  same_function : g.B.Bits.word_at l.kept.bits ≡ g.B.Bits.word_at l.fn.kept.bits;
  coins_size : length l.coins ≡ size_of l.layout;
  both_size : AreOfLayout l.layout l.both;
  left : (R : Region) → IsReady R l.layout l.slots l.pieces
      → IsLeft R l.layout (bit_at (g.B.Bits.word_at l.fn.kept.bits)) l.from l.fn.both l.earlier l.both;
}
