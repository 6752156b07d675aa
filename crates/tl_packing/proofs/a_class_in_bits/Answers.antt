use Rattle.tl_packing.proofs.Swept.{square_bits-held, triangle_bits-held}
use Rattle.tl_packing.proofs.a_class_in_bits.Goals as goal

pub returns : goal.returns
returns c = record {
  squares = λ R height first k shift numbers others bits old new coin lows free kind accepted frame lawful swept has low_slots are_free same are below holds.
      square_bits-held R height first k shift accepted frame numbers others bits lawful swept old new same holds coin has lows free low_slots are_free below kind are;
  triangles = λ R height first k shift numbers others bits old new coin lows free kind accepted frame lawful swept has low_slots are_free same are below holds.
      triangle_bits-held R height first k shift accepted frame numbers others bits lawful swept old new same holds coin has lows free low_slots are_free below kind are;
}
