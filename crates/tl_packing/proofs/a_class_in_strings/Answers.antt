use Rattle.std.proofs.Common.{arith}
use Rattle.tl_packing.proofs.Swept.{squares-held, triangles-held}
use Rattle.tl_packing.proofs.a_class_in_strings.Goals as goal

pub returns : goal.returns
returns c = record {
  squares = λ R height first k low high low' high' bits strings new coins lows free kind accepted frame lawful_low lawful_high swept_low swept_high has low_slots are_free same are both. record {
    low_end = squares-held R height first k 0 accepted frame low low' bits lawful_low swept_low strings new same both.low_end coins lows free has low_slots are_free (omega arith) kind are;
    high_end = squares-held R height first k 1 accepted frame high high' bits lawful_high swept_high strings new same both.high_end coins lows free has low_slots are_free (omega arith) kind are;
  };
  triangles = λ R height first k low high low' high' bits strings new coins lows free kind accepted frame lawful_low lawful_high swept_low swept_high has low_slots are_free same are both. record {
    low_end = triangles-held R height first k 0 accepted frame low low' bits lawful_low swept_low strings new same both.low_end coins lows free has low_slots are_free (omega arith) kind are;
    high_end = triangles-held R height first k 1 accepted frame high high' bits lawful_high swept_high strings new same both.high_end coins lows free has low_slots are_free (omega arith) kind are;
  };
}
