use Rattle.tl_definitions.proofs.InnerNumbers.{inner-at}
use Rattle.tl_packing.proofs.Places.{class-apart}
use Rattle.tl_packing.proofs.Slots.{inner-after, inner-before, inner-coin, inner-free, outer-free}
use Rattle.tl_packing.proofs.one_class_apart.Goals as goal

pub returns : goal.returns
returns c = record {
  apart = class-apart;
  before = λ R height first k v lows accepted frame low inner of_class. inner-before R height first k accepted frame lows low v inner of_class;
  behind = λ R height first k v lows accepted frame low inner of_class. inner-after R height first k accepted frame lows low v inner of_class;
  coin = λ R height first k i shift v bits coins lows accepted frame low has at of_class l.
      inner-coin R height first k accepted frame lows low coins (bits i) v shift (inner-at R v i at) of_class (has i v at) l;
  free = λ R height first k shift v lows free accepted frame low are_free inner of_class l.
      inner-free R height first k accepted frame lows low free are_free v shift inner of_class l;
  bound = λ R height first k shift v lows free accepted frame low are_free of_region of_class outer near l.
      outer-free R height first k accepted frame lows low free are_free v shift of_region of_class near outer l;
}
