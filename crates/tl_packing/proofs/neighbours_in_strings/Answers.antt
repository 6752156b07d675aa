use Rattle.tl_packing.proofs.Places.{slot-not_first, square-beside, triangle-beside}
use Rattle.tl_packing.proofs.neighbours_in_strings.Goals as goal

pub returns : goal.returns
returns c = record {
  squares = λ R height first v kind frame inner. square-beside R height first frame v inner kind;
  triangles = λ R height first v kind frame inner. triangle-beside R height first frame v inner kind;
  not_first = λ R height first v frame inner. slot-not_first R height first frame v inner;
}
