use Rattle.tl_strings.proofs.Bits.{bit-upright}
use Rattle.tl_strings.proofs.square_words.upright_word.Goals as goal

pub returns : goal.returns
returns c place within = bit-upright c.args.here c.args.north c.args.south place
