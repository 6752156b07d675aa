use Rattle.tl_bits.proofs.Keys.{key_of-seed}
use Rattle.tl_bits.proofs.stream.generator.Goals as goal

pub returns : goal.returns
returns c =
    rw (c.set_stream.ensures, c.from_seed-generator.ensures, c.copy_from_slice.ensures.after, c.to_le_bytes.ensures, c.from.ensures)
    (rw (key_of-seed c.args.seed c.ranges.seed.fits))
