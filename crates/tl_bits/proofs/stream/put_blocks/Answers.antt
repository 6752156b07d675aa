use Rattle.std.proofs.Common.{◌+◌, ◌*◌, arith}
use Rattle.tl_bits.proofs.Rings.{put_words, put_more}
use Rattle.tl_bits.proofs.stream.put_blocks.Goals as goal

pub returns-clause-words : goal.returns-clause-words
returns-clause-words c =
    let start = 16 * c.args.number in
    let seek = c.set_word_pos.ensures in
    let one = rw seek at c.block-first.ensures.words in
    let two = rw (c.block-first.ensures.after, seek) at c.block-second.ensures.words in
    let three = rw (c.block-second.ensures.after, c.block-first.ensures.after, seek) at c.block-third.ensures.words in
    let four = rw (c.block-third.ensures.after, c.block-second.ensures.after, c.block-first.ensures.after, seek) at c.block-fourth.ensures.words in
    let first = put_words c.put_block.ensures one (omega (arith, c.from.ensures)) in
    let second = put_words c.put_block-2.ensures two (omega (arith, c.from.ensures)) in
    let third = put_words c.put_block-3.ensures three (omega (arith, c.from.ensures)) in
    let fourth = put_words c.put_block-4.ensures four (omega (arith, c.from.ensures)) in
    let front = put_more first second (omega arith) (omega arith) (omega arith) (start + 32) (omega arith) (omega arith) in
    let most = put_more front third (omega arith) (omega arith) (omega arith) (start + 48) (omega arith) (omega arith) in
    put_more most fourth (omega arith) (omega arith) (omega arith) (start + 64) (omega arith) (omega arith)
