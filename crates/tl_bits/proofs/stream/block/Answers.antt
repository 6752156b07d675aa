use Rattle.rand_chacha.specs.ChaCha.{next_word}
use Rattle.tl_bits.proofs.Blocks.{no_more, one_more, block_of-first_words}
use Rattle.tl_bits.proofs.stream.block.Goals as goal

pub returns-clause-words : goal.returns-clause-words
returns-clause-words c =
    block_of-first_words _ _ (
    one_more (next_word 10) 15 _ _ _ _ c.next_word.ensures
    (one_more (next_word 10) 14 _ _ _ _ c.next_word-2.ensures
    (one_more (next_word 10) 13 _ _ _ _ c.next_word-3.ensures
    (one_more (next_word 10) 12 _ _ _ _ c.next_word-4.ensures
    (one_more (next_word 10) 11 _ _ _ _ c.next_word-5.ensures
    (one_more (next_word 10) 10 _ _ _ _ c.next_word-6.ensures
    (one_more (next_word 10) 9 _ _ _ _ c.next_word-7.ensures
    (one_more (next_word 10) 8 _ _ _ _ c.next_word-8.ensures
    (one_more (next_word 10) 7 _ _ _ _ c.next_word-9.ensures
    (one_more (next_word 10) 6 _ _ _ _ c.next_word-10.ensures
    (one_more (next_word 10) 5 _ _ _ _ c.next_word-11.ensures
    (one_more (next_word 10) 4 _ _ _ _ c.next_word-12.ensures
    (one_more (next_word 10) 3 _ _ _ _ c.next_word-13.ensures
    (one_more (next_word 10) 2 _ _ _ _ c.next_word-14.ensures
    (one_more (next_word 10) 1 _ _ _ _ c.next_word-15.ensures
    (one_more (next_word 10) 0 _ _ _ _ c.next_word-16.ensures
    (no_more (next_word 10) _))))))))))))))))) c.requires
