use Rattle.std.proofs.Common.{◌≡◌, ◌<◌, ◌^◌, take}
use Rattle.tl_formats.specs.Texts.{number_of}
use Rattle.tl_obstruction.proofs.numbers.plain.Given as goal

abbrev pub invariant-loop-byte : goal.invariant-loop-byte
invariant-loop-byte l = record { is : l.number ≡ number_of (take l.byte-index l.word); short : l.number < 10 ^ l.byte-index }
