use Rattle.std.proofs.Common.{◌∙◌, sym}
use Rattle.tl_packed.proofs.tests.is_right.Goals as goal

pub ends_are_told_apart-requires : goal.ends_are_told_apart-requires
ends_are_told_apart-requires c = c.in_ok-top.ensures ∙ sym c.in_ok-bottom.ensures

pub is_unpacked-requires : goal.is_unpacked-requires
is_unpacked-requires c = c.in_ok-top.ensures ∙ sym c.in_ok-bottom.ensures
