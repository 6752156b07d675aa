-- What a draw means for the status.
use Rattle.std.specs.Prelude.{Bool, true, false}
use Rattle.tl_chain.specs.declared.Drawn.{Drawn}
use Rattle.tl_chain.specs.declared.Drawn.TheVariants.{At, Late}

abbrev pub is_late_draw : Drawn → Bool
is_late_draw (At T) = false
is_late_draw Late = true
