use Rattle.std.proofs.Common.{ℕ, List, Vec, Global, All, sym, subst}
use Rattle.tl_layout.specs.Layouts.{StandsBy}
use Rattle.tl_layout.proofs.Marks.{marked-slots-ok}
use Rattle.tl_layout.proofs.Stood.{all-stand}
use Rattle.tl_layout.proofs.slots.mark_slots.Goals as goal

pub marked-requires : goal.marked-requires
marked-requires c =
    subst (λ (places : List ℕ). All (StandsBy c.args.layout.now) places) (sym c.inner_places.ensures.places) (all-stand c.args.region.now c.args.layout.now c.requires)

pub returns : goal.returns
returns c =
    marked-slots-ok (λ (v : Vec ℕ Global). v.items) c.args.region.now c.args.layout.now c.args.class c.inner_places.result.now c.marked.result c.requires c.inner_places.ensures.places c.marked.ensures.size
    c.marked.ensures.bits
