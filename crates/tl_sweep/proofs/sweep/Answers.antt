use Rattle.std.proofs.Common.{◌≡◌, ℕ, List, ℤ, sym, ◌∙◌, ap, subst}
use Rattle.tl_definitions.specs.declared.Kind.TheVariants.{Square, Triangle}
use Rattle.tl_definitions.specs.Lattice.{classes}
use Rattle.tl_definitions.specs.Region.{Region}
use Rattle.tl_definitions.specs.Accepted.{Accepted}
use Rattle.tl_lists.specs.Lists.{upto}
use Rattle.tl_steps.specs.Stepping.{AreSwept, is_of_class}
use Rattle.tl_sweep.specs.Sweeps.{bit_in}
use Rattle.tl_sweep.proofs.Turns.{three-turns, turns-heights, two-turns}
use Rattle.tl_sweep.proofs.sweep.Goals as goal

pub returns-in-Square-clause-tiling : goal.returns-in-Square-clause-tiling
returns-in-Square-clause-tiling c A tiling heights =
    let R = c.args.heights.now.region in
    let bits = bit_in c.args.words.now in
    let first = c.sweep_class.ensures.region in
    let second = c.sweep_class-2.ensures.region ∙ first in
    let kind : R.kind ≡ Square = sym (c.in-Square.ensures ∙ ap (λ (S : Region). S.kind) (c.region.ensures.region ∙ second)) in
    let accepted : Accepted R = subst (λ (S : Region). Accepted S) second c.region.ensures.accepted in
    let one = subst (λ (S : Region). AreSwept S c.sweep_class.new.heights.numbers c.sweep_class-2.new.heights.numbers bits (is_of_class S 1)) first c.sweep_class-2.ensures.swept in
    (turns-heights R bits (upto (classes R.kind)) A c.args.heights.now.numbers c.sweep_class-2.new.heights.numbers accepted (tiling, heights)
    (two-turns R bits c.args.heights.now.numbers c.sweep_class.new.heights.numbers c.sweep_class-2.new.heights.numbers kind c.sweep_class.ensures.swept one)).1

pub returns-in-Triangle-clause-tiling : goal.returns-in-Triangle-clause-tiling
returns-in-Triangle-clause-tiling c A tiling heights =
    let R = c.args.heights.now.region in
    let bits = bit_in c.args.words.now in
    let first = c.sweep_class.ensures.region in
    let second = c.sweep_class-2.ensures.region ∙ first in
    let kind : R.kind ≡ Triangle = sym (c.in-Triangle.ensures ∙ ap (λ (S : Region). S.kind) (c.region.ensures.region ∙ second)) in
    let accepted : Accepted R = subst (λ (S : Region). Accepted S) second c.region.ensures.accepted in
    let one = subst (λ (S : Region). AreSwept S c.sweep_class.new.heights.numbers c.sweep_class-2.new.heights.numbers bits (is_of_class S 1)) first c.sweep_class-2.ensures.swept in
    let two = subst (λ (S : Region). AreSwept S c.sweep_class-2.new.heights.numbers c.sweep_class-in-Triangle.new.heights.numbers bits (is_of_class S 2)) second c.sweep_class-in-Triangle.ensures.swept in
    (turns-heights R bits (upto (classes R.kind)) A c.args.heights.now.numbers c.sweep_class-in-Triangle.new.heights.numbers accepted (tiling, heights)
    (three-turns R bits c.args.heights.now.numbers c.sweep_class.new.heights.numbers c.sweep_class-2.new.heights.numbers c.sweep_class-in-Triangle.new.heights.numbers kind c.sweep_class.ensures.swept one two)).1
