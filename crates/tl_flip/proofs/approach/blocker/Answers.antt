use Rattle.std.proofs.Common.{sym, subst}
use Rattle.std.specs.Prelude.{IsTrue, MatchOption}
use Rattle.tl_definitions.specs.Region.{Region}
use Rattle.tl_flip.specs.Approach.{IsShort, can_move}
use Rattle.tl_flip.specs.declared.direction.Direction.{Direction}
use Rattle.tl_flip.proofs.Approaches.{Blocks, FoundFrom, FoundTo, blocks-down, blocks-up}
use Rattle.tl_flip.proofs.approach.blocker.Goals as goal

pub returns-in-Up : goal.returns-in-Up
returns-in-Up c =
    let R = c.args.target.now.region in
    let a = c.args.here.now.numbers in
    let b = c.args.target.now.numbers in
    subst (λ (way : Direction). MatchOption c.rising_to.result (IsTrue (can_move way R a c.args.corner)) (Blocks way R a b c.args.corner)) (sym c.in-Up.is)
    (blocks-up R a b c.args.corner c.requires.two c.rising_to.result (subst (λ (way : Direction). IsShort way R a b c.args.corner) c.in-Up.is c.requires.short)
    (subst (λ (S : Region). FoundTo S a c.args.corner c.rising_to.result) c.requires.region c.rising_to.ensures))

pub returns-in-Down : goal.returns-in-Down
returns-in-Down c =
    let R = c.args.target.now.region in
    let a = c.args.here.now.numbers in
    let b = c.args.target.now.numbers in
    subst (λ (way : Direction). MatchOption c.rising_from.result (IsTrue (can_move way R a c.args.corner)) (Blocks way R a b c.args.corner)) (sym c.in-Down.is)
    (blocks-down R a b c.args.corner c.requires.two c.rising_from.result (subst (λ (way : Direction). IsShort way R a b c.args.corner) c.in-Down.is c.requires.short)
    (subst (λ (S : Region). FoundFrom S a c.args.corner c.rising_from.result) c.requires.region c.rising_from.ensures))
