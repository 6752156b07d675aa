use Rattle.std.proofs.Common.{◌<◌, ◌∙◌, length, set, subst, arith}
use Rattle.std.proofs.lemmas.List.{get_or_default}
use Rattle.std.proofs.lemmas.List.Elements.{All-set}
use Rattle.tl_band.specs.declared.band.Band.{Band}
use Rattle.tl_band.specs.Bands.{AreSameRows, IsBandAt}
use Rattle.tl_crew.proofs.Same.{band-put, bands-more}
use Rattle.tl_crew.proofs.hands.round.Goals as goal

pub loop-j-preserved : goal.loop-j-preserved
loop-j-preserved g c =
    let course = g.S.Sweeping.course c.args.stretch.now in
    let kept = c.loop-j.invariant in
    let bands = c.loop-j.bands in
    let j = c.loop-j.j in
    let within : j < length bands = omega (arith, c.loop-j-test.true, kept.rows.count) in
    record {
      at = All-set (IsBandAt course) bands j c.turn.new.self c.turn.ensures.at kept.at;
      rows = bands-more c.args.bands.now bands (set bands j c.turn.new.self) kept.rows
          (band-put bands j c.turn.new.self within
          (λ d. subst (λ (b : Band). AreSameRows b c.turn.new.self) (get_or_default bands j c.index-bands-j.result d within) c.turn.ensures.rows));
      words = c.turn.ensures.words ∙ kept.words;
      function = c.turn.ensures.function ∙ kept.function;
      pieces = c.turn.ensures.pieces ∙ kept.pieces;
    }
