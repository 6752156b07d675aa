use Rattle.tl_bits.specs.Bits.{bit_at}
use Rattle.tl_courses.specs.Courses.{IsCourseOf}
use Rattle.tl_band.specs.Stretches.{course_by}
use Rattle.tl_banded.proofs.Ends.{OnOk-weaker, course-of, ends-done}
use Rattle.tl_banded.proofs.carry.carry.Goals as goal

pub sweep_by_hands-requires-clause-course : goal.sweep_by_hands-requires-clause-course
sweep_by_hands-requires-clause-course g c κs within =
    let ground = c.args.ground.now in
    course-of ground.region.now ground.layout ground.slots c.args.start.now (bit_at (g.B.Bits.word_at c.args.bits.now)) c.args.from c.requires.accepted c.requires.layout
    ground.slots_of c.requires.begun (λ class bits. c.coins_of_a_region.ensures ground.region.now ground.layout class bits c.requires.accepted c.requires.layout)

pub returns-clause-carried : goal.returns-clause-carried
returns-clause-carried g c =
    let ground = c.args.ground.now in
    let R = ground.region.now in
    let bits = bit_at (g.B.Bits.word_at c.args.bits.now) in
    let course = course_by R ground.layout ground.slots c.args.start.now bits c.args.from in
    let is : IsCourseOf R bits course = course-of R ground.layout ground.slots c.args.start.now bits c.args.from c.requires.accepted c.requires.layout ground.slots_of c.requires.begun
    (λ class b. c.coins_of_a_region.ensures R ground.layout class b c.requires.accepted c.requires.layout) in
    OnOk-weaker c.sweep_by_hands.result _ _
    (λ rows. ends-done R bits course is c.sweep_by_hands.new.both rows c.sweep_by_hands.ensures.size
    (λ shift numbers lawful near held. c.classes_in_turn.ensures R bits course shift numbers is lawful near held)) c.sweep_by_hands.ensures.rows
