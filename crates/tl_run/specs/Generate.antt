-- What `gen` answers: the text of the shape; with its flag a summary of the region that it is of. It reads no input.
use Rattle.std.specs.Prelude.{MatchBool}
use Rattle.tl_text.specs.declared.GenJob.{GenJob}
use Rattle.tl_text.specs.Shapes.{shape_text}
use Rattle.tl_run.specs.Answers.{answer, Allows, Is}
use Rattle.tl_run.specs.Summary.{SummaryReply}

abbrev pub ShapeReply : GenJob → Allows
ShapeReply gen = Is (answer (shape_text gen.shape gen.order) 0)

abbrev pub GenReply : GenJob → Allows
GenReply gen a = MatchBool gen.summary (SummaryReply gen a) (ShapeReply gen a)
