use Rattle.std.proofs.Common.{◌++◌, Ok, Err, OnErr, Some, None}
use Rattle.std.proofs.lemmas.Result.{on_ok_weaker, on_err_weaker}
use Rattle.std.specs.Prelude.{Result}
use Rattle.tl_text.specs.SampleLine.{sample_line}
use Rattle.tl_run.specs.Pages.{Gathers}
use Rattle.tl_run.specs.Writing.{Cuts}
use Rattle.tl_run.proofs.PageLemmas.{Cuts-early, Gathers-more, Cuts-gathered}
use Rattle.tl_run.proofs.draws.put_drawing.Goals as goal

anyway : {X E P : Type 0} (r : Result X E) → P → OnErr r P
anyway (Ok x) p = tt
anyway (Err e) p = p

pub returns-in_err-put_head-clause-cut : goal.returns-in_err-put_head-clause-cut
returns-in_err-put_head-clause-cut g c =
    let line = sample_line c.args.number (Some c.args.start) None in
    let start = g.K.Sink.state c.args.sink.now in
    let end = g.K.Sink.state c.put_head.new.sink in
    anyway c.from_residual.result (Cuts-early c.args.page.now line c.args.letters.now start end c.in_err-put_head.ensures.cut)

pub returns-clause-whole : goal.returns-clause-whole
returns-clause-whole g c =
    let line = sample_line c.args.number (Some c.args.start) None in
    let letters = c.args.letters.now in
    let page = c.put_head.new.page in
    let start = g.K.Sink.state c.args.sink.now in
    let mid = g.K.Sink.state c.put_head.new.sink in
    let end = g.K.Sink.state c.put.new.sink in
    on_ok_weaker c.put.result
    (λ (last : Gathers page letters c.put.new.self mid end). Gathers-more c.args.page.now line page letters c.put.new.self start mid end c.in_ok-put_head.ensures.whole last)
    c.put.ensures.whole

pub returns-clause-cut : goal.returns-clause-cut
returns-clause-cut g c =
    let line = sample_line c.args.number (Some c.args.start) None in
    let letters = c.args.letters.now in
    let page = c.put_head.new.page in
    let start = g.K.Sink.state c.args.sink.now in
    let mid = g.K.Sink.state c.put_head.new.sink in
    let end = g.K.Sink.state c.put.new.sink in
    on_err_weaker c.put.result (λ (cut : Cuts (page ++ letters) mid end). Cuts-gathered c.args.page.now line page letters start mid end c.in_ok-put_head.ensures.whole cut)
    c.put.ensures.cut
