use Rattle.std.proofs.Common.{rules, ◌≡◌, ap, ◌∙◌, sym}
use Rattle.std.specs.Prelude.{Some, slice_get}
use Rattle.tl_border.specs.declared.row.Row.{Row}
use Rattle.tl_border.specs.declared.row.Side.TheVariants.{Upper}
use Rattle.tl_border.specs.Rows.{bits_of_row, rows_of}
use Rattle.tl_border.specs.Ends.{EndView, IsNextToSend}
use Rattle.tl_border.specs.Levels.{level, three_up}
use Rattle.tl_border.proofs.tests.the_upper_side_sends_and_the_lower_side_receives.Goals as goal

third_is_next : (e : EndView) (row : Row) → e.job ≡ three_up → e.side ≡ Upper → e.sent ≡ 2 → bits_of_row row ≡ level 3 → IsNextToSend e row
third_is_next e row job side sent is =
    ap (λ j. slice_get (rows_of j e.side) e.sent) job ∙ ap (λ s. slice_get (rows_of three_up s) e.sent) side
    ∙ ap (λ n. slice_get (rows_of three_up Upper) n) sent ∙ ap Some (sym is)

pub send-requires-4 : goal.send-requires-4
send-requires-4 g c =
    let job : c.send-3.new.self.job ≡ three_up = search rules in
    let side : c.send-3.new.self.side ≡ Upper = search rules in
    let sent : c.send-3.new.self.sent ≡ 2 = search rules in
    let third : bits_of_row c.in-Err.third ≡ level 3 = ap bits_of_row c.in-Err.ensures.0 ∙ c.in_ok-level_row-3.ensures in
    third_is_next c.send-3.new.self c.in-Err.third job side sent third
