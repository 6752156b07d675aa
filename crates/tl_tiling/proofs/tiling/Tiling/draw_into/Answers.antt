use Rattle.std.proofs.Common.{◌≡◌, ℕ, List, [], ◌∷◌, ◌++◌, ◌+◌, ◌-◌, ◌*◌, take, drop, length, sym, ◌∙◌, ap, subst, arith}
use Rattle.tl_definitions.specs.Region.{Region}
use Rattle.tl_definitions.specs.Tiling.{Tiled}
use Rattle.tl_tiling.proofs.PrintLemmas.{lines_of, line_more, printed}
use Rattle.tl_tiling.proofs.tiling.Tiling.draw_into.Goals as goal

pub loop-r-preserved : goal.loop-r-preserved
loop-r-preserved c =
    let R = c.self.inside.region.now in
    let rows = c.rows-rows.result in
    let columns = c.columns-columns.result in
    let shape : c.args.self.now.region ≡ R = sym (ap (λ (t : Tiled). t.region) c.self.view_is) in
    let size : length c.loop-r.out ≡ rows * (columns + 1) =
    c.loop-r.auto.out ∙ c.requires ∙ ap (λ (S : Region). S.rows * (S.columns + 1)) shape
    ∙ sym (ap (λ (n : ℕ). n * (columns + 1)) c.rows-rows.ensures.rows ∙ ap (λ (n : ℕ). R.rows * (n + 1)) c.columns-columns.ensures.columns) in
    let full : length c.self.inside.letters.items ≡ rows * columns =
    c.self.invariant.1.size ∙ sym (ap (λ (n : ℕ). n * columns) c.rows-rows.ensures.rows ∙ ap (λ (n : ℕ). R.rows * n) c.columns-columns.ensures.columns) in
    line_more columns c.loop-r.r rows c.loop-r.out c.self.inside.letters.items c.write_line.new.line c.loop-r-test.true size full c.loop-r.invariant
    (c.write_line.ensures
    ∙ ap (λ (l : List ℕ). take (c.loop-r.r * columns + columns - c.loop-r.r * columns) (drop (c.loop-r.r * columns) l) ++ 10 ∷ []) c.deref.ensures.value)

pub returns : goal.returns
returns c =
    let R = c.self.inside.region.now in
    let letters = c.self.inside.letters.items in
    let rows = c.rows-rows.result in
    let columns = c.columns-columns.result in
    let shape : c.args.self.now.region ≡ R = sym (ap (λ (t : Tiled). t.region) c.self.view_is) in
    let size : length c.loop-r.out ≡ R.rows * (R.columns + 1) = c.loop-r.auto.out ∙ c.requires ∙ ap (λ (S : Region). S.rows * (S.columns + 1)) shape in
    let last : c.loop-r.r ≡ rows = omega (arith, c.loop-r-test.false, c.loop-r.auto.r-end) in
    rw (← c.self.view_is)
    (printed R letters c.loop-r.out rows columns c.self.invariant.0 c.self.invariant.1 c.rows-rows.ensures.rows c.columns-columns.ensures.columns size
    (subst (λ (n : ℕ). take (n * (columns + 1)) c.loop-r.out ≡ lines_of columns letters 0 n) last c.loop-r.invariant))
