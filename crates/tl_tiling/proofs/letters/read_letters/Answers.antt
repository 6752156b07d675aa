use Rattle.std.proofs.Common.{◌≡◌, ℕ, refl, sym, ◌∙◌, subst}
use Rattle.std.specs.Prelude.{find, nat_le, None, Some}
use Rattle.std.proofs.lemmas.List.{take_at}
use Rattle.tl_lines.specs.Lines.{section_at}
use Rattle.tl_tiling.specs.Letters.{AreReadBefore, AreReadLetters}
use Rattle.tl_tiling.proofs.ReadLemmas.{read_letters-from, bad_letter-from}
use Rattle.tl_tiling.proofs.letters.read_letters.Goals as goal

pub returns-in-Some-clause-refused : goal.returns-in-Some-clause-refused
returns-in-Some-clause-refused c =
    let R = c.args.region.now in
    let lines = (section_at c.args.text.now).lines in
    let count = c.in-Ok-read_lines.ensures.count in (
      c.in-Some.cell,
      refl,
      bad_letter-from R lines c.read_lines.new.letters c.in-Some.cell c.rows.ensures.is_grid.placed
          (subst (λ (n : ℕ). AreReadBefore R lines n c.read_lines.new.letters) count c.in-Ok-read_lines.ensures.read)
          (subst (λ (n : ℕ). Some c.in-Some.cell ≡ find (λ a. nat_le n a.r) R.cells) count c.in-Some.ensures),
    )

pub returns-clause-read : goal.returns-clause-read
returns-clause-read c =
    let R = c.args.region.now in
    let lines = (section_at c.args.text.now).lines in
    let count = c.in-Ok-read_lines.ensures.count in
    let whole = take_at c.read_lines.new.letters _ c.in-Ok.letters.len (c.read_lines.auto.letters ∙ c.deref_mut.ensures.len) in
    subst (AreReadLetters R lines) (sym whole)
    (read_letters-from R lines c.read_lines.new.letters
    (subst (λ (n : ℕ). AreReadBefore R lines n c.read_lines.new.letters) count c.in-Ok-read_lines.ensures.read)
    (subst (λ (n : ℕ). None ≡ find (λ a. nat_le n a.r) R.cells) count c.in-None.ensures))
