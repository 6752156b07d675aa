use Rattle.std.proofs.Common.{◌≡◌, ℕ, List, ◌++◌, take, drop, length, inl, sym, ◌∙◌, ap, subst, arith, ℤ}
use Rattle.std.specs.Prelude.{IsTrue}
use Rattle.std.proofs.lemmas.List.{append-nil, drop_all, length-append, take_all}
use Rattle.tl_definitions.specs.declared.Tile.{Tile}
use Rattle.tl_definitions.specs.Heights.{AreHeights}
use Rattle.tl_definitions.specs.Region.{Region}
use Rattle.tl_definitions.specs.Tiling.{is_tiling}
use Rattle.tl_formats.specs.Drawing.{drawing}
use Rattle.tl_height.specs.Letters.{IsDrawnFrom}
use Rattle.tl_run.specs.Answers.{answer}
use Rattle.tl_run.proofs.decide.tiling_reply.Goals as goal

-- a list that was written over whole
written-over : (xs ys : List ℕ) (n : ℕ) → length xs ≡ n → length ys ≡ n → take n (xs ++ drop (length xs) ys) ≡ xs
written-over xs ys n e f =
    ap (λ (zs : List ℕ). take n (xs ++ zs)) (drop_all (length xs) ys (omega (arith, e, f)))
    ∙ ap (take n) (append-nil xs)
    ∙ take_all n xs (omega (arith, e))

-- the text is the drawing of the tiling with these heights
drawn-tiling : (R S : Region) (numbers : List ℤ) (A : List Tile) (text : List ℕ) → S ≡ R → IsDrawnFrom S numbers text → IsTrue (is_tiling R A) → AreHeights R A numbers
    → text ≡ drawing R A
drawn-tiling R S numbers A text same drawn tiling heights = go (subst (λ (Q : Region). IsDrawnFrom Q numbers text) same drawn)
  where
    go : IsDrawnFrom R numbers text → text ≡ drawing R A
    go d = d.drawn ∙ ap (drawing R) (sym (d.only A tiling heights))

pub returns : goal.returns
returns c =
    let R = c.args.region.now in
    let A = c.requires.tiles in
    let head = c.copy_from_slice.new.self in
    let letters = c.to_letters.new.out in
    let size : length c.in_ok-text.text.items ≡ c.in_ok-text.text.len = omega (arith, c.in_ok-text.text.ok.0) in
    let all : length (head ++ letters) ≡ c.in_ok-text.text.len =
    omega (arith, length-append head letters, ap length c.copy_from_slice.ensures.after, c.to_letters.auto.out, c.split_at_mut-head.ensures.back_len, ap length c.deref_mut.ensures.value, size) in
    let text : letters ≡ drawing R A = drawn-tiling R c.args.heights.now.region c.args.heights.now.numbers A letters c.requires.region c.to_letters.ensures c.requires.top.tiling c.requires.heights in
    inl (
      A,
      c.requires.top,
      c.of_bytes.ensures ∙ ap (λ (t : List ℕ). answer t 0)
          (written-over (head ++ letters) c.in_ok-text.text.items c.in_ok-text.text.len all size
          ∙ (λ i. c.copy_from_slice.ensures.after i ++ text i)),
    )
