-- The rows of a generated region, one after the other.
use Rattle.std.proofs.Common.{◌≡◌, ℕ, List, [], ◌∷◌, ◌++◌, ◌∙◌, flat_map, sym, ap, refl}
use Rattle.std.specs.Prelude.{◌+◌}
use Rattle.std.proofs.lemmas.List.{append_assoc, append-nil}
use Rattle.std.proofs.lemmas.Grind.{flat_map-append}
use Rattle.tl_lists.specs.Lists.{upto}
use Rattle.tl_lists.proofs.Members.{upto_more}
use Rattle.tl_formats.specs.Texts.{line}
use Rattle.tl_text.specs.declared.Shape.{Shape}
use Rattle.tl_text.specs.Shapes.{header, row_columns, row_text}

-- the header, and the rows before row i
abbrev pub text_before : Shape → ℕ → ℕ → List ℕ
text_before shape n i = line (header shape ∷ []) ++ flat_map (λ k. line (row_text (row_columns shape n k) ∷ [])) (upto i)

pub text_before-next : (shape : Shape) (n i : ℕ) (columns : ℕ × ℕ) (text row longer whole : List ℕ) → columns ≡ row_columns shape n i → row ≡ row_text columns
    → longer ≡ text ++ row → whole ≡ longer ++ 10 ∷ [] → text ≡ text_before shape n i → whole ≡ text_before shape n (i + 1)
text_before-next shape n i columns text row longer whole at is more end before =
    let f : ℕ → List ℕ = λ k. line (row_text (row_columns shape n k) ∷ []) in
    let head : List ℕ = line (header shape ∷ []) in
    let last : row ++ 10 ∷ [] ≡ f i = rw (is, at) refl in
    let rows : flat_map f (upto (i + 1)) ≡ flat_map f (upto i) ++ f i =
    ap (flat_map f) (upto_more i) ∙ flat_map-append f (upto i) (i ∷ []) ∙ ap (λ (l : List ℕ). flat_map f (upto i) ++ l) (append-nil (f i)) in
    end ∙ ap (λ (l : List ℕ). l ++ 10 ∷ []) more ∙ append_assoc text row (10 ∷ [])
    ∙ ap (λ (l : List ℕ). l ++ (row ++ 10 ∷ [])) before ∙ ap (λ (l : List ℕ). text_before shape n i ++ l) last
    ∙ append_assoc head (flat_map f (upto i)) (f i) ∙ ap (λ (l : List ℕ). head ++ l) (sym rows)
