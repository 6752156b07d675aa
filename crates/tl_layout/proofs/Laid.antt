-- What the pieces of a region put into the slots of its inner corners.
use Rattle.std.proofs.Common.{◌≡◌, ℕ, ◌+◌, ◌/◌, ◌%◌, ◌<◌, true, List, length, get_or, sym, ◌∙◌, ap, arith}
use Rattle.std.specs.Int.{bit_at}
use Rattle.std.specs.Prelude.{◌==◌}
use Rattle.std.proofs.lemmas.List.Elements.{All-weaker}
use Rattle.std.proofs.lemmas.Option.{slice_get_within}
use Rattle.tl_definitions.specs.Region.{Region, inner_corners, is_inner}
use Rattle.tl_definitions.proofs.InnerNumbers.{inner-at}
use Rattle.tl_grid.specs.Survey.{inner_places}
use Rattle.tl_strings.specs.Strings.{row_of, slot_of, word_place}
use Rattle.tl_layout.specs.declared.layout.Layout.{Layout}
use Rattle.tl_layout.specs.declared.piece.Piece.{Piece}
use Rattle.tl_layout.specs.declared.piece.Pieces.{Pieces}
use Rattle.tl_layout.specs.Coins.{AreLaidOut, ArePiecesOf, ArePut, Comes, IsPieceOf, Puts, raw_bit, source}
use Rattle.tl_layout.specs.Layouts.{bit_by, word_by}
use Rattle.tl_layout.proofs.Inner.{place-at, places-count}
use Rattle.tl_layout.proofs.Stood.{bit-by, number-alone, word-by}

pub laid-out : (R : Region) (l : Layout) (pieces : Pieces) (raw words : List ℕ) → ArePiecesOf R l pieces → ArePut raw pieces.pieces.items pieces.pieces.items words → AreLaidOut R l raw words
laid-out R l pieces raw words are put i v e = ap (λ (b : ℕ). b == 1) (sym slot ∙ value)
  where
    place : ℕ
    place = get_or (inner_places R) i 0

    within : i < length (inner_corners R)
    within = slice_get_within (inner_corners R) i v e

    among : (j : ℕ) → j < length (inner_places R) → j < length (inner_corners R)
    among j h = omega (arith, h, places-count R)

    inner : is_inner R v ≡ true
    inner = inner-at R v i e

    bit : ℕ
    bit = bit_at (get_or raw (4 + i / 32) 0) (i % 32)

    agree : (q : Piece) → IsPieceOf l (inner_places R) q → Puts (word_by l place) (bit_by l place) q → raw_bit raw (source q (bit_by l place)) ≡ bit
    agree q is puts = go (is.comes (bit_by l place) (omega arith) puts.mask)
      where
        go : (j : ℕ) × Comes l (inner_places R) q (bit_by l place) j → raw_bit raw (source q (bit_by l place)) ≡ bit
        go (j, c) =
            let same : j ≡ i = number-alone R l j i are.layout (among j c.within) within (c.word ∙ puts.place) c.bit in
            let number : source q (bit_by l place) ≡ i + 128 = c.number ∙ ap (λ (n : ℕ). n + 128) same in
            let word : (i + 128) / 32 ≡ 4 + i / 32 = omega arith in
            let rest : (i + 128) % 32 ≡ i % 32 = omega arith in
            ap (raw_bit raw) number ∙ ap (λ (n : ℕ). bit_at (get_or raw n 0) ((i + 128) % 32)) word ∙ ap (bit_at (get_or raw (4 + i / 32) 0)) rest

    value : bit_at (get_or words (word_by l place) 0) (bit_by l place) ≡ bit
    value =
        let shown = are.at.shown.each i (omega (arith, within, places-count R)) in
        put.each (word_by l place) (bit_by l place) bit (omega arith)
        (All-weaker (IsPieceOf l (inner_places R)) (λ (q : Piece). Puts (word_by l place) (bit_by l place) q → raw_bit raw (source q (bit_by l place)) ≡ bit) agree pieces.pieces.items are.at.each) shown.0
        shown.1 shown.2

    slot : bit_at (get_or words (word_by l place) 0) (bit_by l place) ≡ bit_at (get_or words (word_place l.height (row_of v) (slot_of R.kind l.first v)) 0) (slot_of R.kind l.first v % 64)
    slot =
        ap (λ (n : ℕ). bit_at (get_or words n 0) (bit_by l place)) (ap (word_by l) (place-at R i v e) ∙ word-by R l v are.layout inner)
        ∙ ap (bit_at (get_or words (word_place l.height (row_of v) (slot_of R.kind l.first v)) 0)) (ap (bit_by l) (place-at R i v e) ∙ bit-by R l v are.layout inner)
