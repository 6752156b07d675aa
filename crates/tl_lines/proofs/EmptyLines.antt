-- What is left of an input after its empty lines, byte by byte.
use Rattle.std.proofs.Common.{◌≡◌, ◌≢◌, inl, inr, ◌⊎◌, ⊎_elim, ℕ, ◌+◌, ◌-◌, ◌<◌, ◌≤◌, Bool, true, false, ◌&&◌, List, [], ◌∷◌, ◌++◌, length, take, drop, refl, sym, ◌∙◌, ap, subst, arith, cond}
use Rattle.std.specs.Prelude.{◌==◌, slice_index, slice_index_or}
use Rattle.std.specs.List.{concat, prefix_len, onto_first, list_all}
use Rattle.std.proofs.lemmas.Bool.{eqb-true, eqb-false, eq-eqb, ne_eqb, or_cases, or_parts, and_parts, and_cases}
use Rattle.std.proofs.lemmas.List.{drop_more, get_or-drop, take_all, at_drop_all, length-drop}
use Rattle.std.proofs.Math.Seq.{take-nil, drop-length}
use Rattle.tl_formats.specs.Input.{pieces, is_empty_line, without_end, section_of, open_section, further_section, rest_is_empty}
use Rattle.tl_formats.proofs.Lines.{concat-pieces, drop-prefix, open-line, without_end-cons}
use Rattle.tl_lines.specs.Lines.{after_empty_lines, in_line_end, section_at}

-- the pieces from the first on that is no empty line
after_empty : List (List ℕ) → List (List ℕ)
after_empty ps = drop (prefix_len is_empty_line ps) ps

pub from_line : List ℕ → List (List ℕ)
from_line s = after_empty (pieces s)

after_empty-skips : (p : List ℕ) (ps : List (List ℕ)) → is_empty_line p ≡ true → after_empty (p ∷ ps) ≡ after_empty ps
unfolding after_empty
after_empty-skips p ps e = drop-prefix is_empty_line p ps e

-- ---- a byte that belongs to the end of an empty line can be left out

from_line-feed : (b : ℕ) (s : List ℕ) → b ≡ 10 → from_line (b ∷ s) ≡ from_line s
unfolding from_line
from_line-feed b s e = rw e (after_empty-skips (10 ∷ []) (pieces s) refl)

from_line-return : (b : ℕ) (s : List ℕ) → b ≡ 13 → slice_index_or s 0 10 ≡ 10 → from_line (b ∷ s) ≡ from_line s
unfolding from_line after_empty
from_line-return b [] e n = rw e refl
from_line-return b (c ∷ s) e n =
    rw (e, n) (after_empty-skips (13 ∷ 10 ∷ []) (pieces s) refl ∙ sym (after_empty-skips (10 ∷ []) (pieces s) refl))

from_line-skips : (b : ℕ) (s : List ℕ) → in_line_end b (slice_index_or s 0 10) ≡ true → from_line (b ∷ s) ≡ from_line s
from_line-skips b s e =
    elim (or_cases (b == 10) (b == 13 && slice_index_or s 0 10 == 10) e) [
      | inl feed ↦ from_line-feed b s (eqb-true b 10 feed)
      | inr both ↦
          let p = and_parts (b == 13) (slice_index_or s 0 10 == 10) both in
          from_line-return b s (eqb-true b 13 p.0) (eqb-true _ 10 p.1)
    ]

-- ---- another one begins a line that isn't empty

-- a text has a byte left where its first byte isn't the one taken away, or isn't alone
some_left : (k b : ℕ) (x : List ℕ) → (b ≢ k) ⊎ (0 < length x) → 0 < length (without_end k (b ∷ x))
some_left k b [] (inl h) = rw (ne_eqb k b (λ e. h (sym e))) (omega arith)
some_left k b [] (inr h) = absurd (omega (arith, h))
some_left k b (c ∷ x) h = rw (without_end-cons k b c x) (omega arith)

-- the line of a piece that has a byte of its own
is_line : (p x : List ℕ) (b : ℕ) → without_end 10 p ≡ b ∷ x → (b ≢ 13) ⊎ (0 < length x) → is_empty_line p ≡ false
is_line p x b e h = rw e (ne_eqb _ 0 (λ z. omega (arith, z, some_left 13 b x h)))

longer_line : (b c : ℕ) (q : List ℕ) → (b == 13 && c == 10) ≡ false → is_empty_line (b ∷ c ∷ q) ≡ false
longer_line b c q e =
    is_line (b ∷ c ∷ q) (without_end 10 (c ∷ q)) b (without_end-cons 10 b c q)
    (⊎_elim (λ h. inl (eqb-false b 13 h)) (λ h. inr (some_left 10 c q (inl (eqb-false c 10 h)))) (and_cases (b == 13) (c == 10) e))

-- what stands at the front is a line, and not an empty one
record BeginsLine (s : List ℕ) : Type 0 where
  pub piece : List ℕ
  pub more : List (List ℕ)
  pub first : pieces s ≡ piece ∷ more
  pub is_line : is_empty_line piece ≡ false

begins_line : (b : ℕ) (s : List ℕ) → in_line_end b (slice_index_or s 0 10) ≡ false → BeginsLine (b ∷ s)
begins_line b [] e =
    let p = or_parts (b == 10) (b == 13 && 10 == 10) e in
    let feed : b ≢ 10 = eqb-false b 10 p.0 in
    let return : b ≢ 13 = λ h. cc (p.1, eq-eqb b 13 h) in
    record {
      piece = b ∷ [];
      more = [];
      first = rw p.0 refl;
      is_line = is_line (b ∷ []) [] b (rw (ne_eqb 10 b (λ h. feed (sym h))) refl) (inl return);
    }
begins_line b (c ∷ s) e =
    let p = or_parts (b == 10) (b == 13 && c == 10) e in
    let (q, more, first) = go (c == 10) (pieces s) in
    record { piece = b ∷ c ∷ q; more = more; first = rw (p.0, first) refl; is_line = longer_line b c q p.1 }
  where
    go : (t : Bool) (ps : List (List ℕ)) → (q : List ℕ) × (more : List (List ℕ)) × (cond t ((c ∷ []) ∷ ps) (onto_first c ps) ≡ (c ∷ q) ∷ more)
    go true ps = ([], ps, refl)
    go false [] = ([], [], refl)
    go false (p ∷ ps) = (p, ps, refl)

-- ---- what is left

-- the input from its first line on that isn't empty
pub record IsLeft (s left : List ℕ) : Type 0 where
  pub section : section_at left ≡ further_section s
  pub rest : left ≡ after_empty_lines s

left_line : (s left : List ℕ) → from_line left ≡ from_line s → BeginsLine left → IsLeft s left
unfolding from_line after_empty
left_line s left same f =
    let stays : from_line left ≡ pieces left = rw (f.first, f.is_line) refl in
    let opens : open_section (pieces left) ≡ section_of (pieces left) = rw f.first (open-line f.piece f.more f.is_line) in
    record {
      section = opens ∙ ap section_of (sym stays ∙ same);
      rest = sym (concat-pieces left) ∙ ap concat (sym stays ∙ same);
    }

next_byte : (s : List ℕ) (i : ℕ) → slice_index_or (drop (i + 1) s) 0 10 ≡ slice_index_or s (i + 1) 10
next_byte s i =
    let e : (i + 1) + 0 ≡ i + 1 = omega arith in
    get_or-drop (i + 1) s 0 10 ∙ ap (λ (n : ℕ). slice_index_or s n 10) e

pub left_at : (s : List ℕ) (i : ℕ) (r : Bool) → i < length s → from_line (drop i s) ≡ from_line s
    → r ≡ in_line_end (slice_index s i) (slice_index_or s (i + 1) 10) → r ≡ false → IsLeft s (take (length s - i) (drop i s))
left_at s i r h same e other =
    let begins : BeginsLine (slice_index s i ∷ drop (i + 1) s) =
    begins_line (slice_index s i) (drop (i + 1) s) (ap (in_line_end (slice_index s i)) (next_byte s i) ∙ sym e ∙ other) in
    rw (take_all (length s - i) (drop i s) (omega (arith, length-drop i s)))
    (left_line s (drop i s) same (subst BeginsLine (sym (drop_more s i 0 h)) begins))

pub left_none : (s : List ℕ) (i : ℕ) → length s ≤ i → from_line (drop i s) ≡ from_line s → IsLeft s (take (length s - length s) (drop (length s) s))
unfolding from_line after_empty
left_none s i h same =
    let none : [] ≡ from_line s = sym (at_drop_all from_line s i h) ∙ same in
    rw (drop-length s, take-nil (length s - length s))
    (record { section = ap section_of none; rest = ap concat none })

pub from_line-drop : (s : List ℕ) (i : ℕ) (r : Bool) → i < length s → r ≡ in_line_end (slice_index s i) (slice_index_or s (i + 1) 10) → r ≡ true
    → from_line (drop (i + 1) s) ≡ from_line (drop i s)
from_line-drop s i r h e ends =
    sym (ap from_line (drop_more s i 0 h)
    ∙ from_line-skips (slice_index s i) (drop (i + 1) s) (ap (in_line_end (slice_index s i)) (next_byte s i) ∙ sym e ∙ ends))

-- ---- whether line ends alone stand in an input

all_empty : (ps : List (List ℕ)) → list_all is_empty_line ps ≡ (length (concat (after_empty ps)) == 0)
unfolding after_empty
all_empty [] = refl
all_empty (p ∷ ps) = first (is_empty_line p) p refl (all_empty ps)
  where
    first : (b : Bool) (p : List ℕ) → is_empty_line p ≡ b → list_all is_empty_line ps ≡ (length (concat (after_empty ps)) == 0)
        → list_all is_empty_line (p ∷ ps) ≡ (length (concat (after_empty (p ∷ ps))) == 0)
    first true p e rest =
        ap (λ (b : Bool). b && list_all is_empty_line ps) e ∙ rest
        ∙ ap (λ (l : List (List ℕ)). length (concat l) == 0) (sym (after_empty-skips p ps e))
    first false [] e rest = cc e
    first false (b ∷ q) e rest = rw e (sym (ne_eqb (length (b ∷ q ++ concat ps)) 0 (λ z. omega (arith, z))))

pub none_left : (s rest : List ℕ) (r : Bool) → rest ≡ after_empty_lines s → r ≡ (length rest == 0) → r ≡ rest_is_empty s
unfolding after_empty
none_left s rest r e l = l ∙ ap (λ (t : List ℕ). length t == 0) e ∙ sym (all_empty (pieces s))
