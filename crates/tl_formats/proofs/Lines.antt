-- How an input is cut into lines and sections.
use Rattle.std.proofs.Common.{◌≡◌, ◌≢◌, ℕ, zero, suc, ◌+◌, ◌-◌, ◌<◌, Bool, true, false, not, List, [], ◌∷◌, ◌++◌, map, length, take, drop, cond, refl, sym, ◌∙◌, ap, arith, append_assoc}
use Rattle.std.specs.Prelude.{◌==◌, take_while, slice_index}
use Rattle.std.specs.List.{onto_first, concat, prefix_len}
use Rattle.std.proofs.lemmas.Bool.{eq-eqb, ne_eqb}
use Rattle.tl_formats.specs.Input.{pieces, without_end, line_of, is_empty_line, Section, open_section, section_of, further_section, first_section, taken}
use Rattle.std.proofs.lemmas.List.{take-append-drop, length-append}
use Rattle.std.proofs.Math.Seq.{drop-append_seam}

-- the pieces in a row are the input
pub concat-pieces : (s : List ℕ) → concat (pieces s) ≡ s
concat-pieces [] = refl
concat-pieces (b ∷ bs) = go (b == 10) (concat-pieces bs)
  where
    onto : (ps : List (List ℕ)) → concat (onto_first b ps) ≡ b ∷ concat ps
    onto [] = refl
    onto (p ∷ ps) = refl

    go : (t : Bool) → concat (pieces bs) ≡ bs → concat (cond t ((b ∷ []) ∷ pieces bs) (onto_first b (pieces bs))) ≡ b ∷ bs
    go true e = ap (λ (l : List ℕ). b ∷ l) e
    go false e = onto (pieces bs) ∙ ap (λ (l : List ℕ). b ∷ l) e

-- the first piece ends with the first line feed
pub pieces-cut : (s : List ℕ) (k : ℕ) → k < length s → slice_index s k ≡ 10 → ((i : ℕ) → i < k → slice_index s i ≢ 10)
    → pieces s ≡ take (suc k) s ∷ pieces (drop (suc k) s)
pieces-cut [] k h e none = absurd (omega (arith, h))
pieces-cut (b ∷ bs) zero h e none = rw (eq-eqb b 10 e) refl
pieces-cut (b ∷ bs) (suc k) h e none =
    let other : b ≢ 10 = none 0 (omega arith) in
    let rest = pieces-cut bs k (omega (arith, h)) e (λ i l. none (suc i) (omega (arith, l))) in
    rw (ne_eqb b 10 other, rest) refl

-- an input without a line feed is one piece
pub pieces-whole : (b : ℕ) (bs : List ℕ) → ((i : ℕ) → i < length (b ∷ bs) → slice_index (b ∷ bs) i ≢ 10) → pieces (b ∷ bs) ≡ (b ∷ bs) ∷ []
pieces-whole b [] none = rw (ne_eqb b 10 (none 0 (omega arith))) refl
pieces-whole b (c ∷ cs) none =
    let rest = pieces-whole c cs (λ i l. none (suc i) (omega (arith, l))) in
    rw (ne_eqb b 10 (none 0 (omega arith)), rest) refl

one-more : (n : ℕ) → 1 + n ≡ suc n
one-more n = omega arith

-- the elements from the front on that pass a test, and the others
pub take_while-cons : {A : Type 0} (test : A → Bool) (x : A) (xs : List A) → test x ≡ true → take_while test (x ∷ xs) ≡ x ∷ take_while test xs
take_while-cons test x xs e = rw (e, one-more (prefix_len test xs)) refl

pub drop-prefix : {A : Type 0} (test : A → Bool) (x : A) (xs : List A) → test x ≡ true → drop (prefix_len test (x ∷ xs)) (x ∷ xs) ≡ drop (prefix_len test xs) xs
drop-prefix test x xs e = rw (e, one-more (prefix_len test xs)) refl

section_with : List (List ℕ) → List (List ℕ) → Section
section_with more ps = record { lines = map line_of more; rest = concat (drop (length more + 1) ps) }

-- an open section at a line, and at an empty one
pub open-line : (p : List ℕ) (ps : List (List ℕ)) → is_empty_line p ≡ false
    → open_section (p ∷ ps) ≡ record { lines = line_of p ∷ (open_section ps).lines; rest = (open_section ps).rest }
unfolding section_with
open-line p ps e =
    let more = take_while (λ q. not (is_empty_line q)) ps in
    let longer : length (p ∷ more) + 1 ≡ suc (length more + 1) = omega arith in
    ap (λ (l : List (List ℕ)). section_with l (p ∷ ps)) (take_while-cons (λ q. not (is_empty_line q)) p ps (ap not e))
    ∙ ap (λ (n : ℕ). record { lines = line_of p ∷ map line_of more; rest = concat (drop n (p ∷ ps)) }) longer

pub open-empty_line : (p : List ℕ) (ps : List (List ℕ)) → is_empty_line p ≡ true → open_section (p ∷ ps) ≡ record { lines = []; rest = concat ps }
open-empty_line p ps e = rw e refl

-- a further section begins after an empty line, or at another one
further_of : List (List ℕ) → Section
further_of ps = section_of (drop (prefix_len is_empty_line ps) ps)

pub further-line : (s t p : List ℕ) → pieces s ≡ p ∷ pieces t → is_empty_line p ≡ false → open_section (pieces s) ≡ further_section s
unfolding further_of
further-line s t p cut e =
    let first : further_of (p ∷ pieces t) ≡ section_of (p ∷ pieces t) = rw e refl in
    ap open_section cut ∙ open-line p (pieces t) e ∙ sym (ap further_of cut ∙ first)

-- ---- line ends

cond-cons : (t : Bool) (a : ℕ) (x y : List ℕ) → cond t (a ∷ x) (a ∷ y) ≡ a ∷ cond t x y
cond-cons true a x y = refl
cond-cons false a x y = refl

-- the end of a text of two bytes or more is that of what follows its first byte
pub without_end-cons : (k a c : ℕ) (p : List ℕ) → without_end k (a ∷ c ∷ p) ≡ a ∷ without_end k (c ∷ p)
without_end-cons k a c p =
    let e : length (a ∷ c ∷ p) - 1 ≡ suc (length p) = omega arith in
    let f : length (c ∷ p) - 1 ≡ length p = omega arith in
    rw (e, f) (cond-cons _ a _ _)

-- the byte is taken away at the end, and another one isn't
pub without_end-last : (k : ℕ) (xs : List ℕ) → without_end k (xs ++ k ∷ []) ≡ xs
without_end-last k [] = rw (eq-eqb k k refl) refl
without_end-last k (a ∷ []) = without_end-cons k a k [] ∙ ap (λ (l : List ℕ). a ∷ l) (without_end-last k [])
without_end-last k (a ∷ c ∷ xs) = without_end-cons k a c (xs ++ k ∷ []) ∙ ap (λ (l : List ℕ). a ∷ l) (without_end-last k (c ∷ xs))

pub without_end-other : (k : ℕ) (xs : List ℕ) → ((i : ℕ) → i < length xs → slice_index xs i ≢ k) → without_end k xs ≡ xs
without_end-other k [] none = refl
without_end-other k (a ∷ []) none = rw (ne_eqb k a (λ e. none 0 (omega arith) (sym e))) refl
without_end-other k (a ∷ c ∷ xs) none =
    without_end-cons k a c xs ∙ ap (λ (l : List ℕ). a ∷ l) (without_end-other k (c ∷ xs) (λ i h. none (suc i) (omega (arith, h))))

-- ---- what follows a section

concat-append : (xs ys : List (List ℕ)) → concat (xs ++ ys) ≡ concat xs ++ concat ys
concat-append [] ys = refl
concat-append (x ∷ xs) ys = ap (λ (l : List ℕ). x ++ l) (concat-append xs ys) ∙ sym (append_assoc x (concat xs) (concat ys))

concat-cut : (n : ℕ) (ps : List (List ℕ)) → concat (take n ps) ++ concat (drop n ps) ≡ concat ps
concat-cut n ps = sym (concat-append (take n ps) (drop n ps)) ∙ ap concat (take-append-drop n ps)

-- what follows a section is the end of its input
section_of-rest : (ps : List (List ℕ)) → (front : List ℕ) × (front ++ (section_of ps).rest ≡ concat ps)
section_of-rest [] = ([], refl)
section_of-rest (p ∷ ps) =
    let n : ℕ = length (take_while (λ q. not (is_empty_line q)) ps) + 1 in
    (p ++ concat (take n ps), append_assoc p (concat (take n ps)) (concat (drop n ps)) ∙ ap (λ (l : List ℕ). p ++ l) (concat-cut n ps))

further-front : (s : List ℕ) → (front : List ℕ) × (front ++ (further_section s).rest ≡ s)
further-front s =
    let ps : List (List ℕ) = pieces s in
    let k : ℕ = prefix_len is_empty_line ps in
    let (front, e) = section_of-rest (drop k ps) in (
      concat (take k ps) ++ front,
      append_assoc (concat (take k ps)) front (further_section s).rest ∙ (ap (λ (l : List ℕ). concat (take k ps) ++ l) e ∙ (concat-cut k ps ∙ concat-pieces s)),
    )

drop-front : (s rest front : List ℕ) → front ++ rest ≡ s → drop (length s - length rest) s ≡ rest
drop-front s rest front e =
    let n : length s - length rest ≡ length front = omega (arith, ap length e, length-append front rest) in
    ap (λ (m : ℕ). drop m s) n ∙ (ap (drop (length front)) (sym e) ∙ drop-append_seam front rest)

-- what is left of an input after the bytes that a section takes
pub drop-first : (s : List ℕ) → drop (taken s (first_section s)) s ≡ (first_section s).rest
drop-first s =
    let (front, e) = section_of-rest (pieces s) in
    drop-front s (first_section s).rest front (e ∙ concat-pieces s)

pub drop-further : (s : List ℕ) → drop (taken s (further_section s)) s ≡ (further_section s).rest
drop-further s = let (front, e) = further-front s in drop-front s (further_section s).rest front e
