-- Pieces put one after the other.
use Rattle.std.proofs.Common.{◌≡◌, ℕ, ◌+◌, ◌<◌, ◌⊎◌, inl, inr, true, false, if◌then◌else◌, List, [], ◌∷◌, ◌++◌, length, get_or, set, take, refl, sym, ◌∙◌, ap, subst, get_or-set_other, get_or-set_same, arith}
use Rattle.std.specs.Int.{bit_at}
use Rattle.std.specs.List.{All, Contains}
use Rattle.std.specs.Prelude.{◌==◌}
use Rattle.std.proofs.lemmas.Bool.{cases_Bool, cases_eq, eqb-true, eq-eqb}
use Rattle.std.proofs.lemmas.List.{take_more}
use Rattle.std.proofs.lemmas.List.Elements.{All-get_or, Contains-push_cases}
use Rattle.tl_layout.specs.declared.piece.Piece.{Piece}
use Rattle.tl_layout.specs.Coins.{ArePut, Puts, raw_bit, source}

pub put-none : (raw : List ℕ) (all : List Piece) (words : List ℕ) → ArePut raw all [] words
put-none raw all words = record { each = λ word x bit h agree q inside puts. absurd (omega (arith, inside.1)) }

-- one piece more
pub put-more : (raw : List ℕ) (all : List Piece) (words : List ℕ) (k bits next : ℕ) (p : Piece) → p ≡ get_or all k p → k < length all → p.place < length words
    → ((x : ℕ) → x < 64 → bit_at bits x ≡ raw_bit raw (source p x))
    → ((x : ℕ) → x < 64 → bit_at next x ≡ (if bit_at p.mask x == 1 then bit_at bits x else bit_at (get_or words p.place 0) x))
    → ArePut raw all (take k all) words → ArePut raw all (take (k + 1) all) (set words p.place next)
put-more raw all words k bits next p is h inside cut mix before = record { each = each }
  where
    each : (word x bit : ℕ) → x < 64 → All (λ (r : Piece). Puts word x r → raw_bit raw (source r x) ≡ bit) all
        → (q : Piece) → Contains (take (k + 1) all) q → Puts word x q → bit_at (get_or (set words p.place next) word 0) x ≡ bit
    each word x bit small agree q within puts = go (cases_eq p.place word) (cases_Bool (bit_at p.mask x == 1)) (Contains-push_cases (take k all) p q among)
      where
        among : Contains (take k all ++ p ∷ []) q
        among = subst (λ (l : List Piece). Contains l q) (take_more all k p h ∙ ap (λ (r : Piece). take k all ++ r ∷ []) (sym is)) within

        agrees : Puts word x p → raw_bit raw (source p x) ≡ bit
        agrees =
            subst (λ (r : Piece). Puts word x r → raw_bit raw (source r x) ≡ bit) (sym is)
            (All-get_or (λ (r : Piece). Puts word x r → raw_bit raw (source r x) ≡ bit) all k p h agree)

        here : p.place ≡ word → get_or (set words p.place next) word 0 ≡ next
        here same = ap (λ (n : ℕ). get_or (set words p.place next) n 0) (sym same) ∙ get_or-set_same words p.place next 0 inside

        go : (p.place ≡ word) ⊎ (p.place ≡ word → ⊥) → ((bit_at p.mask x == 1) ≡ true) ⊎ ((bit_at p.mask x == 1) ≡ false) → Contains (take k all) q ⊎ (p ≡ q)
            → bit_at (get_or (set words p.place next) word 0) x ≡ bit
        go (inl same) (inl one) w =
            let chosen : (if bit_at p.mask x == 1 then bit_at bits x else bit_at (get_or words p.place 0) x) ≡ bit_at bits x = rw one refl in
            ap (λ (n : ℕ). bit_at n x) (here same) ∙ mix x small ∙ chosen ∙ cut x small ∙ agrees (record { place = same; mask = eqb-true (bit_at p.mask x) 1 one })
        go (inl same) (inr none) (inl old) =
            let chosen : (if bit_at p.mask x == 1 then bit_at bits x else bit_at (get_or words p.place 0) x) ≡ bit_at (get_or words p.place 0) x = rw none refl in
            ap (λ (n : ℕ). bit_at n x) (here same) ∙ mix x small ∙ chosen ∙ ap (λ (n : ℕ). bit_at (get_or words n 0) x) same ∙ before.each word x bit small agree q old puts
        go (inl same) (inr none) (inr e) =
            let one : (bit_at p.mask x == 1) ≡ true = eq-eqb (bit_at p.mask x) 1 (ap (λ (r : Piece). bit_at r.mask x) e ∙ puts.mask) in
            cc (one, none)
        go (inr other) m (inl old) =
            let elsewhere : get_or (set words p.place next) word 0 ≡ get_or words word 0 = get_or-set_other words p.place word next 0 (λ e. other (sym e)) in
            ap (λ (n : ℕ). bit_at n x) elsewhere ∙ before.each word x bit small agree q old puts
        go (inr other) m (inr e) = absurd (other (ap (λ (r : Piece). r.place) e ∙ puts.place))
