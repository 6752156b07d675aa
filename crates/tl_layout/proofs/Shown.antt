-- Pieces that are gathered place by place.
use Rattle.std.proofs.Common.{◌≡◌, ℕ, ◌+◌, ◌*◌, ◌^◌, ◌<◌, ◌⊎◌, inl, inr, List, [], ◌∷◌, ◌++◌, length, get_or, max, Some, refl, sym, ◌∙◌, ap, subst, arith}
use Rattle.std.specs.Int.{bit_at}
use Rattle.std.specs.List.{All, Contains}
use Rattle.std.specs.Prelude.{bit_or}
use Rattle.std.proofs.lemmas.Bool.{cases_eq}
use Rattle.std.proofs.lemmas.List.Elements.{All-contains, All-nil, All-pop, All-push, All-same, Contains-append_left, Contains-push, Contains-push_cases}
use Rattle.std.proofs.lemmas.Nat.Bits.{bit_at-lt, bit_at-pow_other, bit_at-pow_same, bit_at_or}
use Rattle.tl_layout.specs.declared.layout.Layout.{Layout}
use Rattle.tl_layout.specs.declared.piece.Piece.{Piece}
use Rattle.tl_layout.specs.Coins.{ArePiecesAt, AreShown, Comes, IsPieceOf, Puts}
use Rattle.tl_layout.specs.Layouts.{bit_by, size_of, word_by}

-- ---- one piece

module _ (l : Layout) (places : List ℕ) where
  -- the piece of one bit
  pub one-puts : (i bit : ℕ) (p : Piece) → p.place ≡ word_by l (get_or places i 0) → bit ≡ bit_by l (get_or places i 0) → p.mask ≡ 2 ^ bit
      → Puts (word_by l (get_or places i 0)) (bit_by l (get_or places i 0)) p
  one-puts i bit p place at mask = record { place = place; mask = ap (bit_at p.mask) (sym at) ∙ ap (λ (n : ℕ). bit_at n bit) mask ∙ bit_at-pow_same bit }

  pub one-piece : (i bit : ℕ) (p : Piece) → i < length places → bit < 64 → p.place < size_of l → p.place ≡ word_by l (get_or places i 0) → bit ≡ bit_by l (get_or places i 0)
      → 32 * p.from + p.shift + bit ≡ i + 128 → p.mask ≡ 2 ^ bit → IsPieceOf l places p
  one-piece i bit p within small inside place at number mask = record { within = inside; from = omega (arith, within, number); comes = comes }
    where
      comes : (x : ℕ) → x < 64 → bit_at p.mask x ≡ 1 → (j : ℕ) × Comes l places p x j
      comes x h one = go (cases_eq x bit)
        where
          go : (x ≡ bit) ⊎ (x ≡ bit → ⊥) → (j : ℕ) × Comes l places p x j
          go (inl same) = (i, record { within = within; word = sym place; bit = sym at ∙ sym same; number = omega (arith, same, number) })
          go (inr other) = absurd (omega (arith, one, ap (λ (n : ℕ). bit_at n x) mask, bit_at-pow_other bit x other))

  -- two pieces in one
  pub joined-piece : (p q r : Piece) → IsPieceOf l places p → IsPieceOf l places q → q.place ≡ p.place → q.from ≡ p.from → q.shift ≡ p.shift
      → r.place ≡ p.place → r.from ≡ p.from → r.shift ≡ p.shift → r.mask ≡ bit_or p.mask q.mask → IsPieceOf l places r
  joined-piece p q r is also place from shift r_place r_from r_shift r_mask =
      record { within = omega (arith, is.within, r_place); from = omega (arith, is.from, r_from); comes = comes }
    where
      moved : (x : ℕ) (o : Piece) → r.place ≡ o.place → r.from ≡ o.from → r.shift ≡ o.shift → (j : ℕ) × Comes l places o x j → (j : ℕ) × Comes l places r x j
      moved x o e f g (j, c) = (j, record { within = c.within; word = c.word ∙ sym e; bit = c.bit; number = omega (arith, c.number, f, g) })

      comes : (x : ℕ) → x < 64 → bit_at r.mask x ≡ 1 → (j : ℕ) × Comes l places r x j
      comes x h one = go (cases_eq (bit_at p.mask x) 1)
        where
          both : max (bit_at p.mask x) (bit_at q.mask x) ≡ 1
          both = sym (bit_at_or p.mask q.mask x) ∙ sym (ap (λ (n : ℕ). bit_at n x) r_mask) ∙ one

          go : (bit_at p.mask x ≡ 1) ⊎ (bit_at p.mask x ≡ 1 → ⊥) → (j : ℕ) × Comes l places r x j
          go (inl k) = moved x p r_place r_from r_shift (is.comes x h k)
          go (inr k) =
              let other : bit_at q.mask x ≡ 1 = omega (arith, both, k, bit_at-lt p.mask x) in
              moved x q (r_place ∙ sym place) (r_from ∙ sym from) (r_shift ∙ sym shift) (also.comes x h other)

pub puts-left : (word x : ℕ) (p r : Piece) (more : ℕ) → Puts word x p → r.place ≡ p.place → r.mask ≡ bit_or p.mask more → Puts word x r
puts-left word x p r more puts place mask = record {
  place = place ∙ puts.place;
  mask = ap (λ (n : ℕ). bit_at n x) mask ∙ bit_at_or p.mask more x ∙ omega (arith, puts.mask, bit_at-lt more x);
}

pub puts-right : (word x : ℕ) (p q r : Piece) → Puts word x q → r.place ≡ q.place → r.mask ≡ bit_or p.mask q.mask → Puts word x r
puts-right word x p q r puts place mask = record {
  place = place ∙ puts.place;
  mask = ap (λ (n : ℕ). bit_at n x) mask ∙ bit_at_or p.mask q.mask x ∙ omega (arith, puts.mask, bit_at-lt p.mask x);
}

-- ---- the pieces so far, the last of them open

module _ (l : Layout) (places : List ℕ) where
  pub shown-none : (pieces : List Piece) → AreShown l places 0 pieces
  shown-none pieces = record { each = λ i h. absurd (omega (arith, h)) }

  IsShown : ℕ → List Piece → Type 0
  IsShown i pieces = (p : Piece) × Contains pieces p × Puts (word_by l (get_or places i 0)) (bit_by l (get_or places i 0)) p

  -- a bit more in the open piece
  pub shown-joined : (n : ℕ) (pieces : List Piece) (last next joined : Piece) → AreShown l places n (pieces ++ last ∷ [])
      → Puts (word_by l (get_or places n 0)) (bit_by l (get_or places n 0)) next → next.place ≡ last.place → joined.place ≡ last.place → joined.mask ≡ bit_or last.mask next.mask
      → AreShown l places (n + 1) (pieces ++ joined ∷ [])
  unfolding IsShown
  shown-joined n pieces last next joined before puts same place mask = record { each = each }
    where
      kept : (i : ℕ) → (p : Piece) × Contains (pieces ++ last ∷ []) p × Puts (word_by l (get_or places i 0)) (bit_by l (get_or places i 0)) p → IsShown i (pieces ++ joined ∷ [])
      kept i (p, among, here) = go (Contains-push_cases pieces last p among)
        where
          go : Contains pieces p ⊎ (last ≡ p) → IsShown i (pieces ++ joined ∷ [])
          go (inl old) = (p, Contains-append_left pieces (joined ∷ []) p old, here)
          go (inr is) =
              let of_last : Puts (word_by l (get_or places i 0)) (bit_by l (get_or places i 0)) last =
              subst (λ (q : Piece). Puts (word_by l (get_or places i 0)) (bit_by l (get_or places i 0)) q) (sym is) here in
              (joined, Contains-push pieces joined, puts-left (word_by l (get_or places i 0)) (bit_by l (get_or places i 0)) last joined next.mask of_last place mask)

      each : (i : ℕ) → i < n + 1 → IsShown i (pieces ++ joined ∷ [])
      each i h = go (cases_eq i n)
        where
          go : (i ≡ n) ⊎ (i ≡ n → ⊥) → IsShown i (pieces ++ joined ∷ [])
          go (inl is) =
              subst (λ (m : ℕ). IsShown m (pieces ++ joined ∷ [])) (sym is)
              (joined, Contains-push pieces joined, puts-right (word_by l (get_or places n 0)) (bit_by l (get_or places n 0)) last next joined puts (place ∙ sym same) mask)
          go (inr other) = kept i (before.each i (omega (arith, h, other)))

  -- the open piece is closed, and another one opened
  pub shown-opened : (n : ℕ) (pieces : List Piece) (next : Piece) → AreShown l places n pieces → Puts (word_by l (get_or places n 0)) (bit_by l (get_or places n 0)) next
      → AreShown l places (n + 1) (pieces ++ next ∷ [])
  unfolding IsShown
  shown-opened n pieces next before puts = record { each = each }
    where
      kept : (i : ℕ) → (p : Piece) × Contains pieces p × Puts (word_by l (get_or places i 0)) (bit_by l (get_or places i 0)) p → IsShown i (pieces ++ next ∷ [])
      kept i (p, among, here) = (p, Contains-append_left pieces (next ∷ []) p among, here)

      each : (i : ℕ) → i < n + 1 → IsShown i (pieces ++ next ∷ [])
      each i h = go (cases_eq i n)
        where
          go : (i ≡ n) ⊎ (i ≡ n → ⊥) → IsShown i (pieces ++ next ∷ [])
          go (inl is) = subst (λ (m : ℕ). IsShown m (pieces ++ next ∷ [])) (sym is) (next, Contains-push pieces next, puts)
          go (inr other) = kept i (before.each i (omega (arith, h, other)))

-- what is known of the pieces so far
pub record AreGathered (l : Layout) (places : List ℕ) (n : ℕ) (pieces : List Piece) : Type 0 where
  pub each : All (IsPieceOf l places) pieces
  pub shown : AreShown l places n pieces

module _ (l : Layout) (places : List ℕ) where
  pub gathered-first : (pieces : List Piece) (first : Piece) → pieces ≡ [] → IsPieceOf l places first → AreGathered l places 0 (pieces ++ first ∷ [])
  gathered-first pieces first none is = record {
    each = All-push (IsPieceOf l places) pieces first (All-same (IsPieceOf l places) pieces [] none (All-nil (IsPieceOf l places))) is;
    shown = shown-none l places (pieces ++ first ∷ []);
  }

  pub gathered-joined : (n : ℕ) (pieces others : List Piece) (last next joined : Piece) → AreGathered l places n (pieces ++ last ∷ []) → IsPieceOf l places next
      → Puts (word_by l (get_or places n 0)) (bit_by l (get_or places n 0)) next → next.place ≡ last.place → next.from ≡ last.from → next.shift ≡ last.shift
      → joined.place ≡ last.place → joined.from ≡ last.from → joined.shift ≡ last.shift → joined.mask ≡ bit_or last.mask next.mask
      → others ≡ pieces ++ joined ∷ [] → AreGathered l places (n + 1) others
  gathered-joined n pieces others last next joined before is puts place from shift joined_place joined_from joined_shift mask list =
      subst (λ (ps : List Piece). AreGathered l places (n + 1) ps) (sym list)
      (record {
        each = All-push (IsPieceOf l places) pieces joined (All-front (IsPieceOf l places) pieces last before.each)
            (joined-piece l places last next joined (All-last (IsPieceOf l places) pieces last before.each) is place from shift joined_place joined_from joined_shift mask);
        shown = shown-joined l places n pieces last next joined before.shown puts place joined_place mask;
      })
    where
      All-last : (P : Piece → Type 0) (xs : List Piece) (x : Piece) → All P (xs ++ x ∷ []) → P x
      All-last P xs x all = All-contains P (xs ++ x ∷ []) x all (Contains-push xs x)

      All-front : (P : Piece → Type 0) (xs : List Piece) (x : Piece) → All P (xs ++ x ∷ []) → All P xs
      All-front P xs x all = (All-pop P (xs ++ x ∷ []) xs (Some x) refl all).0

  pub gathered-opened : (n : ℕ) (pieces others : List Piece) (next : Piece) → AreGathered l places n pieces → IsPieceOf l places next
      → Puts (word_by l (get_or places n 0)) (bit_by l (get_or places n 0)) next → others ≡ pieces ++ next ∷ [] → AreGathered l places (n + 1) others
  gathered-opened n pieces others next before is puts list =
      subst (λ (ps : List Piece). AreGathered l places (n + 1) ps) (sym list)
      (record { each = All-push (IsPieceOf l places) pieces next before.each is; shown = shown-opened l places n pieces next before.shown puts })

  pub gathered-all : (n : ℕ) (pieces others : List Piece) → AreGathered l places n pieces → others ≡ pieces → n ≡ length places → ArePiecesAt l places others
  gathered-all n pieces others all list end = record {
    each = subst (λ (ps : List Piece). All (IsPieceOf l places) ps) (sym list) all.each;
    shown = subst (λ (ps : List Piece). AreShown l places (length places) ps) (sym list) (subst (λ (m : ℕ). AreShown l places m pieces) end all.shown);
  }
