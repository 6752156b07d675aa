-- What each step of an accepted region hands on holds at all its corners or at none.
use Rattle.std.proofs.Common.{◌≡◌, ℕ, Bool, true, false, ◌∷◌, refl, sym, ◌∙◌}
use Rattle.std.specs.Prelude.{IsTrue}
use Rattle.tl_definitions.specs.declared.Kind.{Kind}
use Rattle.tl_definitions.specs.declared.Kind.TheVariants.{Square, Triangle}
use Rattle.tl_definitions.specs.declared.Cell.{Cell}
use Rattle.tl_definitions.specs.declared.Corner.{Corner}
use Rattle.tl_definitions.specs.Lattice.{is_dark}
use Rattle.tl_definitions.specs.Region.{Region, is_corner_of, is_step}
use Rattle.tl_definitions.specs.Accepted.{Accepted}
use Rattle.tl_lists.proofs.Members.{In, Each}
use Rattle.tl_closing.proofs.Sides.{left_step, other_steps}
use Rattle.tl_closing.proofs.Edges.{is_step-from}
use Rattle.tl_closing.proofs.Round.{SameLabels}
use Rattle.tl_closing.proofs.Closing.{Round, round-from, labels-same}

module _ (holds : Corner → Bool) where
  abbrev HandsOn : Corner × Corner → Type 0
  HandsOn e = holds e.0 ≡ true → holds e.1 ≡ true

  same : (a b : Bool) → (a ≡ true → b ≡ true) → (b ≡ true → a ≡ true) → a ≡ b
  same true b f g = sym (f refl)
  same false true f g = g refl
  same false false f g = refl

  -- the steps round a cell are one cycle, so a step is also handed back, by the others
  round-same : (k : Kind) (t : Bool) (r c : ℕ) → Each HandsOn (left_step k t r c ∷ other_steps k t r c) → Each (SameLabels holds) (left_step k t r c ∷ other_steps k t r c)
  round-same Square true r c (o, (p, (q, (s, tail)))) = (
    same _ _ o (λ h. s (q (p h))),
    (same _ _ p (λ h. o (s (q h))), (same _ _ q (λ h. p (o (s h))), (same _ _ s (λ h. q (p (o h))), tt))),
  )
  round-same Square false r c (o, (p, (q, (s, tail)))) = (
    same _ _ o (λ h. p (q (s h))),
    (same _ _ p (λ h. q (s (o h))), (same _ _ q (λ h. s (o (p h))), (same _ _ s (λ h. o (p (q h))), tt))),
  )
  round-same Triangle true r c (o, (p, (q, tail))) = (same _ _ o (λ h. q (p h)), (same _ _ p (λ h. o (q h)), (same _ _ q (λ h. p (o h)), tt)))
  round-same Triangle false r c (o, (p, (q, tail))) = (same _ _ o (λ h. p (q h)), (same _ _ p (λ h. q (o h)), (same _ _ q (λ h. o (p h)), tt)))

pub handed-on : (R : Region) (holds : Corner → Bool) (v w : Corner) → Accepted R → ((u t : Corner) → IsTrue (is_step R u t) → IsTrue (holds u) → IsTrue (holds t))
    → IsTrue (is_corner_of R v) → IsTrue (is_corner_of R w) → IsTrue (holds v) → IsTrue (holds w)
handed-on R holds v w accepted hands_on v_in w_in here = sym (labels-same R accepted.joined holds along v w v_in w_in) ∙ here
  where
    along : (a : Cell) → In a R.cells → Round (SameLabels holds) R a
    along a i = round-same holds R.kind (is_dark a) a.r a.c (round-from (HandsOn holds) R a (λ e j. hands_on e.0 e.1 (is_step-from R a e.0 e.1 i j)))
