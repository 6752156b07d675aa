-- Lawful heights with the same marks at the inner corners are the same.
use Rattle.std.proofs.Common.{◌≡◌, ℕ, ◌-◌, ◌⊎◌, inl, inr, Bool, true, false, not, cond, List, Some, sym, ◌∙◌, ap, ℤ, pos, negsuc, ◌+ℤ◌}
use Rattle.std.specs.Prelude.{slice_get, IsTrue}
use Rattle.std.specs.List.{list_any}
use Rattle.std.specs.Ordering.{int_eq}
use Rattle.std.proofs.lemmas.Bool.{cases_Bool}
use Rattle.std.proofs.lemmas.Bool.Decides.{Decides-int_eq}
use Rattle.tl_definitions.specs.declared.Corner.{Corner}
use Rattle.tl_definitions.specs.Lattice.{corner_eq, rise, Side}
use Rattle.tl_definitions.specs.Region.{Region, is_corner_of, is_inner, is_step}
use Rattle.tl_definitions.specs.Accepted.{Accepted, IsCircuit, circuit_corners}
use Rattle.tl_definitions.specs.Heights.{height, AreLawful}
use Rattle.tl_definitions.proofs.Walks.{corner-In}
use Rattle.tl_lists.proofs.Members.{In, In-map_parts, In-slice_get}
use Rattle.tl_closing.proofs.Stated.{handed-on, on_circuit-inner, same-numbers, Start, start-of, step-ends}
use Rattle.tl_marks.specs.Marks.{crossed_by_marks, is_turned, mark, xor}
use Rattle.tl_marks.proofs.Crossed.{crossed-value, mark-same}

module _ (R : Region) (numbers others : List ℤ) (accepted : Accepted R) (lawful : AreLawful R numbers) (other_lawful : AreLawful R others) where
  -- on the circuit all lawful heights are the same
  circuit-same : (walk : List Side) → IsCircuit R walk → (v : Corner) → list_any (corner_eq v) (circuit_corners walk) ≡ true → height R others v ≡ height R numbers v
  circuit-same walk circuit v on = go (In-map_parts (λ (s : Side). s.from) v walk (corner-In v (circuit_corners walk) on))
    where
      at : (s : Side) → v ≡ s.from → (k : ℕ) × (slice_get (circuit_corners walk) k ≡ Some s.from) → height R others v ≡ height R numbers v
      at s same (k, e) =
          let here : slice_get (circuit_corners walk) k ≡ Some v = e ∙ ap (λ (u : Corner). Some u) (sym same) in
          other_lawful.boundary walk k v circuit here ∙ sym (lawful.boundary walk k v circuit here)

      go : (s : Side) × In s walk × (v ≡ s.from) → height R others v ≡ height R numbers v
      go (s, i, same) = at s same (In-slice_get (λ (s : Side). s.from) s walk i)

  module _ (same : (w : Corner) → is_inner R w ≡ true → mark R others w ≡ mark R numbers w) where
    -- so the marks are the same at all corners
    marks-same : (v : Corner) → is_corner_of R v ≡ true → mark R others v ≡ mark R numbers v
    marks-same v of_region = go accepted.circuit (cases_Bool (is_inner R v))
      where
        go : (walk : List Side) × IsCircuit R walk → (is_inner R v ≡ true) ⊎ (is_inner R v ≡ false) → mark R others v ≡ mark R numbers v
        go (walk, circuit) (inl inner) = same v inner
        go (walk, circuit) (inr outer) =
            let on : list_any (corner_eq v) (circuit_corners walk) ≡ true = on_circuit-inner R accepted.placed walk circuit v of_region ∙ ap not outer in
            mark-same R numbers others v (circuit-same walk circuit v on)

    -- and the steps that are crossed, too
    step-same : (u v : Corner) → IsTrue (is_step R u v) → height R others u ≡ height R numbers u → height R others v ≡ height R numbers v
    step-same u v step e =
        let ends = step-ends R u v step in
        let crossed : crossed_by_marks R others u v ≡ crossed_by_marks R numbers u v = λ i. xor (xor (marks-same u ends.0 i) (marks-same v ends.1 i)) (is_turned R.kind u v) in
        crossed-value R others other_lawful u v step
        ∙ ((λ i. e i +ℤ cond (crossed i) (negsuc (rise R.kind - 2)) (pos 1)) ∙ sym (crossed-value R numbers lawful u v step))

    abbrev is_same : Corner → Bool
    is_same v = int_eq (height R others v) (height R numbers v)

    pub heights-told : (v : Corner) → is_corner_of R v ≡ true → height R others v ≡ height R numbers v
    heights-told v of_region = (Decides-int_eq (height R others v) (height R numbers v)).0 (handed-on R is_same start.corner v accepted hands_on start.of_region of_region begin)
      where
        start : Start R
        start = start-of R accepted

        hands_on : (u t : Corner) → IsTrue (is_step R u t) → is_same u ≡ true → is_same t ≡ true
        hands_on u t step e =
            (Decides-int_eq (height R others t) (height R numbers t)).1 (step-same u t step ((Decides-int_eq (height R others u) (height R numbers u)).0 e))

        begin : is_same start.corner ≡ true
        begin =
            (Decides-int_eq (height R others start.corner) (height R numbers start.corner)).1
            (other_lawful.boundary start.walk 0 start.corner start.circuit start.first ∙ sym (lawful.boundary start.walk 0 start.corner start.circuit start.first))

    pub numbers-told : others ≡ numbers
    numbers-told = same-numbers R others numbers other_lawful.heights lawful.heights heights-told
