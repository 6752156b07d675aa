-- A region without a pinch whose boundary is one circuit is in one part.
use Rattle.std.proofs.Common.{◌≡◌, ℕ, zero, suc, ◌+◌, ◌<◌, ◌⊎◌, inl, inr, Bool, true, false, not, List, [], ◌∷◌, ◌++◌, map, Some, refl, sym, ◌∙◌, ap, subst, arith}
use Rattle.std.specs.List.{list_any}
use Rattle.std.proofs.lemmas.Bool.Decides.{nat_tests}
use Rattle.std.proofs.lemmas.Bool.{and_from}
use Rattle.tl_definitions.specs.declared.Kind.{Kind}
use Rattle.tl_definitions.specs.declared.Kind.TheVariants.{Square, Triangle}
use Rattle.tl_definitions.specs.declared.Cell.{Cell}
use Rattle.tl_definitions.specs.declared.Corner.{Corner}
use Rattle.tl_definitions.specs.declared.rings.Back.{Back}
use Rattle.tl_definitions.specs.declared.rings.Dart.{Dart}
use Rattle.tl_definitions.specs.Lattice.{corner, cell_back, are_neighbours, is_corner, is_dark, Side}
use Rattle.tl_definitions.specs.Region.{Region, has, has_at, corner_places, boundary, side_eq}
use Rattle.tl_definitions.specs.Accepted.{AreJoined, InOnePart, IsPlaced, is_pinch, circuit_corners, IsCircuit}
use Rattle.tl_definitions.specs.Darts.{back, darts, left_cell, right_cell, leaves}
use Rattle.tl_lists.proofs.Tests.{some_same}
use Rattle.tl_lists.proofs.Members.{In, In-right, In-append_cases, Each-at, In-list_all}
use Rattle.tl_definitions.proofs.Neighbours.{neighbours-back}
use Rattle.tl_definitions.proofs.Joined.{joined_here, joined_before, in_one_part}
use Rattle.tl_definitions.proofs.Darts.{Lies, cell_back-lies, lies-cell_back, dart}
use Rattle.tl_definitions.proofs.CornerRings.{has_at-some, has-has_at}
use Rattle.tl_definitions.proofs.Turns.{one_leaves}
use Rattle.tl_definitions.proofs.BoundarySides.{boundary-corners, boundary-leaves, boundary-comes, leaving_side}
use Rattle.tl_definitions.proofs.NextCorner.{leaves-from}
use Rattle.tl_definitions.proofs.Walks.{side-In, IsFreeOfPinches}
use Rattle.tl_definitions.proofs.Circuits.{no_pinch-sides}

-- ---- round a corner

abbrev IsNear : Kind → Corner → Cell → Cell → Dart → Type 0
IsNear k v a b g = Lies v g.left a → Lies v g.right b → are_neighbours k b a ≡ true

-- the two cells of a dart are neighbours
dart-near : (k : Kind) (v : Corner) (a b : Cell) (g : Dart) → is_corner k v ≡ true → In g (darts k) → IsNear k v a b g
dart-near Square v a b g h i = Each-at (IsNear Square v a b) g (darts Square) (λ l m. grind (arith, nat_tests), (λ l m. grind (arith, nat_tests), (λ l m. grind (arith, nat_tests), (λ l m. grind (arith, nat_tests), tt)))) i
dart-near Triangle v a b g h i = Each-at (IsNear Triangle v a b) g (darts Triangle) (λ l m. grind (arith, nat_tests), (λ l m. grind (arith, nat_tests), (λ l m. grind (arith, nat_tests), (λ l m. grind (arith, nat_tests), (λ l m. grind (arith, nat_tests), (λ l m. grind (arith, nat_tests), tt)))))) i

-- each dart begins at the place where the one before ends
abbrev AreChained : Back → List Dart → Type 0
AreChained p [] = Unit {0}
AreChained p (g ∷ gs) = (p ≡ g.left) × AreChained g.right gs

twice_chained : (k : Kind) → (p : Back) × AreChained p (darts k ++ darts k)
twice_chained Square = (back 1 1, (refl, (refl, (refl, (refl, (refl, (refl, (refl, (refl, tt)))))))))
twice_chained Triangle = (back 1 2, (refl, (refl, (refl, (refl, (refl, (refl, (refl, (refl, (refl, (refl, (refl, (refl, tt)))))))))))))

-- Without a pinch one dart leaves the corner: clockwise from a cell of the region, the region goes on up to that dart.
module _ (R : Region) (start : Cell) (v : Corner) (on_lattice : is_corner R.kind v ≡ true) (no_pinch : is_pinch R v ≡ false)
    (h : Dart) (b : Cell) (h_in : In h (darts R.kind)) (b_left : left_cell v h ≡ Some b) (h_leaves : leaves R v h ≡ true) where
  clockwise : (gs : List Dart) (p : Back) (a : Cell) → AreChained p gs → ((g : Dart) → In g gs → In g (darts R.kind))
      → cell_back v p.rows p.columns ≡ Some a → has R a ≡ true → AreJoined R a start → In h gs → AreJoined R b start
  clockwise [] p a chain on is inside joined i = absurd i
  clockwise (g ∷ gs) p a chain on is inside joined i =
      go (has_at R (right_cell v g)) refl i
      (λ c c_right c_in near j. clockwise gs g.right c chain.1 (λ d k. on d (inr k)) c_right c_in (joined_before R c start a c_in near joined) j)
    where
      a_left : left_cell v g ≡ Some a
      a_left = subst (λ (q : Back). cell_back v q.rows q.columns ≡ Some a) chain.0 is

      found : h ≡ g → AreJoined R b start
      found e = subst (λ c. AreJoined R c start) (some_same a b (sym a_left ∙ subst (λ d. left_cell v d ≡ Some b) e b_left)) joined

      go : (t : Bool) → has_at R (right_cell v g) ≡ t → (h ≡ g) ⊎ In h gs
          → ((c : Cell) → right_cell v g ≡ Some c → has R c ≡ true → are_neighbours R.kind c a ≡ true → In h gs → AreJoined R b start) → AreJoined R b start
      go t e (inl same) ih = found same
      go true e (inr j) ih =
          let (c, c_right, c_in) = has_at-some R (right_cell v g) e in
          ih c c_right c_in (dart-near R.kind v a c g on_lattice (on g (inl refl)) (cell_back-lies v g.left a a_left) (cell_back-lies v g.right c c_right)) j
      go false e (inr j) ih =
          found (one_leaves R v h g no_pinch h_in h_leaves (on g (inl refl)) (and_from _ _ (has-has_at R (left_cell v g) a a_left inside) (ap not e)))

  clockwise_from : (gs : List Dart) (p : Back) (g : Dart) (a : Cell) → AreChained p (gs ++ darts R.kind) → ((d : Dart) → In d gs → In d (darts R.kind))
      → In g gs → right_cell v g ≡ Some a → has R a ≡ true → AreJoined R a start → AreJoined R b start
  clockwise_from [] p g a chain on i is inside joined = absurd i
  clockwise_from (d ∷ gs) p g a chain on (inr i) is inside joined = clockwise_from gs d.right g a chain.1 (λ z k. on z (inr k)) i is inside joined
  clockwise_from (d ∷ gs) p g a chain on (inl e) is inside joined =
      clockwise (gs ++ darts R.kind) d.right a chain.1 (λ z k. elim (In-append_cases z gs (darts R.kind) k) [ inl j ↦ on z (inr j) | inr j ↦ j ])
      (subst (λ z. right_cell v z ≡ Some a) e is) inside joined (In-right h gs (darts R.kind) h_in)

-- ---- along the circuit

joined-next : (R : Region) (start : Cell) (s t : Side) → IsFreeOfPinches R → In s (boundary R) → In t (boundary R) → s.to ≡ t.from
    → AreJoined R s.cell start → AreJoined R t.cell start
joined-next R start s t free i j e joined =
    let (g, m) = boundary-comes R s i in
    let (h, l) = boundary-leaves R t j in
    let (p, chain) = twice_chained R.kind in
    clockwise_from R start s.to (boundary-corners R s i).1 (free s i).1 h t.cell l.dart
    (subst (λ v. left_cell v h ≡ Some t.cell) (sym e) l.cell) (subst (λ v. leaves R v h ≡ true) (sym e) (leaves-from R t h l))
    (darts R.kind) p g s.cell chain (λ d k. k) m.dart m.cell m.inside joined

joined-along : (R : Region) (start : Cell) (last : Corner) (s : Side) (ss : List Side) → IsFreeOfPinches R → ((t : Side) → In t (s ∷ ss) → In t (boundary R))
    → map (λ t. t.to) (s ∷ ss) ≡ circuit_corners ss ++ last ∷ [] → AreJoined R s.cell start → (t : Side) → In t (s ∷ ss) → AreJoined R t.cell start
joined-along R start last s ss free on e joined t (inl same) = subst (λ z. AreJoined R z.cell start) (sym same) joined
joined-along R start last s [] free on e joined t (inr i) = absurd i
joined-along R start last s (d ∷ ss) free on e joined t (inr i) =
    let next : s.to ≡ d.from = cc e in
    let later : map (λ t. t.to) (d ∷ ss) ≡ circuit_corners ss ++ last ∷ [] = cc e in
    joined-along R start last d ss free (λ u k. on u (inr k)) later (joined-next R start s d free (on s (inl refl)) (on d (inr (inl refl))) next joined) t i

-- ---- to the left

-- the dart of a cell's left side, across which the cell to the left lies
abbrev LeftDart : Kind → Cell → Type 0
LeftDart k a = (v : Corner) × (g : Dart) × (is_corner k v ≡ true) × In g (darts k) × Lies v g.left a × (g.right.columns ≡ g.left.columns + 1)

left_dart : (k : Kind) (a : Cell) → LeftDart k a
left_dart Square a = (corner a.r a.c, dart 0 0 0 1, refl, inr (inr (inl refl)), record { row = omega arith; column = omega arith }, omega arith)
left_dart Triangle a = go (is_dark a) refl
  where
    go : (t : Bool) → is_dark a ≡ t → LeftDart Triangle a
    go true h = (corner a.r (a.c + 1), dart 0 1 0 2, grind (arith, nat_tests), inr (inr (inr (inr (inl refl)))), record { row = omega arith; column = omega arith }, omega arith)
    go false h = (corner a.r a.c, dart 0 0 0 1, grind (arith, nat_tests), inr (inr (inr (inl refl))), record { row = omega arith; column = omega arith }, omega arith)

-- A cell whose left side isn't on the boundary has a neighbour to its left.
joined-left : (R : Region) (start : Cell) → ((t : Side) → In t (boundary R) → AreJoined R t.cell start) → (n : ℕ) (a : Cell) → a.c < n → has R a ≡ true → AreJoined R a start
joined-left R start ends zero a l inside = absurd (omega (arith, l))
joined-left R start ends (suc n) a l inside =
    go (has_at R (right_cell d.0 d.1)) refl (λ b less b_in. joined-left R start ends n b less b_in)
  where
    d : LeftDart R.kind a
    d = left_dart R.kind a

    go : (t : Bool) → has_at R (right_cell d.0 d.1) ≡ t → ((b : Cell) → b.c < n → has R b ≡ true → AreJoined R b start) → AreJoined R a start
    go false e ih = ends _ (leaving_side R d.0 d.1 a d.2 d.3 (lies-cell_back d.0 d.1.left a d.4) inside e)
    go true e ih =
        let (b, b_right, b_in) = has_at-some R (right_cell d.0 d.1) e in
        let there : Lies d.0 d.1.right b = cell_back-lies d.0 d.1.right b b_right in
        joined_before R a start b inside (neighbours-back R.kind b a (dart-near R.kind d.0 a b d.1 d.2 d.3 d.4 there)) (ih b (omega (arith, l, d.5, d.4.column, there.column)) b_in)

-- ---- every cell

pub one_circuit-one_part : (R : Region) → IsPlaced R → list_any (is_pinch R) (corner_places R) ≡ false → (walk : List Side) → IsCircuit R walk → InOnePart R
one_circuit-one_part R placed free walk circuit = go walk circuit (λ t i. side-In t walk (In-list_all (λ u. list_any (side_eq u) walk) (boundary R) t circuit.whole i))
  where
    go : (ss : List Side) → IsCircuit R ss → ((t : Side) → In t (boundary R) → In t ss) → InOnePart R
    go [] c on = λ a b a_in b_in. joined-left R b (λ t i. absurd (on t i)) (suc a.c) a (omega arith) a_in
    go (s ∷ ss) c on =
        in_one_part R s.cell s_in (λ a a_in. joined-left R s.cell (λ t i. all t (on t i)) (suc a.c) a (omega arith) a_in)
      where
        back_on : (t : Side) → In t (s ∷ ss) → In t (boundary R)
        back_on t i = side-In t (boundary R) (In-list_all (λ u. list_any (side_eq u) (boundary R)) (s ∷ ss) t c.on_boundary i)

        s_in : has R s.cell ≡ true
        s_in = let (g, l) = boundary-leaves R s (back_on s (inl refl)) in l.inside

        all : (t : Side) → In t (s ∷ ss) → AreJoined R t.cell s.cell
        all = joined-along R s.cell s.from s ss (no_pinch-sides R placed free) back_on c.closed (joined_here R s.cell s_in)
