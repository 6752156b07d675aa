-- The heights that the numbers tell, which spread from the corners of the circuit.
use Rattle.std.proofs.Common.{◌≡◌, ◌⊎◌, inl, inr, ℕ, ◌+◌, ◌-◌, ◌/◌, ◌%◌, ◌<◌, ◌^◌, Bool, true, false, List, map, length, Option, Some, None, refl, sym, ◌∙◌, ap, subst, arith, ℤ, pos, neg_ℤ, ◌+ℤ◌, ◌-ℤ◌, ◌*ℤ◌, ◌≤ℤ◌}
use Rattle.std.specs.Prelude.{slice_get, ◌≢◌, option_map, unwrap_or}
use Rattle.std.specs.Cmp.{signed_Decides}
use Rattle.std.specs.Ordering.{int_eq}
use Rattle.std.proofs.lemmas.Bool.{false≢true}
use Rattle.std.proofs.lemmas.Int.{ints}
use Rattle.std.proofs.lemmas.List.{length-map}
use Rattle.std.proofs.lemmas.Option.{slice_get-map, get_or_from_slice_get, unwrap_or-slice_get}
use Rattle.tl_definitions.specs.declared.Kind.{Kind}
use Rattle.tl_definitions.specs.declared.Kind.TheVariants.{Square, Triangle}
use Rattle.tl_definitions.specs.declared.Corner.{Corner}
use Rattle.tl_definitions.specs.Lattice.{rise, Side}
use Rattle.tl_definitions.specs.Region.{Region, is_corner_of, is_step}
use Rattle.tl_definitions.specs.Accepted.{Accepted, IsCircuit, circuit_corners}
use Rattle.tl_definitions.specs.Obstruction.{prefix, total}
use Rattle.tl_definitions.specs.Heights.{height, height_count, AreHeightsOf, AreLawful}
use Rattle.tl_grid.specs.Grid.{IsGrid}
use Rattle.tl_closing.specs.Residues.{residue}
use Rattle.tl_closing.proofs.Stated.{circuit-corner, circuit-residues, residue-step, start-of, step-ends}
use Rattle.tl_boundary.proofs.OneCircuit.{one_circuit}
use Rattle.tl_search.specs.declared.spreading.Source.{Source}
use Rattle.tl_search.specs.declared.spreading.TheConstants.{UNREACHED}
use Rattle.tl_search.specs.Spreading.{AreSources, AreLeastNumbers}
use Rattle.tl_lawful.specs.Order.{AreGreatest, AreLeast}
use Rattle.tl_extreme.specs.CornerGraph.{place, corner_of, run_of}
use Rattle.tl_extreme.specs.Sources.{turned_by, IsSourceAt, AreFromCircuit, height_by}
use Rattle.tl_extreme.proofs.Leading.{climbs-along, congruent-along, numbered-place}
use Rattle.tl_extreme.proofs.AllNumbered.{IsNumbered, all-numbered, next-at, unreached-cases}
use Rattle.tl_extreme.proofs.CornerPlaces.{StepBy, corner_of-place, corner_of-place_in, run-graph, run-step}

-- ---- signs

turned-turned : (negated : Bool) (z : ℤ) → turned_by negated (turned_by negated z) ≡ z
turned-turned false z = refl
turned-turned true z = omega (arith, ints)

-- what lawful heights do along a step, either way
pub turned-climbs : (R : Region) (others : List ℤ) → AreLawful R others → (negated : Bool) (u v : Corner) → StepBy negated R u v
    → turned_by negated (height R others v) ≤ℤ (turned_by negated (height R others u) +ℤ pos 1)
turned-climbs R others lawful false u v s = lawful.least u v s
turned-climbs R others lawful true u v s = let h = lawful.least v u s in omega (arith, ints, h)

-- and the residues
residue-rises : (k : Kind) (a b : ℕ) → b ≡ (a + 1) % rise k → (m : ℤ) × (pos b ≡ (pos a +ℤ pos 1) +ℤ (pos (rise k) *ℤ m))
residue-rises k a b e = (neg_ℤ (pos ((a + 1) / rise k)), at k e)
  where
    at : (k : Kind) → b ≡ (a + 1) % rise k → pos b ≡ (pos a +ℤ pos 1) +ℤ (pos (rise k) *ℤ neg_ℤ (pos ((a + 1) / rise k)))
    at Square e = omega (arith, ints, e)
    at Triangle e = omega (arith, ints, e)

turned-residues : (R : Region) (negated : Bool) (u v : Corner) → StepBy negated R u v
    → (m : ℤ) × (turned_by negated (pos (residue R.kind v)) ≡ (turned_by negated (pos (residue R.kind u)) +ℤ pos 1) +ℤ (pos (rise R.kind) *ℤ m))
turned-residues R false u v s = residue-rises R.kind (residue R.kind u) (residue R.kind v) (residue-step R u v s)
turned-residues R true u v s =
    let (m, e) = residue-rises R.kind (residue R.kind v) (residue R.kind u) (residue-step R v u s) in
    (m, back R.kind (residue R.kind u) (residue R.kind v) m e)
  where
    back : (k : Kind) (a b : ℕ) (m : ℤ) → pos a ≡ (pos b +ℤ pos 1) +ℤ (pos (rise k) *ℤ m) → neg_ℤ (pos b) ≡ (neg_ℤ (pos a) +ℤ pos 1) +ℤ (pos (rise k) *ℤ m)
    back Square a b m e = omega (arith, ints, e)
    back Triangle a b m e = omega (arith, ints, e)

module _ (R : Region) (is_grid : IsGrid R) (accepted : Accepted R) (walk : List Side) (circuit : IsCircuit R walk) (start : Corner) (starts : slice_get (circuit_corners walk) 0 ≡ Some start) (negated : Bool) (sources : List Source) (from : AreFromCircuit R walk negated sources) (are : AreSources (run_of negated R) sources) (numbers : List ℤ) (least : AreLeastNumbers (run_of negated R) sources numbers) where
  on_circuit : (k : ℕ) (v : Corner) → slice_get (circuit_corners walk) k ≡ Some v → is_corner_of R v ≡ true
  on_circuit k v e = circuit-corner R walk k v is_grid.placed circuit e

  abbrev Numbered : Corner → Type 0
  Numbered = IsNumbered R numbers

  -- the corners of the circuit have their own numbers
  pub own-number : (k : ℕ) (v : Corner) → slice_get (circuit_corners walk) k ≡ Some v → slice_get numbers (place R v) ≡ Some (turned_by negated (prefix walk k))
  own-number k v e = go (from.each_place k v e)
    where
      go : (i : ℕ) × (s : Source) × (slice_get sources i ≡ Some s) × IsSourceAt R walk negated k s → slice_get numbers (place R v) ≡ Some (turned_by negated (prefix walk k))
      go (i, s, at, (u, here, is_place, is_number)) =
          let same : u ≡ v = cc (here, e) in
          let place_is : s.place ≡ place R v = is_place ∙ ap (place R) same in
          subst (λ (p : ℕ). slice_get numbers p ≡ Some (turned_by negated (prefix walk k))) place_is (least.own i s at ∙ ap (λ (z : ℤ). Some z) is_number)

  next : (u v : Corner) (z : ℤ) → StepBy negated R u v → slice_get numbers (place R u) ≡ Some z → z ≢ UNREACHED
      → (n : ℤ) × (slice_get numbers (place R v) ≡ Some n) × (n ≢ UNREACHED) × (n ≤ℤ (z +ℤ pos 1))
  next = next-at R is_grid accepted negated sources numbers least

  -- ---- all corners have a number

  start-numbered : Numbered start
  start-numbered = go (from.each_place 0 start starts)
    where
      go : (i : ℕ) × (s : Source) × (slice_get sources i ≡ Some s) × IsSourceAt R walk negated 0 s → Numbered start
      go (i, s, at, (u, here, is_place, is_number)) =
          let high = are.high i s at in
          let same : u ≡ start = cc (here, starts) in
          let place_is : s.place ≡ place R start = is_place ∙ ap (place R) same in
          let small : s.number ≢ UNREACHED = λ e. too_large s.number high e in
          (s.number, subst (λ (p : ℕ). slice_get numbers p ≡ Some s.number) place_is (least.own i s at), small)
        where
          too_large : (z : ℤ) → z ≤ℤ pos (2 ^ 30) → z ≡ UNREACHED → ⊥
          too_large z h e = omega (arith, ints, h, e)

  numbered : (v : Corner) → is_corner_of R v ≡ true → Numbered v
  numbered = all-numbered R is_grid accepted negated sources numbers least start (on_circuit 0 start starts) start-numbered

  -- ---- above and below lawful heights

  source-at : (i : ℕ) (s : Source) → slice_get sources i ≡ Some s → (k : ℕ) × (u : Corner) × (slice_get (circuit_corners walk) k ≡ Some u) × (corner_of R s.place ≡ u) × (s.number ≡ turned_by negated (prefix walk k))
  source-at i s at = go (from.from_place i s at)
    where
      go : (k : ℕ) × IsSourceAt R walk negated k s → (k : ℕ) × (u : Corner) × (slice_get (circuit_corners walk) k ≡ Some u) × (corner_of R s.place ≡ u) × (s.number ≡ turned_by negated (prefix walk k))
      go (k, (u, here, is_place, is_number)) =
          (k, u, here, ap (corner_of R) is_place ∙ corner_of-place R is_grid u (on_circuit k u here), is_number)

  module _ (others : List ℤ) (lawful : AreLawful R others) where
    abbrev lawful_at : ℕ → ℤ
    lawful_at p = turned_by negated (height R others (corner_of R p))

    pub number-bounds : (v : Corner) (z : ℤ) → is_corner_of R v ≡ true → slice_get numbers (place R v) ≡ Some z → z ≢ UNREACHED
        → turned_by negated (height R others v) ≤ℤ z
    number-bounds v z corner at some =
        let r = least.reached (place R v) z at some in
        let (k, u, here, first, number) = source-at r.i r.source r.is_source in
        let climbs = climbs-along (run_of negated R).steps lawful_at (λ p q s. turned-climbs R others lawful negated (corner_of R p) (corner_of R q) (run-step R is_grid negated p q s)) r.source.place (place R v) r.path r.leads in
        let low : lawful_at r.source.place ≡ r.source.number = ap (λ (w : Corner). turned_by negated (height R others w)) first ∙ ap (turned_by negated) (lawful.boundary walk k u circuit here) ∙ sym number in
        let high : lawful_at (place R v) ≡ turned_by negated (height R others v) = ap (λ (w : Corner). turned_by negated (height R others w)) (corner_of-place R is_grid v corner) in
        let adds = r.adds in
        omega (arith, ints, climbs, low, high, adds)

  -- ---- residues

  abbrev residue_at : ℕ → ℤ
  residue_at p = turned_by negated (pos (residue R.kind (corner_of R p)))

  -- a number is the difference of residues, up to a multiple of the rise
  number-residue : (v : Corner) (z : ℤ) → is_corner_of R v ≡ true → slice_get numbers (place R v) ≡ Some z → z ≢ UNREACHED
      → (m : ℤ) × (turned_by negated z ≡ (pos (residue R.kind v) -ℤ pos (residue R.kind start)) +ℤ (pos (rise R.kind) *ℤ m))
  number-residue v z corner at some =
      let r = least.reached (place R v) z at some in
      let (k, u, here, first, number) = source-at r.i r.source r.is_source in
      let (m, along) = congruent-along (run_of negated R).steps residue_at R.kind
      (λ p q s. turned-residues R negated (corner_of R p) (corner_of R q) (run-step R is_grid negated p q s)) r.source.place (place R v) r.path r.leads in
      let (n, prefixed) = circuit-residues R walk k start u is_grid.placed circuit starts here in
      let low : residue_at r.source.place ≡ turned_by negated (pos (residue R.kind u)) = ap (λ (w : Corner). turned_by negated (pos (residue R.kind w))) first in
      let high : residue_at (place R v) ≡ turned_by negated (pos (residue R.kind v)) = ap (λ (w : Corner). turned_by negated (pos (residue R.kind w))) (corner_of-place R is_grid v corner) in
      join negated R.kind (prefix walk k) r.source.number z (pos (residue R.kind start)) (pos (residue R.kind u)) (pos (residue R.kind v)) (length r.path - 1) m n
      (sym high ∙ along ∙ ap (λ (y : ℤ). (y +ℤ pos (length r.path - 1)) +ℤ (pos (rise R.kind) *ℤ m)) low) prefixed number r.adds
    where
      join : (t : Bool) (c : Kind) (p y z a b d : ℤ) (l : ℕ) (m n : ℤ) → turned_by t d ≡ (turned_by t b +ℤ pos l) +ℤ (pos (rise c) *ℤ m)
          → p ≡ (b -ℤ a) +ℤ (pos (rise c) *ℤ n) → y ≡ turned_by t p → z ≡ y +ℤ pos l
          → (q : ℤ) × (turned_by t z ≡ (d -ℤ a) +ℤ (pos (rise c) *ℤ q))
      join false Square p y z a b d l m n e f g h = (n -ℤ m, omega (arith, ints, e, f, g, h))
      join false Triangle p y z a b d l m n e f g h = (n -ℤ m, omega (arith, ints, e, f, g, h))
      join true Square p y z a b d l m n e f g h = (m +ℤ n, omega (arith, ints, e, f, g, h))
      join true Triangle p y z a b d l m n e f g h = (m +ℤ n, omega (arith, ints, e, f, g, h))

  -- ---- the heights

  abbrev heights : List ℤ
  heights = map (height_by negated) numbers

  pub height-is : (v : Corner) (z : ℤ) → slice_get numbers (place R v) ≡ Some z → z ≢ UNREACHED → height R heights v ≡ turned_by negated z
  height-is v z at some =
      get_or_from_slice_get heights (place R v) (turned_by negated z) (pos 0)
      (slice_get-map (height_by negated) numbers (place R v) ∙ ap (option_map (height_by negated)) at ∙ ap (λ (y : ℤ). Some y) (go (unreached-cases z)))
    where
      go : (z ≡ UNREACHED) ⊎ ((z ≢ UNREACHED) × (int_eq z (UNREACHED) ≡ false)) → height_by negated z ≡ turned_by negated z
      go (inl same) = absurd (some same)
      go (inr (other, differs)) = rw differs refl

  pub heights-of : AreHeightsOf R heights
  heights-of =
      record {
        count = length-map numbers (height_by negated) ∙ least.count ∙ count_is negated;
        elsewhere = off;
      }
    where
      count_is : (t : Bool) → (run_of t R).count ≡ height_count R
      count_is false = refl
      count_is true = refl

      place_is : (t : Bool) (p : ℕ) → (run_of t R).is_place p ≡ is_corner_of R (corner_of R p)
      place_is false p = refl
      place_is true p = refl

      off : (v : Corner) → v.x < R.columns + 2 → is_corner_of R v ≡ false → height R heights v ≡ pos 0
      off v h outside = go (slice_get numbers (place R v)) refl
        where
          back : corner_of R (place R v) ≡ v
          back = corner_of-place_in R v h

          go : (o : Option ℤ) → slice_get numbers (place R v) ≡ o → height R heights v ≡ pos 0
          go None at = sym (unwrap_or-slice_get heights (place R v) (pos 0)) ∙ ap (λ (o : Option ℤ). unwrap_or o (pos 0)) (slice_get-map (height_by negated) numbers (place R v) ∙ ap (option_map (height_by negated)) at)
          go (Some z) at = reach (unreached-cases z)
            where
              reach : (z ≡ UNREACHED) ⊎ ((z ≢ UNREACHED) × (int_eq z (UNREACHED) ≡ false)) → height R heights v ≡ pos 0
              reach (inl same) =
                  let yes : int_eq z (UNREACHED) ≡ true = (signed_Decides z (UNREACHED)).1 same in
                  let zero_there : height_by negated z ≡ pos 0 = rw yes refl in
                  get_or_from_slice_get heights (place R v) (pos 0) (pos 0)
                  (slice_get-map (height_by negated) numbers (place R v) ∙ ap (option_map (height_by negated)) at ∙ ap (λ (y : ℤ). Some y) zero_there)
              reach (inr (some, other)) =
                  let on = numbered-place (run_of negated R) sources numbers least (run-graph R is_grid negated) are (place R v) z at some in
                  let corner : is_corner_of R v ≡ true = subst (λ (w : Corner). is_corner_of R w ≡ true) back (sym (place_is negated (place R v)) ∙ on) in
                  absurd (false≢true (sym outside ∙ corner))

  module _ (balanced : total R ≡ pos 0) where
    at-circuit : (k : ℕ) (v : Corner) → slice_get (circuit_corners walk) k ≡ Some v → height R heights v ≡ prefix walk k
    at-circuit k v e = go (numbered v (on_circuit k v e))
      where
        go : Numbered v → height R heights v ≡ prefix walk k
        go (z, at, some) =
            let same : z ≡ turned_by negated (prefix walk k) = cc (at, own-number k v e) in
            height-is v z at some ∙ ap (turned_by negated) same ∙ turned-turned negated (prefix walk k)

    height-residue : (v : Corner) → is_corner_of R v ≡ true → (m : ℤ) × (height R heights v ≡ (pos (residue R.kind v) -ℤ pos (residue R.kind start)) +ℤ (pos (rise R.kind) *ℤ m))
    height-residue v corner = go (numbered v corner)
      where
        go : Numbered v → (m : ℤ) × (height R heights v ≡ (pos (residue R.kind v) -ℤ pos (residue R.kind start)) +ℤ (pos (rise R.kind) *ℤ m))
        go (z, at, some) =
            let (m, is) = number-residue v z corner at some in
            (m, height-is v z at some ∙ is)

    modulo : (u v : Corner) → is_step R u v ≡ true → (m : ℤ) × (height R heights v ≡ (height R heights u +ℤ pos 1) +ℤ (pos (rise R.kind) *ℤ m))
    modulo u v s =
        let ends = step-ends R u v s in
        let (m, e) = height-residue u ends.0 in
        let (n, f) = height-residue v ends.1 in
        let (q, g) = residue-rises R.kind (residue R.kind u) (residue R.kind v) (residue-step R u v s) in
        ((n -ℤ m) +ℤ q, join R.kind (height R heights u) (height R heights v) (pos (residue R.kind start)) (pos (residue R.kind u)) (pos (residue R.kind v)) m n q e f g)
      where
        join : (c : Kind) (x y a b d m n q : ℤ) → x ≡ (b -ℤ a) +ℤ (pos (rise c) *ℤ m) → y ≡ (d -ℤ a) +ℤ (pos (rise c) *ℤ n) → d ≡ (b +ℤ pos 1) +ℤ (pos (rise c) *ℤ q)
            → y ≡ (x +ℤ pos 1) +ℤ (pos (rise c) *ℤ ((n -ℤ m) +ℤ q))
        join Square x y a b d m n q e f g = omega (arith, ints, e, f, g)
        join Triangle x y a b d m n q e f g = omega (arith, ints, e, f, g)

    rises : (u v : Corner) → is_step R u v ≡ true → height R heights v ≤ℤ (height R heights u +ℤ pos 1)
    rises u v s =
        let ends = step-ends R u v s in
        go (numbered u ends.0) (numbered v ends.1)
      where
        go : Numbered u → Numbered v → height R heights v ≤ℤ (height R heights u +ℤ pos 1)
        go (y, at_u, some_u) (z, at_v, some_v) = by negated refl
          where
            by : (t : Bool) → negated ≡ t → height R heights v ≤ℤ (height R heights u +ℤ pos 1)
            by false is =
                let (n, there, numbered_there, small) = next u v y (subst (λ (t : Bool). StepBy t R u v) (sym is) s) at_u some_u in
                let same : n ≡ z = cc (there, at_v) in
                let high : height R heights v ≡ z = height-is v z at_v some_v ∙ ap (λ (t : Bool). turned_by t z) is in
                let low : height R heights u ≡ y = height-is u y at_u some_u ∙ ap (λ (t : Bool). turned_by t y) is in
                omega (arith, ints, small, same, high, low)
            by true is =
                let (n, there, numbered_there, small) = next v u z (subst (λ (t : Bool). StepBy t R v u) (sym is) s) at_v some_v in
                let same : n ≡ y = cc (there, at_u) in
                let high : height R heights v ≡ neg_ℤ z = height-is v z at_v some_v ∙ ap (λ (t : Bool). turned_by t z) is in
                let low : height R heights u ≡ neg_ℤ y = height-is u y at_u some_u ∙ ap (λ (t : Bool). turned_by t y) is in
                omega (arith, ints, small, same, high, low)

    pub heights-lawful : AreLawful R heights
    heights-lawful =
        record {
          heights = heights-of;
          balanced = balanced;
          boundary = λ other k v is_circuit e. go other k v (one_circuit R walk other accepted circuit is_circuit) e;
          modulo = modulo;
          least = rises;
        }
      where
        go : (other : List Side) (k : ℕ) (v : Corner) → other ≡ walk → slice_get (circuit_corners other) k ≡ Some v → height R heights v ≡ prefix other k
        go other k v same e =
            let here : slice_get (circuit_corners walk) k ≡ Some v = subst (λ (w : List Side). slice_get (circuit_corners w) k ≡ Some v) same e in
            at-circuit k v here ∙ ap (λ (w : List Side). prefix w k) (sym same)

    -- the heights of every tiling, or their negatives, lie below the numbers
    pub lawful-bounds : (others : List ℤ) → AreLawful R others → (v : Corner) → is_corner_of R v ≡ true
        → turned_by negated (height R others v) ≤ℤ turned_by negated (height R heights v)
    lawful-bounds others lawful v corner = go (numbered v corner)
      where
        go : Numbered v → turned_by negated (height R others v) ≤ℤ turned_by negated (height R heights v)
        go (z, at, some) =
            let bound = number-bounds others lawful v z corner at some in
            let is : turned_by negated (height R heights v) ≡ z = ap (turned_by negated) (height-is v z at some) ∙ turned-turned negated z in
            subst (λ (y : ℤ). turned_by negated (height R others v) ≤ℤ y) (sym is) bound

-- ---- the greatest and the least heights

-- the numbers of a search come from the circuit
pub record AreFromSearch (R : Region) (walk : List Side) (negated : Bool) (sources : List Source) (numbers : List ℤ) : Type 0 where
  pub from : AreFromCircuit R walk negated sources
  pub are : AreSources (run_of negated R) sources
  pub least : AreLeastNumbers (run_of negated R) sources numbers

module _ (R : Region) (is_grid : IsGrid R) (accepted : Accepted R) (walk : List Side) (circuit : IsCircuit R walk) (balanced : total R ≡ pos 0) where
  begin : (start : Corner) × (slice_get (circuit_corners walk) 0 ≡ Some start)
  begin =
      let s = start-of R accepted in
      (s.corner, subst (λ (ss : List Side). slice_get (circuit_corners ss) 0 ≡ Some s.corner) (one_circuit R walk s.walk accepted circuit s.circuit) s.first)

  pub greatest-heights : (sources : List Source) (numbers : List ℤ) → AreFromSearch R walk false sources numbers → AreGreatest R (map (height_by false) numbers)
  greatest-heights sources numbers s = (
    heights-lawful R is_grid accepted walk circuit begin.0 begin.1 false sources s.from s.are numbers s.least balanced,
    λ others lawful v corner. lawful-bounds R is_grid accepted walk circuit begin.0 begin.1 false sources s.from s.are numbers s.least balanced others lawful v corner,
  )

  pub least-heights : (sources : List Source) (numbers : List ℤ) → AreFromSearch R walk true sources numbers → AreLeast R (map (height_by true) numbers)
  least-heights sources numbers s = (
    heights-lawful R is_grid accepted walk circuit begin.0 begin.1 true sources s.from s.are numbers s.least balanced,
    λ others lawful v corner. turn (lawful-bounds R is_grid accepted walk circuit begin.0 begin.1 true sources s.from s.are numbers s.least balanced others lawful v corner),
  )
    where
      turn : {a b : ℤ} → neg_ℤ a ≤ℤ neg_ℤ b → b ≤ℤ a
      turn {a} {b} h = omega (arith, ints, h)
