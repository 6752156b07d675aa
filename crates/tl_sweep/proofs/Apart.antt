-- Numbers that rise by so much at least; the places of inner corners do.
use Rattle.std.proofs.Common.{◌≡◌, ℕ, zero, suc, ◌+◌, ◌-◌, ◌*◌, ◌%◌, ◌<◌, ◌≤◌, ◌⊎◌, inl, inr, true, ◌&&◌, List, [], ◌∷◌, length, get_or, take, drop, min, map, refl, sym, ◌∙◌, ap, subst, arith}
use Rattle.std.proofs.lemmas.Bool.{and_parts, eqb-true}
use Rattle.std.proofs.lemmas.List.{get_or-drop, get_or-map, length-drop, length-map, take_rest}
use Rattle.std.proofs.Math.Nat.{mul-le-mul}
use Rattle.tl_definitions.specs.declared.Corner.{Corner}
use Rattle.tl_definitions.specs.declared.Kind.{Kind}
use Rattle.tl_definitions.specs.declared.Kind.TheVariants.{Square, Triangle}
use Rattle.tl_definitions.specs.Lattice.{cell_width, corner, corner_lt, is_corner, ring}
use Rattle.std.specs.List.{list_all}
use Rattle.std.proofs.lemmas.Option.{slice_get-get_or}
use Rattle.tl_definitions.specs.Region.{Region, has_at, inner_corners, is_inner}
use Rattle.tl_definitions.specs.Accepted.{IsPlaced}
use Rattle.tl_definitions.proofs.Corners.{corner_lt-cases}
use Rattle.tl_definitions.proofs.InnerNumbers.{inner-among, inner-at, inner_corners-linked}
use Rattle.tl_lists.specs.Lists.{linked}
use Rattle.tl_grid.specs.Survey.{inner_places, place_in}
use Rattle.tl_sweep.specs.Blocks.{AreApart, ArePlaces}

-- after so many steps
apart-steps : (least : ℕ) (list : List ℕ) → AreApart least list → (i n : ℕ) → i + n < length list → get_or list i 0 + least * n ≤ get_or list (i + n) 0
apart-steps least list apart i zero h = let e : get_or list (i + 0) 0 ≡ get_or list i 0 = ap (λ (m : ℕ). get_or list m 0) (omega arith) in omega (arith, e)
apart-steps least list apart i (suc n) h =
    let e : get_or list (i + suc n) 0 ≡ get_or list (i + n + 1) 0 = ap (λ (m : ℕ). get_or list m 0) (omega arith) in
    omega (arith, e, apart-steps least list apart i n (omega (arith, h)), apart (i + n) (omega (arith, h)))

-- where a number is as much above the first as it can be at least, so are those between
pub apart-between : (least : ℕ) (list : List ℕ) (first last j : ℕ) → AreApart least list → first + last < length list
    → get_or list (first + last) 0 ≡ get_or list first 0 + least * last → j ≤ last → get_or list (first + j) 0 ≡ get_or list first 0 + least * j
apart-between least list first last j apart h e l =
    let m = last - j in
    let sum : j + m ≡ last = omega (arith, l) in
    let product : least * (j + m) ≡ least * last = ap (λ (n : ℕ). least * n) sum in
    let end : get_or list (first + j + m) 0 ≡ get_or list (first + last) 0 = ap (λ (n : ℕ). get_or list n 0) (omega (arith, sum)) in
    omega (arith, e, product, end, apart-steps least list apart first j (omega (arith, h, l)), apart-steps least list apart (first + j) m (omega (arith, h, sum)))

-- ---- inner corners

next-linked : (vs : List Corner) (i : ℕ) (d : Corner) → linked corner_lt vs ≡ true → suc i < length vs → corner_lt (get_or vs i d) (get_or vs (suc i) d) ≡ true
next-linked [] i d l h = absurd (omega (arith, h))
next-linked (u ∷ []) i d l h = absurd (omega (arith, h))
next-linked (u ∷ v ∷ vs) zero d l h = (and_parts (corner_lt u v) (linked corner_lt (v ∷ vs)) l).0
next-linked (u ∷ v ∷ vs) (suc i) d l h = next-linked (v ∷ vs) i d (and_parts (corner_lt u v) (linked corner_lt (v ∷ vs)) l).1 (omega (arith, h))

-- in a row
columns-apart : (k : Kind) (u v : Corner) → is_corner k u ≡ true → is_corner k v ≡ true → u.r ≡ v.r → u.x < v.x → u.x + cell_width k ≤ v.x
columns-apart Square u v c d row less = omega (arith, less)
columns-apart Triangle u v c d row less = let a = eqb-true ((u.r + u.x) % 2) 1 c in let b = eqb-true ((v.r + v.x) % 2) 1 d in omega (arith, a, b, row, less)

width-small : (k : Kind) → cell_width k ≤ 2
width-small Square = omega arith
width-small Triangle = omega arith

two-apart : (R : Region) (u v : Corner) → IsPlaced R → is_inner R u ≡ true → is_inner R v ≡ true → corner_lt u v ≡ true
    → u.r * (R.columns + 2) + u.x + cell_width R.kind ≤ v.r * (R.columns + 2) + v.x
two-apart R u v placed a b less = go (corner_lt-cases u v less)
  where
    is_one : (w : Corner) → is_inner R w ≡ true → is_corner R.kind w ≡ true
    is_one w inner = (and_parts (is_corner R.kind w) (list_all (has_at R) (ring R.kind w)) inner).0

    go : (u.r < v.r) ⊎ ((u.r ≡ v.r) × (u.x < v.x)) → u.r * (R.columns + 2) + u.x + cell_width R.kind ≤ v.r * (R.columns + 2) + v.x
    go (inl h) =
        let same : R.columns + 2 ≤ R.columns + 2 = omega arith in
        let below : u.r + 1 ≤ v.r = omega (arith, h) in
        let rows : (u.r + 1) * (R.columns + 2) ≤ v.r * (R.columns + 2) = mul-le-mul below same in
        let inside = inner-among R u placed a in
        omega (arith, rows, inside.column, width-small R.kind)
    go (inr (row, h)) =
        let rows : u.r * (R.columns + 2) ≡ v.r * (R.columns + 2) = ap (λ (n : ℕ). n * (R.columns + 2)) row in
        omega (arith, rows, columns-apart R.kind u v (is_one u a) (is_one v b) row h)

pub places-apart : (R : Region) → IsPlaced R → AreApart (cell_width R.kind) (inner_places R)
places-apart R placed i h =
    let w = R.columns + 2 in
    let many : i + 1 < length (inner_corners R) = omega (arith, h, length-map (inner_corners R) (place_in w)) in
    let few : i < length (inner_corners R) = omega (arith, many) in
    let d = corner 0 0 in
    let u = get_or (inner_corners R) i d in
    let v = get_or (inner_corners R) (i + 1) d in
    let less : corner_lt u v ≡ true =
    subst (λ (n : ℕ). corner_lt u (get_or (inner_corners R) n d) ≡ true) (omega arith) (next-linked (inner_corners R) i d (inner_corners-linked R) (omega (arith, many))) in
    omega (
      arith,
      get_or-map (place_in w) (inner_corners R) i d 0 few,
      get_or-map (place_in w) (inner_corners R) (i + 1) d 0 many,
      two-apart R u v placed (inner-at R u i (slice_get-get_or (inner_corners R) i d few)) (inner-at R v (i + 1) (slice_get-get_or (inner_corners R) (i + 1) d many)) less,
    )

-- ---- a block

pub found-places : (places : List ℕ) (stride number count most : ℕ) → AreApart stride places → number < length places → 1 ≤ count → count ≤ most
    → most ≡ min (length (take (length places - number) (drop number places))) 32
    → get_or (take (length places - number) (drop number places)) (count - 1) 0 ≡ get_or (take (length places - number) (drop number places)) 0 0 + stride * (count - 1)
    → ArePlaces places stride number (get_or (take (length places - number) (drop number places)) 0 0) count
found-places places stride number count most apart inside some few least last = record { some = some; few = omega (arith, few, least); within = within; each = each }
  where
    size : length (take (length places - number) (drop number places)) ≡ length places - number
    size = ap length (take_rest places number) ∙ length-drop number places

    within : number + count ≤ length places
    within = omega (arith, few, least, size, inside)

    at : (j : ℕ) → get_or (take (length places - number) (drop number places)) j 0 ≡ get_or places (number + j) 0
    at j = ap (λ (l : List ℕ). get_or l j 0) (take_rest places number) ∙ get_or-drop number places j 0

    first : get_or (take (length places - number) (drop number places)) 0 0 ≡ get_or places number 0
    first = at 0 ∙ ap (λ (n : ℕ). get_or places n 0) (omega arith)

    each : (j : ℕ) → j < count → get_or places (number + j) 0 ≡ get_or (take (length places - number) (drop number places)) 0 0 + stride * j
    each j h =
        apart-between stride places number (count - 1) j apart (omega (arith, within, some)) (sym (at (count - 1)) ∙ last ∙ ap (λ (n : ℕ). n + stride * (count - 1)) first) (omega (arith, h))
        ∙ ap (λ (n : ℕ). n + stride * j) (sym first)
