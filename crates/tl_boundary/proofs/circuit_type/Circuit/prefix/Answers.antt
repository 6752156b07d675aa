use Rattle.std.proofs.Common.{◌≡◌, ◌+◌, List, ℤ, map, length, get_or, ap, ◌∙◌, arith}
use Rattle.std.proofs.lemmas.Int.{ints}
use Rattle.std.proofs.lemmas.List.FromFn.{length-map-range_with_len, get_or-map-range_with_len}
use Rattle.tl_definitions.specs.Lattice.{Side}
use Rattle.tl_lists.specs.Lists.{upto}
use Rattle.tl_definitions.specs.Obstruction.{prefix}
use Rattle.tl_boundary.specs.Walk.{HasPrefixes}
use Rattle.tl_boundary.proofs.Prefixes.{prefix-small}
use Rattle.tl_boundary.proofs.circuit_type.Circuit.prefix.Goals as goal

-- the sums, of the sides as the caller sees them
sums-seen : (sides seen : List Side) (sums : List ℤ) → HasPrefixes sides sums → sides ≡ seen → sums ≡ map (prefix seen) (upto (length seen + 1))
sums-seen sides seen sums has e = has.prefixes ∙ ap (λ (l : List Side). map (prefix l) (upto (length l + 1))) e

pub index-requires : goal.index-requires
index-requires c =
    let sums = sums-seen _ c.args.self.now _ c.self.invariant c.self.view_is in
    omega (arith, c.requires, ap length sums, length-map-range_with_len (prefix c.args.self.now) 0 (length c.args.self.now + 1), c.self.inside.prefixes.ok.0)

-- the number that is read
read : (c : goal.After-result-1) → c.index.result.now ≡ prefix c.args.self.now c.args.k
read c =
    c.index.ensures ∙ ap (λ (l : List ℤ). get_or l c.args.k c.index.result.now) (sums-seen _ c.args.self.now _ c.self.invariant c.self.view_is)
    ∙ get_or-map-range_with_len (prefix c.args.self.now) 0 (length c.args.self.now + 1) c.args.k c.args.k c.index.result.now (omega (arith, c.requires)) (omega arith)

pub returns-clause-prefix : goal.returns-clause-prefix
returns-clause-prefix c = let small = prefix-small c.args.self.now c.args.k in omega (arith, ints, read c, small.0, small.1, c.ranges.k.fits)

pub returns-clause-low : goal.returns-clause-low
returns-clause-low c = let small = prefix-small c.args.self.now c.args.k in omega (arith, ints, read c, small.0, small.1, c.ranges.k.fits)

pub returns-clause-high : goal.returns-clause-high
returns-clause-high c = let small = prefix-small c.args.self.now c.args.k in omega (arith, ints, read c, small.0, small.1, c.ranges.k.fits)
