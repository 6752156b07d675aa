use Rattle.std.proofs.Common.{neg_ℤ, ◌≡◌, ℕ, ◌+◌, ◌*◌, ◌<◌, true, length, sym, ◌∙◌, ap, subst, arith, pos, w32, rules}
use Rattle.std.proofs.lemmas.Int.{to_z-of_z}
use Rattle.std.proofs.lemmas.List.{get_or_read}
use mir.Val.{SFits}
use Rattle.tl_definitions.specs.Region.{is_corner_of}
use Rattle.tl_definitions.specs.Heights.{height}
use Rattle.tl_height.specs.HeightFunction.{HeightFunction}
use Rattle.std.specs.Prelude.{List, ℤ, ◌≤◌, ◌≤ℤ◌}
use Rattle.std.proofs.lemmas.Int.{ints}
use Rattle.std.proofs.Math.Nat.{mul-le-mul}
use Rattle.tl_definitions.specs.declared.Corner.{Corner}
use Rattle.tl_definitions.specs.Region.{Region}
use Rattle.tl_definitions.specs.Accepted.{Accepted, cell_count}
use Rattle.tl_definitions.specs.Heights.{AreLawful}
use Rattle.tl_closing.proofs.Stated.{heights-within_limits, place-within}
use Rattle.tl_height.proofs.heights.Heights.at.Goals as goal
use Rattle.tl_height.proofs.heights.Heights.at.Goals.{After-columns}
use Rattle.tl_definitions.specs.declared.TheConstants.{SIDE_LIMIT}
use Rattle.tl_definitions.specs.Limits.{most_cells, most_height}

within : (c : After-columns) → c.args.corner.r * (c.columns.result + 2) + c.args.corner.x < length c.self.inside.numbers.items
within c =
    subst (λ (n : ℕ). c.args.corner.r * (n + 2) + c.args.corner.x < length c.self.inside.numbers.items) (sym c.columns.ensures.columns)
    (place-within c.self.inside.region.now c.self.inside.numbers.items c.args.corner c.columns.ensures.is_grid.placed c.self.invariant.lawful.heights
    (subst (λ (f : HeightFunction). is_corner_of f.region c.args.corner ≡ true) (sym c.self.view_is) c.requires))

pub index-requires : goal.index-requires
index-requires c = omega (arith, within (goal.at.index-requires c).After-columns)

pub returns-clause-height : goal.returns-clause-height
returns-clause-height c =
    let fits : SFits w32 c.index.result.now = search rules in
    to_z-of_z w32 c.index.result.now fits
    ∙ get_or_read c.self.inside.numbers.items _ _ (within (goal.at.returns-clause-height c).After-columns) c.index.ensures (pos 0)
    ∙ ap (λ (n : ℕ). height (record c.self.inside.region.now { columns = n }) c.self.inside.numbers.items c.args.corner) c.columns.ensures.columns
    ∙ ap (λ (f : HeightFunction). height f.region f.numbers c.args.corner) c.self.view_is

near : (R : Region) (numbers : List ℤ) (v : Corner) → Accepted R → AreLawful R numbers → R.rows ≤ SIDE_LIMIT → R.columns ≤ SIDE_LIMIT → is_corner_of R v ≡ true
    → (z y : ℤ) → z ≡ height R numbers v → y ≡ z → (neg_ℤ (pos most_height) ≤ℤ y) × (y ≤ℤ pos most_height)
near R numbers v accepted lawful rows columns e z y f g =
    subst (λ (h : ℤ). (neg_ℤ (pos most_height) ≤ℤ h) × (h ≤ℤ pos most_height)) (sym (g ∙ f)) (heights-within_limits R numbers v accepted lawful rows columns e)

pub returns-clause-low : goal.returns-clause-low
returns-clause-low c =
    let fits : SFits w32 c.index.result.now = search rules in
    (near c.self.inside.region.now c.self.inside.numbers.items c.args.corner c.self.invariant.accepted c.self.invariant.lawful c.self.invariant.is_grid.rows_within c.self.invariant.is_grid.columns_within
    (subst (λ (f : HeightFunction). is_corner_of f.region c.args.corner ≡ true) (sym c.self.view_is) c.requires)
    c.index.result.now _
    (get_or_read c.self.inside.numbers.items _ _ (within (goal.at.returns-clause-low c).After-columns) c.index.ensures (pos 0)
    ∙ ap (λ (n : ℕ). height (record c.self.inside.region.now { columns = n }) c.self.inside.numbers.items c.args.corner) c.columns.ensures.columns)
    (to_z-of_z w32 c.index.result.now fits)).0

pub returns-clause-high : goal.returns-clause-high
returns-clause-high c =
    let fits : SFits w32 c.index.result.now = search rules in
    (near c.self.inside.region.now c.self.inside.numbers.items c.args.corner c.self.invariant.accepted c.self.invariant.lawful c.self.invariant.is_grid.rows_within c.self.invariant.is_grid.columns_within
    (subst (λ (f : HeightFunction). is_corner_of f.region c.args.corner ≡ true) (sym c.self.view_is) c.requires)
    c.index.result.now _
    (get_or_read c.self.inside.numbers.items _ _ (within (goal.at.returns-clause-high c).After-columns) c.index.ensures (pos 0)
    ∙ ap (λ (n : ℕ). height (record c.self.inside.region.now { columns = n }) c.self.inside.numbers.items c.args.corner) c.columns.ensures.columns)
    (to_z-of_z w32 c.index.result.now fits)).1
