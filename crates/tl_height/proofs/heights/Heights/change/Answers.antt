use Rattle.std.proofs.Common.{◌≡◌, ℕ, ◌+◌, ◌*◌, ◌<◌, true, List, length, sym, ◌∙◌, ap, subst, arith, ℤ, ◌+ℤ◌, w32, to_z, of_z}
use Rattle.std.specs.Prelude.{slice_set}
use Rattle.std.proofs.lemmas.Int.{ints}
use Rattle.tl_definitions.specs.Region.{is_corner_of}
use Rattle.tl_definitions.specs.Heights.{height, AreLawful}
use Rattle.tl_closing.specs.Changed.{IsChangedAt}
use Rattle.tl_closing.proofs.Stated.{place-within}
use Rattle.tl_height.specs.HeightFunction.{HeightFunction}
use Rattle.tl_height.proofs.OneHeight.{set-changed}
use Rattle.tl_height.proofs.heights.Heights.change.Goals as goal
use Rattle.tl_height.proofs.heights.Heights.change.Goals.{After-columns, After-index_mut}

of_region : (c : After-columns) → is_corner_of c.self.inside.region.now c.args.corner ≡ true
of_region c = subst (λ (f : HeightFunction). is_corner_of f.region c.args.corner ≡ true) (sym c.self.view_is) c.requires.of_region

pub index_mut-requires : goal.index_mut-requires
index_mut-requires c =
    let k = (goal.at.index_mut-requires c).After-columns in
    let within = place-within c.self.inside.region.now c.self.inside.numbers.items c.args.corner c.columns.ensures.is_grid.placed c.self.invariant.lawful.heights (of_region k) in
    let wide = c.columns.ensures.columns in
    omega (arith, subst (λ (n : ℕ). c.args.corner.r * (n + 2) + c.args.corner.x < length c.self.inside.numbers.items) (sym wide) within)

abbrev changed_numbers : After-index_mut → List ℤ
changed_numbers c =
    slice_set c.self.inside.numbers.items (c.args.corner.r * (c.columns.result + 2) + c.args.corner.x)
    (to_z w32 (of_z w32 (to_z w32 (of_z w32 c.at.result) +ℤ to_z w32 (of_z w32 c.args.more))))

changed : (c : After-index_mut) → IsChangedAt c.args.self.now.region c.args.self.now.numbers (changed_numbers c) c.args.corner c.args.more
changed c =
    let here : c.at.result ≡ height c.self.inside.region.now c.self.inside.numbers.items c.args.corner =
    c.at.ensures.height ∙ ap (λ (f : HeightFunction). height f.region f.numbers c.args.corner) (sym c.self.view_is) in
    let low = c.at.ensures.low in
    let high = c.at.ensures.high in
    let least = c.requires.least in
    let most = c.requires.most in
    subst (λ (f : HeightFunction). IsChangedAt f.region f.numbers (changed_numbers c) c.args.corner c.args.more) c.self.view_is
    (set-changed c.self.inside.region.now c.self.inside.numbers.items c.args.corner c.args.more
    (to_z w32 (of_z w32 (to_z w32 (of_z w32 c.at.result) +ℤ to_z w32 (of_z w32 c.args.more))))
    c.columns.result c.columns.ensures.is_grid.placed c.self.invariant.lawful.heights
    (subst (λ (f : HeightFunction). is_corner_of f.region c.args.corner ≡ true) (sym c.self.view_is) c.requires.of_region) c.columns.ensures.columns
    (omega (arith, ints, here, low, high, least, most)))

pub invariant_of-self : goal.invariant_of-self
invariant_of-self c =
    let k = (goal.at.invariant_of-self c).After-index_mut in
    record {
      is_grid = c.self.invariant.is_grid;
      accepted = c.self.invariant.accepted;
      lawful = subst (λ (f : HeightFunction). AreLawful f.region (changed_numbers k)) (sym c.self.view_is) (c.requires.lawful (changed_numbers k) (changed k));
    }

pub returns-clause-changed : goal.returns-clause-changed
returns-clause-changed c = changed (goal.at.returns-clause-changed c).After-index_mut
