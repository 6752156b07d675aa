use Rattle.std.proofs.Common.{◌≡◌, List, length, sym, ◌∙◌, ap, subst, arith, ℤ}
use Rattle.std.proofs.lemmas.List.{with_items_is}
use Rattle.tl_definitions.specs.Region.{Region}
use Rattle.tl_definitions.specs.Heights.{AreLawful, height_count}
use Rattle.tl_lists.specs.Lists.{put_at}
use Rattle.tl_packed.proofs.Copied.{put_at-all, words-hold}
use Rattle.tl_packed.specs.PackedTiling.{PackedTiling}
use Rattle.std.specs.Vec.{with_items}
use Rattle.tl_height.specs.HeightFunction.{HeightFunction}
use Rattle.tl_packed.proofs.packed.Packed.unpack.Goals as goal
use Rattle.tl_packed.proofs.packed.Packed.unpack.Goals.{After-deref-4}

pub unpack-requires-clause-held : goal.unpack-requires-clause-held
unpack-requires-clause-held c =
    let of = c.self.inside in
    (of.packs.0, words-hold of.region.now of.layout of.strings of.packs.0 _ _ _ of.packs.1 c.deref.ensures.value c.deref-2.ensures.value c.deref-3.ensures.value)

-- what is in the spare room then
spare : (c : After-deref-4) → c.deref-4.result.now ≡ c.self.inside.packs.0
spare c =
    let of = c.self.inside in
    let told = c.unpack.ensures of.packs.0 (words-hold of.region.now of.layout of.strings of.packs.0 _ _ _ of.packs.1 c.deref.ensures.value c.deref-2.ensures.value c.deref-3.ensures.value) in
    let v = c.args.spare.now in
    let long : length c.unpack.new.numbers ≡ v.len = c.unpack.auto.numbers ∙ (ap length c.deref_mut.ensures.value ∙ sym v.ok.0) in
    c.deref-4.ensures.value ∙ (with_items_is v c.unpack.new.numbers long ∙ told)

region : (c : After-deref-4) → c.self.inside.region.now ≡ c.args.heights.now.region
region c = ap (λ (t : PackedTiling). t.heights.region) c.self.view_is ∙ sym c.requires.region

count : (c : After-deref-4) → length c.deref-4.result.now ≡ length c.args.heights.now.numbers
count c =
    ap length (spare c) ∙ (c.self.inside.packs.1.lawful.heights.count ∙ (ap height_count (region c) ∙ sym c.region-region.ensures.lawful.heights.count))

pub put-requires-clause-within : goal.put-requires-clause-within
put-requires-clause-within c = omega (arith, count (goal.at.put-requires-clause-within c).After-deref-4)

put : (c : After-deref-4) → put_at 0 c.deref-4.result.now c.args.heights.now.numbers ≡ c.self.inside.packs.0
put c = put_at-all c.deref-4.result.now c.args.heights.now.numbers (count c) ∙ spare c

pub put-requires-clause-lawful : goal.put-requires-clause-lawful
put-requires-clause-lawful c =
    let k = (goal.at.put-requires-clause-lawful c).After-deref-4 in
    subst (λ (numbers : List ℤ). AreLawful c.args.heights.now.region numbers) (sym (put k)) (subst (λ (R : Region). AreLawful R c.self.inside.packs.0) (region k) c.self.inside.packs.1.lawful)

pub returns-clause-heights : goal.returns-clause-heights
returns-clause-heights c =
    let k = (goal.at.returns-clause-heights c).After-deref-4 in
    (λ i. height_function ((c.put.ensures.region ∙ sym (region k)) i) ((c.put.ensures.numbers ∙ put k) i)) ∙ ap (λ (t : PackedTiling). t.heights) c.self.view_is
  where
    height_function : Region → List ℤ → HeightFunction
    height_function R numbers = record { region = R; numbers = numbers }

pub returns-clause-spare : goal.returns-clause-spare
returns-clause-spare c =
    let k = (goal.at.returns-clause-spare c).After-deref-4 in
    let packs = c.self.inside.packs in
    subst (λ (R : Region). AreLawful R (with_items c.args.spare.now c.unpack.new.numbers).items) (ap (λ (t : PackedTiling). t.heights.region) c.self.view_is)
    (subst (λ (numbers : List ℤ). AreLawful c.self.inside.region.now numbers) (sym (sym c.deref-4.ensures.value ∙ spare k)) packs.1.lawful)
