use Rattle.std.proofs.Common.{◌≡◌, ℕ, ◌+◌, ◌-◌, ◌*◌, ◌<◌, ◌≤◌, List, ◌++◌, length, get_or, take, drop, length-drop, ◌∙◌, ap, arith, rules}
use Rattle.std.proofs.lemmas.List.{get_or_append_left, get_or-append_right, get_or-drop, get_or-take, length-take-le, places}
use Rattle.std.proofs.lemmas.Slice.{overwrites}
use Rattle.std.proofs.Math.Nat.{mul-le-mul_right}
use Rattle.tl_row_sweep.proofs.Strips.{strip-made}
use Rattle.tl_row_sweep.proofs.rows.copy_strips.Goals as goal

-- a word of the part of a list that was written over by that of another
part-word : (from count at : ℕ) (words part rest these : List ℕ) → from ≤ length words → from ≤ at → at < from + count → from + count ≤ length these
    → part ≡ take count (drop from these) → get_or (take from words ++ (part ++ rest)) at 0 ≡ get_or these at 0
part-word from count at words part rest these fits above below within same =
    let left : count ≤ length (drop from these) = omega (arith, length-drop from these, within) in
    let long : length part ≡ count = ap length same ∙ length-take-le count (drop from these) left in
    let here : from + (at - from) ≡ at = omega (arith, above) in
    get_or-append_right (take from words) (part ++ rest) from at 0 (length-take-le from words fits) above
    ∙ get_or_append_left part rest 0 (at - from) (omega (arith, long, below, above))
    ∙ ap (λ (ns : List ℕ). get_or ns (at - from) 0) same
    ∙ get_or-take count (drop from these) (at - from) 0 (omega (arith, below, above))
    ∙ get_or-drop from these (at - from) 0
    ∙ ap (λ (n : ℕ). get_or these n 0) here

pub loop-strip-preserved : goal.loop-strip-preserved
loop-strip-preserved c =
    let a = c.args in
    let height = a.layout.now.height in
    let strip = c.loop-strip.strip in
    let start = strip * height in
    let next : strip + 1 ≤ a.layout.now.strips = omega (arith, c.loop-strip-test.true) in
    let room = mul-le-mul_right height next in
    record {
      len = search (rules, overwrites);
      taken = strip-made _ height a.first a.end 0 strip c.requires.end a.to.now c.loop-strip.to _ c.loop-strip.invariant.taken (omega arith)
          (λ at h. search (rules, places)) (λ at h. search (rules, places))
          (λ row above below. part-word (start + a.first) (start + a.end - (start + a.first)) (start + row) c.loop-strip.to c.copy_from_slice.new.self _ a.from.now
          (omega (arith, room, c.requires.range, c.requires.end, c.requires.to, c.loop-strip.invariant.len)) (omega (arith, above)) (omega (arith, below, c.requires.range))
          (omega (arith, room, c.requires.range, c.requires.end, c.requires.from)) c.copy_from_slice.ensures.after);
    }
