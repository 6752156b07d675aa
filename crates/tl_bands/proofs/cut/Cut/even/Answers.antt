use Rattle.std.proofs.Common.{◌≡◌, ℕ, ◌+◌, ◌<◌, ◌≤◌, List, [], ◌∷◌, ◌++◌, arith, subst, sym, ap, ◌∙◌}
use Rattle.tl_bands.specs.Cuts.{share}
use Rattle.tl_bands.proofs.Even.{CutsBelow, firsts_below, firsts_more, cuts_more, firsts_same, cuts_same, cuts_all}
use Rattle.tl_bands.proofs.cut.Cut.even.Goals as goal
use Rattle.tl_bands.proofs.cut.Cut.even.Goals.{then-first-share+in_ok-push, else-first-share}

-- a share with a row is pushed
more : (rows bands k first next : ℕ) (old new : List ℕ) → 0 < bands → old ≡ firsts_below rows bands k → CutsBelow (share rows bands k) old
    → first ≡ share rows bands k → next ≡ share rows bands (k + 1) → first < next → new ≡ old ++ first ∷ []
    → (new ≡ firsts_below rows bands (k + 1)) × CutsBelow (share rows bands (k + 1)) new
more rows bands k first next old new some are cuts begins ends h pushed =
    let row : share rows bands k < share rows bands (k + 1) = omega (arith, begins, ends, h) in
    let e : new ≡ old ++ share rows bands k ∷ [] = pushed ∙ ap (λ (n : ℕ). old ++ n ∷ []) begins in
    (e ∙ firsts_more rows bands some k old are row, subst (CutsBelow (share rows bands (k + 1))) (sym e) (cuts_more rows bands some k old cuts row))

-- a share without one is left out
same : (rows bands k first next : ℕ) (old new : List ℕ) → 0 < bands → old ≡ firsts_below rows bands k → CutsBelow (share rows bands k) old
    → first ≡ share rows bands k → next ≡ share rows bands (k + 1) → next ≤ first → new ≡ old
    → (new ≡ firsts_below rows bands (k + 1)) × CutsBelow (share rows bands (k + 1)) new
same rows bands k first next old new some are cuts begins ends h e =
    let none : share rows bands (k + 1) ≤ share rows bands k = omega (arith, begins, ends, h) in
    (e ∙ firsts_same rows bands some k old are none, subst (CutsBelow (share rows bands (k + 1))) (sym e) (cuts_same rows bands some k old cuts none))

pub loop-band-preserved : goal.loop-band-preserved
loop-band-preserved c = elim c.if-first-share.branch [
  | then-first-share+in_ok-push w ↦
      let kept = more c.args.rows c.args.bands c.loop-band.band c.share-first.result c.share.result c.loop-band.firsts.items c.if-first-share.firsts.items
      c.requires.bands c.loop-band.invariant.firsts c.loop-band.invariant.cuts c.share-first.ensures c.share.ensures w.if-first-share.true
      (ap (λ v. v.items) w.firsts-is ∙ w.in_ok-push.ensures.items) in
      record { firsts = kept.0; cuts = kept.1 }
  | else-first-share w ↦
      let kept = same c.args.rows c.args.bands c.loop-band.band c.share-first.result c.share.result c.loop-band.firsts.items c.if-first-share.firsts.items
      c.requires.bands c.loop-band.invariant.firsts c.loop-band.invariant.cuts c.share-first.ensures c.share.ensures w.if-first-share.false
      (ap (λ v. v.items) w.firsts-is) in
      record { firsts = kept.0; cuts = kept.1 }
]

pub invariant_of-result : goal.invariant_of-result
invariant_of-result c =
    let e : c.loop-band.band ≡ c.args.bands = omega (arith, c.loop-band-test.false, c.loop-band.auto.band-end) in
    cuts_all c.args.rows c.args.bands c.requires.bands c.loop-band.firsts.items c.requires.rows
    (subst (λ (k : ℕ). CutsBelow (share c.args.rows c.args.bands k) c.loop-band.firsts.items) e c.loop-band.invariant.cuts)
