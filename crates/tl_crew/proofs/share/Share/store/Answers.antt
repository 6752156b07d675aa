use Rattle.std.proofs.Common.{sym, subst}
use Rattle.tl_crew.specs.Bands.{AreBandsIn}
use Rattle.tl_crew.proofs.share.Share.store.Goals as goal

pub returns-clause-own : goal.returns-clause-own
returns-clause-own g c =
    let self = c.args.self.now in
    c.store_bands.ensures.own self.first self.end
    (subst (λ bands. AreBandsIn (g.S.Sweeping.course c.args.stretch.now).layout self.first self.end bands) (sym c.deref.ensures.value) c.requires.share)

pub returns-clause-outside : goal.returns-clause-outside
returns-clause-outside g c =
    let self = c.args.self.now in
    c.store_bands.ensures.outside self.first self.end
    (subst (λ bands. AreBandsIn (g.S.Sweeping.course c.args.stretch.now).layout self.first self.end bands) (sym c.deref.ensures.value) c.requires.share)
