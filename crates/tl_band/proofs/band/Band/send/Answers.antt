use Rattle.tl_band.proofs.Sides.{ready-to_send}
use Rattle.tl_band.proofs.band.Band.send.Goals as goal

pub send-requires : goal.send-requires
send-requires g c = ready-to_send (g.S.Sweeping.course c.args.stretch.now) c.args.self.now.done c.args.self.now.upper c.requires.within c.requires.upper

pub send-requires-2 : goal.send-requires-2
send-requires-2 g c = ready-to_send (g.S.Sweeping.course c.args.stretch.now) c.args.self.now.done c.args.self.now.lower c.requires.within c.requires.lower
