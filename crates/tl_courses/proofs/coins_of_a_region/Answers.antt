use Rattle.tl_courses.proofs.CoinBits.{coin_bits}
use Rattle.tl_courses.proofs.coins_of_a_region.Goals as goal

pub returns : goal.returns
returns g R l k bits accepted layout = coin_bits R l k bits accepted layout
