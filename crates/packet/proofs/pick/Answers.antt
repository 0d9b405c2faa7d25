-- `packet::pick` meets its contract. Assumes nothing.
use Rattle.packet.proofs.RulesLaws.{picked}
use Rattle.packet.proofs.pick.Goals as goal

pub returns : goal.returns
returns c = picked c.args.test c.args.x c.args.y
