-- `board_record::off_edges` meets its contract: the law of an edge, over any edge. Assumes nothing.
use Rattle.board_record.specs.HostLaws.{edge_last}
use Rattle.board_record.proofs.off_edges.Goals as goal

pub returns : goal.returns
returns c = rw (edge_last c.args.edge c.args.x.last c.requires)
