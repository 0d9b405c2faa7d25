-- `tlp_judge::memory_keeps` meets its contract: each rule by its branch. Assumes nothing.
use Rattle.std.proofs.Common.{rules}
use Rattle.tlp_judge.specs.JudgeLaws.{memory_kept}
use Rattle.tlp_judge.proofs.memory_keeps.Goals as goal

pub returns : goal.returns
returns c = search (rules, memory_kept)
