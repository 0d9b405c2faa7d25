-- `pairs::kind_named` meets its contract: each arm by the name. Assumes nothing.
use Rattle.pairs.proofs.kind_named.Goals as goal

pub returns-in-MRd : goal.returns-in-MRd
returns-in-MRd c = rw c.in-MRd.is

pub returns-in-MRdLk : goal.returns-in-MRdLk
returns-in-MRdLk c = rw c.in-MRdLk.is

pub returns-in-MWr : goal.returns-in-MWr
returns-in-MWr c = rw c.in-MWr.is

pub returns-in-IORd : goal.returns-in-IORd
returns-in-IORd c = rw c.in-IORd.is

pub returns-in-IOWr : goal.returns-in-IOWr
returns-in-IOWr c = rw c.in-IOWr.is

pub returns-in-CfgRd0 : goal.returns-in-CfgRd0
returns-in-CfgRd0 c = rw c.in-CfgRd0.is

pub returns-in-CfgWr0 : goal.returns-in-CfgWr0
returns-in-CfgWr0 c = rw c.in-CfgWr0.is

pub returns-in-CfgRd1 : goal.returns-in-CfgRd1
returns-in-CfgRd1 c = rw c.in-CfgRd1.is

pub returns-in-CfgWr1 : goal.returns-in-CfgWr1
returns-in-CfgWr1 c = rw c.in-CfgWr1.is

pub returns-in-Cpl : goal.returns-in-Cpl
returns-in-Cpl c = rw c.in-Cpl.is

pub returns-in-CplD : goal.returns-in-CplD
returns-in-CplD c = rw c.in-CplD.is

pub returns-in-CplLk : goal.returns-in-CplLk
returns-in-CplLk c = rw c.in-CplLk.is

pub returns-in-CplDLk : goal.returns-in-CplDLk
returns-in-CplDLk c = rw c.in-CplDLk.is

pub returns-in-MsgToRoot : goal.returns-in-MsgToRoot
returns-in-MsgToRoot c = rw c.in-MsgToRoot.is

pub returns-in-MsgByAddress : goal.returns-in-MsgByAddress
returns-in-MsgByAddress c = rw c.in-MsgByAddress.is

pub returns-in-MsgById : goal.returns-in-MsgById
returns-in-MsgById c = rw c.in-MsgById.is

pub returns-in-MsgBroadcast : goal.returns-in-MsgBroadcast
returns-in-MsgBroadcast c = rw c.in-MsgBroadcast.is

pub returns-in-MsgLocal : goal.returns-in-MsgLocal
returns-in-MsgLocal c = rw c.in-MsgLocal.is

pub returns-in-MsgGathered : goal.returns-in-MsgGathered
returns-in-MsgGathered c = rw c.in-MsgGathered.is

pub returns-in-MsgDToRoot : goal.returns-in-MsgDToRoot
returns-in-MsgDToRoot c = rw c.in-MsgDToRoot.is

pub returns-in-MsgDByAddress : goal.returns-in-MsgDByAddress
returns-in-MsgDByAddress c = rw c.in-MsgDByAddress.is

pub returns-in-MsgDById : goal.returns-in-MsgDById
returns-in-MsgDById c = rw c.in-MsgDById.is

pub returns-in-MsgDBroadcast : goal.returns-in-MsgDBroadcast
returns-in-MsgDBroadcast c = rw c.in-MsgDBroadcast.is

pub returns-in-MsgDLocal : goal.returns-in-MsgDLocal
returns-in-MsgDLocal c = rw c.in-MsgDLocal.is

pub returns-in-MsgDGathered : goal.returns-in-MsgDGathered
returns-in-MsgDGathered c = rw c.in-MsgDGathered.is

pub returns-in-FetchAdd : goal.returns-in-FetchAdd
returns-in-FetchAdd c = rw c.in-FetchAdd.is

pub returns-in-Swap : goal.returns-in-Swap
returns-in-Swap c = rw c.in-Swap.is

pub returns-in-Cas : goal.returns-in-Cas
returns-in-Cas c = rw c.in-Cas.is
