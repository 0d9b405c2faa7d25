-- What the number of the first rule broken is for each kind: the rules that speak of the kind, in their order. Assumes nothing.
use Rattle.std.specs.Prelude.{Bool, true, false}
use Rattle.pairs.specs.declared.CompletionKind.{CompletionKind}
use Rattle.pairs.specs.declared.CompletionKind.TheVariants.{Cpl, CplD, CplLk, CplDLk}
use Rattle.pairs.specs.declared.MessageKind.{MessageKind}
use Rattle.pairs.specs.declared.MessageKind.TheVariants.{Msg, MsgD}

-- Cpl and CplLk have no Length value
abbrev pub has_no_length : CompletionKind → Bool
has_no_length Cpl = true
has_no_length CplD = false
has_no_length CplLk = true
has_no_length CplDLk = false

-- nor has Msg
abbrev pub is_without_data : MessageKind → Bool
is_without_data Msg = true
is_without_data MsgD = false
