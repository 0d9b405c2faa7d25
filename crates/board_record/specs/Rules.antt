-- The checks of a function record by itself, which one pass over a board asks: of 20, 24 and 25. Assumes nothing.
use Rattle.std.specs.Prelude.{Bool, false, List, ℕ}
use Rattle.board_record.specs.declared.Rule.{Rule}
use Rattle.board_record.specs.declared.Rule.TheVariants.{Length, Header, ReadBacks}
use Rattle.board_record.specs.Function.{is_short, function_of_part, wrong_in, header_wrong, readbacks_wrong}

abbrev pub breaks : Rule → List ℕ → Bool
breaks Length p = is_short p
breaks (Header version) p = wrong_in version p
breaks ReadBacks p = readbacks_wrong (function_of_part p)

-- read-backs are looked at where the header passed its check
abbrev pub too_early : Rule → List ℕ → Bool
too_early Length p = false
too_early (Header version) p = false
too_early ReadBacks p = header_wrong p
