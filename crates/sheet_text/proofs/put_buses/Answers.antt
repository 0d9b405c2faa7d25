-- `sheet_text::put_buses` meets its contract: of a bridge, the entry's buses are the bytes that were read. Assumes nothing.
use Rattle.sheet_text.proofs.ListingLaws.{buses_of_bridge}
use Rattle.sheet_text.proofs.put_buses.Goals as goal

pub returns : goal.returns
returns c = rw (buses_of_bridge _ c.requires.part_value _ _ _ c.primary_of.ensures c.secondary_of.ensures c.subordinate_of.ensures) c.put_words.ensures
