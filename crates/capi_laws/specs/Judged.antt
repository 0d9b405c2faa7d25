-- cartsundial_judge answers what cartsundial_read does with room for the twenty numbers. Assumes nothing.
use Rattle.std.specs.Prelude.{ℕ, ◌≤◌, ◌≡◌, refl, List, length}
use Rattle.std.proofs.Common.{arith, le-ltb}
use Rattle.packet_numbers.specs.Numbers.{numbers_of}
use Rattle.packet_numbers.specs.NumbersLaws.{length_numbers_of}
use Rattle.tlp.specs.declared.Reading.{Reading}
use Rattle.tlp.specs.declared.Reading.TheVariants.{Accepted, Refused as NotRead}
use Rattle.tlp.specs.Reading.{number_of, read_of}
use Rattle.capi_answers.specs.Answers.{returned}
use Rattle.capi_packet.specs.Calls.{on_reading, read_answer}

pub judged_as_read : (header packet : List ℕ) → 20 ≤ length packet → returned (read_answer header) packet ≡ number_of (read_of header)
judged_as_read header packet room = go (read_of header)
  where
    go : (r : Reading) → returned (on_reading r) packet ≡ number_of r
    go (Accepted p) = rw (le-ltb (length packet) (length (numbers_of p)) (omega (arith, length_numbers_of p)))
    go (NotRead n) = refl
