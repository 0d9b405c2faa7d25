-- How many numbers a packet is. Assumes nothing.
use Rattle.std.specs.Prelude.{◌≡◌, refl, length}
use Rattle.packet.specs.declared.Packet.{Packet}
use Rattle.packet.specs.declared.Packet.TheVariants.{Memory, Io, Config, Completion, Message}
use Rattle.packet_numbers.specs.Numbers.{size, numbers_of}

pub length_numbers_of : (p : Packet) → length (numbers_of p) ≡ size
unfolding numbers_of
length_numbers_of (Memory k h e a) = refl
length_numbers_of (Io k h e a) = refl
length_numbers_of (Config k h e t) = refl
length_numbers_of (Completion k h o) = refl
length_numbers_of (Message k h routing code tail) = refl
