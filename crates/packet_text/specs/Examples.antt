-- Worked examples: a read of P10's board, a configuration write, a completion with data and a message by ID, each with its whole text.
-- Assumes nothing.
use Rattle.std.specs.Prelude.{◌≡◌, refl, true, false, List, [], ◌∷◌, map}
use Prim.Native.String.{String}
use Rattle.text.specs.Text.{ascii, hexadecimal, decimal, decimal_over}
use Rattle.pairs.specs.declared.MemoryKind.TheVariants.{MRd}
use Rattle.pairs.specs.declared.ConfigKind.TheVariants.{CfgWr0}
use Rattle.pairs.specs.declared.CompletionKind.TheVariants.{CplD}
use Rattle.pairs.specs.declared.MessageKind.TheVariants.{MsgD}
use Rattle.pairs.specs.declared.MessageRouting.TheVariants.{ById}
use Rattle.packet.specs.declared.Packet.{Packet}
use Rattle.packet.specs.declared.Packet.TheVariants.{Memory, Config, Completion, Message}
use Rattle.packet_text.specs.Labels.{marks_text, transaction_text, head_text, enables_text, address_text}
use Rattle.packet_text.specs.Labels.{target_text, count_text, outcome_text, content_text, body_text, packet_text}

pub record Row : Type 0 where
  pub packet : Packet
  pub line : String

abbrev pub rows : List Row
rows =
    record {
      packet =
          Memory
          MRd
          (record { form = 3; tc = 0; attr = 0; td = false; ep = false; at = 0; length = 1; requester = 256; tag = 5 })
          (record { last = 0; first = 15 })
          4177530876;
      line = "MRd 3dw tc 0 attr 0 td 0 ep 0 at 0 length 1 requester 0100 tag 005 last 0 first F address 00000000F9000FFC";
    }
    ∷ record {
      packet =
          Config
          CfgWr0
          (record { form = 3; tc = 0; attr = 0; td = true; ep = false; at = 0; length = 1; requester = 0; tag = 255 })
          (record { last = 0; first = 3 })
          (record { id = 256; register = 0x3ff });
      line = "CfgWr0 3dw tc 0 attr 0 td 1 ep 0 at 0 length 1 requester 0000 tag 0FF last 0 first 3 target 0100 register 3FF";
    }
    ∷ record {
      packet =
          Completion
          CplD
          (record { form = 3; tc = 5; attr = 3; td = true; ep = false; at = 0; length = 341; requester = 0xcdef; tag = 1 })
          (record { completer = 0x1234; status = 2; bcm = true; count = 2475; lower = 0x2d });
      line =
          "CplD 3dw tc 5 attr 3 td 1 ep 0 at 0 length 341 requester CDEF tag 001 completer 1234 status 2 bcm 1 count 2475 lower 2D";
    }
    ∷ record {
      packet =
          Message
          MsgD
          (record { form = 4; tc = 0; attr = 0; td = false; ep = false; at = 0; length = 1; requester = 0; tag = 0 })
          ById
          0x7e
          0x0100abcd12345678;
      line = "MsgD 4dw tc 0 attr 0 td 0 ep 0 at 0 length 1 requester 0000 tag 000 routing 2 code 7E tail 0100ABCD12345678";
    }
    ∷ []

pub examples : map (λ r. packet_text r.packet) rows ≡ map (λ r. ascii r.line) rows
unfolding
    hexadecimal decimal decimal_over ascii marks_text transaction_text head_text enables_text address_text
    target_text count_text outcome_text content_text body_text packet_text
examples = refl
