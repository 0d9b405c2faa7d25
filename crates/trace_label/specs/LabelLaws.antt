-- A header's label as the code holds it, by what was read and where the packet goes. Assumes nothing.
use Rattle.std.specs.Prelude.{ℕ, ◌%◌, ◌≡◌, List, ◌++◌}
use Rattle.std.proofs.Common.{sym, ap, ap₂, ◌∙◌, append_assoc}
use native.Mathlib.Omega.{arith}
use Rattle.endian.specs.Endian.{be_bytes}
use Rattle.text.specs.Text.{ascii, decimal}
use Rattle.packet.specs.declared.Packet.{Packet}
use Rattle.packet.specs.Fields.{kind_of}
use Rattle.packet_text.specs.Labels.{kind_text}
use Rattle.tlp.specs.declared.Reading.{Reading}
use Rattle.tlp.specs.declared.Reading.TheVariants.{Accepted, Refused as NotRead}
use Rattle.tlp.specs.Reading.{read_of}
use Rattle.route_answer.specs.declared.Routing.{Routing}
use Rattle.route_answer.specs.declared.Routing.TheVariants.{Refused}
use Rattle.trace_label.specs.declared.Label.{Label}
use Rattle.trace_label.specs.Label.{owner_text, label_with}
use Rattle.trace_label.specs.Word.{name_in, Names, way_text, Labels}

module _ (route : List ℕ → Routing) (header : List ℕ) (reading : Reading) (is_reading : reading ≡ read_of header) where
  label_accepted : (p : Packet) → reading ≡ Accepted p → (routing : Routing) → routing ≡ route header
      → ascii " " ++ (kind_text (kind_of p) ++ owner_text routing) ≡ label_with route header
  unfolding label_with
  label_accepted p e routing routed = rw (sym is_reading ∙ e, routed)

  pub labels_accepted : (p : Packet) → reading ≡ Accepted p → (word : ℕ) → Names word (ascii " " ++ kind_text (kind_of p))
      → (routing : Routing) → routing ≡ route header
      → (l : Label) → (l.name ≡ word) × (way_text l.way l.number ≡ owner_text routing) → Labels l (label_with route header)
  labels_accepted p e word named routing routed l way =
      record {
        is =
            ap₂ ◌++◌ (ap name_in way.0 ∙ named.is) way.1
            ∙ append_assoc (ascii " ") (kind_text (kind_of p)) (owner_text routing)
            ∙ label_accepted p e routing routed;
        few = omega (arith, ap (λ (n : ℕ). n % 256) way.0, named.few);
      }

  label_refused : (n : ℕ) → reading ≡ NotRead n → route header ≡ Refused n → ascii " - refused " ++ decimal n ≡ label_with route header
  unfolding label_with ascii
  label_refused n e refused = rw (sym is_reading ∙ e, refused)

  pub labels_refused : (n : ℕ) → reading ≡ NotRead n → route header ≡ Refused n
      → Labels (record { name = 0x202d000000000002; way = 1; number = n }) (label_with route header)
  unfolding name_in way_text be_bytes ascii
  labels_refused n e refused = record { is = label_refused n e refused; few = omega arith }
