-- A slot's word decides a header's label. Assumes nothing.
use Rattle.std.specs.Prelude.{ℕ, ◌≡◌, refl, List, ◌++◌}
use Rattle.std.proofs.Common.{sym}
use Rattle.text.specs.Text.{ascii}
use Rattle.packet.specs.declared.Packet.{Packet}
use Rattle.packet.specs.Fields.{kind_of}
use Rattle.packet_text.specs.Labels.{kind_text}
use Rattle.tlp.specs.declared.Reading.TheVariants.{Accepted}
use Rattle.tlp.specs.Reading.{read_of}
use Rattle.route_answer.specs.Routing.{answer}
use Rattle.index_search.specs.Search.{outcome_by, search_of}
use Rattle.trace_label.specs.declared.Label.{Label}
use Rattle.trace_label.specs.Label.{owner_text}
use Rattle.trace_label.specs.Word.{Names, way_text, Labels}
use Rattle.trace_label.specs.LabelLaws.{labels_accepted}
use Rattle.index_label.specs.Found.{label_found}

pub labels_found : (index header : List ℕ) (p : Packet) → read_of header ≡ Accepted p
    → (word : ℕ) → search_of header index ≡ answer p (outcome_by word) → (name : ℕ) → Names name (ascii " " ++ kind_text (kind_of p))
    → (l : Label) → (l.name ≡ name) × ((q : Packet) → way_text l.way l.number ≡ owner_text (answer q (outcome_by word)))
    → Labels l (label_found index header)
labels_found index header p read word found name named l way =
    labels_accepted (λ (h : List ℕ). search_of h index) header (read_of header) refl p read name named (answer p (outcome_by word))
    (sym found) l (way.0, way.1 p)
