-- A header's label by an index, whose search says where the packet goes. Assumes nothing.
use Rattle.std.specs.Prelude.{ℕ, List}
use Rattle.index_search.specs.Search.{search_of}
use Rattle.trace_label.specs.Label.{label_with}

abbrev pub label_found : List ℕ → List ℕ → List ℕ
label_found index = label_with (λ (header : List ℕ). search_of header index)
