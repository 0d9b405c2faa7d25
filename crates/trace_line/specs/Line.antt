-- Document 02, E4: "One line comes out per record, as `1 MRd owner 2` or `2 IOWr refused 40`; the kind is as read, a refused header's `-`,
-- a broadcast's owner `all`, form 100's `port`." By document 01's reader, and its router or another routing. Assumes nothing.
use Rattle.std.specs.Prelude.{ℕ, List, ◌++◌}
use Rattle.text.specs.Text.{ascii, decimal}
use Rattle.route_answer.specs.declared.Routing.{Routing}
use Rattle.route.specs.Route.{route_of}
use Rattle.trace_label.specs.Label.{label_with}

-- of record n, whose header `route` takes somewhere
unfoldable pub line_with : (List ℕ → Routing) → ℕ → List ℕ → List ℕ
line_with route n header = decimal n ++ (label_with route header ++ ascii "\n")

-- over a sheet, by the router
unfoldable pub line_over : List ℕ → ℕ → List ℕ → List ℕ
line_over sheet = line_with (λ (header : List ℕ). route_of header sheet)
